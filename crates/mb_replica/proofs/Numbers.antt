-- What the number of a request says, by the client table and the pending request, is what the history says.
use Rattle.std.proofs.Common.{◌≡◌, ◌<◌, ℕ, Bool, false, Option, Some, refl, ap, subst, inl, inr, arith}
use Rattle.std.specs.Prelude.{◌==◌, nat_lt}
use Rattle.std.specs.Bool.{then_some}
use Rattle.std.specs.Option.{option_or}
use Rattle.std.proofs.lemmas.Bool.{cases_Bool, ne_eqb, eqb-false, ltb-true, lt-ltb}
use Rattle.mb_parts.specs.declared.request.Request.{Request}
use Rattle.mb_msg.specs.declared.event.Outcome.{Outcome}
use Rattle.mb_msg.specs.declared.event.Outcome.TheVariants as outcome
use Rattle.mb_model.specs.declared.known.LastReply.{LastReply}
use Rattle.mb_model.specs.Histories.{History, Identity}
use Rattle.mb_model.specs.Service.{Served, reply_of}
use Rattle.mb_model.specs.Execution.{state_of, pending}
use Rattle.mb_model.specs.PlainChecks.{number_refusal, is_behind_pending, last_seq}
use Rattle.mb_cache.specs.declared.accept.Accept.{Accept}
use Rattle.mb_cache.specs.declared.accept.Accept.TheVariants.{Fresh, Old, Again}
use Rattle.mb_cache.specs.Answers.{Accepts}
use Rattle.mb_cache.specs.Tables.{last_of}
use Rattle.mb_replica.specs.declared.state.ReplicaState.{ReplicaState}
use Rattle.mb_replica.specs.Represents.{Represents}

-- the refusal of a number, beside the last one
abbrev refused : ℕ → ℕ → Bool → Option Outcome
refused last seq behind = option_or (then_some (nat_lt seq last) (outcome.Old last)) (option_or (then_some (seq == last) outcome.Again) (then_some behind outcome.Idle))

not_below : (last seq : ℕ) → (seq < last → ⊥) → nat_lt seq last ≡ false
not_below last seq other = elim (cases_Bool (nat_lt seq last)) [
  | inl lt ↦ absurd (other (ltb-true seq last lt))
  | inr ge ↦ ge
]

old_is : (last seq number : ℕ) (behind : Bool) → seq < last → number ≡ last → Some (outcome.Old number) ≡ refused last seq behind
old_is last seq number behind lt is = rw (is, lt-ltb seq last lt) refl

again_is : (last seq : ℕ) (behind : Bool) → seq ≡ last → Some outcome.Again ≡ refused last seq behind
again_is last seq behind same = elim (cases_Bool (seq == last)) [
  | inl eq ↦ rw (not_below last seq (λ lt. omega (arith, lt, same)), eq) refl
  | inr ne ↦ absurd (eqb-false seq last ne same)
]

fresh_is : (last seq : ℕ) (behind : Bool) → last < seq → then_some behind outcome.Idle ≡ refused last seq behind
fresh_is last seq behind above = rw (not_below last seq (λ lt. omega (arith, lt, above)), ne_eqb seq last (λ e. omega (arith, e, above))) refl

module _ {V : Type 0} (me : Identity V) (r : ReplicaState V) (d : History) (rep : Represents me r d) (q : Request) where
  abbrev pub said : Accept → Option Outcome
  said (Old number) = Some (outcome.Old number)
  said (Again pos) = Some outcome.Again
  said Fresh = then_some (is_behind_pending (pending me d q.client) q) outcome.Idle

  by_answer : (n : Accept) → Accepts (reply_of (state_of me d) q.client) q.seq n → said n ≡ number_refusal me d q
  unfolding number_refusal
  by_answer (Old number) a = old_is (last_seq me d q.client) q.seq number (is_behind_pending (pending me d q.client) q) a.0 a.1
  by_answer (Again pos) a = again_is (last_seq me d q.client) q.seq (is_behind_pending (pending me d q.client) q) a.0
  by_answer Fresh a = fresh_is (last_seq me d q.client) q.seq (is_behind_pending (pending me d q.client) q) a

  pub number_refused : (n : Accept) → Accepts (last_of r.keeper.served.table q.client) q.seq n → said n ≡ number_refusal me d q
  number_refused n a = by_answer n (subst (λ (l : LastReply). Accepts l q.seq n) (ap (λ (x : Served V). reply_of x q.client) rep.tables.service) a)
