-- What all hosts stamped decides one batch for each position.
--
-- A committed vote names the message that orders its position, and there is one (`one_vote`). What is committed in a view above 0 is behind the
-- base of that view's plan, and within the plan it is the plan's (`committed_in_plan`). So what is committed at one position in two views is the
-- same: what is committed in the lower one is in the plan of the higher one, as nothing is committed at or below its base (`one_batch`).
use Rattle.std.proofs.Common.{◌≡◌, ℕ, ◌<◌, Bool, true, List, [], refl, sym, ap, ◌∙◌, inl, inr, arith}
use Rattle.std.proofs.lemmas.Bool.{cases_order}
use Rattle.std.proofs.lemmas.Option.{same_Some}
use Rattle.mb_base.specs.declared.shape.Shape.{Shape}
use Rattle.mb_base.specs.Shapes.{Bytes, host_count}
use Rattle.mb_parts.specs.declared.certificates.Evidence.{Evidence}
use Rattle.mb_parts.specs.Bares.{Bare}
use Rattle.mb_parts.specs.Claims.{Claim}
use Rattle.mb_parts.specs.Certificates.{is_evidence}
use Rattle.mb_model.specs.declared.known.Vote.{Vote}
use Rattle.mb_model.specs.Committed.{Plans, vote_in, IsCommitted}
use Rattle.mb_model.specs.Votes.{is_vote}
use Rattle.mb_agreement.specs.Agreement.{IsConsistentRecord, OneVote, CommittedInPlan, OneBatch, Agrees}
use Rattle.mb_model.proofs.Quorums.{tally_some}
use Rattle.mb_agreement.proofs.WholeLists.{vote_placed, planned_within}
use Rattle.mb_agreement.proofs.ShownOpenings.{opened_list}
use Rattle.mb_agreement.proofs.Leading.{names, one_order, Orders, one_evidence, one_new_view, order_in_plan}
use Rattle.mb_agreement.proofs.Stays.{committed_stays, leads_bound, is_vote_is, same_parts}

module _ (s : Shape) (secret : Bytes) (plans : Plans) (issued : Claim → Bool) (prefix : ℕ → List Bare) (facts : IsConsistentRecord s secret plans issued prefix) where
  -- the vote that is committed names the message that orders the position
  committed_order : (v p : ℕ) (z : Vote) → IsCommitted plans s prefix v p z → Orders s secret plans issued prefix facts v p z.counter z.request
  committed_order v p z c =
      let g = tally_some (λ h. is_vote (vote_in plans (prefix h) v p) z) (host_count s) (omega (arith, c.voted)) in
      names s secret plans issued prefix facts g.0 (prefix g.0) [] v p z refl (facts.ordered g.0) (is_vote_is _ z g.2) (leads_bound s secret plans issued prefix facts v z.counter c.led)

  -- one position of one view has one committed vote
  pub one_vote : OneVote s secret plans issued prefix
  one_vote v p x y a b =
      let same = one_order s secret plans issued prefix facts v p x.counter y.counter x.request y.request (committed_order v p x a) (committed_order v p y b) in
      same_parts x.counter y.counter x.request y.request same.0 same.1

  pub committed_in_plan : CommittedInPlan s secret plans issued prefix
  committed_in_plan v p x e c ok same above =
      order_in_plan s secret plans issued prefix facts v p x.counter x.request e (committed_order v p x c) ok same above

  -- a view above 0 in which something is committed was opened by an evidence
  committed_opened : (v p : ℕ) (z : Vote) → IsCommitted plans s prefix v p z → 0 < v → (e : Evidence) × (is_evidence s issued e ≡ true) × (e.view ≡ v)
  committed_opened v p z c above =
      let g = tally_some (λ h. is_vote (vote_in plans (prefix h) v p) z) (host_count s) (omega (arith, c.voted)) in
      let placed = vote_placed s secret plans issued prefix facts g.0 (prefix g.0) v p z (is_vote_is _ z g.2) (facts.ordered g.0) in
      let by = opened_list s secret plans issued prefix facts g.0 0 [] (prefix g.0) v (facts.ordered g.0) above placed.opened in
      (by.0, by.1.ok, by.1.view)

  lower_first : (v w p : ℕ) (x y : Vote) → v < w → IsCommitted plans s prefix v p x → IsCommitted plans s prefix w p y → x.request ≡ y.request
  lower_first v w p x y lt a b =
      let e = committed_opened w p y b (omega arith) in
      let inside = committed_in_plan w p y e.0 b e.1 e.2 (omega arith) in
      elim (committed_stays s secret plans issued prefix facts v p x e.0 a e.1 (omega (arith, e.2))) [
        | inl low ↦ absurd (omega (arith, inside.0))
        | inr planned_there ↦
            let within = planned_within s secret plans issued prefix facts e.0 p x.request e.1 planned_there in
            same_Some x.request y.request (sym planned_there ∙ inside.1 within.1)
      ]

  -- one position has one committed batch
  pub one_batch : OneBatch s secret plans issued prefix
  one_batch v w p x y a b = elim (cases_order v w) [
    | inl same ↦ ap (λ (z : Vote). z.request) (one_vote v p x y a (rw same b))
    | inr (inl less) ↦ lower_first v w p x y less a b
    | inr (inr more) ↦ sym (lower_first w v p y x more b a)
  ]

  -- the whole of the agreement
  pub agrees : Agrees s secret plans issued prefix
  agrees = record {
    one_evidence = one_evidence s secret plans issued prefix facts;
    one_new_view = one_new_view s secret plans issued prefix facts;
    one_vote = one_vote;
    committed_stays = committed_stays s secret plans issued prefix facts;
    committed_in_plan = committed_in_plan;
    one_batch = one_batch;
  }
