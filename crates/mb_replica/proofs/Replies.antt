-- The stored reply of a client, as the table tells it.
use Rattle.std.proofs.Common.{◌≡◌, ◌≤◌, ◌∙◌, ℕ, Bool, true, false, refl, ap, arith, Some, None}
use Rattle.std.specs.Prelude.{◌==◌, if◌then◌else◌}
use Rattle.std.proofs.lemmas.Bool.{eqb-true}
use Rattle.mb_base.specs.Shapes.{Bytes}
use Rattle.mb_msg.specs.declared.message.Message.{Message}
use Rattle.mb_model.specs.declared.known.LastReply.{LastReply}
use Rattle.mb_model.specs.Service.{Served as ServedState, reply_of}
use Rattle.mb_model.specs.Histories.{History, Identity}
use Rattle.mb_model.specs.Execution.{state_of}
use Rattle.mb_model.specs.PlainChecks.{last_seq}
use Rattle.mb_model.specs.Making.{reply}
use Rattle.mb_model.specs.Given.{stored_reply}
use Rattle.mb_cache.specs.Tables.{last_of}
use Rattle.mb_cache.specs.Answers.{told}
use Rattle.mb_replica.specs.declared.state.ReplicaState.{ReplicaState}
use Rattle.mb_replica.specs.Represents.{Represents}

abbrev pub Told : Type 0
Told = ℕ × (ℕ × Bytes)

abbrev told_of : LastReply → Told
told_of last = (last.seq, (last.pos, last.result))

abbrev reply_as : Told → LastReply
reply_as t = record { seq = t.0; pos = t.1.0; result = t.1.1 }

told_as : (b : Bool) (last : LastReply) (t : Told) → Some t ≡ (if b then None else Some (told_of last)) → reply_as t ≡ last
told_as true last t is = absurd cc
told_as false last t is = let same : t ≡ told_of last = cc in ap reply_as same

none_told : (b : Bool) (last : LastReply) → (last.seq == 0) ≡ b → None ≡ (if b then None else Some (told_of last)) → last.seq ≡ 0
none_told true last is none = eqb-true last.seq 0 is
none_told false last is none = absurd cc

module _ {V : Type 0} (me : Identity V) (r : ReplicaState V) (d : History) (rep : Represents me r d) (client : ℕ) where
  last_is : last_of r.keeper.served.table client ≡ reply_of (state_of me d) client
  last_is = ap (λ (y : ServedState V). reply_of y client) rep.tables.service

  -- It is what the table tells.
  pub reply_told : (seq pos : ℕ) (answer : Bytes) → (let t : Told = (seq, (pos, answer)) in Some t ≡ told (last_of r.keeper.served.table client)) → (m : Message) → m ≡ reply me client (record { seq = seq; pos = pos; result = answer }) → m ≡ stored_reply me d client
  reply_told seq pos answer is m made =
      made ∙ ap (reply me client) (told_as (((last_of r.keeper.served.table client).seq) == 0) (last_of r.keeper.served.table client) (seq, (pos, answer)) is ∙ last_is)

  -- Where it tells none, there was no request yet.
  pub never_told : None ≡ told (last_of r.keeper.served.table client) → 1 ≤ last_seq me d client → ⊥
  never_told none some =
      let zero = none_told (((last_of r.keeper.served.table client).seq) == 0) (last_of r.keeper.served.table client) refl none in
      omega (arith, some, zero, ap (λ (a : LastReply). a.seq) last_is)
