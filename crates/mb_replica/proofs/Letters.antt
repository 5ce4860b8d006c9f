-- What a host sends where it answers or asks has the values of the grammar.
use Rattle.std.proofs.Common.{◌≡◌, ◌<◌, ◌≤◌, ℕ, true, List, Some, sym, ap, subst, arith}
use Rattle.std.proofs.lemmas.Bool.{lt-ltb, ltb-true}
use Rattle.mb_base.specs.Limits.{table_part}
use Rattle.mb_base.specs.declared.shape.Shape.{Shape}
use Rattle.mb_base.specs.Shapes.{Bytes}
use Rattle.mb_parts.specs.Fits.{IsBase}
use Rattle.mb_parts.specs.declared.certificates.StableCert.{StableCert}
use Rattle.mb_msg.specs.declared.message.Message.{Message}
use Rattle.mb_msg.specs.declared.transfer.Resend.{Resend}
use Rattle.mb_msg.specs.Fits.{Fits}
use Rattle.mb_model.specs.Histories.{History, Identity}
use Rattle.mb_model.specs.Stable.{low_of}
use Rattle.mb_model.specs.Positions.{exec_of, is_behind}
use Rattle.mb_model.specs.Execution.{snapshot_of}
use Rattle.mb_model.specs.Making.{log_for, resend, fetch, state_message}
use Rattle.mb_model.proofs.ShapesFit.{shape_fits}
use Rattle.mb_encodable.proofs.Messages.{snapshot_many}
use Rattle.mb_encodable.proofs.Letters.{log_sent, resend_sent, state_sent}
use Rattle.mb_encodable.proofs.Answers.{behind_sent}
use Rattle.mb_executor.specs.Keeping.{AreShort}
use Rattle.mb_replica.specs.declared.state.ReplicaState.{ReplicaState}
use Rattle.mb_replica.specs.Represents.{Represents}
use Rattle.mb_replica.proofs.Entries.{is_there}

module _ {V : Type 0} (me : Identity V) (r : ReplicaState V) (d : History) (rep : Represents me r d) where
  -- A message that has the values for the host that the replica is of.
  of_host : (m n : Message) → m ≡ n → Fits me.shape n → Fits r.protocol.shape m
  of_host m n is f = subst (λ (s : Shape). Fits s m) rep.who.shape (subst (Fits me.shape) (sym is) f)

  pub log_fits : (m : Resend) (says : Message) → says ≡ log_for me d m → Fits r.protocol.shape says
  log_fits m says is = of_host says (log_for me d m) is (log_sent me (shape_fits me.shape) (is_there me r rep.who) d rep.tables.sound rep.fit m)

  pub resend_fits : (says : Message) → says ≡ resend me d → Fits r.protocol.shape says
  resend_fits says is = of_host says (resend me d) is (resend_sent me (shape_fits me.shape) (is_there me r rep.who) d rep.tables.sound rep.fit)

  -- of a host that is behind
  pub behind_is : r.protocol.exec < r.protocol.stable.pos → is_behind me d ≡ true
  behind_is lt =
      let exec : r.protocol.exec ≡ exec_of d = rep.tables.exec in
      let low : r.protocol.stable.pos ≡ low_of me d = ap (λ (c : StableCert). c.pos) rep.tables.stable in
      lt-ltb (exec_of d) (low_of me d) (subst (λ (n : ℕ). n < low_of me d) exec (subst (λ (n : ℕ). r.protocol.exec < n) low lt))

  pub behind_here : is_behind me d ≡ true → r.protocol.exec < r.protocol.stable.pos
  behind_here behind =
      let lt = ltb-true (exec_of d) (low_of me d) behind in
      omega (arith, lt, rep.tables.exec, ap (λ (c : StableCert). c.pos) rep.tables.stable)

  pub fetch_fits : r.protocol.exec < r.protocol.stable.pos → (says : Message) → says ≡ fetch me d → Fits r.protocol.shape says
  fetch_fits lt says is = of_host says (fetch me d) is (behind_sent me (shape_fits me.shape) (is_there me r rep.who) d (behind_is lt) rep.tables.sound rep.fit)

  -- the STATE of a snapshot that was kept
  pub state_fits : (pos first : ℕ) (parts : List Bytes) → (1 ≤ pos) × IsBase r.protocol.shape pos → first ≤ table_part → snapshot_of me d pos ≡ Some parts → AreShort parts → (says : Message) → says ≡ state_message me pos first parts → Fits r.protocol.shape says
  state_fits pos first parts base within kept short says is =
      let there = is_there me r rep.who in
      of_host says (state_message me pos first parts) is (state_sent me (shape_fits me.shape) there pos first parts (subst (λ (s : Shape). (1 ≤ pos) × IsBase s pos) (sym rep.who.shape) base) within (snapshot_many me there d pos parts kept) short)
