-- What the gate of its sender says of a given message, as the history does.
use Rattle.std.proofs.Common.{◌≡◌, ◌<◌, ◌≤◌, ◌∙◌, ℕ, Bool, true, Option, Some, None, refl, ap, sym, subst, inl, inr, length, arith}
use Rattle.std.specs.Prelude.{get_or, nat_le}
use Rattle.std.proofs.lemmas.Bool.{cases_Bool, leb-true, le-leb}
use Rattle.mb_base.specs.declared.shape.Shape.{Shape}
use Rattle.mb_base.specs.declared.names.Ui.{Ui}
use Rattle.mb_base.specs.Shapes.{host_count}
use Rattle.mb_parts.specs.declared.floor.Floor.{Floor}
use Rattle.mb_parts.specs.declared.floor.Mark.{Mark}
use Rattle.mb_parts.specs.Certificates.{inner_valid}
use Rattle.mb_msg.specs.declared.stamped.Stamped.{Stamped as StampedMessage}
use Rattle.mb_msg.specs.declared.stamped.Stamped.TheVariants as stamped
use Rattle.mb_msg.specs.Stamps.{bare_of, ui_of}
use Rattle.mb_msg.specs.Fits.{FitsStamped}
use Rattle.mb_gate.specs.declared.gate.Gate.{Gate}
use Rattle.mb_gate.specs.declared.offer.Offer.{Offer}
use Rattle.mb_gate.specs.declared.offer.Offer.TheVariants as offer
use Rattle.mb_gate.specs.Represents.{Represents as GateRepresents}
use Rattle.mb_model.specs.Histories.{History, Identity, floor_below}
use Rattle.mb_model.specs.Making.{if_covered}
use Rattle.mb_model.specs.GateChecks.{valid, gate_refusal}
use Rattle.mb_history_laws.specs.Gates.{log_of, refusal_of}
use Rattle.mb_refinement.specs.GateCalls.{Marks, Judges, HasFloor}
use Rattle.mb_refinement.proofs.Gates.{mark_says, gate_refuses, gate_refuses_early, gate_floor}
use Rattle.mb_replica.specs.declared.arrival.Arrival.{Arrival}
use Rattle.mb_replica.specs.declared.state.ReplicaState.{ReplicaState}
use Rattle.mb_replica.specs.Arrivals.{IsArrival}
use Rattle.mb_replica.specs.Represents.{Represents}
use Rattle.mb_replica.proofs.Places.{stored}

-- The sender is one of the hosts.
pub sender_fits : (s : Shape) (m : StampedMessage) → FitsStamped s m → (ui_of m).host < host_count s
sender_fits s (stamped.Prepare m) f = f.ui.host
sender_fits s (stamped.Commit m) f = f.ui.host
sender_fits s (stamped.Checkpoint m) f = f.ui.host
sender_fits s (stamped.ViewChange m) f = f.ui.host
sender_fits s (stamped.NewView m) f = f.ui.host
sender_fits s (stamped.Enter m) f = f.ui.host
sender_fits s (stamped.Open m) f = f.ui.host
sender_fits s (stamped.Join m) f = f.ui.host

module _ {V : Type 0} (me : Identity V) (r : ReplicaState V) (d : History) (rep : Represents me r d) (a : Arrival) (is : IsArrival r.protocol.shape a) where
  marked : Marks a.mark a.message
  marked = subst (λ (k : Mark). Marks k a.message) (sym is.mark) (mark_says a.message)

  module _ (at : ℕ) (gate : Gate) (same : at ≡ a.ui.host) (read : gate ≡ get_or r.protocol.gates.items at gate) where
    -- The gate that is asked is that of the sender.
    stands : GateRepresents gate (log_of me d (ui_of a.message).host)
    stands =
        let fits = sender_fits r.protocol.shape a.message is.fits in
        let count = r.protocol.gates_len in
        let lt : (ui_of a.message).host < length r.protocol.gates.items = omega (arith, count, fits) in
        rep.tables.gates.each (ui_of a.message).host gate (stored r.protocol.gates.items (ui_of a.message).host at gate (same ∙ ap (λ (u : Ui). u.host) is.ui) lt read)

    pub refuses : (inner : Bool) (o : Offer) → inner ≡ inner_valid me.shape (valid me) (bare_of a.message) → Judges gate a.mark inner o → refusal_of o ≡ gate_refusal me d a.message
    refuses inner o verified judges =
        sym (gate_refuses me d a.message a.mark gate o stands marked (subst (λ (b : Bool). Judges gate a.mark b o) verified judges))

    -- also before the certificates in it are checked
    pub refuses_early : (o : Offer) → Judges gate a.mark true o → (o ≡ offer.Next → ⊥) → refusal_of o ≡ gate_refusal me d a.message
    refuses_early o judges other = sym (gate_refuses_early me d a.message a.mark gate o stands marked judges other)

-- ---- the floor of a host below a position

pub covered : (pos : ℕ) (f : Floor) → f.top ≤ pos → Some f ≡ if_covered pos (Some f)
covered pos f le = rw (le-leb f.top pos le) refl

pub uncovered : (pos : ℕ) (f : Floor) → (f.top ≤ pos → ⊥) → None ≡ if_covered pos (Some f)
uncovered pos f not_so = elim (cases_Bool (nat_le f.top pos)) [
  | inl le ↦ absurd (not_so (leb-true f.top pos le))
  | inr above ↦ rw above refl
]

pub floor_told : {V : Type 0} (me : Identity V) (r : ReplicaState V) (d : History) → Represents me r d → (host pos at : ℕ) (gate : Gate) → at ≡ host → host < host_count r.protocol.shape
    → gate ≡ get_or r.protocol.gates.items at gate → (found : Option Floor) → HasFloor gate pos found → found ≡ floor_below d host pos
floor_told me r d rep host pos at gate same fits read found has =
    let count = r.protocol.gates_len in
    let lt : host < length r.protocol.gates.items = omega (arith, count, fits) in
    gate_floor me d host pos gate found rep.tables.sound (rep.tables.gates.each host gate (stored r.protocol.gates.items host at gate same lt read)) has
