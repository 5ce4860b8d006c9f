-- A PREPARE and a COMMIT: the votes and the slot that they are; and the PREPARE that a COMMIT names, behind it.
use Rattle.std.proofs.Common.{◌≡◌, ℕ, ◌<◌, Bool, true, false, refl, sym, ap, subst, ◌∙◌, length, arith, Option, Some, None}
use Rattle.std.specs.Prelude.{get_or}
use Rattle.std.specs.Bool.{then_some}
use Rattle.std.specs.Option.{option_or}
use Rattle.mb_base.specs.Shapes.{Bytes}
use Rattle.mb_base.specs.declared.names.Ui.{Ui}
use Rattle.mb_parts.specs.declared.batch.Batch.{Batch}
use Rattle.mb_parts.specs.declared.floor.Mark.{Mark}
use Rattle.mb_parts.specs.Certificates.{inner_valid}
use Rattle.mb_msg.specs.declared.message.Message.TheVariants as message
use Rattle.mb_msg.specs.declared.normal.Prepare.{Prepare}
use Rattle.mb_msg.specs.declared.normal.Commit.{Commit}
use Rattle.mb_msg.specs.declared.stamped.Stamped.TheVariants as stamped
use Rattle.mb_msg.specs.declared.event.Outcome.{Outcome}
use Rattle.mb_msg.specs.declared.event.Outcome.TheVariants as outcome
use Rattle.mb_msg.specs.AsStamped.{stamped_digest}
use Rattle.mb_msg.specs.Bodies.{whole_body}
use Rattle.mb_msg.specs.Fits.{FitsPrepare}
use Rattle.mb_msg.specs.Stamps.{bare_of, mark_of}
use Rattle.mb_gate.specs.declared.gate.Gate.{Gate}
use Rattle.mb_gate.specs.declared.offer.Offer.{Offer}
use Rattle.mb_model.specs.declared.known.Vote.{Vote}
use Rattle.mb_model.specs.declared.known.KnownSlot.{KnownSlot}
use Rattle.mb_model.specs.Histories.{Accepted, History, Identity}
use Rattle.mb_model.specs.Positions.{counts_at}
use Rattle.mb_model.specs.GateChecks.{valid, is_own_future, gate_refusal}
use Rattle.mb_model.specs.KindChecks.{stamped_refusal}
use Rattle.mb_model.specs.Sending.{Progress, write}
use Rattle.mb_model.specs.Given.{named_prepare, offer_prepare, closing}
use Rattle.mb_steps.specs.Arises.{Arises}
use Rattle.mb_steps.proofs.StepPassed.{passes_stamped}
use Rattle.mb_history_laws.specs.Gates.{refusal_of}
use Rattle.mb_history_laws.proofs.Named.{named_refusal}
use Rattle.mb_history_laws.proofs.Sound.{accepted_adds}
use Rattle.mb_refinement.specs.Tables.{Tables}
use Rattle.mb_refinement.specs.GateCalls.{Judges}
use Rattle.mb_refinement.specs.Positions.{CountsVote, PutsSlot}
use Rattle.mb_refinement.proofs.Gates.{gate_refuses}
use Rattle.mb_refinement.proofs.PositionsVoted.{prepare_counts, prepare_does_not_count, commit_counts, commit_does_not_count}
use Rattle.mb_replica.specs.declared.state.ReplicaState.{ReplicaState}
use Rattle.mb_replica.specs.Represents.{Represents}
use Rattle.mb_replica.specs.Between.{WritesNormal, AwaitsGate, BehindCommit}
use Rattle.mb_replica.proofs.Accepted.{same_again}
use Rattle.mb_replica.proofs.Accepting.{marked, votes_await, prepare_speaks, commit_speaks}
use Rattle.mb_replica.proofs.Places.{stored}

-- the vote and the slot that the code makes of a digest
abbrev pub vote_of : ℕ → Bytes → Vote
vote_of counter digest = record { counter = counter; request = digest }

abbrev pub slot_of : Ui → Bytes → Option Batch → KnownSlot
slot_of ui digest batch = record { counter = ui.counter; cert = ui.cert; digest = digest; batch = batch }

-- A PREPARE has no certificates in it.
inner_of_prepare : {S : Type 0} (self : Identity S) (p : Prepare) → inner_valid self.shape (valid self) (bare_of (stamped.Prepare p)) ≡ true
unfolding inner_valid
inner_of_prepare self p = refl

-- A PREPARE that is offered is accepted, or closes its gate, or is passed over.
module _ {S : Type 0} (self : Identity S) where
  pub offered_none : (m : Prepare) (x : Progress) → stamped_refusal self x.history (stamped.Prepare m) ≡ None → offer_prepare self m x ≡ write (Accepted (message.Prepare m)) x
  unfolding offer_prepare
  offered_none m x none = rw none refl

  pub offered_some : (m : Prepare) (o : Outcome) (x : Progress) → stamped_refusal self x.history (stamped.Prepare m) ≡ Some o → offer_prepare self m x ≡ closing o m.ui x
  unfolding offer_prepare
  offered_some m o x some = rw some refl

module _ {V : Type 0} where
  pub nothing_written : (r : ReplicaState V) → WritesNormal r r
  nothing_written r = record { same = record { shape = refl; host = refl; secret = refl }; tables = refl }

  pub normal_again : (a b c : ReplicaState V) → WritesNormal a b → WritesNormal b c → WritesNormal a c
  normal_again a b c first second = record {
    same = same_again a b c first.same second.same;
    tables = second.tables ∙ ap (λ (t : Tables V). record t { normal = c.protocol.normal }) first.tables;
  }

  module _ (me : Identity V) (old : ReplicaState V) (d : History) (r : Represents me old d) where
    -- ---- PREPARE

    module _ (m : Prepare) (none : stamped_refusal me d (stamped.Prepare m) ≡ None) where
      pub prepare_counted : (voted new : ReplicaState V) (digest : Bytes) (batch : Option Batch) → counts_at me d m.view m.pos ≡ true → digest ≡ stamped_digest (stamped.Prepare m) → batch ≡ whole_body m.body
          → CountsVote old.protocol.normal voted.protocol.normal m.pos m.ui.host (vote_of m.ui.counter digest) → WritesNormal old voted
          → PutsSlot voted.protocol.normal new.protocol.normal m.pos (slot_of m.ui digest batch) → WritesNormal voted new → AwaitsGate me old new (stamped.Prepare m) d
      prepare_counted voted new digest batch counts is whole votes first puts second =
          votes_await me old new (stamped.Prepare m) d r none (prepare_speaks m) (normal_again old voted new first second)
          (prepare_counts me m d old.protocol.normal voted.protocol.normal new.protocol.normal (accepted_adds me (stamped.Prepare m) d none, r.tables.sound.arises) counts
          (subst (λ (b : Bytes). CountsVote old.protocol.normal voted.protocol.normal m.pos m.ui.host (vote_of m.ui.counter b)) is votes)
          (subst (λ (b : Bytes). PutsSlot voted.protocol.normal new.protocol.normal m.pos (slot_of m.ui b (whole_body m.body))) is
          (subst (λ (o : Option Batch). PutsSlot voted.protocol.normal new.protocol.normal m.pos (slot_of m.ui digest o)) whole puts))
          r.tables.normal)

      pub prepare_passed_over : counts_at me d m.view m.pos ≡ false → AwaitsGate me old old (stamped.Prepare m) d
      prepare_passed_over not_so =
          votes_await me old old (stamped.Prepare m) d r none (prepare_speaks m) (nothing_written old)
          (prepare_does_not_count me m d old.protocol.normal (accepted_adds me (stamped.Prepare m) d none, r.tables.sound.arises) not_so r.tables.normal)

    -- ---- COMMIT

    module _ (m : Commit) (none : stamped_refusal me d (stamped.Commit m) ≡ None) where
      pub commit_counted : (new : ReplicaState V) (digest : Bytes) → counts_at me d m.view m.pos ≡ true → digest ≡ stamped_digest (stamped.Commit m)
          → CountsVote old.protocol.normal new.protocol.normal m.pos m.ui.host (vote_of m.counter digest) → WritesNormal old new → AwaitsGate me old new (stamped.Commit m) d
      commit_counted new digest counts is votes w =
          votes_await me old new (stamped.Commit m) d r none (commit_speaks m) w
          (commit_counts me m d old.protocol.normal new.protocol.normal (accepted_adds me (stamped.Commit m) d none, r.tables.sound.arises) counts
          (subst (λ (b : Bytes). CountsVote old.protocol.normal new.protocol.normal m.pos m.ui.host (vote_of m.counter b)) is votes) r.tables.normal)

      pub commit_passed_over : counts_at me d m.view m.pos ≡ false → AwaitsGate me old old (stamped.Commit m) d
      commit_passed_over not_so =
          votes_await me old old (stamped.Commit m) d r none (commit_speaks m) (nothing_written old)
          (commit_does_not_count me m d old.protocol.normal (accepted_adds me (stamped.Commit m) d none, r.tables.sound.arises) not_so r.tables.normal)

    -- ---- the PREPARE that it names

    module _ (m : Commit) (behind : BehindCommit me m d) where
      -- It is refused by its counter or its sender's gate, or not at all.
      pub named_refused : stamped_refusal me d (stamped.Prepare (named_prepare me m))
          ≡ option_or (then_some (is_own_future me d (named_prepare me m).ui) outcome.Idle) (gate_refusal me d (stamped.Prepare (named_prepare me m)))
      named_refused =
          subst (λ (x : History). stamped_refusal me x (stamped.Prepare (named_prepare me m)) ≡ option_or (then_some (is_own_future me x (named_prepare me m).ui) outcome.Idle) (gate_refusal me x (stamped.Prepare (named_prepare me m)))) (sym behind.is)
          (named_refusal me m behind.before (subst (λ (x : History). Arises me x) behind.is r.tables.sound.arises) behind.casts
          (passes_stamped me behind.before (stamped.Commit m) behind.passed))

      pub future_refused : (p : Prepare) → p ≡ named_prepare me m → is_own_future me d p.ui ≡ true → Some outcome.Idle ≡ stamped_refusal me d (stamped.Prepare p)
      future_refused p is future = subst (λ (x : Prepare). (is_own_future me d x.ui ≡ true) → Some outcome.Idle ≡ stamped_refusal me d (stamped.Prepare x)) (sym is) (λ f. sym (named_refused ∙ rw f refl)) future

      pub gate_answers : (p : Prepare) (mark : Mark) → p ≡ named_prepare me m → is_own_future me d p.ui ≡ false → FitsPrepare old.protocol.shape p → mark ≡ mark_of (stamped.Prepare p) → (at : ℕ) (gate : Gate) (o : Offer) → at ≡ p.ui.host
          → gate ≡ get_or old.protocol.gates.items at gate → Judges gate mark true o → refusal_of o ≡ stamped_refusal me d (stamped.Prepare p)
      gate_answers p mark is not_future fits mark_is at gate o same read judges =
          let count = old.protocol.gates_len in
          let host = fits.ui.host in
          let lt : p.ui.host < length old.protocol.gates.items = omega (arith, count, host) in
          let stands = r.tables.gates.each p.ui.host gate (stored old.protocol.gates.items p.ui.host at gate same lt read) in
          let refuses : gate_refusal me d (stamped.Prepare p) ≡ refusal_of o = gate_refuses me d (stamped.Prepare p) mark gate o stands (marked mark (stamped.Prepare p) mark_is)
          (subst (λ (b : Bool). Judges gate mark b o) (sym (inner_of_prepare me p)) judges) in
          let named : stamped_refusal me d (stamped.Prepare p) ≡ option_or (then_some (is_own_future me d p.ui) outcome.Idle) (gate_refusal me d (stamped.Prepare p)) =
          subst (λ (x : Prepare). stamped_refusal me d (stamped.Prepare x) ≡ option_or (then_some (is_own_future me d x.ui) outcome.Idle) (gate_refusal me d (stamped.Prepare x))) (sym is) named_refused in
          sym (named ∙ ap (λ (b : Bool). option_or (then_some b outcome.Idle) (gate_refusal me d (stamped.Prepare p))) not_future ∙ refuses)
