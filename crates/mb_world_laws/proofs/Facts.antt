-- What is known of a world before its agreement is shown: how each history arose and what it rests on, that what was delivered has the values of the
-- grammar, and that what correct hosts stamped has them, with certificates that were issued.
use Rattle.std.proofs.Common.{◌≡◌, ℕ, ◌≤◌, true, [], Some}
use Rattle.std.specs.List.{AllByRecursion}
use Rattle.mb_base.specs.Shapes.{tally, host_count, max_faults}
use Rattle.mb_base.specs.Shapes.{IsShape}
use Rattle.mb_parts.specs.Bares.{Bare}
use Rattle.mb_parts.specs.Claims.{inner_claims}
use Rattle.mb_parts.specs.CheckedCertificates.{Carries}
use Rattle.mb_parts.specs.Fits.{FitsBare}
use Rattle.mb_msg.specs.declared.message.Message.{Message}
use Rattle.mb_parts.specs.declared.certificates.FloorCert.{FloorCert}
use Rattle.mb_msg.specs.declared.message.Body.TheVariants.{Whole}
use Rattle.mb_msg.specs.declared.change.ChangeBody.{ChangeBody}
use Rattle.mb_msg.specs.declared.change.ViewChange.{ViewChange}
use Rattle.mb_msg.specs.declared.normal.Checkpoint.{Checkpoint}
use Rattle.mb_msg.specs.declared.stamped.Stamped.TheVariants as stamped_message
use Rattle.mb_msg.specs.Bodies.{FitsBody}
use Rattle.mb_msg.specs.Fits.{FitsFields, FitsFloorsBody}
use Rattle.mb_model.specs.Members.{In}
use Rattle.mb_model.specs.CarriedLogs.{log_claims}
use Rattle.mb_model.specs.Verified.{verifies}
use Rattle.mb_model.specs.Histories.{said, stamped}
use Rattle.mb_steps.specs.OwnLists.{AreNumbered}
use Rattle.mb_steps.specs.Arises.{Arises}
use Rattle.mb_world_model.specs.Hashed.{HashesApart}
use Rattle.mb_model.specs.Inside.{floor_bodies}
use Rattle.mb_schedule.specs.declared.schedule.Schedule.{Schedule}
use Rattle.mb_schedule.specs.Limits.{is_faulty}
use Rattle.mb_world_model.specs.WorldEvents.{IsCorrect}
use Rattle.mb_world_model.specs.World.{World, System, self_of, stamps}
use Rattle.mb_world_model.specs.WorldRecord.{issued}
use Rattle.mb_world_laws.proofs.Grown.{IsGivenTo, IsHashed}
use Rattle.mb_world_laws.proofs.Standings.{Standing}
use Rattle.mb_host_laws.proofs.PlanFits.{FitsBases}

-- What a VIEW_CHANGE shows is known: its certificates carry over from tags that verify to what was issued, it has the values of the grammar, and the
-- floors that its floor certificate shows are hashed.
pub record IsKnownBody (s : Schedule) (w : World) (host : ℕ) (b : ChangeBody) : Type 0 where
  pub claims : Carries (verifies s.secret) (issued s w) (log_claims s.shape host b)
  pub fits : FitsBases s.shape b
  pub floors : (c : FloorCert) → b.floor ≡ Some c → AllByRecursion (IsHashed s w) (floor_bodies c)

module _ {S : Type 0} (system : System S) (w : World) where
  pub record Facts : Type 0 where
    pub shape : IsShape system.schedule.shape
    pub few : tally (is_faulty system.schedule) (host_count system.schedule.shape) ≤ max_faults system.schedule.shape
    pub apart : HashesApart w.hashed
    pub standing : Standing system w
    pub arises : (h : ℕ) → Arises (self_of system h) (w.histories h)
    pub nobody : (h : ℕ) → host_count system.schedule.shape ≤ h → stamps system.schedule w h ≡ []
    pub numbered : (h : ℕ) → AreNumbered (self_of system h) (stamped (w.histories h))
    pub read : (h : ℕ) (m : Message) → IsGivenTo system.schedule w h m → FitsFields system.schedule.shape m
    pub fits : (h : ℕ) → IsCorrect system.schedule h → AllByRecursion (FitsBare system.schedule.shape) (said (w.histories h))
    pub knows : (h : ℕ) → IsCorrect system.schedule h
        → AllByRecursion (λ (b : Bare). Carries (verifies system.schedule.secret) (issued system.schedule w) (inner_claims system.schedule.shape b)) (said (w.histories h))
    pub floors : (h : ℕ) → IsCorrect system.schedule h → (m : Checkpoint) → In (stamped (w.histories h)) (stamped_message.Checkpoint m) → FitsBody (FitsFloorsBody system.schedule.shape) m.body
    pub changes : (h : ℕ) → IsCorrect system.schedule h → (m : ViewChange) (b : ChangeBody) → In (stamped (w.histories h)) (stamped_message.ViewChange m) → m.body ≡ Whole b → IsKnownBody system.schedule w h b
