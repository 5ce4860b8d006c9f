-- A VIEW_CHANGE that a correct host found usable, or its own, shows a usable log in the sense of the record.
--
-- Its certificates carry over to issued ones, so its log is usable where claims are issued. Its floor is certified by issued CHECKPOINTs, so it is
-- sound. The plans that it shows were compared, so they are known.
use Rattle.std.proofs.Common.{◌≡◌, ℕ, ◌-◌, ◌<◌, ◌≤◌, true, List, [], ◌++◌, length, sym, ap, ◌∙◌, arith, length-append, None}
use Rattle.std.specs.List.{AllByRecursion}
use Rattle.std.proofs.lemmas.List.{drop_at}
use Rattle.mb_base.specs.Shapes.{host_count}
use Rattle.mb_parts.specs.declared.floor.Floor.{Floor}
use Rattle.mb_parts.specs.Bares.{Bare}
use Rattle.mb_parts.specs.Counters.{first}
use Rattle.mb_parts.specs.Fits.{FitsFloorCert}
use Rattle.mb_parts.specs.Ordered.{initial_floor, floor_after}
use Rattle.mb_msg.specs.declared.message.Body.TheVariants.{Whole}
use Rattle.mb_msg.specs.declared.change.ChangeBody.{ChangeBody}
use Rattle.mb_msg.specs.declared.change.ViewChange.{ViewChange}
use Rattle.mb_msg.specs.declared.stamped.Stamped.TheVariants as stamped
use Rattle.mb_msg.specs.Bodies.{body_digest}
use Rattle.mb_msg.specs.Spelling.{change_body_bytes}
use Rattle.mb_agreement.specs.Agreement.{IsSoundFloor, IsUsableLog, IsKnownPlan}
use Rattle.mb_model.specs.Compared.{compared_in_body}
use Rattle.mb_model.specs.GateChecks.{stamp_claim}
use Rattle.mb_model.specs.UsableLogs.{log_fault}
use Rattle.mb_model.specs.Verified.{verifies}
use Rattle.mb_model.proofs.CarriedLogs.{logs_carry_over}
use Rattle.mb_world_model.specs.WorldEvents.{IsCorrect}
use Rattle.mb_world_model.specs.World.{World, System, self_of}
use Rattle.mb_world_model.specs.WorldRecord.{issued, prefix, plans}
use Rattle.mb_host_laws.proofs.Cases.{some_has}
use Rattle.mb_host_laws.proofs.Found.{all_newest}
use Rattle.mb_host_laws.specs.Rests.{Each}
use Rattle.mb_world_laws.proofs.Grown.{IsHashed}
use Rattle.mb_world_laws.proofs.Facts.{Facts, IsKnownBody}
use Rattle.mb_views.proofs.Follows.{IsLed, JumpsLed}
use Rattle.mb_views.proofs.Certified.{certified_led}
use Rattle.mb_views.proofs.KnownPlans.{log_known}

module _ {S : Type 0} (system : System S) (w : World) where
  -- A VIEW_CHANGE that was issued, whole and found usable by a host that compared the plans in it; what it shows is known.
  pub record IsGoodChange (m : ViewChange) (b : ChangeBody) : Type 0 where
    pub body : m.body ≡ Whole b
    pub issues : issued system.schedule w (stamp_claim (stamped.ViewChange m)) ≡ true
    pub host : m.ui.host < host_count system.schedule.shape
    pub usable : log_fault system.schedule.shape system.schedule.secret (verifies system.schedule.secret) m.ui.host m.view m.ui.counter b ≡ None
    pub known : IsKnownBody system.schedule w m.ui.host b
    pub checker : ℕ
    pub compared : AllByRecursion (IsHashed system.schedule w) (compared_in_body (self_of system checker) m.ui.host b)

  module _ (f : Facts system w) (jumps : (h : ℕ) → IsCorrect system.schedule h → Each (JumpsLed system w f) (w.histories h)) where
    -- Where a prefix led once it leads as it was then.
    pub sound_floor : (g pos : ℕ) (o : Floor) → IsLed system w f g o → o.top ≤ pos → IsSoundFloor (prefix system.schedule w) g pos o
    sound_floor g pos o x low =
        let count : o.counter ≡ length x.hidden = ap (λ (y : Floor). y.counter) (sym x.leads) ∙ omega arith in
        let long : length x.hidden ≤ length (prefix system.schedule w g) = omega (arith, ap length x.begins.is, length-append x.begins.later x.hidden) in
        let once : first o.counter (prefix system.schedule w g) ≡ x.hidden =
        ap (λ (l : List Bare). first o.counter l) (sym x.begins.is)
        ∙ drop_at x.begins.later x.hidden (length (x.begins.later ++ x.hidden) - o.counter) (omega (arith, count, length-append x.begins.later x.hidden)) in
        record { short = omega (arith, count, long); stands = ap (λ (l : List Bare). floor_after initial_floor l) once ∙ x.leads; low = low }

    pub usable_log : (m : ViewChange) (b : ChangeBody) → IsGoodChange m b
        → IsUsableLog system.schedule.shape system.schedule.secret (plans system.schedule w) (issued system.schedule w) (prefix system.schedule w) m.view (record { host = m.ui.host; body = b })
    usable_log m b x = record {
      counter = m.ui.counter;
      digest = body_digest change_body_bytes m.body;
      cert = m.ui.cert;
      stamped = x.issues;
      usable = logs_carry_over system.schedule.shape system.schedule.secret (verifies system.schedule.secret) (issued system.schedule w) m.ui.host m.view m.ui.counter b x.known.claims x.usable;
      floor = λ c o is certified.
          let led = certified_led system w f jumps w.hashed f.apart (λ y i. i) m.ui.host c o certified (some_has (FitsFloorCert system.schedule.shape) b.floor c is x.known.fits.floor) (x.known.floors c is) in
          sound_floor m.ui.host c.pos o led.0 led.1;
      known = all_newest (IsKnownPlan (plans system.schedule w)) [] b.entries tt (log_known (self_of system x.checker) w.hashed f.apart m.ui.host m.view m.ui.counter b x.usable x.known.fits x.compared);
    }
