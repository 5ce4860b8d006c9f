-- The own log of a correct host is what it stamped behind its floor, and there its own list led.
--
-- The floor certificate certifies a floor (`low_floor`), and its claims were issued, so the prefix led there once (`certified_led`). The prefix is the own
-- list, and the floor has the number of messages before it, so the log goes on from there.
use Rattle.std.proofs.Common.{◌≡◌, ℕ, List, [], ◌∷◌, ◌++◌, length, refl, sym, ap, ◌∙◌, arith, Option, Some, None}
use Rattle.std.specs.Prelude.{◌-◌, map, drop}
use Rattle.std.proofs.lemmas.List.{append_assoc, take-append-drop, length-drop, length-map}
use Rattle.mb_parts.specs.declared.floor.Floor.{Floor}
use Rattle.mb_parts.specs.declared.certificates.FloorCert.{FloorCert}
use Rattle.mb_parts.specs.Bares.{Bare}
use Rattle.mb_parts.specs.Claims.{floor_claims}
use Rattle.mb_parts.specs.CheckedCertificates.{Carries}
use Rattle.mb_parts.specs.Certificates.{first_floor, agree_on_floor, certified_floor}
use Rattle.mb_parts.specs.Ordered.{initial_floor, floor_after}
use Rattle.mb_parts.specs.Fits.{FitsFloorCert}
use Rattle.mb_parts.proofs.CertificateLaws.{certificate_laws, carries_left}
use Rattle.mb_parts.proofs.Joined.{floor_after_nil}
use Rattle.mb_msg.specs.declared.change.ChangeBody.{ChangeBody}
use Rattle.mb_msg.specs.declared.stamped.Stamped.{Stamped as StampedMessage}
use Rattle.mb_msg.specs.Stamps.{bare_of}
use Rattle.mb_model.specs.Verified.{verifies}
use Rattle.mb_model.specs.CarriedLogs.{claims_of_floor}
use Rattle.mb_model.specs.UsableLogs.{floor_of}
use Rattle.mb_model.specs.Histories.{History, Identity, said, stamped as all_stamped, counter_of}
use Rattle.mb_model.specs.GateChecks.{valid}
use Rattle.mb_model.specs.Stable.{log_floor, floor_counter}
use Rattle.mb_model.specs.OwnLog.{own_log, log_start}
use Rattle.mb_model.proofs.Options.{if_some}
use Rattle.mb_steps.proofs.StepPotential.{start_bounded}
use Rattle.mb_world_model.specs.WorldEvents.{IsCorrect}
use Rattle.mb_world_model.specs.World.{World, System, self_of}
use Rattle.mb_world_model.specs.WorldRecord.{issued}
use Rattle.mb_host_laws.proofs.Cases.{some_has, map_append}
use Rattle.mb_host_laws.specs.Rests.{Each}
use Rattle.mb_world_laws.proofs.Facts.{Facts, IsKnownBody}
use Rattle.mb_views.proofs.Prefixes.{prefix_said}
use Rattle.mb_views.proofs.Follows.{IsLed, JumpsLed}
use Rattle.mb_host_laws.proofs.Moments.{IsPast, past_said}
use Rattle.mb_views.proofs.Certified.{certified_led}
use Rattle.mb_justified.proofs.NeverClosed.{same_end}
use Rattle.mb_justified.proofs.NoneAgreed.{IsLowFloor, low_floor}

no_length : {A : Type 0} (l : List A) → length l ≡ 0 → l ≡ []
no_length [] e = refl
no_length (x ∷ l) e = absurd (omega (arith, e))

module _ {S : Type 0} (system : System S) (w : World) (f : Facts system w) (jumps : (h : ℕ) → IsCorrect system.schedule h → Each (JumpsLed system w f) (w.histories h)) (h : ℕ) (correct : IsCorrect system.schedule h) where
  abbrev self : Identity S
  self = self_of system h

  -- What stands before the log, and the floor to which it leads.
  pub record LogPart (d : History) : Type 0 where
    pub floor : Floor
    pub hidden : List StampedMessage
    pub parts : own_log self d ++ hidden ≡ all_stamped d
    pub count : floor.counter ≡ length hidden
    pub leads : floor_after initial_floor (map bare_of hidden) ≡ floor
    pub certified : floor_of system.schedule.shape (valid self) h (log_floor self d) ≡ Some floor

  abbrev before_log : History → List StampedMessage
  before_log d = drop (counter_of d - log_start self d) (all_stamped d)

  log_parts : (d : History) → own_log self d ++ before_log d ≡ all_stamped d
  log_parts d = take-append-drop (counter_of d - log_start self d) (all_stamped d)

  before_length : (d : History) → length (before_log d) ≡ log_start self d
  before_length d = let b = start_bounded self d in omega (arith, length-drop (counter_of d - log_start self d) (all_stamped d), b)

  first_is : (c : FloorCert) (o : Floor) → certified_floor system.schedule.shape (valid self) h c ≡ Some o → first_floor h c.members ≡ Some o
  unfolding certified_floor
  first_is c o e = (if_some (agree_on_floor system.schedule.shape (valid self) h c) (first_floor h c.members) o e).1

  counter_is : (c : FloorCert) (o : Floor) → first_floor h c.members ≡ Some o → floor_counter self (Some c) ≡ o.counter
  counter_is c o e = rw e refl

  -- of a certified floor
  behind_cert : (d : History) (c : FloorCert) (o : Floor) → IsPast d (w.histories h) → log_floor self d ≡ Some c → first_floor h c.members ≡ Some o → IsLed system w f h o → floor_after initial_floor (map bare_of (before_log d)) ≡ o
  behind_cert d c o past is first led =
      let start : log_start self d ≡ o.counter = ap (λ (x : Option FloorCert). floor_counter self x) is ∙ counter_is c o first in
      let count : o.counter ≡ length led.hidden = ap (λ (y : Floor). y.counter) (sym led.leads) ∙ omega arith in
      let b = past_said past.later d in
      let whole : said (past.later ++ d) ≡ said (w.histories h) = ap said past.is in
      let own : (b.later ++ map bare_of (own_log self d)) ++ map bare_of (before_log d) ≡ said (w.histories h) =
      append_assoc b.later (map bare_of (own_log self d)) (map bare_of (before_log d))
      ∙ ap (λ (l : List Bare). b.later ++ l) (sym (map_append bare_of (own_log self d) (before_log d)) ∙ ap (map bare_of) (log_parts d))
      ∙ b.is ∙ whole in
      let there : led.begins.later ++ led.hidden ≡ said (w.histories h) = led.begins.is ∙ prefix_said system w f h correct in
      let same : map bare_of (before_log d) ≡ led.hidden =
      same_end (b.later ++ map bare_of (own_log self d)) led.begins.later (map bare_of (before_log d)) led.hidden (own ∙ sym there) (length-map (before_log d) bare_of ∙ before_length d ∙ start ∙ count) in
      ap (λ (l : List Bare). floor_after initial_floor l) same ∙ led.leads

  floor_led : (d : History) (b : ChangeBody) (c : FloorCert) → IsKnownBody system.schedule w h b → b.floor ≡ Some c → (o : Floor) → certified_floor system.schedule.shape (valid self) h c ≡ Some o → IsLed system w f h o
  floor_led d b c known is o e =
      let claims : Carries (verifies system.schedule.secret) (issued system.schedule w) (claims_of_floor b.floor) = carries_left (verifies system.schedule.secret) (issued system.schedule w) (claims_of_floor b.floor) _ known.claims in
      let carried : Carries (verifies system.schedule.secret) (issued system.schedule w) (floor_claims c) = rw is at claims in
      let issued_floor = (certificate_laws.carries system.schedule.shape (verifies system.schedule.secret) (issued system.schedule w)).floor h c o carried e in
      (certified_led system w f jumps w.hashed f.apart (λ y i. i) h c o issued_floor (some_has (FitsFloorCert system.schedule.shape) b.floor c is known.fits.floor) (known.floors c is)).0

  -- So it is with the log that a stamped VIEW_CHANGE shows.
  pub log_part : (d : History) (b : ChangeBody) → IsPast d (w.histories h) → IsKnownBody system.schedule w h b → b.floor ≡ log_floor self d → LogPart d
  log_part d b past known same = go (log_floor self d) refl where
    go : (o : Option FloorCert) → log_floor self d ≡ o → LogPart d
    go None is =
        let start : log_start self d ≡ 0 = ap (λ (x : Option FloorCert). floor_counter self x) is in
        let none : before_log d ≡ [] = no_length (before_log d) (before_length d ∙ start) in
        record {
          floor = initial_floor;
          hidden = before_log d;
          parts = log_parts d;
          count = sym (before_length d ∙ start);
          leads = ap (λ (l : List StampedMessage). floor_after initial_floor (map bare_of l)) none ∙ floor_after_nil initial_floor;
          certified = ap (floor_of system.schedule.shape (valid self) h) is;
        }
    go (Some c) is =
        let low : IsLowFloor system w f h correct d c = low_floor system w f h correct d c past is in
        let o : Floor = low.floor in
        let first = first_is c o low.certified in
        let start : log_start self d ≡ o.counter = ap (λ (x : Option FloorCert). floor_counter self x) is ∙ counter_is c o first in
        let led : IsLed system w f h o = floor_led d b c known (same ∙ is) o low.certified in
        record {
          floor = o;
          hidden = before_log d;
          parts = log_parts d;
          count = sym (before_length d ∙ start);
          leads = behind_cert d c o past is first led;
          certified = ap (floor_of system.schedule.shape (valid self) h) is ∙ low.certified;
        }
