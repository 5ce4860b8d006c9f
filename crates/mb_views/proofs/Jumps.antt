-- Gates jump to sound floors alone, in each world.
--
-- By induction on the events. A gate jumps to a floor that a delivered LOG certifies. What verifies in it had been issued before this event, so the
-- certificate names CHECKPOINTs of the world before, and one of them is a correct host's. There all gates had jumped to sound floors alone, so that
-- host's floors are sound, and this one is.
use Rattle.std.proofs.Common.{◌≡◌, ℕ, zero, suc, List, ◌++◌, sym, subst, Option, Some}
use Rattle.std.specs.Prelude.{map}
use Rattle.std.specs.List.{flat_map}
use Rattle.mb_base.specs.Shapes.{Bytes}
use Rattle.mb_parts.specs.declared.floor.Floor.{Floor}
use Rattle.mb_parts.specs.declared.certificates.FloorCert.{FloorCert}
use Rattle.mb_parts.specs.Bares.{bare_bytes}
use Rattle.mb_parts.specs.Spelling.{request_bytes}
use Rattle.mb_parts.specs.Claims.{Claim, floor_claims, stable_claims, evidence_claims}
use Rattle.mb_parts.specs.Fits.{FitsFloorCert}
use Rattle.mb_parts.proofs.CertificateLaws.{floor_more}
use Rattle.mb_msg.specs.declared.message.Message.TheVariants as message
use Rattle.mb_msg.specs.declared.transfer.Log.{Log}
use Rattle.mb_model.specs.Verified.{verifies}
use Rattle.mb_model.specs.Histories.{Entry, Jumped, History}
use Rattle.mb_model.specs.Members.{In}
use Rattle.mb_model.proofs.Members.{in_left, in_right, in_contained, contained}
use Rattle.mb_world_model.specs.Hashed.{HashesApart}
use Rattle.mb_model.specs.Inside.{claims_in, stamped_claims, strings_in, bodies_in, requests_in, stamped_bodies, floor_bodies}
use Rattle.mb_world_model.specs.WorldEvents.{IsCorrect}
use Rattle.mb_world_model.specs.World.{World, System, self_of}
use Rattle.mb_world_model.specs.WorldSteps.{world}
use Rattle.mb_world_model.specs.WorldRecord.{issued}
use Rattle.mb_world_model.specs.Stops.{IsUnstopped}
use Rattle.mb_host_laws.proofs.Cases.{all_at, each_in, some_has}
use Rattle.mb_host_laws.proofs.Found.{each_carries}
use Rattle.mb_host_laws.specs.Rests.{Each, Rests}
use Rattle.mb_host_laws.proofs.Rests.{each_more}
use Rattle.mb_world_laws.proofs.Grown.{IsGivenTo, IsHashed, HasStrings}
use Rattle.mb_world_laws.proofs.Standings.{Passage, passage, before_last}
use Rattle.mb_world_laws.proofs.Facts.{Facts}
use Rattle.mb_views.proofs.Follows.{IsLed, JumpsLed}
use Rattle.mb_views.proofs.Certified.{certified_led}
use Rattle.mb_model.specs.Compared.{inside_some}
use Rattle.mb_views.proofs.PrefixesGrow.{led_grows}

pub apart_before : (a b : List Bytes) → ((x : Bytes) → In a x → In b x) → HashesApart b → HashesApart a
apart_before a b more apart x y i j e = apart x y (contained b x (more x (in_contained a x i))) (contained b y (more y (in_contained a y j))) e

module _ {S : Type 0} (system : System S) where
  -- the floor certificate of a LOG
  log_claims : (l : Log) (c : FloorCert) → l.floor ≡ Some c → (x : Claim) → In (floor_claims c) x → In (claims_in system.schedule.shape (message.Log l)) x
  unfolding claims_in
  log_claims l c e x i = in_left (inside_some floor_claims l.floor ++ stable_claims l.stable ++ inside_some (evidence_claims system.schedule.shape) l.evidence) (flat_map (stamped_claims system.schedule.shape) l.entries) x
      (in_left (inside_some floor_claims l.floor ++ stable_claims l.stable) (inside_some (evidence_claims system.schedule.shape) l.evidence) x
      (in_left (inside_some floor_claims l.floor) (stable_claims l.stable) x (subst (λ (o : Option FloorCert). In (inside_some floor_claims o) x) (sym e) i)))

  log_bodies : (l : Log) (c : FloorCert) → l.floor ≡ Some c → (x : Bytes) → In (floor_bodies c) x → In (strings_in system.schedule.shape (message.Log l)) x
  unfolding strings_in bodies_in
  log_bodies l c e x i = in_left (map request_bytes (requests_in (message.Log l)) ++ (inside_some floor_bodies l.floor ++ flat_map stamped_bodies l.entries)) (map (λ c. bare_bytes c.says) (claims_in system.schedule.shape (message.Log l))) x
      (in_right (map request_bytes (requests_in (message.Log l))) (inside_some floor_bodies l.floor ++ flat_map stamped_bodies l.entries) x
      (in_left (inside_some floor_bodies l.floor) (flat_map stamped_bodies l.entries) x (subst (λ (o : Option FloorCert). In (inside_some floor_bodies o) x) (sym e) i)))

  module _ (w v : World) (f : Facts system w) (k : Facts system v) (p : Passage system w v) (jumps : (h : ℕ) → IsCorrect system.schedule h → Each (JumpsLed system w f) (w.histories h)) where
    jump_led : (h g : ℕ) (o : Floor) (d : History) → Rests (self_of system h) (IsGivenTo system.schedule v h) (IsHashed system.schedule v) (HasStrings system.schedule v) (Jumped g o) d → IsLed system v k g o
    jump_led h g o d (l, c, given, host, floor, certified) = led_grows system w v f k p.grows g o
        (certified_led system w f jumps v.hashed k.apart p.grows.hashed g c o
        (floor_more system.schedule.shape (verifies system.schedule.secret) (issued system.schedule w) g c o (each_carries (verifies system.schedule.secret) (issued system.schedule w) (floor_claims c) (λ x i. p.issues h (message.Log l) given x (log_claims l c floor x i))) certified)
        (some_has (FitsFloorCert system.schedule.shape) l.floor c floor (k.read h (message.Log l) given).floor)
        (each_in (In v.hashed) (floor_bodies c) (λ x i. all_at (In v.hashed) (strings_in system.schedule.shape (message.Log l)) (k.standing.clean h (message.Log l) given).strings x (log_bodies l c floor x i)))).0

    entry_led : (h : ℕ) (e : Entry) (d : History) → Rests (self_of system h) (IsGivenTo system.schedule v h) (IsHashed system.schedule v) (HasStrings system.schedule v) e d → JumpsLed system v k e d
    entry_led h (Jumped g o) d r = jump_led h g o d r
    entry_led h e d r = tt

    pub jumps_on : (h : ℕ) → Each (JumpsLed system v k) (v.histories h)
    jumps_on h = each_more _ _ (entry_led h) (v.histories h) (k.standing.rests h)

  module _ (facts : (k : ℕ) → IsUnstopped system k → HashesApart (world system k).hashed → Facts system (world system k)) where
    -- In each world gates have jumped to sound floors alone.
    pub jumps_led : (k : ℕ) (none : IsUnstopped system k) (apart : HashesApart (world system k).hashed) → (h : ℕ) → IsCorrect system.schedule h → Each (JumpsLed system (world system k) (facts k none apart)) ((world system k).histories h)
    unfolding world
    jumps_led zero none apart h correct = tt
    jumps_led (suc k) none apart h correct =
        let p : Passage system (world system k) (world system (suc k)) = passage system k none in
        let before : IsUnstopped system k = before_last system k none in
        let apart_then : HashesApart (world system k).hashed = apart_before (world system k).hashed (world system (suc k)).hashed p.grows.hashed apart in
        jumps_on (world system k) (world system (suc k)) (facts k before apart_then) (facts (suc k) none apart) p (jumps_led k before apart_then) h
