-- All entries of a correct host's history are known: what was accepted was given, so it was read and nothing in it is forged; what was stamped is made of
-- that, and stands in the record.
use Rattle.std.proofs.Common.{◌≡◌, ℕ, zero, suc, ◌+◌, ◌^◌, ◌<◌, Bool, true, List, [], ◌∷◌, ◌++◌, length, refl, sym, ap, subst, ◌∙◌, inl, Option, Some}
use Rattle.std.specs.Prelude.{map, slice_get, option_and_then}
use Rattle.std.specs.Option.{IfSome}
use Rattle.std.specs.List.{AllByRecursion}
use Rattle.std.proofs.lemmas.List.{length-map}
use Rattle.mb_base.specs.Shapes.{Bytes, IsShape}
use Rattle.mb_base.specs.declared.names.Ui.{Ui}
use Rattle.mb_base.specs.declared.shape.Shape.{Shape}
use Rattle.mb_parts.specs.declared.floor.Floor.{Floor}
use Rattle.mb_parts.specs.declared.certificates.FloorMember.{FloorMember}
use Rattle.mb_parts.specs.declared.certificates.FloorCert.{FloorCert}
use Rattle.mb_parts.specs.Bares.{Bare, bare_bytes}
use Rattle.mb_parts.specs.BareReading.{bare_of_bytes}
use Rattle.mb_parts.specs.Certificates.{first_floor, agree_on_floor, certified_floor}
use Rattle.mb_parts.specs.Claims.{Claim}
use Rattle.mb_parts.specs.Counters.{at_counter}
use Rattle.mb_parts.specs.Fits.{FitsBare, FitsFloor, FitsFloorMember, FitsFloorCert}
use Rattle.mb_parts.specs.Issued.{stamped_at}
use Rattle.mb_parts.proofs.BareLaws.{bare_again}
use Rattle.mb_parts.proofs.Counters.{at_here}
use Rattle.mb_parts.proofs.IssuedLaws.{issued_again}
use Rattle.mb_msg.specs.declared.message.Body.TheVariants.{Whole}
use Rattle.mb_msg.specs.declared.message.Message.{Message}
use Rattle.mb_msg.specs.declared.message.Message.TheVariants as message
use Rattle.mb_msg.specs.declared.normal.Floors.{Floors}
use Rattle.mb_msg.specs.declared.normal.Checkpoint.{Checkpoint}
use Rattle.mb_msg.specs.declared.stamped.Stamped.{Stamped as StampedMessage}
use Rattle.mb_msg.specs.declared.stamped.Stamped.TheVariants as stamped
use Rattle.mb_msg.specs.Fits.{FitsFields, FitsLog}
use Rattle.mb_msg.specs.Spelling.{floors_body_bytes}
use Rattle.mb_msg.specs.Stamps.{bare_of, ui_of, as_message}
use Rattle.mb_model.specs.GateChecks.{stamp_claim, valid}
use Rattle.mb_model.specs.Histories.{Entry, Accepted, Stamped, Jumped, Closed, Served, Executed, Installed, DroppedParts, LostPatience, Nudged, History, said, view_of, counter_of, stamped as all_stamped}
use Rattle.mb_steps.specs.OwnLists.{AreNumbered, own_ui}
use Rattle.mb_model.specs.Positions.{slot_in, in_window}
use Rattle.mb_model.specs.Verified.{verifies}
use Rattle.mb_model.specs.Members.{In}
use Rattle.mb_model.proofs.Options.{if_some}
use Rattle.mb_steps.specs.Arises.{Arises}
use Rattle.mb_model.specs.Inside.{strings_in, bodies_in}
use Rattle.mb_world_model.specs.WorldEvents.{IsCorrect}
use Rattle.mb_world_model.specs.World.{World, System, self_of, stamps}
use Rattle.mb_world_model.specs.WorldRecord.{issued}
use Rattle.mb_host_laws.proofs.Cases.{all_at}
use Rattle.mb_host_laws.proofs.Found.{bytes_at}
use Rattle.mb_host_laws.specs.Rests.{Each, Rests}
use Rattle.mb_world_laws.proofs.Grown.{IsGivenTo, IsHashed, HasStrings, RestsIn}
use Rattle.mb_world_laws.proofs.Standings.{Standing}
use Rattle.mb_host_laws.proofs.Moments.{IsPast, past_tail}
use Rattle.mb_world_laws.proofs.Knows.{accepted_issued}
use Rattle.mb_host_laws.proofs.Parts.{part_fits, part_bodies, body_string}
use Rattle.mb_world_laws.proofs.OwnIssued.{past_said_is, numbered_here}
use Rattle.mb_host_laws.proofs.OwnKnown.{KnownMessage, Known}
use Rattle.mb_host_laws.proofs.OwnMade.{windowed}
use Rattle.mb_host_laws.proofs.Executing.{IsExecution, execution}
use Rattle.mb_host_laws.proofs.OwnStamped.{HasText, stamp_known}
use Rattle.mb_host_laws.proofs.Unspent.{stamp_low}

-- ---- a floor that a certificate gives

module _ (s : Shape) where
  floors_at : (l : List (Option Floor)) → AllByRecursion (λ o. IfSome o FitsFloor) l → (i : ℕ) (f : Floor) → option_and_then (λ o. o) (slice_get l i) ≡ Some f → FitsFloor f
  floors_at [] a i f e = absurd cc
  floors_at (o ∷ l) a zero f e = subst (λ (x : Option Floor). IfSome x FitsFloor) e a.0
  floors_at (o ∷ l) a (suc i) f e = floors_at l a.1 i f e

  first_fits : (owner : ℕ) (ms : List FloorMember) → AllByRecursion (FitsFloorMember s) ms → (f : Floor) → first_floor owner ms ≡ Some f → FitsFloor f
  first_fits owner [] a f e = absurd cc
  first_fits owner (m ∷ ms) a f e = floors_at m.floors a.0.floors.1 owner f e

  given_fits : (valid : Claim → Bool) (owner : ℕ) (c : FloorCert) → FitsFloorCert s c → (f : Floor) → certified_floor s valid owner c ≡ Some f → FitsFloor f
  unfolding certified_floor
  given_fits valid owner c x f e = first_fits owner c.members x.members.1.1 f (if_some (agree_on_floor s valid owner c) (first_floor owner c.members) f e).1

module _ {S : Type 0} (system : System S) (w : World) (shape : IsShape system.schedule.shape) (s : Standing system w)
    (numbered : (h : ℕ) → AreNumbered (self_of system h) (all_stamped (w.histories h))) (read : (h : ℕ) (m : Message) → IsGivenTo system.schedule w h m → FitsFields system.schedule.shape m)
    (low : (h : ℕ) → counter_of (w.histories h) < 2 ^ 64) where
  -- ---- what a correct host stamped was issued, where it fits

  issued_own : (h : ℕ) (m : StampedMessage) (d : History) → IsCorrect system.schedule h → IsPast (Stamped m ∷ d) (w.histories h) → FitsBare system.schedule.shape (bare_of m) → issued system.schedule w (stamp_claim m) ≡ true
  issued_own h m d correct past fits =
      let r = past_said_is past.later m d in
      let all : r.0 ++ bare_of m ∷ said d ≡ said (w.histories h) = r.1 ∙ ap said past.is in
      let ui : ui_of m ≡ own_ui (self_of system h) (length (all_stamped d) + 1) (bare_of m) =
      numbered_here (self_of system h) past.later m d (subst (λ (x : History). AreNumbered (self_of system h) (all_stamped x)) (sym past.is) (numbered h)) in
      let host : (ui_of m).host ≡ h = ap (λ (u : Ui). u.host) ui in
      let counter : (ui_of m).counter ≡ length (said d) + 1 = ap (λ (u : Ui). u.counter) ui ∙ ap (λ (n : ℕ). n + 1) (sym (length-map (all_stamped d) bare_of)) in
      let here : at_counter (said (w.histories h)) (length (said d) + 1) ≡ Some (bare_of m) = subst (λ (l : List Bare). at_counter l (length (said d) + 1) ≡ Some (bare_of m)) all (at_here r.0 (bare_of m) (said d)) in
      let there : at_counter (said (w.histories h)) (ui_of m).counter ≡ Some (bare_of m) = subst (λ (n : ℕ). at_counter (said (w.histories h)) n ≡ Some (bare_of m)) (sym counter) here in
      let bytes : at_counter (map bare_bytes (said (w.histories h))) (ui_of m).counter ≡ Some (bare_bytes (bare_of m)) = bytes_at (said (w.histories h)) (ui_of m).counter (bare_of m) there in
      let stamped_here : at_counter (stamps system.schedule w h) (ui_of m).counter ≡ Some (bare_bytes (bare_of m)) = rw correct.1 bytes in
      let found : stamped_at system.schedule.shape (stamps system.schedule w) h (ui_of m).counter ≡ Some (bare_of m) = ap (option_and_then (bare_of_bytes system.schedule.shape)) stamped_here ∙ bare_again system.schedule.shape shape (bare_of m) fits in
      issued_again system.schedule.shape (stamps system.schedule w) (stamp_claim m) (subst (λ (i : ℕ). stamped_at system.schedule.shape (stamps system.schedule w) i (ui_of m).counter ≡ Some (bare_of m)) (sym host) found)

  -- ---- each entry

  -- What verifies was issued.
  abbrev pub IsGood : Claim → Type 0
  IsGood c = verifies system.schedule.secret c ≡ true → issued system.schedule w c ≡ true

  abbrev pub IsText : Bytes → Type 0
  IsText b = IsHashed system.schedule w b

  abbrev pub KnownIn : ℕ → History → Type 0
  KnownIn h d = Each (Known (self_of system h) IsGood IsText) d

  abbrev RestsHere : ℕ → Entry → History → Type 0
  RestsHere h e d = Rests (self_of system h) (IsGivenTo system.schedule w h) (IsHashed system.schedule w) (HasStrings system.schedule w) e d

  string_hashed : (h : ℕ) (m : Message) → HasStrings system.schedule w m → (b : Bytes) → In (bodies_in m) b → IsText b
  string_hashed h m a b i = all_at IsText (strings_in system.schedule.shape m) a b (body_string system.schedule.shape m b i)

  accepted_known : (h : ℕ) (m : Message) (d : History) → RestsHere h (Accepted m) d → KnownMessage (self_of system h) IsGood IsText m
  accepted_known h m d r = record {
    fits = part_fits (self_of system h) r.0.0 m r.0.2 (read h r.0.0 r.0.1);
    claims = λ c i v. accepted_issued system w s h m d r c i v;
    texts = λ b i. string_hashed h r.0.0 (s.clean h r.0.0 r.0.1).strings b (part_bodies (self_of system h) r.0.0 m r.0.2 b i);
  }

  body_there : (m : Checkpoint) (b : Floors) → m.body ≡ Whole b → In (bodies_in (message.Checkpoint m)) (floors_body_bytes b)
  unfolding bodies_in
  body_there m b is = rw is (inl refl)

  stamped_text : (h : ℕ) (m : StampedMessage) → HasStrings system.schedule w (as_message m) → HasText (self_of system h) IsGood IsText m
  stamped_text h (stamped.Checkpoint m) a = λ b is. string_hashed h (message.Checkpoint m) a (floors_body_bytes b) (body_there m b is)
  stamped_text h m a = tt

  pub all_known : (h : ℕ) → IsCorrect system.schedule h → (d : History) → IsPast d (w.histories h) → Arises (self_of system h) d → RestsIn system w h d → KnownIn h d
  all_known h correct [] p a r = tt
  all_known h correct (Accepted m ∷ d) p a r = (accepted_known h m d r.0, all_known h correct d (past_tail (Accepted m) d (w.histories h) p) a.1 r.1)
  all_known h correct (Stamped m ∷ d) p a r =
      let before : KnownIn h d = all_known h correct d (past_tail (Stamped m) d (w.histories h) p) a.1 r.1 in
      (stamp_known (self_of system h) IsGood IsText d m a before correct.0 (stamp_low m d (w.histories h) p (low h)) (stamped_text h m r.0.0) (λ fits v. issued_own h m d correct p fits), before)
  all_known h correct (Jumped g f ∷ d) p a r =
      let l : FitsLog system.schedule.shape r.0.0 = read h (message.Log r.0.0) r.0.2 in
      let cert : FitsFloorCert system.schedule.shape r.0.1 = subst (λ (o : Option FloorCert). IfSome o (FitsFloorCert system.schedule.shape)) r.0.4 l.floor in
      (given_fits system.schedule.shape (valid (self_of system h)) g r.0.1 cert f r.0.5, all_known h correct d (past_tail (Jumped g f) d (w.histories h) p) a.1 r.1)
  all_known h correct (Closed g c ∷ d) p a r = (tt, all_known h correct d (past_tail (Closed g c) d (w.histories h) p) a.1 r.1)
  all_known h correct (Served pos x ∷ d) p a r = (tt, all_known h correct d (past_tail (Served pos x) d (w.histories h) p) a.1 r.1)
  all_known h correct (Executed slot ∷ d) p a r =
      let x : IsExecution (self_of system h) d slot = execution (self_of system h) d slot a.0 in
      let t = if_some (in_window (self_of system h) d slot.pos) (slot_in (self_of system h) d (view_of (self_of system h) d) slot.pos) x.known x.there in
      (windowed (self_of system h) IsGood IsText d slot.pos t.0, all_known h correct d (past_tail (Executed slot) d (w.histories h) p) a.1 r.1)
  all_known h correct (Installed pos parts ∷ d) p a r = (tt, all_known h correct d (past_tail (Installed pos parts) d (w.histories h) p) a.1 r.1)
  all_known h correct (DroppedParts ∷ d) p a r = (tt, all_known h correct d (past_tail DroppedParts d (w.histories h) p) a.1 r.1)
  all_known h correct (LostPatience ∷ d) p a r = (r.0, all_known h correct d (past_tail LostPatience d (w.histories h) p) a.1 r.1)
  all_known h correct (Nudged ∷ d) p a r = (tt, all_known h correct d (past_tail Nudged d (w.histories h) p) a.1 r.1)
