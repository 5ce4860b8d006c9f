-- Where each entry comes of a message that has the values of the grammar, all that a host alone needs to know of its history is known: what is asked of
-- certificates and of hashed strings in a world holds of itself here.
use Rattle.std.proofs.Common.{◌≡◌, ℕ, zero, suc, ◌^◌, ◌<◌, Bool, true, List, [], ◌∷◌, subst, arith, Option, Some}
use Rattle.std.specs.Prelude.{slice_get, option_and_then}
use Rattle.std.specs.Option.{IfSome}
use Rattle.std.specs.List.{AllByRecursion}
use Rattle.mb_base.specs.Shapes.{Bytes, host_count}
use Rattle.mb_base.specs.declared.shape.Shape.{Shape}
use Rattle.mb_parts.specs.declared.floor.Floor.{Floor}
use Rattle.mb_parts.specs.declared.certificates.FloorMember.{FloorMember}
use Rattle.mb_parts.specs.declared.certificates.FloorCert.{FloorCert}
use Rattle.mb_parts.specs.Certificates.{first_floor, agree_on_floor, certified_floor}
use Rattle.mb_parts.specs.Claims.{Claim}
use Rattle.mb_parts.specs.Fits.{FitsFloor, FitsFloorMember, FitsFloorCert}
use Rattle.mb_msg.specs.declared.message.Message.{Message}
use Rattle.mb_msg.specs.declared.stamped.Stamped.{Stamped as StampedMessage}
use Rattle.mb_msg.specs.declared.stamped.Stamped.TheVariants as stamped
use Rattle.mb_msg.specs.Fits.{FitsLog}
use Rattle.mb_model.specs.GateChecks.{valid}
use Rattle.mb_model.specs.Histories.{Accepted, Stamped, Jumped, Closed, Served, Executed, Installed, DroppedParts, LostPatience, Nudged, History, Identity, view_of, counter_of, stamped as all_stamped}
use Rattle.mb_model.specs.Positions.{slot_in, in_window}
use Rattle.mb_model.proofs.Options.{if_some}
use Rattle.mb_steps.specs.Arises.{Arises}
use Rattle.mb_host_laws.specs.Rests.{Each}
use Rattle.mb_host_laws.proofs.Parts.{part_fits}
use Rattle.mb_host_laws.proofs.OwnKnown.{KnownMessage, Known}
use Rattle.mb_host_laws.proofs.OwnMade.{windowed}
use Rattle.mb_host_laws.proofs.OwnStamped.{HasText, stamp_known}
use Rattle.mb_host_laws.proofs.Executing.{IsExecution, execution}
use Rattle.mb_encodable.specs.Fitting.{ComesOfRead}

-- Nothing is asked of claims and of strings.
abbrev pub AnyClaim : Claim → Type 0
AnyClaim c = Unit {0}

abbrev pub AnyText : Bytes → Type 0
AnyText text = Unit {0}

-- ---- a floor that a certificate gives

module _ (s : Shape) where
  floors_at : (l : List (Option Floor)) → AllByRecursion (λ o. IfSome o FitsFloor) l → (i : ℕ) (f : Floor) → option_and_then (λ o. o) (slice_get l i) ≡ Some f → FitsFloor f
  floors_at [] a i f e = absurd cc
  floors_at (o ∷ l) a zero f e = subst (λ (x : Option Floor). IfSome x FitsFloor) e a.0
  floors_at (o ∷ l) a (suc i) f e = floors_at l a.1 i f e

  first_fits : (owner : ℕ) (ms : List FloorMember) → AllByRecursion (FitsFloorMember s) ms → (f : Floor) → first_floor owner ms ≡ Some f → FitsFloor f
  first_fits owner [] a f e = absurd cc
  first_fits owner (m ∷ ms) a f e = floors_at m.floors a.0.floors.1 owner f e

  pub certified_fits : (valid : Claim → Bool) (owner : ℕ) (c : FloorCert) → FitsFloorCert s c → (f : Floor) → certified_floor s valid owner c ≡ Some f → FitsFloor f
  unfolding certified_floor
  certified_fits valid owner c x f e = first_fits owner c.members x.members.1.1 f (if_some (agree_on_floor s valid owner c) (first_floor owner c.members) f e).1

-- ---- histories

module _ {S : Type 0} (self : Identity S) where
  abbrev pub AllKnown : History → Type 0
  AllKnown d = Each (Known self AnyClaim AnyText) d

  module _ (there : self.host < host_count self.shape) where
    accepted_known : (m : Message) (d : History) → ComesOfRead self (Accepted m) d → KnownMessage self AnyClaim AnyText m
    accepted_known m d r = record { fits = part_fits self r.0.0 m r.0.2 r.0.1; claims = λ c i. tt; texts = λ b i. tt }

    any_text : (m : StampedMessage) → HasText self AnyClaim AnyText m
    any_text (stamped.Checkpoint m) = λ b is. tt
    any_text m = tt

    pub all_known : (d : History) → Arises self d → counter_of d < 2 ^ 64 → Each (ComesOfRead self) d → AllKnown d
    unfolding all_stamped
    all_known [] a low r = tt
    all_known (Accepted m ∷ d) a low r = (accepted_known m d r.0, all_known d a.1 low r.1)
    all_known (Stamped m ∷ d) a low r =
        let before : AllKnown d = all_known d a.1 (omega (arith, low)) r.1 in
        (stamp_known self AnyClaim AnyText d m a before there (omega (arith, low)) (any_text m) (λ fits. tt), before)
    all_known (Jumped g f ∷ d) a low r =
        let l : FitsLog self.shape r.0.0 = r.0.2 in
        let cert : FitsFloorCert self.shape r.0.1 = subst (λ (o : Option FloorCert). IfSome o (FitsFloorCert self.shape)) r.0.4 l.floor in
        (certified_fits self.shape (valid self) g r.0.1 cert f r.0.5, all_known d a.1 low r.1)
    all_known (Closed g c ∷ d) a low r = (tt, all_known d a.1 low r.1)
    all_known (Served pos x ∷ d) a low r = (tt, all_known d a.1 low r.1)
    all_known (Executed slot ∷ d) a low r =
        let x : IsExecution self d slot = execution self d slot a.0 in
        let t = if_some (in_window self d slot.pos) (slot_in self d (view_of self d) slot.pos) x.known x.there in
        (windowed self AnyClaim AnyText d slot.pos t.0, all_known d a.1 low r.1)
    all_known (Installed pos parts ∷ d) a low r = (tt, all_known d a.1 low r.1)
    all_known (DroppedParts ∷ d) a low r = (tt, all_known d a.1 low r.1)
    all_known (LostPatience ∷ d) a low r = (r.0, all_known d a.1 low r.1)
    all_known (Nudged ∷ d) a low r = (tt, all_known d a.1 low r.1)
