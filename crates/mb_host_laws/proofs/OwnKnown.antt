-- What is known of each entry of a host's history, once it is known that what was accepted has the values of the grammar and that its certificates are
-- good: the same of what the host stamped. `Good` is any property of
-- claims, as that one which verifies was issued, and `Text` any of strings, as that they are hashed.
use Rattle.std.proofs.Common.{◌≡◌, false, List, Some}
use Rattle.std.specs.Prelude.{◌==◌, ◌+◌, ◌<◌, ◌^◌, length}
use Rattle.std.specs.List.{AllByRecursion}
use Rattle.mb_base.specs.Shapes.{Bytes}
use Rattle.mb_parts.specs.declared.certificates.StableCert.{StableCert}
use Rattle.mb_parts.specs.declared.certificates.FloorCert.{FloorCert}
use Rattle.mb_parts.specs.declared.certificates.Evidence.{Evidence}
use Rattle.mb_parts.specs.Claims.{Claim, inner_claims, stable_claims, floor_claims, evidence_claims}
use Rattle.mb_parts.specs.Fits.{IsPosition, FitsFloor, FitsUi, FitsBare, FitsStable, FitsFloorCert, FitsEvidence}
use Rattle.mb_msg.specs.declared.message.Body.{Body}
use Rattle.mb_msg.specs.declared.message.Body.TheVariants.{Whole, Bare as Short}
use Rattle.mb_msg.specs.declared.message.Message.{Message}
use Rattle.mb_msg.specs.declared.normal.Floors.{Floors}
use Rattle.mb_msg.specs.Spelling.{floors_body_bytes}
use Rattle.mb_msg.specs.declared.change.ChangeBody.{ChangeBody}
use Rattle.mb_msg.specs.declared.change.NewViewBody.{NewViewBody}
use Rattle.mb_msg.specs.declared.change.OpenBody.{OpenBody}
use Rattle.mb_msg.specs.declared.stamped.Shown.{Shown}
use Rattle.mb_msg.specs.declared.stamped.Shown.TheVariants as shown
use Rattle.mb_msg.specs.declared.stamped.Stamped.{Stamped as StampedMessage}
use Rattle.mb_msg.specs.declared.stamped.Stamped.TheVariants as stamped
use Rattle.mb_msg.specs.Bodies.{FitsBody}
use Rattle.mb_msg.specs.Fits.{FitsFields, FitsFloorsBody}
use Rattle.mb_msg.specs.Stamps.{bare_of, ui_of}
use Rattle.mb_model.specs.CarriedLogs.{log_claims}
use Rattle.mb_model.specs.GateChecks.{stamp_claim}
use Rattle.mb_model.specs.Held.{plan_from, view_limit}
use Rattle.mb_model.specs.Histories.{Entry, Accepted, Stamped, Jumped, Executed, LostPatience, History, Identity, view_of}
use Rattle.mb_model.specs.Members.{In}
use Rattle.mb_model.specs.Inside.{claims_in, bodies_in, floor_bodies}
use Rattle.mb_host_laws.proofs.PlanFits.{OfBody, OfEntry}

-- The positions of a shown vote are below the limit.
abbrev pub IsLowBody : Evidence → Body OpenBody → Type 0
IsLowBody e (Whole b) = e.base + length b.batches < 2 ^ 63
IsLowBody e (Short digest) = Unit {0}

abbrev pub IsLowEntry : Shown → Type 0
IsLowEntry (shown.Prepare m) = m.pos < 2 ^ 63
IsLowEntry (shown.Commit m) = m.pos < 2 ^ 63
IsLowEntry (shown.Open m) = IsLowBody m.evidence m.body
IsLowEntry _ = Unit {0}

module _ {S : Type 0} (self : Identity S) (Good : Claim → Type 0) (Text : Bytes → Type 0) where
  abbrev pub AllGood : List Claim → Type 0
  AllGood l = AllByRecursion Good l

  pub record GoodStable (c : StableCert) : Type 0 where
    pub fits : FitsStable self.shape c
    pub claims : AllGood (stable_claims c)

  pub record GoodEvidence (e : Evidence) : Type 0 where
    pub fits : FitsEvidence self.shape e
    pub claims : AllGood (evidence_claims self.shape e)

  pub record GoodFloor (c : FloorCert) : Type 0 where
    pub fits : FitsFloorCert self.shape c
    pub claims : AllGood (floor_claims c)
    pub texts : AllByRecursion Text (floor_bodies c)

  -- what a VIEW_CHANGE of this host shows
  pub record GoodChange (b : ChangeBody) : Type 0 where
    pub floor : (c : FloorCert) → b.floor ≡ Some c → GoodFloor c
    pub stable : GoodStable b.stable
    pub entries : AllByRecursion (OfEntry GoodStable) b.entries
    pub claims : AllGood (log_claims self.shape self.host b)
    pub low : AllByRecursion IsLowEntry b.entries

  -- the certificates beside those in what a stamped message says
  abbrev pub GoodBody : StampedMessage → Type 0
  GoodBody (stamped.Open m) = OfBody GoodStable m.body × ((b : OpenBody) → m.body ≡ Whole b → m.evidence.base + length b.batches ≡ m.evidence.end)
  GoodBody (stamped.NewView m) = (b : NewViewBody) → m.body ≡ Whole b → GoodStable (plan_from self b.changes).base
  GoodBody (stamped.ViewChange m) = (b : ChangeBody) → m.body ≡ Whole b → GoodChange b
  GoodBody (stamped.Checkpoint m) = FitsBody (FitsFloorsBody self.shape) m.body × ((b : Floors) → m.body ≡ Whole b → Text (floors_body_bytes b))
  GoodBody _ = Unit {0}

  pub record KnownStamp (m : StampedMessage) : Type 0 where
    pub mine : (ui_of m).host ≡ self.host
    pub ui : FitsUi self.shape (ui_of m)
    pub bare : FitsBare self.shape (bare_of m)
    pub claim : Good (stamp_claim m)
    pub inner : AllGood (inner_claims self.shape (bare_of m))
    pub body : GoodBody m

  pub record KnownMessage (m : Message) : Type 0 where
    pub fits : FitsFields self.shape m
    pub claims : (c : Claim) → In (claims_in self.shape m) c → Good c
    pub texts : (x : Bytes) → In (bodies_in m) x → Text x

  abbrev pub Known : Entry → History → Type 0
  Known (Accepted m) d = KnownMessage m
  Known (Stamped m) d = KnownStamp m
  Known (Jumped g floor) d = FitsFloor floor
  Known (Executed slot) d = IsPosition slot.pos
  Known LostPatience d = (view_of self d == view_limit) ≡ false
  Known e d = Unit {0}
