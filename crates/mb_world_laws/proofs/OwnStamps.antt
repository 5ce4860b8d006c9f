-- What a correct host stamped has the values of the grammar, and the certificates in it were issued: all that a host puts into a message it took from
-- messages that it accepted, or stamped itself.
use Rattle.std.proofs.Common.{◌≡◌, ℕ, ◌^◌, ◌<◌, true, List, [], ◌∷◌, refl, subst, inl, inr, Option, Some, None}
use Rattle.std.specs.Option.{IfSome}
use Rattle.std.specs.List.{AllByRecursion}
use Rattle.mb_base.specs.Shapes.{Bytes, IsShape}
use Rattle.mb_parts.specs.declared.certificates.FloorCert.{FloorCert}
use Rattle.mb_parts.specs.Bares.{Bare}
use Rattle.mb_parts.specs.Claims.{Claim, inner_claims}
use Rattle.mb_parts.specs.CheckedCertificates.{Carries}
use Rattle.mb_parts.specs.Fits.{FitsBare, FitsStable, FitsFloorCert}
use Rattle.mb_msg.specs.declared.message.Body.{Body}
use Rattle.mb_msg.specs.declared.message.Body.TheVariants.{Whole, Bare as Short}
use Rattle.mb_msg.specs.declared.message.Message.{Message}
use Rattle.mb_msg.specs.declared.change.ChangeBody.{ChangeBody}
use Rattle.mb_msg.specs.declared.change.OpenBody.{OpenBody}
use Rattle.mb_msg.specs.declared.change.ViewChange.{ViewChange}
use Rattle.mb_msg.specs.declared.normal.Checkpoint.{Checkpoint}
use Rattle.mb_msg.specs.declared.stamped.Shown.{Shown}
use Rattle.mb_msg.specs.declared.stamped.Shown.TheVariants as shown
use Rattle.mb_msg.specs.declared.stamped.Stamped.{Stamped as StampedMessage}
use Rattle.mb_msg.specs.declared.stamped.Stamped.TheVariants as stamped_message
use Rattle.mb_msg.specs.Bodies.{FitsBody}
use Rattle.mb_msg.specs.Fits.{FitsFields, FitsFloorsBody}
use Rattle.mb_model.specs.CarriedLogs.{log_claims}
use Rattle.mb_model.specs.Verified.{verifies}
use Rattle.mb_model.specs.Histories.{Stamped, History, said, stamped, counter_of}
use Rattle.mb_steps.specs.OwnLists.{AreNumbered}
use Rattle.mb_model.specs.Members.{In}
use Rattle.mb_steps.specs.Arises.{Arises}
use Rattle.mb_world_model.specs.WorldEvents.{IsCorrect}
use Rattle.mb_world_model.specs.World.{World, System, self_of}
use Rattle.mb_world_model.specs.WorldRecord.{issued}
use Rattle.mb_world_laws.proofs.Grown.{IsGivenTo}
use Rattle.mb_world_laws.proofs.Standings.{Standing}
use Rattle.mb_world_laws.proofs.Facts.{IsKnownBody}
use Rattle.mb_host_laws.proofs.PlanFits.{OfBody, OfEntry}
use Rattle.mb_host_laws.proofs.OwnKnown.{GoodStable, GoodFloor, GoodChange, KnownStamp}
use Rattle.mb_world_laws.proofs.AllKnown.{IsGood, IsText, KnownIn, all_known}

module _ {S : Type 0} (system : System S) (w : World) (shape : IsShape system.schedule.shape) (s : Standing system w)
    (numbered : (h : ℕ) → AreNumbered (self_of system h) (stamped (w.histories h))) (read : (h : ℕ) (m : Message) → IsGivenTo system.schedule w h m → FitsFields system.schedule.shape m)
    (low : (h : ℕ) → counter_of (w.histories h) < 2 ^ 64) (arises : (h : ℕ) → Arises (self_of system h) (w.histories h)) where
  abbrev Good : Claim → Type 0
  Good c = IsGood system w shape s numbered read low c

  abbrev Text : Bytes → Type 0
  Text b = IsText system w shape s numbered read low b

  abbrev KnownHere : ℕ → History → Type 0
  KnownHere h d = KnownIn system w shape s numbered read low h d

  known : (h : ℕ) → IsCorrect system.schedule h → KnownHere h (w.histories h)
  known h correct = all_known system w shape s numbered read low h correct (w.histories h) (record { later = []; is = refl }) (arises h) (s.rests h)

  carries : (l : List Claim) → AllByRecursion Good l → Carries (verifies system.schedule.secret) (issued system.schedule w) l
  carries [] a = tt
  carries (c ∷ l) a = (a.0, carries l a.1)

  all_fit : (h : ℕ) (d : History) → KnownHere h d → AllByRecursion (FitsBare system.schedule.shape) (said d)
  unfolding stamped
  all_fit h [] k = tt
  all_fit h (Stamped m ∷ d) k = (k.0.bare, all_fit h d k.1)
  all_fit h (e ∷ d) k = all_fit h d k.1

  -- It fits.
  pub own_fits : (h : ℕ) → IsCorrect system.schedule h → AllByRecursion (FitsBare system.schedule.shape) (said (w.histories h))
  own_fits h correct = all_fit h (w.histories h) (known h correct)

  all_carry : (h : ℕ) (d : History) → KnownHere h d → AllByRecursion (λ (b : Bare). Carries (verifies system.schedule.secret) (issued system.schedule w) (inner_claims system.schedule.shape b)) (said d)
  unfolding stamped
  all_carry h [] k = tt
  all_carry h (Stamped m ∷ d) k = (carries _ k.0.inner, all_carry h d k.1)
  all_carry h (e ∷ d) k = all_carry h d k.1

  -- The certificates in what it says were issued.
  pub own_knows : (h : ℕ) → IsCorrect system.schedule h → AllByRecursion (λ (b : Bare). Carries (verifies system.schedule.secret) (issued system.schedule w) (inner_claims system.schedule.shape b)) (said (w.histories h))
  own_knows h correct = all_carry h (w.histories h) (known h correct)

  abbrev IsStamp : ℕ → StampedMessage → Type 0
  IsStamp h m = KnownStamp (self_of system h) Good Text m

  stamp_of : (h : ℕ) (d : History) → KnownHere h d → (m : StampedMessage) → In (stamped d) m → IsStamp h m
  unfolding stamped
  stamp_of h [] k m i = absurd i
  stamp_of h (Stamped x ∷ d) k m (inl is) = subst (IsStamp h) is k.0
  stamp_of h (Stamped x ∷ d) k m (inr i) = stamp_of h d k.1 m i
  stamp_of h (e ∷ d) k m i = stamp_of h d k.1 m i

  -- The floors that its CHECKPOINTs show fit.
  pub own_floors : (h : ℕ) → IsCorrect system.schedule h → (m : Checkpoint) → In (stamped (w.histories h)) (stamped_message.Checkpoint m) → FitsBody (FitsFloorsBody system.schedule.shape) m.body
  own_floors h correct m i = (stamp_of h (w.histories h) (known h correct) (stamped_message.Checkpoint m) i).body.0

  body_fits : (h : ℕ) (b : Body OpenBody) → OfBody (GoodStable (self_of system h) Good Text) b → OfBody (FitsStable system.schedule.shape) b
  body_fits h (Whole b) g = g.fits
  body_fits h (Short d) g = tt

  entry_fits : (h : ℕ) (e : Shown) → OfEntry (GoodStable (self_of system h) Good Text) e → OfEntry (FitsStable system.schedule.shape) e
  entry_fits h (shown.Open m) g = body_fits h m.body g
  entry_fits h (shown.Join m) g = g.fits
  entry_fits h (shown.Prepare m) g = tt
  entry_fits h (shown.Commit m) g = tt
  entry_fits h (shown.Checkpoint m) g = tt
  entry_fits h (shown.ViewChange m) g = tt
  entry_fits h (shown.NewView m) g = tt
  entry_fits h (shown.Enter m) g = tt

  entries_fit : (h : ℕ) (l : List Shown) → AllByRecursion (OfEntry (GoodStable (self_of system h) Good Text)) l → AllByRecursion (OfEntry (FitsStable system.schedule.shape)) l
  entries_fit h [] a = tt
  entries_fit h (e ∷ l) a = (entry_fits h e a.0, entries_fit h l a.1)

  change_known : (h : ℕ) (b : ChangeBody) → GoodChange (self_of system h) Good Text b → IsKnownBody system.schedule w h b
  change_known h b g = record {
    claims = carries (log_claims system.schedule.shape h b) g.claims;
    fits = record { floor = floor b.floor g.floor; stable = g.stable.fits; entries = entries_fit h b.entries g.entries };
    floors = λ c e. (g.floor c e).texts;
  } where
    floor : (o : Option FloorCert) → ((c : FloorCert) → o ≡ Some c → GoodFloor (self_of system h) Good Text c) → IfSome o (FitsFloorCert system.schedule.shape)
    floor None f = tt
    floor (Some c) f = (f c refl).fits

  -- What its VIEW_CHANGEs show is known.
  pub own_changes : (h : ℕ) → IsCorrect system.schedule h → (m : ViewChange) (b : ChangeBody) → In (stamped (w.histories h)) (stamped_message.ViewChange m) → m.body ≡ Whole b → IsKnownBody system.schedule w h b
  own_changes h correct m b i e = change_known h b ((stamp_of h (w.histories h) (known h correct) (stamped_message.ViewChange m) i).body b e)
