-- What members of certificates claim fits, where the certificate does.
use Rattle.std.proofs.Common.{◌≡◌, ℕ, zero, suc, ◌≤◌, List, [], ◌∷◌, slice_get, Some, option_map, refl, sym, subst, arith}
use Rattle.std.specs.List.{AllByRecursion}
use Rattle.std.proofs.lemmas.Option.{same_Some, none-some}
use Rattle.sha2.proofs.Facts256.{length-sha256}
use Rattle.mb_base.specs.declared.names.Ui.{Ui}
use Rattle.mb_base.specs.declared.shape.Shape.{Shape}
use Rattle.mb_base.specs.Shapes.{Bytes}
use Rattle.mb_parts.specs.declared.certificates.StableCert.{StableCert}
use Rattle.mb_parts.specs.declared.certificates.StableMember.{StableMember}
use Rattle.mb_parts.specs.declared.certificates.FloorCert.{FloorCert}
use Rattle.mb_parts.specs.declared.certificates.FloorMember.{FloorMember}
use Rattle.mb_parts.specs.declared.certificates.Evidence.{Evidence}
use Rattle.mb_parts.specs.declared.certificates.EvidenceMember.{EvidenceMember}
use Rattle.mb_parts.specs.Fits.{IsDigest, FitsHeld, FitsStable, FitsStableMember, FitsFloorCert, FitsFloorMember, FitsFloors, FitsEvidence, FitsBackup, FitsBatch, FitsBare}
use Rattle.mb_parts.specs.Spelling.{floors_bytes, batch_bytes}
use Rattle.mb_parts.specs.Bares as bare
use Rattle.mb_msg.specs.declared.normal.Commit.{Commit}
use Rattle.mb_msg.specs.declared.stamped.Shown.{Shown}
use Rattle.mb_msg.specs.declared.stamped.Shown.TheVariants as shown
use Rattle.mb_msg.specs.declared.stamped.Stamped.{Stamped}
use Rattle.mb_msg.specs.declared.stamped.Stamped.TheVariants as stamped
use Rattle.mb_msg.specs.declared.message.Message.{Message}
use Rattle.mb_msg.specs.declared.message.Message.TheVariants as message
use Rattle.mb_msg.specs.Bodies.{body_digest}
use Rattle.mb_msg.specs.Spelling.{open_body_bytes}
use Rattle.mb_msg.specs.Stamps.{as_stamped, ui_of, bare_of_shown}
use Rattle.mb_msg.specs.Fits.{FitsShown, FitsCommit, FitsOpenBody, FitsFields, FitsStamped}
use Rattle.mb_msg.proofs.Injective.{digest_fits}
use Rattle.mb_forgery.specs.Checks.{FitsClaim, stable_claim, floor_claim, enter_claim}

at_all : {A : Type 0} (P : A → Type 0) (l : List A) (i : ℕ) (x : A) → AllByRecursion P l → slice_get l i ≡ Some x → P x
at_all P [] i x all at = absurd (none-some x at)
at_all P (y ∷ l) zero x all at = subst P (same_Some y x at) all.0
at_all P (y ∷ l) (suc i) x all at = at_all P l i x all.1 at

module _ (s : Shape) where
  held_fits : (pos : ℕ) (state : Bytes) (members : List StableMember) (i : ℕ) (m : StableMember) → FitsHeld s pos state members → slice_get members i ≡ Some m → (1 ≤ pos) × (IsDigest state × FitsStableMember s m)
  held_fits zero state members i m h at = absurd (none-some m (subst (λ l. slice_get l i ≡ Some m) h.1 at))
  held_fits (suc pos) state members i m h at = (omega arith, (h.0, at_all (FitsStableMember s) members i m h.1.1.1 at))

  pub stable_fits : (c : StableCert) (i : ℕ) (m : StableMember) → FitsStable s c → slice_get c.members i ≡ Some m → FitsClaim s (stable_claim c m)
  stable_fits c i m f at =
      let h = held_fits c.pos c.state c.members i m f.held at in
      record { host = h.1.1.host; counter = h.1.1.counter; says = ((h.0, f.pos.0), (h.1.0, h.1.1.floors)); cert = h.1.1.cert }

  pub floor_fits : (c : FloorCert) (i : ℕ) (m : FloorMember) → FitsFloorCert s c → slice_get c.members i ≡ Some m → FitsClaim s (floor_claim c m) × FitsFloors s m.floors
  floor_fits c i m f at =
      let h = at_all (FitsFloorMember s) c.members i m f.members.1.1 at in
      (record { host = h.host; counter = h.counter; says = ((f.pos.0, f.pos.1.0), (f.state, length-sha256 (floors_bytes m.floors))); cert = h.cert }, h.floors)

  pub enter_fits : (e : Evidence) (i : ℕ) (m : EvidenceMember) → FitsEvidence s e → slice_get e.members i ≡ Some m → FitsClaim s (enter_claim e m)
  enter_fits e i m f at =
      let h = at_all (FitsBackup s e.view) e.members i m f.members.1.1 at in
      record { host = h.0.host; counter = h.0.counter; says = (f.view, (f.counter, f.plan)); cert = h.0.cert }

  -- what an entry of a log says
  pub shown_fits : (e : Shown) → FitsShown s e → FitsBare s (bare_of_shown e)
  shown_fits (shown.Prepare m) f = (f.view, (f.pos, digest_fits (FitsBatch s) batch_bytes m.body f.body))
  shown_fits (shown.Commit m) f = (f.view, (f.pos, (f.counter, (f.cert, digest_fits (FitsBatch s) batch_bytes m.body f.body))))
  shown_fits (shown.Checkpoint m) f = (f.pos, (f.state, f.body))
  shown_fits (shown.ViewChange m) f = (f.view, f.body)
  shown_fits (shown.NewView m) f = (f.view, (f.base, (f.end, (f.plan, f.body))))
  shown_fits (shown.Enter m) f = (f.view, (f.counter, f.plan))
  shown_fits (shown.Open m) f = (f.evidence, digest_fits (FitsOpenBody s m.evidence) open_body_bytes m.body f.body)
  shown_fits (shown.Join m) f = (f.view, (f.evidence, (f.stable, f.above)))

  -- the PREPARE that a COMMIT names
  pub named_fits : (m : Commit) → FitsCommit s m → FitsBare s (bare.Prepare m.view m.pos (body_digest batch_bytes m.body))
  named_fits m f = (f.view, (f.pos, digest_fits (FitsBatch s) batch_bytes m.body f.body))

  -- a message with an identifier is a stamped one that fits
  pub own_is : (m : Message) (u : Ui) → FitsFields s m → Some u ≡ option_map ui_of (as_stamped m) → (x : Stamped) × ((as_stamped m ≡ Some x) × (FitsStamped s x × (u ≡ ui_of x)))
  own_is (message.Prepare m) u f e = (stamped.Prepare m, (refl, (f, same_Some u m.ui e)))
  own_is (message.Commit m) u f e = (stamped.Commit m, (refl, (f, same_Some u m.ui e)))
  own_is (message.Checkpoint m) u f e = (stamped.Checkpoint m, (refl, (f, same_Some u m.ui e)))
  own_is (message.ViewChange m) u f e = (stamped.ViewChange m, (refl, (f, same_Some u m.ui e)))
  own_is (message.NewView m) u f e = (stamped.NewView m, (refl, (f, same_Some u m.ui e)))
  own_is (message.Enter m) u f e = (stamped.Enter m, (refl, (f, same_Some u m.ui e)))
  own_is (message.Open m) u f e = (stamped.Open m, (refl, (f, same_Some u m.ui e)))
  own_is (message.Join m) u f e = (stamped.Join m, (refl, (f, same_Some u m.ui e)))
  own_is (message.Request m) u f e = absurd (none-some u (sym e))
  own_is (message.Reply m) u f e = absurd (none-some u (sym e))
  own_is (message.ReqViewChange m) u f e = absurd (none-some u (sym e))
  own_is (message.Resend m) u f e = absurd (none-some u (sym e))
  own_is (message.Log m) u f e = absurd (none-some u (sym e))
  own_is (message.Fetch m) u f e = absurd (none-some u (sym e))
  own_is (message.State m) u f e = absurd (none-some u (sym e))
  own_is (message.Stop m) u f e = absurd (none-some u (sym e))
