-- Bare messages of the parts of a message have allowed values, and say what the parts say.
use Rattle.std.proofs.Common.{◌≡◌, ℕ, zero, suc, ◌≤◌, ◌<◌, List, [], ◌∷◌, ◌++◌, slice_get, Some, None, refl, sym, ap, subst, ◌∙◌, arith}
use Rattle.std.specs.List.{AllByRecursion}
use Rattle.std.proofs.lemmas.Option.{same_Some, none-some}
use Rattle.std.proofs.Math.Nat.{mod-lt}
use Rattle.sha2.proofs.Facts256.{length-sha256}
use Rattle.mb_base.specs.Shapes.{Bytes, primary, host_count}
use Rattle.mb_base.specs.declared.shape.Shape.{Shape}
use Rattle.mb_parts.specs.declared.certificates.StableCert.{StableCert}
use Rattle.mb_parts.specs.declared.certificates.StableMember.{StableMember}
use Rattle.mb_parts.specs.declared.certificates.FloorCert.{FloorCert}
use Rattle.mb_parts.specs.declared.certificates.FloorMember.{FloorMember}
use Rattle.mb_parts.specs.declared.certificates.Evidence.{Evidence}
use Rattle.mb_parts.specs.declared.certificates.EvidenceMember.{EvidenceMember}
use Rattle.mb_parts.specs.Fits.{IsDigest, FitsHeld, FitsStable, FitsStableMember, FitsFloorCert, FitsFloorMember, FitsEvidence, FitsBackup, FitsBatch}
use Rattle.mb_parts.specs.Spelling.{floors_bytes, batch_bytes}
use Rattle.mb_msg.specs.AsStamped.{stamped_digest}
use Rattle.mb_msg.specs.Bodies.{body_digest}
use Rattle.mb_msg.specs.Fits.{FitsStamped, FitsShown, FitsCommit, FitsFloorsBody, FitsChangeBody, FitsNewViewBody, FitsOpenBody}
use Rattle.mb_msg.specs.Spelling.{floors_body_bytes, change_body_bytes, new_view_body_bytes, open_body_bytes}
use Rattle.mb_msg.specs.declared.normal.Commit.{Commit}
use Rattle.mb_msg.specs.declared.stamped.Shown.{Shown}
use Rattle.mb_msg.specs.declared.stamped.Shown.TheVariants as shown
use Rattle.mb_msg.specs.declared.stamped.Stamped.{Stamped}
use Rattle.mb_msg.specs.declared.stamped.Stamped.TheVariants as stamped
use Rattle.mb_msg.specs.declared.transfer.Log.{Log}
use Rattle.mb_msg.specs.declared.message.Message.{Message}
use Rattle.mb_msg.specs.declared.message.Message.TheVariants as message
use Rattle.mb_msg.specs.Stamps.{as_stamped}
use Rattle.mb_msg.proofs.Injective.{digest_fits}
use Rattle.mb_model.specs.GateChecks.{stamp_claim}
use Rattle.mb_model.specs.Inside.{shown_claims, stamped_claims, claims_in}
use Rattle.mb_certified.specs.Certified.{IsBareStamp, bare_form, stamped_of, stable_stamp, floor_stamp, new_view_stamp, enter_stamp, named_stamp, inner_of}
use Rattle.mb_model.specs.Compared.{inside_some}

pub at_all : {A : Type 0} (P : A → Type 0) (l : List A) (i : ℕ) (x : A) → AllByRecursion P l → slice_get l i ≡ Some x → P x
at_all P [] i x all at = absurd (none-some x at)
at_all P (y ∷ l) zero x all at = subst P (same_Some y x at) all.0
at_all P (y ∷ l) (suc i) x all at = at_all P l i x all.1 at

-- What a USIG stamped is no LOG.
pub no_log : (m : Message) (x : Stamped) → as_stamped m ≡ Some x → (y : Log) → m ≡ message.Log y → ⊥
no_log m x is y same = none-some x (subst (λ (z : Message). as_stamped z ≡ Some x) same is)

module _ (s : Shape) where
  -- ---- members of certificates

  held_fits : (pos : ℕ) (state : Bytes) (members : List StableMember) (i : ℕ) (m : StableMember) → FitsHeld s pos state members → slice_get members i ≡ Some m → (1 ≤ pos) × (IsDigest state × FitsStableMember s m)
  held_fits zero state members i m h at = absurd (none-some m (subst (λ l. slice_get l i ≡ Some m) h.1 at))
  held_fits (suc pos) state members i m h at = (omega arith, (h.0, at_all (FitsStableMember s) members i m h.1.1.1 at))

  pub stable_bare : (c : StableCert) (i : ℕ) (m : StableMember) → FitsStable s c → slice_get c.members i ≡ Some m → IsBareStamp s (stable_stamp c m)
  stable_bare c i m f at =
      let h = held_fits c.pos c.state c.members i m f.held at in
      (record { pos = (h.0, f.pos.0); state = h.1.0; body = h.1.1.floors; ui = record { host = h.1.1.host; counter = h.1.1.counter; cert = h.1.1.cert } }, refl)

  pub floor_bare : (c : FloorCert) (i : ℕ) (m : FloorMember) → FitsFloorCert s c → slice_get c.members i ≡ Some m → IsBareStamp s (floor_stamp c m)
  floor_bare c i m f at =
      let h = at_all (FitsFloorMember s) c.members i m f.members.1.1 at in
      (record { pos = (f.pos.0, f.pos.1.0); state = f.state; body = length-sha256 (floors_bytes m.floors); ui = record { host = h.host; counter = h.counter; cert = h.cert } }, refl)

  pub enter_bare : (e : Evidence) (i : ℕ) (m : EvidenceMember) → FitsEvidence s e → slice_get e.members i ≡ Some m → IsBareStamp s (enter_stamp e m)
  enter_bare e i m f at =
      let h = at_all (FitsBackup s e.view) e.members i m f.members.1.1 at in
      (record { view = f.view; counter = f.counter; plan = f.plan; ui = record { host = h.0.host; counter = h.0.counter; cert = h.0.cert } }, refl)

  -- The primary of a view is one of the hosts.
  pub primary_there : (v : ℕ) → primary s v < host_count s
  primary_there v = mod-lt v (omega arith)

  pub new_view_bare : (e : Evidence) → primary s e.view < host_count s → FitsEvidence s e → IsBareStamp s (new_view_stamp s e)
  new_view_bare e there f = (record { view = f.view; base = f.base; end = f.end; plan = f.plan; body = f.body; ui = record { host = there; counter = f.counter; cert = f.cert } }, refl)

  pub named_bare : (m : Commit) (d : Bytes) → primary s m.view < host_count s → d ≡ body_digest batch_bytes m.body → FitsCommit s m → IsBareStamp s (named_stamp s m d)
  named_bare m d there is f = (record { view = f.view; pos = f.pos; body = subst IsDigest (sym is) (digest_fits (FitsBatch s) batch_bytes m.body f.body); ui = record { host = there; counter = f.counter; cert = f.cert } }, refl)

  -- ---- a message itself

  -- Its bare form is bare.
  pub form_bare : (m : Stamped) (d : Bytes) → d ≡ stamped_digest m → FitsStamped s m → IsBareStamp s (bare_form d m)
  form_bare (stamped.Prepare m) d is f = (record { view = f.view; pos = f.pos; body = subst IsDigest (sym is) (digest_fits (FitsBatch s) batch_bytes m.body f.body); ui = f.ui }, refl)
  form_bare (stamped.Commit m) d is f = (record { view = f.view; pos = f.pos; counter = f.counter; cert = f.cert; body = subst IsDigest (sym is) (digest_fits (FitsBatch s) batch_bytes m.body f.body); ui = f.ui }, refl)
  form_bare (stamped.Checkpoint m) d is f = (record { pos = f.pos; state = f.state; body = subst IsDigest (sym is) (digest_fits (FitsFloorsBody s) floors_body_bytes m.body f.body); ui = f.ui }, refl)
  form_bare (stamped.ViewChange m) d is f = (record { view = f.view; body = subst IsDigest (sym is) (digest_fits (FitsChangeBody s) change_body_bytes m.body f.body); ui = f.ui }, refl)
  form_bare (stamped.NewView m) d is f = (record { view = f.view; base = f.base; end = f.end; plan = f.plan; body = subst IsDigest (sym is) (digest_fits (FitsNewViewBody s) new_view_body_bytes m.body f.body); ui = f.ui }, refl)
  form_bare (stamped.Open m) d is f = (record { evidence = f.evidence; body = subst IsDigest (sym is) (digest_fits (FitsOpenBody s m.evidence) open_body_bytes m.body f.body); ui = f.ui }, refl)
  form_bare (stamped.Enter m) d is f = (f, refl)
  form_bare (stamped.Join m) d is f = (f, refl)

  -- It says the same.
  pub form_says : (m : Stamped) (d : Bytes) → d ≡ stamped_digest m → stamp_claim (bare_form d m) ≡ stamp_claim m
  form_says (stamped.Prepare m) d is = rw is refl
  form_says (stamped.Commit m) d is = rw is refl
  form_says (stamped.Checkpoint m) d is = rw is refl
  form_says (stamped.ViewChange m) d is = rw is refl
  form_says (stamped.NewView m) d is = rw is refl
  form_says (stamped.Open m) d is = rw is refl
  form_says (stamped.Enter m) d is = refl
  form_says (stamped.Join m) d is = refl

  -- ---- an entry of a shown log

  pub shown_fits : (e : Shown) → FitsShown s e → FitsStamped s (stamped_of e)
  shown_fits (shown.Prepare m) f = f
  shown_fits (shown.Commit m) f = f
  shown_fits (shown.Checkpoint m) f = record { pos = f.pos; state = f.state; body = f.body; ui = f.ui }
  shown_fits (shown.ViewChange m) f = record { view = f.view; body = f.body; ui = f.ui }
  shown_fits (shown.NewView m) f = record { view = f.view; base = f.base; end = f.end; plan = f.plan; body = f.body; ui = f.ui }
  shown_fits (shown.Enter m) f = f
  shown_fits (shown.Open m) f = f
  shown_fits (shown.Join m) f = f

  pub shown_says : (e : Shown) → inner_of s (stamped_of e) ++ stamp_claim (stamped_of e) ∷ [] ≡ shown_claims s e
  unfolding shown_claims
  shown_says (shown.Prepare m) = refl
  shown_says (shown.Commit m) = refl
  shown_says (shown.Checkpoint m) = refl
  shown_says (shown.ViewChange m) = refl
  shown_says (shown.NewView m) = refl
  shown_says (shown.Enter m) = refl
  shown_says (shown.Open m) = refl
  shown_says (shown.Join m) = refl

  -- ---- a message

  -- but for a LOG, what a USIG stamped has claims alone
  by_kind : (m : Message) → ((x : Log) → m ≡ message.Log x → ⊥) → claims_in s m ≡ inside_some (stamped_claims s) (as_stamped m)
  unfolding claims_in
  by_kind (message.Log m) other = absurd (other m refl)
  by_kind m other = refl

  pub some_in : (m : Message) (x : Stamped) → as_stamped m ≡ Some x → stamped_claims s x ≡ claims_in s m
  some_in m x is = sym (by_kind m (no_log m x is) ∙ ap (inside_some (stamped_claims s)) is)

  pub none_in : (m : Message) → as_stamped m ≡ None → ((x : Log) → m ≡ message.Log x → ⊥) → claims_in s m ≡ []
  none_in m none other = by_kind m other ∙ ap (inside_some (stamped_claims s)) none
