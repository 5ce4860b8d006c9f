-- How many bytes the parts of messages have at most that a VIEW_CHANGE and a LOG are made of.
use Rattle.std.proofs.Common.{◌≡◌, ℕ, zero, suc, ◌+◌, ◌*◌, ◌^◌, ◌≤◌, false, List, [], ◌∷◌, length, ap, ◌∙◌, arith, Option, Some, None}
use Rattle.std.specs.Prelude.{◌==◌}
use Rattle.std.specs.Option.{IfSome}
use Rattle.std.specs.Int.{w8, w16, w64}
use Rattle.std.specs.List.{AllByRecursion, flat_map}
use Rattle.std.proofs.lemmas.Bool.{ne_eqb}
use Rattle.std.proofs.lemmas.List.{length-append}
use Rattle.std.proofs.lemmas.List.Concat.{flat_map-cons}
use Rattle.std.proofs.Math.Nat.{mul-suc}
use Rattle.mb_base.specs.Shapes.{Bytes, IsShape}
use Rattle.mb_base.specs.Spelling.{number, optional}
use Rattle.mb_base.specs.declared.shape.Shape.{Shape}
use Rattle.mb_base.specs.declared.names.Ui.{Ui}
use Rattle.mb_base.proofs.Laws.{number_length, wide8, wide16, wide64}
use Rattle.mb_parts.specs.declared.batch.Batch.{Batch}
use Rattle.mb_parts.specs.declared.floor.Floor.{Floor}
use Rattle.mb_parts.specs.declared.certificates.StableMember.{StableMember}
use Rattle.mb_parts.specs.declared.certificates.StableCert.{StableCert}
use Rattle.mb_parts.specs.declared.certificates.FloorMember.{FloorMember}
use Rattle.mb_parts.specs.declared.certificates.FloorCert.{FloorCert}
use Rattle.mb_parts.specs.declared.certificates.EvidenceMember.{EvidenceMember}
use Rattle.mb_parts.specs.declared.certificates.Evidence.{Evidence}
use Rattle.mb_parts.specs.Bares.{if_there}
use Rattle.mb_parts.specs.Fits.{FitsBatch, FitsUi, FitsFloor, FitsFloors, FitsStableMember, FitsHeld, FitsStable, FitsFloorMember, FitsFloorCert, FitsBackup, FitsEvidence, FitsJoined}
use Rattle.mb_parts.specs.Spelling.{ui_bytes, batch_bytes, floor_bytes, floors_bytes, stable_member_bytes, held_bytes, stable_bytes, floor_member_bytes, floor_cert_bytes, evidence_member_bytes, evidence_bytes}
use Rattle.mb_msg.specs.declared.message.Body.{Body}
use Rattle.mb_msg.specs.declared.message.Body.TheVariants.{Whole, Bare as Short}
use Rattle.mb_msg.specs.declared.normal.Prepare.{Prepare}
use Rattle.mb_msg.specs.declared.normal.Commit.{Commit}
use Rattle.mb_msg.specs.declared.normal.Checkpoint.{Checkpoint}
use Rattle.mb_msg.specs.declared.normal.BareCheckpoint.{BareCheckpoint}
use Rattle.mb_msg.specs.declared.change.BareViewChange.{BareViewChange}
use Rattle.mb_msg.specs.declared.change.BareNewView.{BareNewView}
use Rattle.mb_msg.specs.declared.change.Enter.{Enter}
use Rattle.mb_msg.specs.declared.change.Open.{Open}
use Rattle.mb_msg.specs.declared.change.OpenBody.{OpenBody}
use Rattle.mb_msg.specs.declared.change.Join.{Join}
use Rattle.mb_msg.specs.Bodies.{FitsBody, body_bytes}
use Rattle.mb_msg.specs.Fits.{FitsPrepare, FitsCommit, FitsFloorsBody, FitsCheckpoint, FitsBareCheckpoint, FitsBareViewChange, FitsBareNewView, FitsEnter, FitsOpenBody, FitsOpen, FitsJoin}
use Rattle.mb_msg.specs.Spelling.{prepare_bytes, commit_bytes, floors_body_bytes, checkpoint_bytes, bare_checkpoint_bytes, bare_view_change_bytes, bare_new_view_bytes, enter_bytes, open_body_bytes, open_bytes, join_bytes}

pub length8 : (n : ℕ) → length (number w8 n) ≡ 1
length8 n = number_length w8 (2 ^ 8) n wide8

pub length16 : (n : ℕ) → length (number w16 n) ≡ 2
length16 n = number_length w16 (2 ^ 16) n wide16

pub length64 : (n : ℕ) → length (number w64 n) ≡ 8
length64 n = number_length w64 (2 ^ 64) n wide64

-- A list of texts is as long as all of them.
pub flat_short : {A : Type 0} (f : A → Bytes) (k : ℕ) (l : List A) → AllByRecursion (λ (x : A). length (f x) ≤ k) l → length (flat_map f l) ≤ k * length l
flat_short f k [] a = omega arith
flat_short f k (x ∷ l) a =
    let joined : length (flat_map f (x ∷ l)) ≡ length (f x) + length (flat_map f l) = ap length (flat_map-cons f x l) ∙ length-append (f x) (flat_map f l) in
    let many : k * suc (length l) ≡ k * length l + k = mul-suc k (length l) in
    omega (arith, joined, many, a.0, flat_short f k l a.1)

all_short : {A : Type 0} (P Q : A → Type 0) → ((x : A) → P x → Q x) → (l : List A) → AllByRecursion P l → AllByRecursion Q l
all_short P Q f [] a = tt
all_short P Q f (x ∷ l) a = (f x a.0, all_short P Q f l a.1)

module _ (s : Shape) (shape : IsShape s) where
  pub ui_short : (u : Ui) → FitsUi s u → length (ui_bytes u) ≤ 41
  unfolding ui_bytes
  ui_short u f = simp (length-append, length8, length64, f.cert) (omega arith)

  batch_short : (b : Batch) → FitsBatch s b → length (batch_bytes b) ≤ 2049
  unfolding batch_bytes
  batch_short b f = simp (length-append, length8) (omega (arith, f.size))

  body_short : (b : Body Batch) → FitsBody (FitsBatch s) b → length (body_bytes batch_bytes b) ≤ 2049
  body_short (Whole b) f = batch_short b f
  body_short (Short d) f = omega (arith, f)

  -- ---- certificates

  floor_short : (f : Floor) → length (floor_bytes f) ≤ 41
  unfolding floor_bytes
  floor_short f = simp (length-append, length8, length64) (omega arith)

  optional_floor : (o : Option Floor) → length (optional floor_bytes o) ≤ 42
  optional_floor None = omega (arith, length8 0)
  optional_floor (Some f) = omega (arith, length-append (number w8 1) (floor_bytes f), length8 1, floor_short f)

  floors_short : (l : List (Option Floor)) → FitsFloors s l → length (floors_bytes l) ≤ 294
  floors_short l f =
      let each = flat_short (optional floor_bytes) 42 l (all_short (λ o. IfSome o FitsFloor) (λ o. length (optional floor_bytes o) ≤ 42) (λ o g. optional_floor o) l f.1) in
      omega (arith, each, f.0, shape.faults.1)

  floor_member_short : (m : FloorMember) → FitsFloorMember s m → length (floor_member_bytes m) ≤ 335
  unfolding floor_member_bytes
  floor_member_short m f = let floors = floors_short m.floors f.floors in simp (length-append, length8, length64, f.cert) (omega (arith, floors))

  pub floor_cert_short : (c : FloorCert) → FitsFloorCert s c → length (floor_cert_bytes c) ≤ 1380
  unfolding floor_cert_bytes
  floor_cert_short c f =
      let each = flat_short floor_member_bytes 335 c.members (all_short (FitsFloorMember s) (λ m. length (floor_member_bytes m) ≤ 335) floor_member_short c.members f.members.1.1) in
      simp (length-append, length64, f.state) (omega (arith, each, f.members.0, shape.faults.1))

  stable_member_short : (m : StableMember) → FitsStableMember s m → length (stable_member_bytes m) ≤ 73
  unfolding stable_member_bytes
  stable_member_short m f = simp (length-append, length8, length64, f.floors, f.cert) (omega arith)

  held_short : (pos : ℕ) (state : Bytes) (members : List StableMember) → FitsHeld s pos state members → length (held_bytes pos state members) ≤ 324
  held_short zero state members f = omega arith
  held_short (suc pos) state members f =
      let each = flat_short stable_member_bytes 73 members (all_short (FitsStableMember s) (λ m. length (stable_member_bytes m) ≤ 73) stable_member_short members f.1.1.1) in
      let above : (suc pos == 0) ≡ false = ne_eqb (suc pos) 0 (λ e. omega (arith, e)) in
      rw above (omega (arith, length-append state (flat_map stable_member_bytes members), f.0, each, f.1.0, shape.faults.1))

  pub stable_short : (c : StableCert) → FitsStable s c → length (stable_bytes c) ≤ 332
  unfolding stable_bytes
  stable_short c f = omega (arith, length-append (number w64 c.pos) (held_bytes c.pos c.state c.members), length64 c.pos, held_short c.pos c.state c.members f.held)

  evidence_member_short : (v : ℕ) (m : EvidenceMember) → FitsBackup s v m → length (evidence_member_bytes m) ≤ 41
  unfolding evidence_member_bytes
  evidence_member_short v m f = simp (length-append, length8, length64, f.0.cert) (omega arith)

  pub evidence_short : (e : Evidence) → FitsEvidence s e → length (evidence_bytes e) ≤ 251
  unfolding evidence_bytes
  evidence_short e f =
      let each = flat_short evidence_member_bytes 41 e.members (all_short (FitsBackup s e.view) (λ m. length (evidence_member_bytes m) ≤ 41) (evidence_member_short e.view) e.members f.members.1.1) in
      simp (length-append, length64, f.plan, f.body, f.cert) (omega (arith, each, f.members.0, shape.faults.1))

  joined_short : (v : ℕ) (o : Option Evidence) → FitsJoined s v o → length (if_there o) ≤ 251
  joined_short v None f = omega arith
  joined_short v (Some e) f = evidence_short e f.0

  -- ---- stamped kinds

  pub prepare_short : (m : Prepare) → FitsPrepare s m → length (prepare_bytes m) ≤ 2107
  unfolding prepare_bytes
  prepare_short m f = let body = body_short m.body f.body in let ui = ui_short m.ui f.ui in simp (length-append, length8, length64) (omega (arith, body, ui))

  pub commit_short : (m : Commit) → FitsCommit s m → length (commit_bytes m) ≤ 2147
  unfolding commit_bytes
  commit_short m f = let body = body_short m.body f.body in let ui = ui_short m.ui f.ui in simp (length-append, length8, length64, f.cert) (omega (arith, body, ui))

  floors_body_short : (b : Body _) → FitsBody (FitsFloorsBody s) b → length (body_bytes floors_body_bytes b) ≤ 294
  floors_body_short (Whole b) f = floors_short b.floors f
  floors_body_short (Short d) f = omega (arith, f)

  pub checkpoint_short : (m : Checkpoint) → FitsCheckpoint s m → length (checkpoint_bytes m) ≤ 376
  unfolding checkpoint_bytes
  checkpoint_short m f = let body = floors_body_short m.body f.body in let ui = ui_short m.ui f.ui in simp (length-append, length8, length64, f.state) (omega (arith, body, ui))

  pub bare_checkpoint_short : (m : BareCheckpoint) → FitsBareCheckpoint s m → length (bare_checkpoint_bytes m) ≤ 114
  unfolding bare_checkpoint_bytes
  bare_checkpoint_short m f = let ui = ui_short m.ui f.ui in simp (length-append, length8, length64, f.state, f.body) (omega (arith, ui))

  pub bare_change_short : (m : BareViewChange) → FitsBareViewChange s m → length (bare_view_change_bytes m) ≤ 82
  unfolding bare_view_change_bytes
  bare_change_short m f = let ui = ui_short m.ui f.ui in simp (length-append, length8, length64, f.body) (omega (arith, ui))

  pub bare_new_view_short : (m : BareNewView) → FitsBareNewView s m → length (bare_new_view_bytes m) ≤ 130
  unfolding bare_new_view_bytes
  bare_new_view_short m f = let ui = ui_short m.ui f.ui in simp (length-append, length8, length64, f.plan, f.body) (omega (arith, ui))

  pub enter_short : (m : Enter) → FitsEnter s m → length (enter_bytes m) ≤ 90
  unfolding enter_bytes
  enter_short m f = let ui = ui_short m.ui f.ui in simp (length-append, length8, length64, f.plan) (omega (arith, ui))

  pub join_short : (m : Join) → FitsJoin s m → length (join_bytes m) ≤ 633
  unfolding join_bytes
  join_short m f = let ui = ui_short m.ui f.ui in let shown = joined_short m.view m.evidence f.evidence in let stable = stable_short m.stable f.stable in
      simp (length-append, length8, length64) (omega (arith, ui, shown, stable))

  open_body_short : (e : Evidence) (b : OpenBody) → FitsEvidence s e → FitsOpenBody s e b → length (open_body_bytes b) ≤ 131468
  unfolding open_body_bytes
  open_body_short e b g f =
      let each = flat_short batch_bytes 2049 b.batches (all_short (FitsBatch s) (λ x. length (batch_bytes x) ≤ 2049) batch_short b.batches f.0.1) in
      omega (arith, length-append (stable_bytes b.stable) (flat_map batch_bytes b.batches), stable_short b.stable f.0.0, each, f.1.1, g.end.1.0, shape.intervals.1)

  -- 131,468 more where the body is whole
  pub open_short : (m : Open) → FitsOpen s m → length (open_bytes m) ≤ 293 + length (body_bytes open_body_bytes m.body)
  unfolding open_bytes
  open_short m f = let ui = ui_short m.ui f.ui in let shown = evidence_short m.evidence f.evidence in simp (length-append, length8) (omega (arith, ui, shown))

  pub opened_short : (e : Evidence) (b : Body OpenBody) → FitsEvidence s e → FitsBody (FitsOpenBody s e) b → length (body_bytes open_body_bytes b) ≤ 131468
  opened_short e (Whole b) g f = open_body_short e b g f
  opened_short e (Short d) g f = omega (arith, f)
