-- The parts of messages: what is read is spelled so and fits, and what fits and is spelled so is read.
use Rattle.std.proofs.Common.{◌≡◌, ℕ, zero, suc, ◌+◌, ◌-◌, ◌^◌, ◌<◌, ◌≤◌, ◌++◌, length, min, true, replicate, List, [], Option, Some, None, refl, sym, ap, subst, arith, lit<, lit≤, inl, inr, append_assoc}
use Rattle.std.specs.Prelude.{⊤}
use Rattle.std.proofs.Common.{eqb}
use Rattle.std.proofs.lemmas.Bool.{cases_lt, eqb-true, eqb-false}
use Rattle.mb_parts.proofs.Held.{held_at_zero, held_above}
use Rattle.std.specs.Int.{w8, w64}
use Rattle.std.specs.List.{flat_map}
use Rattle.std.proofs.Math.Nat.{min-le_left, min-le_right, min-eq_left, min-eq_right}
use Rattle.mb_base.specs.Limits.{text_limit, batch_limit, batch_bytes_limit}
use Rattle.mb_base.specs.declared.shape.Shape.{Shape}
use Rattle.mb_base.specs.Shapes.{Bytes, IsShape, host_count, client_count, max_faults, quorum, interval, span, primary}
use Rattle.mb_base.specs.Spelling.{number}
use Rattle.mb_base.specs.Reading.{Cursor, Reads, is_other, rising_at}
use Rattle.mb_base.proofs.Laws.{IsField, iff_field, like_field, cond_field, pair_field, then_field, made_field, bytes_field, ranged_field, within_field, below_field, multiple_field, without_field, nothing_field, text16_field, optional_field, repeat_field, rising_field, Bounded, bounded_field, wide8, wide64}
use Rattle.mb_parts.specs.declared.floor.Phase.{Phase}
use Rattle.mb_parts.specs.declared.floor.Phase.TheVariants as phase
use Rattle.mb_parts.specs.declared.certificates.StableMember.{StableMember}
use Rattle.mb_parts.specs.declared.certificates.EvidenceMember.{EvidenceMember}
use Rattle.mb_parts.specs.Fits.{IsCounter, IsPosition, IsDigest, IsBase, IsEnd, AreMembers, FitsRequest, FitsBatch, FitsUi, FitsFloor, FitsFloors, FitsStableMember, FitsHeld, FitsStable, FitsFloorMember, FitsFloorCert, FitsEvidenceMember, FitsBackup, FitsEvidence, FitsJoined}
use Rattle.mb_parts.specs.Spelling.{ui_bytes, request_bytes, batch_bytes, phase_number, floor_bytes, floors_bytes, stable_member_bytes, held_bytes, stable_bytes, floor_member_bytes, floor_cert_bytes, evidence_member_bytes, evidence_bytes}
use Rattle.mb_parts.specs.declared.certificates.Evidence.{Evidence}
use Rattle.mb_parts.specs.Bares.{if_there}
use Rattle.mb_parts.specs.Reading.{host_at, member_host_at, client_at, counter_at, place_at, position_at, base_at, point_at, end_at, digest_at, ui_of_fields, ui_from, request_of_fields, request_at, batch_of_fields, batch_at, phase_of, phase_at, floor_of_fields, floor_at, floors_at, stable_member_of_fields, stable_member_at, held_at, stable_of_fields, stable_in, floor_member_of_fields, floor_member_at, floor_cert_of_fields, floor_cert_at, evidence_member_of_fields, evidence_member_at, backups_at, evidence_of_fields, evidence_behind, evidence_in, evidence_of_view}

-- ---- numbers

at_most_both : (n a b : ℕ) → n ≤ a → n ≤ b → n ≤ min a b
at_most_both n a b le le' = elim (cases_lt a b) [
  | inl lt ↦ rw (min-eq_left {n = a} {m = b} (omega arith)) le
  | inr ge ↦ rw (min-eq_right {n = b} {m = a} ge) le'
]

module _ (s : Shape) (h : IsShape s) where
  pub host_field : IsField (host_at s) (number w8) (λ n. n < host_count s)
  host_field = below_field w8 (2 ^ 8) (host_count s) (omega arith) (omega (arith, h.faults)) wide8

  pub client_field : IsField (client_at s) (number w8) (λ n. n < client_count s)
  client_field = below_field w8 (2 ^ 8) (client_count s) h.clients.0 (omega (arith, h.clients)) wide8

  -- a host from the least that is allowed, and another than the one that is left out
  abbrev pub IsMember : Option ℕ → ℕ → ℕ → Type 0
  IsMember left_out least n = ((least ≤ n) × (n < host_count s)) × (is_other left_out n ≡ true)

  pub member_host_field : (left_out : Option ℕ) (least : ℕ) → IsField (member_host_at s left_out least) (number w8) (IsMember left_out least)
  member_host_field left_out least = without_field left_out least (host_count s) (omega arith) (omega (arith, h.faults))

  pub base_field : IsField (base_at s) (number w64) (IsBase s)
  base_field = iff_field _ _ _ _ (λ n f. (f.0.1, f.1)) (λ n f. ((omega arith, f.0), f.1)) (multiple_field (interval s) 0 (2 ^ 63) (lit≤ tt) (lit≤ tt))

  pub point_field : IsField (point_at s) (number w64) (λ n. (1 ≤ n) × IsBase s n)
  point_field = iff_field _ _ _ _ (λ n f. (f.0.0, (f.0.1, f.1))) (λ n f. ((f.0, f.1.0), f.1.1)) (multiple_field (interval s) 1 (2 ^ 63) (lit≤ tt) (lit≤ tt))

  pub end_field : (base : ℕ) → IsField (end_at s base) (number w64) (IsEnd s base)
  end_field base =
      let left = min-le_left (base + span s) (2 ^ 63 - 1) in
      let right = min-le_right (base + span s) (2 ^ 63 - 1) in
      iff_field _ _ _ _ (λ n f. (f.0, (omega (arith, f.1, left), omega (arith, f.1, right)))) (λ n f. (f.0, at_most_both n (base + span s) (2 ^ 63 - 1) f.1.0 (omega (arith, f.1.1)))) (
      ranged_field w64 (2 ^ 64) base (min (base + span s) (2 ^ 63 - 1)) (omega (arith, right)) wide64)

pub counter_field : IsField counter_at (number w64) IsCounter
counter_field = within_field w64 (2 ^ 64) 1 (2 ^ 64) (lit≤ tt) (lit≤ tt) wide64

pub position_field : IsField position_at (number w64) IsPosition
position_field = within_field w64 (2 ^ 64) 1 (2 ^ 63) (lit≤ tt) (lit≤ tt) wide64

-- of views, and of positions that may be 0
pub place_field : IsField place_at (number w64) (λ n. n < 2 ^ 63)
place_field = below_field w64 (2 ^ 64) (2 ^ 63) (lit≤ tt) (lit≤ tt) wide64

pub digest_field : IsField digest_at (λ d. d) IsDigest
digest_field = bytes_field 32

-- ---- identifiers, requests, floors

phase_of_number : (n : ℕ) → n ≤ 2 → phase_number (phase_of n) ≡ n
phase_of_number zero le = refl
phase_of_number (suc zero) le = refl
phase_of_number (suc (suc zero)) le = refl
phase_of_number (suc (suc (suc n))) le = absurd (omega arith)

phase_again : (p : Phase) → phase_of (phase_number p) ≡ p
phase_again phase.Changing = refl
phase_again phase.Entered = refl
phase_again phase.Open = refl

phase_small : (p : Phase) → (0 ≤ phase_number p) × (phase_number p ≤ 2)
phase_small phase.Changing = (lit≤ tt, lit≤ tt)
phase_small phase.Entered = (lit≤ tt, lit≤ tt)
phase_small phase.Open = (lit≤ tt, lit≤ tt)

phase_field : IsField phase_at (λ p. number w8 (phase_number p)) (λ p. ⊤)
unfolding phase_at
phase_field =
    made_field phase_of _ _ _ (λ p. number w8 (phase_number p)) (λ p. ⊤)
    (λ n f. ap (number w8) (phase_of_number n f.1))
    (λ n f. tt)
    (λ p f. (phase_number p, phase_again p, phase_small p))
    (ranged_field w8 (2 ^ 8) 0 2 (lit< tt) wide8)

pub floor_field : IsField floor_at floor_bytes FitsFloor
unfolding floor_at floor_bytes
floor_field =
    made_field floor_of_fields _ _ _ floor_bytes FitsFloor
    (λ p f. refl)
    (λ p f. record { counter = f.0; view = f.1.0; last = f.1.1.1.0; top = f.1.1.1.1.0; point = f.1.1.1.1.1 })
    (λ x f. ((x.counter, (x.view, (x.phase, (x.last, (x.top, x.point))))), refl, (f.counter, (f.view, (tt, (f.last, (f.top, f.point))))))) (
    pair_field _ _ _ _ _ _ counter_field (
    pair_field _ _ _ _ _ _ place_field (
    pair_field _ _ _ _ _ _ phase_field (
    pair_field _ _ _ _ _ _ place_field (
    pair_field _ _ _ _ _ _ place_field place_field)))))

module _ (s : Shape) (h : IsShape s) where
  -- of a host from the least that is allowed
  pub ui_from_field : (left_out : Option ℕ) (least : ℕ) → IsField (ui_from s left_out least) ui_bytes (λ u. FitsUi s u × IsMember s h left_out least u.host)
  unfolding ui_from ui_bytes
  ui_from_field left_out least =
      made_field ui_of_fields _ _ _ ui_bytes (λ u. FitsUi s u × IsMember s h left_out least u.host)
      (λ p f. refl)
      (λ p f. (record { host = f.0.0.1; counter = f.1.0; cert = f.1.1 }, f.0))
      (λ u f. ((u.host, (u.counter, u.cert)), refl, (f.1, (f.0.counter, f.0.cert)))) (
      pair_field _ _ _ _ _ _ (member_host_field s h left_out least) (
      pair_field _ _ _ _ _ _ counter_field digest_field))

  pub ui_field : IsField (ui_from s None 0) ui_bytes (FitsUi s)
  ui_field = iff_field _ _ _ _ (λ u f. f.0) (λ u f. (f, ((omega arith, f.host), refl))) (ui_from_field None 0)

  pub request_field : IsField (request_at s) request_bytes (FitsRequest s)
  unfolding request_at request_bytes
  request_field =
      made_field request_of_fields _ _ _ request_bytes (FitsRequest s)
      (λ p f. refl)
      (λ p f. record { client = f.0; seq = f.1.0; op = f.1.1.0; tag = f.1.1.1 })
      (λ r f. ((r.client, (r.seq, (r.op, r.tag))), refl, (f.client, (f.seq, (f.op, f.tag))))) (
      pair_field _ _ _ _ _ _ (client_field s h) (
      pair_field _ _ _ _ _ _ counter_field (
      pair_field _ _ _ _ _ _ (text16_field text_limit (lit< tt)) digest_field)))

  pub batch_field : IsField (batch_at s) batch_bytes (FitsBatch s)
  unfolding batch_at batch_bytes
  batch_field =
      made_field batch_of_fields _ _ _ batch_bytes (FitsBatch s)
      (λ p f. ap (λ (n : ℕ). number w8 n ++ flat_map request_bytes p.1) f.1.0)
      (λ p f. record { count = (omega (arith, f.0.0, f.1.0), omega (arith, f.0.1, f.1.0)); requests = f.1.1.0; size = omega (arith, f.1.1.1) })
      (λ b f. ((length b.requests, b.requests), refl, (f.count, (refl, (f.requests, omega (arith, f.size)))))) (
      then_field _ _ _ _ (λ n. flat_map request_bytes) (λ n. Bounded (request_at s) request_bytes (FitsRequest s) request_field batch_bytes_limit n 0)
      (ranged_field w8 (2 ^ 8) 1 batch_limit (lit< tt) wide8) (λ n f. bounded_field (request_at s) request_bytes (FitsRequest s) request_field batch_bytes_limit n 0 (lit≤ tt)))

  pub floors_field : IsField (floors_at s) floors_bytes (FitsFloors s)
  floors_field = repeat_field (host_count s) _ _ _ (optional_field _ _ _ floor_field)

  -- ---- certificates

  stable_member_field : (left_out : Option ℕ) (least : ℕ) → IsField (stable_member_at s left_out least) stable_member_bytes (λ m. FitsStableMember s m × IsMember s h left_out least m.host)
  unfolding stable_member_at stable_member_bytes
  stable_member_field left_out least =
      made_field stable_member_of_fields _ _ _ stable_member_bytes (λ m. FitsStableMember s m × IsMember s h left_out least m.host)
      (λ p f. refl)
      (λ p f. (record { host = f.0.0.1; counter = f.1.0; floors = f.1.1.0; cert = f.1.1.1 }, f.0))
      (λ m f. ((m.host, (m.counter, (m.floors, m.cert))), refl, (f.1, (f.0.counter, (f.0.floors, f.0.cert))))) (
      pair_field _ _ _ _ _ _ (member_host_field s h left_out least) (
      pair_field _ _ _ _ _ _ counter_field (
      pair_field _ _ _ _ _ _ digest_field digest_field)))

  floor_member_field : (left_out : Option ℕ) (least : ℕ) → IsField (floor_member_at s left_out least) floor_member_bytes (λ m. FitsFloorMember s m × IsMember s h left_out least m.host)
  unfolding floor_member_at floor_member_bytes
  floor_member_field left_out least =
      made_field floor_member_of_fields _ _ _ floor_member_bytes (λ m. FitsFloorMember s m × IsMember s h left_out least m.host)
      (λ p f. refl)
      (λ p f. (record { host = f.0.0.1; counter = f.1.0; floors = f.1.1.0; cert = f.1.1.1 }, f.0))
      (λ m f. ((m.host, (m.counter, (m.floors, m.cert))), refl, (f.1, (f.0.counter, (f.0.floors, f.0.cert))))) (
      pair_field _ _ _ _ _ _ (member_host_field s h left_out least) (
      pair_field _ _ _ _ _ _ counter_field (
      pair_field _ _ _ _ _ _ floors_field digest_field)))

  evidence_member_field : (left_out : Option ℕ) (least : ℕ) → IsField (evidence_member_at s left_out least) evidence_member_bytes (λ m. FitsEvidenceMember s m × IsMember s h left_out least m.host)
  unfolding evidence_member_at evidence_member_bytes
  evidence_member_field left_out least =
      made_field evidence_member_of_fields _ _ _ evidence_member_bytes (λ m. FitsEvidenceMember s m × IsMember s h left_out least m.host)
      (λ p f. refl)
      (λ p f. (record { host = f.0.0.1; counter = f.1.0; cert = f.1.1 }, f.0))
      (λ m f. ((m.host, (m.counter, m.cert)), refl, (f.1, (f.0.counter, f.0.cert)))) (
      pair_field _ _ _ _ _ _ (member_host_field s h left_out least) (
      pair_field _ _ _ _ _ _ counter_field digest_field))

  -- so many members, of rising hosts, from the law of one
  pub members_field : {A : Type 0} (f : ℕ → Cursor → Reads A) (text : A → Bytes) (host_of : A → ℕ) (P : A → Type 0) (left_out : Option ℕ)
      → ((x : A) → P x → (host_of x < host_count s) × (is_other left_out (host_of x) ≡ true)) → ((least : ℕ) → IsField (f least) text (λ x. P x × IsMember s h left_out least (host_of x)))
      → (count : ℕ) → IsField (rising_at f host_of count 0) (flat_map text) (AreMembers host_of P count)
  members_field f text host_of P left_out allowed hf count =
      rising_field f text host_of P (λ least. iff_field _ _ _ _ (λ x g. (g.0, g.1.0.0)) (λ x g. (g.0, ((g.1, (allowed x g.0).0), (allowed x g.0).1))) (hf least)) count 0

  stable_members_field : IsField (rising_at (stable_member_at s None) (λ m. m.host) (quorum s) 0) (flat_map stable_member_bytes) (AreMembers (λ m. m.host) (FitsStableMember s) (quorum s))
  stable_members_field = members_field _ _ _ _ None (λ m f. (f.host, refl)) (stable_member_field None) (quorum s)

  pub floor_members_field : IsField (rising_at (floor_member_at s None) (λ m. m.host) (quorum s) 0) (flat_map floor_member_bytes) (AreMembers (λ m. m.host) (FitsFloorMember s) (quorum s))
  floor_members_field = members_field _ _ _ _ None (λ m f. (f.host, refl)) (floor_member_field None) (quorum s)

  backups_field : (view : ℕ) → IsField (backups_at s view) (flat_map evidence_member_bytes) (AreMembers (λ m. m.host) (FitsBackup s view) (max_faults s))
  backups_field view =
      members_field _ _ _ _ (Some (primary s view)) (λ m f. (f.0.host, f.1))
      (λ least. iff_field _ _ _ _ (λ m f. ((f.0, f.1.1), f.1)) (λ m f. (f.0.0, f.1)) (evidence_member_field (Some (primary s view)) least)) (max_faults s)

  abbrev HeldFits : ℕ → Bytes × List StableMember → Type 0
  HeldFits pos p = FitsHeld s pos p.0 p.1

  abbrev held_text : ℕ → Bytes × List StableMember → Bytes
  held_text pos p = held_bytes pos p.0 p.1

  held_field : (pos : ℕ) → IsField (held_at s pos) (held_text pos) (HeldFits pos)
  unfolding held_at
  held_field pos = cond_field (eqb pos 0) _ _ (held_text pos) (HeldFits pos)
      (λ e.
      let at_zero = λ (p : Bytes × List StableMember). held_at_zero s pos p.0 p.1 (eqb-true pos 0 e) in
      like_field _ _ _ _ _ (λ p f. (at_zero p).1 (ap (λ (q : Bytes × List StableMember). q.0) (sym f), ap (λ (q : Bytes × List StableMember). q.1) (sym f))) (λ p f. let g = (at_zero p).0 f in rw (g.0, g.1) refl) (λ p f. rw e refl) (nothing_field (replicate 32 0, [])))
      (λ e.
      let above = λ (p : Bytes × List StableMember). held_above s pos p.0 p.1 (eqb-false pos 0 e) in
      like_field _ _ _ _ _ (λ p f. (above p).1 f) (λ p f. (above p).0 f) (λ p f. rw e refl) (pair_field _ _ _ _ _ _ digest_field stable_members_field))

  -- of a position from low up to below high
  pub stable_field : (low high : ℕ) → 1 ≤ high → high ≤ 2 ^ 63 → IsField (stable_in s low (high - 1)) stable_bytes (λ c. FitsStable s c × ((low ≤ c.pos) × (c.pos < high)))
  unfolding stable_in stable_bytes
  stable_field low high some le =
      made_field stable_of_fields _ _ _ stable_bytes (λ c. FitsStable s c × ((low ≤ c.pos) × (c.pos < high)))
      (λ p f. refl)
      (λ p f. (record { pos = (omega (arith, f.0.0.1), f.0.1); held = f.1 }, f.0.0))
      (λ c f. ((c.pos, (c.state, c.members)), refl, ((f.1, f.0.pos.1), f.0.held))) (
      then_field _ _ _ _ held_text HeldFits (multiple_field (interval s) low high some (omega arith)) (λ pos f. held_field pos))

  pub floor_cert_field : IsField (floor_cert_at s) floor_cert_bytes (FitsFloorCert s)
  unfolding floor_cert_at floor_cert_bytes
  floor_cert_field =
      made_field floor_cert_of_fields _ _ _ floor_cert_bytes (FitsFloorCert s)
      (λ p f. refl)
      (λ p f. record { pos = f.0; state = f.1.0; members = f.1.1 })
      (λ c f. ((c.pos, (c.state, c.members)), refl, (f.pos, (f.state, f.members)))) (
      pair_field _ _ _ _ _ _ (point_field s h) (
      pair_field _ _ _ _ _ _ digest_field floor_members_field))

  abbrev EvidenceTail : Type 0
  EvidenceTail = ℕ × (Bytes × (Bytes × (ℕ × (Bytes × List EvidenceMember))))

  abbrev tail_text : EvidenceTail → Bytes
  tail_text p = number w64 p.0 ++ (p.1.0 ++ (p.1.1.0 ++ (number w64 p.1.1.1.0 ++ (p.1.1.1.1.0 ++ flat_map evidence_member_bytes p.1.1.1.1.1))))

  abbrev TailFits : ℕ → ℕ → EvidenceTail → Type 0
  TailFits view base p = IsEnd s base p.0 × (IsDigest p.1.0 × (IsDigest p.1.1.0 × (IsCounter p.1.1.1.0 × (IsDigest p.1.1.1.1.0 × AreMembers (λ m. m.host) (FitsBackup s view) (max_faults s) p.1.1.1.1.1))))

  tail_field : (view base : ℕ) → IsField (evidence_behind s view base) tail_text (TailFits view base)
  tail_field view base =
      pair_field _ _ _ _ _ _ (end_field s h base) (
      pair_field _ _ _ _ _ _ digest_field (
      pair_field _ _ _ _ _ _ digest_field (
      pair_field _ _ _ _ _ _ counter_field (
      pair_field _ _ _ _ _ _ digest_field (backups_field view)))))

  evidence_spelled : (p : ℕ × (ℕ × EvidenceTail)) → evidence_bytes (evidence_of_fields p) ≡ number w64 p.0 ++ (number w64 p.1.0 ++ tail_text p.1.1)
  unfolding evidence_bytes
  evidence_spelled p = simp append_assoc

  -- of a view from low up to below high
  pub evidence_field : (low high : ℕ) → 1 ≤ low → 1 ≤ high → high ≤ 2 ^ 63 → IsField (evidence_in s low (high - 1)) evidence_bytes (λ e. FitsEvidence s e × ((low ≤ e.view) × (e.view < high)))
  unfolding evidence_in
  evidence_field low high above some le =
      made_field evidence_of_fields _ _ _ evidence_bytes (λ e. FitsEvidence s e × ((low ≤ e.view) × (e.view < high)))
      (λ p f. evidence_spelled p)
      (λ p f. (record { view = (omega (arith, f.0.0, above), omega (arith, f.0.1, le)); base = f.1.0; end = f.1.1.0; plan = f.1.1.1.0; body = f.1.1.1.1.0; counter = f.1.1.1.1.1.0; cert = f.1.1.1.1.1.1.0; members = f.1.1.1.1.1.1.1 }, f.0))
      (λ e f. ((e.view, (e.base, (e.end, (e.plan, (e.body, (e.counter, (e.cert, e.members))))))), refl, (f.1, (f.0.base, (f.0.end, (f.0.plan, (f.0.body, (f.0.counter, (f.0.cert, f.0.members))))))))) (
      then_field _ _ _ _ (λ view p. number w64 p.0 ++ tail_text p.1) (λ view p. IsBase s p.0 × TailFits view p.0 p.1) (within_field w64 (2 ^ 64) low high some (omega arith) wide64) (λ view f.
      then_field _ _ _ _ (λ base. tail_text) (TailFits view) (base_field s h) (λ base g. tail_field view base)))

  pub any_evidence_field : IsField (evidence_in s 1 (2 ^ 63 - 1)) evidence_bytes (FitsEvidence s)
  any_evidence_field = iff_field _ _ _ _ (λ e f. f.0) (λ e f. (f, f.view)) (evidence_field 1 (2 ^ 63) (lit≤ tt) (lit≤ tt) (lit≤ tt))

  pub any_stable_field : IsField (stable_in s 0 (2 ^ 63 - 1)) stable_bytes (FitsStable s)
  any_stable_field = iff_field _ _ _ _ (λ c f. f.0) (λ c f. (f, (omega arith, f.pos.0))) (stable_field 0 (2 ^ 63) (lit≤ tt) (lit≤ tt))

  -- ---- evidence where the view has it

  nothing_joined : (view : ℕ) (o : Option Evidence) → view ≡ 0 → FitsJoined s view o → None ≡ o
  nothing_joined view None e f = refl
  nothing_joined view (Some x) e f = absurd (omega (arith, e, f.0.view, f.1))

  some_joined : (view : ℕ) (o : Option Evidence) → 1 ≤ view → FitsJoined s view o → (x : Evidence) × (Some x ≡ o) × (FitsEvidence s x × ((view ≤ x.view) × (x.view < view + 1)))
  some_joined view None above f = absurd (omega (arith, f))
  some_joined view (Some x) above f = (x, refl, (f.0, (omega (arith, f.1), omega (arith, f.1))))

  -- of one view
  one_view_field : (view : ℕ) → 1 ≤ view → view < 2 ^ 63 → IsField (evidence_in s view view) evidence_bytes (λ e. FitsEvidence s e × ((view ≤ e.view) × (e.view < view + 1)))
  one_view_field view above lt =
      let same : view + 1 - 1 ≡ view = omega arith in
      subst (λ (k : ℕ). IsField (evidence_in s view k) evidence_bytes (λ e. FitsEvidence s e × ((view ≤ e.view) × (e.view < view + 1)))) same (evidence_field view (view + 1) above (omega arith) (omega (arith, lt)))

  pub joined_field : (view : ℕ) → view < 2 ^ 63 → IsField (evidence_of_view s view) if_there (FitsJoined s view)
  joined_field view lt = cond_field (eqb view 0) _ _ if_there (FitsJoined s view)
      (λ e. let z : view ≡ 0 = eqb-true view 0 e in
      like_field _ _ _ _ _ (λ (o : Option Evidence) f. rw (← f) z) (λ o f. nothing_joined view o z f) (λ o f. rw (← f) refl) (nothing_field None))
      (λ e. let ne = eqb-false view 0 e in
      let above : 1 ≤ view = omega (arith, ne) in
      made_field Some _ _ _ if_there (FitsJoined s view) (λ x f. refl) (λ x f. (f.0, omega (arith, f.1.0, f.1.1))) (λ o f. some_joined view o above f)
      (one_view_field view above lt))
