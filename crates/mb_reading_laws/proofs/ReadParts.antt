-- The parts of messages have the values of the grammar as they are read.
use Rattle.std.proofs.Common.{◌≡◌, ℕ, zero, suc, ◌+◌, ◌-◌, ◌^◌, ◌<◌, ◌≤◌, true, List, [], length, refl, sym, subst, inl, inr, eqb, arith, lit<, lit≤, Option, Some, None}
use Rattle.std.specs.Prelude.{min, replicate}
use Rattle.std.specs.Option.{IfSome}
use Rattle.std.specs.List.{AllByRecursion, flat_map}
use Rattle.std.specs.Int.{w8, w16, w64}
use Rattle.std.proofs.lemmas.Bool.{eqb-true, eqb-false, cases_lt}
use Rattle.mb_base.specs.Limits.{text_limit, batch_limit, batch_bytes_limit}
use Rattle.mb_base.specs.Shapes.{Bytes, IsShape, host_count, client_count, interval, span, quorum, primary, max_faults}
use Rattle.mb_base.specs.declared.shape.Shape.{Shape}
use Rattle.mb_base.specs.declared.names.Ui.{Ui}
use Rattle.mb_base.specs.Reading.{number_in, multiple_in, is_other, pair_at, then_at, map_at, nothing_at, optional_at, rising_at, bounded_at}
use Rattle.mb_parts.specs.Spelling.{request_bytes}
use Rattle.mb_parts.specs.declared.certificates.StableMember.{StableMember}
use Rattle.mb_parts.specs.declared.certificates.StableCert.{StableCert}
use Rattle.mb_parts.specs.declared.certificates.FloorMember.{FloorMember}
use Rattle.mb_parts.specs.declared.certificates.EvidenceMember.{EvidenceMember}
use Rattle.mb_parts.specs.declared.certificates.Evidence.{Evidence}
use Rattle.mb_parts.specs.Fits.{IsCounter, IsPosition, IsDigest, IsBase, IsEnd, AreMembers, FitsRequest, FitsBatch, FitsUi, FitsFloor, FitsFloors, FitsStableMember, FitsHeld, FitsStable, FitsFloorMember, FitsFloorCert, FitsEvidenceMember, FitsBackup, FitsEvidence, FitsJoined}
use Rattle.mb_parts.specs.Reading.{host_at, member_host_at, client_at, counter_at, place_at, position_at, base_at, point_at, end_at, digest_at, ui_of_fields, ui_from, ui_at, request_of_fields, request_at, batch_of_fields, batch_at, phase_of, phase_at, floor_of_fields, floor_at, floors_at, stable_member_of_fields, stable_member_at, held_at, stable_of_fields, stable_in, stable_at, floor_member_of_fields, floor_member_at, floor_cert_of_fields, floor_cert_at, evidence_member_of_fields, evidence_member_at, backups_at, evidence_of_fields, evidence_behind, evidence_in, evidence_at, evidence_of_view}
use Rattle.mb_reading_laws.proofs.Yields.{IsYield, more_yield, in_yield, bytes_yield, pair_yield, then_yield, map_yield, cond_yield, nothing_yield, optional_yield, repeat_yield, bounded_yield, text_yield, rising_yield, multiple_yield, without_yield}

pub counter_yield : IsYield counter_at IsCounter
counter_yield = more_yield _ _ IsCounter (λ n p. (p.0, omega (arith, p.1))) (in_yield w64 1 (2 ^ 64 - 1))

pub place_yield : IsYield place_at (λ n. n < 2 ^ 63)
place_yield = more_yield _ _ (λ n. n < 2 ^ 63) (λ n p. omega (arith, p.1)) (in_yield w64 0 (2 ^ 63 - 1))

pub position_yield : IsYield position_at IsPosition
position_yield = more_yield _ _ IsPosition (λ n p. (p.0, omega (arith, p.1))) (in_yield w64 1 (2 ^ 63 - 1))

pub digest_yield : IsYield digest_at IsDigest
digest_yield = bytes_yield 32

module _ (s : Shape) (k : IsShape s) where
  pub host_yield : IsYield (host_at s) (λ n. n < host_count s)
  host_yield = more_yield _ _ (λ n. n < host_count s) (λ n p. omega (arith, p.1)) (in_yield w8 0 (host_count s - 1))

  -- a host that is there, at least this one, and another than the one that is left out
  abbrev pub IsMemberHost : Option ℕ → ℕ → ℕ → Type 0
  IsMemberHost left_out least n = (n < host_count s) × ((least ≤ n) × (is_other left_out n ≡ true))

  member_host_yield : (left_out : Option ℕ) (least : ℕ) → IsYield (member_host_at s left_out least) (IsMemberHost left_out least)
  member_host_yield left_out least = more_yield _ _ (IsMemberHost left_out least) (λ n p. (omega (arith, p.0.1), (p.0.0, p.1))) (without_yield left_out least (host_count s - 1))

  pub client_yield : IsYield (client_at s) (λ n. n < client_count s)
  client_yield = more_yield _ _ (λ n. n < client_count s) (λ n p. omega (arith, p.1, k.clients.0)) (in_yield w8 0 (client_count s - 1))

  pub base_yield : IsYield (base_at s) (IsBase s)
  base_yield = more_yield _ _ (IsBase s) (λ n p. (omega (arith, p.0.1), p.1)) (multiple_yield (interval s) 0 (2 ^ 63 - 1))

  pub point_yield : IsYield (point_at s) (λ n. (1 ≤ n) × IsBase s n)
  point_yield = more_yield _ _ (λ n. (1 ≤ n) × IsBase s n) (λ n p. (p.0.0, (omega (arith, p.0.1), p.1))) (multiple_yield (interval s) 1 (2 ^ 63 - 1))

  pub end_yield : (base : ℕ) → IsYield (end_at s base) (IsEnd s base)
  end_yield base = more_yield _ _ (IsEnd s base) (λ n p. (p.0, (omega (arith, p.1), omega (arith, p.1)))) (in_yield w64 base (min (base + span s) (2 ^ 63 - 1)))

  pub ui_from_yield : (left_out : Option ℕ) (least : ℕ) → IsYield (ui_from s left_out least) (λ u. FitsUi s u × ((least ≤ u.host) × (is_other left_out u.host ≡ true)))
  unfolding ui_from
  ui_from_yield left_out least = map_yield ui_of_fields _ _ (λ (u : Ui). FitsUi s u × ((least ≤ u.host) × (is_other left_out u.host ≡ true))) (λ p f. (record { host = f.0.0; counter = f.1.0; cert = f.1.1 }, f.0.1))
      (pair_yield _ _ _ _ (member_host_yield left_out least) (pair_yield _ _ _ _ counter_yield digest_yield))

  pub ui_yield : IsYield (ui_at s) (FitsUi s)
  ui_yield = more_yield _ _ (FitsUi s) (λ u p. p.0) (ui_from_yield None 0)

  pub request_yield : IsYield (request_at s) (FitsRequest s)
  unfolding request_at
  request_yield = map_yield request_of_fields _ _ (FitsRequest s) (λ p f. record { client = f.0; seq = f.1.0; op = f.1.1.0.1; tag = f.1.1.1 })
      (pair_yield _ _ _ _ client_yield (pair_yield _ _ _ _ counter_yield (pair_yield _ _ _ _ (text_yield w16 0 text_limit) digest_yield)))

  pub batch_yield : IsYield (batch_at s) (FitsBatch s)
  unfolding batch_at
  batch_yield = map_yield batch_of_fields _ _ (FitsBatch s)
      (λ p f. record { count = (omega (arith, f.0.0, f.1.0), omega (arith, f.0.1, f.1.0)); requests = f.1.1.0; size = omega (arith, f.1.1.1) })
      (then_yield (number_in w8 1 batch_limit) _ (λ n. bounded_at request_bytes batch_bytes_limit (request_at s) n 0)
      (λ n xs. (length xs ≡ n) × (AllByRecursion (FitsRequest s) xs × (0 + length (flat_map request_bytes xs) ≤ batch_bytes_limit))) (in_yield w8 1 batch_limit)
      (λ n ok. bounded_yield request_bytes batch_bytes_limit (request_at s) (FitsRequest s) request_yield n 0 (lit≤ tt)))

  pub floor_yield : IsYield floor_at FitsFloor
  unfolding floor_at phase_at
  floor_yield = map_yield floor_of_fields _ _ FitsFloor (λ p f. record { counter = f.0; view = f.1.0; last = f.1.1.1.0; top = f.1.1.1.1.0; point = f.1.1.1.1.1 })
      (pair_yield _ _ _ _ counter_yield (pair_yield _ _ _ _ place_yield (pair_yield _ _ _ _ (map_yield phase_of _ _ (λ x. Unit {0}) (λ x p. tt) (in_yield w8 0 2)) (pair_yield _ _ _ _ place_yield (pair_yield _ _ _ _ place_yield place_yield)))))

  pub floors_yield : IsYield (floors_at s) (FitsFloors s)
  floors_yield = repeat_yield (optional_at floor_at) (λ o. IfSome o FitsFloor) (optional_yield floor_at FitsFloor floor_yield) (host_count s)

  stable_member_yield : (left_out : Option ℕ) (least : ℕ) → IsYield (stable_member_at s left_out least) (λ m. FitsStableMember s m × (least ≤ m.host))
  unfolding stable_member_at
  stable_member_yield left_out least = map_yield stable_member_of_fields _ _ (λ (m : StableMember). FitsStableMember s m × (least ≤ m.host)) (λ p f. (record { host = f.0.0; counter = f.1.0; floors = f.1.1.0; cert = f.1.1.1 }, f.0.1.0))
      (pair_yield _ _ _ _ (member_host_yield left_out least) (pair_yield _ _ _ _ counter_yield (pair_yield _ _ _ _ digest_yield digest_yield)))

  held_fits : (pos : ℕ) (p : Bytes × List StableMember) → (pos ≡ 0 → ⊥) → IsDigest p.0 × AreMembers (λ m. m.host) (FitsStableMember s) (quorum s) p.1 → FitsHeld s pos p.0 p.1
  held_fits zero p some f = absurd (some refl)
  held_fits (suc pos) p some f = f

  held_yield : (pos : ℕ) → IsYield (held_at s pos) (λ p. FitsHeld s pos p.0 p.1)
  unfolding held_at
  held_yield pos = cond_yield (eqb pos 0) (nothing_at (replicate 32 0, [])) (pair_at digest_at (rising_at (stable_member_at s None) (λ m. m.host) (quorum s) 0)) (λ p. FitsHeld s pos p.0 p.1)
      (λ e. nothing_yield (replicate 32 0, []) (λ p. FitsHeld s pos p.0 p.1) (subst (λ (n : ℕ). FitsHeld s n (replicate 32 0) []) (sym (eqb-true pos 0 e)) (refl, refl)))
      (λ e. more_yield _ _ (λ p. FitsHeld s pos p.0 p.1) (λ p f. held_fits pos p (eqb-false pos 0 e) f) (pair_yield _ _ _ _ digest_yield (rising_yield (stable_member_at s None) (λ m. m.host) (FitsStableMember s) (stable_member_yield None) (quorum s) 0)))

  pub stable_yield : (low high : ℕ) → high < 2 ^ 63 → IsYield (stable_in s low high) (λ c. FitsStable s c × ((low ≤ c.pos) × (c.pos ≤ high)))
  unfolding stable_in
  stable_yield low high small = map_yield stable_of_fields _ _ (λ (c : StableCert). FitsStable s c × ((low ≤ c.pos) × (c.pos ≤ high))) (λ p f. (record { pos = (omega (arith, f.0.0.1, small), f.0.1); held = f.1 }, f.0.0))
      (then_yield (multiple_in (interval s) low high) _ (held_at s) (λ pos p. FitsHeld s pos p.0 p.1) (multiple_yield (interval s) low high) (λ pos ok. held_yield pos))

  pub any_stable_yield : IsYield (stable_at s) (FitsStable s)
  any_stable_yield = more_yield _ _ (FitsStable s) (λ c p. p.0) (stable_yield 0 (2 ^ 63 - 1) (lit< tt))

  floor_member_yield : (left_out : Option ℕ) (least : ℕ) → IsYield (floor_member_at s left_out least) (λ m. FitsFloorMember s m × (least ≤ m.host))
  unfolding floor_member_at
  floor_member_yield left_out least = map_yield floor_member_of_fields _ _ (λ (m : FloorMember). FitsFloorMember s m × (least ≤ m.host)) (λ p f. (record { host = f.0.0; counter = f.1.0; floors = f.1.1.0; cert = f.1.1.1 }, f.0.1.0))
      (pair_yield _ _ _ _ (member_host_yield left_out least) (pair_yield _ _ _ _ counter_yield (pair_yield _ _ _ _ floors_yield digest_yield)))

  pub floor_cert_yield : IsYield (floor_cert_at s) (FitsFloorCert s)
  unfolding floor_cert_at
  floor_cert_yield = map_yield floor_cert_of_fields _ _ (FitsFloorCert s) (λ p f. record { pos = f.0; state = f.1.0; members = f.1.1 })
      (pair_yield _ _ _ _ point_yield (pair_yield _ _ _ _ digest_yield (rising_yield (floor_member_at s None) (λ m. m.host) (FitsFloorMember s) (floor_member_yield None) (quorum s) 0)))

  evidence_member_yield : (left_out : Option ℕ) (least : ℕ) → IsYield (evidence_member_at s left_out least) (λ m. FitsEvidenceMember s m × ((least ≤ m.host) × (is_other left_out m.host ≡ true)))
  unfolding evidence_member_at
  evidence_member_yield left_out least = map_yield evidence_member_of_fields _ _ (λ (m : EvidenceMember). FitsEvidenceMember s m × ((least ≤ m.host) × (is_other left_out m.host ≡ true))) (λ p f. (record { host = f.0.0; counter = f.1.0; cert = f.1.1 }, f.0.1))
      (pair_yield _ _ _ _ (member_host_yield left_out least) (pair_yield _ _ _ _ counter_yield digest_yield))

  backups_yield : (view : ℕ) → IsYield (backups_at s view) (AreMembers (λ m. m.host) (FitsBackup s view) (max_faults s))
  backups_yield view = rising_yield (evidence_member_at s (Some (primary s view))) (λ m. m.host) (FitsBackup s view) (λ least. more_yield _ _ (λ (m : EvidenceMember). FitsBackup s view m × (least ≤ m.host)) (λ m p. ((p.0, p.1.1), p.1.0)) (evidence_member_yield (Some (primary s view)) least)) (max_faults s) 0

  pub evidence_yield : (low high : ℕ) → 1 ≤ low → high < 2 ^ 63 → IsYield (evidence_in s low high) (λ e. FitsEvidence s e × ((low ≤ e.view) × (e.view ≤ high)))
  unfolding evidence_in
  evidence_yield low high some small = map_yield evidence_of_fields _ _ (λ (e : Evidence). FitsEvidence s e × ((low ≤ e.view) × (e.view ≤ high)))
      (λ p f. (record { view = (omega (arith, f.0.0, some), omega (arith, f.0.1, small)); base = f.1.0; end = f.1.1.0; plan = f.1.1.1.0; body = f.1.1.1.1.0; counter = f.1.1.1.1.1.0; cert = f.1.1.1.1.1.1.0; members = f.1.1.1.1.1.1.1 }, f.0))
      (then_yield (number_in w64 low high) _ (λ view. then_at (base_at s) (evidence_behind s view)) (λ view p. IsBase s p.0 × (IsEnd s p.0 p.1.0 × (IsDigest p.1.1.0 × (IsDigest p.1.1.1.0 × (IsCounter p.1.1.1.1.0 × (IsDigest p.1.1.1.1.1.0 × AreMembers (λ (m : EvidenceMember). m.host) (FitsBackup s view) (max_faults s) p.1.1.1.1.1.1))))))
      (in_yield w64 low high) (λ view ok.
      then_yield (base_at s) _ (evidence_behind s view) (λ base p. IsEnd s base p.0 × (IsDigest p.1.0 × (IsDigest p.1.1.0 × (IsCounter p.1.1.1.0 × (IsDigest p.1.1.1.1.0 × AreMembers (λ (m : EvidenceMember). m.host) (FitsBackup s view) (max_faults s) p.1.1.1.1.1)))))
      base_yield (λ base ok2.
      pair_yield _ _ _ _ (end_yield base) (pair_yield _ _ _ _ digest_yield (pair_yield _ _ _ _ digest_yield (pair_yield _ _ _ _ counter_yield (pair_yield _ _ _ _ digest_yield (backups_yield view))))))))

  pub any_evidence_yield : IsYield (evidence_at s) (FitsEvidence s)
  any_evidence_yield = more_yield _ _ (FitsEvidence s) (λ e p. p.0) (evidence_yield 1 (2 ^ 63 - 1) (lit≤ tt) (lit< tt))

  pub joined_yield : (view : ℕ) → view < 2 ^ 63 → IsYield (evidence_of_view s view) (FitsJoined s view)
  joined_yield view small = cond_yield (eqb view 0) (nothing_at None) (map_at Some (evidence_in s view view)) (FitsJoined s view)
      (λ e. nothing_yield None (FitsJoined s view) (eqb-true view 0 e))
      (λ e. map_yield Some (evidence_in s view view) _ (FitsJoined s view) (λ x p. (p.0, omega (arith, p.1.0, p.1.1))) (evidence_yield view view (above (eqb-false view 0 e)) small)) where
        above : (view ≡ 0 → ⊥) → 1 ≤ view
        above ne = elim (cases_lt 0 view) [ inl lt ↦ omega (arith, lt) | inr ge ↦ absurd (ne (omega (arith, ge))) ]
