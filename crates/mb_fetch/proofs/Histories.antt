-- What the tables answer for a history.
use Rattle.std.proofs.Common.{◌≡◌, ℕ, suc, ◌+◌, ◌*◌, ◌/◌, ◌%◌, ◌<◌, ◌≤◌, Bool, true, false, ◌&&◌, not, List, [], ◌∷◌, length, Option, Some, None, is_some, is_none, inl, inr, refl, sym, ap, ◌∙◌, arith}
use Rattle.std.proofs.Math.Path.{fun_ext}
use Rattle.std.specs.Prelude.{nat_le, find, filter_map, ◌==◌, if◌then◌else◌}
use Rattle.std.specs.Bool.{then_some}
use Rattle.std.specs.List.{range_with_len, list_all}
use Rattle.std.specs.Option.{option_or}
use Rattle.std.proofs.lemmas.Bool.{cases_lt, and_parts, eqb-true, leb-true, ne_eqb, eq-eqb}
use Rattle.std.proofs.Math.Nat.{div-add-mod, mul-le-mul_left, mul-suc}
use Rattle.mb_base.specs.Limits.{part_count, snapshot_limit}
use Rattle.mb_base.specs.Shapes.{Bytes, interval, span}
use Rattle.mb_usig.specs.Tags.{same_bytes}
use Rattle.mb_msg.specs.declared.event.Outcome.TheVariants as outcome
use Rattle.mb_model.specs.Histories.{History, Identity}
use Rattle.mb_model.specs.Stable.{low_of}
use Rattle.mb_model.specs.Execution.{parts_after, snapshot_of, part_held}
use Rattle.mb_model.specs.PlainChecks.{wrong_part, wrong_digest}
use Rattle.mb_fetch.specs.Fetched.{Fetched, part_at}
use Rattle.mb_fetch.specs.Checks.{list_digest}
use Rattle.mb_fetch.specs.Snapshots.{Snapshot, parts_at, AllAbove, IsRising}
use Rattle.mb_fetch.specs.Histories.{RepresentsParts, RepresentsSnapshots, PartsAnswerFor, SnapshotsAnswerFor, TablesAnswer}

-- ---- multiples

-- From a multiple to a greater one it is at least the interval.
pub next_multiple : (k a b : ℕ) → a % k ≡ 0 → b % k ≡ 0 → a < b → a + k ≤ b
next_multiple k a b ea eb lt = elim (cases_lt (a / k) (b / k)) [
  | inl below ↦
      let more : k * suc (a / k) ≤ k * (b / k) = mul-le-mul_left k (omega (arith, below)) in
      omega (arith, ea, eb, div-add-mod a k, div-add-mod b k, more, mul-suc k (a / k))
  | inr above ↦
      let less : k * (b / k) ≤ k * (a / k) = mul-le-mul_left k above in
      absurd (omega (arith, lt, ea, eb, div-add-mod a k, div-add-mod b k, less))
]

-- ---- a test and its outcome

refusal : (b : Bool) (o : Option ℕ) → wrong_digest (if b then o else Some part_count) ≡ option_or (then_some (not b) (outcome.WrongDigest part_count)) (wrong_digest o)
refusal true o = refl
refusal false o = refl

module _ {S : Type 0} (self : Identity S) where
  pub parts_answer : (t : Fetched) (d : History) → RepresentsParts self t d → PartsAnswerFor self t d
  parts_answer t d st = record {
    missing_is = ap (λ (f : ℕ → Option Bytes). find (λ i. is_none (f i)) (range_with_len 0 part_count)) same;
    found_are = ap (λ (f : ℕ → Option Bytes). filter_map f (range_with_len 0 part_count)) same;
    all_held = λ m. ap (λ (f : ℕ → Option Bytes). list_all (λ i. is_some (f i)) (range_with_len m.first (length m.parts))) (sym same);
    refused = λ m. refusal (same_bytes (list_digest m) t.digest) (wrong_part m.digests m.first m.parts)
        ∙ ap (λ (digest : Bytes). option_or (then_some (not (same_bytes (list_digest m) digest)) (outcome.WrongDigest part_count)) (wrong_digest (wrong_part m.digests m.first m.parts))) st.digest_is;
  } where
    same : part_at t ≡ part_held self d
    same = fun_ext st.finds

  -- ---- snapshots

  module _ (shelf : List Snapshot) (d : History) (st : RepresentsSnapshots self shelf d) where
    -- a position with a snapshot is an executed multiple of the interval from the stable position on
    record IsOf (p : ℕ) : Type 0 where
      multiple : p % interval self.shape ≡ 0
      from_low : low_of self d ≤ p
      executed : (x : List Bytes) × (parts_after self d p ≡ Some x)

    is_of : (p : ℕ) (x : List Bytes) → parts_at shelf p ≡ Some x → IsOf p
    is_of p x e = by_test (p % interval self.shape == 0 && nat_le (low_of self d) p) refl where
      by_test : (b : Bool) → (p % interval self.shape == 0 && nat_le (low_of self d) p) ≡ b → IsOf p
      by_test false not_so =
          let none : snapshot_of self d p ≡ None = ap (λ (b : Bool). if b then parts_after self d p else None) not_so in
          let some = sym e ∙ (st.finds p ∙ none) in
          absurd cc
      by_test true passed =
          let both = and_parts (p % interval self.shape == 0) (nat_le (low_of self d) p) passed in
          let is : snapshot_of self d p ≡ parts_after self d p = ap (λ (b : Bool). if b then parts_after self d p else None) passed in
          record {
            multiple = eqb-true (p % interval self.shape) 0 both.0;
            from_low = leb-true (low_of self d) p both.1;
            executed = (x, sym is ∙ (sym (st.finds p) ∙ e));
          }

    module _ (pos : ℕ) (below : (p : ℕ) (x : List Bytes) → parts_after self d p ≡ Some x → p < pos) where
      none_above : (p : ℕ) → pos ≤ p → parts_at shelf p ≡ None
      none_above p le = by_value (parts_at shelf p) refl where
        by_value : (o : Option (List Bytes)) → parts_at shelf p ≡ o → parts_at shelf p ≡ None
        by_value None e = e
        by_value (Some x) e =
            let of = is_of p x e in
            let lower = below p of.executed.0 of.executed.1 in
            absurd (omega (arith, lower, le))

      module _ (room : pos ≤ low_of self d + span self.shape) where
        placed : (p : ℕ) (x : List Bytes) → parts_at shelf p ≡ Some x → (low_of self d ≤ p) × (p < pos) × (p % interval self.shape ≡ 0)
        placed p x e = let of = is_of p x e in (of.from_low, below p of.executed.0 of.executed.1, of.multiple)

        few : (l : List Snapshot) → IsRising l → ((p : ℕ) (x : List Bytes) → parts_at l p ≡ Some x → (low_of self d ≤ p) × (p < pos) × (p % interval self.shape ≡ 0)) → length l < snapshot_limit
        few [] rising all = omega arith
        few (a ∷ []) rising all = omega arith
        few (a ∷ (b ∷ [])) rising all = omega arith
        few (a ∷ (b ∷ (c ∷ l))) rising all =
            let above_a : AllAbove a.pos (b ∷ (c ∷ l)) = rising.0 in
            let rest : IsRising (b ∷ (c ∷ l)) = rising.1 in
            let above_b : AllAbove b.pos (c ∷ l) = rest.0 in
            let ab : a.pos < b.pos = above_a.0 in
            let bc : b.pos < c.pos = above_b.0 in
            let ac : a.pos < c.pos = omega (arith, ab, bc) in
            let at_a = all a.pos a.parts (rw (eq-eqb a.pos a.pos refl) refl) in
            let at_b = all b.pos b.parts (rw (ne_eqb a.pos b.pos (λ e. omega (arith, ab, e)), eq-eqb b.pos b.pos refl) refl) in
            let at_c = all c.pos c.parts (rw (ne_eqb a.pos c.pos (λ e. omega (arith, ac, e)), ne_eqb b.pos c.pos (λ e. omega (arith, bc, e)), eq-eqb c.pos c.pos refl) refl) in
            let first = next_multiple (interval self.shape) a.pos b.pos at_a.2 at_b.2 ab in
            let second = next_multiple (interval self.shape) b.pos c.pos at_b.2 at_c.2 bc in
            let from_low = at_a.0 in
            let lower = at_c.1 in
            absurd (omega (arith, first, second, from_low, lower, room))

  pub snapshots_answer : (shelf : List Snapshot) (d : History) → RepresentsSnapshots self shelf d → SnapshotsAnswerFor self shelf d
  snapshots_answer shelf d st = record {
    above = λ pos below. none_above shelf d st pos below;
    room = λ pos room below. few shelf d st pos below room shelf st.rising (placed shelf d st pos below room);
  }

pub tables_answer : (S : Type 0) → TablesAnswer S
tables_answer S = record {
  parts = λ self t d st. parts_answer self t d st;
  snapshots = λ self shelf d st. snapshots_answer self shelf d st;
}
