-- The lowest difference at positions, one after the other.
use Rattle.std.proofs.Common.{◌≡◌, ℕ, ◌+◌, ◌<◌, ◌≤◌, ◌⊎◌, false, cond, List, [], ◌∷◌, ◌++◌, take, slice_get, Option, Some, None, IfSome, IfNone, Contains, refl, sym, ap, subst, ◌∙◌, inl, inr, arith}
use Rattle.std.specs.Prelude.{nat_lt, ◌==◌}
use Rattle.std.specs.List.{AllByRecursion}
use Rattle.std.proofs.lemmas.Bool.{cases_Bool, and_parts, ltb-true, ltb-false}
use Rattle.std.proofs.lemmas.Option.{none-some, same_Some}
use Rattle.mb_base.specs.Shapes.{Bytes, host_count, quorum, tally}
use Rattle.mb_base.specs.declared.shape.Shape.{Shape}
use Rattle.mb_usig.specs.Tags.{same_bytes}
use Rattle.mb_usig.proofs.Laws.{same_bytes-true}
use Rattle.mb_model.specs.Members.{In}
use Rattle.mb_model.proofs.Members.{in_contained, contained, any_in, all_in}
use Rattle.mb_model.proofs.Quorums.{tally_some}
use Rattle.mb_learn.specs.declared.checkpoints.Said.{Said}
use Rattle.mb_learn.specs.declared.difference.Difference.{Difference}
use Rattle.mb_learn.specs.declared.heard.Heard.{Heard}
use Rattle.mb_learn.specs.declared.line.Line.{Line}
use Rattle.mb_learn.specs.Differences.{lowest, IsDifference, IsLowest, IsNowhere}
use Rattle.mb_learn.specs.Executed.{state_in}
use Rattle.mb_learn.specs.Tables.{is_said, said_at, says}
use Rattle.mb_learn.proofs.Finds.{in_either}
use Rattle.mb_learn.proofs.Going.{taken_next}

-- Where none of the digests that are said is one of f+1 hosts, no digest is.
pub none_says : (s : Shape) (all : List Said) (found : Bytes) → AllByRecursion (λ x. quorum s ≤ tally (λ h. says all h x.state) (host_count s) → same_bytes x.state found ≡ false → ⊥) all
    → (d : Bytes) → quorum s ≤ tally (λ h. says all h d) (host_count s) → same_bytes d found ≡ false → ⊥
none_says s all found none d many other =
    let some = tally_some (λ h. says all h d) (host_count s) (omega (arith, many)) in
    let c = any_in (is_said some.0 d) all some.2 in
    let same : c.0.state ≡ d = same_bytes-true c.0.state d (and_parts (c.0.host == some.0) (same_bytes c.0.state d) c.2).1 in
    all_in (λ (x : Said). quorum s ≤ tally (λ h. says all h x.state) (host_count s) → same_bytes x.state found ≡ false → ⊥) all c.0 none c.1
    (subst (λ (y : Bytes). quorum s ≤ tally (λ h. says all h y) (host_count s)) (sym same) many) (subst (λ (y : Bytes). same_bytes y found ≡ false) (sym same) other)

module _ {S : Type 0} (t : Heard) (line : Line S) where
  -- ---- at one position

  -- no digest is noted there
  pub no_state : (pos : ℕ) (d : Difference) → state_in line pos ≡ None → d.pos ≡ pos → IsDifference t line d → ⊥
  no_state pos d none at is = none-some d.found (sym none ∙ sym (ap (state_in line) at) ∙ is.noted)

  -- f+1 hosts say no other one
  pub none_other : (pos : ℕ) (d : Difference) (found : Bytes) → state_in line pos ≡ Some found
      → ((x : Bytes) → quorum t.shape ≤ tally (λ h. says (said_at t.checkpoints pos) h x) (host_count t.shape) → same_bytes x found ≡ false → ⊥) → d.pos ≡ pos → IsDifference t line d → ⊥
  none_other pos d found noted other at is =
      let same : d.found ≡ found = same_Some d.found found (sym is.noted ∙ ap (state_in line) at ∙ noted) in
      other d.certified (subst (λ n. quorum t.shape ≤ tally (λ h. says (said_at t.checkpoints n) h d.certified) (host_count t.shape)) at is.said) (ap (same_bytes d.certified) (sym same) ∙ is.other)

  -- ---- the positions in front of a place

  pub record LowestOf (positions : List ℕ) (low : Option Difference) : Type 0 where
    pub some : IfSome low (IsLowest t line positions)
    pub none : IfNone low (IsNowhere t line positions)

  pub low_first : (positions : List ℕ) → LowestOf (take 0 positions) None
  low_first positions = record { some = tt; none = λ x there is. in_contained [] x.pos there }

  module _ (positions : List ℕ) (i pos : ℕ) (at : slice_get positions i ≡ Some pos) where
    either : (p : ℕ) → Contains (take (i + 1) positions) p → Contains (take i positions) p ⊎ (p ≡ pos)
    either p there = by (in_either (take i positions) (pos ∷ []) p (in_contained (take i positions ++ pos ∷ []) p (subst (λ (l : List ℕ). Contains l p) (taken_next (λ (l : List ℕ). l) (λ (x : ℕ). x ∷ []) (λ x l. refl) refl positions i pos at) there))) where
      by : In (take i positions) p ⊎ In (pos ∷ []) p → Contains (take i positions) p ⊎ (p ≡ pos)
      by (inl before) = inl (contained (take i positions) p before)
      by (inr (inl is)) = inr (sym is)
      by (inr (inr none)) = absurd none

    pub low_next : (low found : Option Difference) → LowestOf (take i positions) low → IfSome found (λ d. (d.pos ≡ pos) × IsDifference t line d) → IfNone found ((d : Difference) → d.pos ≡ pos → IsDifference t line d → ⊥)
        → LowestOf (take (i + 1) positions) (lowest low found)
    low_next None None g some none = record {
      some = tt;
      none = λ x there is. by x is (either x.pos there);
    } where
      by : (x : Difference) → IsDifference t line x → Contains (take i positions) x.pos ⊎ (x.pos ≡ pos) → ⊥
      by x is (inl before) = g.none x before is
      by x is (inr here) = none x here is
    low_next None (Some b) g some none = record { some = record { differs = some.1; below = λ x there is. by x is (either x.pos there) }; none = tt } where
      by : (x : Difference) → IsDifference t line x → Contains (take i positions) x.pos ⊎ (x.pos ≡ pos) → b.pos ≤ x.pos
      by x is (inl before) = absurd (g.none x before is)
      by x is (inr here) = let own = some.0 in omega (arith, own, here)
    low_next (Some a) None g some none = record { some = record { differs = g.some.differs; below = λ x there is. by x is (either x.pos there) }; none = tt } where
      by : (x : Difference) → IsDifference t line x → Contains (take i positions) x.pos ⊎ (x.pos ≡ pos) → a.pos ≤ x.pos
      by x is (inl before) = g.some.below x before is
      by x is (inr here) = absurd (none x here is)
    low_next (Some a) (Some b) g some none = elim (cases_Bool (nat_lt b.pos a.pos)) [
      | inl lower ↦ subst (λ (d : Difference). LowestOf (take (i + 1) positions) (Some d)) (sym (ap (λ c. cond c b a) lower)) (record { some = record { differs = some.1; below = λ x there is. first (ltb-true b.pos a.pos lower) x is (either x.pos there) }; none = tt })
      | inr above ↦ subst (λ (d : Difference). LowestOf (take (i + 1) positions) (Some d)) (sym (ap (λ c. cond c b a) above)) (record { some = record { differs = g.some.differs; below = λ x there is. second (ltb-false b.pos a.pos above) x is (either x.pos there) }; none = tt })
    ] where
      first : b.pos < a.pos → (x : Difference) → IsDifference t line x → Contains (take i positions) x.pos ⊎ (x.pos ≡ pos) → b.pos ≤ x.pos
      first lt x is (inl before) = let le = g.some.below x before is in omega (arith, lt, le)
      first lt x is (inr here) = let own = some.0 in omega (arith, own, here)

      second : a.pos ≤ b.pos → (x : Difference) → IsDifference t line x → Contains (take i positions) x.pos ⊎ (x.pos ≡ pos) → a.pos ≤ x.pos
      second le x is (inl before) = g.some.below x before is
      second le x is (inr here) = let own = some.0 in omega (arith, le, own, here)
