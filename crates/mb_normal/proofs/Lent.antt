-- What a rule carries is what the tables hold.
use Rattle.std.proofs.Common.{◌≡◌, ◌≢◌, ℕ, ◌+◌, Bool, List, [], ◌∷◌, Option, Some, None, refl, sym, ap, ◌∙◌, inl, inr}
use Rattle.std.specs.Prelude.{option_map}
use Rattle.mb_base.specs.declared.shape.Shape.{Shape}
use Rattle.mb_parts.specs.declared.request.Request.{Request}
use Rattle.mb_parts.specs.declared.batch.Batch.{Batch}
use Rattle.mb_parts.specs.declared.floor.Floor.{Floor}
use Rattle.mb_model.specs.declared.known.KnownSlot.{KnownSlot}
use Rattle.mb_model.specs.Batches.{first_batch}
use Rattle.mb_model.specs.EnabledRules.{Rule, Commit, Execute, Prepare, with_batch}
use Rattle.mb_model.proofs.Options.{or_some, if_some, map_some}
use Rattle.mb_normal.specs.Searches.{Searches, unordered}
use Rattle.mb_normal.specs.Rules.{has_quorum, if_committed, commit_rule, execute_rule, prepare_rule, CommitIsLent, ExecuteIsLent, PrepareIsLent}

-- ---- each rule of a position carries what is there

committed : (pos : ℕ) (slot : Option KnownSlot) (r : Rule) → with_batch (Commit pos) slot ≡ Some r → (k : KnownSlot) × (b : Batch) × (slot ≡ Some k) × (k.batch ≡ Some b) × (Commit pos k b ≡ r)
committed pos None r e = absurd cc
committed pos (Some k) r e = let m = map_some (Commit pos k) k.batch r e in (k, m.0, refl, m.1, m.2)

executed : (s : Shape) (x : Searches) (pos : ℕ) (slot : Option KnownSlot) (r : Rule) → if_committed s x pos slot ≡ Some r → (k : KnownSlot) × (b : Batch) × (slot ≡ Some k) × (k.batch ≡ Some b) × (Execute pos b ≡ r)
executed s x pos None r e = absurd cc
executed s x pos (Some k) r e = let m = map_some (Execute pos) k.batch r (if_some (has_quorum s x pos k) (option_map (Execute pos) k.batch) r e).1 in (k, m.0, refl, m.1, m.2)

some_wait : (l : List Request) (b : Batch) → first_batch l ≡ Some b → l ≢ []
some_wait [] b e = absurd cc
some_wait (r ∷ l) b e = λ none. absurd cc

-- ---- rules that are the same carry the same

same_commit : (p q : ℕ) (k j : KnownSlot) (b a : Batch) → Commit p k b ≡ Commit q j a → (p ≡ q) × (k ≡ j) × (b ≡ a)
same_commit p q k j b a e = (cc, cc, cc)

same_execute : (p q : ℕ) (b a : Batch) → Execute p b ≡ Execute q a → (p ≡ q) × (b ≡ a)
same_execute p q b a e = (cc, cc)

same_prepare : (p q : ℕ) (b a : Batch) → Prepare p b ≡ Prepare q a → (p ≡ q) × (b ≡ a)
same_prepare p q b a e = (cc, cc)

-- ---- the first rule

module _ (s : Shape) (host : ℕ) (x : Searches) (at : Floor) (exec : ℕ) (room : Bool) where
  of_commit : (r : Rule) → commit_rule s host x at exec room ≡ Some r → (k : KnownSlot) × (b : Batch) × (x.slots (at.last + 1) ≡ Some k) × (k.batch ≡ Some b) × (Commit (at.last + 1) k b ≡ r)
  of_commit r e = committed (at.last + 1) (x.slots (at.last + 1)) r (if_some _ _ r e).1

  of_execute : (r : Rule) → execute_rule s host x at exec room ≡ Some r → (k : KnownSlot) × (b : Batch) × (x.slots (exec + 1) ≡ Some k) × (k.batch ≡ Some b) × (Execute (exec + 1) b ≡ r)
  of_execute r e = executed s x (exec + 1) (x.slots (exec + 1)) r (if_some _ _ r e).1

  of_prepare : (r : Rule) → prepare_rule s host x at exec room ≡ Some r → (b : Batch) × (first_batch (unordered s x) ≡ Some b) × (Prepare (at.last + 1) b ≡ r)
  of_prepare r e = map_some (Prepare (at.last + 1)) (first_batch (unordered s x)) r (if_some _ _ r e).1

  pub commit_lent : CommitIsLent s host x at exec room
  commit_lent pos k b e = elim (or_some (commit_rule s host x at exec room) _ (Commit pos k b) e) [
    | inl now ↦
        let m = of_commit (Commit pos k b) now in
        let same = same_commit (at.last + 1) pos m.0 k m.1 b m.4 in
        (sym same.0, ap x.slots (sym same.0) ∙ m.2 ∙ ap (λ (y : KnownSlot). Some y) same.1, ap (λ (y : KnownSlot). y.batch) (sym same.1) ∙ m.3 ∙ ap (λ (y : Batch). Some y) same.2)
    | inr later ↦ elim (or_some (execute_rule s host x at exec room) (prepare_rule s host x at exec room) (Commit pos k b) later) [
      | inl next ↦ let other = (of_execute (Commit pos k b) next).4 in absurd cc
      | inr last ↦ let other = (of_prepare (Commit pos k b) last).2 in absurd cc
    ]
  ]

  pub execute_lent : ExecuteIsLent s host x at exec room
  execute_lent pos b e = elim (or_some (commit_rule s host x at exec room) _ (Execute pos b) e) [
    | inl now ↦ let other = (of_commit (Execute pos b) now).4 in absurd cc
    | inr later ↦ elim (or_some (execute_rule s host x at exec room) (prepare_rule s host x at exec room) (Execute pos b) later) [
      | inl next ↦
          let m = of_execute (Execute pos b) next in
          let same = same_execute (exec + 1) pos m.1 b m.4 in
          (sym same.0, m.0, ap x.slots (sym same.0) ∙ m.2, m.3 ∙ ap (λ (y : Batch). Some y) same.1)
      | inr last ↦ let other = (of_prepare (Execute pos b) last).2 in absurd cc
    ]
  ]

  pub prepare_lent : PrepareIsLent s host x at exec room
  prepare_lent pos b e = elim (or_some (commit_rule s host x at exec room) _ (Prepare pos b) e) [
    | inl now ↦ let other = (of_commit (Prepare pos b) now).4 in absurd cc
    | inr later ↦ elim (or_some (execute_rule s host x at exec room) (prepare_rule s host x at exec room) (Prepare pos b) later) [
      | inl next ↦ let other = (of_execute (Prepare pos b) next).4 in absurd cc
      | inr last ↦
          let m = of_prepare (Prepare pos b) last in
          let same = same_prepare (at.last + 1) pos m.0 b m.2 in
          let first : first_batch (unordered s x) ≡ Some b = m.1 ∙ ap (λ (y : Batch). Some y) same.1 in
          (sym same.0, first, some_wait (unordered s x) b first)
    ]
  ]
