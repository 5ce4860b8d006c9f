-- A host votes once for a position of a view: in an ordered list, behind a vote for it no other stands. A later PREPARE or COMMIT of the view is at a
-- later position, and a view that is open is not opened again.
use Rattle.std.proofs.Common.{◌≡◌, ℕ, ◌+◌, ◌≤◌, Bool, true, List, [], ◌∷◌, ◌++◌, length, refl, sym, subst, inl, inr, arith, Some}
use Rattle.std.specs.Prelude.{◌==◌}
use Rattle.std.proofs.lemmas.Bool.{and_parts, eqb-true}
use Rattle.mb_base.specs.Shapes.{Bytes}
use Rattle.mb_base.specs.declared.shape.Shape.{Shape}
use Rattle.mb_parts.specs.Bares.{Bare}
use Rattle.mb_parts.specs.Bares as bare
use Rattle.mb_parts.specs.Claims.{Claim}
use Rattle.mb_parts.specs.Certificates.{inner_valid}
use Rattle.mb_parts.specs.Counters.{at_counter}
use Rattle.mb_parts.specs.Ordered.{initial_floor, is_ordered, is_opened, last_position}
use Rattle.mb_parts.proofs.Counters.{StandsAt, at_split}
use Rattle.mb_parts.proofs.OrderedParts.{tail}
use Rattle.mb_model.specs.declared.known.Vote.{Vote}
use Rattle.mb_agreement.specs.Agreement.{IsConsistentRecord}
use Rattle.mb_model.specs.Committed.{Plans, vote_by, vote_in}
use Rattle.mb_model.proofs.Options.{option_cases, if_some}
use Rattle.mb_agreement.proofs.WholeLists.{if_is, IsPlaced, prepare_is, commit_is, open_is, vote_placed}
use Rattle.mb_host_laws.proofs.Cases.{not_both}

module _ (s : Shape) (secret : Bytes) (plans : Plans) (issued : Claim → Bool) (prefix : ℕ → List Bare) (facts : IsConsistentRecord s secret plans issued prefix) (g : ℕ) where
  abbrev IsOrdered : List Bare → Type 0
  IsOrdered l = is_ordered initial_floor s g (inner_valid s issued) l ≡ true

  abbrev Placed : List Bare → ℕ → ℕ → Type 0
  Placed l v p = IsPlaced s secret plans issued prefix facts g l v p

  behind : (last p q : ℕ) → p ≤ last → q ≡ last + 1 → q ≡ p → ⊥
  behind last p q low next same = absurd (omega (arith, low, next, same))

  not_again : (n : ℕ) (m : Bare) (l : List Bare) (v p : ℕ) (z : Vote) → IsOrdered (m ∷ l) → Placed l v p → vote_by plans n m v p ≡ Some z → ⊥
  unfolding vote_by
  not_again n (bare.Prepare w q d) l v p z o i e =
      let a = and_parts (w == v) (q == p) (if_is _ _ _ e).0 in
      let place = (prepare_is s secret plans issued prefix facts g w q d l o).0.place in
      behind (last_position initial_floor l w) p q (subst (λ (x : ℕ). p ≤ last_position initial_floor l x) (sym (eqb-true w v a.0)) i.low) place (eqb-true q p a.1)
  not_again n (bare.Commit w q c f d) l v p z o i e =
      let a = and_parts (w == v) (q == p) (if_is _ _ _ e).0 in
      let place = (commit_is s secret plans issued prefix facts g w q c f d l o).0.place in
      behind (last_position initial_floor l w) p q (subst (λ (x : ℕ). p ≤ last_position initial_floor l x) (sym (eqb-true w v a.0)) i.low) place (eqb-true q p a.1)
  not_again n (bare.Open f d) l v p z o i e =
      let a = if_some (f.view == v) _ z e in
      let unopened = (open_is s secret plans issued prefix facts g f d l o).unopened in
      not_both (is_opened initial_floor l f.view) (subst (λ (x : ℕ). is_opened initial_floor l x ≡ true) (sym (eqb-true f.view v a.0)) i.opened) unopened
  not_again n (bare.Join w f c) l v p z o i e = absurd cc
  not_again n (bare.ViewChange w d) l v p z o i e = absurd cc
  not_again n (bare.NewView w b f q d) l v p z o i e = absurd cc
  not_again n (bare.Enter w c q) l v p z o i e = absurd cc
  not_again n (bare.Checkpoint q t d) l v p z o i e = absurd cc

  -- A vote stays the vote for its position.
  kept : (later l : List Bare) (v p : ℕ) (x : Vote) → IsOrdered (later ++ l) → vote_in plans l v p ≡ Some x → vote_in plans (later ++ l) v p ≡ Some x
  unfolding vote_in
  kept [] l v p x o e = e
  kept (m ∷ later) l v p x o e =
      let rest : IsOrdered (later ++ l) = tail initial_floor s g (inner_valid s issued) m (later ++ l) o in
      let before : vote_in plans (later ++ l) v p ≡ Some x = kept later l v p x rest e in
      elim (option_cases (vote_by plans (length (later ++ l) + 1) m v p)) [
        | inl none ↦ rw none before
        | inr (z, some) ↦ absurd (not_again (length (later ++ l) + 1) m (later ++ l) v p z o (vote_placed s secret plans issued prefix facts g (later ++ l) v p x before rest) some)
      ]

  here : (m : Bare) (l : List Bare) (v p : ℕ) (x : Vote) → vote_by plans (length l + 1) m v p ≡ Some x → vote_in plans (m ∷ l) v p ≡ Some x
  unfolding vote_in
  here m l v p x e = rw e refl

  -- A vote that stands in a prefix is the host's vote for that position.
  pub stands_voted : (n : ℕ) (m : Bare) (v p : ℕ) (x : Vote) → at_counter (prefix g) n ≡ Some m → vote_by plans n m v p ≡ Some x → vote_in plans (prefix g) v p ≡ Some x
  stands_voted n m v p x at e =
      let s : StandsAt (prefix g) n m = at_split (prefix g) n m at in
      let o : IsOrdered (s.later ++ m ∷ s.before) = subst IsOrdered (sym s.is) (facts.ordered g) in
      subst (λ (l : List Bare). vote_in plans l v p ≡ Some x) s.is (kept s.later (m ∷ s.before) v p x o (here m s.before v p x (subst (λ (k : ℕ). vote_by plans k m v p ≡ Some x) s.counter e)))
