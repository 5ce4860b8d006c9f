use Rattle.std.proofs.Common.{◌≡◌, ℕ, List, [], Some, Contains, ap, inl, inr, subst, ◌∙◌, arith}
use Rattle.slab.proofs.SlabLemmas.{Contains-cons_cases, Contains-entries}
use Rattle.mb_base.specs.Shapes.{Bytes}
use Rattle.mb_fetch.specs.declared.shelved.HashedPart.{HashedPart}
use Rattle.mb_fetch.specs.Shelves.{part_under}
use Rattle.mb_fetch.proofs.Holding.{bytes_there, part_there}
use Rattle.mb_fetch.proofs.keys.find_key.Goals as goal

pub loop-key-init : goal.loop-key-init
loop-key-init c =
    let left = c.into_iter-key-iterator.ensures.into_iter_gives ∙ c.iter-key-items.ensures.rest in
    record {
      can_next = tt;
      is_finite = tt;
      left = λ key part found same. rw left ((Contains-entries c.args.held.now key part).1 found);
    }

pub loop-key-preserved : goal.loop-key-preserved
loop-key-preserved c =
    let held = c.args.held.now in
    let at = c.in-Some.ensures.steps in
    record {
      can_next = tt;
      is_finite = tt;
      left = λ key part found same. elim (Contains-cons_cases _ _ _ (rw at at (c.loop-key.invariant.left key part found same))) [
        | inl here ↦
            let there = ap (λ e. part_under held e.0) here ∙ (bytes_there held key part found ∙ ap (λ (b : Bytes). Some b) same) in
            absurd (c.has_bytes.ensures.not_so c.if-has_bytes.false there)
        | inr rest ↦ rest
      ];
    }

pub returns-clause-absent : goal.returns-clause-absent
returns-clause-absent c = λ key is.
    let found = part_there c.args.held.now key c.args.bytes.now is in
    let spent : c.loop-key.key-iterator ≡ [] = c.in-None.ensures.steps.0 in
    let left : Contains [] (key, found.0) = subst (λ (l : List (ℕ × HashedPart)). Contains l (key, found.0)) spent (c.loop-key.invariant.left key found.0 found.1 found.2) in
    absurd (omega (arith, left.1))
