use Rattle.std.proofs.Common.{rules, ◌≡◌, ℕ, ◌+◌, List, [], ◌∷◌, length, Option, refl, sym, ap, subst, ◌∙◌, arith}
use Rattle.std.specs.Option.{option_or}
use Rattle.std.specs.Vec.Iter.{into_iter_items}
use Rattle.mb_base.specs.Shapes.{Bytes}
use Rattle.mb_fetch.specs.Fetched.{IsCertified, part_at}
use Rattle.mb_fetch.specs.Parts.{part_from}
use Rattle.mb_fetch.proofs.Places.{or_none, or_both, from_nothing, from_here, from_first, from_behind}
use Rattle.mb_fetch.proofs.parts.Parts.take_all.Goals as goal

none_left : (l : List Bytes) → length l ≡ 0 → l ≡ []
none_left [] e = refl
none_left (x ∷ l) e = absurd (omega (arith, e))

pub loop-part-init : goal.loop-part-init
loop-part-init c =
    let all : into_iter_items c.into_iter-part-iterator.result ≡ c.args.parts.items = c.into_iter-part-iterator.ensures.into_iter_gives.0 in
    let first = c.from-place.ensures in
    let within = c.requires.within in
    let counted = ap length all in
    record {
      within = omega (arith, first, within, counted);
      certified = λ i part e. c.requires.certified i part
          (ap (λ (n : ℕ). part_from n c.args.parts.items i) (sym first) ∙ (sym (ap (λ (l : List Bytes). part_from c.from-place.result l i) all) ∙ e));
      pos = refl;
      digest = refl;
      taken = λ i. ap (λ (l : List Bytes). option_or (part_at c.args.self.now i) (part_from c.from-place.result l i)) all
          ∙ ap (λ (n : ℕ). option_or (part_at c.args.self.now i) (part_from n c.args.parts.items i)) first;
      len = search rules;
    }

pub take-requires-clause-within : goal.take-requires-clause-within
take-requires-clause-within c =
    let counted = ap length c.in-Some.ensures.steps.0 in
    let within = c.loop-part.invariant.within in
    omega (arith, counted, within)

pub take-requires-clause-certified : goal.take-requires-clause-certified
take-requires-clause-certified c =
    let place = c.loop-part.place in
    let here = ap (λ (l : List Bytes). part_from place l place) c.in-Some.ensures.steps.0 ∙ from_here place place c.in-Some.part (into_iter_items c.next.new.self) refl in
    subst (λ (n : ℕ). IsCertified n c.loop-part.self.digest place c.in-Some.part) (sym c.loop-part.invariant.pos)
    (subst (λ (d : Bytes). IsCertified c.args.self.now.pos d place c.in-Some.part) (sym c.loop-part.invariant.digest)
    (c.loop-part.invariant.certified place c.in-Some.part here))

pub loop-part-preserved : goal.loop-part-preserved
loop-part-preserved c =
    let place = c.loop-part.place in
    let part = c.in-Some.part in
    let rest = into_iter_items c.next.new.self in
    let left : into_iter_items c.loop-part.part-iterator ≡ part ∷ rest = c.in-Some.ensures.steps.0 in
    let counted = ap length left in
    let within = c.loop-part.invariant.within in
    let few = c.in-Some.ensures.steps.1 in
    let was = c.loop-part.invariant.len in
    record {
      within = omega (arith, counted, within);
      certified = λ i x e. c.loop-part.invariant.certified i x (ap (λ (l : List Bytes). part_from place l i) left ∙ from_behind place i part rest x e);
      pos = c.take.ensures.pos ∙ c.loop-part.invariant.pos;
      digest = c.take.ensures.digest ∙ c.loop-part.invariant.digest;
      taken = λ i.
          ap (λ (o : Option Bytes). option_or o (part_from (place + 1) rest i)) (c.take.ensures.taken i)
          ∙ (or_both (part_at c.loop-part.self i) (part_from place (part ∷ []) i) (part_from (place + 1) rest i)
          ∙ (ap (λ (o : Option Bytes). option_or (part_at c.loop-part.self i) o) (from_first place part rest i)
          ∙ (ap (λ (l : List Bytes). option_or (part_at c.loop-part.self i) (part_from place l i)) (sym left)
          ∙ c.loop-part.invariant.taken i)));
      len = omega (arith, few, was, counted);
    }

pub returns-clause-taken : goal.returns-clause-taken
returns-clause-taken c = λ i.
    let spent = c.in-None.ensures.steps.0 in
    let was = c.loop-part.invariant.len in
    let none : into_iter_items c.loop-part.part-iterator ≡ [] = none_left _ (omega (arith, spent, was)) in
    let nothing = ap (λ (l : List Bytes). part_from c.loop-part.place l i) none ∙ from_nothing c.loop-part.place i in
    sym (or_none (part_at c.loop-part.self i)) ∙ (ap (λ (o : Option Bytes). option_or (part_at c.loop-part.self i) o) (sym nothing) ∙ c.loop-part.invariant.taken i)
