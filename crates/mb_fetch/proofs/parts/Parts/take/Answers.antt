use Rattle.std.proofs.Common.{◌≡◌, [], ◌∷◌, true, false, inl, inr, sym, subst, ap, ◌∙◌, get_or}
use Rattle.std.specs.Option.{option_or}
use Rattle.std.proofs.lemmas.Bool.{cases_Bool}
use Rattle.mb_fetch.specs.Fetched.{Fetched, IsCertified, part_at}
use Rattle.mb_fetch.specs.Parts.{part_from}
use Rattle.mb_fetch.specs.Inside.{seen}
use Rattle.mb_fetch.proofs.Taking.{taken_is, taken_finds, held_finds}
use Rattle.mb_fetch.proofs.parts.Parts.take.Goals as goal

pub invariant_of-self : goal.invariant_of-self
invariant_of-self c =
    taken_is (seen c.self.inside) c.self.invariant c.args.place c.args.part c.requires.within
    (subst (λ (t : Fetched). IsCertified t.pos t.digest c.args.place c.args.part) (sym c.self.view_is) c.requires.certified)

pub returns-then-not-self-place-clause-taken : goal.returns-then-not-self-place-clause-taken
returns-then-not-self-place-clause-taken c = λ i.
    let e = c.if-not-self-place.true in
    let free : get_or c.self.inside.is_held c.args.place false ≡ false = elim (cases_Bool (get_or c.self.inside.is_held c.args.place false)) [
      | inl so ↦ absurd cc
      | inr not_so ↦ not_so
    ] in
    taken_finds (seen c.self.inside) c.self.invariant c.args.place c.args.part c.requires.within free i
    ∙ ap (λ (t : Fetched). option_or (part_at t i) (part_from c.args.place (c.args.part ∷ []) i)) c.self.view_is

pub returns-else-not-self-place-clause-taken : goal.returns-else-not-self-place-clause-taken
returns-else-not-self-place-clause-taken c = λ i.
    let e = c.if-not-self-place.false in
    let full : get_or c.self.inside.is_held c.args.place false ≡ true = elim (cases_Bool (get_or c.self.inside.is_held c.args.place false)) [
      | inl so ↦ so
      | inr not_so ↦ absurd cc
    ] in
    subst (λ (t : Fetched). part_at t i ≡ option_or (part_at t i) (part_from c.args.place (c.args.part ∷ []) i)) c.self.view_is
    (held_finds (seen c.self.inside) c.self.invariant c.args.place c.args.part c.requires.within full i)
