use Rattle.std.proofs.Common.{◌≡◌, Some, slice_get, refl, sym, ap, ◌∙◌}
use Rattle.std.proofs.lemmas.Option.{slice_get-get_or}
use Rattle.std.specs.List.{flat_map}
use Rattle.mb_model.specs.Inside.{stamped_claims}
use Rattle.mb_forgery.proofs.Walks.{walk_found, walk_on}
use Rattle.mb_forgery.proofs.checker.Checker.in_all.Goals as goal

pub returns-in-Some : goal.returns-in-Some
returns-in-Some c =
    let there : slice_get c.args.entries.now c.loop-entry.entry-index ≡ Some c.entry-item.result = slice_get-get_or _ _ c.entry-item.result c.loop-entry-test.true ∙ ap (λ x. Some x) (sym c.entry-item.is) in
    walk_found c.args.self.now (λ s. flat_map (stamped_claims s.shape)) (λ s. stamped_claims s.shape) (λ s x l. refl) (λ s. refl) c.args.entries.now c.loop-entry.entry-index c.loop-entry.invariant c.entry-item.result c.in-Some.found there (λ s w a. sym c.in-Some.is ∙ c.in_ok-found.ensures s w a)

pub loop-entry-preserved : goal.loop-entry-preserved
loop-entry-preserved c =
    let there : slice_get c.args.entries.now c.loop-entry.entry-index ≡ Some c.entry-item.result = slice_get-get_or _ _ c.entry-item.result c.loop-entry-test.true ∙ ap (λ x. Some x) (sym c.entry-item.is) in
    walk_on c.args.self.now (λ s. flat_map (stamped_claims s.shape)) (λ s. stamped_claims s.shape) (λ s x l. refl) (λ s. refl) c.args.entries.now c.loop-entry.entry-index c.loop-entry.invariant c.entry-item.result there (λ s w a. sym c.in_default.is ∙ c.in_ok-found.ensures s w a)
