use Rattle.std.proofs.Common.{◌≡◌, ◌∙◌, rules, ℕ, List, None, sym, ap, subst}
use Rattle.std.specs.Prelude.{nat_le, if◌then◌else◌}
use Rattle.std.specs.List.{filter}
use Rattle.std.proofs.lemmas.Fn.{filter_same}
use Rattle.mb_fetch.specs.declared.shelved.Keyed.{Keyed}
use Rattle.mb_fetch.specs.Snapshots.{Snapshot, StandsFrom}
use Rattle.mb_fetch.specs.Shelves.{part_under, has_key, all_keys}
use Rattle.mb_fetch.proofs.Shelving.{left_is, left_seen}
use Rattle.mb_fetch.proofs.Snapshots.{seen_fewer, fewer_stands}
use Rattle.mb_fetch.proofs.shelf.Shelf.drop_below.Goals as goal

pub invariant_of-self : goal.invariant_of-self
invariant_of-self c =
    let held = part_under c.self.inside.held in
    let are : c.retain.new.self.items ≡ filter (λ k. nat_le c.args.pos k.pos) c.self.inside.snapshots.items = filter_same _ (λ k. nat_le c.args.pos k.pos) _ (λ x b f' k. search rules) _ _ c.retain.ensures.filtered in
    let dropped = subst (λ (l : List Keyed). (key : ℕ) → part_under c.drop_unused.new.held key ≡ (if has_key key (all_keys l) then held key else None)) c.as_slice.ensures.value c.drop_unused.ensures in
    left_is c.self.inside.snapshots.items held c.self.invariant (λ k. nat_le c.args.pos k.pos) c.retain.new.self.items are (part_under c.drop_unused.new.held) dropped

pub returns-clause-kept : goal.returns-clause-kept
returns-clause-kept c =
    let held = part_under c.self.inside.held in
    let are : c.retain.new.self.items ≡ filter (λ k. nat_le c.args.pos k.pos) c.self.inside.snapshots.items = filter_same _ (λ k. nat_le c.args.pos k.pos) _ (λ x b f' k. search rules) _ _ c.retain.ensures.filtered in
    let dropped = subst (λ (l : List Keyed). (key : ℕ) → part_under c.drop_unused.new.held key ≡ (if has_key key (all_keys l) then held key else None)) c.as_slice.ensures.value c.drop_unused.ensures in
    left_seen c.self.inside.snapshots.items held c.self.invariant (λ k. nat_le c.args.pos k.pos) c.retain.new.self.items are (part_under c.drop_unused.new.held) dropped
    ∙ (seen_fewer held c.args.pos c.self.inside.snapshots.items
    ∙ ap (filter (λ (s : Snapshot). nat_le c.args.pos s.pos)) c.self.view_is)

pub returns-clause-stands : goal.returns-clause-stands
returns-clause-stands c = subst (λ (l : List Snapshot). StandsFrom c.args.self.now c.args.pos l) (sym (returns-clause-kept c)) (fewer_stands c.args.pos c.args.self.now)
