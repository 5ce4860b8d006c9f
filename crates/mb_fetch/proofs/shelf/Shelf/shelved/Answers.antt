use Rattle.std.proofs.Common.{◌≡◌, ◌∙◌, ℕ, List, length, Some, None, option_map, sym, ap, ltb-true, ltb-false, get_or, arith}
use Rattle.mb_fetch.specs.declared.shelved.HashedPart.{HashedPart}
use Rattle.mb_fetch.specs.Shelves.{part_under}
use Rattle.mb_fetch.proofs.Reading.{at_pos, bytes_copied, no_snapshot, past_all, under_key}
use Rattle.mb_fetch.proofs.shelf.Shelf.shelved.Goals as goal

pub returns-in_err-snapshot : goal.returns-in_err-snapshot
returns-in_err-snapshot c =
    let keyed = c.self.inside.snapshots.items in
    let none : at_pos c.args.pos keyed ≡ None = sym (c.snapshot_at.ensures ∙ ap (at_pos c.args.pos) c.as_slice.ensures.value) ∙ ap (option_map (λ s. s.now)) c.in_err-snapshot.was in
    ap (option_map (λ s. s.now.bytes)) c.from_residual.ensures ∙ no_snapshot keyed (part_under c.self.inside.held) c.args.self.now c.self.view_is c.args.pos c.args.number none

pub returns-in_err-key : goal.returns-in_err-key
returns-in_err-key c =
    let keyed = c.self.inside.snapshots.items in
    let k = c.in_ok-snapshot.snapshot.now in
    let found : at_pos c.args.pos keyed ≡ Some k = sym (c.snapshot_at.ensures ∙ ap (at_pos c.args.pos) c.as_slice.ensures.value) ∙ ap (option_map (λ s. s.now)) c.in_ok-snapshot.was in
    let past = ltb-false c.from.result (length c.as_slice-2.result.now) (sym c.in_err-key.ensures.lookup.0) in
    let long = ap length c.as_slice-2.ensures.value in
    let number = c.from.ensures in
    ap (option_map (λ s. s.now.bytes)) c.from_residual-in_err-key.ensures ∙ past_all keyed (part_under c.self.inside.held) c.args.self.now c.self.view_is c.args.pos c.args.number k found (omega (arith, past, long, number))

pub returns : goal.returns
returns c =
    let keyed = c.self.inside.snapshots.items in
    let k = c.in_ok-snapshot.snapshot.now in
    let key = c.in_ok-key.key.now in
    let found : at_pos c.args.pos keyed ≡ Some k = sym (c.snapshot_at.ensures ∙ ap (at_pos c.args.pos) c.as_slice.ensures.value) ∙ ap (option_map (λ s. s.now)) c.in_ok-snapshot.was in
    let within = ltb-true c.from.result (length c.as_slice-2.result.now) (sym c.in_ok-key.ensures.lookup.0) in
    let long = ap length c.as_slice-2.ensures.value in
    let number = c.from.ensures in
    let at : key ≡ get_or k.keys.items c.args.number key =
    c.in_ok-key.ensures.lookup.1
    ∙ (ap (λ (l : List ℕ). get_or l c.from.result key) c.as_slice-2.ensures.value
    ∙ ap (λ (n : ℕ). get_or k.keys.items n key) number)
    in
    bytes_copied c.get-2.result
    ∙ (ap (option_map (λ (s : HashedPart). s.bytes)) c.get-2.ensures
    ∙ under_key keyed (part_under c.self.inside.held) c.args.self.now c.self.view_is c.args.pos c.args.number k found c.self.invariant key (omega (arith, within, long, number)) at)
