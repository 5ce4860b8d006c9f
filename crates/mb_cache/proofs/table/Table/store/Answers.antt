use Rattle.std.proofs.Common.{rules, ◌<◌, ◌^◌, List, ℕ, set, ap, ◌∙◌}
use Rattle.mb_model.specs.declared.known.LastReply.{LastReply}
use Rattle.mb_cache.proofs.Clients.{stored_fits, table_set}
use Rattle.mb_cache.proofs.table.Table.store.Goals as goal

pub invariant_of-self : goal.invariant_of-self
invariant_of-self c =
    let small : c.args.seq < 2 ^ 64 = search rules in
    table_set c.self.inside.replies.items c.from.result _ (stored_fits c.args.seq c.args.pos c.args.bytes c.requires.seq small c.requires.position c.requires.short) c.self.invariant

pub returns : goal.returns
returns c =
    let a : LastReply = record { seq = c.args.seq; pos = c.args.pos; result = c.args.bytes } in
    ap (λ (t : List LastReply). set t c.from.result a) c.self.view_is ∙ ap (λ (i : ℕ). set c.args.self.now i a) c.from.ensures
