use Rattle.std.proofs.Common.{sym, ap, ◌∙◌, is_none, is_some}
use Rattle.mb_kv.specs.Pairs.{Pairs, value_of, with_value}
use Rattle.mb_kv.proofs.EntryLaws.{lookup_seen, insert_seen, none_seen}
use Rattle.mb_kv.proofs.part.Part.keep.Goals as goal

pub returns-clause-state : goal.returns-clause-state
returns-clause-state c =
    rw c.in_ok-old.ensures.entries (insert_seen c.args.entry.0 c.args.entry.1 c.self.inside.pairs.entries)
    ∙ ap (λ (ps : Pairs). with_value ps c.args.entry.0.items c.args.entry.1.value) c.self.view_is

pub returns-clause-is_new : goal.returns-clause-is_new
returns-clause-is_new c =
    none_seen c.is_none.result _ (sym c.is_none.ensures ∙ ap is_some c.in_ok-old.ensures.old)
    ∙ ap is_none (sym (lookup_seen c.args.entry.0.items c.self.inside.pairs.entries))
    ∙ ap (λ (ps : Pairs). is_none (value_of ps c.args.entry.0.items)) c.self.view_is
