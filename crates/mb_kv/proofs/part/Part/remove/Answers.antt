use Rattle.std.proofs.Common.{sym, ap, ◌∙◌, is_some}
use Rattle.mb_kv.specs.Pairs.{Pairs, value_of, without}
use Rattle.mb_kv.proofs.EntryLaws.{lookup_seen, remove_seen, some_seen}
use Rattle.mb_kv.proofs.part.Part.remove.Goals as goal

pub returns-clause-state : goal.returns-clause-state
returns-clause-state c =
    rw c.remove.ensures.entries (remove_seen c.args.key.now c.self.inside.pairs.entries)
    ∙ ap (λ (ps : Pairs). without ps c.args.key.now) c.self.view_is

pub returns-clause-was : goal.returns-clause-was
returns-clause-was c =
    c.is_some.ensures ∙ ap is_some c.remove.ensures.value ∙ some_seen _
    ∙ ap is_some (sym (lookup_seen c.args.key.now c.self.inside.pairs.entries))
    ∙ ap (λ (ps : Pairs). is_some (value_of ps c.args.key.now)) c.self.view_is
