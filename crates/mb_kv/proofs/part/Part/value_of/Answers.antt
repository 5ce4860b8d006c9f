use Rattle.std.proofs.Common.{sym, ap, ◌∙◌, Some, option_copied, option_map}
use Rattle.mb_kv.specs.declared.kept.Kept.{Kept}
use Rattle.mb_kv.specs.Pairs.{Pairs, value_of}
use Rattle.mb_kv.proofs.EntryLaws.{lookup_seen}
use Rattle.mb_kv.proofs.part.Part.value_of.Goals as goal

pub returns-in-Some : goal.returns-in-Some
returns-in-Some c =
    ap Some c.as_slice.ensures
    ∙ ap (option_map (λ (k : Kept). k.value)) (sym (ap option_copied c.in-Some.is) ∙ c.get.ensures.value)
    ∙ sym (lookup_seen c.args.key.now c.self.inside.pairs.entries)
    ∙ ap (λ (ps : Pairs). value_of ps c.args.key.now) c.self.view_is

pub returns-in-None : goal.returns-in-None
returns-in-None c =
    ap (option_map (λ (k : Kept). k.value)) (sym (ap option_copied c.in-None.is) ∙ c.get.ensures.value)
    ∙ sym (lookup_seen c.args.key.now c.self.inside.pairs.entries)
    ∙ ap (λ (ps : Pairs). value_of ps c.args.key.now) c.self.view_is
