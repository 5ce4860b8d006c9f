use Rattle.std.proofs.Common.{sym, ◌∙◌}
use Rattle.mb_world.proofs.AllowedLaws.{forged_told, tag_told, nothing_found}
use Rattle.mb_world.proofs.world.World.found.Goals as goal

-- src/allowed.rt
pub returns-in-Some-clause-stops : goal.returns-in-Some-clause-stops
returns-in-Some-clause-stops g c = λ y x m h claims tags. forged_told y.schedule x c.args.self.now.events m c.in-Some.claim h.rest.events (sym c.in-Some.is ∙ claims)

pub returns-then-tag-clause-stops : goal.returns-then-tag-clause-stops
returns-then-tag-clause-stops g c = λ y x m h claims tags. tag_told y.schedule x c.args.self.now.events m h.rest.events (sym c.in_default.is ∙ claims) (sym c.if-tag.true ∙ tags)

pub returns-clause-stops : goal.returns-clause-stops
returns-clause-stops g c = λ y x m h claims tags. nothing_found y.schedule x m (sym c.in_default.is ∙ claims) (sym c.if-tag.false ∙ tags)
