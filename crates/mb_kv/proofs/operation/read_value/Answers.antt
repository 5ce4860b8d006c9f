use Rattle.std.specs.Int.{w16}
use Rattle.mb_base.specs.Fields.{place_of}
use Rattle.mb_kv.specs.declared.limits.TheConstants.{MAX_VALUE}
use Rattle.mb_kv.specs.Laws.TextLaws.{text_was_within}
use Rattle.mb_kv.proofs.operation.read_value.Goals as goal

pub returns-clause-fits : goal.returns-clause-fits
returns-clause-fits c = text_was_within (λ x. x.now) w16 0 MAX_VALUE (place_of c.args.fields.now) c.text16.result c.text16.new.self c.text16.ensures
