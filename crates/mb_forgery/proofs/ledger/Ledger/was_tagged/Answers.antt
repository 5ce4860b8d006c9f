use Rattle.std.proofs.Common.{ap, ◌∙◌}
use Rattle.std.specs.List.{list_any}
use Rattle.mb_usig.specs.Tags.{same_bytes}
use Rattle.mb_msg.specs.Spelling.{spelling}
use Rattle.mb_forgery.proofs.ledger.Ledger.was_tagged.Goals as goal

pub returns : goal.returns
returns c s stamps asked tagged keeps =
    c.contains.ensures ∙ keeps.tagged c.as_slice.result.now ∙ ap (λ b. list_any (λ x. same_bytes (spelling x) b) tagged) (c.as_slice.ensures.value ∙ c.in_ok-bytes.ensures.text)
