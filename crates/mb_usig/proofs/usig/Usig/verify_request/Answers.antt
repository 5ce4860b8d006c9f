use Rattle.std.proofs.Common.{◌∙◌, sym}
use Rattle.mb_usig.specs.Tags.{signed_request}
use Rattle.mb_usig.proofs.Laws.{same_bytes-true, true-same_bytes}
use Rattle.mb_usig.proofs.usig.Usig.verify_request.Goals as goal

pub returns-then-remembers : goal.returns-then-remembers
returns-then-remembers c = sym (true-same_bytes _ _ (c.remembers.ensures c.if-remembers.true))

pub remember-requires : goal.remember-requires
unfolding signed_request
remember-requires c = same_bytes-true _ _ (sym c.eq-right.ensures ∙ c.if-right.true) ∙ c.client_tag.ensures
