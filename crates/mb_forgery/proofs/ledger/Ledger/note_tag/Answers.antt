use Rattle.std.proofs.Common.{refl, ◌∙◌}
use Rattle.mb_forgery.proofs.Kept.{keeps_tagged}
use Rattle.mb_forgery.proofs.ledger.Ledger.note_tag.Goals as goal

pub returns-clause-keeps : goal.returns-clause-keeps
returns-clause-keeps c stamps asked tagged m k is =
    keeps_tagged c.args.self.now.shape c.args.self.now _ stamps asked tagged k refl m c.in_ok-from_slice.field-0 (c.in_ok-from_slice.ensures.items ∙ is) refl c.in_ok-_new.ensures.keys refl
