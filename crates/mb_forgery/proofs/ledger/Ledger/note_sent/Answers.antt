use Rattle.std.proofs.Common.{◌≡◌, true, false, sym, ◌∙◌}
use Rattle.mb_world_model.specs.World.{is_tagged_message}
use Rattle.mb_forgery.proofs.ledger.Ledger.note_sent.Goals as goal

pub returns-then-not-is_tagged-clause-keeps : goal.returns-then-not-is_tagged-clause-keeps
returns-then-not-is_tagged-clause-keeps c stamps asked tagged letter k is =
    let other : is_tagged_message letter.says ≡ false = sym (c.is_tagged.ensures letter.says is) ∙ c.if-not-is_tagged.true in
    rw other k

pub returns-clause-keeps : goal.returns-clause-keeps
returns-clause-keeps c stamps asked tagged letter k is =
    let kept : is_tagged_message letter.says ≡ true = sym (c.is_tagged.ensures letter.says is) ∙ c.if-not-is_tagged.false in
    rw kept (c.note_tag.ensures.keeps stamps asked tagged letter.says k is)
