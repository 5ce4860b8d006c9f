use Rattle.std.proofs.Common.{◌∷◌, refl, subst}
use Rattle.mb_forgery.specs.Asked.{HoldsAsked}
use Rattle.mb_forgery.proofs.Kept.{keeps_asked}
use Rattle.mb_forgery.proofs.ledger.Ledger.note_asked.Goals as goal

pub returns-clause-keeps : goal.returns-clause-keeps
returns-clause-keeps c stamps asked tagged k =
    let r = c.args.request.now in
    keeps_asked c.args.self.now.shape c.args.self.now _ stamps asked tagged k refl r c.requires refl (subst (λ q. HoldsAsked c.note.new.self (q ∷ asked)) c.in_ok-duplicate.ensures (c.in_ok-note.ensures asked k.asked)) refl
