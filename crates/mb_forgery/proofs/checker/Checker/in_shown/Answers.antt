use Rattle.std.proofs.Common.{sym, ◌∙◌, ◌∷◌, []}
use Rattle.mb_forgery.proofs.Walks.{front_found, then_clean}
use Rattle.mb_msg.specs.Stamps.{ui_of_shown, bare_of_shown}
use Rattle.mb_model.specs.Inside.{sender_claim, claims_in_shown, shown_claims}
use Rattle.mb_forgery.proofs.checker.Checker.in_shown.Goals as goal

pub returns-in-Commit : goal.returns-in-Commit
unfolding shown_claims
returns-in-Commit c s w a = rw c.in-Commit.is (c.in_commit.ensures s w a)

pub returns-in-Some : goal.returns-in-Some
unfolding shown_claims
returns-in-Some c s w a = front_found s w (claims_in_shown s.shape c.args.entry.now) ((sender_claim (ui_of_shown c.args.entry.now) (bare_of_shown c.args.entry.now) ∷ [])) c.in-Some.found (sym c.in-Some.is ∙ c.in_ok-found.ensures s w a)

pub returns : goal.returns
unfolding shown_claims
returns c s w a = then_clean s w (claims_in_shown s.shape c.args.entry.now) ((sender_claim (ui_of_shown c.args.entry.now) (bare_of_shown c.args.entry.now) ∷ [])) c.sender_of_shown.result (sym c.in_default-2.is ∙ c.in_ok-found.ensures s w a) (c.sender_of_shown.ensures s w a)
