use Rattle.std.proofs.Common.{sym, ◌∙◌, ◌∷◌, []}
use Rattle.mb_forgery.proofs.Walks.{front_found, then_clean}
use Rattle.mb_msg.specs.Stamps.{ui_of, bare_of}
use Rattle.mb_model.specs.Inside.{sender_claim, claims_in_stamped, stamped_claims}
use Rattle.mb_forgery.proofs.checker.Checker.in_stamped_of.Goals as goal

pub returns-in-Commit : goal.returns-in-Commit
unfolding stamped_claims
returns-in-Commit c s w a = rw c.in-Commit.is (c.in_commit_of.ensures s w a)

pub returns-in-Some : goal.returns-in-Some
unfolding stamped_claims
returns-in-Some c s w a = front_found s w (claims_in_stamped s.shape c.args.m.now) ((sender_claim (ui_of c.args.m.now) (bare_of c.args.m.now) ∷ [])) c.in-Some.found (sym c.in-Some.is ∙ c.in_ok-found.ensures s w a)

pub returns : goal.returns
unfolding stamped_claims
returns c s w a = then_clean s w (claims_in_stamped s.shape c.args.m.now) ((sender_claim (ui_of c.args.m.now) (bare_of c.args.m.now) ∷ [])) c.sender_of_body.result (sym c.in_default-2.is ∙ c.in_ok-found.ensures s w a) (c.sender_of_body.ensures s w a)
