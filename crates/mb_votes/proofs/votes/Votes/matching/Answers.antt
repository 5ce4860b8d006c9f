use Rattle.std.proofs.Common.{◌≡◌, Some, None, sym, ap, ◌∙◌, refl}
use Rattle.std.specs.Prelude.{option_copied}
use Rattle.mb_base.specs.Shapes.{host_count}
use Rattle.mb_model.specs.Votes.{is_vote}
use Rattle.mb_window.specs.Places.{item_at}
use Rattle.mb_votes.proofs.Scans.{scan, scan_nothing, scan_found}
use Rattle.mb_votes.proofs.votes.Votes.matching.Goals as goal

pub returns-in-Some : goal.returns-in-Some
returns-in-Some c = λ s low search st.
    let t = c.args.self.now in
    let here : item_at t.ballots c.args.pos ≡ Some c.in-Some.ballot.now = sym c.get.ensures ∙ ap option_copied c.in-Some.is in
    c.matching.ensures.value ∙ sym (scan t.ballots c.args.pos (host_count t.shape) c.in-Some.ballot.now (λ o. is_vote o c.args.vote.now) refl here t.hosts_are) ∙ scan_found s t low search c.args.pos (λ o. is_vote o c.args.vote.now) st

pub returns-in-None : goal.returns-in-None
returns-in-None c = λ s low search st.
    let t = c.args.self.now in
    let here : item_at t.ballots c.args.pos ≡ None = sym c.get.ensures ∙ ap option_copied c.in-None.is in
    sym (scan_nothing t.ballots c.args.pos (host_count t.shape) (λ o. is_vote o c.args.vote.now) refl here) ∙ scan_found s t low search c.args.pos (λ o. is_vote o c.args.vote.now) st
