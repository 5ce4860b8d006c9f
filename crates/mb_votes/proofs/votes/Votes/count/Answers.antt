use Rattle.std.proofs.Common.{◌≡◌, Some, None, is_some, sym, ap, ◌∙◌, refl}
use Rattle.std.specs.Prelude.{option_copied}
use Rattle.mb_base.specs.Shapes.{host_count}
use Rattle.mb_window.specs.Places.{item_at}
use Rattle.mb_votes.proofs.Scans.{scan, scan_nothing, scan_found}
use Rattle.mb_votes.proofs.votes.Votes.count.Goals as goal

pub returns-in-Some : goal.returns-in-Some
returns-in-Some c = λ s low search st.
    let t = c.args.self.now in
    let here : item_at t.ballots c.args.pos ≡ Some c.in-Some.ballot.now = sym c.get.ensures ∙ ap option_copied c.in-Some.is in
    c.count.ensures ∙ sym (scan t.ballots c.args.pos (host_count t.shape) c.in-Some.ballot.now is_some refl here t.hosts_are) ∙ scan_found s t low search c.args.pos is_some st

pub returns-in-None : goal.returns-in-None
returns-in-None c = λ s low search st.
    let t = c.args.self.now in
    let here : item_at t.ballots c.args.pos ≡ None = sym c.get.ensures ∙ ap option_copied c.in-None.is in
    sym (scan_nothing t.ballots c.args.pos (host_count t.shape) is_some refl here) ∙ scan_found s t low search c.args.pos is_some st
