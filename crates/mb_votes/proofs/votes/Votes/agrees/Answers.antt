use Rattle.std.proofs.Common.{◌≡◌, Some, None, sym, ap, ◌∙◌, refl, arith}
use Rattle.std.specs.Prelude.{option_copied}
use Rattle.mb_base.specs.Shapes.{host_count}
use Rattle.mb_model.specs.Votes.{is_vote}
use Rattle.mb_window.specs.Places.{item_at}
use Rattle.mb_votes.proofs.Scans.{scan, nobody_agrees}
use Rattle.mb_votes.proofs.votes.Votes.agrees.Goals as goal

pub returns-in-Some-clause-yes : goal.returns-in-Some-clause-yes
returns-in-Some-clause-yes c = λ e.
    let t = c.args.self.now in
    let here : item_at t.ballots c.args.pos ≡ Some c.in-Some.ballot.now = sym c.get.ensures ∙ ap option_copied c.in-Some.is in
    let agree = c.agrees.ensures.yes e in
    (agree.0, let many = scan t.ballots c.args.pos (host_count t.shape) c.in-Some.ballot.now (λ o. is_vote o agree.0) refl here t.hosts_are in let enough = agree.1 in let size = c.quorum.ensures in omega (arith, many, enough, size))

pub returns-in-Some-clause-no : goal.returns-in-Some-clause-no
returns-in-Some-clause-no c = λ agree.
    let t = c.args.self.now in
    let here : item_at t.ballots c.args.pos ≡ Some c.in-Some.ballot.now = sym c.get.ensures ∙ ap option_copied c.in-Some.is in
    let many = scan t.ballots c.args.pos (host_count t.shape) c.in-Some.ballot.now (λ o. is_vote o agree.0) refl here t.hosts_are in
    let enough = agree.1 in
    let size = c.quorum.ensures in
    c.agrees.ensures.no agree.0 (omega (arith, many, enough, size))

pub returns-in-None-clause-no : goal.returns-in-None-clause-no
returns-in-None-clause-no c = λ agree.
    let t = c.args.self.now in
    let here : item_at t.ballots c.args.pos ≡ None = sym c.get.ensures ∙ ap option_copied c.in-None.is in
    absurd (nobody_agrees t.shape t.ballots c.args.pos here agree)
