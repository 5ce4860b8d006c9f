use Rattle.std.proofs.Common.{refl}
use Rattle.mb_votes.proofs.Behind.{raised_finds, raised_low, raised_hosts, raise_stands}
use Rattle.mb_votes.proofs.votes.Votes.raise.Goals as goal

pub invariant_of-self-clause-hosts_are : goal.invariant_of-self-clause-hosts_are
invariant_of-self-clause-hosts_are c = raised_hosts c.args.self.now.ballots c.raise.new.self c.args.low c.raise.ensures.stands c.args.self.now.shape c.args.self.now.hosts_are

pub returns : goal.returns
returns c = λ s low search st.
    raise_stands c.args.self.now _ c.args.low refl
    (raised_low c.args.self.now.ballots c.raise.new.self c.args.low c.raise.ensures.stands)
    (raised_finds c.args.self.now.ballots c.raise.new.self c.args.low c.raise.ensures.stands) s low search st
