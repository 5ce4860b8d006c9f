use Rattle.std.proofs.Common.{subst, arith}
use Rattle.std.proofs.lemmas.Result.{on_ok_weaker}
use Rattle.mb_msg.specs.declared.stamped.Stamped.TheVariants as stamped
use Rattle.mb_msg.specs.Fits.{FitsStamped}
use Rattle.mb_learn.proofs.CountedVotes.{counted_prepare, counted_commit, counted_other}
use Rattle.mb_learn.proofs.heard.Heard.count.Goals as goal

pub returns-in-Prepare-clause-counts : goal.returns-in-Prepare-clause-counts
returns-in-Prepare-clause-counts c =
    let fits : FitsStamped c.args.self.now.shape (stamped.Prepare c.in-Prepare.m) = subst (FitsStamped c.args.self.now.shape) c.in-Prepare.is c.requires.bare.0 in
    let within = fits.pos.1 in
    rw c.in-Prepare.is (on_ok_weaker c.cast.result (λ adds. counted_prepare c.args.self.now c.cast.new.self c.in-Prepare.m c.batch_digest.result c.batch_digest.ensures c.cast.ensures.openings (omega (arith, within)) adds) c.cast.ensures.adds)

pub returns-in-Commit-clause-counts : goal.returns-in-Commit-clause-counts
returns-in-Commit-clause-counts c =
    let fits : FitsStamped c.args.self.now.shape (stamped.Commit c.in-Commit.m) = subst (FitsStamped c.args.self.now.shape) c.in-Commit.is c.requires.bare.0 in
    let within = fits.pos.1 in
    rw c.in-Commit.is (on_ok_weaker c.cast-in-Commit.result (λ adds. counted_commit c.args.self.now c.cast-in-Commit.new.self c.in-Commit.m c.batch_digest-in-Commit.result c.batch_digest-in-Commit.ensures c.cast-in-Commit.ensures.openings (omega (arith, within)) adds) c.cast-in-Commit.ensures.adds)

pub returns-in_default-clause-counts : goal.returns-in_default-clause-counts
returns-in_default-clause-counts c = counted_other c.args.self.now c.args.stamp.now c.in_default.not-Prepare c.in_default.not-Commit c.in_default.not-Open
