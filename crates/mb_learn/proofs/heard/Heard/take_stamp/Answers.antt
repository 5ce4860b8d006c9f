use Rattle.std.proofs.Common.{◌≡◌, true, sym, ap, ◌∙◌}
use Rattle.mb_usig.specs.Trusted.{Trusted}
use Rattle.mb_model.specs.GateChecks.{stamp_claim}
use Rattle.mb_model.specs.Verified.{verifies}
use Rattle.mb_learn.proofs.Stamping.{takes_known, hears_unverified}
use Rattle.mb_learn.proofs.Taking.{takes_ok}
use Rattle.mb_learn.proofs.heard.Heard.take_stamp.Goals as goal

pub returns-then-is_known : goal.returns-then-is_known
returns-then-is_known c = takes_known c.args.self.now (stamp_claim c.args.stamp.now) c.requires.ready (λ s secret claims all lists h. c.is_known.ensures c.if-is_known.true s secret claims all lists h)

pub returns-then-not-branch : goal.returns-then-not-branch
returns-then-not-branch c =
    takes_known c.args.self.now (stamp_claim c.args.stamp.now) c.requires.ready (hears_unverified c.args.self.now (stamp_claim c.args.stamp.now) (sym c.in_ok-is_certified.ensures ∙ c.if-not-branch.true))

pub keep-requires : goal.keep-requires
keep-requires c =
    let right : verifies c.args.self.now.usig.secret (stamp_claim c.args.stamp.now) ≡ true = sym c.in_ok-is_certified.ensures ∙ c.if-not-branch.false in
    let says = c.in_ok-note_said.ensures right in
    record { bare = rw says.keeps.shape c.requires.bare; ready = says.keeps.ready }

pub returns : goal.returns
returns c =
    let right : verifies c.args.self.now.usig.secret (stamp_claim c.args.stamp.now) ≡ true = sym c.in_ok-is_certified.ensures ∙ c.if-not-branch.false in
    let says = c.in_ok-note_said.ensures right in
    takes_ok c.keep.result c.args.self.now c.note_said.new.self c.keep.new.self (stamp_claim c.args.stamp.now) says c.keep.ensures.keeps
    (c.keep.ensures.follows (ap (λ (u : Trusted). verifies u.secret (stamp_claim c.args.stamp.now)) says.usig ∙ right))
