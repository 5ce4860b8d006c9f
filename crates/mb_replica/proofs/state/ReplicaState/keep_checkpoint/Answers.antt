use Rattle.std.proofs.Common.{◌∙◌, refl}
use Rattle.mb_replica.proofs.Keeping.{place_there, keeping_left, agreed_fits, keeping_ends, keeping_writes}
use Rattle.mb_replica.proofs.state.ReplicaState.keep_checkpoint.Goals as goal

-- src/checkpoints.rt
pub keep-requires-clause-place : goal.keep-requires-clause-place
keep-requires-clause-place g c = let b = c.requires.brings in place_there b.me c.args.self.now c.args.m b.entry b.history b.awaits

pub invariant_of-self-clause-normal_is : goal.invariant_of-self-clause-normal_is
invariant_of-self-clause-normal_is g c =
    let a = c.args.self.now.protocol in
    let left = keeping_left a.normal c.keep.new.self c.args.m c.keep.ensures.stands in
    (left.shape_is ∙ a.normal_is.0, left.host_is ∙ a.normal_is.1)

pub invariant_of-self-clause-low_is : goal.invariant_of-self-clause-low_is
invariant_of-self-clause-low_is g c =
    let a = c.args.self.now.protocol in
    (keeping_left a.normal c.keep.new.self c.args.m c.keep.ensures.stands).low_is ∙ a.low_is

pub learn_agreed-requires : goal.learn_agreed-requires
learn_agreed-requires g c = let b = c.requires.brings in agreed_fits b.me c.args.self.now c.args.m b.entry b.history b.awaits c.keep.new.self c.keep.ensures.stands

pub returns-clause-stands : goal.returns-clause-stands
returns-clause-stands g c = λ me e d w. keeping_ends me c.args.self.now c.args.m e d w c.keep.new.self c.keep.ensures.stands c.learn_agreed.result _ c.learn_agreed.new.self c.learn_agreed.ensures refl refl refl

pub returns-clause-writes : goal.returns-clause-writes
returns-clause-writes g c = keeping_writes c.learn_agreed.result c.args.self.now _ c.learn_agreed.new.self c.learn_agreed.ensures (record { same = record { shape = refl; host = refl; secret = refl }; tables = refl })
