use Rattle.std.proofs.Common.{refl}
use Rattle.mb_world_model.specs.WorldSteps.{happens}
use Rattle.mb_unforged.proofs.Reached.{reached_more}
use Rattle.mb_world.specs.Answers.{as_answer}
use Rattle.mb_world.proofs.RunLaws.{still_stands, still_left, still_has}
use Rattle.mb_world.proofs.world.World.world_step.Goals as goal

pub happen-requires-clause-has : goal.happen-requires-clause-has
happen-requires-clause-has g c =
    still_has c.args.self.now _ g.V.Service.machine (c.requires.has c.if-self.false)
    (record { fixed = record { shape = refl; usig = refl; pens = refl; hosts = refl; clients = refl; marks = refl }; members = refl; askers = refl; ledger = refl; pool = refl; line = refl; refused = refl; events = refl })

pub happen-requires-clause-allowed : goal.happen-requires-clause-allowed
happen-requires-clause-allowed g c = λ y x h.
    c.in-Ok.ensures.content y x (still_stands _ c.args.self.now y x h
    (record { fixed = record { shape = refl; usig = refl; pens = refl; hosts = refl; clients = refl; marks = refl }; members = refl; askers = refl; ledger = refl; pool = refl; line = refl; refused = refl; events = refl }))

pub returns-in_ok-seen-in-Ok-clause-stands : goal.returns-in_ok-seen-in-Ok-clause-stands
returns-in_ok-seen-in-Ok-clause-stands g c = λ y x is reached h.
    let runs = c.in_ok-seen-in-Ok.ensures.stands y x is reached (still_stands c.args.self.now _ y x h
    (record { fixed = record { shape = refl; usig = refl; pens = refl; hosts = refl; clients = refl; marks = refl }; members = refl; askers = refl; ledger = refl; pool = refl; line = refl; refused = refl; events = refl })) in
    still_left c.happen.new.self _ y (as_answer c.in_ok-seen-in-Ok.seen) x (happens y x c.args.event.now) runs
    (record { fixed = record { shape = refl; usig = refl; pens = refl; hosts = refl; clients = refl; marks = refl }; members = refl; askers = refl; ledger = refl; pool = refl; line = refl; refused = refl; events = refl })

pub returns-in_ok-seen-in-Ok-clause-has : goal.returns-in_ok-seen-in-Ok-clause-has
returns-in_ok-seen-in-Ok-clause-has g c =
    let has = c.requires.has c.if-self.false in
    let runs = c.in_ok-seen-in-Ok.ensures.stands has.system has.state has.is has.reached (still_stands c.args.self.now _ has.system has.state has.represents
    (record { fixed = record { shape = refl; usig = refl; pens = refl; hosts = refl; clients = refl; marks = refl }; members = refl; askers = refl; ledger = refl; pool = refl; line = refl; refused = refl; events = refl })) in
    let next = happens has.system has.state c.args.event.now in
    record {
      system = has.system;
      state = next;
      is = has.is;
      reached = reached_more has.system has.state has.reached c.args.event.now (c.in-Ok.ensures.stops has.system has.state has.represents);
      represents = still_stands c.happen.new.self _ has.system next runs.stands
          (record { fixed = record { shape = refl; usig = refl; pens = refl; hosts = refl; clients = refl; marks = refl }; members = refl; askers = refl; ledger = refl; pool = refl; line = refl; refused = refl; events = refl });
    }
