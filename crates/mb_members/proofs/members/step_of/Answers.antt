use Rattle.mb_members.proofs.MemberLaws.{goes_on}
use Rattle.mb_members.proofs.members.step_of.Goals as goal

pub returns-in-Ok-clause-stands : goal.returns-in-Ok-clause-stands
returns-in-Ok-clause-stands g c = λ y h d is there host.
    goes_on g.V.Service.machine y h c.args.replica.now c.step_told.new.self d c.args.event.now c.in-Ok.told is there host c.in-Ok.ensures.stands
