use Rattle.std.proofs.Common.{◌∙◌, sym}
use Rattle.mb_world_model.specs.World.{self_of}
use Rattle.mb_members.proofs.MemberLaws.{made_as, serves_as}
use Rattle.mb_members.proofs.members.new_member.Goals as goal

pub returns-clause-stands : goal.returns-clause-stands
returns-clause-stands g c = λ y is shape secret faulty first.
    let r = c.in_ok-make.field-0 in
    let made = c.in_ok-make.ensures in
    record {
      correct = faulty ∙ c.if-faulty.false;
      represents = made_as g.V.Service.machine y c.args.host r is
          (made.host.0 ∙ sym shape, made.host.1, made.host.2 ∙ sym secret)
          (made.stands (self_of y c.args.host) (serves_as g.V.Service.machine y c.args.host is) (sym first));
      whole = tt;
    }
