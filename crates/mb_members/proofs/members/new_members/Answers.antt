use Rattle.std.proofs.Common.{◌≡◌, ◌∙◌, ◌∷◌, List, Bool, false, length, get_or, sym, ap, arith}
use Rattle.std.specs.Vec.Iter.{into_iter_items}
use Rattle.std.proofs.lemmas.Option.{unwrap_or-slice_get}
use Rattle.mb_schedule.specs.Limits.{is_faulty}
use Rattle.mb_members.proofs.LeftLaws.{drop_one, one_longer}
use Rattle.mb_members.proofs.MemberLaws.{member_made, runs_push, of_push, within_push}
use Rattle.mb_members.proofs.members.new_members.Goals as goal

pub loop-service-preserved : goal.loop-service-preserved
loop-service-preserved g c =
    let host = c.loop-service.host in
    let service = c.in-Some.service in
    let m = c.in_ok-new_member.field-0 in
    let all = c.loop-service.all.items in
    let rest = into_iter_items c.next.new.self in
    let left : into_iter_items c.loop-service.service-iterator ≡ service ∷ rest = c.in-Some.ensures.steps.0 in
    let counted = ap length left in
    let few = c.in-Some.ensures.steps.1 in
    let inv = c.loop-service.invariant in
    let was = inv.turns in
    let count = inv.count in
    let one = drop_one c.args.services.items host service rest (sym inv.left ∙ left) in
    let pushed = c.in_ok-push.ensures.items in
    record {
      stands = λ y is shape secret hosts services.
          let faulty : is_faulty y.schedule host ≡ get_or c.args.faulty_hosts.now c.from-in-loop-service.result false =
          unwrap_or-slice_get y.schedule.faulty_hosts host false ∙ (ap (λ (l : List Bool). get_or l host false) hosts ∙ ap (λ i. get_or c.args.faulty_hosts.now i false) (sym c.from-in-loop-service.ensures)) in
          rw pushed (member_made y all m (inv.stands y is shape secret hosts services) (rw inv.len (c.in_ok-new_member.ensures.stands y is shape secret faulty (services host service one.0))));
      runs = rw pushed (runs_push all m inv.runs c.in_ok-new_member.ensures.runs);
      within = rw pushed (within_push 0 all m inv.within c.in_ok-new_member.ensures.within);
      of = rw pushed (of_push c.args.shape all m inv.of c.in_ok-new_member.ensures.of);
      len = one_longer all c.push.new.self.items m host pushed inv.len;
      left = sym one.1;
      count = omega (arith, counted, count);
      turns = omega (arith, few, was, counted);
    }
