use Rattle.std.proofs.Common.{◌<◌, ◌∙◌, refl, sym, subst}
use Rattle.mb_base.specs.declared.shape.Shape.{Shape}
use Rattle.mb_base.specs.Shapes.{host_count}
use Rattle.mb_replica.specs.Told.{KnowsEvent}
use Rattle.mb_world_model.specs.World.{self_of}
use Rattle.mb_members.specs.Members.{answer_at}
use Rattle.mb_members.proofs.MarkLaws.{goes_still}
use Rattle.mb_world.proofs.WorldLaws.{rest_of, all_rest, all_of}
use Rattle.mb_members.proofs.StampedLaws.{stamped_is_sent}
use Rattle.mb_world.proofs.world.World.step.Goals as goal

pub step_at-requires-clause-rest : goal.step_at-requires-clause-rest
step_at-requires-clause-rest g c =
    let has = c.requires.has in
    all_rest has.system g.V.Service.machine c.args.self.now has.state has.is has.represents

pub step_at-requires-clause-known : goal.step_at-requires-clause-known
step_at-requires-clause-known g c = λ r at.
    let has = c.requires.has in
    subst (λ (s : Shape). KnowsEvent s c.args.known.now c.args.event.now) (sym (all_of has.system c.args.self.now has.state has.represents c.args.host r at)) c.requires.known

pub invariant_of-self : goal.invariant_of-self
invariant_of-self g c =
    let w = c.args.self.now in
    record {
      one_shape = w.one_shape;
      pens_len = w.pens_len;
      faulty_hosts_len = w.faulty_hosts_len;
      faulty_clients_len = w.faulty_clients_len;
      members_len = c.step_at.ensures.len ∙ w.members_len;
      askers_len = w.askers_len;
      all_run = λ e. absurd cc;
      members_of = c.step_at.ensures.of w.shape w.members_of;
      stamped_in = c.step_at.ensures.within w.events w.stamped_in;
      asked_in = w.asked_in;
      askers_shape = w.askers_shape;
    }

pub returns-in-Some-clause-stands : goal.returns-in-Some-clause-stands
returns-in-Some-clause-stands g c = λ y x is h clean.
    let v = c.args.self.now in
    let host = c.args.host in
    let there : host < host_count y.schedule.shape = subst (λ (z : Shape). host < host_count z) h.rest.shape c.requires.host in
    let told = rw c.in-Some.is at (c.in_ok-told.ensures.stands y x.histories x.faulty_stamps is there h.members) in
    rw told.correct
    (c.stepped.ensures.stands y x (answer_at y host c.args.event.now x.histories) told.members
    (rest_of y.schedule v _ x x h.rest (record { shape = refl; usig = refl; pens = refl; hosts = refl; clients = refl; marks = refl }) (goes_still y.schedule x) h.rest.askers h.rest.ledger h.rest.pool h.rest.line h.rest.refused h.rest.events)
    told.step told.fit told.correct (stamped_is_sent (self_of y host) (x.histories host) c.args.event.now) (clean told.correct))

pub returns-in-None-clause-stands : goal.returns-in-None-clause-stands
returns-in-None-clause-stands g c = λ y x is h clean.
    let v = c.args.self.now in
    let host = c.args.host in
    let there : host < host_count y.schedule.shape = subst (λ (z : Shape). host < host_count z) h.rest.shape c.requires.host in
    let told = rw c.in-None.is at (c.in_ok-told.ensures.stands y x.histories x.faulty_stamps is there h.members) in
    rw told.0
    (c.note.ensures.stands y x (record {
      members = told.1;
      rest = rest_of y.schedule v _ x x h.rest (record { shape = refl; usig = refl; pens = refl; hosts = refl; clients = refl; marks = refl }) (goes_still y.schedule x) h.rest.askers h.rest.ledger h.rest.pool h.rest.line h.rest.refused h.rest.events;
    }))
