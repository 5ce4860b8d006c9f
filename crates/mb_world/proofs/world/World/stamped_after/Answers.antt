use Rattle.std.proofs.Common.{◌-◌, ◌<◌, ◌∷◌, [], length, take, drop, sym, ap, ◌∙◌, arith}
use Rattle.mb_msg.specs.Fits.{FitsStamped}
use Rattle.mb_steps.proofs.StepPlanBases.{all_append}
use Rattle.mb_members.proofs.ChangeLaws.{stamped_in, kept_more, kept_same, after_read, member_at, is_no_other}
use Rattle.mb_world.proofs.world.World.stamped_after.Goals as goal
use Rattle.mb_world.proofs.world.World.stamped_after.Goals.{in-Some+in_ok-push, in_default-2}

pub returns-in_default-clause-after : goal.returns-in_default-clause-after
returns-in_default-clause-after g c = λ y x h faulty.
    let w = c.args.self.now in
    let lt : c.from.result < length w.members.items = omega (arith, c.from.ensures, c.requires, w.members_len) in
    absurd
    (is_no_other y c.args.host c.index.result.now (x.histories c.args.host) (x.faulty_stamps c.args.host)
    (member_at y w.members.items x.histories x.faulty_stamps c.from.result c.args.host c.index.result.now h.members c.from.ensures lt c.index.ensures) faulty c.in_default.not-Faulty)

pub loop-bytes-preserved : goal.loop-bytes-preserved
loop-bytes-preserved g c =
    let l = c.loop-bytes in
    let all = c.as_slice.result.now in
    let items = take (length all - c.min-first.result) (drop c.min-first.result all) in
    elim c.match-branch-2.branch [
      | in-Some+in_ok-push w ↦ rw (w.messages-is, w.in_ok-push.ensures.items) (record {
        taken = λ y x h. kept_more (stamped_in y.schedule) items l.bytes-index c.bytes-item.result w.in-Some.stamped l.messages.items c.loop-bytes-test.true c.bytes-item.is
            (sym w.in-Some.is ∙ (c.in_ok-stamped.ensures.message y x h ∙ ap (stamped_in y.schedule) c.as_slice-in-loop-bytes.ensures)) (l.invariant.taken y x h);
        fits = all_append (FitsStamped c.args.self.now.shape) l.messages.items (w.in-Some.stamped ∷ []) l.invariant.fits (rw w.in-Some.is at c.in_ok-stamped.ensures.fits, tt);
      })
      | in_default-2 w ↦ rw w.messages-is (record {
        taken = λ y x h. kept_same (stamped_in y.schedule) items l.bytes-index c.bytes-item.result l.messages.items c.loop-bytes-test.true c.bytes-item.is
            (sym w.in_default-2.is ∙ (c.in_ok-stamped.ensures.message y x h ∙ ap (stamped_in y.schedule) c.as_slice-in-loop-bytes.ensures)) (l.invariant.taken y x h);
        fits = l.invariant.fits;
      })
    ]

pub returns-clause-after : goal.returns-clause-after
returns-clause-after g c = λ y x h faulty.
    let w = c.args.self.now in
    let lt : c.from.result < length w.members.items = omega (arith, c.from.ensures, c.requires, w.members_len) in
    let is = member_at y w.members.items x.histories x.faulty_stamps c.from.result c.args.host c.index.result.now h.members c.from.ensures lt c.index.ensures in
    let stamper = rw c.in-Faulty.is at is in
    after_read y.schedule x c.args.host c.args.counter c.min-first.result c.loop-bytes.bytes-index c.as_slice.result.now c.loop-bytes.messages.items
    (rw c.as_slice.ensures.value stamper.1.messages) (omega (arith, c.min-first.ensures, c.len-count.ensures, ap length c.as_slice.ensures.value, c.in-Faulty.faulty.messages.ok.0)) c.loop-bytes-test.false (c.loop-bytes.invariant.taken y x h)
