use Rattle.std.proofs.Common.{◌≡◌, ◌∙◌, ◌<◌, ℕ, length, Some, ap, refl, subst, arith}
use Rattle.std.specs.List.{slice_get}
use Rattle.mb_base.specs.Shapes.{host_count}
use Rattle.std.proofs.lemmas.Option.{slice_get_read}
use Rattle.mb_members.specs.declared.members.Member.TheVariants as member
use Rattle.mb_members.specs.Members.{IsMember}
use Rattle.mb_members.proofs.ListLaws.{each_set}
use Rattle.mb_members.proofs.MemberLaws.{correct_steps, faulty_stays, runs_set, of_set, within_set}
use Rattle.mb_members.proofs.members.step_at.Goals as goal

pub step_of-requires : goal.step_of-requires
step_of-requires g c =
    let lt : c.from.result < length c.args.members.now.items = omega (arith, c.from.ensures, c.requires.host) in
    let read = slice_get_read c.args.members.now.items (length c.args.members.now.items) c.from.result c.index_mut.result.now refl lt c.index_mut.ensures.value in
    let at : slice_get c.args.members.now.items c.from.result ≡ Some (member.Correct c.in-Correct.replica) = read ∙ ap Some c.in-Correct.is in
    record { runs = c.requires.runs c.from.result (member.Correct c.in-Correct.replica) at; rest = c.requires.rest c.from.result c.in-Correct.replica at; known = c.requires.known c.in-Correct.replica (subst (λ (i : ℕ). slice_get c.args.members.now.items i ≡ Some (member.Correct c.in-Correct.replica)) c.from.ensures at) }

pub returns-in_ok-step_of-in-Correct-clause-stands : goal.returns-in_ok-step_of-in-Correct-clause-stands
returns-in_ok-step_of-in-Correct-clause-stands g c = λ y d stamps is there all.
    let lt : c.from.result < length c.args.members.now.items = omega (arith, c.from.ensures, c.requires.host) in
    let read = slice_get_read c.args.members.now.items (length c.args.members.now.items) c.from.result c.index_mut.result.now refl lt c.index_mut.ensures.value in
    let at : slice_get c.args.members.now.items c.from.result ≡ Some (member.Correct c.in-Correct.replica) = read ∙ ap Some c.in-Correct.is in
    let known : c.from.result < host_count y.schedule.shape = omega (arith, c.from.ensures, there) in
    rw (← c.from.ensures)
    (correct_steps y c.args.members.now.items d stamps c.from.result c.in-Correct.replica c.step_of.new.replica c.args.event.now c.in_ok-step_of-in-Correct.field-0 all at
    (c.in_ok-step_of-in-Correct.ensures.stands y c.from.result (d c.from.result) is known))

pub returns-in_ok-step_of-in-Correct-clause-runs : goal.returns-in_ok-step_of-in-Correct-clause-runs
returns-in_ok-step_of-in-Correct-clause-runs g c =
    runs_set c.args.members.now.items c.from.result (member.Correct c.step_of.new.replica) c.requires.runs c.in_ok-step_of-in-Correct.ensures.runs

pub returns-in_ok-step_of-in-Correct-clause-within : goal.returns-in_ok-step_of-in-Correct-clause-within
returns-in_ok-step_of-in-Correct-clause-within g c = λ n all. within_set n c.args.members.now.items c.from.result (member.Correct c.step_of.new.replica) all (omega arith)

pub returns-in_ok-step_of-in-Correct-clause-of : goal.returns-in_ok-step_of-in-Correct-clause-of
returns-in_ok-step_of-in-Correct-clause-of g c = λ n all. of_set n c.args.members.now.items c.from.result (member.Correct c.step_of.new.replica) all refl

pub returns-in_err-step_of-in-Correct-clause-within : goal.returns-in_err-step_of-in-Correct-clause-within
returns-in_err-step_of-in-Correct-clause-within g c = λ n all. within_set n c.args.members.now.items c.from.result (member.Correct c.step_of.new.replica) all (omega arith)

pub returns-in_err-step_of-in-Correct-clause-of : goal.returns-in_err-step_of-in-Correct-clause-of
returns-in_err-step_of-in-Correct-clause-of g c = λ n all. of_set n c.args.members.now.items c.from.result (member.Correct c.step_of.new.replica) all refl

pub returns-in-Faulty-clause-stands : goal.returns-in-Faulty-clause-stands
returns-in-Faulty-clause-stands g c = λ y d stamps is there all.
    let lt : c.from.result < length c.args.members.now.items = omega (arith, c.from.ensures, c.requires.host) in
    let read = slice_get_read c.args.members.now.items (length c.args.members.now.items) c.from.result c.index_mut.result.now refl lt c.index_mut.ensures.value in
    let at : slice_get c.args.members.now.items c.from.result ≡ Some (member.Faulty c.in-Faulty.field-0) = read ∙ ap Some c.in-Faulty.is in (
      rw (← c.from.ensures) (faulty_stays y c.args.members.now.items d stamps c.from.result c.in-Faulty.field-0 all at),
      each_set (λ h z. IsMember y h z (d h) (stamps h)) (λ h z. IsMember y h z (d h) (stamps h)) c.args.members.now.items c.from.result c.index_mut.result.now all (all c.from.result c.index_mut.result.now read) (λ h z other here. here),
    )
