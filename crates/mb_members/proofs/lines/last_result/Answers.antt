use Rattle.mb_members.proofs.LineLaws.{none_accepted, last_accepted}
use Rattle.mb_members.proofs.lines.last_result.Goals as goal

pub returns-in-None : goal.returns-in-None
returns-in-None c = λ s secret client a h. none_accepted a.accepted (c.in-None.ensures s secret client a h)

pub returns-in_ok-from_slice-in-Some : goal.returns-in_ok-from_slice-in-Some
returns-in_ok-from_slice-in-Some c = λ s secret client a h.
    rw (c.from_vec.ensures, c.in_ok-from_slice-in-Some.ensures.items) (last_accepted a.accepted c.in-Some.seq c.in-Some.pos c.in-Some.answer.now (c.in-Some.ensures s secret client a h))
