use Rattle.std.proofs.Common.{refl, subst, arith}
use Rattle.mb_usig.specs.Trusted.{Trusted}
use Rattle.mb_members.specs.declared.members.Member.TheVariants as member
use Rattle.mb_members.specs.Stamping.{IsRawStamp, kept_stamp}
use Rattle.mb_members.proofs.ListLaws.{member_at}
use Rattle.mb_members.proofs.MemberLaws.{runs_set}
use Rattle.mb_members.proofs.StampLaws.{trusted_at, faulty_stamps, correct_at, stamped_more, shape_stays}
use Rattle.mb_members.proofs.stamping.stamp_bytes.Goals as goal

pub bytes_by-requires-clause-of : goal.bytes_by-requires-clause-of
bytes_by-requires-clause-of g c =
    let at = member_at c.args.members.now.items c.from.result c.index_mut.result.now (member.Faulty c.in-Faulty.faulty) (omega (arith, c.from.ensures, c.requires.host)) c.index_mut.ensures.value c.in-Faulty.is in
    c.requires.of c.from.result (member.Faulty c.in-Faulty.faulty) at

pub bytes_by-requires-clause-few : goal.bytes_by-requires-clause-few
bytes_by-requires-clause-few g c =
    let at = member_at c.args.members.now.items c.from.result c.index_mut.result.now (member.Faulty c.in-Faulty.faulty) (omega (arith, c.from.ensures, c.requires.host)) c.index_mut.ensures.value c.in-Faulty.is in
    let few = c.requires.few c.from.result (member.Faulty c.in-Faulty.faulty) at in
    omega (arith, few)

pub returns-in_err-bytes_by-in-Faulty-clause-runs : goal.returns-in_err-bytes_by-in-Faulty-clause-runs
returns-in_err-bytes_by-in-Faulty-clause-runs g c = λ all. runs_set c.args.members.now.items c.from.result (member.Faulty c.bytes_by.new.faulty) all refl

pub returns-in_err-bytes_by-in-Faulty-clause-within : goal.returns-in_err-bytes_by-in-Faulty-clause-within
returns-in_err-bytes_by-in-Faulty-clause-within g c = λ n all.
    let at = member_at c.args.members.now.items c.from.result c.index_mut.result.now (member.Faulty c.in-Faulty.faulty) (omega (arith, c.from.ensures, c.requires.host)) c.index_mut.ensures.value c.in-Faulty.is in
    stamped_more n c.args.members.now.items c.from.result c.in-Faulty.faulty c.bytes_by.new.faulty all at c.bytes_by.ensures.counter

pub returns-in_err-bytes_by-in-Faulty-clause-of : goal.returns-in_err-bytes_by-in-Faulty-clause-of
returns-in_err-bytes_by-in-Faulty-clause-of g c =
    let at = member_at c.args.members.now.items c.from.result c.index_mut.result.now (member.Faulty c.in-Faulty.faulty) (omega (arith, c.from.ensures, c.requires.host)) c.index_mut.ensures.value c.in-Faulty.is in
    shape_stays c.args.shape.now c.args.members.now.items c.from.result c.in-Faulty.faulty c.bytes_by.new.faulty c.requires.of at c.bytes_by.ensures.of

pub returns-in-Correct-clause-stands : goal.returns-in-Correct-clause-stands
returns-in-Correct-clause-stands g c = λ y d stamps all.
    let at = member_at c.args.members.now.items c.from.result c.index_mut.result.now (member.Correct c.in-Correct.field-0) (omega (arith, c.from.ensures, c.requires.host)) c.index_mut.ensures.value c.in-Correct.is in
    rw (← c.from.ensures) (correct_at y c.args.members.now.items d stamps c.from.result c.in-Correct.field-0 all at)

pub returns-in_ok-bytes_by-in-Faulty-clause-stands : goal.returns-in_ok-bytes_by-in-Faulty-clause-stands
returns-in_ok-bytes_by-in-Faulty-clause-stands g c = λ y d stamps all.
    let at = member_at c.args.members.now.items c.from.result c.index_mut.result.now (member.Faulty c.in-Faulty.faulty) (omega (arith, c.from.ensures, c.requires.host)) c.index_mut.ensures.value c.in-Faulty.is in
    let made = c.in_ok-bytes_by-in-Faulty.field-0 in
    let told = c.in_ok-bytes_by-in-Faulty.ensures in
    rw (← c.from.ensures) (
      subst (λ (t : Trusted). IsRawStamp t c.args.bare.now made) (trusted_at y c.args.members.now.items d stamps c.from.result c.in-Faulty.faulty all at) told.stamp,
      faulty_stamps y c.args.members.now.items d stamps c.from.result c.in-Faulty.faulty c.bytes_by.new.faulty (kept_stamp made) all at (told.stands y.schedule c.from.result (stamps c.from.result)),
    )

pub returns-in_ok-bytes_by-in-Faulty-clause-runs : goal.returns-in_ok-bytes_by-in-Faulty-clause-runs
returns-in_ok-bytes_by-in-Faulty-clause-runs g c = λ all. runs_set c.args.members.now.items c.from.result (member.Faulty c.bytes_by.new.faulty) all refl

pub returns-in_ok-bytes_by-in-Faulty-clause-within : goal.returns-in_ok-bytes_by-in-Faulty-clause-within
returns-in_ok-bytes_by-in-Faulty-clause-within g c = λ n all.
    let at = member_at c.args.members.now.items c.from.result c.index_mut.result.now (member.Faulty c.in-Faulty.faulty) (omega (arith, c.from.ensures, c.requires.host)) c.index_mut.ensures.value c.in-Faulty.is in
    stamped_more n c.args.members.now.items c.from.result c.in-Faulty.faulty c.bytes_by.new.faulty all at c.bytes_by.ensures.counter

pub returns-in_ok-bytes_by-in-Faulty-clause-of : goal.returns-in_ok-bytes_by-in-Faulty-clause-of
returns-in_ok-bytes_by-in-Faulty-clause-of g c =
    let at = member_at c.args.members.now.items c.from.result c.index_mut.result.now (member.Faulty c.in-Faulty.faulty) (omega (arith, c.from.ensures, c.requires.host)) c.index_mut.ensures.value c.in-Faulty.is in
    shape_stays c.args.shape.now c.args.members.now.items c.from.result c.in-Faulty.faulty c.bytes_by.new.faulty c.requires.of at c.bytes_by.ensures.of
