use Rattle.std.proofs.Common.{◌≡◌, ◌∙◌, ◌<◌, true, false, length, Some, sym, ap, refl, arith}
use Rattle.std.specs.List.{slice_get}
use Rattle.std.proofs.lemmas.Option.{slice_get_read}
use Rattle.mb_usig.specs.Trusted.{Trusted}
use Rattle.mb_schedule.specs.Limits.{is_faulty}
use Rattle.mb_members.specs.declared.members.Member.TheVariants as member
use Rattle.mb_members.proofs.ChangeLaws.{member_at}
use Rattle.mb_world.proofs.world.World.trusted.Goals as goal

pub returns-in-Correct-clause-faulty : goal.returns-in-Correct-clause-faulty
returns-in-Correct-clause-faulty g c = λ y x h faulty.
    let members = c.args.self.now.members.items in
    let lt : c.from.result < length members = omega (arith, c.from.ensures, c.requires, c.args.self.now.members_len) in
    let is = rw c.in-Correct.is at (member_at y members x.histories x.faulty_stamps c.from.result c.args.host c.index.result.now h.members c.from.ensures lt c.index.ensures) in
    let correct : is_faulty y.schedule c.args.host ≡ false = is.correct in
    let both : true ≡ false = sym faulty ∙ correct in
    absurd cc

pub returns-in-Faulty-clause-faulty : goal.returns-in-Faulty-clause-faulty
returns-in-Faulty-clause-faulty g c = λ y x h faulty.
    let members = c.args.self.now.members.items in
    let lt : c.from.result < length members = omega (arith, c.from.ensures, c.requires, c.args.self.now.members_len) in
    let is = rw c.in-Faulty.is at (member_at y members x.histories x.faulty_stamps c.from.result c.args.host c.index.result.now h.members c.from.ensures lt c.index.ensures) in
    (ap (λ (t : Trusted). t.host) is.1.trusted, ap (λ (t : Trusted). t.secret) is.1.trusted)

pub returns-in-Faulty-clause-shape : goal.returns-in-Faulty-clause-shape
returns-in-Faulty-clause-shape g c =
    let members = c.args.self.now.members.items in
    let lt : c.from.result < length members = omega (arith, c.from.ensures, c.requires, c.args.self.now.members_len) in
    let read = slice_get_read members (length members) c.from.result c.index.result.now refl lt c.index.ensures in
    let at : slice_get members c.from.result ≡ Some (member.Faulty c.in-Faulty.faulty) = read ∙ ap Some c.in-Faulty.is in
    c.args.self.now.members_of c.from.result (member.Faulty c.in-Faulty.faulty) at
