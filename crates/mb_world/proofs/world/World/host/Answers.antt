use Rattle.std.proofs.Common.{◌≡◌, ◌<◌, ◌∙◌, Some, length, refl, ap, arith}
use Rattle.std.specs.List.{slice_get}
use Rattle.std.proofs.lemmas.Option.{slice_get_read}
use Rattle.mb_members.specs.declared.members.Member.TheVariants as member
use Rattle.mb_world.proofs.world.World.host.Goals as goal

pub returns-in-Correct : goal.returns-in-Correct
returns-in-Correct g c = λ y x h.
    let members = c.args.self.now.members.items in
    let lt : c.from.result < length members = omega (arith, c.from.ensures, c.requires, c.args.self.now.members_len) in
    let read = slice_get_read members (length members) c.from.result c.index.result.now refl lt c.index.ensures in
    let at : slice_get members c.from.result ≡ Some (member.Correct c.in-Correct.replica) = read ∙ ap Some c.in-Correct.is in
    rw (← c.from.ensures) (h.members c.from.result (member.Correct c.in-Correct.replica) at)

pub returns-in-Faulty : goal.returns-in-Faulty
returns-in-Faulty g c = λ y x h.
    let members = c.args.self.now.members.items in
    let lt : c.from.result < length members = omega (arith, c.from.ensures, c.requires, c.args.self.now.members_len) in
    let read = slice_get_read members (length members) c.from.result c.index.result.now refl lt c.index.ensures in
    let at : slice_get members c.from.result ≡ Some (member.Faulty c.in-Faulty.field-0) = read ∙ ap Some c.in-Faulty.is in
    rw (← c.from.ensures) (h.members c.from.result (member.Faulty c.in-Faulty.field-0) at).0
