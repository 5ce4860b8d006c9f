use Rattle.std.proofs.Common.{◌∙◌, Bool, ◌&&◌, ap, sym, refl}
use Rattle.mb_model.specs.OwnLog.{is_unspent}
use Rattle.mb_refinement.proofs.OwnLogs.{other_room_is}
use Rattle.mb_core.proofs.stamping.has_other_room.Goals as goal

-- src/stamping.rt
pub returns-then-room : goal.returns-then-room
returns-then-room g c = λ me d r.
    c.is_unspent.ensures me d r
    ∙ sym (other_room_is me c.args.replica.now.protocol.log d r.tables.log 7 refl ∙ ap (λ (b : Bool). b && is_unspent me d) (sym c.room.ensures ∙ c.if-room.true))

pub returns-else-room : goal.returns-else-room
returns-else-room g c = λ me d r.
    c.if-room.false
    ∙ sym (other_room_is me c.args.replica.now.protocol.log d r.tables.log 7 refl ∙ ap (λ (b : Bool). b && is_unspent me d) (sym c.room.ensures ∙ c.if-room.false))
