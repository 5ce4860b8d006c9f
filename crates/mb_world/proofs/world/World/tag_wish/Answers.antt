use Rattle.std.proofs.Common.{rules}
use Rattle.mb_base.specs.Shapes.{IsShape}
use Rattle.mb_base.specs.declared.shape.Shape.{Shape}
use Rattle.mb_msg.specs.declared.change.ReqViewChange.{ReqViewChange}
use Rattle.mb_msg.specs.Fits.{FitsWish}
use Rattle.mb_encodable.proofs.Letters.{wish_message}
use Rattle.mb_world.proofs.world.World.tag_wish.Goals as goal

shape_is : (s : Shape) → IsShape s
shape_is s = record { faults = s.faults_in; intervals = s.interval_in; clients = s.clients_in }

pub add-requires-clause-fits : goal.add-requires-clause-fits
add-requires-clause-fits g c =
    let shape : Shape = c.args.self.now.shape in
    let wish : ReqViewChange = record { host = c.args.host; view = c.args.view; tag = c.tag_wish.result } in
    let fits : FitsWish shape wish = record { host = c.requires.host; view = c.requires.view; tag = search rules } in
    wish_message shape (shape_is shape) wish fits
