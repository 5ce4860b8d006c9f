use Rattle.std.proofs.Common.{rules}
use Rattle.mb_parts.specs.declared.request.Request.{Request}
use Rattle.mb_parts.specs.Fits.{FitsRequest}
use Rattle.mb_msg.proofs.Sizes.{small_request}
use Rattle.mb_world.proofs.world.World.request_with.Goals as goal

pub returns-clause-fits : goal.returns-clause-fits
returns-clause-fits g c =
    let request : Request = record { client = c.args.client; seq = c.args.seq; op = c.in_ok-duplicate.field-0; tag = c.tag_request.result } in
    let fits : FitsRequest c.args.self.now.shape request = record { client = c.requires.client; seq = c.requires.seq; op = rw c.in_ok-duplicate.ensures c.requires.op; tag = search rules } in
    small_request c.args.self.now.shape request fits
