-- What is forged: a certificate or a tag in a message that verifies, and that was never made.
use Rattle.std.specs.Prelude.{◌≡◌, Bool, false, ◌&&◌, not, Option, None, find}
use Rattle.std.specs.List.{list_any}
use Rattle.mb_usig.specs.Tags.{same_bytes, request_tag, reply_tag, wish_tag}
use Rattle.mb_parts.specs.declared.request.Request.{Request}
use Rattle.mb_parts.specs.Spelling.{request_bytes}
use Rattle.mb_parts.specs.Claims.{Claim}
use Rattle.mb_msg.specs.declared.normal.Reply.{Reply}
use Rattle.mb_msg.specs.declared.change.ReqViewChange.{ReqViewChange}
use Rattle.mb_msg.specs.declared.message.Message.{Message}
use Rattle.mb_msg.specs.declared.message.Message.TheVariants as message
use Rattle.mb_msg.specs.Spelling.{spelling}
use Rattle.mb_model.specs.Verified.{verifies}
use Rattle.mb_model.specs.Inside.{claims_in, requests_in}
use Rattle.mb_schedule.specs.declared.schedule.Schedule.{Schedule}
use Rattle.mb_schedule.specs.Limits.{is_faulty, is_faulty_client}
use Rattle.mb_world_model.specs.World.{World}
use Rattle.mb_world_model.specs.WorldRecord.{issued}

module _ (s : Schedule) (w : World) where
  -- ---- certificates

  -- It verifies, and its host did not stamp that at that counter.
  abbrev pub is_forged_claim : Claim → Bool
  is_forged_claim c = verifies s.secret c && not (issued s w c)

  -- the first in the order of the bytes
  unfoldable pub forged_claim : Message → Option Claim
  forged_claim m = find is_forged_claim (claims_in s.shape m)

  -- ---- tags

  -- a request that a client asked
  abbrev pub was_asked : Request → Bool
  was_asked r = list_any (λ q. same_bytes (request_bytes q) (request_bytes r)) w.asked

  -- The tag verifies, and the correct client did not ask this.
  abbrev pub is_forged_request : Request → Bool
  is_forged_request r = same_bytes r.tag (request_tag s.secret r.client r.seq r.op) && (not (is_faulty_client s r.client) && not (was_asked r))

  -- a reply or a wish that a correct host made
  abbrev pub was_tagged : Message → Bool
  was_tagged m = list_any (λ x. same_bytes (spelling x) (spelling m)) w.tagged

  -- The tag verifies, and the correct host did not reply this.
  abbrev pub is_forged_reply : Reply → Bool
  is_forged_reply m = same_bytes m.tag (reply_tag s.secret m.host m.client m.seq m.pos m.result) && (not (is_faulty s m.host) && not (was_tagged (message.Reply m)))

  -- The tag verifies, and the correct host did not wish this.
  abbrev pub is_forged_wish : ReqViewChange → Bool
  is_forged_wish m = same_bytes m.tag (wish_tag s.secret m.host m.view) && (not (is_faulty s m.host) && not (was_tagged (message.ReqViewChange m)))

  -- A message has a forged tag: of a request in it, or its own. That of a STOP is nobody's.
  unfoldable pub has_forged_tag : Message → Bool
  has_forged_tag (message.Reply m) = is_forged_reply m
  has_forged_tag (message.ReqViewChange m) = is_forged_wish m
  has_forged_tag m = list_any is_forged_request (requests_in m)

  -- Neither a certificate nor a tag in the message is forged.
  pub record IsUnforged (m : Message) : Type 0 where
    pub claims : forged_claim m ≡ None
    pub tags : has_forged_tag m ≡ false
