-- Forged replies and wishes, and forged certificates in what is shown, computed on the definitions.
use Rattle.std.proofs.Common.{◌≡◌, ℕ, List, [], ◌∷◌, map, refl, Option, Some, None}
use Rattle.std.specs.Prelude.{replicate}
use Rattle.sha2.specs.Sha256.{sha256}
use Rattle.mb_base.specs.Shapes.{Bytes}
use Rattle.mb_usig.specs.Tags.{certificate, reply_tag, wish_tag}
use Rattle.mb_parts.specs.declared.batch.Batch.{Batch}
use Rattle.mb_parts.specs.declared.certificates.FloorCert.{FloorCert}
use Rattle.mb_parts.specs.Spelling.{floors_bytes}
use Rattle.mb_parts.specs.Bares.{Bare, bare_bytes, batch_digest}
use Rattle.mb_parts.specs.Bares as bare
use Rattle.mb_msg.specs.declared.message.Body.TheVariants as body
use Rattle.mb_msg.specs.declared.message.Message.{Message}
use Rattle.mb_msg.specs.declared.message.Message.TheVariants as message
use Rattle.mb_msg.specs.declared.stamped.Shown.TheVariants as shown
use Rattle.mb_msg.specs.Spelling.{spelling}
use Rattle.mb_model.specs.Plans.{no_base}
use Rattle.mb_schedule.specs.declared.schedule.Name.TheVariants as name
use Rattle.mb_schedule.specs.declared.schedule.WorldEvent.{WorldEvent}
use Rattle.mb_schedule.specs.declared.schedule.WorldEvent.TheVariants.{Raw, Patience}
use Rattle.mb_world_model.specs.Stops.{WorldStop, Forged, ForgedTag}
use Rattle.mb_world_model.proofs.WorldsOnLiterals.{worlds_on_literals}
use Rattle.mb_examples_world.proofs.Worlds.{operation, all_correct, of_faulty_primary, stop_at}

abbrev secret : Bytes
secret = replicate 32 0

-- what stands in the way where all hosts are correct, and where h0 is faulty
abbrev in_both : WorldEvent → List (Option WorldStop)
in_both e = stop_at (all_correct (e ∷ [])) 0 ∷ stop_at (of_faulty_primary (e ∷ [])) 0 ∷ []

-- ---- replies

abbrev reply : Bytes → Bytes
reply tag = spelling (message.Reply (record { host = 0; client = 0; seq = 1; pos = 1; result = 5 ∷ []; tag = tag }))

-- ---- wishes

abbrev wish : ℕ → Bytes → Bytes
wish view tag = spelling (message.ReqViewChange (record { host = 0; view = view; tag = tag }))

-- ---- certificates inside of messages: h0 is correct and stamped nothing, and the tags of the other hosts don't verify

abbrev no_tag : Bytes
no_tag = replicate 32 0

abbrev of_h0 : ℕ → Bare → Bytes
of_h0 counter says = certificate secret 0 counter (bare_bytes says)

-- a request with no right tag, in a batch of its own
abbrev batch : Batch
batch = record { requests = record { client = 0; seq = 1; op = operation; tag = no_tag } ∷ [] }

-- what stands in the way as h2 is given this message
abbrev stop_of : Message → Option WorldStop
stop_of m = stop_at (all_correct (Raw (name.Host 2) (spelling m) ∷ [])) 0

-- The VIEW_CHANGE of h1 shows a COMMIT, and this one names a PREPARE of h0.
abbrev shows_commit : Bytes → Message
shows_commit cert = message.ViewChange (record {
  view = 1;
  body = body.Whole (record { floor = None; stable = no_base; entries = shown.Commit (record { view = 0; pos = 1; counter = 3; cert = cert; body = body.Whole batch; ui = record { host = 1; counter = 1; cert = no_tag } }) ∷ [] });
  ui = record { host = 1; counter = 2; cert = no_tag };
})

-- The LOG of h1 has a floor certificate with a CHECKPOINT of h0.
abbrev no_state : Bytes
no_state = replicate 32 9

abbrev floor_with : Bytes → FloorCert
floor_with cert = record { pos = 4; state = no_state; members = record { host = 0; counter = 2; floors = replicate 3 None; cert = cert } ∷ record { host = 1; counter = 1; floors = replicate 3 None; cert = no_tag } ∷ [] }

abbrev log_with : Bytes → Message
log_with cert = message.Log (record { host = 1; floor = Some (floor_with cert); stable = no_base; evidence = None; entries = [] })

-- ---- what is forged. All is computed in one proof, so that each key is made once.

record AreForged : Type 0 where
  -- A reply that h0 did not make is forged by its right tag, where h0 is correct. One with another tag is not.
  forged_reply : map (λ tag. in_both (Raw (name.Client 0) (reply tag))) (reply_tag secret 0 0 1 1 (5 ∷ []) ∷ replicate 32 0 ∷ []) ≡ (Some (ForgedTag 1) ∷ None ∷ []) ∷ (None ∷ None ∷ []) ∷ []
  -- So is a wish.
  forged_wish : map (λ tag. in_both (Raw (name.Host 1) (wish 1 tag))) (wish_tag secret 0 1 ∷ replicate 32 0 ∷ []) ≡ (Some (ForgedTag 1) ∷ None ∷ []) ∷ (None ∷ None ∷ []) ∷ []
  -- h0 wished for view 1, and not for view 2.
  wished : map (λ view. stop_at (all_correct (Patience 0 ∷ Raw (name.Host 1) (wish view (wish_tag secret 0 view)) ∷ [])) 1) (1 ∷ 2 ∷ []) ≡ None ∷ Some (ForgedTag 2) ∷ []
  forged_in_shown_log : map (λ cert. stop_of (shows_commit cert)) (of_h0 3 (bare.Prepare 0 1 (batch_digest batch)) ∷ no_tag ∷ []) ≡ Some (Forged 1 0 3) ∷ None ∷ []
  forged_in_floor : map (λ cert. stop_of (log_with cert)) (of_h0 2 (bare.Checkpoint 4 no_state (sha256 (floors_bytes (replicate 3 None)))) ∷ no_tag ∷ []) ≡ Some (Forged 1 0 2) ∷ None ∷ []

they_are_forged : AreForged
unfolding worlds_on_literals
they_are_forged = record { forged_reply = refl; forged_wish = refl; wished = refl; forged_in_shown_log = refl; forged_in_floor = refl }
