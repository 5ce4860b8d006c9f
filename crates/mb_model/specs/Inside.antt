-- What stands inside a message: its certificates in the order of the bytes, its requests, its whole bodies, its floor certificates, and its
-- strings that are hashed.
use Rattle.std.specs.Prelude.{ℕ, List, [], ◌∷◌, ◌++◌, map, Option, Some, None, Result, Ok, Err}
use Rattle.std.specs.List.{flat_map}
use Rattle.mb_base.specs.Shapes.{Bytes}
use Rattle.mb_base.specs.declared.names.Ui.{Ui}
use Rattle.mb_base.specs.declared.shape.Shape.{Shape}
use Rattle.mb_parts.specs.declared.request.Request.{Request}
use Rattle.mb_parts.specs.declared.batch.Batch.{Batch}
use Rattle.mb_parts.specs.declared.certificates.FloorCert.{FloorCert}
use Rattle.mb_parts.specs.Spelling.{request_bytes, batch_bytes, floors_bytes}
use Rattle.mb_parts.specs.Bares.{Bare, bare_bytes}
use Rattle.mb_parts.specs.Claims.{Claim, stable_claims, floor_claims, evidence_claims, prepare_claim}
use Rattle.mb_msg.specs.declared.message.Body.{Body}
use Rattle.mb_msg.specs.declared.message.Message.{Message}
use Rattle.mb_msg.specs.declared.message.Message.TheVariants as message
use Rattle.mb_msg.specs.declared.normal.Commit.{Commit}
use Rattle.mb_msg.specs.declared.change.OpenBody.{OpenBody}
use Rattle.mb_msg.specs.declared.change.ChangeBody.{ChangeBody}
use Rattle.mb_msg.specs.declared.change.NewViewBody.{NewViewBody}
use Rattle.mb_msg.specs.declared.change.ViewChange.{ViewChange}
use Rattle.mb_msg.specs.declared.change.Open.{Open}
use Rattle.mb_msg.specs.declared.change.Join.{Join}
use Rattle.mb_msg.specs.declared.stamped.Shown.{Shown}
use Rattle.mb_msg.specs.declared.stamped.Shown.TheVariants as shown
use Rattle.mb_msg.specs.declared.stamped.Stamped.{Stamped}
use Rattle.mb_msg.specs.declared.stamped.Stamped.TheVariants as stamped
use Rattle.mb_msg.specs.Bodies.{body_digest, inside_whole}
use Rattle.mb_msg.specs.Spelling.{floors_body_bytes, change_body_bytes, new_view_body_bytes, open_body_bytes}
use Rattle.mb_msg.specs.Stamps.{as_stamped, bare_of, bare_of_shown, ui_of, ui_of_shown}
use Rattle.mb_model.specs.Compared.{inside_some}

-- ---- the message itself

-- the message, where bytes were read as one
abbrev pub if_read : Result Message ℕ → Option Message
if_read (Err at) = None
if_read (Ok m) = Some m

-- ---- certificates, as claims: those in the head, those in the body, then the message's own

-- that the sender stamped it
abbrev pub sender_claim : Ui → Bare → Claim
sender_claim u b = record { host = u.host; counter = u.counter; says = b; cert = u.cert }

-- in the body of an OPEN
abbrev pub open_body_claims : OpenBody → List Claim
open_body_claims b = stable_claims b.stable

module _ (s : Shape) where
  -- that the primary stamped the PREPARE that a COMMIT names
  abbrev pub named_claim : Commit → Claim
  named_claim m = prepare_claim s m.view m.pos m.counter m.cert (body_digest batch_bytes m.body)

  -- in an OPEN, without its own
  abbrev pub open_claims : Open → List Claim
  open_claims m = evidence_claims s m.evidence ++ inside_whole open_body_claims m.body

  -- in a JOIN, without its own
  abbrev pub join_claims : Join → List Claim
  join_claims m = inside_some (evidence_claims s) m.evidence ++ stable_claims m.stable

  -- in an entry of a shown log, without its own
  abbrev pub claims_in_shown : Shown → List Claim
  claims_in_shown (shown.Prepare m) = []
  claims_in_shown (shown.Commit m) = named_claim m ∷ []
  claims_in_shown (shown.Checkpoint m) = []
  claims_in_shown (shown.ViewChange m) = []
  claims_in_shown (shown.NewView m) = []
  claims_in_shown (shown.Enter m) = []
  claims_in_shown (shown.Open m) = open_claims m
  claims_in_shown (shown.Join m) = join_claims m

  -- with its own
  unfoldable pub shown_claims : Shown → List Claim
  shown_claims e = claims_in_shown e ++ sender_claim (ui_of_shown e) (bare_of_shown e) ∷ []

  -- in the body of a VIEW_CHANGE
  abbrev pub change_claims : ChangeBody → List Claim
  change_claims b = inside_some floor_claims b.floor ++ stable_claims b.stable ++ flat_map shown_claims b.entries

  -- a VIEW_CHANGE in a NEW_VIEW
  abbrev pub member_claims : ViewChange → List Claim
  member_claims m = inside_whole change_claims m.body ++ sender_claim m.ui (bare_of (stamped.ViewChange m)) ∷ []

  -- in the body of a NEW_VIEW
  abbrev pub new_view_claims : NewViewBody → List Claim
  new_view_claims b = flat_map member_claims b.changes

  -- in a stamped message, without its own
  abbrev pub claims_in_stamped : Stamped → List Claim
  claims_in_stamped (stamped.Prepare m) = []
  claims_in_stamped (stamped.Commit m) = named_claim m ∷ []
  claims_in_stamped (stamped.Checkpoint m) = []
  claims_in_stamped (stamped.ViewChange m) = inside_whole change_claims m.body
  claims_in_stamped (stamped.NewView m) = inside_whole new_view_claims m.body
  claims_in_stamped (stamped.Enter m) = []
  claims_in_stamped (stamped.Open m) = open_claims m
  claims_in_stamped (stamped.Join m) = join_claims m

  -- with its own, as it stands by itself or in a LOG
  unfoldable pub stamped_claims : Stamped → List Claim
  stamped_claims m = claims_in_stamped m ++ sender_claim (ui_of m) (bare_of m) ∷ []

  -- all certificates of a message, whole and bare ones alike, in the order of the bytes
  unfoldable pub claims_in : Message → List Claim
  claims_in (message.Log m) = inside_some floor_claims m.floor ++ stable_claims m.stable ++ inside_some (evidence_claims s) m.evidence ++ flat_map stamped_claims m.entries
  claims_in m = inside_some stamped_claims (as_stamped m)

-- ---- requests, each with its tag

-- of a vote
abbrev pub batch_requests : Body Batch → List Request
batch_requests = inside_whole (λ b. b.requests)

-- of an OPEN
abbrev pub open_requests : Body OpenBody → List Request
open_requests = inside_whole (λ b. flat_map (λ x. x.requests) b.batches)

-- Votes and OPENs alone have some.
abbrev pub shown_requests : Shown → List Request
shown_requests (shown.Prepare m) = batch_requests m.body
shown_requests (shown.Commit m) = batch_requests m.body
shown_requests (shown.Open m) = open_requests m.body
shown_requests _ = []

-- of what a VIEW_CHANGE shows
abbrev pub change_requests : ViewChange → List Request
change_requests m = inside_whole (λ b. flat_map shown_requests b.entries) m.body

-- of a stamped message
abbrev pub stamped_requests : Stamped → List Request
stamped_requests (stamped.Prepare m) = batch_requests m.body
stamped_requests (stamped.Commit m) = batch_requests m.body
stamped_requests (stamped.Checkpoint m) = []
stamped_requests (stamped.ViewChange m) = change_requests m
stamped_requests (stamped.NewView m) = inside_whole (λ b. flat_map change_requests b.changes) m.body
stamped_requests (stamped.Enter m) = []
stamped_requests (stamped.Open m) = open_requests m.body
stamped_requests (stamped.Join m) = []

-- of a message
unfoldable pub requests_in : Message → List Request
requests_in (message.Request r) = r ∷ []
requests_in (message.Log m) = flat_map stamped_requests m.entries
requests_in m = inside_some stamped_requests (as_stamped m)

-- ---- whole bodies, as bytes; the batches of an OPEN stand in its body, and each has a digest of its own

-- the body itself
abbrev pub body_in : {B : Type 0} → (B → Bytes) → Body B → List Bytes
body_in bytes = inside_whole (λ b. bytes b ∷ [])

-- of an OPEN, and the batches in it
abbrev pub open_bodies : Body OpenBody → List Bytes
open_bodies body = body_in open_body_bytes body ++ inside_whole (λ b. map batch_bytes b.batches) body

-- A floor certificate shows the bodies of its CHECKPOINTs.
abbrev pub floor_bodies : FloorCert → List Bytes
floor_bodies c = map (λ m. floors_bytes m.floors) c.members

-- in an entry of a shown log
abbrev pub shown_bodies : Shown → List Bytes
shown_bodies (shown.Prepare m) = body_in batch_bytes m.body
shown_bodies (shown.Commit m) = body_in batch_bytes m.body
shown_bodies (shown.Open m) = open_bodies m.body
shown_bodies _ = []

-- in the body of a VIEW_CHANGE, without itself
abbrev pub bodies_in_change : ChangeBody → List Bytes
bodies_in_change b = inside_some floor_bodies b.floor ++ flat_map shown_bodies b.entries

-- in a VIEW_CHANGE
abbrev pub change_bodies : ViewChange → List Bytes
change_bodies m = body_in change_body_bytes m.body ++ inside_whole bodies_in_change m.body

-- in a stamped message
abbrev pub stamped_bodies : Stamped → List Bytes
stamped_bodies (stamped.Prepare m) = body_in batch_bytes m.body
stamped_bodies (stamped.Commit m) = body_in batch_bytes m.body
stamped_bodies (stamped.Checkpoint m) = body_in floors_body_bytes m.body
stamped_bodies (stamped.ViewChange m) = change_bodies m
stamped_bodies (stamped.NewView m) = body_in new_view_body_bytes m.body ++ inside_whole (λ b. flat_map change_bodies b.changes) m.body
stamped_bodies (stamped.Enter m) = []
stamped_bodies (stamped.Open m) = open_bodies m.body
stamped_bodies (stamped.Join m) = []

-- in a message
unfoldable pub bodies_in : Message → List Bytes
bodies_in (message.Log m) = inside_some floor_bodies m.floor ++ flat_map stamped_bodies m.entries
bodies_in m = inside_some stamped_bodies (as_stamped m)

-- ---- floor certificates

-- of a VIEW_CHANGE
abbrev pub floor_of_change : ViewChange → List FloorCert
floor_of_change m = inside_whole (λ b. inside_some (λ c. c ∷ []) b.floor) m.body

-- in a stamped message
abbrev pub stamped_floors : Stamped → List FloorCert
stamped_floors (stamped.ViewChange m) = floor_of_change m
stamped_floors (stamped.NewView m) = inside_whole (λ b. flat_map floor_of_change b.changes) m.body
stamped_floors _ = []

-- in a message
unfoldable pub floors_in : Message → List FloorCert
floors_in (message.Log m) = inside_some (λ c. c ∷ []) m.floor ++ flat_map stamped_floors m.entries
floors_in m = inside_some stamped_floors (as_stamped m)

-- ---- what is hashed of a message: the requests, the bodies, the batches and the bare bytes of it, and of the messages, entries and members in it

-- all of these strings
unfoldable pub strings_in : Shape → Message → List Bytes
strings_in s m = map request_bytes (requests_in m) ++ bodies_in m ++ map (λ c. bare_bytes c.says) (claims_in s m)
