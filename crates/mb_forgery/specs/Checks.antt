-- What is asked while a message is looked through, and what is told of it.
use Rattle.std.specs.Prelude.{◌≡◌, ℕ, ◌<◌, ◌++◌, ◌∷◌, List, [], map, Option, Some, option_map, find, slice_get}
use Rattle.sha2.specs.Sha256.{sha256}
use Rattle.mb_base.specs.declared.shape.Shape.{Shape}
use Rattle.mb_base.specs.declared.names.Ui.{Ui}
use Rattle.mb_base.specs.Shapes.{Bytes, host_count, client_count}
use Rattle.mb_usig.specs.Trusted.{Signer}
use Rattle.mb_parts.specs.declared.request.Request.{Request}
use Rattle.mb_parts.specs.declared.certificates.StableCert.{StableCert}
use Rattle.mb_parts.specs.declared.certificates.StableMember.{StableMember}
use Rattle.mb_parts.specs.declared.certificates.FloorCert.{FloorCert}
use Rattle.mb_parts.specs.declared.certificates.FloorMember.{FloorMember}
use Rattle.mb_parts.specs.declared.certificates.Evidence.{Evidence}
use Rattle.mb_parts.specs.declared.certificates.EvidenceMember.{EvidenceMember}
use Rattle.mb_parts.specs.Fits.{IsCounter, IsDigest, FitsBare}
use Rattle.mb_parts.specs.Spelling.{floors_bytes}
use Rattle.mb_parts.specs.Bares.{Bare, bare_bytes}
use Rattle.mb_parts.specs.Bares as bare
use Rattle.mb_parts.specs.Claims.{Claim}
use Rattle.mb_msg.specs.declared.message.Message.{Message}
use Rattle.mb_msg.specs.declared.normal.Commit.{Commit}
use Rattle.mb_msg.specs.declared.stamped.Stamped.TheVariants as stamped
use Rattle.mb_msg.specs.Stamps.{as_stamped, bare_of, ui_of}
use Rattle.mb_model.specs.Compared.{inside_some}
use Rattle.mb_model.specs.Inside.{sender_claim, named_claim}
use Rattle.mb_forgery.specs.declared.checker.Checker.{Checker}
use Rattle.mb_forgery.specs.declared.checker.ForgedClaim.{ForgedClaim}
use Rattle.mb_forgery.specs.Ledgers.{KeepsWorld}
use Rattle.mb_schedule.specs.declared.schedule.Schedule.{Schedule}
use Rattle.mb_world_model.specs.World.{World, stamps}
use Rattle.mb_world_model.specs.Forged.{is_forged_claim}

-- for each client, its own pen
abbrev pub ArePens : Schedule → List Signer → Type 0
ArePens s pens = (c : ℕ) → c < client_count s.shape → slice_get pens c ≡ Some (record { client = c; secret = s.secret })

-- It asks in this world: any host's trusted part, who is faulty, and all that was made.
pub record AsksIn (s : Schedule) (w : World) (c : Checker) : Type 0 where
  pub shape : c.shape.now ≡ s.shape
  pub secret_is : c.usig.now.secret ≡ s.secret
  pub trusted_shape : c.usig.now.shape ≡ s.shape
  pub pens : ArePens s c.pens.now
  pub hosts : c.faulty_hosts.now ≡ s.faulty_hosts
  pub clients : c.faulty_clients.now ≡ s.faulty_clients
  pub ledger : KeepsWorld s c.ledger.now w

-- what is told of a forged certificate
abbrev pub told : Claim → ForgedClaim
told c = record { host = c.host; counter = c.counter }

-- the first of these that is forged, as it is told
abbrev pub first_forged : Schedule → World → List Claim → Option ForgedClaim
first_forged s w claims = option_map told (find (is_forged_claim s w) claims)

-- the message's own certificate, where it is stamped
abbrev pub own_claim : Message → List Claim
own_claim m = inside_some (λ x. sender_claim (ui_of x) (bare_of x) ∷ []) (as_stamped m)

-- in a COMMIT: that the primary stamped the PREPARE that it names, and its own behind that
abbrev pub commit_claims : Shape → Commit → List Claim
commit_claims s m = named_claim s m ∷ sender_claim m.ui (bare_of (stamped.Commit m)) ∷ []

-- that a member stamped the CHECKPOINT
abbrev pub stable_claim : StableCert → StableMember → Claim
stable_claim c m = record { host = m.host; counter = m.counter; says = bare.Checkpoint c.pos c.state m.floors; cert = m.cert }

-- the same, with the floors that it shows
abbrev pub floor_claim : FloorCert → FloorMember → Claim
floor_claim c m = record { host = m.host; counter = m.counter; says = bare.Checkpoint c.pos c.state (sha256 (floors_bytes m.floors)); cert = m.cert }

-- that a member stamped the ENTER that answers the NEW_VIEW
abbrev pub enter_claim : Evidence → EvidenceMember → Claim
enter_claim e m = record { host = m.host; counter = m.counter; says = bare.Enter e.view e.counter e.plan; cert = m.cert }

-- that each member did
abbrev pub enter_claims : Evidence → List Claim
enter_claims e = map (enter_claim e) e.members

-- Its host is there, and what it says has allowed values.
pub record FitsClaim (s : Shape) (c : Claim) : Type 0 where
  pub host : c.host < host_count s
  pub counter : IsCounter c.counter
  pub says : FitsBare s c.says
  pub cert : IsDigest c.cert

-- ---- worlds in which more was made

-- All that was made in the first world was made in the second, which has more in front.
pub record MadeMore (s : Schedule) (w v : World) : Type 0 where
  pub stamps : (h : ℕ) → (more : List Bytes) × (stamps s v h ≡ more ++ stamps s w h)
  pub asked : (more : List Request) × (v.asked ≡ more ++ w.asked)
  pub tagged : (more : List Message) × (v.tagged ≡ more ++ w.tagged)

-- A certificate's claim is looked for in what hosts stamped, whatever its bare bytes say.
abbrev pub TellsForged : Checker → Ui → Bytes → Option ForgedClaim → Type 0
TellsForged c ui bytes found = (s : Schedule) (w : World) (says : Bare) → AsksIn s w c → FitsBare s.shape says → bytes ≡ bare_bytes says
    → found ≡ first_forged s w (record { host = ui.host; counter = ui.counter; says = says; cert = ui.cert } ∷ [])
