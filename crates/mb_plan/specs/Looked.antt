-- What was found of the votes that logs show.
use Rattle.std.specs.Prelude.{◌≡◌, true, List, Some}
use Rattle.std.specs.List.{AllByRecursion}
use Rattle.mb_base.specs.Shapes.{Bytes}
use Rattle.mb_base.specs.declared.shape.Shape.{Shape}
use Rattle.mb_parts.specs.declared.batch.Batch.{Batch}
use Rattle.mb_parts.specs.Bares.{batch_digest}
use Rattle.mb_parts.specs.Claims.{prepare_claim}
use Rattle.mb_parts.specs.Spelling.{batch_bytes}
use Rattle.mb_msg.specs.declared.message.Body.{Body}
use Rattle.mb_msg.specs.declared.normal.Commit.{Commit}
use Rattle.mb_msg.specs.declared.stamped.Shown.{Shown}
use Rattle.mb_msg.specs.declared.stamped.Shown.TheVariants as shown
use Rattle.mb_msg.specs.Bodies.{body_digest}
use Rattle.mb_model.specs.Verified.{verifies, are_rightly_tagged}
use Rattle.mb_model.specs.UsableLogs.{is_sound_batch}
use Rattle.mb_plan.specs.declared.looked.Found.{Found}
use Rattle.mb_plan.specs.declared.looked.FoundVote.{FoundVote}
use Rattle.mb_plan.specs.declared.looked.Looked.{Looked}
use Rattle.mb_plan.specs.declared.looked.Named.{Named}
use Rattle.mb_plan.specs.declared.looked.Place.{Place}

-- It is the digest of the batch, and whether it is rightly tagged.
abbrev pub IsFound : Bytes → Batch → Found → Type 0
IsFound secret batch found = (found.digest ≡ batch_digest batch) × (found.tagged ≡ are_rightly_tagged secret batch)

-- So of a body, in either form.
abbrev pub IsBodyFound : Shape → Bytes → Body Batch → Found → Type 0
IsBodyFound s secret body found = (found.digest ≡ body_digest batch_bytes body) × (found.tagged ≡ is_sound_batch s secret (verifies secret) body)

-- So of a COMMIT's body, and whether the primary stamped the PREPARE that it names.
abbrev pub IsCommitFound : Shape → Bytes → Commit → FoundVote → Type 0
IsCommitFound s secret m found = IsBodyFound s secret m.body found.batch
    × (found.prepared ≡ verifies secret (prepare_claim s m.view m.pos m.counter m.cert (body_digest batch_bytes m.body)))

-- So of a vote. There is nothing to be found of the other kinds.
abbrev pub IsVoteFound : Shape → Bytes → Shown → FoundVote → Type 0
IsVoteFound s secret (shown.Prepare m) found = IsBodyFound s secret m.body found.batch
IsVoteFound s secret (shown.Commit m) found = IsCommitFound s secret m found
IsVoteFound s secret _ found = Unit {0}

-- The primary stamped it.
abbrev pub IsStamped : Shape → Bytes → Named → Type 0
IsStamped s secret m = verifies secret (prepare_claim s m.view m.pos m.counter m.cert m.body) ≡ true

-- What stands at each place is right: of the batch there, and of the PREPARE there.
pub record IsRight (s : Shape) (secret : Bytes) (place : Place) : Type 0 where
  pub batch : (l : Looked) → place.looked ≡ Some l → IsFound secret l.batch.now l.found
  pub prepare : (m : Named) → place.stamped ≡ Some m → IsStamped s secret m

abbrev pub AreFound : Shape → Bytes → List Place → Type 0
AreFound s secret places = AllByRecursion (IsRight s secret) places

-- So for some system and key: each digest there is that of its batch.
pub record AreLooked (places : List Place) : Type 0 where
  pub shape : Shape
  pub secret : Bytes
  pub found : AreFound shape secret places
