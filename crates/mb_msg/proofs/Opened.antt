-- Bodies that fit more fit less.
use Rattle.std.specs.Prelude.{List, [], ◌∷◌}
use Rattle.std.specs.List.{AllByRecursion}
use Rattle.mb_base.specs.declared.shape.Shape.{Shape}
use Rattle.mb_parts.specs.declared.certificates.Evidence.{Evidence}
use Rattle.mb_parts.specs.declared.request.Request.{Request}
use Rattle.mb_parts.specs.declared.batch.Batch.{Batch}
use Rattle.mb_parts.specs.Fits.{FitsText, FitsRequest, FitsBatch, CanDigest}
use Rattle.mb_msg.specs.declared.message.Body.{Body}
use Rattle.mb_msg.specs.declared.message.Body.TheVariants.{Whole, Bare as Short}
use Rattle.mb_msg.specs.declared.change.ChangeBody.{ChangeBody}
use Rattle.mb_msg.specs.declared.change.OpenBody.{OpenBody}
use Rattle.mb_msg.specs.declared.stamped.Shown.{Shown}
use Rattle.mb_msg.specs.declared.stamped.Shown.TheVariants as shown
use Rattle.mb_msg.specs.Bodies.{FitsBody}
use Rattle.mb_msg.specs.Fits.{FitsOpenParts, FitsOpenBody, FitsShown, FitsChangeBody, CanDigestVote, CanDigestVotes}

pub opened_parts : (s : Shape) (e : Evidence) (b : Body OpenBody) → FitsBody (FitsOpenBody s e) b → FitsBody (FitsOpenParts s) b
opened_parts s e (Whole b) f = f.0
opened_parts s e (Short d) f = f

requests_have_text : (s : Shape) (rs : List Request) → AllByRecursion (FitsRequest s) rs → AllByRecursion (λ r. FitsText r.op) rs
requests_have_text s [] f = tt
requests_have_text s (r ∷ rs) f = (f.0.op, requests_have_text s rs f.1)

-- A batch that fits is short enough to be spelled.
pub has_digest : (s : Shape) (b : Batch) → FitsBatch s b → CanDigest b
has_digest s b f = (f.count, requests_have_text s b.requests f.requests)

pub body_has_digest : (s : Shape) (b : Body Batch) → FitsBody (FitsBatch s) b → FitsBody CanDigest b
body_has_digest s (Whole b) f = has_digest s b f
body_has_digest s (Short d) f = f

-- So is each that a VIEW_CHANGE shows.
vote_can_digest : (s : Shape) (m : Shown) → FitsShown s m → CanDigestVote m
vote_can_digest s (shown.Prepare m) f = body_has_digest s m.body f.body
vote_can_digest s (shown.Commit m) f = body_has_digest s m.body f.body
vote_can_digest s (shown.Checkpoint m) f = tt
vote_can_digest s (shown.ViewChange m) f = tt
vote_can_digest s (shown.NewView m) f = tt
vote_can_digest s (shown.Enter m) f = tt
vote_can_digest s (shown.Open m) f = tt
vote_can_digest s (shown.Join m) f = tt

votes_can_digest : (s : Shape) (ms : List Shown) → AllByRecursion (FitsShown s) ms → AllByRecursion CanDigestVote ms
votes_can_digest s [] f = tt
votes_can_digest s (m ∷ ms) f = (vote_can_digest s m f.0, votes_can_digest s ms f.1)

pub change_can_digest : (s : Shape) (b : Body ChangeBody) → FitsBody (FitsChangeBody s) b → FitsBody CanDigestVotes b
change_can_digest s (Whole b) f = votes_can_digest s b.entries f.entries
change_can_digest s (Short d) f = f
