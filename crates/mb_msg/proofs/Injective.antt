-- Different values that fit are spelled differently; and what a certificate covers says all of the message, up to the digest of a body.
use Rattle.std.proofs.Common.{◌≡◌, ◌++◌, Ok, refl, append_assoc}
use Rattle.sha2.proofs.Facts256.{length-sha256}
use Rattle.mb_base.specs.declared.shape.Shape.{Shape}
use Rattle.mb_base.specs.Shapes.{Bytes, IsShape}
use Rattle.mb_base.proofs.Laws.{field_injective}
use Rattle.mb_parts.specs.declared.request.Request.{Request}
use Rattle.mb_parts.specs.declared.batch.Batch.{Batch}
use Rattle.mb_parts.specs.Fits.{IsDigest, FitsRequest, FitsBatch, FitsBare}
use Rattle.mb_parts.specs.Spelling.{request_bytes, batch_bytes}
use Rattle.mb_parts.specs.Bares.{bare_bytes}
use Rattle.mb_parts.specs.Reading.{request_at, batch_at}
use Rattle.mb_parts.proofs.Fields.{request_field, batch_field}
use Rattle.mb_parts.proofs.BareLaws.{bare_injective}
use Rattle.mb_msg.specs.declared.message.Body.{Body}
use Rattle.mb_msg.specs.declared.message.Body.TheVariants.{Whole, Bare as Short}
use Rattle.mb_msg.specs.declared.message.Message.{Message}
use Rattle.mb_msg.specs.declared.stamped.Stamped.{Stamped}
use Rattle.mb_msg.specs.declared.stamped.Stamped.TheVariants as stamped
use Rattle.mb_msg.specs.Bodies.{FitsBody, body_digest}
use Rattle.mb_msg.specs.Fits.{FitsStamped, Fits}
use Rattle.mb_msg.specs.Reading.{message_of}
use Rattle.mb_msg.specs.Signed.{request_text}
use Rattle.mb_msg.specs.Spelling.{spelling}
use Rattle.mb_msg.specs.Stamps.{bare_of, ui_of, mark_of}
use Rattle.mb_msg.proofs.Messages.{message_again}

pub request_injective : (s : Shape) → IsShape s → (x y : Request) → FitsRequest s x → FitsRequest s y → request_bytes x ≡ request_bytes y → x ≡ y
request_injective s h = field_injective (request_at s) request_bytes (FitsRequest s) (request_field s h)

pub batch_injective : (s : Shape) → IsShape s → (x y : Batch) → FitsBatch s x → FitsBatch s y → batch_bytes x ≡ batch_bytes y → x ≡ y
batch_injective s h = field_injective (batch_at s) batch_bytes (FitsBatch s) (batch_field s h)

pub spelling_injective : (s : Shape) → IsShape s → (x y : Message) → Fits s x → Fits s y → spelling x ≡ spelling y → x ≡ y
spelling_injective s h x y fx fy e =
    let first : message_of s (spelling x) ≡ Ok x = message_again s h x fx in
    let second : message_of s (spelling x) ≡ Ok y = rw e (message_again s h y fy) in
    cc

-- the bytes of a request are what its tag covers, and the tag
pub request_is_signed : (r : Request) → request_bytes r ≡ request_text r.client r.seq r.op ++ r.tag
unfolding request_bytes
request_is_signed r = simp append_assoc

-- the digest of a body that fits, in either form
pub digest_fits : {B : Type 0} (P : B → Type 0) (bytes : B → Bytes) (b : Body B) → FitsBody P b → IsDigest (body_digest bytes b)
digest_fits P bytes (Whole b) f = length-sha256 (bytes b)
digest_fits P bytes (Short d) f = f

-- what a message says that fits
pub bare_fits : (s : Shape) (m : Stamped) → FitsStamped s m → FitsBare s (bare_of m)
bare_fits s (stamped.Prepare m) f = (f.view, (f.pos, digest_fits _ _ m.body f.body))
bare_fits s (stamped.Commit m) f = (f.view, (f.pos, (f.counter, (f.cert, digest_fits _ _ m.body f.body))))
bare_fits s (stamped.Checkpoint m) f = (f.pos, (f.state, digest_fits _ _ m.body f.body))
bare_fits s (stamped.ViewChange m) f = (f.view, digest_fits _ _ m.body f.body)
bare_fits s (stamped.NewView m) f = (f.view, (f.base, (f.end, (f.plan, digest_fits _ _ m.body f.body))))
bare_fits s (stamped.Enter m) f = (f.view, (f.counter, f.plan))
bare_fits s (stamped.Open m) f = (f.evidence, digest_fits _ _ m.body f.body)
bare_fits s (stamped.Join m) f = (f.view, (f.evidence, (f.stable, f.above)))

-- messages with the same bare bytes say the same, up to the digest of a body
pub bare_of_injective : (s : Shape) → IsShape s → (x y : Stamped) → FitsStamped s x → FitsStamped s y → bare_bytes (bare_of x) ≡ bare_bytes (bare_of y) → bare_of x ≡ bare_of y
bare_of_injective s h x y fx fy = bare_injective s h (bare_of x) (bare_of y) (bare_fits s x fx) (bare_fits s y fy)

-- so the bare bytes and the counter are all that a mark depends on
pub mark_by_bare : (s : Shape) → IsShape s → (x y : Stamped) → FitsStamped s x → FitsStamped s y → bare_bytes (bare_of x) ≡ bare_bytes (bare_of y) → (ui_of x).counter ≡ (ui_of y).counter → mark_of x ≡ mark_of y
mark_by_bare s h x y fx fy same counter = rw (bare_of_injective s h x y fx fy same, counter) refl
