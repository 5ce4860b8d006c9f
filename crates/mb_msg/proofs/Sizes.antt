-- Messages of the kinds that are never long: where each field has an allowed value, they are short enough.
use Rattle.std.proofs.Common.{◌≡◌, ℕ, ◌+◌, ◌^◌, ◌≤◌, length, arith}
use Rattle.std.specs.Int.{w8, w16, w64}
use Rattle.std.proofs.lemmas.List.{length-append}
use Rattle.mb_base.specs.declared.limits.TheConstants.{MESSAGE_LIMIT}
use Rattle.mb_base.specs.Limits.{text_limit}
use Rattle.mb_base.specs.declared.shape.Shape.{Shape}
use Rattle.mb_base.specs.declared.names.Ui.{Ui}
use Rattle.mb_base.specs.Spelling.{number}
use Rattle.mb_base.proofs.Laws.{number_length, wide8, wide16, wide64}
use Rattle.mb_parts.specs.declared.request.Request.{Request}
use Rattle.mb_parts.specs.declared.batch.Batch.{Batch}
use Rattle.mb_parts.specs.Fits.{FitsRequest, FitsBatch, FitsUi}
use Rattle.mb_parts.specs.Spelling.{ui_bytes, request_bytes, batch_bytes}
use Rattle.mb_msg.specs.declared.message.Body.{Body}
use Rattle.mb_msg.specs.declared.message.Body.TheVariants.{Whole, Bare as Short}
use Rattle.mb_msg.specs.declared.normal.Prepare.{Prepare}
use Rattle.mb_msg.specs.declared.normal.Commit.{Commit}
use Rattle.mb_msg.specs.declared.normal.Reply.{Reply}
use Rattle.mb_msg.specs.declared.message.Message.{Message}
use Rattle.mb_msg.specs.declared.message.Message.TheVariants as message
use Rattle.mb_msg.specs.Bodies.{FitsBody, body_bytes}
use Rattle.mb_msg.specs.Spelling.{behind_kind, prepare_bytes, commit_bytes, reply_bytes, spelling}
use Rattle.mb_msg.specs.Fits.{FitsPrepare, FitsCommit, FitsReply, Fits}

length8 : (n : ℕ) → length (number w8 n) ≡ 1
length8 n = number_length w8 (2 ^ 8) n wide8

length16 : (n : ℕ) → length (number w16 n) ≡ 2
length16 n = number_length w16 (2 ^ 16) n wide16

length64 : (n : ℕ) → length (number w64 n) ≡ 8
length64 n = number_length w64 (2 ^ 64) n wide64

pub request_short : (s : Shape) (r : Request) → FitsRequest s r → length (request_bytes r) ≤ 43 + text_limit
unfolding request_bytes
request_short s r f = simp (length-append, length8, length16, length64, f.tag) (omega (arith, f.op))

ui_short : (s : Shape) (u : Ui) → FitsUi s u → length (ui_bytes u) ≤ 41
unfolding ui_bytes
ui_short s u f = simp (length-append, length8, length64, f.cert) (omega arith)

batch_short : (s : Shape) (b : Batch) → FitsBatch s b → length (batch_bytes b) ≤ 2049
unfolding batch_bytes
batch_short s b f = simp (length-append, length8) (omega (arith, f.size))

body_short : (s : Shape) (b : Body Batch) → FitsBody (FitsBatch s) b → length (body_bytes batch_bytes b) ≤ 2049
body_short s (Whole b) f = batch_short s b f
body_short s (Short d) f = omega (arith, f)

behind_short : (m : Message) → length (behind_kind m) ≤ 3000 → length (spelling m) ≤ MESSAGE_LIMIT
unfolding spelling
behind_short m le = simp (length-append, length8) (omega (arith, le))

pub small_request : (s : Shape) (m : Request) → FitsRequest s m → Fits s (message.Request m)
small_request s m f = record { fields = f; size = behind_short (message.Request m) (omega (arith, request_short s m f)) }

prepare_short : (s : Shape) (m : Prepare) → FitsPrepare s m → length (prepare_bytes m) ≤ 3000
unfolding prepare_bytes
prepare_short s m f = simp (length-append, length8, length64) (omega (arith, body_short s m.body f.body, ui_short s m.ui f.ui))

pub small_prepare : (s : Shape) (m : Prepare) → FitsPrepare s m → Fits s (message.Prepare m)
small_prepare s m f = record { fields = f; size = behind_short (message.Prepare m) (prepare_short s m f) }

commit_short : (s : Shape) (m : Commit) → FitsCommit s m → length (commit_bytes m) ≤ 3000
unfolding commit_bytes
commit_short s m f = simp (length-append, length8, length64, f.cert) (omega (arith, body_short s m.body f.body, ui_short s m.ui f.ui))

pub small_commit : (s : Shape) (m : Commit) → FitsCommit s m → Fits s (message.Commit m)
small_commit s m f = record { fields = f; size = behind_short (message.Commit m) (commit_short s m f) }

reply_short : (s : Shape) (m : Reply) → FitsReply s m → length (reply_bytes m) ≤ 3000
unfolding reply_bytes
reply_short s m f = simp (length-append, length8, length16, length64, f.tag) (omega (arith, f.result))

pub small_reply : (s : Shape) (m : Reply) → FitsReply s m → Fits s (message.Reply m)
small_reply s m f = record { fields = f; size = behind_short (message.Reply m) (reply_short s m f) }
