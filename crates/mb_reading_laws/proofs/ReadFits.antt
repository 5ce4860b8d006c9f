-- What is read as a message has the values of the grammar, whatever list of numbers it is read from: each number is read within its limits.
use Rattle.std.proofs.Common.{◌≡◌, ℕ, Bool, true, false, cond, length, refl, subst, eqb, ltb, Result, Ok, Err}
use Rattle.std.specs.Int.{w8}
use Rattle.mb_base.specs.Shapes.{Bytes, IsShape}
use Rattle.mb_base.specs.declared.limits.TheConstants.{MESSAGE_LIMIT}
use Rattle.mb_base.specs.declared.shape.Shape.{Shape}
use Rattle.mb_base.specs.Reading.{cursor, number_in, map_at}
use Rattle.mb_base.proofs.Laws.{bind_ok, allow_ok}
use Rattle.mb_parts.specs.Reading.{request_at, digest_at}
use Rattle.mb_parts.specs.Fits.{IsDigest, FitsRequest}
use Rattle.mb_msg.specs.declared.message.Message.{Message}
use Rattle.mb_msg.specs.declared.message.Message.TheVariants as message
use Rattle.mb_msg.specs.Stamps.{as_message}
use Rattle.mb_msg.specs.Fits.{FitsFields, FitsReply, FitsWish, FitsStamped, FitsResend, FitsLog, FitsFetch, FitsState, FitsStop}
use Rattle.mb_msg.specs.Reading.{reply_at, wish_at, resend_at, log_at, fetch_at, state_at, stop_of, behind_stamped_kind_at, behind_kind_at, message_of}
use Rattle.mb_msg.proofs.Messages.{as_message_fits}
use Rattle.mb_reading_laws.proofs.Yields.{IsYield, map_yield, cond_yield}
use Rattle.mb_reading_laws.proofs.ReadParts.{digest_yield, request_yield}
use Rattle.mb_reading_laws.proofs.ReadKinds.{reply_yield, wish_yield, resend_yield, log_yield, fetch_yield, state_yield, behind_stamped_yield}

kind_yield : (s : Shape) → IsShape s → (kind : ℕ) → IsYield (behind_kind_at s kind) (FitsFields s)
unfolding behind_kind_at
kind_yield s k n =
    cond_yield (eqb n 1) _ _ (FitsFields s) (λ e. map_yield message.Request (request_at s) (FitsRequest s) (FitsFields s) (λ x f. f) (request_yield s k)) (λ n1.
    cond_yield (eqb n 4) _ _ (FitsFields s) (λ e. map_yield message.Reply (reply_at s) (FitsReply s) (FitsFields s) (λ x f. f) (reply_yield s k)) (λ n4.
    cond_yield (eqb n 6) _ _ (FitsFields s) (λ e. map_yield message.ReqViewChange (wish_at s) (FitsWish s) (FitsFields s) (λ x f. f) (wish_yield s k)) (λ n6.
    cond_yield (eqb n 12) _ _ (FitsFields s) (λ e. map_yield message.Resend (resend_at s) (FitsResend s) (FitsFields s) (λ x f. f) (resend_yield s k)) (λ n12.
    cond_yield (eqb n 13) _ _ (FitsFields s) (λ e. map_yield message.Log (log_at s) (FitsLog s) (FitsFields s) (λ x f. f) (log_yield s k)) (λ n13.
    cond_yield (eqb n 14) _ _ (FitsFields s) (λ e. map_yield message.Fetch (fetch_at s) (FitsFetch s) (FitsFields s) (λ x f. f) (fetch_yield s k)) (λ n14.
    cond_yield (eqb n 15) _ _ (FitsFields s) (λ e. map_yield message.State (state_at s) (FitsState s) (FitsFields s) (λ x f. f) (state_yield s k)) (λ n15.
    cond_yield (eqb n 16) _ _ (FitsFields s) (λ e. map_yield message.Stop (map_at stop_of digest_at) FitsStop (FitsFields s) (λ x f. f) (map_yield stop_of digest_at IsDigest FitsStop (λ x f. f) digest_yield)) (λ n16.
    map_yield as_message (behind_stamped_kind_at s n) (FitsStamped s) (FitsFields s) (as_message_fits s) (behind_stamped_yield s k n)))))))))

passed : {A : Type 0} (b : Bool) (d : ℕ) (r : Result A ℕ) (y : A) → cond b (Err d) r ≡ Ok y → (b ≡ false) × (r ≡ Ok y)
passed true d r y e = absurd cc
passed false d r y e = (refl, e)

pub read_fits : (s : Shape) → IsShape s → (bytes : Bytes) (m : Message) → message_of s bytes ≡ Ok m → FitsFields s m
unfolding message_of
read_fits s shape bytes m e =
    let read = passed (ltb MESSAGE_LIMIT (length bytes)) _ _ m e in
    let a = bind_ok (number_in w8 1 16 (cursor 0 bytes)) _ m read.1 in
    let b = bind_ok (behind_kind_at s a.0.0 a.0.1) _ m a.2 in
    let g = allow_ok (eqb (length b.0.1.rest) 0) b.0.1.at b.0.0 m b.2 in
    subst (FitsFields s) g.1 (kind_yield s shape a.0.0 a.0.1 b.0.0 b.0.1 b.1)
