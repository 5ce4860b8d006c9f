-- Whom the bytes of a message name: the kind of a REPLY alone names a client.
use Rattle.std.proofs.Common.{◌≡◌, ◌≢◌, ℕ, Bool, true, false, cond, eqb, ◌<◌, ◌≤◌, length, Option, None, option_and_then, Result, Ok, Err, refl, sym, ◌∙◌}
use Rattle.std.proofs.lemmas.Bool.{ne_eqb, lt-ltb, le-ltb}
use Rattle.std.specs.Int.{w8}
use Rattle.mb_base.specs.declared.limits.TheConstants.{MESSAGE_LIMIT}
use Rattle.mb_base.specs.declared.shape.Shape.{Shape}
use Rattle.mb_base.specs.Shapes.{Bytes}
use Rattle.mb_base.specs.Reading.{Cursor, cursor, Reads, ◌>>=◌, number_in, map_at}
use Rattle.mb_parts.specs.Reading.{digest_at, request_at}
use Rattle.mb_msg.specs.declared.normal.Reply.{Reply}
use Rattle.mb_msg.specs.declared.stamped.Stamped.{Stamped}
use Rattle.mb_msg.specs.declared.stamped.Stamped.TheVariants as stamped
use Rattle.mb_msg.specs.declared.message.Message.{Message}
use Rattle.mb_msg.specs.declared.message.Message.TheVariants as message
use Rattle.mb_msg.specs.Stamps.{as_message}
use Rattle.mb_msg.specs.Reading.{reply_at, wish_at, resend_at, log_at, fetch_at, state_at, stop_of, behind_stamped_kind_at, behind_kind_at, message_of}
use Rattle.mb_model.specs.Inside.{if_read}
use Rattle.mb_members.specs.Replies.{addressee, addressee_behind}

-- the client of what was read
abbrev told : Result Message ℕ → Option ℕ
told read = option_and_then addressee (if_read read)

-- the client of a message that was read behind its kind, where no byte follows
abbrev whom : Reads Message → Option ℕ
whom (Ok m) = cond (eqb (length m.1.rest) 0) (addressee m.0) None
whom (Err at) = None

ended : (b : Bool) (m : Message) (at : ℕ) → told (cond b (Ok m) (Err at)) ≡ cond b (addressee m) None
ended true m at = refl
ended false m at = refl

whole : (r : Reads Message) → told (r >>= (λ m. cond (eqb (length m.1.rest) 0) (Ok m.0) (Err m.1.at))) ≡ whom r
whole (Ok m) = ended (eqb (length m.1.rest) 0) m.0 m.1.at
whole (Err at) = refl

-- ---- behind its kind

reply_whom : (r : Reads Reply) → whom (r >>= (λ x. Ok (message.Reply x.0, x.1))) ≡ addressee_behind r
reply_whom (Ok r) = refl
reply_whom (Err at) = refl

-- a kind that names no client
quiet : {A : Type 0} (make : A → Message) → ((x : A) → addressee (make x) ≡ None) → (r : Reads A) → whom (r >>= (λ x. Ok (make x.0, x.1))) ≡ None
quiet make none (Ok r) = go (eqb (length r.1.rest) 0) where
  go : (b : Bool) → cond b (addressee (make r.0)) None ≡ None
  go true = none r.0
  go false = refl
quiet make none (Err at) = refl

first_of_two : (b : Bool) (f g : Cursor → Reads Message) (c : Cursor) → whom (f c) ≡ None → whom (g c) ≡ None → whom (cond b f g c) ≡ None
first_of_two true f g c first second = first
first_of_two false f g c first second = second

stamped_quiet : (m : Stamped) → addressee (as_message m) ≡ None
stamped_quiet (stamped.Prepare m) = refl
stamped_quiet (stamped.Commit m) = refl
stamped_quiet (stamped.Checkpoint m) = refl
stamped_quiet (stamped.ViewChange m) = refl
stamped_quiet (stamped.NewView m) = refl
stamped_quiet (stamped.Enter m) = refl
stamped_quiet (stamped.Open m) = refl
stamped_quiet (stamped.Join m) = refl

reply_kind : (s : Shape) (kind : ℕ) (c : Cursor) → kind ≡ 4 → whom (behind_kind_at s kind c) ≡ addressee_behind (reply_at s c)
unfolding behind_kind_at
reply_kind s kind c is = rw is (reply_whom (reply_at s c))

other_kind : (s : Shape) (kind : ℕ) (c : Cursor) → kind ≢ 4 → whom (behind_kind_at s kind c) ≡ None
unfolding behind_kind_at
other_kind s kind c other =
    rw (ne_eqb kind 4 other) (
    first_of_two (eqb kind 1) _ _ c (quiet message.Request (λ x. refl) (request_at s c)) (
    first_of_two (eqb kind 6) _ _ c (quiet message.ReqViewChange (λ x. refl) (wish_at s c)) (
    first_of_two (eqb kind 12) _ _ c (quiet message.Resend (λ x. refl) (resend_at s c)) (
    first_of_two (eqb kind 13) _ _ c (quiet message.Log (λ x. refl) (log_at s c)) (
    first_of_two (eqb kind 14) _ _ c (quiet message.Fetch (λ x. refl) (fetch_at s c)) (
    first_of_two (eqb kind 15) _ _ c (quiet message.State (λ x. refl) (state_at s c)) (
    first_of_two (eqb kind 16) _ _ c (quiet message.Stop (λ x. refl) (map_at stop_of digest_at c))
    (quiet as_message stamped_quiet (behind_stamped_kind_at s kind c)))))))))

-- ---- all of the bytes

pub too_long : (s : Shape) (bytes : Bytes) → MESSAGE_LIMIT < length bytes → None ≡ told (message_of s bytes)
unfolding message_of
too_long s bytes long = rw (lt-ltb MESSAGE_LIMIT (length bytes) long) refl

pub no_kind : (s : Shape) (bytes : Bytes) (at : ℕ) → length bytes ≤ MESSAGE_LIMIT → number_in w8 1 16 (cursor 0 bytes) ≡ Err at → None ≡ told (message_of s bytes)
unfolding message_of
no_kind s bytes at few read = rw (le-ltb MESSAGE_LIMIT (length bytes) few, read) refl

behind : (s : Shape) (bytes : Bytes) (kind : ℕ) (c : Cursor) → length bytes ≤ MESSAGE_LIMIT → number_in w8 1 16 (cursor 0 bytes) ≡ Ok (kind, c) → whom (behind_kind_at s kind c) ≡ told (message_of s bytes)
unfolding message_of
behind s bytes kind c few read = rw (le-ltb MESSAGE_LIMIT (length bytes) few, read) (sym (whole (behind_kind_at s kind c)))

pub is_reply : (s : Shape) (bytes : Bytes) (kind : ℕ) (c : Cursor) → length bytes ≤ MESSAGE_LIMIT → number_in w8 1 16 (cursor 0 bytes) ≡ Ok (kind, c) → kind ≡ 4 → addressee_behind (reply_at s c) ≡ told (message_of s bytes)
is_reply s bytes kind c few read is = sym (reply_kind s kind c is) ∙ behind s bytes kind c few read

pub is_other : (s : Shape) (bytes : Bytes) (kind : ℕ) (c : Cursor) → length bytes ≤ MESSAGE_LIMIT → number_in w8 1 16 (cursor 0 bytes) ≡ Ok (kind, c) → kind ≢ 4 → None ≡ told (message_of s bytes)
is_other s bytes kind c few read other = sym (other_kind s kind c other) ∙ behind s bytes kind c few read
