-- No event line has more words than five and the numbers of a batch.
use Rattle.std.proofs.Common.{◌≡◌, ℕ, ◌<◌, ◌+◌, leb, Bool, true, false, cond, List, [], ◌∷◌, length, Option, Some, None, refl, arith}
use Rattle.std.proofs.lemmas.Bool.{and_right, lt-leb}
use Rattle.mb_base.specs.Limits.{batch_limit}
use Rattle.mb_base.specs.Shapes.{Bytes}
use denote.Ref.{Bor}
use Rattle.mb_sched.specs.Words.{texts, is, host_in, client_in, ◌>>=◌}
use Rattle.mb_sched.specs.EventLines.{seq_in, place_in, place_from_1, ask_of, give_of, take_of, raw_of, patience_of, nudge_of, sign_of, answer_of, reply_of, wish_of, tag_of, messages_of, prepare_of, commit_of, checkpoint_of, change_of, as_of, stamp_raw_of, stamped_of, stamp_of, event_by, event_line}

-- nothing is read where what follows says nothing
nothing : {A B : Type 0} (o : Option A) (f : A → Option B) → ((x : A) → f x ≡ None) → (o >>= f) ≡ None
nothing None f none = refl
nothing (Some x) f none = none x

-- a choice between what says nothing
neither : {A : Type 0} (b : Bool) (x y : Option A) → x ≡ None → y ≡ None → cond b x y ≡ None
neither true x y left right = left
neither false x y left right = right

module _ (hosts clients : ℕ) where
  no_ask : (ws : List Bytes) → 2 < length ws → ask_of clients ws ≡ None
  no_ask [] lt = absurd (omega arith)
  no_ask (a ∷ []) lt = absurd (omega arith)
  no_ask (a ∷ b ∷ []) lt = absurd (omega arith)
  no_ask (a ∷ b ∷ c ∷ ws) lt = refl

  no_give : (ws : List Bytes) → 2 < length ws → give_of hosts ws ≡ None
  no_give [] lt = absurd (omega arith)
  no_give (a ∷ []) lt = absurd (omega arith)
  no_give (a ∷ b ∷ []) lt = absurd (omega arith)
  no_give (a ∷ b ∷ c ∷ ws) lt = refl

  no_take : (ws : List Bytes) → 2 < length ws → take_of clients ws ≡ None
  no_take [] lt = absurd (omega arith)
  no_take (a ∷ []) lt = absurd (omega arith)
  no_take (a ∷ b ∷ []) lt = absurd (omega arith)
  no_take (a ∷ b ∷ c ∷ ws) lt = refl

  no_raw : (ws : List Bytes) → 2 < length ws → raw_of hosts clients ws ≡ None
  no_raw [] lt = absurd (omega arith)
  no_raw (a ∷ []) lt = absurd (omega arith)
  no_raw (a ∷ b ∷ []) lt = absurd (omega arith)
  no_raw (a ∷ b ∷ c ∷ ws) lt = refl

  no_patience : (ws : List Bytes) → 1 < length ws → patience_of hosts ws ≡ None
  no_patience [] lt = absurd (omega arith)
  no_patience (a ∷ []) lt = absurd (omega arith)
  no_patience (a ∷ b ∷ ws) lt = refl

  no_nudge : (ws : List Bytes) → 1 < length ws → nudge_of hosts ws ≡ None
  no_nudge [] lt = absurd (omega arith)
  no_nudge (a ∷ []) lt = absurd (omega arith)
  no_nudge (a ∷ b ∷ ws) lt = refl

  no_sign : (ws : List Bytes) → 3 < length ws → sign_of clients ws ≡ None
  no_sign [] lt = absurd (omega arith)
  no_sign (a ∷ []) lt = absurd (omega arith)
  no_sign (a ∷ b ∷ []) lt = absurd (omega arith)
  no_sign (a ∷ b ∷ c ∷ []) lt = absurd (omega arith)
  no_sign (a ∷ b ∷ c ∷ d ∷ ws) lt = refl

  no_answer : (h c seq : ℕ) (ws : List Bytes) → 2 < length ws → answer_of h c seq ws ≡ None
  no_answer h c seq [] lt = absurd (omega arith)
  no_answer h c seq (x ∷ []) lt = absurd (omega arith)
  no_answer h c seq (x ∷ y ∷ []) lt = absurd (omega arith)
  no_answer h c seq (x ∷ y ∷ z ∷ ws) lt = refl

  no_reply : (h : ℕ) (ws : List Bytes) → 4 < length ws → reply_of clients h ws ≡ None
  no_reply h [] lt = absurd (omega arith)
  no_reply h (a ∷ []) lt = absurd (omega arith)
  no_reply h (client ∷ number ∷ ws) lt = nothing (client_in clients client) _ (λ c. nothing (seq_in number) _ (λ seq. no_answer h c seq ws (omega arith)))

  no_wish : (h : ℕ) (ws : List Bytes) → 1 < length ws → wish_of h ws ≡ None
  no_wish h [] lt = absurd (omega arith)
  no_wish h (a ∷ []) lt = absurd (omega arith)
  no_wish h (a ∷ b ∷ ws) lt = refl

  no_tag : (ws : List Bytes) → 6 < length ws → tag_of hosts clients ws ≡ None
  no_tag [] lt = absurd (omega arith)
  no_tag (a ∷ []) lt = absurd (omega arith)
  no_tag (host ∷ what ∷ ws) lt =
      nothing (host_in hosts host) (λ h. cond (is "reply" what) (reply_of clients h ws) (cond (is "wish" what) (wish_of h ws) None))
      (λ h. neither (is "reply" what) _ _ (no_reply h ws (omega arith)) (neither (is "wish" what) _ _ (no_wish h ws (omega arith)) refl))

  -- ---- what is stamped

  no_messages : (ws : List Bytes) → batch_limit < length ws → messages_of ws ≡ None
  no_messages ws lt = rw (lt-leb (length ws) batch_limit lt, and_right (leb 1 (length ws)) false refl) refl

  no_prepare : (h : ℕ) (ws : List Bytes) → 2 + batch_limit < length ws → prepare_of h ws ≡ None
  no_prepare h [] lt = absurd (omega arith)
  no_prepare h (a ∷ []) lt = absurd (omega arith)
  no_prepare h (word ∷ position ∷ ws) lt =
      nothing (place_in word) _ (λ view. nothing (place_from_1 position) _ (λ pos. rw (no_messages ws (omega arith)) refl))

  no_commit : (h : ℕ) (ws : List Bytes) → 1 < length ws → commit_of h ws ≡ None
  no_commit h [] lt = absurd (omega arith)
  no_commit h (a ∷ []) lt = absurd (omega arith)
  no_commit h (a ∷ b ∷ ws) lt = refl

  no_checkpoint : (h : ℕ) (ws : List Bytes) → 2 < length ws → checkpoint_of h ws ≡ None
  no_checkpoint h [] lt = absurd (omega arith)
  no_checkpoint h (a ∷ []) lt = absurd (omega arith)
  no_checkpoint h (a ∷ b ∷ []) lt = absurd (omega arith)
  no_checkpoint h (a ∷ b ∷ c ∷ ws) lt = refl

  no_change : (h : ℕ) (ws : List Bytes) → 2 < length ws → change_of h ws ≡ None
  no_change h [] lt = absurd (omega arith)
  no_change h (a ∷ []) lt = absurd (omega arith)
  no_change h (a ∷ b ∷ []) lt = absurd (omega arith)
  no_change h (a ∷ b ∷ c ∷ ws) lt = refl

  no_as : (h : ℕ) (ws : List Bytes) → 1 < length ws → as_of h ws ≡ None
  no_as h [] lt = absurd (omega arith)
  no_as h (a ∷ []) lt = absurd (omega arith)
  no_as h (a ∷ b ∷ ws) lt = refl

  no_stamp_raw : (h : ℕ) (ws : List Bytes) → 1 < length ws → stamp_raw_of h ws ≡ None
  no_stamp_raw h [] lt = absurd (omega arith)
  no_stamp_raw h (a ∷ []) lt = absurd (omega arith)
  no_stamp_raw h (a ∷ b ∷ ws) lt = refl

  no_stamped : (h : ℕ) (what : Bytes) (ws : List Bytes) → 2 + batch_limit < length ws → stamped_of h what ws ≡ None
  no_stamped h what ws lt =
      neither (is "prepare" what) _ _ (no_prepare h ws lt)
      (neither (is "commit" what) _ _ (no_commit h ws (omega arith))
      (neither (is "checkpoint" what) _ _ (no_checkpoint h ws (omega arith))
      (neither (is "change" what) _ _ (no_change h ws (omega arith))
      (neither (is "as" what) _ _ (no_as h ws (omega arith))
      (neither (is "raw" what) _ _ (no_stamp_raw h ws (omega arith)) refl)))))

  no_stamp : (ws : List Bytes) → 4 + batch_limit < length ws → stamp_of hosts ws ≡ None
  no_stamp [] lt = absurd (omega arith)
  no_stamp (a ∷ []) lt = absurd (omega arith)
  no_stamp (host ∷ what ∷ ws) lt = nothing (host_in hosts host) (λ h. stamped_of h what ws) (λ h. no_stamped h what ws (omega arith))

  -- ---- any line

  long_event : (verb : Bytes) (ws : List Bytes) → 4 + batch_limit < length ws → event_by hosts clients verb ws ≡ None
  long_event verb ws lt =
      neither (is "ask" verb) _ _ (no_ask ws (omega arith))
      (neither (is "give" verb) _ _ (no_give ws (omega arith))
      (neither (is "take" verb) _ _ (no_take ws (omega arith))
      (neither (is "raw" verb) _ _ (no_raw ws (omega arith))
      (neither (is "patience" verb) _ _ (no_patience ws (omega arith))
      (neither (is "nudge" verb) _ _ (no_nudge ws (omega arith))
      (neither (is "sign" verb) _ _ (no_sign ws (omega arith))
      (neither (is "tag" verb) _ _ (no_tag ws (omega arith))
      (neither (is "stamp" verb) _ _ (no_stamp ws lt) refl))))))))

  pub long_line : (ws : List Bytes) → 5 + batch_limit < length ws → event_line hosts clients ws ≡ None
  unfolding event_line
  long_line [] lt = absurd (omega arith)
  long_line (verb ∷ ws) lt = long_event verb ws (omega arith)

-- a reply has more words than one
pub short_reply : (clients h : ℕ) (ws : List (Bor Bytes)) → length ws < 2 → None ≡ reply_of clients h (texts ws)
short_reply clients h [] lt = refl
short_reply clients h (a ∷ []) lt = refl
short_reply clients h (a ∷ b ∷ ws) lt = absurd (omega arith)

-- nor is one word enough for what is stamped
pub short_stamp : (hosts : ℕ) (ws : List (Bor Bytes)) → length ws < 2 → None ≡ stamp_of hosts (texts ws)
short_stamp hosts [] lt = refl
short_stamp hosts (a ∷ []) lt = refl
short_stamp hosts (a ∷ b ∷ ws) lt = absurd (omega arith)
