-- When a VIEW_CHANGE of a faulty host can be sent: its size is the same under each identifier.
use Rattle.std.proofs.Common.{◌≡◌, ℕ, ◌+◌, ◌*◌, ◌<◌, ◌≤◌, List, length, reverse, Some, None, refl, sym, ap, ◌∙◌, arith, length-append}
use Rattle.std.specs.Prelude.{not}
use Rattle.std.specs.Bool.{then_some}
use Rattle.std.proofs.lemmas.Bool.{le-leb, lt-leb}
use Rattle.std.proofs.lemmas.List.{length-map, length-reverse}
use Rattle.mb_base.specs.Limits.{log_intervals, other_limit}
use Rattle.mb_base.specs.Shapes.{Bytes, interval}
use Rattle.mb_base.specs.declared.names.Ui.{Ui}
use Rattle.mb_base.specs.declared.limits.TheConstants.{MESSAGE_LIMIT}
use Rattle.mb_usig.proofs.Laws.{length-certificate}
use Rattle.mb_parts.specs.Counted.{counted}
use Rattle.mb_parts.specs.Spelling.{ui_bytes}
use Rattle.mb_parts.proofs.CountedBytes.{counted_within}
use Rattle.mb_msg.specs.declared.change.ViewChange.{ViewChange}
use Rattle.mb_msg.specs.declared.message.Message.TheVariants as message
use Rattle.mb_msg.specs.declared.stamped.Stamped.{Stamped}
use Rattle.mb_msg.specs.Spelling.{stamped_bytes, spelling, view_change_bytes}
use Rattle.mb_msg.proofs.AsStamped.{spelled_as_stamped}
use Rattle.mb_msg.specs.declared.message.Body.TheVariants.{Whole}
use Rattle.mb_model.specs.OwnLog.{kept_forms, as_shown}
use Rattle.mb_model.specs.Sending.{no_ui}
use Rattle.mb_history_laws.proofs.OwnLog.{kept_length}
use Rattle.mb_encodable.proofs.Sizes.{length8, length64}
use Rattle.mb_schedule.specs.declared.schedule.Schedule.{Schedule}
use Rattle.mb_world_model.specs.World.{World as WorldState}
use Rattle.mb_world_model.specs.FaultyHosts.{stamped_after, log_after, change_after, is_sendable_change, faulty_message, faulty_ui, bare_bytes_of}
use Rattle.mb_world_model.specs.Stops.{WrongKind}
use Rattle.mb_forgery.specs.Contents.{placeholder, unstamped, change_of}

counted_longer : (xs : Bytes) (most : ℕ) → most < counted 0 xs → most < length xs
unfolding counted
counted_longer xs most lt = omega (arith, lt)

ui_size : (u : Ui) → length u.cert ≡ 32 → length (ui_bytes u) ≡ 41
unfolding ui_bytes
ui_size u cert = simp (length-append, length8, length64, cert) refl

change_size : (u v : Ui) (m : ViewChange) → length u.cert ≡ 32 → length v.cert ≡ 32 → length (view_change_bytes (record m { ui = u })) ≡ length (view_change_bytes (record m { ui = v }))
unfolding view_change_bytes
change_size u v m e f = simp (length-append, ui_size u e, ui_size v f) refl

spelled_size : (u v : Ui) (m : ViewChange) → length u.cert ≡ 32 → length v.cert ≡ 32 → length (spelling (message.ViewChange (record m { ui = u }))) ≡ length (spelling (message.ViewChange (record m { ui = v })))
unfolding spelling
spelled_size u v m e f = simp (length-append, change_size u v m e f) refl

module _ (s : Schedule) (x : WorldState) (h view counter : ℕ) (messages : List Stamped) (after : reverse messages ≡ stamped_after s x h counter) where
  entry_count : length (log_after s x h counter).entries ≡ length messages
  entry_count =
      length-map (reverse (kept_forms (stamped_after s x h counter))) as_shown ∙ (length-reverse (kept_forms (stamped_after s x h counter))
      ∙ (kept_length (stamped_after s x h counter) ∙ (sym (ap length after) ∙ length-reverse messages)))

  change_is : (content : Stamped) → content ≡ unstamped (change_of view (reverse messages)) → content ≡ unstamped (change_after s x h view counter)
  change_is content is = is ∙ ap (λ l. unstamped (change_of view l)) after

  byte_count : (content : Stamped) → content ≡ unstamped (change_of view (reverse messages)) → length (stamped_bytes content) ≡ length (faulty_message s x h (change_after s x h view counter))
  byte_count content is =
      ap (λ m. length (stamped_bytes m)) (change_is content is)
      ∙ (ap length (spelled_as_stamped (unstamped (change_after s x h view counter)))
      ∙ spelled_size placeholder (faulty_ui s x h (bare_bytes_of s (change_after s x h view counter))) (record { view = view; body = Whole (log_after s x h counter); ui = no_ui }) refl (length-certificate s.secret _ _ _))

  -- It has too many entries.
  pub too_many : (k : ℕ) → k ≡ interval s.shape → log_intervals * k + other_limit < length messages → Some (WrongKind counter) ≡ then_some (not (is_sendable_change s x h view counter)) (WrongKind counter)
  too_many k is many = rw (lt-leb (length (log_after s x h counter).entries) (log_intervals * interval s.shape + other_limit) (omega (arith, entry_count, is, many))) refl

  -- It has too many bytes.
  pub too_long : (k : ℕ) → k ≡ interval s.shape → length messages ≤ log_intervals * k + other_limit → (content : Stamped) → content ≡ unstamped (change_of view (reverse messages)) → MESSAGE_LIMIT < counted 0 (stamped_bytes content)
      → Some (WrongKind counter) ≡ then_some (not (is_sendable_change s x h view counter)) (WrongKind counter)
  too_long k is few content made long =
      rw (
        le-leb (length (log_after s x h counter).entries) (log_intervals * interval s.shape + other_limit) (omega (arith, entry_count, is, few)),
        lt-leb (length (faulty_message s x h (change_after s x h view counter))) MESSAGE_LIMIT (omega (arith, byte_count content made, counted_longer (stamped_bytes content) MESSAGE_LIMIT long)),
      ) refl

  pub sendable : (k : ℕ) → k ≡ interval s.shape → length messages ≤ log_intervals * k + other_limit → (content : Stamped) → content ≡ unstamped (change_of view (reverse messages)) → counted 0 (stamped_bytes content) ≤ MESSAGE_LIMIT
      → then_some (not (is_sendable_change s x h view counter)) (WrongKind counter) ≡ None
  sendable k is few content made short =
      rw (
        le-leb (length (log_after s x h counter).entries) (log_intervals * interval s.shape + other_limit) (omega (arith, entry_count, is, few)),
        le-leb (length (faulty_message s x h (change_after s x h view counter))) MESSAGE_LIMIT (omega (arith, byte_count content made, counted_within (stamped_bytes content) MESSAGE_LIMIT (omega arith) short)),
      ) refl
