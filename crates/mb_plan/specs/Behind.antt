-- The reasons for which an entry of a shown log fails, by a gate that took those before it.
use Rattle.std.specs.Prelude.{ℕ, ◌+◌, Bool, ◌&&◌, not, [], ◌∷◌, List, length, nat_lt, nat_le, ◌==◌, Option, Some, None, if◌then◌else◌}
use Rattle.std.specs.Bool.{then_some}
use Rattle.std.specs.Option.{option_or}
use Rattle.mb_base.specs.Shapes.{Bytes, span}
use Rattle.mb_base.specs.declared.shape.Shape.{Shape}
use Rattle.mb_parts.specs.declared.floor.Floor.{Floor}
use Rattle.mb_parts.specs.Claims.{Claim}
use Rattle.mb_parts.specs.Certificates.{inner_valid}
use Rattle.mb_parts.specs.Ordered.{permits, current_view}
use Rattle.mb_msg.specs.declared.stamped.Shown.{Shown}
use Rattle.mb_msg.specs.declared.change.ChangeBody.{ChangeBody}
use Rattle.mb_msg.specs.Stamps.{bare_of_shown, ui_of_shown}
use Rattle.mb_gate.specs.SenderLogs.{SenderLog, standing, log_from}
use Rattle.mb_model.specs.UsableLogs.{Fault, entries_fault, newest_first, entry_claim, bares, same_truth, shows_body, has_body, height, is_sound_body}

-- a host's log behind a floor, of which a gate took these entries, newest first
abbrev pub log_of : Shape → ℕ → Floor → List Shown → SenderLog
log_of s host o entries = record (log_from s host o) { taken = bares entries }

-- one more was taken
abbrev pub taking : SenderLog → Shown → SenderLog
taking log e = record log { taken = bare_of_shown e ∷ log.taken }

-- the counter is the next one
abbrev pub is_next : SenderLog → ℕ → Bool
is_next log counter = counter == (standing log).counter + 1

-- counter, identifier, and gate
abbrev pub gate_reason : (Claim → Bool) → SenderLog → Shown → Option ℕ
gate_reason valid log e =
    if not (is_next log (ui_of_shown e).counter) then Some 3
    else if not ((ui_of_shown e).host == log.sender && valid (entry_claim log.sender e)) then Some 4
    else if not (permits log.from log.shape log.sender (inner_valid log.shape valid) log.taken (bare_of_shown e)) then Some 5
    else None

-- form, height, and what the body shows; `last` says that no opening is behind the entry
abbrev pub body_reason : Shape → Bytes → (Claim → Bool) → ℕ → Bool → Shown → Option ℕ
body_reason s secret valid stable last e =
    if not (same_truth (shows_body e) (has_body e && last)) then Some 6
    else if nat_lt (stable + span s) (height e) then Some 7
    else if not (is_sound_body s secret valid e) then Some 8
    else None

-- the first fault of a log from a floor, where its certificates check and it isn't too long
abbrev pub behind_founding : Shape → Bytes → (Claim → Bool) → ℕ → ℕ → ℕ → ChangeBody → Floor → Option Fault
behind_founding s secret valid host view counter b o =
    option_or (entries_fault s secret valid host b.stable.pos o [] b.entries)
    (option_or (then_some (not (o.counter + length b.entries + 1 == counter)) (length b.entries, 3))
    (then_some (nat_le view (current_view o (bares (newest_first [] b.entries)))) (length b.entries, 5)))
