-- What a faulty host stamps, before it has an identifier, and how it shows what it stamped.
use Rattle.std.specs.Prelude.{ℕ, Bool, true, false, ◌||◌, List, [], ◌∷◌, map, reverse, replicate, None}
use Rattle.mb_base.specs.declared.names.Ui.{Ui}
use Rattle.mb_msg.specs.declared.message.Body.TheVariants.{Whole}
use Rattle.mb_msg.specs.declared.change.ChangeBody.{ChangeBody}
use Rattle.mb_msg.specs.declared.stamped.Shown.{Shown}
use Rattle.mb_msg.specs.declared.stamped.Stamped.{Stamped}
use Rattle.mb_msg.specs.declared.stamped.Stamped.TheVariants as stamped
use Rattle.mb_msg.specs.Stamps.{with_ui}
use Rattle.mb_model.specs.Plans.{no_base}
use Rattle.mb_model.specs.OwnLog.{behind_opening, kept_forms, as_shown}
use Rattle.mb_model.specs.Sending.{no_ui}

-- stands in the code's message until it is stamped: an identifier with allowed values
abbrev pub placeholder : Ui
placeholder = record { host = 0; counter = 1; cert = replicate 32 0 }

-- a content, as the code has it
abbrev pub unstamped : Stamped → Stamped
unstamped = with_ui placeholder

-- messages, newest first, as a VIEW_CHANGE shows them, without floor and stable certificate
abbrev pub log_of : List Stamped → ChangeBody
log_of messages = record { floor = None; stable = no_base; entries = map as_shown (reverse (kept_forms messages)) }

-- the VIEW_CHANGE that shows them
abbrev pub change_of : ℕ → List Stamped → Stamped
change_of view messages = stamped.ViewChange (record { view = view; body = Whole (log_of messages); ui = no_ui })

-- ---- the same entries one by one, from the last back

-- An OPEN or a JOIN takes the bodies of what stands before it.
abbrev pub is_opening : Stamped → Bool
is_opening (stamped.Prepare m) = false
is_opening (stamped.Commit m) = false
is_opening (stamped.Checkpoint m) = false
is_opening (stamped.ViewChange m) = false
is_opening (stamped.NewView m) = false
is_opening (stamped.Enter m) = false
is_opening (stamped.Open m) = true
is_opening (stamped.Join m) = true

-- a message as an entry; the flag says that an opening stands behind it
abbrev pub entry_of : Bool → Stamped → Shown
entry_of true m = as_shown (behind_opening m)
entry_of false m = as_shown m

-- messages, newest first, as entries
unfoldable pub entries_of : Bool → List Stamped → List Shown
entries_of b [] = []
entries_of b (m ∷ l) = entry_of b m ∷ entries_of (b || is_opening m) l
