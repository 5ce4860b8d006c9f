-- The events that hosts or clients refused, as a report tells them.
use Rattle.std.specs.Prelude.{ℕ, ◌+◌, List, [], ◌∷◌, ◌++◌, length, Option, Some, None, option_to_list}
use Rattle.mb_msg.specs.declared.event.Outcome.{Outcome}
use Rattle.mb_msg.specs.declared.event.Outcome.TheVariants as outcome
use Rattle.mb_model.specs.Clients.{Taken}
use Rattle.mb_model.specs.Clients as client
use Rattle.mb_schedule.specs.declared.report.RefusedLine.{RefusedLine}
use Rattle.mb_schedule.specs.declared.report.Word.{Word}
use Rattle.mb_schedule.specs.declared.report.Word.TheVariants as word
use Rattle.mb_world_model.specs.World.{Seen, OfHost, OfClient, Unread, Made, Lost}

abbrev pub refused_line : ℕ → Word → List ℕ → Option RefusedLine
refused_line e name numbers = Some (record { event = e; name = name; numbers = numbers })

-- the line of a host's outcome that is a refusal: its name, and its numbers in the order of its fields
abbrev pub refusal_of : ℕ → Outcome → Option RefusedLine
refusal_of e (outcome.Malformed at) = refused_line e word.Malformed (at ∷ [])
refusal_of e outcome.BadUi = refused_line e word.BadUi []
refusal_of e (outcome.Convicted counter) = refused_line e word.Convicted (counter ∷ [])
refusal_of e (outcome.Stale next) = refused_line e word.Stale (next ∷ [])
refusal_of e (outcome.Ahead next) = refused_line e word.Ahead (next ∷ [])
refusal_of e (outcome.Illegal rule) = refused_line e word.Illegal (rule ∷ [])
refusal_of e (outcome.LaterView view) = refused_line e word.LaterView (view ∷ [])
refusal_of e (outcome.BeyondWindow low) = refused_line e word.BeyondWindow (low ∷ [])
refusal_of e (outcome.NeedBody view exec) = refused_line e word.NeedBody (view ∷ exec ∷ [])
refusal_of e outcome.BadTag = refused_line e word.BadTag []
refusal_of e (outcome.Unusable index reason) = refused_line e word.Unusable (index ∷ reason ∷ [])
refusal_of e (outcome.Old last) = refused_line e word.Old (last ∷ [])
refusal_of e (outcome.WrongDigest part) = refused_line e word.WrongDigest (part ∷ [])
refusal_of e (outcome.BadState part at) = refused_line e word.BadState (part ∷ at ∷ [])
refusal_of e outcome.Again = None
refusal_of e outcome.Stopping = None
refusal_of e outcome.Idle = None
refusal_of e outcome.Took = None

-- the same of a client's
abbrev pub reply_refusal : ℕ → Taken → Option RefusedLine
reply_refusal e (client.Waiting matching) = None
reply_refusal e (client.Accepted pos) = None
reply_refusal e client.BadTag = refused_line e word.BadTag []
reply_refusal e (client.OtherSeq seq) = refused_line e word.OtherSeq (seq ∷ [])

abbrev pub refusal_in : ℕ → Seen → Option RefusedLine
refusal_in e (OfHost o) = refusal_of e o
refusal_in e (OfClient t) = reply_refusal e t
refusal_in e (Unread o) = refusal_of e o
refusal_in e (Made first count) = None
refusal_in e Lost = None

-- the refused events, oldest first; events count from 1
unfoldable pub refusals : List Seen → List RefusedLine
refusals [] = []
refusals (x ∷ seen) = refusals seen ++ option_to_list (refusal_in (length seen + 1) x)
