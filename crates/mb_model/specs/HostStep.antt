-- The whole step of a host: one event, what it does, the rules that follow, and a FETCH at its end.
use Rattle.std.specs.Prelude.{ℕ, Bool, true, false, ◌&&◌, ◌||◌, List, [], ◌∷◌, nat_lt, ◌==◌, Result, Ok, Err, if◌then◌else◌, is_none}
use Rattle.mb_msg.specs.declared.message.Message.{Message}
use Rattle.mb_msg.specs.declared.message.Message.TheVariants as message
use Rattle.mb_msg.specs.Spelling.{kind_of}
use Rattle.mb_msg.specs.Reading.{message_of}
use Rattle.mb_msg.specs.declared.event.Event.{Event}
use Rattle.mb_msg.specs.declared.event.Outcome.{Outcome}
use Rattle.mb_msg.specs.declared.event.Event.TheVariants as event
use Rattle.mb_msg.specs.declared.event.Outcome.TheVariants as outcome
use Rattle.mb_model.specs.Histories.{LostPatience, Nudged, History, Identity, view_of}
use Rattle.mb_model.specs.Held.{wish_of, view_limit}
use Rattle.mb_model.specs.Stable.{low_of}
use Rattle.mb_model.specs.Positions.{is_behind}
use Rattle.mb_model.specs.Execution.{asked_host}
use Rattle.mb_model.specs.Sending.{Progress, begin, write, send, to_all, to_host}
use Rattle.mb_model.specs.Making.{wish, resend, fetch}
use Rattle.mb_model.specs.PlainChecks.{log_refusal}
use Rattle.mb_model.specs.CarriedOut.{run_rules, enough}
use Rattle.mb_model.specs.Given.{Answer, answer, give}

module _ {S : Type 0} (self : Identity S) where
  -- ---- lost patience: the host wishes for the view behind its own, and tells it; in the greatest view there is none

  abbrev pub wish_onward : Progress → Progress
  wish_onward x = send (to_all (wish self (LostPatience ∷ x.history))) (write LostPatience x)

  unfoldable pub on_patience : Progress → Answer
  on_patience x = if view_of self x.history == view_limit then answer outcome.Idle x else answer outcome.Took (wish_onward x)

  -- ---- a Nudge: the host asks all for what they stamped, and tells its wish again where it isn't fulfilled

  abbrev pub wish_again : Progress → Progress
  wish_again x = if nat_lt (view_of self x.history) (wish_of self x.history self.host) then send (to_all (wish self x.history)) x else x

  unfoldable pub on_nudge : Progress → Answer
  on_nudge x = answer outcome.Took (wish_again (send (to_all (resend self x.history)) (write Nudged x)))

  -- ---- the FETCH at the end of a step

  abbrev pub low_rose : History → History → Bool
  low_rose before d = nat_lt (low_of self before) (low_of self d)

  -- While the host is behind it asks for state: in the step of a Nudge or of a STATE, and where the stable position rose in this step. It asks
  -- the host whose turn it is, which a Nudge alone passes on.
  abbrev pub with_fetch : Bool → History → Progress → Progress
  with_fetch asks before x = if is_behind self x.history && (asks || low_rose before x.history) then send (to_host (asked_host self x.history) (fetch self x.history)) x else x

  -- ---- what follows an event

  -- the rules, and the FETCH
  abbrev pub finished : Bool → History → Answer → Answer
  finished asks before a = answer a.outcome (with_fetch asks before (run_rules self enough a.left))

  abbrev pub finished_where : Bool → Bool → History → Answer → Answer
  finished_where true asks before a = finished asks before a
  finished_where false asks before a = a

  abbrev pub is_taken : Outcome → Bool
  is_taken outcome.Took = true
  is_taken o = false

  -- They follow what was taken; and each LOG that checks before its entries, also where it ended at a refusal.
  abbrev pub rules_follow : Outcome → Message → Bool
  rules_follow o (message.Log m) = is_none (log_refusal self m)
  rules_follow o m = is_taken o

  -- A STATE asks for the parts that are missing still.
  abbrev pub asks_on : Message → Bool
  asks_on (message.State m) = true
  asks_on m = false

  -- ---- one event at this host

  abbrev pub after_message : Message → History → Answer → Answer
  after_message m d a = finished_where (rules_follow a.outcome m) (asks_on m) d a

  abbrev pub on_message : History → Message → Answer
  on_message d m = after_message m d (give self m (begin d))

  abbrev pub on_bytes : Result Message ℕ → History → Answer
  on_bytes (Err at) d = answer (outcome.Malformed at) (begin d)
  on_bytes (Ok m) d = on_message d m

  abbrev pub after_patience : History → Answer → Answer
  after_patience d a = finished_where (is_taken a.outcome) false d a

  unfoldable pub transition : History → Event → Answer
  transition d (event.Given bytes) = on_bytes (message_of self.shape bytes) d
  transition d event.Patience = after_patience d (on_patience (begin d))
  transition d event.Nudge = finished true d (on_nudge (begin d))

  -- what these events leave, the last of them first
  unfoldable pub after : List Event → History
  after [] = []
  after (e ∷ es) = (transition (after es) e).left.history
