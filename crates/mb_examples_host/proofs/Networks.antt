-- A small network: hosts that take whole steps, and a list of what happens to them one after the other.
use Rattle.std.specs.Prelude.{ℕ, ◌+◌, ◌-◌, List, [], ◌∷◌, ◌++◌, length, map, ◌==◌, Option, Some, None, if◌then◌else◌, slice_get, replicate}
use Rattle.mb_base.specs.Shapes.{Bytes}
use Rattle.mb_msg.specs.declared.message.Message.{Message}
use Rattle.mb_msg.specs.Spelling.{kind_of}
use Rattle.mb_msg.specs.declared.event.Outcome.{Outcome}
use Rattle.mb_msg.specs.declared.event.Event.TheVariants as event
use Rattle.mb_model.specs.Histories.{History, Identity, view_of}
use Rattle.mb_model.specs.Stable.{low_of}
use Rattle.mb_model.specs.OwnLog.{own_log, log_longest}
use Rattle.mb_model.specs.Positions.{exec_of}
use Rattle.mb_model.specs.Given.{Answer}
use Rattle.mb_model.specs.HostStep.{transition, on_message}

-- the hosts' histories, all messages so far, and the outcomes so far, oldest first
pub record Net : Type 0 where
  pub histories : List History
  pub pool : List Message
  pub outcomes : List Outcome

pub data Happening : Type 0 where
  Appears : Message → Happening  -- a client asks, or a faulty host stamps: one more message
  Reaches : ℕ → ℕ → Happening  -- a message, by its number from 1 on, is given to a host
  Hears : ℕ → Bytes → Happening  -- these bytes are given to a host

-- the list with another element at this index
abbrev set_at : {A : Type 0} → List A → ℕ → A → List A
set_at [] i x = []
set_at (y ∷ l) i x = if i == 0 then x ∷ l else y ∷ set_at l (i - 1) x

-- the history of a host
abbrev pub history_at : List History → ℕ → History
history_at [] i = []
history_at (d ∷ l) i = if i == 0 then d else history_at l (i - 1)

-- a message by its number
abbrev pub message_at : Net → ℕ → Option Message
message_at w n = slice_get w.pool (n - 1)

-- of so many hosts
abbrev pub nothing_yet : ℕ → Net
nothing_yet hosts = record { histories = replicate hosts []; pool = []; outcomes = [] }

abbrev left_net : Net → ℕ → Answer → Net
left_net w h a = record { histories = set_at w.histories h a.left.history; pool = w.pool ++ map (λ m. m.says) a.left.sent; outcomes = w.outcomes ++ a.outcome ∷ [] }

-- What is told of a net: the outcomes, the kinds of all messages, and of each host the view, the last executed position, the stable position, how many
-- messages its log has, and how many it had at most.
pub record Story : Type 0 where
  pub outcomes : List Outcome
  pub kinds : List ℕ
  pub hosts : List (List ℕ)

module _ {S : Type 0} (host : ℕ → Identity S) where
  abbrev reached : Option Message → ℕ → Net → Net
  reached None h w = w
  reached (Some m) h w = left_net w h (on_message (host h) (history_at w.histories h) m)

  abbrev happened : Happening → Net → Net
  happened (Appears m) w = record w { pool = w.pool ++ m ∷ [] }
  happened (Reaches n h) w = reached (message_at w n) h w
  happened (Hears h bytes) w = left_net w h (transition (host h) (history_at w.histories h) (event.Given bytes))

  -- behind all of these, the first of them first
  unfoldable pub net_after : List Happening → Net → Net
  net_after [] w = w
  net_after (e ∷ es) w = net_after es (happened e w)

  -- of the host with this number
  abbrev pub told_of : ℕ → History → List ℕ
  told_of h d = view_of (host h) d ∷ exec_of d ∷ low_of (host h) d ∷ length (own_log (host h) d) ∷ log_longest (host h) d ∷ []

  -- of the hosts from this number on
  abbrev told_from : ℕ → List History → List (List ℕ)
  told_from h [] = []
  told_from h (d ∷ ds) = told_of h d ∷ told_from (h + 1) ds

  unfoldable pub story : Net → Story
  story w = record { outcomes = w.outcomes; kinds = map kind_of w.pool; hosts = told_from 0 w.histories }
