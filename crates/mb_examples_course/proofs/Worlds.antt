-- The worlds of the run: what each event makes of the one before, and what it finds there.
use Rattle.std.proofs.Common.{ℕ, zero, suc, ◌+◌, Bool, false, List, [], ◌∷◌, Option, Some, None}
use Rattle.std.specs.Prelude.{fold}
use Rattle.mb_base.specs.Shapes.{Bytes}
use Rattle.mb_parts.specs.declared.request.Request.{Request}
use Rattle.mb_msg.specs.Spelling.{spelling}
use Rattle.mb_model.specs.Histories.{History}
use Rattle.mb_schedule.specs.Limits.{is_faulty}
use Rattle.mb_world_model.specs.World.{World, nothing_happened, numbered, request_of, asks_for, arrives, stepped}
use Rattle.mb_world_model.specs.Stops.{WorldStop, stop_of}
use Rattle.mb_examples_course.proofs.Deeds.{Deed, Asks, Gives, round, deeds}
use Rattle.mb_examples_course.proofs.Schedule.{past_checkpoint, event_of}

abbrev pub behind : World → Deed → World
behind w (Asks r) = asks_for past_checkpoint r w
behind w (Gives g) = stepped past_checkpoint g.host g.answer (arrives past_checkpoint g.host (spelling g.says) w)

-- behind the first k PUTs
abbrev pub world : ℕ → World
world zero = nothing_happened
world (suc k) = fold behind (world k) (round (suc k))

-- behind all events
abbrev pub end : World
end = fold behind nothing_happened deeds

-- What an event finds in the world before it: what stops it, the request that it makes, the message of its number, and the history of a host, which
-- may be faulty.
pub record Found : Type 0 where
  pub stop : Option WorldStop
  pub asks : Option Request
  pub bytes : Option Bytes
  pub history : History
  pub faulty : Bool

abbrev pub found : World → Deed → Found
found w (Asks r) = record {
  stop = stop_of past_checkpoint w (event_of (Asks r));
  asks = Some (request_of past_checkpoint r.client ((w.askers r.client).number + 1) r.op);
  bytes = None;
  history = [];
  faulty = false;
}
found w (Gives g) = record {
  stop = stop_of past_checkpoint w (event_of (Gives g));
  asks = None;
  bytes = numbered w.pool g.number;
  history = w.histories g.host;
  faulty = is_faulty past_checkpoint g.host;
}

-- what it has to find
abbrev pub wanted : Deed → Found
wanted (Asks r) = record { stop = None; asks = Some r; bytes = None; history = []; faulty = false }
wanted (Gives g) = record { stop = None; asks = None; bytes = Some (spelling g.says); history = g.before; faulty = false }

-- what each finds, one after the other
abbrev pub all_found : World → List Deed → List Found
all_found w [] = []
all_found w (x ∷ rest) = found w x ∷ all_found (behind w x) rest
