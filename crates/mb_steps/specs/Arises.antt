-- How the histories of a host arise: each entry, with what was seen as it was added.
use Rattle.std.specs.Prelude.{◌≡◌, ℕ, ◌+◌, ◌<◌, ◌==◌, ◌%◌, true, false, List, [], ◌∷◌, ◌++◌, map, Some}
use Rattle.mb_base.specs.Shapes.{interval}
use Rattle.mb_parts.specs.declared.request.Request.{Request}
use Rattle.mb_parts.specs.declared.batch.Batch.{Batch}
use Rattle.mb_msg.specs.declared.event.Placed.{Placed}
use Rattle.mb_msg.specs.declared.event.Slot.{Slot}
use Rattle.mb_parts.specs.declared.certificates.Evidence.{Evidence}
use Rattle.mb_msg.specs.declared.change.ViewChange.{ViewChange}
use Rattle.mb_msg.specs.declared.change.NewView.{NewView}
use Rattle.mb_msg.specs.declared.change.Plan.{Plan}
use Rattle.mb_msg.specs.declared.stamped.Stamped.{Stamped as StampedMessage}
use Rattle.mb_msg.specs.declared.stamped.Stamped.TheVariants as stamped
use Rattle.mb_model.specs.declared.known.KnownSlot.{KnownSlot}
use Rattle.mb_model.specs.Histories.{Entry, Accepted, Stamped, Jumped, Closed, Served, Executed, Installed, DroppedParts, LostPatience, Nudged, History, Identity}
use Rattle.mb_model.specs.Stable.{low_of}
use Rattle.mb_model.specs.Positions.{exec_of}
use Rattle.mb_model.specs.Service.{is_fresh, batch_of}
use Rattle.mb_model.specs.Execution.{state_of}
use Rattle.mb_model.specs.CarriedOut.{just_served}
use Rattle.mb_model.specs.Sending.{signed}
use Rattle.mb_model.specs.Making.{prepare, commit, view_change, new_view, enter, opening, join, checkpoint}
use Rattle.mb_model.specs.Passed.{Passes}
use Rattle.mb_model.specs.EnabledRules.{ChangeView, Announce, Enter, Open, Join, Commit, Execute, Prepare, change_enabled, announce_enabled, enter_enabled, open_enabled, join_enabled, commit_enabled, execute_enabled, prepare_enabled}

module _ {S : Type 0} (self : Identity S) where
  -- The last entry is an execution at this position.
  abbrev pub JustExecuted : History → ℕ → Type 0
  JustExecuted (Executed slot ∷ d) p = slot.pos ≡ p
  JustExecuted d p = ⊥

  -- A message that this host stamps is one that an enabled rule makes; a CHECKPOINT, the one of a position that was just executed.
  abbrev pub Makes : History → StampedMessage → Type 0
  Makes d (stamped.ViewChange m) = (view : ℕ) × (change_enabled self d ≡ Some (ChangeView view)) × (signed self d (view_change self d view) ≡ stamped.ViewChange m)
  Makes d (stamped.NewView m) = (changes : List ViewChange) × (announce_enabled self d ≡ Some (Announce changes)) × (signed self d (new_view self d changes) ≡ stamped.NewView m)
  Makes d (stamped.Enter m) = (n : NewView) × (enter_enabled self d ≡ Some (Enter n)) × (signed self d (enter n) ≡ stamped.Enter m)
  Makes d (stamped.Open m) = (e : Evidence) × (plan : Plan) × (open_enabled self d ≡ Some (Open e plan)) × (signed self d (opening e plan) ≡ stamped.Open m)
  Makes d (stamped.Join m) = (join_enabled self d ≡ Some Join) × (signed self d (join self d) ≡ stamped.Join m)
  Makes d (stamped.Commit m) = (p : ℕ) × (k : KnownSlot) × (b : Batch) × (commit_enabled self d ≡ Some (Commit p k b)) × (signed self d (commit self d p k b) ≡ stamped.Commit m)
  Makes d (stamped.Prepare m) = (p : ℕ) × (b : Batch) × (prepare_enabled self d ≡ Some (Prepare p b)) × (signed self d (prepare self d p b) ≡ stamped.Prepare m)
  Makes d (stamped.Checkpoint m) = (p : ℕ) × JustExecuted d p × ((p % interval self.shape == 0) ≡ true) × (signed self d (checkpoint self d p) ≡ stamped.Checkpoint m)

  -- A batch is enabled to execute at the next position; this request is the next of it behind those that were just served, and it is fresh as
  -- the state behind those says.
  pub record Serves (d : History) (pos : ℕ) (placed : Placed) : Type 0 where
    pub batch : Batch
    pub more : List Request
    pub enabled : execute_enabled self d ≡ Some (Execute pos batch)
    pub place : pos ≡ exec_of d + 1
    pub next : map (λ p. p.request) (just_served d) ++ placed.request ∷ more ≡ batch.requests
    pub fresh : placed.fresh ≡ is_fresh (state_of self d) placed.request

  -- The requests that were just served are the whole of a batch that is enabled to execute at the next position.
  pub record Executes (d : History) (slot : Slot) : Type 0 where
    pub enabled : execute_enabled self d ≡ Some (Execute slot.pos (batch_of slot))
    pub place : slot.pos ≡ exec_of d + 1
    pub served : slot.requests ≡ just_served d

  -- What was accepted has passed its tests; a gate that jumps is another host's; the requests of a batch are served one after the other, and are
  -- then executed; a state is installed at the stable position, above the last executed.
  abbrev pub Adds : History → Entry → Type 0
  Adds d (Accepted m) = Passes self d m
  Adds d (Stamped m) = Makes d m
  Adds d (Jumped h floor) = (h == self.host) ≡ false
  Adds d (Closed h counter) = Unit {0}
  Adds d (Served pos placed) = Serves d pos placed
  Adds d (Executed slot) = Executes d slot
  Adds d (Installed pos parts) = (pos ≡ low_of self d) × (exec_of d < pos)
  Adds d DroppedParts = Unit {0}
  Adds d LostPatience = Unit {0}
  Adds d Nudged = Unit {0}

  -- Each entry was added so.
  abbrev pub Arises : History → Type 0
  Arises [] = Unit {0}
  Arises (e ∷ d) = Adds d e × Arises d

-- No batch is partly served.
abbrev pub IsWhole : History → Type 0
IsWhole (Served pos placed ∷ d) = ⊥
IsWhole d = Unit {0}
