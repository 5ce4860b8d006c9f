-- What holds of each history to which a host's steps lead, as its tables need it.
use Rattle.std.specs.Prelude.{◌≡◌, ℕ, ◌+◌, ◌≤◌, ◌<◌, List, ◌++◌, map, Some, None}
use Rattle.mb_base.specs.Shapes.{Bytes, span}
use Rattle.mb_parts.specs.declared.request.Request.{Request}
use Rattle.mb_parts.specs.declared.batch.Batch.{Batch}
use Rattle.mb_msg.specs.declared.normal.Checkpoint.{Checkpoint}
use Rattle.mb_model.specs.declared.known.Vote.{Vote}
use Rattle.mb_model.specs.declared.known.KnownSlot.{KnownSlot}
use Rattle.mb_model.specs.Histories.{History, Identity, view_of, closed_at, counter_of}
use Rattle.mb_steps.specs.OwnLists.{IsOwnList}
use Rattle.mb_model.specs.Stable.{checkpoint_of, low_of}
use Rattle.mb_model.specs.OwnLog.{log_start}
use Rattle.mb_model.specs.Positions.{exec_of, slot_in, vote_of}
use Rattle.mb_model.specs.Execution.{pending, parts_after, part_of}
use Rattle.mb_model.specs.EnabledRules.{Execute, execute_enabled}
use Rattle.mb_model.specs.CarriedOut.{just_served}
use Rattle.mb_steps.specs.Arises.{Arises}
use Rattle.mb_history_laws.specs.Gates.{GatesMove}

module _ {S : Type 0} (self : Identity S) where
  -- at a position of the window above the stable one, or below it
  abbrev pub IsReached : History → ℕ → Type 0
  IsReached d p = p ≤ low_of self d + span self.shape

  pub record IsSound (d : History) : Type 0 where
    -- Each entry was added as the rules of a host let it, and each moved its gate so.
    pub arises : Arises self d
    pub gates : GatesMove self d
    -- The own gate took what this host stamped, in order, and was never closed.
    pub own : IsOwnList self d
    pub unclosed : closed_at d self.host ≡ None
    -- Nothing is known of a later view or of a position above the window.
    pub slots : (v p : ℕ) (k : KnownSlot) → slot_in self d v p ≡ Some k → (v ≤ view_of self d) × IsReached d p
    pub votes : (h v p : ℕ) (x : Vote) → vote_of self d h v p ≡ Some x → (v ≤ view_of self d) × IsReached d p
    pub checkpoints : (h p : ℕ) (m : Checkpoint) → checkpoint_of d h p ≡ Some m → IsReached d p
    pub executed : IsReached d (exec_of d)
    -- Parts are kept of executed positions alone, and none were fetched for a position above the stable one.
    pub snapshots : (p : ℕ) (parts : List Bytes) → parts_after self d p ≡ Some parts → p ≤ exec_of d
    pub parts : (p i : ℕ) → low_of self d < p → part_of self d p i ≡ None
    -- A request waits under its client, and the log begins within what was stamped.
    pub requests : (c : ℕ) (r : Request) → pending self d c ≡ Some r → r.client ≡ c
    pub log : log_start self d ≤ counter_of d

  -- Within a batch: it is enabled to execute at this position, and these requests of it are left to serve.
  pub record IsServing (p : ℕ) (b : Batch) (more : List Request) (d : History) : Type 0 where
    pub sound : IsSound d
    pub enabled : execute_enabled self d ≡ Some (Execute p b)
    pub place : p ≡ exec_of d + 1
    pub requests : map (λ x. x.request) (just_served d) ++ more ≡ b.requests
