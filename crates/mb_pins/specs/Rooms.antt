-- For how much a log has room, from below: what is due is done while there are fewer than six intervals of PREPAREs, COMMITs and CHECKPOINTs, or than 768 others. That
-- there are never more, `Logs` says.
use Rattle.std.specs.Prelude.{◌≡◌, ℕ, ◌+◌, ◌-◌, ◌*◌, ◌^◌, ◌<◌, ◌⊎◌, not, count_by, true, false}
use Rattle.mb_base.specs.Shapes.{interval}
use Rattle.mb_parts.specs.declared.batch.Batch.{Batch}
use Rattle.mb_model.specs.declared.known.KnownSlot.{KnownSlot}
use Rattle.mb_model.specs.Histories.{History, Identity, counter_of, here, view_of, is_open, is_changing, is_primary}
use Rattle.mb_model.specs.OwnLog.{own_log, is_normal}
use Rattle.mb_promise.specs.NothingLeft.{HasSlot, IsWished, IsAnnounced, IsEvident}
use Rattle.mb_world_model.specs.World.{System, self_of}
use Rattle.mb_world_model.specs.WorldSteps.{world}

module _ {S : Type 0} (self : Identity S) (d : History) where
  -- The USIG has a counter left, and the log a place for one more vote or CHECKPOINT.
  pub record HasVotesRoom : Type 0 where
    pub place : count_by is_normal (own_log self d) < 6 * interval self.shape
    pub counter : counter_of d < 2 ^ 64 - 1

  -- So it has for another message.
  pub record HasOthersRoom : Type 0 where
    pub place : count_by (λ m. not (is_normal m)) (own_log self d) < 768
    pub counter : counter_of d < 2 ^ 64 - 1

  -- An open backup doesn't hold the slot of its next position with its batch.
  abbrev pub CommitsWithRoom : Type 0
  CommitsWithRoom = (k : KnownSlot) (b : Batch) → HasVotesRoom → is_open self d ≡ true → is_primary self d ≡ false → HasSlot self d ((here self d).last + 1) k b → ⊥

  -- No host stays below a view that f+1 hosts wish for, or that is announced or evident to it.
  abbrev pub LeavesWithRoom : Type 0
  LeavesWithRoom = (v : ℕ) → HasOthersRoom → view_of self d < v → IsWished self d v ⊎ (IsAnnounced self d v ⊎ IsEvident self d v) → ⊥

  -- A backup that is changing doesn't hold the NEW_VIEW of its view.
  abbrev pub EntersWithRoom : Type 0
  EntersWithRoom = HasOthersRoom → is_primary self d ≡ false → is_changing self d ≡ true → IsAnnounced self d (view_of self d) → ⊥

  pub record ActsWithRoom : Type 0 where
    pub commits : CommitsWithRoom
    pub leaves : LeavesWithRoom
    pub enters : EntersWithRoom

-- So it is of each host after any events, whoever is faulty and whatever is forged.
abbrev pub HostsActWithRoom : Type 0 → Type 0
HostsActWithRoom S = (system : System S) (k h : ℕ) → ActsWithRoom (self_of system h) ((world system k).histories h)
