-- What fetched parts and kept snapshots are to a host's history, and what they answer for it.
use Rattle.std.specs.Prelude.{ℕ, ◌≡◌, ◌+◌, ◌<◌, ◌≤◌, not, List, length, Some, None}
use Rattle.std.specs.Bool.{then_some}
use Rattle.std.specs.List.{range_with_len, list_all}
use Rattle.std.specs.Option.{option_or, is_some}
use Rattle.mb_base.specs.Limits.{part_count, snapshot_limit}
use Rattle.mb_base.specs.Shapes.{Bytes, span}
use Rattle.mb_msg.specs.declared.event.Outcome.TheVariants as outcome
use Rattle.mb_msg.specs.declared.transfer.StateMsg.{StateMsg}
use Rattle.mb_model.specs.Histories.{History, Identity}
use Rattle.mb_model.specs.Stable.{low_of, stable_of}
use Rattle.mb_model.specs.Execution.{parts_after, snapshot_of, part_held, parts_held, missing}
use Rattle.mb_model.specs.PlainChecks.{wrong_part, wrong_digest, is_list_right, are_all_held}
use Rattle.mb_fetch.specs.Fetched.{Fetched, part_at}
use Rattle.mb_fetch.specs.Checks.{first_wrong}
use Rattle.mb_fetch.specs.Parts.{Represents, first_missing, all_found}
use Rattle.mb_fetch.specs.Snapshots.{Snapshot, parts_at}
use Rattle.mb_fetch.specs.Snapshots as snapshots

module _ {S : Type 0} (self : Identity S) where
  -- They are those of the state at the stable position, under the state digest that its certificate has.
  abbrev pub RepresentsParts : Fetched → History → Type 0
  RepresentsParts t d = Represents t (low_of self d) (stable_of self d).state (part_held self d)

  -- They are those of the executed multiples of the interval, from the stable position on.
  abbrev pub RepresentsSnapshots : List Snapshot → History → Type 0
  RepresentsSnapshots shelf d = snapshots.Represents shelf (snapshot_of self d)

  pub record PartsAnswerFor (t : Fetched) (d : History) : Type 0 where
    pub missing_is : first_missing (part_at t) ≡ missing self d
    pub found_are : all_found (part_at t) ≡ parts_held self d
    -- whether all parts of a STATE are held, and whether one or the list of digests is wrong
    pub all_held : (m : StateMsg) → are_all_held self d m ≡ list_all (λ i. is_some (part_at t i)) (range_with_len m.first (length m.parts))
    pub refused : (m : StateMsg) → wrong_digest (first_wrong t.digest m) ≡ option_or (then_some (not (is_list_right self d m)) (outcome.WrongDigest part_count)) (wrong_digest (wrong_part m.digests m.first m.parts))

  -- Where nothing is executed yet at a position of the window or above, its snapshot can be kept.
  pub record SnapshotsAnswerFor (shelf : List Snapshot) (d : History) : Type 0 where
    pub above : (pos : ℕ) → ((p : ℕ) (x : List Bytes) → parts_after self d p ≡ Some x → p < pos) → (p : ℕ) → pos ≤ p → parts_at shelf p ≡ None
    pub room : (pos : ℕ) → pos ≤ low_of self d + span self.shape → ((p : ℕ) (x : List Bytes) → parts_after self d p ≡ Some x → p < pos) → length shelf < snapshot_limit

-- in the history of every host, whatever its service is
pub record TablesAnswer (S : Type 0) : Type 0 where
  pub parts : (self : Identity S) (t : Fetched) (d : History) → RepresentsParts self t d → PartsAnswerFor self t d
  pub snapshots : (self : Identity S) (shelf : List Snapshot) (d : History) → RepresentsSnapshots self shelf d → SnapshotsAnswerFor self shelf d
