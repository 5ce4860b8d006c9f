-- Which rule of the normal case is enabled: those of a host's history, for any searches.
use Rattle.std.specs.Prelude.{◌≡◌, ◌≢◌, [], ℕ, ◌+◌, Bool, false, ◌&&◌, not, nat_lt, nat_le, ◌==◌, Option, Some, None, option_map, is_some}
use Rattle.std.specs.Option.{option_or}
use Rattle.mb_base.specs.Limits.{ahead_limit}
use Rattle.mb_base.specs.declared.shape.Shape.{Shape}
use Rattle.mb_base.specs.Shapes.{span, quorum, primary}
use Rattle.mb_parts.specs.declared.batch.Batch.{Batch}
use Rattle.mb_parts.specs.declared.floor.Floor.{Floor}
use Rattle.mb_parts.specs.Ordered.{phase_is_open}
use Rattle.mb_model.specs.declared.known.KnownSlot.{KnownSlot}
use Rattle.mb_model.specs.Batches.{first_batch}
use Rattle.mb_model.specs.Positions.{slot_vote, position_limit}
use Rattle.mb_model.specs.EnabledRules.{Rule, Commit, Execute, Prepare, rule_where, with_batch}
use Rattle.mb_normal.specs.declared.due.Due.{Due}
use Rattle.mb_normal.specs.declared.due.Due.TheVariants as due
use Rattle.mb_normal.specs.Searches.{Searches, matching, unordered}

module _ (s : Shape) (x : Searches) where
  -- f+1 hosts have the vote for the slot of a position
  abbrev pub has_quorum : ℕ → KnownSlot → Bool
  has_quorum pos k = nat_le (quorum s) (matching s x pos (slot_vote k))

  -- and its batch is there
  abbrev pub is_committed : ℕ → Option KnownSlot → Bool
  is_committed pos None = false
  is_committed pos (Some k) = is_some k.batch && has_quorum pos k

  -- a position of the window above the stable one; the greatest of all ends it too
  abbrev pub in_window : ℕ → Bool
  in_window p = nat_lt x.low p && (nat_le p (x.low + span s) && nat_le p position_limit)

  -- There is a request to order at the position behind this one, which is in the window and not too far ahead of the executed ones; and there is
  -- room for the vote.
  abbrev pub may_prepare : ℕ → Floor → ℕ → Bool → Bool
  may_prepare host at exec room =
      (host == primary s at.view) && (in_window (at.last + 1) && (nat_lt at.last (exec + ahead_limit) && (room && is_some (first_batch (unordered s x)))))

  abbrev pub if_committed : ℕ → Option KnownSlot → Option Rule
  if_committed pos None = None
  if_committed pos (Some k) = rule_where (has_quorum pos k) (option_map (Execute pos) k.batch)

-- where a host stands, which has executed up to a position, and whether its log has room for a vote
module _ (s : Shape) (host : ℕ) (x : Searches) (at : Floor) (exec : ℕ) (room : Bool) where
  abbrev pub leads : Bool
  leads = host == primary s at.view

  -- a backup has the slot of the next position, with its batch
  abbrev pub commit_rule : Option Rule
  commit_rule = rule_where (phase_is_open at.phase && (not leads && room)) (with_batch (Commit (at.last + 1)) (x.slots (at.last + 1)))

  -- f+1 votes are for the slot behind the last executed one
  abbrev pub execute_rule : Option Rule
  execute_rule = rule_where (phase_is_open at.phase && nat_le x.low exec) (if_committed s x (exec + 1) (x.slots (exec + 1)))

  -- the primary has requests to order, at a position of the window that is not too far ahead
  abbrev pub prepare_rule : Option Rule
  prepare_rule = rule_where (phase_is_open at.phase && (leads && (in_window s x (at.last + 1) && (nat_lt at.last (exec + ahead_limit) && room))))
      (option_map (Prepare (at.last + 1)) (first_batch (unordered s x)))

  -- the first of them
  abbrev pub first_rule : Option Rule
  first_rule = option_or commit_rule (option_or execute_rule prepare_rule)

-- What is due is this rule; what it carries is found in the tables.
abbrev pub Names : Due → Option Rule → Type 0
Names due.Nothing r = r ≡ None
Names (due.Commit pos) r = (k : KnownSlot) × (b : Batch) × (r ≡ Some (Commit pos k b))
Names (due.Execute pos) r = (b : Batch) × (r ≡ Some (Execute pos b))
Names due.Prepare r = (pos : ℕ) × (b : Batch) × (r ≡ Some (Prepare pos b))

-- ---- what a rule carries, in the tables

module _ (s : Shape) (host : ℕ) (x : Searches) (at : Floor) (exec : ℕ) (room : Bool) where
  abbrev pub CommitIsLent : Type 0
  CommitIsLent = (pos : ℕ) (k : KnownSlot) (b : Batch) → first_rule s host x at exec room ≡ Some (Commit pos k b) → (pos ≡ at.last + 1) × (x.slots pos ≡ Some k) × (k.batch ≡ Some b)

  abbrev pub ExecuteIsLent : Type 0
  ExecuteIsLent = (pos : ℕ) (b : Batch) → first_rule s host x at exec room ≡ Some (Execute pos b) → (pos ≡ exec + 1) × (k : KnownSlot) × (x.slots pos ≡ Some k) × (k.batch ≡ Some b)

  abbrev pub PrepareIsLent : Type 0
  PrepareIsLent = (pos : ℕ) (b : Batch) → first_rule s host x at exec room ≡ Some (Prepare pos b) → (pos ≡ at.last + 1) × (first_batch (unordered s x) ≡ Some b) × (unordered s x ≢ [])

-- whatever the searches, and wherever the host stands
abbrev pub RulesAreLent : Type 0
RulesAreLent = (s : Shape) (host : ℕ) (x : Searches) (at : Floor) (exec : ℕ) (room : Bool)
    → CommitIsLent s host x at exec room × ExecuteIsLent s host x at exec room × PrepareIsLent s host x at exec room
