-- What the checks and the rules of a host read of the tables of the normal case is what its history says.
use Rattle.std.proofs.Common.{◌≡◌, ◌≢◌, ℕ, ◌+◌, ◌&&◌, [], refl, sym, ap, ◌∙◌, subst, Option, Some, None}
use Rattle.std.specs.Prelude.{◌==◌, nat_lt, nat_le, option_and_then}
use Rattle.std.specs.Option.{option_or}
use Rattle.mb_base.specs.declared.shape.Shape.{Shape}
use Rattle.mb_base.specs.Shapes.{span}
use Rattle.mb_parts.specs.declared.batch.Batch.{Batch}
use Rattle.mb_parts.specs.declared.certificates.StableCert.{StableCert}
use Rattle.mb_parts.specs.declared.certificates.FloorCert.{FloorCert}
use Rattle.mb_model.specs.declared.known.Vote.{Vote}
use Rattle.mb_model.specs.declared.known.KnownSlot.{KnownSlot}
use Rattle.mb_model.specs.Histories.{History, Identity, here, view_of}
use Rattle.mb_model.specs.Stable.{low_of, checkpoint_of}
use Rattle.mb_model.specs.Stable as history
use Rattle.mb_model.specs.Batches.{first_batch}
use Rattle.mb_model.specs.OwnLog.{has_room}
use Rattle.mb_model.specs.Positions.{position_limit, exec_of, in_window, counts_at, slot_at, matching}
use Rattle.mb_model.specs.EnabledRules.{Rule, Commit, Execute, Prepare, rule_where, with_batch, if_committed, is_committed, change_enabled, announce_enabled, enter_enabled, open_enabled, join_enabled, commit_enabled, execute_enabled, prepare_enabled, next_rule, next_position, may_order}
use Rattle.mb_model.specs.EnabledRules as history_rules
use Rattle.mb_model.proofs.Options.{if_some, map_some}
use Rattle.mb_checkpoints.specs.Kept.{low_of as kept_low}
use Rattle.mb_checkpoints.proofs.InHistories.{learns, cuts}
use Rattle.mb_change.specs.Histories.{first_rule as first_of_changes}
use Rattle.mb_normal.specs.declared.due.Due.{Due}
use Rattle.mb_normal.specs.declared.normal.Normal.{Normal}
use Rattle.mb_normal.specs.Searches.{Searches, searches_in, unordered}
use Rattle.mb_normal.specs.Searches as tables
use Rattle.mb_normal.specs.Tables.{Represents, batch_of}
use Rattle.mb_normal.specs.Rules.{first_rule, Names}
use Rattle.mb_normal.specs.Rules as normal_rules
use Rattle.mb_normal.proofs.InHistories.{first_is, unordered_is}
use Rattle.mb_refinement.specs.Positions.{AnswersStable, AnswersFloor}
use Rattle.mb_refinement.specs.Stands.{NormalStands}

module _ {A : Type 0} where
  or_assoc : (a b c : Option A) → option_or (option_or a b) c ≡ option_or a (option_or b c)
  or_assoc None b c = refl
  or_assoc (Some x) b c = refl

  -- the first of three
  first_of : (a b : Option A) (x : A) → option_or a b ≡ Some x → a ≡ None → b ≡ Some x
  first_of a b x e none = sym (ap (λ o. option_or o b) none) ∙ e

module _ {S : Type 0} (self : Identity S) (d : History) where
  -- ---- the window

  pub window_is : (p : ℕ) → normal_rules.in_window self.shape (searches_in self d) p ≡ in_window self d p
  window_is p = refl

  -- what the host computes of its view and its stable position
  pub counts_is : (view low : ℕ) (v p : ℕ) → view ≡ view_of self d → low ≡ low_of self d → (view == v && (nat_lt low p && (nat_le p (low + span self.shape) && nat_le p position_limit))) ≡ counts_at self d v p
  counts_is view low v p same_view same_low = rw (same_view, same_low) refl

  pub matching_is : (p : ℕ) (x : Vote) → tables.matching self.shape (searches_in self d) p x ≡ matching self d p x
  matching_is p x = refl

  -- ---- certificates

  -- that which kept CHECKPOINTs make
  pub agreed_is : (t : Normal) (c : Option StableCert) → NormalStands self t d → AnswersStable t c → c ≡ history.agreed_above self.shape d (low_of self d)
  agreed_is t c st answers = answers self.shape self.host (searches_in self d) st ∙ learns self.shape d (low_of self d)

  -- that with which the own log is cut
  pub floor_is : (t : Normal) (c : Option FloorCert) → NormalStands self t d → AnswersFloor t self.host c
      → c ≡ history.floor_from self.shape d self.host (low_of self d)
  floor_is t c st answers = answers self.shape self.host (searches_in self d) st ∙ cuts self.shape d self.host (low_of self d)

  -- the stable position of the tables
  pub low_is : (t : Normal) → NormalStands self t d → kept_low t.checkpoints ≡ low_of self d
  low_is t st = st.checkpoints.low_is

  -- ---- rules

  -- each rule of the tables is that of the history
  pub commit_rule_is : normal_rules.commit_rule self.shape self.host (searches_in self d) (here self d) (exec_of d) (has_room self d) ≡ commit_enabled self d
  unfolding commit_enabled
  commit_rule_is = refl

  pub execute_rule_is : normal_rules.execute_rule self.shape self.host (searches_in self d) (here self d) (exec_of d) (has_room self d) ≡ execute_enabled self d
  unfolding execute_enabled
  execute_rule_is = refl

  pub prepare_rule_is : normal_rules.prepare_rule self.shape self.host (searches_in self d) (here self d) (exec_of d) (has_room self d) ≡ prepare_enabled self d
  unfolding prepare_enabled history_rules.unordered history_rules.greatest_in_slots
  prepare_rule_is = refl

  -- the first rule of the normal case
  abbrev pub normal_rule : Option Rule
  normal_rule = option_or (commit_enabled self d) (option_or (execute_enabled self d) (prepare_enabled self d))

  -- The next rule is the first of view changes, or else the first of the normal case.
  pub next_is : next_rule self d ≡ option_or (first_of_changes self d) normal_rule
  unfolding next_rule
  next_is = sym (or_assoc (change_enabled self d) _ normal_rule ∙ ap (option_or (change_enabled self d)) (or_assoc (announce_enabled self d) _ normal_rule
      ∙ ap (option_or (announce_enabled self d)) (or_assoc (enter_enabled self d) _ normal_rule ∙ ap (option_or (enter_enabled self d)) (or_assoc (open_enabled self d) (join_enabled self d) normal_rule))))

  -- What the tables name as due is that rule.
  pub named : (t : Normal) (x : Due) → NormalStands self t d → ((s : Shape) (host : ℕ) (y : Searches) → Represents s host t y → y.low ≡ low_of self d → Names x (first_rule s host y (here self d) (exec_of d) (has_room self d)))
      → Names x normal_rule
  named t x st answers = subst (Names x) (first_is self d) (answers self.shape self.host (searches_in self d) st refl)

  -- ---- what a rule carries

  abbrev place_of : Rule → ℕ
  place_of (Commit p k b) = p
  place_of (Execute p b) = p
  place_of (Prepare p b) = p
  place_of r = 0

  abbrev batch_in : Rule → Option Batch
  batch_in (Commit p k b) = Some b
  batch_in (Execute p b) = Some b
  batch_in (Prepare p b) = Some b
  batch_in r = None

  abbrev slot_in_rule : Rule → Option KnownSlot
  slot_in_rule (Commit p k b) = Some k
  slot_in_rule r = None

  -- what each of the rules makes
  abbrev IsCommit : Rule → Type 0
  IsCommit (Commit p k b) = Unit {0}
  IsCommit r = ⊥

  abbrev IsExecute : Rule → Type 0
  IsExecute (Execute p b) = Unit {0}
  IsExecute r = ⊥

  abbrev IsPrepare : Rule → Type 0
  IsPrepare (Prepare p b) = Unit {0}
  IsPrepare r = ⊥

  commits : (r : Rule) → commit_enabled self d ≡ Some r → IsCommit r
  unfolding commit_enabled
  commits r e = of_slot (slot_at self d (next_position self d)) (if_some _ _ r e).1 where
    of_slot : (o : Option KnownSlot) → with_batch (Commit (next_position self d)) o ≡ Some r → IsCommit r
    of_slot None e = absurd cc
    of_slot (Some k) e = let found = map_some (Commit (next_position self d) k) k.batch r e in subst IsCommit found.2 tt

  executes : (r : Rule) → execute_enabled self d ≡ Some r → IsExecute r
  unfolding execute_enabled
  executes r e = of_slot (slot_at self d (exec_of d + 1)) (if_some _ _ r e).1 where
    of_slot : (o : Option KnownSlot) → if_committed self d (exec_of d + 1) o ≡ Some r → IsExecute r
    of_slot None e = absurd cc
    of_slot (Some k) e = let found = map_some (Execute (exec_of d + 1)) k.batch r (if_some (is_committed self d (exec_of d + 1) k) _ r e).1 in subst IsExecute found.2 tt

  prepares : (r : Rule) → prepare_enabled self d ≡ Some r → IsPrepare r
  unfolding prepare_enabled
  prepares r e = let found = map_some (Prepare (next_position self d)) (first_batch (history_rules.unordered self d)) r (if_some (may_order self d) _ r e).1 in subst IsPrepare found.2 tt

  -- the first of the three rules that is enabled
  data IsFirst (r : Rule) : Type 0 where
    commit_first : commit_enabled self d ≡ Some r → IsFirst r
    execute_first : execute_enabled self d ≡ Some r → IsFirst r
    prepare_first : prepare_enabled self d ≡ Some r → IsFirst r

  which : (r : Rule) → normal_rule ≡ Some r → IsFirst r
  which r e = go (commit_enabled self d) (execute_enabled self d) refl refl e where
    go : (c x : Option Rule) → commit_enabled self d ≡ c → execute_enabled self d ≡ x → option_or c (option_or x (prepare_enabled self d)) ≡ Some r → IsFirst r
    go (Some a) x ec ex e = commit_first (ec ∙ e)
    go None (Some a) ec ex e = execute_first (ex ∙ e)
    go None None ec ex e = prepare_first e

  -- the COMMIT of a slot: it is that of the next position
  pub record CommitIs (p : ℕ) (k : KnownSlot) (b : Batch) : Type 0 where
    pub enabled : commit_enabled self d ≡ Some (Commit p k b)
    pub place : p ≡ next_position self d
    pub slot : slot_at self d p ≡ Some k
    pub batch : k.batch ≡ Some b

  pub commit_is : (p : ℕ) (k : KnownSlot) (b : Batch) → normal_rule ≡ Some (Commit p k b) → CommitIs p k b
  unfolding commit_enabled
  commit_is p k b e = elim (which (Commit p k b) e) [
    | execute_first x ↦ absurd (executes (Commit p k b) x)
    | prepare_first x ↦ absurd (prepares (Commit p k b) x)
    | commit_first x ↦ of_slot x (slot_at self d (next_position self d)) refl (if_some _ _ (Commit p k b) x).1
  ] where
    of_slot : commit_enabled self d ≡ Some (Commit p k b) → (o : Option KnownSlot) → slot_at self d (next_position self d) ≡ o → with_batch (Commit (next_position self d)) o ≡ Some (Commit p k b) → CommitIs p k b
    of_slot on None is e = absurd cc
    of_slot on (Some j) is e =
        let found = map_some (Commit (next_position self d) j) j.batch (Commit p k b) e in
        let place : next_position self d ≡ p = ap place_of found.2 in
        let same : Some j ≡ Some k = ap slot_in_rule found.2 in
        let batch : Some found.0 ≡ Some b = ap batch_in found.2 in
        record {
          enabled = on;
          place = sym place;
          slot = ap (slot_at self d) (sym place) ∙ is ∙ same;
          batch = ap (option_and_then (λ (y : KnownSlot). y.batch)) (sym same) ∙ found.1 ∙ batch;
        }

  -- the batch that is executed: that of the slot behind the last executed position
  pub record ExecuteIs (p : ℕ) (b : Batch) : Type 0 where
    pub enabled : execute_enabled self d ≡ Some (Execute p b)
    pub place : p ≡ exec_of d + 1
    pub batch : batch_of (slot_at self d p) ≡ Some b

  pub execute_is : (p : ℕ) (b : Batch) → normal_rule ≡ Some (Execute p b) → ExecuteIs p b
  unfolding execute_enabled
  execute_is p b e = elim (which (Execute p b) e) [
    | commit_first x ↦ absurd (commits (Execute p b) x)
    | prepare_first x ↦ absurd (prepares (Execute p b) x)
    | execute_first x ↦ of_slot x (slot_at self d (exec_of d + 1)) refl (if_some _ _ (Execute p b) x).1
  ] where
    of_slot : execute_enabled self d ≡ Some (Execute p b) → (o : Option KnownSlot) → slot_at self d (exec_of d + 1) ≡ o → if_committed self d (exec_of d + 1) o ≡ Some (Execute p b) → ExecuteIs p b
    of_slot on None is e = absurd cc
    of_slot on (Some k) is e =
        let found = map_some (Execute (exec_of d + 1)) k.batch (Execute p b) (if_some (is_committed self d (exec_of d + 1) k) _ (Execute p b) e).1 in
        let place : exec_of d + 1 ≡ p = ap place_of found.2 in
        let batch : Some found.0 ≡ Some b = ap batch_in found.2 in
        record {
          enabled = on;
          place = sym place;
          batch = ap (λ q. batch_of (slot_at self d q)) (sym place) ∙ ap batch_of is ∙ found.1 ∙ batch;
        }

  -- the batch that the primary orders: the first of the requests that aren't ordered, at the next position
  pub record PrepareIs (p : ℕ) (b : Batch) : Type 0 where
    pub enabled : prepare_enabled self d ≡ Some (Prepare p b)
    pub place : p ≡ next_position self d
    pub some : unordered self.shape (searches_in self d) ≢ []
    pub batch : first_batch (unordered self.shape (searches_in self d)) ≡ Some b

  pub prepare_is : (p : ℕ) (b : Batch) → normal_rule ≡ Some (Prepare p b) → PrepareIs p b
  unfolding prepare_enabled
  prepare_is p b e = elim (which (Prepare p b) e) [
    | commit_first x ↦ absurd (commits (Prepare p b) x)
    | execute_first x ↦ absurd (executes (Prepare p b) x)
    | prepare_first x ↦
        let found = map_some (Prepare (next_position self d)) (first_batch (history_rules.unordered self d)) (Prepare p b) (if_some (may_order self d) _ (Prepare p b) x).1 in
        let first : first_batch (unordered self.shape (searches_in self d)) ≡ Some b = ap first_batch (unordered_is self d) ∙ found.1 ∙ ap batch_in found.2 in
        record { enabled = x; place = sym (ap place_of found.2); some = λ none. let no : None ≡ Some b = ap first_batch (sym none) ∙ first in absurd cc; batch = first }
  ]
