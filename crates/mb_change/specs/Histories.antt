-- The table of a host stands for the searches in its history: it begins so, each call keeps it so, and its answers are those of the history.
-- What is due of them is the first of the host's rules of view changes.
use Rattle.std.specs.Prelude.{ℕ, ◌≡◌, ◌<◌, [], ◌∷◌, Option, Some, None}
use Rattle.std.specs.Option.{option_or}
use Rattle.mb_base.specs.Shapes.{host_count}
use Rattle.mb_parts.specs.declared.certificates.Evidence.{Evidence}
use Rattle.mb_model.specs.Histories.{Entry, History, Identity, here, view_of}
use Rattle.mb_model.specs.Held.{wish_of, changes_of, opened_by, new_view_of, evidence_of, plan_held, new_view_in_view, plan_of_view, plan_at}
use Rattle.mb_model.specs.Held as held
use Rattle.mb_model.specs.EnabledRules.{Rule, ChangeView, Announce, Enter, Open, Join, change_enabled, announce_enabled, enter_enabled, open_enabled, join_enabled}
use Rattle.mb_model.specs.OwnLog.{has_other_room}
use Rattle.mb_model.specs.Positions.{exec_of}
use Rattle.mb_model.specs.Stable.{low_of}
use Rattle.mb_change.specs.declared.due.ChangeDue.{ChangeDue}
use Rattle.mb_change.specs.declared.due.ChangeDue.TheVariants as due
use Rattle.mb_change.specs.Tables.{Table, empty_table, wish_at, opened_at}
use Rattle.mb_change.specs.Searches.{opened_in}
use Rattle.mb_change.specs.Evidences.{chosen, evidence_for}
use Rattle.mb_change.specs.Represents.{Represents, Answers, searches_of, RepresentsHistory}
use Rattle.mb_change.specs.Written.{written}
use Rattle.mb_change.specs.Rules.{due_with}

-- ---- the table follows the history

-- A table that was just made stands for a history with no entry.
abbrev pub TablesBegin : Type 0 → Type 0
TablesBegin S = (self : Identity S) → RepresentsHistory self (empty_table self.shape self.host) []

-- Once the calls behind an entry are done, the table stands for the history with this entry.
abbrev pub TablesFollow : Type 0 → Type 0
TablesFollow S = (self : Identity S) (t : Table) (e : Entry) (d : History) → t.shape ≡ self.shape → t.host ≡ self.host → Represents t (written self d e (searches_of self d))
    → RepresentsHistory self t (e ∷ d)

-- ---- what is due

module _ {S : Type 0} (self : Identity S) where
  -- A rule is the one that is due, and what it carries is what the table answers for it.
  abbrev pub IsRule : History → ChangeDue → Option Rule → Type 0
  IsRule d due.Nothing None = Unit {0}
  IsRule d (due.ViewChange view) (Some (ChangeView target)) = view ≡ target
  IsRule d due.NewView (Some (Announce changes)) = chosen self.shape (view_of self d) (changes_of self d) ≡ Some changes
  IsRule d due.Enter (Some (Enter n)) = new_view_in_view (view_of self d) (new_view_of self d) ≡ Some n
  IsRule d due.Open (Some (Open e plan)) = (evidence_for self.shape (view_of self d) (searches_of self d) ≡ Some e) × (plan_at self d (view_of self d) ≡ Some plan)
  IsRule d (due.Join base) (Some Join) = base ≡ low_of self d
  IsRule d _ _ = ⊥

  -- the first rule of view changes that is enabled
  abbrev pub first_rule : History → Option Rule
  first_rule d = option_or (change_enabled self d) (option_or (announce_enabled self d) (option_or (enter_enabled self d) (option_or (open_enabled self d) (join_enabled self d))))

abbrev pub RulesAgree : Type 0 → Type 0
RulesAgree S = (self : Identity S) (d : History) → IsRule self d (due_with self.shape self.host (here self d) (searches_of self d) (exec_of d) (low_of self d) (has_other_room self d)) (first_rule self d)

-- ---- what the table answers

module _ {S : Type 0} (self : Identity S) (t : Table) (d : History) where
  pub record AnswersFor : Type 0 where
    pub wishes : (h : ℕ) → h < host_count self.shape → wish_at t h ≡ wish_of self d h
    pub opened : (h : ℕ) → h < host_count self.shape → opened_at t h ≡ opened_in (opened_by d h)
    pub new_view : t.new_view ≡ new_view_of self d
    pub evidence : t.evidence ≡ evidence_of self d
    pub plan : t.plan ≡ plan_held self d
    pub plans : (view : ℕ) → plan_of_view view t.plan ≡ plan_at self d view
    pub chosen_for : (view : ℕ) → chosen t.shape view t.changes ≡ held.chosen self d view
    pub evidence_for_view : (view : ℕ) (e : Option Evidence) → Answers t e (evidence_for t.shape view) → e ≡ held.evidence_for self d view
    pub rule : (x : ChangeDue) → Answers t x (λ s. due_with t.shape t.host (here self d) s (exec_of d) (low_of self d) (has_other_room self d)) → IsRule self d x (first_rule self d)

-- in the history of every host, whatever its service is
abbrev pub TablesAnswer : Type 0 → Type 0
TablesAnswer S = (self : Identity S) (t : Table) (d : History) → RepresentsHistory self t d → AnswersFor self t d
