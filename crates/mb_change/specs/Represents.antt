-- A table stands for the searches of one host: what it holds of each host, and of all, is what the search finds.
use Rattle.std.specs.Prelude.{ℕ, ◌≡◌, ◌<◌}
use Rattle.mb_base.specs.Shapes.{host_count}
use Rattle.mb_model.specs.Histories.{History, Identity}
use Rattle.mb_model.specs.Held.{wish_of, changes_of, enter_of, opened_by, new_view_of, evidence_of, plan_held}
use Rattle.mb_change.specs.Tables.{Table, wish_at, enter_at, opened_at}
use Rattle.mb_change.specs.Searches.{Searches, opened_in}

pub record Represents (t : Table) (s : Searches) : Type 0 where
  pub wish_is : (h : ℕ) → h < host_count t.shape → wish_at t h ≡ s.wish h
  pub changes_are : t.changes ≡ s.changes
  pub enter_is : (h : ℕ) → h < host_count t.shape → enter_at t h ≡ s.enter h
  pub opened_is : (h : ℕ) → h < host_count t.shape → opened_at t h ≡ s.opened h
  pub new_view_is : t.new_view ≡ s.new_view
  pub evidence_is : t.evidence ≡ s.evidence
  pub plan_is : t.plan ≡ s.plan

-- A call leaves a table that stands for other searches.
abbrev pub StandsWith : Table → (Searches → Searches) → Table → Type 0
StandsWith old change new = (s : Searches) → Represents old s → Represents new (change s)

-- the same system, and the same host
pub record SameHost (old new : Table) : Type 0 where
  pub shape_is : new.shape ≡ old.shape
  pub host_is : new.host ≡ old.host

-- What is answered is the same for all searches that the table stands for.
abbrev pub Answers : {A : Type 0} → Table → A → (Searches → A) → Type 0
Answers t answer f = (s : Searches) → Represents t s → answer ≡ f s

-- ---- of a host's history

module _ {S : Type 0} (self : Identity S) where
  abbrev pub searches_of : History → Searches
  searches_of d = record {
    wish = wish_of self d;
    changes = changes_of self d;
    enter = enter_of d;
    opened = λ h. opened_in (opened_by d h);
    new_view = new_view_of self d;
    evidence = evidence_of self d;
    plan = plan_held self d;
  }

  -- It is this host's table, and stands for the searches in its history.
  pub record RepresentsHistory (t : Table) (d : History) : Type 0 where
    pub shape_is : t.shape ≡ self.shape
    pub host_is : t.host ≡ self.host
    pub stands : Represents t (searches_of d)
