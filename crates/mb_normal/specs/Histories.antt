-- The tables of the normal case represent a host's history, and answer as it does.
use Rattle.std.specs.Prelude.{ℕ, ◌≡◌}
use Rattle.std.specs.Option.{option_or}
use Rattle.mb_model.specs.Histories.{History, Identity, here}
use Rattle.mb_model.specs.Stable.{low_of, agreed_above, floor_from}
use Rattle.mb_model.specs.Positions.{exec_of}
use Rattle.mb_model.specs.OwnLog.{has_room}
use Rattle.mb_model.specs.EnabledRules.{commit_enabled, execute_enabled, prepare_enabled, unordered}
use Rattle.mb_checkpoints.specs.Certificates as kept
use Rattle.mb_normal.specs.declared.normal.Normal.{Normal}
use Rattle.mb_normal.specs.Searches as tables
use Rattle.mb_normal.specs.Rules.{first_rule}
use Rattle.mb_normal.specs.Tables.{Represents}

module _ {S : Type 0} (self : Identity S) where
  -- Each table answers its search in the history.
  abbrev pub RepresentsHistory : Normal → History → Type 0
  RepresentsHistory t d = Represents self.shape self.host t (tables.searches_in self d)

  -- what they answer of it
  pub record AnswersFor (d : History) : Type 0 where
    pub rule : first_rule self.shape self.host (tables.searches_in self d) (here self d) (exec_of d) (has_room self d) ≡ option_or (commit_enabled self d) (option_or (execute_enabled self d) (prepare_enabled self d))
    pub orders : tables.unordered self.shape (tables.searches_in self d) ≡ unordered self d
    pub learns : kept.agreed_above self.shape (tables.searches_in self d).checkpoints (low_of self d) ≡ agreed_above self.shape d (low_of self d)
    pub cuts : (owner : ℕ) → kept.floor_from self.shape (tables.searches_in self d).checkpoints owner (low_of self d) ≡ floor_from self.shape d owner (low_of self d)

-- in the history of every host, whatever its service is
abbrev pub NormalAnswers : Type 0 → Type 0
NormalAnswers S = (self : Identity S) (d : History) → AnswersFor self d
