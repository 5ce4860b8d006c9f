-- What the tables answer of the searches in a host's history is what the history says.
use Rattle.std.proofs.Common.{◌≡◌, refl}
use Rattle.std.specs.Option.{option_or}
use Rattle.mb_model.specs.Histories.{History, Identity, here}
use Rattle.mb_model.specs.Stable.{low_of}
use Rattle.mb_model.specs.Positions.{exec_of}
use Rattle.mb_model.specs.OwnLog.{has_room}
use Rattle.mb_model.specs.EnabledRules.{commit_enabled, execute_enabled, prepare_enabled, greatest_in_slots, window}
use Rattle.mb_model.specs.EnabledRules as history_rules
use Rattle.mb_checkpoints.proofs.InHistories.{learns, cuts}
use Rattle.mb_normal.specs.Searches.{searches_in, unordered}
use Rattle.mb_normal.specs.Rules.{first_rule}
use Rattle.mb_normal.specs.Histories.{AnswersFor}

module _ {S : Type 0} (self : Identity S) (d : History) where
  -- the requests that aren't ordered
  pub unordered_is : unordered self.shape (searches_in self d) ≡ history_rules.unordered self d
  unfolding history_rules.unordered greatest_in_slots
  unordered_is = refl

  -- the first rule of the normal case
  pub first_is : first_rule self.shape self.host (searches_in self d) (here self d) (exec_of d) (has_room self d) ≡ option_or (commit_enabled self d) (option_or (execute_enabled self d) (prepare_enabled self d))
  unfolding commit_enabled execute_enabled prepare_enabled history_rules.unordered greatest_in_slots
  first_is = refl

  pub answers : AnswersFor self d
  answers = record { rule = first_is; orders = unordered_is; learns = learns self.shape d (low_of self d); cuts = λ owner. cuts self.shape d owner (low_of self d) }
