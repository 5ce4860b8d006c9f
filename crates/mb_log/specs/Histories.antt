-- The own log of a host stands for searches in its history, and answers for them.
use Rattle.std.specs.Prelude.{ℕ, ◌≡◌, true, false, ◌&&◌, not, List, length, nat_lt, count_by}
use Rattle.mb_msg.specs.declared.stamped.Stamped.{Stamped as StampedMessage}
use Rattle.mb_msg.specs.Spelling.{stamped_kind}
use Rattle.mb_parts.specs.declared.certificates.StableCert.{StableCert}
use Rattle.mb_model.specs.Histories.{History, Identity, stamped}
use Rattle.mb_model.specs.Stable.{log_floor, stable_of}
use Rattle.mb_model.specs.OwnLog.{is_normal, is_unspent, own_log, log_longest, log_start, has_room, has_other_room, proof_of as proof_in, since}
use Rattle.mb_log.specs.Logs.{Log, start, has_room_for, proof_of, given_from}
use Rattle.mb_log.specs.Represents.{Represents}

module _ {S : Type 0} (self : Identity S) where
  pub record RepresentsLog (log : Log) (d : History) : Type 0 where
    pub shape_is : log.shape ≡ self.shape
    pub host_is : log.host ≡ self.host
    pub stands : Represents log (log_floor self d) (stamped d) (log_longest self d)

  -- what it answers
  pub record AnswersFor (log : Log) (d : History) : Type 0 where
    pub start_is : start log ≡ log_start self d
    pub len_is : length log.entries ≡ length (own_log self d)
    pub room : (m : StampedMessage) → is_normal m ≡ true → has_room self d ≡ (has_room_for log (stamped_kind m) && is_unspent self d)
    pub other_room : (m : StampedMessage) → is_normal m ≡ false → has_other_room self d ≡ (has_room_for log (stamped_kind m) && is_unspent self d)
    pub shows : (proof_of log (stable_of self d)).entries ≡ (proof_in self d).entries
    pub gives : (from : ℕ) → given_from log from ≡ since self d from

-- in the history of every host, whatever its service is
abbrev pub LogsAnswer : Type 0 → Type 0
LogsAnswer S = (self : Identity S) (log : Log) (d : History) → RepresentsLog self log d → AnswersFor self log d
