-- The messages that a host makes of its tables are those that its history has it make.
use Rattle.std.proofs.Common.{◌≡◌, ◌∙◌, ℕ, Option, None, refl, List, length}
use Rattle.std.specs.Prelude.{nat_le, if◌then◌else◌}
use Rattle.mb_parts.specs.declared.certificates.Evidence.{Evidence}
use Rattle.mb_parts.specs.declared.certificates.FloorCert.{FloorCert}
use Rattle.mb_parts.specs.declared.certificates.StableCert.{StableCert}
use Rattle.mb_msg.specs.declared.message.Message.TheVariants as message
use Rattle.mb_msg.specs.declared.stamped.Stamped.{Stamped as StampedMessage}
use Rattle.mb_msg.specs.declared.transfer.Resend.{Resend}
use Rattle.mb_model.specs.Histories.{History, Identity, view_of}
use Rattle.mb_model.specs.Held.{evidence_in, evidence_of}
use Rattle.mb_model.specs.OwnLog.{own_log, since, log_start}
use Rattle.mb_model.specs.Stable.{stable_of, log_floor}
use Rattle.mb_model.specs.Making.{expected, log_for}
use Rattle.mb_log.specs.Logs as log
use Rattle.mb_log.proofs.Histories.{answers}
use Rattle.mb_refinement.proofs.OwnLogs.{since_given}
use Rattle.mb_replica.specs.declared.state.ReplicaState.{ReplicaState}
use Rattle.mb_replica.specs.Represents.{Represents}

module _ {V : Type 0} (me : Identity V) (r : ReplicaState V) (d : History) (rep : Represents me r d) where
  -- what the asking host has not taken yet
  pub log_made : (m : Resend) (from host : ℕ) (floor : Option FloorCert) (stable : StableCert) (evidence : Option Evidence) (entries : List StampedMessage) → from ≡ expected me m → host ≡ me.host
      → floor ≡ (if nat_le from (log_start me d) then log_floor me d else None) → stable ≡ r.protocol.stable → evidence ≡ evidence_in (view_of me d) (evidence_of me d) → entries ≡ log.given_from r.protocol.log from
      → message.Log (record { host = host; floor = floor; stable = stable; evidence = evidence; entries = entries }) ≡ log_for me d m
  log_made m from host floor stable evidence entries is same floor_is stable_is evidence_is entries_are =
      let shown : entries ≡ since me d from = entries_are ∙ since_given me r.protocol.log d rep.tables.log from in
      let certified : stable ≡ stable_of me d = stable_is ∙ rep.tables.stable in
      rw (same, floor_is, certified, evidence_is, shown, is) refl

  pub log_length : length r.protocol.log.entries ≡ length (own_log me d)
  log_length = let l = rep.tables.log in (answers me r.protocol.log d (record { shape_is = l.shape; host_is = l.host; stands = l.represents })).len_is
