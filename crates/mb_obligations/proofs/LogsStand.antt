-- A LOG that checks is taken: it stands in the history behind the step.
use Rattle.std.proofs.Common.{◌≡◌, ℕ, true, [], ◌∷◌, refl, sym, ap, subst, arith, Option, Some, None}
use Rattle.std.specs.Prelude.{Contains, Result, is_some}
use Rattle.std.proofs.lemmas.Bool.{ne_eqb}
use Rattle.std.proofs.lemmas.List.Elements.{Contains-append_right}
use Rattle.mb_parts.specs.declared.certificates.FloorCert.{FloorCert}
use Rattle.mb_parts.specs.declared.certificates.Evidence.{Evidence}
use Rattle.mb_msg.specs.declared.message.Message.{Message}
use Rattle.mb_msg.specs.declared.message.Message.TheVariants as message
use Rattle.mb_msg.specs.declared.transfer.Log.{Log}
use Rattle.mb_model.specs.Histories.{Entry, Accepted, History, Identity}
use Rattle.mb_model.specs.Sending.{Progress, begin, write}
use Rattle.mb_model.specs.PlainChecks.{is_certified_floor, is_certified_evidence, log_refusal}
use Rattle.mb_model.specs.Given.{give_log, jump, floor_shown}
use Rattle.mb_model.specs.HostStep.{on_bytes, transition}
use Rattle.mb_promise.specs.TakesLogs.{IsValidLog, LogsStand}
use Rattle.mb_one_log.proofs.Walks.{IsWalked, each_entry, entries_keep, finished_keeps}

module _ {S : Type 0} (self : Identity S) where
  floor_holds : (m : Log) (o : Option FloorCert) → m.floor ≡ o → IsValidLog self m → is_certified_floor self m.host o ≡ true
  floor_holds m None e v = refl
  floor_holds m (Some c) e v = let f = v.floor c e in ap is_some f.1

  evidence_holds : (m : Log) (o : Option Evidence) → m.evidence ≡ o → IsValidLog self m → is_certified_evidence self o ≡ true
  evidence_holds m None e v = refl
  evidence_holds m (Some x) e v = v.evidence x e

  pub log_passed : (m : Log) → IsValidLog self m → log_refusal self m ≡ None
  unfolding log_refusal
  log_passed m v =
      let floor : is_certified_floor self m.host m.floor ≡ true = floor_holds m m.floor refl v in
      let evidence : is_certified_evidence self m.evidence ≡ true = evidence_holds m m.evidence refl v in
      rw (floor, v.stable, evidence, ne_eqb m.host self.host v.other) refl

  module _ (e : Entry) where
    abbrev pub HasEntry : Progress → Type 0
    HasEntry x = Contains x.history e

    more : (f : Entry) (d : History) → Contains d e → Contains (f ∷ d) e
    more f d s = Contains-append_right (f ∷ []) d e s

    pub entry_walked : IsWalked self HasEntry
    entry_walked = each_entry self (λ (d : History). Contains d e) more

  log_there : (m : Log) (d : History) → IsValidLog self m → Contains (give_log self m (begin d)).left.history (Accepted (message.Log m))
  unfolding give_log
  log_there m d v =
      let x : Progress = write (Accepted (message.Log m)) (jump self m.host (floor_shown self m.host m.floor) (begin d)) in
      rw (log_passed m v) (entries_keep self (HasEntry (Accepted (message.Log m))) (entry_walked (Accepted (message.Log m))) m.entries x (0, omega arith, refl))

  pub keeps_logs : (d : History) → LogsStand self d
  unfolding transition
  keeps_logs d bytes m reads v =
      let e : Entry = Accepted (message.Log m) in
      subst (λ (r : Result Message ℕ). Contains (on_bytes self r d).left.history e) (sym reads)
      (finished_keeps self (HasEntry e) (entry_walked e) _ _ d (give_log self m (begin d)) (log_there m d v))
