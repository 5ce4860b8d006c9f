-- A Nudge: the next host is asked for state while this one is behind.
use Rattle.std.proofs.Common.{◌≡◌, ℕ, Bool, ◌∷◌, refl, sym, ap, subst, ◌∙◌}
use Rattle.std.specs.Prelude.{if◌then◌else◌}
use Rattle.mb_model.specs.Execution.{next_host}
use Rattle.mb_model.specs.Given.{answer}
use Rattle.mb_msg.specs.declared.event.Outcome.TheVariants as outcome
use Rattle.mb_model.specs.Histories.{Nudged, History, Identity}
use Rattle.mb_model.specs.HostStep.{on_nudge, wish_again}
use Rattle.mb_model.specs.Making.{resend}
use Rattle.mb_model.specs.Positions.{is_behind}
use Rattle.mb_model.specs.Sending.{Progress, write, send, to_all}
use Rattle.mb_model.specs.Stable.{low_of}
use Rattle.mb_history_laws.proofs.Framing.{low_stays}
use Rattle.mb_refinement.specs.Tables.{Tables}
use Rattle.mb_refinement.proofs.Together.{EachStands, Stays}
use Rattle.mb_refinement.proofs.Values.{asked_nudged}
use Rattle.mb_replica.specs.declared.state.ReplicaState.{ReplicaState}
use Rattle.mb_replica.specs.Represents.{Represents, tables_of}
use Rattle.mb_replica.specs.Between.{IsSame}
use Rattle.mb_replica.proofs.Behind.{left_by, represents_more}
use Rattle.mb_replica.proofs.Learnt.{KeptStands, kept_stay}

module _ {V : Type 0} (me : Identity V) where
  pub nudged : (old new : ReplicaState V) (d : History) → Represents me old d → IsSame old new → (asked : ℕ) → tables_of new ≡ record (tables_of old) { asked = asked }
      → (behind : Bool) → is_behind me d ≡ behind → asked ≡ (if behind then next_host me old.protocol.asked else old.protocol.asked) → Represents me new (Nudged ∷ d)
  nudged old new d rep same asked writes behind tests is =
      let left : Stays me (low_of me d) (tables_of old) Nudged d = left_by me old Nudged d rep tt in
      let kept : KeptStands me old d rep Nudged old.keeper = kept_stay me old d rep Nudged refl refl (low_stays me Nudged d refl) in
      represents_more me old new Nudged d rep same tt tt tt refl
      (subst (λ (t : Tables V). EachStands me t (Nudged ∷ d)) (sym writes) (record {
        counter = left.counter refl;
        gates = left.gates (λ h. refl);
        log = left.log refl;
        normal = left.normal refl;
        change = left.change refl;
        stable = left.stable refl;
        exec = left.exec refl;
        service = left.service refl;
        shelf = kept.shelf;
        parts = kept.parts;
        asked = is ∙ ap (λ (b : Bool). if b then next_host me old.protocol.asked else old.protocol.asked) (sym tests) ∙ asked_nudged me old.protocol.asked d rep.tables.asked;
      }))

  pub nudge_is : (x : Progress) → on_nudge me x ≡ answer outcome.Took (wish_again me (send (to_all (resend me x.history)) (write Nudged x)))
  unfolding on_nudge
  nudge_is x = refl
