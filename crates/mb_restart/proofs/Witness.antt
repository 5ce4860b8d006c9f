-- Runs with a crash between them, in a world: the premises of what is promised of runs can be met together.
use Rattle.std.proofs.Common.{◌≡◌, inr, ℕ, Bool, List, [], ◌∷◌, ◌++◌, length, Some, None, refl, ap, ◌∙◌, append-nil, arith}
use Rattle.std.specs.Prelude.{slice_get, option_and_then, if◌then◌else◌}
use Rattle.std.proofs.lemmas.Bool.{eq-eqb}
use Rattle.mb_base.specs.Shapes.{Bytes}
use Rattle.mb_msg.specs.declared.event.Event.{Event}
use Rattle.mb_msg.specs.declared.event.Event.TheVariants as event
use Rattle.mb_model.specs.Histories.{Identity}
use Rattle.mb_schedule.specs.declared.schedule.WorldEvent.{WorldEvent}
use Rattle.mb_schedule.specs.declared.schedule.WorldEvent.TheVariants as happens
use Rattle.mb_world_model.specs.World.{System, self_of}
use Rattle.mb_world_model.specs.WorldSteps.{world}
use Rattle.mb_world_model.specs.EventsStep.{arrival}
use Rattle.mb_journal.specs.Files.{record_text, entries, Holds}
use Rattle.mb_journal.specs.Keeping.{IsWhole}
use Rattle.mb_journal.proofs.Reading.{shut_holds, whole_closed}
use Rattle.mb_restart.specs.Runs.{sent_behind, Run, AreRuns}
use Rattle.mb_restart.specs.Restarts.{with_arrival, came, RunsAreMet}

abbrev nudge : List Event
nudge = event.Nudge ∷ []

module _ {S : Type 0} (self : Identity S) (header : Bytes) where
  abbrev empty : Bytes
  empty = (header ++ entries []) ++ 0 ∷ []

  -- A nudge was acknowledged, and a loss of patience was being appended: its record stands whole behind a gate that a crash left at 7.
  abbrev cut_off : Bytes
  cut_off = (header ++ entries nudge) ++ 7 ∷ (record_text event.Patience ++ 0 ∷ [])

  abbrev begins : Run
  begins = record { kept = []; acknowledged = nudge; begun = Some event.Patience; sent = sent_behind self [] nudge; left = cut_off }

  -- The next run opened the file without it.
  abbrev goes_on : Run
  goes_on = record { kept = nudge; acknowledged = []; begun = None; sent = []; left = (header ++ entries nudge) ++ 0 ∷ [] }

  stands_whole : IsWhole header nudge event.Patience cut_off
  stands_whole = record { gate = 7; tail = []; file_is = refl }

  one_kept : Holds header nudge cut_off
  one_kept = record {
    gate = length (header ++ entries nudge);
    says = whole_closed header nudge event.Patience cut_off (tt, tt) (record { gate = 7; tail = []; file_is = refl }) (λ one. absurd (omega (arith, one)));
  }

  both_run : AreRuns self header empty (goes_on ∷ begins ∷ [])
  unfolding sent_behind
  both_run = (
    record { file = cut_off; keeps = λ events one fit fits cut. cut; says = one_kept },
    record { unsent = []; sends = refl; leaves = ((tt, tt), record { tail = []; file_is = refl }) },
    (
      record { file = empty; keeps = λ events one fit fits cut. cut; says = shut_holds header [] empty tt (record { tail = []; file_is = refl }) },
      record { unsent = []; sends = append-nil (sent_behind self [] nudge); leaves = record { fit = (tt, tt); fits = tt; cut = inr stands_whole } },
      (tt, record { tail = []; file_is = refl }),
    ),
  )

came_so : {S : Type 0} (system : System S) (h : ℕ) → system.schedule.events ≡ happens.Nudge h ∷ [] → came system h 1 ≡ nudge
unfolding came
came_so system h is =
    ap (λ (l : List WorldEvent). with_arrival h (option_and_then (arrival (world system 0)) (slice_get l 0)) []) is
    ∙ ap (λ (t : Bool). if t then nudge else []) (eq-eqb h h refl)

pub runs_are_met : (S : Type 0) → RunsAreMet S
runs_are_met S system h header once =
    let me = self_of system h in
    record {
      made = empty me header;
      first = begins me header;
      second = goes_on me header;
      are = both_run me header;
      some = λ none. absurd cc;
      lost = (event.Patience, refl, refl);
      come = came_so system h once;
    }
