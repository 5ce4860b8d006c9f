-- What a correct host sends of an event that nothing stops is not forged: in each world to which events lead that nothing stopped, whatever they are.
use Rattle.std.proofs.Common.{◌≡◌, ℕ, suc, subst, ◌∙◌, Some, None}
use Rattle.mb_msg.specs.declared.event.Event.{Event}
use Rattle.mb_msg.specs.declared.message.Message.{Message}
use Rattle.mb_msg.specs.Spelling.{spelling}
use Rattle.mb_model.specs.HostStep.{transition}
use Rattle.mb_model.specs.Sending.{Letter}
use Rattle.mb_model.specs.Members.{In}
use Rattle.mb_model.proofs.Members.{in_contained}
use Rattle.mb_schedule.specs.declared.schedule.Schedule.{Schedule}
use Rattle.mb_schedule.specs.declared.schedule.WorldEvent.{WorldEvent}
use Rattle.mb_world_model.specs.World.{World, System, self_of, read}
use Rattle.mb_world_model.specs.WorldEvents.{IsCorrect}
use Rattle.mb_world_model.specs.WorldSteps.{happens, world}
use Rattle.mb_world_model.specs.EventsStep.{arrival, MakesStep}
use Rattle.mb_world_laws.proofs.StepsMade.{happens_so}
use Rattle.mb_world_model.specs.Stops.{stop_of}
use Rattle.mb_world_model.specs.Forged.{IsUnforged}
use Rattle.mb_world_laws.proofs.Grown.{Grows}
use Rattle.mb_world_laws.proofs.Standings.{before_last, passage}
use Rattle.mb_make.specs.Soaks.{with_events}
use Rattle.mb_unforged.specs.Reached.{IsReached}
use Rattle.mb_unforged.specs.SentUnforged.{SentIsUnforged}
use Rattle.mb_unforged.proofs.Genuine.{IsGenuine, no_claim_forged, no_tag_forged}
use Rattle.mb_unforged.proofs.HostSteps.{letter_genuine}
use Rattle.mb_unforged.proofs.Ready.{IsReady, ready}
use Rattle.mb_unforged.proofs.Reached.{IsNext, next_of, claim_same, tag_same}

module _ {S : Type 0} (system : System S) (w : World) (r : IsReached system w) (e : WorldEvent) (none : stop_of system.schedule w e ≡ None) (h : ℕ) (x : Event) (comes : arrival w e ≡ Some (h, x)) (correct : IsCorrect system.schedule h) where
  n : IsNext system w e
  n = next_of system w r e none

  abbrev y : System S
  y = with_events system n.events

  abbrev s : Schedule
  s = y.schedule

  abbrev v : World
  v = happens system w e

  before : IsReady y w
  before = subst (IsReady y) n.here (ready y n.number (before_last y n.number n.unstopped))

  behind : IsReady y v
  behind = subst (IsReady y) n.next (ready y (suc n.number) n.unstopped)

  grows : Grows s w v
  grows = subst (λ (a : World). Grows s a v) n.here (subst (λ (b : World). Grows s (world y n.number) b) n.next (passage y n.number n.unstopped).grows)

  genuine : (l : Letter) → In (transition (self_of system h) (w.histories h) x).left.sent l → (m : Message) → read system.schedule (spelling l.says) ≡ Some m → IsGenuine s v m
  genuine l i m reads =
      let step : MakesStep system h x w v = happens_so system w e h x comes correct.1 in
      letter_genuine y w v before behind grows h correct x step.history step.tagged l i m reads

  pub sent_unforged : (l : Letter) → In (transition (self_of system h) (w.histories h) x).left.sent l → (m : Message) → read system.schedule (spelling l.says) ≡ Some m → IsUnforged system.schedule v m
  sent_unforged l i m reads =
      let g : IsGenuine s v m = genuine l i m reads in
      record {
        claims = claim_same system system.schedule.events n.events v m ∙ no_claim_forged s v m g;
        tags = tag_same system system.schedule.events n.events v m ∙ no_tag_forged s v m g;
      }

pub sent_is_unforged : (S : Type 0) → SentIsUnforged S
sent_is_unforged S system w r e none h x comes correct l there m reads =
    sent_unforged system w r e none h x comes correct l (in_contained (transition (self_of system h) (w.histories h) x).left.sent l there) m reads
