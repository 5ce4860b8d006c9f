-- A text is that of one schedule.
use Rattle.std.proofs.Common.{◌≡◌, ℕ, List, Bool, Result, Ok, ap, ◌∙◌}
use Rattle.mb_answer.proofs.SameShapes.{same_shape}
use Rattle.mb_base.specs.Shapes.{Bytes}
use Rattle.mb_base.specs.declared.shape.Shape.{Shape}
use Rattle.mb_schedule.specs.declared.schedule.Schedule.{Schedule}
use Rattle.mb_schedule.specs.declared.schedule.WorldEvent.{WorldEvent}
use Rattle.mb_sched.specs.Schedules.{Contents, contents, schedule_of, IsScheduleText}

abbrev pub schedule : Shape → Bytes → List Bool → List Bool → List WorldEvent → Schedule
schedule shape secret hosts clients events = record { shape = shape; secret = secret; faulty_hosts = hosts; faulty_clients = clients; events = events }

same_contents : (s t : Schedule) → contents s ≡ contents t → s ≡ t
same_contents s t e =
    ap (λ (x : Shape). schedule x s.secret s.faulty_hosts s.faulty_clients s.events) (same_shape s.shape t.shape (ap (λ (c : Contents). c.f) e) (ap (λ (c : Contents). c.k) e) (ap (λ (c : Contents). c.clients) e))
    ∙ ap (λ (x : Bytes). schedule t.shape x s.faulty_hosts s.faulty_clients s.events) (ap (λ (c : Contents). c.secret) e)
    ∙ ap (λ (x : List Bool). schedule t.shape t.secret x s.faulty_clients s.events) (ap (λ (c : Contents). c.faulty_hosts) e)
    ∙ ap (λ (x : List Bool). schedule t.shape t.secret t.faulty_hosts x s.events) (ap (λ (c : Contents). c.faulty_clients) e)
    ∙ ap (λ (x : List WorldEvent). schedule t.shape t.secret t.faulty_hosts t.faulty_clients x) (ap (λ (c : Contents). c.events) e)

same_ok : (x y : Contents) (r : Result Contents ℕ) → r ≡ Ok x → r ≡ Ok y → x ≡ y
same_ok x y r a b = cc

pub same_schedule : (text : Bytes) (s t : Schedule) → IsScheduleText text s → IsScheduleText text t → s ≡ t
same_schedule text s t a b = same_contents s t (same_ok _ _ (schedule_of text) a.1 b.1)
