-- The schedule of the run.
use Rattle.std.proofs.Common.{◌≡◌, ◌≤◌, ℕ, Bool, true, false, List, [], ◌∷◌, length, map, refl, subst, arith, Some}
use Rattle.std.specs.Prelude.{slice_get, replicate, ◌&&◌, nat_lt, nat_le}
use Rattle.std.proofs.lemmas.Bool.{and_parts, ltb-true, leb-true}
use Rattle.std.proofs.lemmas.List.Sums.{AllPass-from_list_all}
use Rattle.std.proofs.lemmas.Option.{slice_get_within, get_or_from_slice_get}
use Rattle.mb_base.specs.Limits.{text_limit}
use Rattle.mb_base.specs.declared.shape.Shape.{Shape}
use Rattle.mb_schedule.specs.declared.schedule.WorldEvent.{WorldEvent}
use Rattle.mb_schedule.specs.declared.schedule.WorldEvent.TheVariants.{Ask, Give}
use Rattle.mb_schedule.specs.declared.schedule.Schedule.{Schedule}
use Rattle.mb_schedule.specs.Limits.{EventFits, IsSchedule}
use Rattle.mb_examples_course.proofs.Messages.{put}
use Rattle.mb_examples_course.proofs.Deeds.{Deed, Asks, Gives, deeds}

abbrev pub events : List WorldEvent
events =
    Ask 0 (put 1) ∷ Give 1 0 ∷ Give 2 1 ∷ Give 3 0 ∷ Ask 0 (put 2) ∷ Give 6 0 ∷ Give 7 1 ∷ Give 8 0 ∷ Ask 0 (put 3) ∷ Give 11 0 ∷ Give 12 1 ∷ Give 13 0 ∷ Ask 0 (put 4) ∷ Give 16 0 ∷ Give 17 1 ∷ Give 18 0 ∷ Give 22 1 ∷ Give 20 0 ∷ Ask 0 (put 5) ∷ Give 23 0 ∷ Give 24 1 ∷ Give 25 0 ∷ Ask 0 (put 6) ∷ Give 28 0 ∷ Give 29 1 ∷ Give 30 0 ∷ Ask 0 (put 7) ∷ Give 33 0 ∷ Give 34 1 ∷ Give 35 0 ∷ Ask 0 (put 8) ∷ Give 38 0 ∷ Give 39 1 ∷ Give 40 0 ∷ Give 44 1 ∷ Give 42 0 ∷ Ask 0 (put 9) ∷ Give 45 0 ∷ Give 46 1 ∷ []

-- The events are those of the deeds.
abbrev pub event_of : Deed → WorldEvent
event_of (Asks r) = Ask r.client r.op
event_of (Gives g) = Give g.number g.host

pub events_are_of_deeds : events ≡ map event_of deeds
events_are_of_deeds = refl

abbrev pub one_client : Shape
one_client = record { f = 1; k = 4; clients = 1; faults_in = (omega arith, omega arith); interval_in = (omega arith, omega arith); clients_in = (omega arith, omega arith) }

-- All keep to the protocol.
abbrev pub past_checkpoint : Schedule
past_checkpoint = record { shape = one_client; secret = replicate 32 0; faulty_hosts = replicate 3 false; faulty_clients = false ∷ []; events = events }

-- an event of a client below 1, or of a host below 3, with a short operation
abbrev is_small : WorldEvent → Bool
is_small (Ask c op) = nat_lt c 1 && nat_le (length op) text_limit
is_small (Give m h) = nat_lt h 3
is_small _ = false

small_fits : (e : WorldEvent) → is_small e ≡ true → EventFits one_client e
small_fits (Ask c op) small = let parts = and_parts (nat_lt c 1) (nat_le (length op) text_limit) small in (ltb-true c 1 parts.0, leb-true (length op) text_limit parts.1)
small_fits (Give m h) small = ltb-true h 3 small
small_fits _ small = absurd cc

small_at : (k : ℕ) (e : WorldEvent) → slice_get events k ≡ Some e → is_small e ≡ true
small_at k e at = subst (λ (x : WorldEvent). is_small x ≡ true) (get_or_from_slice_get events k e e at) (AllPass-from_list_all is_small events refl k e (slice_get_within events k e at))

pub is_schedule : IsSchedule past_checkpoint
is_schedule =
    let none : 0 ≤ 1 = omega arith in
    record { hosts = refl; clients = refl; few = none; events = λ k e at. small_fits e (small_at k e at); count = omega arith }
