use Rattle.std.proofs.Common.{◌∙◌, List, ap, sym, arith}
use Rattle.std.specs.List.{slice_get}
use Rattle.mb_schedule.specs.declared.schedule.WorldEvent.{WorldEvent}
use Rattle.mb_schedule.specs.declared.schedule.Schedule.{Schedule}
use Rattle.mb_world_model.specs.World.{nothing_happened}
use Rattle.mb_unforged.proofs.Reached.{reached_first}
use Rattle.mb_story.proofs.story.play.Goals as goal

pub story_in-story-requires-clause-fits : goal.story_in-story-requires-clause-fits
story_in-story-requires-clause-fits g c = λ k e at.
    rw c.in_ok-world.ensures.shape (c.requires.fits.events k e (ap (λ (l : List WorldEvent). slice_get l k) (sym c.as_slice-3.ensures) ∙ at))

pub story_in-story-requires-clause-few : goal.story_in-story-requires-clause-few
story_in-story-requires-clause-few g c = rw c.as_slice-3.ensures (omega (arith, c.requires.fits.count))

pub story_in-story-requires-clause-has : goal.story_in-story-requires-clause-has
story_in-story-requires-clause-has g c =
    let cast = c.requires.system in
    let s = cast.plays in
    record {
      system = cast.system;
      state = nothing_happened;
      is = cast.is;
      reached = reached_first cast.system;
      represents = c.in_ok-world.ensures.stands cast.system cast.is (ap (λ (t : Schedule). t.shape) s) (ap (λ (t : Schedule). t.secret) s) (ap (λ (t : Schedule). t.faulty_hosts) s ∙ sym c.as_slice.ensures) (ap (λ (t : Schedule). t.faulty_clients) s ∙ sym c.as_slice-2.ensures) cast.alike;
    }

pub returns : goal.returns
returns g c = λ y is s alike.
    let first = c.in_ok-world.ensures.stands y is (ap (λ (t : Schedule). t.shape) s) (ap (λ (t : Schedule). t.secret) s) (ap (λ (t : Schedule). t.faulty_hosts) s ∙ sym c.as_slice.ensures) (ap (λ (t : Schedule). t.faulty_clients) s ∙ sym c.as_slice-2.ensures) alike in
    c.story_in-story.ensures y is (ap (λ (t : Schedule). t.events) s ∙ sym c.as_slice-3.ensures) first
