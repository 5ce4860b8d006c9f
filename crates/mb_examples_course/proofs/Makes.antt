-- With any service: where an event finds what it wants, and a host answers what is written there, the event makes the next world.
use Rattle.std.proofs.Common.{◌≡◌, ℕ, Bool, List, [], ◌∷◌, ◌++◌, map, ap, ◌∙◌, refl, Option, Some, None}
use Rattle.std.proofs.lemmas.Option.{same_Some}
use Rattle.mb_base.specs.Shapes.{Bytes}
use Rattle.mb_parts.specs.declared.request.Request.{Request}
use Rattle.mb_msg.specs.declared.message.Message.{Message}
use Rattle.mb_msg.specs.declared.event.Event.TheVariants.{Given}
use Rattle.mb_msg.specs.Spelling.{spelling}
use Rattle.mb_model.specs.Service.{Machine}
use Rattle.mb_model.specs.States.{Snapshots}
use Rattle.mb_model.specs.Histories.{History}
use Rattle.mb_model.specs.Given.{Answer}
use Rattle.mb_model.specs.HostStep.{transition}
use Rattle.mb_world_model.specs.World.{World, System, self_of, steps, arrives, stepped, asks_for, lost_or, give_host}
use Rattle.mb_world_model.specs.WorldSteps.{with_message, happens}
use Rattle.mb_world_model.specs.Stops.{stop_of}
use Rattle.mb_examples_course.proofs.Deeds.{Deed, Asks, Gives}
use Rattle.mb_examples_course.proofs.Schedule.{past_checkpoint, event_of}
use Rattle.mb_examples_course.proofs.Worlds.{Found, behind, found, wanted}

-- three hosts with this service
abbrev pub system_with : {S : Type 0} → Machine S → Snapshots S → S → System S
system_with machine snapshots initial = record { machine = machine; snapshots = snapshots; initial = initial; schedule = past_checkpoint }

-- Nothing stops it.
pub free : (w : World) (x : Deed) → found w x ≡ wanted x → stop_of past_checkpoint w (event_of x) ≡ None
free w (Asks r) finds = ap (λ (y : Found). y.stop) finds
free w (Gives g) finds = ap (λ (y : Found). y.stop) finds

module _ {S : Type 0} (machine : Machine S) (snapshots : Snapshots S) (initial : S) where
  abbrev system : System S
  system = system_with machine snapshots initial

  -- what a host answers that is given a message, and what that leaves
  abbrev takes : ℕ → History → Message → Answer
  takes h d m = transition (self_of system h) d (Given (spelling m))

  -- of each event, and what is written of it
  abbrev pub answered : Deed → Option Answer
  answered (Asks r) = None
  answered (Gives g) = Some (takes g.host g.before g.says)

  abbrev pub expected : Deed → Option Answer
  expected (Asks r) = None
  expected (Gives g) = Some g.answer

  pub makes : (w : World) (x : Deed) → found w x ≡ wanted x → answered x ≡ expected x → happens system w (event_of x) ≡ behind w x
  unfolding happens give_host
  makes w (Asks r) finds answers = ap (λ (q : Request). asks_for past_checkpoint q w) (same_Some _ _ (ap (λ (y : Found). y.asks) finds))
  makes w (Gives g) finds answers =
      let there : World = arrives past_checkpoint g.host (spelling g.says) w in
      ap (λ (b : Option Bytes). with_message (give_host system g.host) b w) (ap (λ (y : Found). y.bytes) finds)
      ∙ ap (λ (lost : Bool). lost_or lost (λ y. steps system g.host (Given (spelling g.says)) (arrives past_checkpoint g.host (spelling g.says) y)) w) (ap (λ (y : Found). y.faulty) finds)
      ∙ ap (λ (d : History). stepped past_checkpoint g.host (transition (self_of system g.host) d (Given (spelling g.says))) there) (ap (λ (y : Found). y.history) finds)
      ∙ ap (λ (a : Answer). stepped past_checkpoint g.host a there) (same_Some _ _ answers)

-- Where two functions are the same on some and on others, they are on all.
pub same_on_both : {A B : Type 0} (f g : A → B) (xs ys : List A) → map f xs ≡ map g xs → map f ys ≡ map g ys → map f (xs ++ ys) ≡ map g (xs ++ ys)
same_on_both f g [] ys first then = then
same_on_both f g (x ∷ xs) ys first then =
    let here : f x ≡ g x = cc in
    let later : map f xs ≡ map g xs = cc in
    rw (here, same_on_both f g xs ys later then) refl
