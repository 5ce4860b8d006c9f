-- That nothing is forged in what hosts send.
use Rattle.std.specs.Prelude.{◌≡◌, ℕ, false}
use Rattle.mb_msg.specs.declared.event.Event.{Event}
use Rattle.mb_model.specs.Given.{Answer}
use Rattle.mb_model.specs.HostStep.{transition}
use Rattle.mb_schedule.specs.Limits.{is_faulty}
use Rattle.mb_world_model.specs.World.{World, System, self_of, partway}
use Rattle.mb_members.specs.Marks.{AreSentClean}

module _ {V : Type 0} (y : System V) (x : World) where
  -- In what this answer sends nothing is forged, once it is sent.
  abbrev pub SentIsClean : ℕ → Answer → Type 0
  SentIsClean h a = AreSentClean y.schedule (partway y.schedule h a.left x) a.left.sent

  -- Nor is it in what a correct host sends in the step of this event.
  abbrev pub SendsClean : ℕ → Event → Type 0
  SendsClean h e = is_faulty y.schedule h ≡ false → SentIsClean h (transition (self_of y h) (x.histories h) e)
