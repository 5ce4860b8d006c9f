-- No rule is left undone, for each service.
use Rattle.std.specs.Prelude.{List, [], ◌∷◌}
use Rattle.mb_base.specs.Shapes.{IsShape}
use Rattle.mb_msg.specs.declared.event.Event.{Event}
use Rattle.mb_model.specs.Histories.{Identity}
use Rattle.mb_model.specs.EnabledRules.{IsQuiescent}
use Rattle.mb_model.specs.HostStep.{after}
use Rattle.mb_steps.specs.NothingUndone.{NothingUndone}
use Rattle.mb_steps.proofs.StepRounds.{none_left}
use Rattle.mb_steps.proofs.StepQuiescent.{begins_quiescent, stays_quiescent}

always_quiescent : {S : Type 0} (self : Identity S) → IsShape self.shape → (events : List Event) → IsQuiescent self (after self events)
unfolding after
always_quiescent self k [] = begins_quiescent self
always_quiescent self k (e ∷ es) = stays_quiescent self k (after self es) e (always_quiescent self k es)

pub nothing_undone : (S : Type 0) → NothingUndone S
nothing_undone S = record {
  ends = λ self k x. none_left self k x;
  begins = λ self. begins_quiescent self;
  stays = λ self k d e q. stays_quiescent self k d e q;
  always = λ self k events. always_quiescent self k events;
}
