use Rattle.std.proofs.Common.{ap, subst, ◌∙◌}
use Rattle.mb_msg.specs.Stamps.{as_message}
use Rattle.mb_msg.specs.declared.message.Message.{Message}
use Rattle.mb_learn.specs.Shown.{shown_by, shown_in}
use Rattle.mb_learn.specs.Hearing.{Holds}
use Rattle.mb_learn.proofs.Going.{holds_alike}
use Rattle.mb_learn.proofs.Still.{went_well, still}
use Rattle.mb_learn.proofs.Walking.{some_shown, again_message}
use Rattle.mb_learn.proofs.heard.Heard.hold_message.Goals as goal

pub returns-in_ok-held-in-Ok : goal.returns-in_ok-held-in-Ok
returns-in_ok-held-in-Ok c = record {
  same = c.into_message.ensures ∙ ap as_message (still c.hold_stamped.result c.in-Ok.stamped c.in_ok-held-in-Ok.held c.in_ok-held-in-Ok.ensures) ∙ again_message c.args.message c.in-Ok.stamped c.in-Ok.ensures;
  holds = holds_alike (shown_by c.in-Ok.stamped) (shown_in c.args.message) c.args.self.now c.hold_stamped.new.self (some_shown c.args.message c.in-Ok.stamped c.in-Ok.ensures)
      (went_well c.hold_stamped.result c.in-Ok.stamped c.in_ok-held-in-Ok.held c.in_ok-held-in-Ok.ensures c.hold_stamped.ensures);
}

pub returns-in_ok-held-in-Err : goal.returns-in_ok-held-in-Err
returns-in_ok-held-in-Err c = record {
  same = still c.hold_other.result c.in-Err.other c.in_ok-held-in-Err.held c.in_ok-held-in-Err.ensures ∙ c.in-Err.ensures.1;
  holds = subst (λ (m : Message). Holds (shown_in m) c.args.self.now c.hold_other.new.self) c.in-Err.ensures.1
      (went_well c.hold_other.result c.in-Err.other c.in_ok-held-in-Err.held c.in_ok-held-in-Err.ensures c.hold_other.ensures);
}
