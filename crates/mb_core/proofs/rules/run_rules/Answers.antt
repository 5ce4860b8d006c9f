use Rattle.std.proofs.Common.{refl, ◌≡◌, ◌-◌, ◌+◌, suc, arith}
use Rattle.mb_base.specs.Limits.{rule_limit}
use Rattle.mb_core.proofs.RuleLoop.{begins, goes_on, stops, ends}
use Rattle.mb_core.proofs.Stepping.{step_history, is_due, is_done}
use Rattle.mb_core.proofs.rules.run_rules.Goals as goal

-- src/rules.rt
pub loop-round-init : goal.loop-round-init
loop-round-init g c = record { stepping = c.requires; runs = λ me x serves st. begins me _ _ x _ refl st }

pub next_rule-requires : goal.next_rule-requires
next_rule-requires g c = step_history _ _ _ c.loop-round.invariant.stepping

pub carry_out-requires : goal.carry_out-requires
carry_out-requires g c = is_due _ _ _ _ c.loop-round.invariant.stepping c.in-Some.ensures

pub returns-in_default : goal.returns-in_default
returns-in_default g c = λ me x serves st. stops me c.loop-round.replica c.loop-round.done _ _ (c.in_default.ensures me) (c.loop-round.invariant.runs me x serves st)

pub loop-round-preserved : goal.loop-round-preserved
loop-round-preserved g c =
    let one : rule_limit - c.loop-round._round ≡ suc (rule_limit - (c.loop-round._round + 1)) = omega arith in
    let due = is_due _ _ _ _ c.loop-round.invariant.stepping c.in-Some.ensures in
    record {
      stepping = is_done _ _ c.carry_out.new.replica _ c.carry_out.new.done c.in-Some.rule due c.in_ok-carry_out.ensures;
      runs = λ me x serves st.
          goes_on me c.loop-round.replica c.carry_out.new.replica c.loop-round.done c.carry_out.new.done c.in-Some.rule _ _ _ one
          (c.in-Some.ensures me) (λ y rule stands named next. c.in_ok-carry_out.ensures me y rule serves stands named next) (c.loop-round.invariant.runs me x serves st);
    }

pub returns : goal.returns
returns g c = λ me x serves st.
    let none : rule_limit - c.loop-round._round ≡ 0 = omega arith in
    ends me c.loop-round.replica c.loop-round.done _ _ none (c.loop-round.invariant.runs me x serves st)
