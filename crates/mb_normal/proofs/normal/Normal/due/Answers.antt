use Rattle.std.proofs.Common.{◌≡◌, ℕ, ◌+◌, ◌&&◌, Bool, sym, ◌∙◌, subst}
use Rattle.std.specs.Prelude.{nat_le}
use Rattle.mb_base.specs.declared.shape.Shape.{Shape}
use Rattle.mb_normal.specs.Searches.{Searches}
use Rattle.mb_normal.specs.Rules.{is_committed}
use Rattle.mb_normal.proofs.FirstRule.{first_closed, first_commit, first_execute, first_prepare, first_none}
use Rattle.mb_normal.proofs.normal.Normal.due.Goals as goal

-- at the stable position of the searches
at_low : (s : Shape) (x : Searches) (low exec : ℕ) (b : Bool) → x.low ≡ low → (nat_le low exec && is_committed s x (exec + 1) (x.slots (exec + 1))) ≡ b → (nat_le x.low exec && is_committed s x (exec + 1) (x.slots (exec + 1))) ≡ b
at_low s x low exec b is e = subst (λ (l : ℕ). (nat_le l exec && is_committed s x (exec + 1) (x.slots (exec + 1))) ≡ b) (sym is) e

pub returns-then-not-is_open : goal.returns-then-not-is_open
returns-then-not-is_open c = λ s h x st low_is. first_closed s h x c.args.at.now c.args.exec c.args.room (sym c.is_open.ensures ∙ c.if-not-is_open.true)

pub returns-then-may_commit : goal.returns-then-may_commit
returns-then-may_commit c = λ s h x st low_is.
    first_commit s h x c.args.at.now c.args.exec c.args.room (sym c.is_open.ensures ∙ c.if-not-is_open.false) (sym (c.may_commit.ensures s h x st) ∙ c.if-may_commit.true)

pub returns-then-may_execute : goal.returns-then-may_execute
returns-then-may_execute c = λ s h x st low_is.
    first_execute s h x c.args.at.now c.args.exec c.args.room (sym c.is_open.ensures ∙ c.if-not-is_open.false) (sym (c.may_commit.ensures s h x st) ∙ c.if-may_commit.false)
    (at_low s x c.args.low c.args.exec _ low_is (sym (c.may_execute.ensures s h x st) ∙ c.if-may_execute.true))

pub returns-then-may_prepare : goal.returns-then-may_prepare
returns-then-may_prepare c = λ s h x st low_is.
    first_prepare s h x c.args.at.now c.args.exec c.args.room (sym c.is_open.ensures ∙ c.if-not-is_open.false) (sym (c.may_commit.ensures s h x st) ∙ c.if-may_commit.false)
    (at_low s x c.args.low c.args.exec _ low_is (sym (c.may_execute.ensures s h x st) ∙ c.if-may_execute.false)) (sym (c.may_prepare.ensures s h x st low_is) ∙ c.if-may_prepare.true)

pub returns : goal.returns
returns c = λ s h x st low_is.
    first_none s h x c.args.at.now c.args.exec c.args.room (sym (c.may_commit.ensures s h x st) ∙ c.if-may_commit.false)
    (at_low s x c.args.low c.args.exec _ low_is (sym (c.may_execute.ensures s h x st) ∙ c.if-may_execute.false)) (sym (c.may_prepare.ensures s h x st low_is) ∙ c.if-may_prepare.false)
