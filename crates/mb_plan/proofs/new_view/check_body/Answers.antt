use Rattle.std.proofs.Common.{◌*◌, ◌≡◌, ◌∙◌, List, None, Err, ap, subst, rules}
use Rattle.std.proofs.lemmas.Result.{err_from_is_err_and}
use Rattle.mb_base.specs.Limits.{most_interval}
use Rattle.mb_msg.specs.declared.change.ViewChange.{ViewChange}
use Rattle.mb_model.specs.Plans.{plan_of}
use Rattle.mb_model.specs.Held.{logs_of}
use Rattle.mb_model.specs.KindChecks.{members_fault}
use Rattle.mb_plan.specs.NewViews.{checker, AnswersMembers, OfMembers}
use Rattle.mb_plan.proofs.LookedPlaces.{none_found}
use Rattle.mb_plan.proofs.Verdicts.{member_fails, no_plan, plan_can_hash, as_announced}
use Rattle.mb_plan.proofs.new_view.check_body.Goals as goal

pub returns-in_err-check_members : goal.returns-in_err-check_members
returns-in_err-check_members c =
    let s = c.args.shape.now in
    let secret = c.args.usig.now.secret in
    let m = c.args.new_view.now in
    let e = c.in_err-check_members.field-0.0 in
    let p = err_from_is_err_and c.from_residual.result c.from_residual.ensures.1 in
    rw (p.1, p.2)
    (member_fails s secret m c.args.body.now e
    (subst (λ (ms : List ViewChange). AnswersMembers (members_fault (checker s secret) m.view 0 ms) (Err e)) c.as_slice-members.ensures c.in_err-check_members.ensures.fault))

pub returns-in_err-plan : goal.returns-in_err-plan
returns-in_err-plan c =
    let s = c.args.shape.now in
    let e = c.in_err-plan.field-0.0 in
    let p = err_from_is_err_and c.from_residual-in_err-plan.result c.from_residual-in_err-plan.ensures.1 in
    rw (p.1, p.2)
    (no_plan s c.args.usig.now.secret c.args.new_view.now c.args.body.now c.requires.1 e
    (subst (λ (ms : List ViewChange). OfMembers s ms (Err e)) c.as_slice-members.ensures c.in_err-plan.ensures))

pub check_members-requires : goal.check_members-requires
check_members-requires c = record {
  fits = search rules;
  places = none_found c.args.shape.now c.args.usig.now.secret (8 * most_interval);
}

pub plan_of_members-requires-clause-places : goal.plan_of_members-requires-clause-places
plan_of_members-requires-clause-places c = record { shape = c.args.shape.now; secret = c.args.usig.now.secret; found = c.in_ok-check_members.ensures.places }

pub announced-requires : goal.announced-requires
announced-requires c =
    let s = c.args.shape.now in
    plan_can_hash s c.args.usig.now.secret c.args.new_view.now c.args.body.now c.requires.1 c.in_ok-plan.plan
    (c.in_ok-plan.ensures ∙ ap (λ ms. plan_of s (logs_of ms)) c.as_slice-members.ensures)

pub returns : goal.returns
returns c =
    let s = c.args.shape.now in
    let secret = c.args.usig.now.secret in
    let m = c.args.new_view.now in
    as_announced s secret m c.args.body.now
    (subst (λ (ms : List ViewChange). members_fault (checker s secret) m.view 0 ms ≡ None) c.as_slice-members.ensures c.in_ok-check_members.ensures.fault)
    c.in_ok-plan.plan
    (c.in_ok-plan.ensures ∙ ap (λ ms. plan_of s (logs_of ms)) c.as_slice-members.ensures)
    c.announced.result c.announced.ensures
