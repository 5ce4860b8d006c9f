use Rattle.std.proofs.Common.{◌≡◌, List, subst}
use Rattle.std.specs.Prelude.{IfOk}
use Rattle.std.specs.List.{list_any, flat_map}
use Rattle.mb_msg.specs.declared.stamped.Stamped.{Stamped}
use Rattle.mb_model.specs.Inside.{requests_in, stamped_requests}
use Rattle.mb_world_model.specs.Forged.{has_forged_tag, is_forged_request}
use Rattle.mb_forgery.proofs.TagLaws.{one_alone}
use Rattle.mb_forgery.proofs.InMessages.{no_tag}
use Rattle.mb_forgery.proofs.checker.Checker.has_forged_tag.Goals as goal

pub returns-in-Reply : goal.returns-in-Reply
unfolding has_forged_tag requests_in
returns-in-Reply c s w a = rw c.in-Reply.is (c.is_forged_reply.ensures s w a)

pub returns-in-ReqViewChange : goal.returns-in-ReqViewChange
unfolding has_forged_tag requests_in
returns-in-ReqViewChange c s w a = rw c.in-ReqViewChange.is (c.is_forged_wish.ensures s w a)

pub returns-in-Request : goal.returns-in-Request
unfolding has_forged_tag requests_in
returns-in-Request c s w a = rw c.in-Request.is (one_alone c.is_forged_request.result (is_forged_request s w c.in-Request.r) (c.is_forged_request.ensures s w a))

pub returns-in-Log : goal.returns-in-Log
unfolding has_forged_tag requests_in
returns-in-Log c s w a =
    rw c.in-Log.is (subst (λ (l : List Stamped). IfOk c.forged_in_entries.result (λ b. b ≡ list_any (is_forged_request s w) (flat_map stamped_requests l))) c.as_slice.ensures (c.forged_in_entries.ensures s w a))

pub returns-in-Prepare : goal.returns-in-Prepare
unfolding has_forged_tag requests_in
returns-in-Prepare c s w a = rw c.in-Prepare.is (c.forged_in_vote.ensures s w a)

pub returns-in-Commit : goal.returns-in-Commit
unfolding has_forged_tag requests_in
returns-in-Commit c s w a = rw c.in-Commit.is (c.forged_in_vote-in-Commit.ensures s w a)

pub returns-in-ViewChange : goal.returns-in-ViewChange
unfolding has_forged_tag requests_in
returns-in-ViewChange c s w a = rw c.in-ViewChange.is (c.forged_in_change.ensures s w a)

pub returns-in-NewView : goal.returns-in-NewView
unfolding has_forged_tag requests_in
returns-in-NewView c s w a = rw c.in-NewView.is (c.forged_in_new_view.ensures s w a)

pub returns-in-Open : goal.returns-in-Open
unfolding has_forged_tag requests_in
returns-in-Open c s w a = rw c.in-Open.is (c.forged_in_open.ensures s w a)

pub returns-in_default : goal.returns-in_default
returns-in_default c s w a = no_tag s w c.args.message.now c.in_default.not-Reply c.in_default.not-ReqViewChange c.in_default.not-Request c.in_default.not-Log c.in_default.not-Prepare c.in_default.not-Commit c.in_default.not-ViewChange c.in_default.not-NewView c.in_default.not-Open
