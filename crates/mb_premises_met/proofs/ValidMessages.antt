-- Of each kind a message that is valid at a host, as it is said of the message and of what the host holds; the host takes it. Bytes are read back.
use Rattle.std.proofs.Common.{inl, subst, ◌≡◌, ◌≤◌, ◌<◌, ℕ, List, [], ◌∷◌, refl, arith, ap, Some, None}
use Rattle.std.specs.Prelude.{slice_get, Ok, ◌+◌, drop, zero, suc, replicate}
use Rattle.mb_base.specs.Shapes.{Bytes}
use Rattle.sha2.specs.Sha256.{sha256}
use Rattle.mb_parts.specs.declared.request.Request.{Request}
use Rattle.mb_msg.specs.declared.event.Event.TheVariants as event
use Rattle.mb_msg.specs.declared.event.Outcome.TheVariants as outcome
use Rattle.mb_msg.specs.declared.message.Body.TheVariants.{Whole}
use Rattle.mb_msg.specs.declared.message.Message.{Message}
use Rattle.mb_msg.specs.declared.message.Message.TheVariants as message
use Rattle.mb_msg.specs.declared.change.ChangeBody.{ChangeBody}
use Rattle.mb_msg.specs.declared.change.NewViewBody.{NewViewBody}
use Rattle.mb_msg.specs.declared.change.OpenBody.{OpenBody}
use Rattle.mb_msg.specs.declared.transfer.Resend.{Resend}
use Rattle.mb_msg.specs.declared.transfer.Fetch.{Fetch}
use Rattle.mb_msg.specs.declared.transfer.StateMsg.{StateMsg}
use Rattle.mb_msg.specs.declared.stamped.Stamped.TheVariants as stamped
use Rattle.mb_msg.specs.Bodies.{whole_body}
use Rattle.mb_msg.specs.Reading.{message_of}
use Rattle.mb_msg.specs.Spelling.{spelling}
use Rattle.mb_model.specs.States.{part_digests}
use Rattle.mb_model.specs.Histories.{Accepted, Stamped, Executed, Served, History}
use Rattle.mb_model.specs.HostStep.{transition}
use Rattle.mb_model.specs.Verified.{verifies}
use Rattle.mb_model.specs.UsableLogs.{log_fault}
use Rattle.mb_model.proofs.StepOnLiterals.{host_on_literals}
use Rattle.mb_model.specs.Passed.{Passes}
use Rattle.mb_promise.specs.NothingLeft.{TakesWhatPasses}
use Rattle.mb_promise.specs.TakesValid.{IsValid, IsUsable, IsPlanned, IsPlanOf}
use Rattle.mb_agreement.proofs.ViewChangeData.{three, asked_0, evidence_1}
use Rattle.mb_premises_met.proofs.Data.{host, prepare_1, commit_1, wish_1, change_1, change_2, new_view_1, enter_2, open_2, slot_4, parts_4, point, join_1, placed}

-- At host h with this history the bytes of a message are read back, the message is valid, and it is taken.
record IsTaken (h : ℕ) (d : History) (m : Message) : Type 0 where
  reads : message_of three (spelling m) ≡ Ok m
  valid : IsValid (host h) d m
  taken : (transition (host h) d (event.Given (spelling m))).outcome ≡ outcome.Took

pub none_some : {A : Type 0} (x : A) → None ≡ Some x → ⊥
none_some x e = absurd cc

-- ---- the normal case

-- the first request of a client, at the primary
a_request : IsTaken 0 [] (message.Request asked_0)
unfolding host_on_literals transition
a_request =
    let above : 0 < 1 = omega arith in
    record { reads = refl; valid = record { tagged = refl; fresh = above; above = λ q e. absurd (none_some q e) }; taken = refl }

-- the PREPARE of the primary, at a backup
a_prepare : IsTaken 1 [] (message.Prepare prepare_1)
unfolding host_on_literals transition
a_prepare =
    let same : 0 ≤ 0 = omega arith in
    let near : 1 ≤ 8 = omega arith in
    record {
      reads = refl;
      valid = (
        record { certified = refl; other = λ e. let is : 0 ≡ 1 = e in absurd (omega (arith, is)); free = refl; next = refl; permitted = refl },
        record { reached = same; near = λ e. near; shown = λ e. (refl, (refl, tt)) },
      );
      taken = refl;
    }

-- the COMMIT of a backup, at the other one
a_commit : IsTaken 2 [] (message.Commit commit_1)
unfolding host_on_literals transition
a_commit =
    let same : 0 ≤ 0 = omega arith in
    let near : 1 ≤ 8 = omega arith in
    record {
      reads = refl;
      valid = (
        record { certified = refl; other = λ e. let is : 1 ≡ 2 = e in absurd (omega (arith, is)); free = refl; next = refl; permitted = refl },
        record { reached = same; near = λ e. near; shown = λ e. (refl, (refl, tt)) },
      );
      taken = refl;
    }

-- the first CHECKPOINT of h0
a_checkpoint : IsTaken 1 [] (message.Checkpoint (point 0 1))
unfolding host_on_literals transition
a_checkpoint =
    let near : 4 ≤ 8 = omega arith in
    record {
      reads = refl;
      valid = (record { certified = refl; other = λ e. let is : 0 ≡ 1 = e in absurd (omega (arith, is)); free = refl; next = refl; permitted = refl }, near);
      taken = refl;
    }

-- ---- the change of the view

a_wish : IsTaken 2 [] (message.ReqViewChange wish_1)
unfolding host_on_literals transition
a_wish =
    let above : 0 < 1 = omega arith in
    record { reads = refl; valid = record { tagged = refl; above = above }; taken = refl }

-- What two whole bodies have in common is the body.
pub in_whole : {B : Type 0} (x y : B) → Whole x ≡ Whole y → Some x ≡ Some y
in_whole x y e = ap whole_body e

pub some_is : {A : Type 0} (x y : A) → Some x ≡ Some y → x ≡ y
some_is x y e = cc

-- A VIEW_CHANGE of h1, whose log shows a COMMIT, behind this COMMIT.
usable_1 : IsUsable (host 2) change_1
unfolding host_on_literals
usable_1 b e = subst (λ (b : ChangeBody). log_fault three (host 2).secret (verifies (host 2).secret) 1 1 2 b ≡ None) (some_is _ _ (in_whole _ _ e)) refl

usable_2 : IsUsable (host 2) change_2
unfolding host_on_literals
usable_2 b e = subst (λ (b : ChangeBody). log_fault three (host 2).secret (verifies (host 2).secret) 2 1 1 b ≡ None) (some_is _ _ (in_whole _ _ e)) refl

abbrev behind_commit : History
behind_commit = Accepted (message.Commit commit_1) ∷ []

a_view_change : IsTaken 2 behind_commit (message.ViewChange change_1)
unfolding host_on_literals transition
a_view_change = record {
  reads = refl;
  valid = (record { certified = refl; other = λ e. let is : 1 ≡ 2 = e in absurd (omega (arith, is)); free = refl; next = refl; permitted = refl }, λ le. usable_1);
  taken = refl;
}

-- The NEW_VIEW of h1 behind it: its plan is that of the two VIEW_CHANGEs in it.
abbrev behind_change : History
behind_change = Accepted (message.ViewChange change_1) ∷ behind_commit

planned_1 : (b : NewViewBody) → new_view_1.body ≡ Whole b → IsPlanned (host 2) new_view_1 b
unfolding host_on_literals
planned_1 b e = subst (IsPlanned (host 2) new_view_1) (some_is _ _ (in_whole _ _ e))
    (record { members = (record { to = refl; certified = refl; usable = usable_1 }, (record { to = refl; certified = refl; usable = usable_2 }, tt)); base = refl; end = refl; plan = refl })

a_new_view : IsTaken 2 behind_change (message.NewView new_view_1)
unfolding host_on_literals transition
a_new_view = record {
  reads = refl;
  valid = (record { certified = refl; other = λ e. let is : 1 ≡ 2 = e in absurd (omega (arith, is)); free = refl; next = refl; permitted = refl }, λ b le e. planned_1 b e);
  taken = refl;
}

-- The ENTER of h2 behind its VIEW_CHANGE, and its OPEN behind that, which shows the plan of its evidence.
abbrev behind_change_2 : History
behind_change_2 = Accepted (message.ViewChange change_2) ∷ []

an_enter : IsTaken 1 behind_change_2 (message.Enter enter_2)
unfolding host_on_literals transition
an_enter = record {
  reads = refl;
  valid = record { certified = refl; other = λ e. let is : 2 ≡ 1 = e in absurd (omega (arith, is)); free = refl; next = refl; permitted = refl };
  taken = refl;
}

abbrev behind_enter : History
behind_enter = Accepted (message.Enter enter_2) ∷ behind_change_2

plan_of_2 : (b : OpenBody) → open_2.body ≡ Whole b → IsPlanOf (host 1) evidence_1 b
unfolding host_on_literals
plan_of_2 b e = subst (IsPlanOf (host 1) evidence_1) (some_is _ _ (in_whole _ _ e))
    (record { stable = refl; base = refl; count = refl; tagged = ((refl, (refl, tt)), tt); plan = refl })

an_open : IsTaken 1 behind_enter (message.Open open_2)
unfolding host_on_literals transition
an_open = record {
  reads = refl;
  valid = (record { certified = refl; other = λ e. let is : 2 ≡ 1 = e in absurd (omega (arith, is)); free = refl; next = refl; permitted = refl }, λ b le e. plan_of_2 b e);
  taken = refl;
}

-- A JOIN of view 0 at the stable position 4, with the CHECKPOINTs of h0 and h1.
a_join : IsTaken 2 [] (message.Join join_1)
unfolding host_on_literals transition
a_join = record {
  reads = refl;
  valid = record { certified = refl; other = λ e. let is : 1 ≡ 2 = e in absurd (omega (arith, is)); free = refl; next = refl; permitted = refl };
  taken = refl;
}

-- ---- what is asked for

-- h1 expects the first message of h0, which h0 has stamped.
abbrev pub resend_1 : Resend
resend_1 = record { host = 1; low = 0; nexts = 1 ∷ 1 ∷ 1 ∷ [] }

abbrev pub stamped_1 : History
stamped_1 = Stamped (stamped.Prepare prepare_1) ∷ []

a_resend : IsTaken 0 stamped_1 (message.Resend resend_1)
unfolding host_on_literals transition
a_resend =
    let there : 1 ≤ 1 = omega arith in
    record { reads = refl; valid = record { other = λ e. let is : 1 ≡ 0 = e in absurd (omega (arith, is)); news = inl there }; taken = refl }

-- h2 asks h0 for the state at position 4, which h0 executed.
abbrev pub fetch_2 : Fetch
fetch_2 = record { host = 2; of = 0; pos = 4; first = 0 }

abbrev pub executed_4 : History
executed_4 = Executed slot_4 ∷ Served 4 (placed asked_0) ∷ []

a_fetch : IsTaken 0 executed_4 (message.Fetch fetch_2)
unfolding host_on_literals transition
a_fetch =
    let some : 0 < 2 = omega arith in
    let above : 0 ≤ 4 = omega arith in
    record { reads = refl; valid = record { asked = refl; slot = slot_4; executed = (0, some, refl); position = refl; multiple = refl; above = above }; taken = refl }

-- A STATE brings h2 the first part of the state at the stable position.
abbrev pub state_0 : StateMsg
state_0 = record { host = 0; pos = 4; digests = part_digests parts_4; first = 0; parts = asked_0.op ∷ [] }

abbrev pub behind_join : History
behind_join = Accepted (message.Join join_1) ∷ []

-- In a list of one that begins with the digest of this one, each has its digest.
first_digest : (x : Bytes) (more : List Bytes) (i : ℕ) (part : Bytes) → slice_get (x ∷ []) i ≡ Some part → slice_get (sha256 x ∷ more) (0 + i) ≡ Some (sha256 part)
first_digest x more zero part e = ap Some (ap sha256 (some_is x part e))
first_digest x more (suc i) part e = absurd (none_some part e)

its_digest : (i : ℕ) (part : Bytes) → slice_get state_0.parts i ≡ Some part → slice_get state_0.digests (state_0.first + i) ≡ Some (sha256 part)
unfolding host_on_literals
its_digest = first_digest asked_0.op (drop 1 (part_digests parts_4))

a_state : IsTaken 2 behind_join (message.State state_0)
unfolding host_on_literals transition
a_state =
    let behind : 0 < 4 = omega arith in
    let some : 0 < 1 = omega arith in
    record {
      reads = refl;
      valid = record { position = refl; behind = behind; list = refl; parts = its_digest; news = (0, some, refl); whole = λ e. let no : Some 1 ≡ None = e in absurd cc };
      taken = refl;
    }

-- ---- exactly what passes is taken

-- The request of a client passes, and with another tag it does not.
what_is_taken_passes : TakesWhatPasses (host 0) [] → Passes (host 0) [] (message.Request asked_0)
unfolding host_on_literals transition
what_is_taken_passes takes = (takes (spelling (message.Request asked_0)) (message.Request asked_0) refl tt).0 refl

abbrev badly_tagged : Request
badly_tagged = record asked_0 { tag = replicate 32 0 }

not_taken : outcome.BadTag ≡ outcome.Took → ⊥
not_taken is = absurd cc

what_is_not_taken_does_not : TakesWhatPasses (host 0) [] → Passes (host 0) [] (message.Request badly_tagged) → ⊥
unfolding host_on_literals transition
what_is_not_taken_does_not takes passes = not_taken ((takes (spelling (message.Request badly_tagged)) (message.Request badly_tagged) refl tt).1 passes)
