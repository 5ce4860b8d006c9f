-- Each refusal tells why: of each test what it means that it fails, then of each kind of message the chain of its tests, and of a LOG its own tests and those of
-- its entries. What is taken is written into the history, and stays there.
use Rattle.std.proofs.Common.{◌≡◌, ℕ, zero, suc, ◌+◌, ◌-◌, ◌≤◌, ◌<◌, ◌⊎◌, Bool, true, false, ◌&&◌, not, List, [], ◌∷◌, ◌++◌, length, refl, sym, ap, subst, ◌∙◌, inl, inr, arith, Option, Some, None, Result, Ok, Err}
use Rattle.std.specs.Prelude.{◌==◌, ◌||◌, nat_lt, nat_le, find, slice_get, unwrap_or, is_some, is_none, option_map, option_and_then, if◌then◌else◌, Contains}
use Rattle.std.specs.List.{AllByRecursion, list_all, range_with_len}
use Rattle.std.specs.Bool.{then_some}
use Rattle.std.specs.Option.{option_or}
use Rattle.std.proofs.lemmas.Bool.{cases_Bool, and_from, and_parts, eqb-true, eq-eqb, leb-true, leb-false, ltb-true, ltb-false, lt-ltb}
use Rattle.sha2.specs.Sha256.{sha256}
use Rattle.mb_base.specs.Limits.{part_count}
use Rattle.mb_base.specs.Shapes.{Bytes, span}
use Rattle.mb_usig.specs.Tags.{same_bytes, request_tag, wish_tag, stop_tag}
use Rattle.mb_usig.proofs.Laws.{same_bytes-true, true-same_bytes}
use Rattle.mb_parts.specs.declared.floor.Floor.{Floor}
use Rattle.mb_parts.specs.declared.request.Request.{Request}
use Rattle.mb_parts.specs.declared.batch.Batch.{Batch}
use Rattle.mb_parts.specs.declared.certificates.FloorCert.{FloorCert}
use Rattle.mb_parts.specs.declared.certificates.Evidence.{Evidence}
use Rattle.mb_parts.specs.Certificates.{certified_floor, is_evidence}
use Rattle.mb_parts.specs.Rules.{rule_of, shut_before}
use Rattle.mb_msg.specs.declared.message.Body.{Body}
use Rattle.mb_msg.specs.declared.message.Body.TheVariants.{Whole, Bare as Short}
use Rattle.mb_msg.specs.declared.message.Message.{Message}
use Rattle.mb_msg.specs.declared.message.Message.TheVariants as message
use Rattle.mb_msg.specs.declared.normal.Stop.{Stop}
use Rattle.mb_msg.specs.declared.change.ReqViewChange.{ReqViewChange}
use Rattle.mb_msg.specs.declared.change.ViewChange.{ViewChange}
use Rattle.mb_msg.specs.declared.change.NewViewBody.{NewViewBody}
use Rattle.mb_msg.specs.declared.change.NewView.{NewView}
use Rattle.mb_msg.specs.declared.change.OpenBody.{OpenBody}
use Rattle.mb_msg.specs.declared.change.Plan.{Plan}
use Rattle.mb_msg.specs.declared.transfer.Resend.{Resend}
use Rattle.mb_msg.specs.declared.transfer.Log.{Log}
use Rattle.mb_msg.specs.declared.transfer.Fetch.{Fetch}
use Rattle.mb_msg.specs.declared.transfer.StateMsg.{StateMsg}
use Rattle.mb_msg.specs.declared.stamped.Stamped.{Stamped as StampedMessage}
use Rattle.mb_msg.specs.declared.stamped.Stamped.TheVariants as stamped
use Rattle.mb_msg.specs.declared.event.Outcome.{Outcome}
use Rattle.mb_msg.specs.declared.event.Outcome.TheVariants as outcome
use Rattle.mb_msg.specs.Bodies.{whole_body}
use Rattle.mb_msg.specs.Plans.{plan_digest, plan_end}
use Rattle.mb_msg.specs.Stamps.{bare_of, ui_of, as_stamped, as_message}
use Rattle.mb_model.specs.Service.{Served}
use Rattle.mb_model.specs.Verified.{is_rightly_tagged, are_rightly_tagged}
use Rattle.mb_model.specs.UsableLogs.{Fault, log_fault}
use Rattle.mb_model.specs.Histories.{Entry, Accepted, History, Identity, view_of, closed_at, counter_of, gate}
use Rattle.mb_model.specs.Held.{wish_of, change_fault, plan_from}
use Rattle.mb_model.specs.Stable.{low_of}
use Rattle.mb_model.specs.Positions.{exec_of}
use Rattle.mb_model.specs.Execution.{state_from, pending, snapshot_of, part_held, parts_held, missing}
use Rattle.mb_model.specs.Making.{expected}
use Rattle.mb_model.specs.Compared.{compared_in}
use Rattle.mb_model.specs.Sending.{Progress, begin, write, note, next_of}
use Rattle.mb_model.specs.GateChecks.{valid, is_bad_ui, is_own_future, conviction, is_permitted, gate_refusal, identifier_refusal}
use Rattle.mb_model.specs.KindChecks.{unusable, only_where, is_of_view, has_bad_tag, is_badly_tagged, body_refusal, vote_refusal, is_member, member_fault, members_fault, announces, new_view_fault, is_body_of, opening_fault, kind_refusal, stamped_refusal}
use Rattle.mb_model.specs.PlainChecks.{is_behind_pending, has_news_for, are_all_held, string_at, wrong_part, wrong_digest, last_seq, number_refusal, request_refusal, wish_refusal, resend_refusal, is_certified_floor, is_certified_evidence, log_refusal, fetch_refusal, is_list_right, fault_of, state_refusal, is_bad_stop, stop_answer}
use Rattle.mb_model.specs.Given.{Answer, closing, floor_shown, jump, go_on, install_where_all, answer_request, answer_state, give_stamped, give_request, give_wish, give_resend, give_fetch, give_state, give_entries, give_log, give}
use Rattle.mb_model.specs.HostStep.{rules_follow, asks_on, finished_where, on_bytes, transition}
use Rattle.mb_model.proofs.Options.{option_cases, or_some, if_some}
use Rattle.mb_steps.proofs.StepPassed.{passes_log}
use Rattle.mb_promise.specs.NothingLeft.{IsNoLog}
use Rattle.mb_promise.specs.TakesLogs.{IsValidLog}
use Rattle.mb_promise.specs.TakesValid.{IsCertified, IsTagged, AreTagged, IsPlanOf, AsksForState}
use Rattle.mb_world_model.specs.World.{self_of}
use Rattle.mb_world_model.specs.WorldSteps.{world}
use Rattle.mb_host_laws.proofs.Cases.{not_true, not_false, not_both, or_false, some_is, then_some_of, whole_is}
use Rattle.mb_one_log.proofs.Walks.{each_entry, entries_keep, finished_keeps}
use Rattle.mb_obligations.proofs.LogsStand.{HasEntry, entry_walked}
use Rattle.mb_obligations.proofs.TakesLogs.{accepted_there}
use Rattle.mb_obligations.proofs.TakesValid.{certified, valid_passes}
use Rattle.mb_pins.specs.TellsWhy.{IsVoteOf, IsOfPosition, kind_number, IsBadlyTagged, IsFaulty, IsNoMember, IsMisplanned, IsOwnAhead, WaitsAlready, IsIdle, Tells, TellsOf, IsOfEntry, IsThrough, TellsOfLog, TellsOfLogs, TellsOfMessages, TellsOfBytes, HostsTellWhy}
use Rattle.mb_pins.proofs.OnlyValid.{log_so}

-- ---- a refusal, where there is one, has a property: so it is of a chain of tests where it is so of each

abbrev Each : (Outcome → Type 0) → Option Outcome → Type 0
Each P None = Unit {0}
Each P (Some o) = P o

module _ (P : Outcome → Type 0) where
  each_or : (a b : Option Outcome) → Each P a → Each P b → Each P (option_or a b)
  each_or None b x y = y
  each_or (Some o) b x y = x

  each_then : (t : Bool) (o : Outcome) → (t ≡ true → P o) → Each P (then_some t o)
  each_then true o f = f refl
  each_then false o f = tt

  each_where : (t : Bool) (o : Option Outcome) → (t ≡ true → Each P o) → Each P (only_where t o)
  each_where true o f = f refl
  each_where false o f = tt

  each_if : (t : Bool) (o : Option Outcome) → (t ≡ true → Each P o) → Each P (if t then o else None)
  each_if true o f = f refl
  each_if false o f = tt

  each_map : {A : Type 0} (f : A → Outcome) (x : Option A) → ((y : A) → x ≡ Some y → P (f y)) → Each P (option_map f x)
  each_map f None so = tt
  each_map f (Some y) so = so y refl

  each_is : (x : Option Outcome) (o : Outcome) → x ≡ Some o → Each P x → P o
  each_is x o is e = subst (Each P) is e

-- ---- options, lists and ranges

shut_is : (o : Option ℕ) (c n : ℕ) → shut_before o c ≡ Some n → (o ≡ Some n) × (n ≤ c)
shut_is None c n e = absurd cc
shut_is (Some x) c n e =
    let t = if_some (nat_le x c) (Some x) n e in
    (t.1, subst (λ (k : ℕ). k ≤ c) (some_is x n t.1) (leb-true x c t.0))

then_is : {A : Type 0} (t : Bool) (x y : A) → then_some t x ≡ Some y → (t ≡ true) × (x ≡ y)
then_is true x y e = (refl, some_is x y e)
then_is false x y e = absurd cc

map_is : {A B : Type 0} (f : A → B) (o : Option A) (z : B) → option_map f o ≡ Some z → (x : A) × (o ≡ Some x) × (f x ≡ z)
map_is f None z e = absurd cc
map_is f (Some x) z e = (x, refl, some_is (f x) z e)

found_in : (t : ℕ → Bool) (a n i : ℕ) → find t (range_with_len a n) ≡ Some i → (a ≤ i) × (i < a + n) × (t i ≡ true)
found_in t a zero i e = absurd cc
found_in t a (suc n) i e = elim (cases_Bool (t a)) [
  | inl here ↦
      let same : a ≡ i = some_is a i (rw here at e) in
      (omega (arith, same), omega (arith, same), subst (λ (k : ℕ). t k ≡ true) same here)
  | inr other ↦ let more = found_in t (a + 1) n i (rw other at e) in let low = more.0 in let high = more.1 in (omega (arith, low), omega (arith, high), more.2)
]

all_pass : (t : ℕ → Bool) (a n : ℕ) → list_all t (range_with_len a n) ≡ true → (i : ℕ) → i < n → t (a + i) ≡ true
all_pass t a zero e i lt = absurd (omega (arith, lt))
all_pass t a (suc n) e zero lt =
    let place : a ≡ a + 0 = omega arith in
    subst (λ (k : ℕ). t k ≡ true) place (and_parts (t a) (list_all t (range_with_len (a + 1) n)) e).0
all_pass t a (suc n) e (suc i) lt =
    let place : (a + 1) + i ≡ a + suc i = omega arith in
    subst (λ (k : ℕ). t k ≡ true) place (all_pass t (a + 1) n (and_parts (t a) (list_all t (range_with_len (a + 1) n)) e).1 i (omega (arith, lt)))

-- what fails where one of two is wanted, or both
neither : {A : Type 0} (a : Bool) (o : Option A) → (not a || is_none o) ≡ true → a ≡ true → is_some o ≡ true → ⊥
neither true None e p q = absurd cc
neither true (Some x) e p q = absurd cc
neither false o e p q = absurd cc

unwanted : (a b : Bool) → not (if a then b else false) ≡ true → a ≡ true → b ≡ true → ⊥
unwanted true true e p q = absurd cc
unwanted true false e p q = absurd cc
unwanted false b e p q = absurd cc

stamped_again : (x : StampedMessage) → as_stamped (as_message x) ≡ Some x
stamped_again (stamped.Prepare m) = refl
stamped_again (stamped.Commit m) = refl
stamped_again (stamped.Checkpoint m) = refl
stamped_again (stamped.ViewChange m) = refl
stamped_again (stamped.NewView m) = refl
stamped_again (stamped.Enter m) = refl
stamped_again (stamped.Open m) = refl
stamped_again (stamped.Join m) = refl

numbered_kind : (x : StampedMessage) → rule_of (bare_of x) ≡ kind_number x
numbered_kind (stamped.Prepare m) = refl
numbered_kind (stamped.Commit m) = refl
numbered_kind (stamped.Checkpoint m) = refl
numbered_kind (stamped.ViewChange m) = refl
numbered_kind (stamped.NewView m) = refl
numbered_kind (stamped.Enter m) = refl
numbered_kind (stamped.Open m) = refl
numbered_kind (stamped.Join m) = refl

module _ {S : Type 0} (self : Identity S) where
  -- ---- tags and bodies

  untagged : (r : Request) → is_badly_tagged self r ≡ true → IsTagged self r → ⊥
  untagged r bad tagged = not_both (is_rightly_tagged self.secret r) (true-same_bytes r.tag (request_tag self.secret r.client r.seq r.op) tagged) (not_true (is_rightly_tagged self.secret r) bad)

  all_right : (l : List Request) → AllByRecursion (IsTagged self) l → list_all (is_rightly_tagged self.secret) l ≡ true
  all_right [] a = refl
  all_right (r ∷ l) a = and_from (is_rightly_tagged self.secret r) (list_all (is_rightly_tagged self.secret) l) (true-same_bytes r.tag (request_tag self.secret r.client r.seq r.op) a.0) (all_right l a.1)

  untagged_batch : (b : Batch) → has_bad_tag self b ≡ true → AreTagged self b → ⊥
  untagged_batch b bad tagged = not_both (list_all (is_rightly_tagged self.secret) b.requests) (all_right b.requests tagged) (not_true (list_all (is_rightly_tagged self.secret) b.requests) bad)

  all_right_batches : (l : List Batch) → AllByRecursion (AreTagged self) l → list_all (are_rightly_tagged self.secret) l ≡ true
  all_right_batches [] a = refl
  all_right_batches (b ∷ l) a = and_from (are_rightly_tagged self.secret b) (list_all (are_rightly_tagged self.secret) l) (all_right b.requests a.0) (all_right_batches l a.1)

  plan_right : (e : Evidence) (b : OpenBody) → IsPlanOf self e b → is_body_of self e b ≡ true
  plan_right e b p =
      let digest : same_bytes e.plan (plan_digest (record { base = record b.stable { pos = e.base }; batches = b.batches })) ≡ true =
      true-same_bytes e.plan _ (subst (λ (n : ℕ). e.plan ≡ plan_digest (record { base = record b.stable { pos = n }; batches = b.batches })) p.base p.plan) in
      and_from _ _ (and_from _ _ p.stable (and_from _ _ (eq-eqb b.stable.pos e.base p.base) (and_from _ _ (eq-eqb (length b.batches) (e.end - e.base) p.count) (all_right_batches b.batches p.tagged)))) digest

  faulty_so : (m : ViewChange) (f : Fault) → change_fault self m ≡ Some f → IsFaulty self m f.0 f.1
  faulty_so m f e =
      let t = then_some_of (log_fault self.shape self.secret (valid self) m.ui.host m.view m.ui.counter) (whole_body m.body) f e in
      (t.0, whole_is m.body t.0 t.1, t.2)

  -- ---- members and plans

  no_member : (v : ℕ) (m : ViewChange) (reason : ℕ) → member_fault self v m ≡ Some reason → IsNoMember self v m reason
  no_member v m reason e = elim (cases_Bool (is_member self v m)) [
    | inl is ↦
        let f = map_is (λ (f : Fault). f.1) (change_fault self m) reason (rw is at e) in
        let faulty : IsFaulty self m f.0.0 f.0.1 = faulty_so m f.0 f.1 in
        inr (f.0.0, subst (λ (n : ℕ). IsFaulty self m f.0.0 n) f.2 faulty)
    | inr none ↦
        let ten : reason ≡ 10 = sym (some_is {A = ℕ} 10 reason (rw none at e)) in
        inl (ten, λ view right. not_both (is_member self v m) (and_from (m.view == v) _ (eq-eqb m.view v view) (certified self (stamped.ViewChange m) right)) none)
  ]

  first_no_member : (v i : ℕ) (l : List ViewChange) (f : Fault) → members_fault self v i l ≡ Some f → (j : ℕ) × (x : ViewChange) × (slice_get l j ≡ Some x) × (f.0 ≡ i + j) × IsNoMember self v x f.1
  unfolding members_fault
  first_no_member v i [] f e = absurd cc
  first_no_member v i (m ∷ l) f e = elim (or_some (option_map (λ (reason : ℕ). (i, reason)) (member_fault self v m)) (members_fault self v (i + 1) l) f e) [
    | inl here ↦
        let r = map_is (λ (reason : ℕ). (i, reason)) (member_fault self v m) f here in
        let index : f.0 ≡ i + 0 = sym (ap (λ (g : Fault). g.0) r.2) ∙ omega arith in
        (0, m, refl, index, subst (λ (g : Fault). IsNoMember self v m g.1) r.2 (no_member v m r.0 r.1))
    | inr later ↦
        let r = first_no_member v (i + 1) l f later in
        let index = r.3 in
        (suc r.0, r.1, r.2, omega (arith, index), r.4)
  ]

  misplanned : (m : NewView) (b : NewViewBody) → announces self m (plan_from self b.changes) ≡ false → IsMisplanned self m.base m.end m.plan b
  misplanned m b none base end plan =
      let p : Plan = plan_from self b.changes in
      not_both (announces self m p) (and_from (m.base == p.base.pos) _ (eq-eqb m.base p.base.pos base) (and_from (m.end == plan_end p) _ (eq-eqb m.end (plan_end p) end) (true-same_bytes m.plan (plan_digest p) plan))) none

  module _ (d : History) where
    -- ---- stamped messages

    own_ahead : (x : StampedMessage) → is_own_future self d (ui_of x) ≡ true → IsOwnAhead self d x
    own_ahead x e =
        let p = and_parts ((ui_of x).host == self.host) (nat_lt (counter_of d) (ui_of x).counter) e in
        (eqb-true (ui_of x).host self.host p.0, ltb-true (counter_of d) (ui_of x).counter p.1)

    stamped_idle : (x : StampedMessage) → IsOwnAhead self d x → IsIdle self d (as_message x)
    stamped_idle (stamped.Prepare m) own = (stamped.Prepare m, refl, own)
    stamped_idle (stamped.Commit m) own = (stamped.Commit m, refl, own)
    stamped_idle (stamped.Checkpoint m) own = (stamped.Checkpoint m, refl, own)
    stamped_idle (stamped.ViewChange m) own = (stamped.ViewChange m, refl, own)
    stamped_idle (stamped.NewView m) own = (stamped.NewView m, refl, own)
    stamped_idle (stamped.Enter m) own = (stamped.Enter m, refl, own)
    stamped_idle (stamped.Open m) own = (stamped.Open m, refl, own)
    stamped_idle (stamped.Join m) own = (stamped.Join m, refl, own)

    own_is : (x y : StampedMessage) → Some x ≡ Some y → IsOwnAhead self d y → (ui_of x).host ≡ self.host
    own_is x y is own = subst (λ (z : StampedMessage). (ui_of z).host ≡ self.host) (sym (some_is x y is)) own.0

    idle_own : (x : StampedMessage) → IsIdle self d (as_message x) → (ui_of x).host ≡ self.host
    idle_own (stamped.Prepare m) i = own_is (stamped.Prepare m) i.0 i.1 i.2
    idle_own (stamped.Commit m) i = own_is (stamped.Commit m) i.0 i.1 i.2
    idle_own (stamped.Checkpoint m) i = own_is (stamped.Checkpoint m) i.0 i.1 i.2
    idle_own (stamped.ViewChange m) i = own_is (stamped.ViewChange m) i.0 i.1 i.2
    idle_own (stamped.NewView m) i = own_is (stamped.NewView m) i.0 i.1 i.2
    idle_own (stamped.Enter m) i = own_is (stamped.Enter m) i.0 i.1 i.2
    idle_own (stamped.Open m) i = own_is (stamped.Open m) i.0 i.1 i.2
    idle_own (stamped.Join m) i = own_is (stamped.Join m) i.0 i.1 i.2

    module _ (x : StampedMessage) where
      abbrev P : Outcome → Type 0
      P o = Tells self d (as_message x) o

      bad_ui : is_bad_ui self x ≡ true → IsCertified self x → ⊥
      bad_ui bad right = not_both (valid self (record { host = (ui_of x).host; counter = (ui_of x).counter; says = bare_of x; cert = (ui_of x).cert })) (certified self x right) (not_true _ bad)

      identifier_why : Each P (identifier_refusal self d x)
      unfolding identifier_refusal gate_refusal
      identifier_why =
          each_or P _ _ (each_then P _ outcome.BadUi (λ bad. (x, stamped_again x, bad_ui bad)))
          (each_or P _ _ (each_then P _ outcome.Idle (λ own. stamped_idle x (own_ahead x own)))
          (each_or P _ _ (each_map P outcome.Convicted (conviction self d (ui_of x)) (λ n is. (x, stamped_again x, shut_is (closed_at d (ui_of x).host) (ui_of x).counter n is)))
          (each_or P _ _ (each_then P _ (outcome.Stale (next_of d (ui_of x).host)) (λ stale. (x, stamped_again x, (refl, leb-true (ui_of x).counter (gate d (ui_of x).host).counter stale))))
          (each_or P _ _ (each_then P _ (outcome.Ahead (next_of d (ui_of x).host)) (λ ahead. (x, stamped_again x, (refl, ltb-true ((gate d (ui_of x).host).counter + 1) (ui_of x).counter ahead))))
          (each_then P _ (outcome.Illegal (rule_of (bare_of x))) (λ refused. (x, stamped_again x, (numbered_kind x, not_true (is_permitted self d x) refused))))))))

    body_why : (m : Message) (pos : ℕ) (body : Body Batch) → IsVoteOf m (view_of self d) pos body → ((b : Batch) → body ≡ Whole b → (AreTagged self b → ⊥) → IsBadlyTagged self m) → Each (Tells self d m) (body_refusal self d pos body)
    body_why m pos (Short digest) vote bad = each_then (Tells self d m) _ (outcome.NeedBody (view_of self d) (exec_of d)) (λ above. (refl, refl, pos, digest, vote, ltb-true (exec_of d) pos above))
    body_why m pos (Whole b) vote bad = each_then (Tells self d m) _ outcome.BadTag (λ tag. bad b refl (untagged_batch b tag))

    vote_why : (m : Message) (view pos : ℕ) (body : Body Batch) → IsVoteOf m view pos body → IsOfPosition m pos → ((b : Batch) → body ≡ Whole b → (AreTagged self b → ⊥) → IsBadlyTagged self m) → Each (Tells self d m) (vote_refusal self d view pos body)
    unfolding vote_refusal
    vote_why m view pos body vote at bad =
        each_or (Tells self d m) _ _ (each_then (Tells self d m) _ (outcome.LaterView (view_of self d)) (λ later. (refl, view, pos, body, vote, ltb-true (view_of self d) view later)))
        (each_where (Tells self d m) (is_of_view self d view) _ (λ own.
        each_or (Tells self d m) _ _ (each_then (Tells self d m) _ (outcome.BeyondWindow (low_of self d)) (λ beyond. (refl, pos, at, ltb-true (low_of self d + span self.shape) pos beyond)))
        (body_why m pos body (subst (λ (v : ℕ). IsVoteOf m v pos body) (sym (eqb-true (view_of self d) view own)) vote) bad)))

    -- what is unusable, where it is looked for
    unusable_why : (m : Message) (t : Bool) (f : Option Fault) → ((g : Fault) → f ≡ Some g → Tells self d m (outcome.Unusable g.0 g.1)) → Each (Tells self d m) (only_where t (unusable f))
    unusable_why m t f so = each_where (Tells self d m) t (unusable f) (λ now. each_map (Tells self d m) (λ (g : Fault). outcome.Unusable g.0 g.1) f so)

    new_view_why : (m : NewView) (g : Fault) → option_and_then (new_view_fault self m) (whole_body m.body) ≡ Some g → Tells self d (message.NewView m) (outcome.Unusable g.0 g.1)
    unfolding new_view_fault
    new_view_why m g e =
        let t = then_some_of (new_view_fault self m) (whole_body m.body) g e in
        let b : NewViewBody = t.0 in (
          b,
          whole_is m.body b t.1,
          elim (or_some (members_fault self m.view 0 b.changes) (then_some (not (announces self m (plan_from self b.changes))) (255, 11)) g t.2) [
            | inl member ↦
                let r = first_no_member m.view 0 b.changes g member in
                let index : r.0 ≡ g.0 = let at = r.3 in omega (arith, at) in
                inl (r.1, subst (λ (k : ℕ). slice_get b.changes k ≡ Some r.1) index r.2, r.4)
            | inr plan ↦
                let p = then_is (not (announces self m (plan_from self b.changes))) (255, 11) g plan in
                inr (sym (ap (λ (f : Fault). f.0) p.1), sym (ap (λ (f : Fault). f.1) p.1), misplanned m b (not_true (announces self m (plan_from self b.changes)) p.0))
          ],
        )

    open_why : (e : Evidence) (body : Body OpenBody) (g : Fault) → option_and_then (opening_fault self e) (whole_body body) ≡ Some g → (b : OpenBody) × (body ≡ Whole b) × (g.0 ≡ 0) × (g.1 ≡ 8) × (is_body_of self e b ≡ false)
    open_why e body g none =
        let t = then_some_of (opening_fault self e) (whole_body body) g none in
        let p = then_is (not (is_body_of self e t.0)) (0, 8) g t.2 in
        (t.0, whole_is body t.0 t.1, sym (ap (λ (f : Fault). f.0) p.1), sym (ap (λ (f : Fault). f.1) p.1), not_true (is_body_of self e t.0) p.0)

    kind_why : (x : StampedMessage) → Each (Tells self d (as_message x)) (kind_refusal self d x)
    kind_why (stamped.Prepare m) = vote_why (message.Prepare m) m.view m.pos m.body (refl, refl, refl) refl (λ b is bad. (b, is, bad))
    kind_why (stamped.Commit m) = vote_why (message.Commit m) m.view m.pos m.body (refl, refl, refl) refl (λ b is bad. (b, is, bad))
    kind_why (stamped.Checkpoint m) = each_then (Tells self d (message.Checkpoint m)) _ (outcome.BeyondWindow (low_of self d)) (λ beyond. (refl, m.pos, refl, ltb-true (low_of self d + span self.shape) m.pos beyond))
    kind_why (stamped.ViewChange m) = unusable_why (message.ViewChange m) _ _ (λ g e. faulty_so m g e)
    kind_why (stamped.NewView m) = unusable_why (message.NewView m) _ _ (λ g e. new_view_why m g e)
    kind_why (stamped.Enter m) = tt
    kind_why (stamped.Open m) = unusable_why (message.Open m) _ _ (λ g e. let t = open_why m.evidence m.body g e in (t.0, t.1, t.2, t.3, λ plan. not_both (is_body_of self m.evidence t.0) (plan_right m.evidence t.0 plan) t.4))
    kind_why (stamped.Join m) = tt

    stamped_why : (x : StampedMessage) → Each (Tells self d (as_message x)) (stamped_refusal self d x)
    unfolding stamped_refusal
    stamped_why x = each_or (Tells self d (as_message x)) (identifier_refusal self d x) (kind_refusal self d x) (identifier_why x) (kind_why x)

    -- ---- the others

    waits : (r : Request) (o : Option Request) → pending self d r.client ≡ o → is_behind_pending o r ≡ true → WaitsAlready self d r
    waits r None is e = absurd cc
    waits r (Some q) is e = (q, is, leb-true r.seq q.seq e)

    request_why : (r : Request) → Each (Tells self d (message.Request r)) (request_refusal self d r)
    unfolding request_refusal number_refusal
    request_why r =
        let M : Message = message.Request r in
        each_or (Tells self d M) _ _ (each_then (Tells self d M) _ outcome.BadTag (λ bad. untagged r bad))
        (each_or (Tells self d M) _ _ (each_then (Tells self d M) _ (outcome.Old (last_seq self d r.client)) (λ old. (refl, ltb-true r.seq (last_seq self d r.client) old)))
        (each_or (Tells self d M) _ _ (each_then (Tells self d M) _ outcome.Again (λ again. eqb-true r.seq (last_seq self d r.client) again))
        (each_then (Tells self d M) _ outcome.Idle (λ idle. waits r (pending self d r.client) refl idle))))

    wish_why : (m : ReqViewChange) → Each (Tells self d (message.ReqViewChange m)) (wish_refusal self d m)
    unfolding wish_refusal
    wish_why m =
        let M : Message = message.ReqViewChange m in
        each_or (Tells self d M) _ _ (each_then (Tells self d M) _ outcome.BadTag (λ bad right. not_both (same_bytes m.tag (wish_tag self.secret m.host m.view)) (true-same_bytes m.tag (wish_tag self.secret m.host m.view) right) (not_true _ bad)))
        (each_then (Tells self d M) _ outcome.Idle (λ idle. leb-true m.view (wish_of self d m.host) idle))

    no_news : (m : Resend) → has_news_for self d m ≡ false → (counter_of d < expected self m) × (low_of self d ≤ m.low)
    no_news m e =
        let p = or_false (nat_le (expected self m) (counter_of d)) (nat_lt m.low (low_of self d)) e in
        (leb-false (expected self m) (counter_of d) p.0, ltb-false m.low (low_of self d) p.1)

    resend_why : (m : Resend) → Each (Tells self d (message.Resend m)) (resend_refusal self d m)
    unfolding resend_refusal
    resend_why m =
        let own : Option Outcome = then_some (m.host == self.host) outcome.Idle in
        let none : Option Outcome = then_some (not (has_news_for self d m)) outcome.Idle in
        each_or (Tells self d (message.Resend m)) own none (each_then (Tells self d (message.Resend m)) (m.host == self.host) outcome.Idle (λ idle. inl (eqb-true m.host self.host idle)))
        (each_then (Tells self d (message.Resend m)) (not (has_news_for self d m)) outcome.Idle (λ idle. inr (no_news m (not_true (has_news_for self d m) idle))))

    asks_not : (m : Fetch) → (not (m.of == self.host) || is_none (snapshot_of self d m.pos)) ≡ true → AsksForState self d m → ⊥
    asks_not m e asks = let p = valid_passes self d (message.Fetch m) asks in neither (m.of == self.host) (snapshot_of self d m.pos) e p.asked p.has_snapshot

    fetch_why : (m : Fetch) → Each (Tells self d (message.Fetch m)) (fetch_refusal self d m)
    fetch_why m = each_then (Tells self d (message.Fetch m)) _ outcome.Idle (λ idle. asks_not m idle)

    -- a part that is not the listed one
    part_why : (m : StateMsg) (i : ℕ) → wrong_part m.digests m.first m.parts ≡ Some i → Tells self d (message.State m) (outcome.WrongDigest i)
    unfolding wrong_part
    part_why m i e =
        let t = found_in (λ j. not (same_bytes (sha256 (string_at m.parts (j - m.first))) (string_at m.digests j))) m.first (length m.parts) i e in
        inr (
          t.0,
          t.1,
          λ p there listed.
              let here : string_at m.parts (i - m.first) ≡ p = ap (λ (o : Option Bytes). unwrap_or o []) there in
              let list : string_at m.digests i ≡ sha256 p = ap (λ (o : Option Bytes). unwrap_or o []) listed in
              not_both (same_bytes (sha256 (string_at m.parts (i - m.first))) (string_at m.digests i)) (true-same_bytes _ _ (ap sha256 here ∙ sym list)) (not_true _ t.2),
        )

    digest_why : (m : StateMsg) (o : Option ℕ) → wrong_part m.digests m.first m.parts ≡ o → Each (Tells self d (message.State m)) (wrong_digest o)
    digest_why m None e = tt
    digest_why m (Some i) e = part_why m i e

    fault_why : (m : StateMsg) (r : Result (Served S) (ℕ × ℕ)) → state_from self (parts_held self (Accepted (message.State m) ∷ d)) ≡ r → Each (Tells self d (message.State m)) (fault_of self r)
    fault_why m (Ok x) e = tt
    fault_why m (Err f) e = e

    state_why : (m : StateMsg) → Each (Tells self d (message.State m)) (state_refusal self d m)
    unfolding state_refusal
    state_why m =
        let M : Message = message.State m in
        each_or (Tells self d M) _ _ (each_then (Tells self d M) _ outcome.Idle (λ idle. inl (λ at behind. unwanted (m.pos == low_of self d) (nat_lt (exec_of d) (low_of self d)) idle (eq-eqb m.pos (low_of self d) at) (lt-ltb (exec_of d) (low_of self d) behind))))
        (each_or (Tells self d M) _ _ (each_then (Tells self d M) _ (outcome.WrongDigest part_count) (λ wrong. inl (refl, λ right. not_both (is_list_right self d m) (true-same_bytes _ _ right) (not_true (is_list_right self d m) wrong))))
        (each_or (Tells self d M) _ _ (digest_why m (wrong_part m.digests m.first m.parts) refl)
        (each_or (Tells self d M) _ _ (each_then (Tells self d M) (are_all_held self d m) outcome.Idle (λ idle. inr (all_pass (λ (i : ℕ). is_some (part_held self d i)) m.first (length m.parts) idle)))
        (each_if (Tells self d M) (is_none (missing self (Accepted (message.State m) ∷ d))) _ (λ all. fault_why m _ refl)))))

    stop_why : (m : Stop) → Tells self d (message.Stop m) (stop_answer self m)
    stop_why m = elim (cases_Bool (is_bad_stop self m)) [
      | inl bad ↦ rw bad (λ right. not_both (same_bytes m.tag (stop_tag self.secret)) (true-same_bytes m.tag (stop_tag self.secret) right) (not_true _ bad))
      | inr good ↦ rw good (same_bytes-true m.tag (stop_tag self.secret) (not_false (same_bytes m.tag (stop_tag self.secret)) good))
    ]

  -- ---- what is answered is the refusal, or what was taken is written

  refused : (d left : History) (m : Message) (o : Outcome) → Tells self d m o → TellsOf self d left m o
  refused d left m outcome.Took t = absurd t
  refused d left m o t = t

  stamped_told : (x : StampedMessage) (y : Progress) → TellsOf self y.history (give_stamped self x y).left.history (as_message x) (give_stamped self x y).outcome
  unfolding give_stamped
  stamped_told x y =
      let z : Progress = note (compared_in self y.history x) y in
      elim (option_cases (stamped_refusal self y.history x)) [
        | inl none ↦ rw none (accepted_there self x z)
        | inr (o, some) ↦ rw some (refused y.history (closing o (ui_of x) z).history (as_message x) o (each_is (Tells self y.history (as_message x)) (stamped_refusal self y.history x) o some (stamped_why y.history x)))
      ]

  module _ (d : History) where
    request_answered : (o : Outcome) (r : Request) (x : Progress) → (answer_request self (Some o) r x).outcome ≡ o
    request_answered outcome.Again r x = refl
    request_answered o r x = refl

    request_told : (r : Request) → TellsOf self d (give_request self r (begin d)).left.history (message.Request r) (give_request self r (begin d)).outcome
    unfolding give_request
    request_told r = elim (option_cases (request_refusal self d r)) [
      | inl none ↦ rw none (0, omega arith, refl)
      | inr (o, some) ↦
          let left : History = (answer_request self (Some o) r (begin d)).left.history in
          rw some (subst (TellsOf self d left (message.Request r)) (sym (request_answered o r (begin d))) (refused d left (message.Request r) o (each_is (Tells self d (message.Request r)) (request_refusal self d r) o some (request_why d r))))
    ]

    wish_told : (m : ReqViewChange) → TellsOf self d (give_wish self m (begin d)).left.history (message.ReqViewChange m) (give_wish self m (begin d)).outcome
    unfolding give_wish
    wish_told m = elim (option_cases (wish_refusal self d m)) [
      | inl none ↦ rw none (0, omega arith, refl)
      | inr (o, some) ↦ rw some (refused d d (message.ReqViewChange m) o (each_is (Tells self d (message.ReqViewChange m)) (wish_refusal self d m) o some (wish_why d m)))
    ]

    resend_told : (m : Resend) → TellsOf self d (give_resend self m (begin d)).left.history (message.Resend m) (give_resend self m (begin d)).outcome
    unfolding give_resend
    resend_told m = elim (option_cases (resend_refusal self d m)) [
      | inl none ↦ rw none (0, omega arith, refl)
      | inr (o, some) ↦ rw some (refused d d (message.Resend m) o (each_is (Tells self d (message.Resend m)) (resend_refusal self d m) o some (resend_why d m)))
    ]

    fetch_told : (m : Fetch) → TellsOf self d (give_fetch self m (begin d)).left.history (message.Fetch m) (give_fetch self m (begin d)).outcome
    unfolding give_fetch
    fetch_told m = elim (option_cases (fetch_refusal self d m)) [
      | inl none ↦ rw none (0, omega arith, refl)
      | inr (o, some) ↦ rw some (refused d d (message.Fetch m) o (each_is (Tells self d (message.Fetch m)) (fetch_refusal self d m) o some (fetch_why d m)))
    ]

    -- Behind it the state may be installed.
    state_there : (m : StateMsg) → HasEntry self (Accepted (message.State m)) (install_where_all self (write (Accepted (message.State m)) (begin d)))
    state_there m = elim (cases_Bool (is_none (missing self (Accepted (message.State m) ∷ d)))) [
      | inl all ↦ rw all (1, omega arith, refl)
      | inr some ↦ rw some (0, omega arith, refl)
    ]

    state_answered : (o : Outcome) (m : StateMsg) (x : Progress) → (answer_state self (Some o) m x).outcome ≡ o
    state_answered (outcome.BadState part at) m x = refl
    state_answered o m x = refl

    state_told : (m : StateMsg) → TellsOf self d (give_state self m (begin d)).left.history (message.State m) (give_state self m (begin d)).outcome
    unfolding give_state
    state_told m = elim (option_cases (state_refusal self d m)) [
      | inl none ↦ rw none (state_there m)
      | inr (o, some) ↦
          let left : History = (answer_state self (Some o) m (begin d)).left.history in
          rw some (subst (TellsOf self d left (message.State m)) (sym (state_answered o m (begin d))) (refused d left (message.State m) o (each_is (Tells self d (message.State m)) (state_refusal self d m) o some (state_why d m))))
    ]

    given_told : (m : Message) → IsNoLog self d m → TellsOf self d (give self m (begin d)).left.history m (give self m (begin d)).outcome
    given_told (message.Request m) n = request_told m
    given_told (message.Prepare m) n = stamped_told (stamped.Prepare m) (begin d)
    given_told (message.Commit m) n = stamped_told (stamped.Commit m) (begin d)
    given_told (message.Reply m) n = tt
    given_told (message.Checkpoint m) n = stamped_told (stamped.Checkpoint m) (begin d)
    given_told (message.ReqViewChange m) n = wish_told m
    given_told (message.ViewChange m) n = stamped_told (stamped.ViewChange m) (begin d)
    given_told (message.NewView m) n = stamped_told (stamped.NewView m) (begin d)
    given_told (message.Enter m) n = stamped_told (stamped.Enter m) (begin d)
    given_told (message.Open m) n = stamped_told (stamped.Open m) (begin d)
    given_told (message.Join m) n = stamped_told (stamped.Join m) (begin d)
    given_told (message.Resend m) n = resend_told m
    given_told (message.Log m) n = absurd n
    given_told (message.Fetch m) n = fetch_told m
    given_told (message.State m) n = state_told m
    given_told (message.Stop m) n = refused d d (message.Stop m) (stop_answer self m) (stop_why d m)

    -- ---- LOG: its own tests, then its entries

    floor_why : (m : Log) (o : Option FloorCert) → m.floor ≡ o → is_certified_floor self m.host o ≡ false → (c : FloorCert) × (m.floor ≡ Some c) × (certified_floor self.shape (valid self) m.host c ≡ None)
    floor_why m None is e = absurd cc
    floor_why m (Some c) is e = (c, is, gone (certified_floor self.shape (valid self) m.host c) e) where
      gone : (f : Option Floor) → is_some f ≡ false → f ≡ None
      gone None h = refl
      gone (Some x) h = absurd cc

    evidence_why : (m : Log) (o : Option Evidence) → m.evidence ≡ o → is_certified_evidence self o ≡ false → (e : Evidence) × (m.evidence ≡ Some e) × (is_evidence self.shape (valid self) e ≡ false)
    evidence_why m None is e = absurd cc
    evidence_why m (Some c) is e = (c, is, e)

    log_why : (left : History) (m : Log) → Each (TellsOfLog self left d m) (log_refusal self m)
    unfolding log_refusal
    log_why left m =
        each_or (TellsOfLog self left d m) _ _ (each_then (TellsOfLog self left d m) _ (outcome.Unusable 0 1) (λ bad. let f = floor_why m m.floor refl (not_true _ bad) in inl (refl, inl (refl, f.0, f.1, f.2))))
        (each_or (TellsOfLog self left d m) _ _ (each_then (TellsOfLog self left d m) _ (outcome.Unusable 0 2) (λ bad. inl (refl, inr (inl (refl, not_true _ bad)))))
        (each_or (TellsOfLog self left d m) _ _ (each_then (TellsOfLog self left d m) _ (outcome.Unusable 0 12) (λ bad. let f = evidence_why m m.evidence refl (not_true _ bad) in inl (refl, inr (inr (refl, f.0, f.1, f.2)))))
        (each_then (TellsOfLog self left d m) _ outcome.Idle (λ own. eqb-true m.host self.host own))))

    -- what has come so far stands before the history
    abbrev IsLater : Progress → Type 0
    IsLater x = (added : History) × (x.history ≡ added ++ d)

    later_more : (e : Entry) (y : History) → ((added : History) × (y ≡ added ++ d)) → (added : History) × (e ∷ y ≡ added ++ d)
    later_more e y (added, is) = (e ∷ added, ap (λ (z : History). e ∷ z) is)

    one_entry : (o : Outcome) (x : Progress) → (go_on self o x (λ y. give_entries self [] y)).left ≡ x
    unfolding give_entries
    one_entry outcome.Took x = refl
    one_entry (outcome.Stale next) x = refl
    one_entry outcome.Idle x = refl
    one_entry o x = refl

    entry_left : (x : StampedMessage) (y : Progress) → (give_entries self (x ∷ []) y).left ≡ (give_stamped self x y).left
    unfolding give_entries
    entry_left x y = one_entry (give_stamped self x y).outcome (give_stamped self x y).left

    entry_later : (x : StampedMessage) (y : Progress) → IsLater y → IsLater (give_stamped self x y).left
    entry_later x y l = subst IsLater (entry_left x y) (entries_keep self IsLater (each_entry self (λ (h : History). (added : History) × (h ≡ added ++ d)) later_more) (x ∷ []) y l)

    module _ (m : Log) where
      -- an outcome of an entry that ends the LOG
      abbrev Ends : Outcome → Type 0
      Ends outcome.Took = ⊥
      Ends (outcome.Stale next) = ⊥
      Ends outcome.Idle = ⊥
      Ends o = Unit {0}

      -- These entries are all through, or one of them ended the LOG.
      abbrev IsEnd : Answer → List StampedMessage → Type 0
      IsEnd a l = ((a.outcome ≡ outcome.Took) × AllByRecursion (IsThrough self a.left.history d) l) ⊎ (Ends a.outcome × IsOfEntry self d m a.outcome)

      one_more : (x : StampedMessage) (l : List StampedMessage) (a : Answer) → IsThrough self a.left.history d x → IsEnd a l → IsEnd a (x ∷ l)
      one_more x l a here (inl (took, rest)) = inl (took, (here, rest))
      one_more x l a here (inr end) = inr end

      -- what an entry's outcome says of it, where this history is left
      abbrev SaysOf : History → StampedMessage → Outcome → Type 0
      SaysOf left x outcome.Took = IsThrough self left d x
      SaysOf left x (outcome.Stale next) = IsThrough self left d x
      SaysOf left x outcome.Idle = IsThrough self left d x
      SaysOf left x o = IsOfEntry self d m o

      ends : (x : StampedMessage) (l : List StampedMessage) (o : Outcome) (left : Progress) (more : Progress → Answer) → SaysOf (more left).left.history x o → IsEnd (more left) l → IsEnd (go_on self o left more) (x ∷ l)
      ends x l outcome.Took left more says rest = one_more x l (more left) says rest
      ends x l (outcome.Stale next) left more says rest = one_more x l (more left) says rest
      ends x l outcome.Idle left more says rest = one_more x l (more left) says rest
      ends x l o left more says rest = inr (tt, says)

      module _ (x : StampedMessage) (y : Progress) (there : Contains m.entries x) (later : IsLater y) (left : History) where
        stale_so : (z : StampedMessage) → as_stamped (as_message x) ≡ Some z → (ui_of z).counter ≤ (gate y.history (ui_of z).host).counter → IsThrough self left d x
        stale_so z is low =
            let same : x ≡ z = some_is x z (sym (stamped_again x) ∙ is) in
            let now : (ui_of z).counter ≤ (gate (later.0 ++ d) (ui_of z).host).counter = subst (λ (h : History). (ui_of z).counter ≤ (gate h (ui_of z).host).counter) later.1 low in
            inr (record { added = later.0; known = inr (subst (λ (w : StampedMessage). (ui_of w).counter ≤ (gate (later.0 ++ d) (ui_of w).host).counter) (sym same) now) })

        says_of : (o : Outcome) → Tells self y.history (as_message x) o → SaysOf left x o
        says_of outcome.Took t = absurd t
        says_of (outcome.Stale next) t = stale_so t.0 t.1 t.2.1
        says_of outcome.Idle t = inr (record { added = later.0; known = inl (idle_own y.history x t) })
        says_of o t = record { added = later.0; entry = x; there = there; tells = subst (λ (h : History). Tells self h (as_message x) o) later.1 t }

        entry_says : (Contains (give_stamped self x y).left.history (Accepted (as_message x)) → Contains left (Accepted (as_message x))) → SaysOf left x (give_stamped self x y).outcome
        unfolding give_stamped
        entry_says = elim (option_cases (stamped_refusal self y.history x)) [
          | inl none ↦ rw none (λ keeps. inl (keeps (accepted_there self x (note (compared_in self y.history x) y))))
          | inr (o, some) ↦ rw some (λ keeps. says_of o (each_is (Tells self y.history (as_message x)) (stamped_refusal self y.history x) o some (stamped_why y.history x)))
        ]

      entries_why : (l : List StampedMessage) (y : Progress) → ((x : StampedMessage) → Contains l x → Contains m.entries x) → IsLater y → IsEnd (give_entries self l y) l
      unfolding give_entries
      entries_why [] y within later = inl (refl, tt)
      entries_why (x ∷ l) y within later =
          let e : Entry = Accepted (as_message x) in
          let left : Progress = (give_stamped self x y).left in
          let rest : IsEnd (give_entries self l left) l = entries_why l left (λ z c. within z (let lt = c.1 in (suc c.0, omega (arith, lt), c.2))) (entry_later x y later) in
          let says = entry_says x y (within x (0, omega arith, refl)) later (give_entries self l left).left.history (λ c. entries_keep self (HasEntry self e) (entry_walked self e) l left c) in
          ends x l (give_stamped self x y).outcome left (λ z. give_entries self l z) says rest

      of_entry : (left : History) (o : Outcome) → Ends o → IsOfEntry self d m o → TellsOfLog self left d m o
      of_entry left outcome.Took end e = absurd end
      of_entry left (outcome.Stale next) end e = absurd end
      of_entry left outcome.Idle end e = absurd end
      of_entry left (outcome.Unusable index reason) end e = inr e
      of_entry left o end e = e

      ended : (a : Answer) → IsValidLog self m → IsEnd a m.entries → TellsOfLog self a.left.history d m a.outcome
      ended a valid (inl (took, all)) = subst (TellsOfLog self a.left.history d m) (sym took) (valid, all)
      ended a valid (inr (end, e)) = of_entry a.left.history a.outcome end e

      jumped : (h : ℕ) (f : Option Floor) → IsLater (jump self h f (begin d))
      jumped h None = ([], refl)
      jumped h (Some f) = elim (cases_Bool (is_none (closed_at d h) && nat_lt (gate d h).counter f.counter)) [
        | inl does ↦ rw does (later_more _ d ([], refl))
        | inr stays ↦ rw stays ([], refl)
      ]

      log_told : TellsOfLog self (give_log self m (begin d)).left.history d m (give_log self m (begin d)).outcome
      unfolding give_log
      log_told =
          let y : Progress = jump self m.host (floor_shown self m.host m.floor) (begin d) in
          elim (option_cases (log_refusal self m)) [
            | inl none ↦
                let x : Progress = write (Accepted (message.Log m)) y in
                rw none (ended (give_entries self m.entries x) (log_so self m (passes_log self m none)) (entries_why m.entries x (λ x c. c) (later_more (Accepted (message.Log m)) y.history (jumped m.host (floor_shown self m.host m.floor)))))
            | inr (o, some) ↦ rw some (each_is (TellsOfLog self d d m) (log_refusal self m) o some (log_why d m))
          ]

    -- ---- each event

    outcome_stays : (runs asks : Bool) (a : Answer) → (finished_where self runs asks d a).outcome ≡ a.outcome
    outcome_stays true asks a = refl
    outcome_stays false asks a = refl

    -- What stands in a history stands there behind the rules.
    module _ (runs asks : Bool) (a : Answer) where
      abbrev finish : Answer
      finish = finished_where self runs asks d a

      stays : (e : Entry) → Contains a.left.history e → Contains finish.left.history e
      stays e c = finished_keeps self (HasEntry self e) (entry_walked self e) runs asks d a c

      message_stays : (m : Message) (o : Outcome) → TellsOf self d a.left.history m o → TellsOf self d finish.left.history m o
      message_stays m outcome.Took t = stays (Accepted m) t
      message_stays m o t = t

      through_stays : (l : List StampedMessage) → AllByRecursion (IsThrough self a.left.history d) l → AllByRecursion (IsThrough self finish.left.history d) l
      through_stays [] all = tt
      through_stays (x ∷ l) all = (elim (all.0) [ inl there ↦ inl (stays (Accepted (as_message x)) there) | inr over ↦ inr over ], through_stays l all.1)

      log_stays : (m : Log) (o : Outcome) → TellsOfLog self a.left.history d m o → TellsOfLog self finish.left.history d m o
      log_stays m outcome.Took t = (t.0, through_stays m.entries t.1)
      log_stays m o t = t

      message_ends : (m : Message) → TellsOf self d a.left.history m a.outcome → TellsOf self d finish.left.history m finish.outcome
      message_ends m t = subst (TellsOf self d finish.left.history m) (sym (outcome_stays runs asks a)) (message_stays m a.outcome t)

      log_ends : (m : Log) → TellsOfLog self a.left.history d m a.outcome → TellsOfLog self finish.left.history d m finish.outcome
      log_ends m t = subst (TellsOfLog self finish.left.history d m) (sym (outcome_stays runs asks a)) (log_stays m a.outcome t)

    tells_messages : TellsOfMessages self d
    unfolding transition
    tells_messages bytes m reads n =
        let a : Answer = give self m (begin d) in
        subst (λ (r : Result Message ℕ). TellsOf self d (on_bytes self r d).left.history m (on_bytes self r d).outcome) (sym reads) (message_ends (rules_follow self a.outcome m) (asks_on self m) a m (given_told m n))

    tells_bytes : TellsOfBytes self d
    unfolding transition
    tells_bytes bytes at reads = rw reads refl

    tells_logs : TellsOfLogs self d
    unfolding transition
    tells_logs bytes m reads =
        let a : Answer = give_log self m (begin d) in
        subst (λ (r : Result Message ℕ). TellsOfLog self (on_bytes self r d).left.history d m (on_bytes self r d).outcome) (sym reads) (log_ends (rules_follow self a.outcome (message.Log m)) (asks_on self (message.Log m)) a m (log_told m))

pub hosts_tell_why : (S : Type 0) → HostsTellWhy S
hosts_tell_why S system k h =
    let self : Identity S = self_of system h in
    let d : History = (world system k).histories h in
    record { messages = tells_messages self d; bytes = tells_bytes self d; logs = tells_logs self d }
