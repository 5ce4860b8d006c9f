-- What passes its tests is valid: each test says so in its own words.
use Rattle.std.proofs.Common.{◌≡◌, ℕ, zero, suc, ◌+◌, ◌-◌, ◌≤◌, ◌<◌, ◌⊎◌, Bool, true, false, ◌&&◌, not, List, [], ◌∷◌, ◌++◌, length, refl, sym, subst, inl, inr, arith, Option, Some, None, Ok, Err}
use Rattle.std.specs.Prelude.{◌==◌, ◌%◌, nat_le, nat_lt, is_some, is_none, option_and_then, option_map, if◌then◌else◌, Result}
use Rattle.std.specs.List.{AllByRecursion, list_all, range_with_len}
use Rattle.std.specs.Bool.{then_some}
use Rattle.std.proofs.lemmas.Bool.{cases_Bool, and_parts, or_cases, eqb-true, eqb-false, eq-eqb, leb-true, leb-false, le-leb, ltb-true, ltb-false}
use Rattle.sha2.specs.Sha256.{sha256}
use Rattle.mb_base.specs.Shapes.{Bytes, interval, span}
use Rattle.mb_usig.specs.Tags.{same_bytes, certificate, request_tag, wish_tag}
use Rattle.mb_usig.proofs.Laws.{same_bytes-true}
use Rattle.mb_parts.specs.declared.floor.Floor.{Floor}
use Rattle.mb_parts.specs.declared.request.Request.{Request}
use Rattle.mb_parts.specs.declared.batch.Batch.{Batch}
use Rattle.mb_parts.specs.declared.certificates.FloorCert.{FloorCert}
use Rattle.mb_parts.specs.declared.certificates.Evidence.{Evidence}
use Rattle.mb_parts.specs.Bares.{bare_bytes}
use Rattle.mb_parts.specs.Rules.{shut_before}
use Rattle.mb_parts.specs.Certificates.{certified_floor, is_stable, is_evidence}
use Rattle.mb_msg.specs.declared.message.Body.{Body}
use Rattle.mb_msg.specs.declared.message.Body.TheVariants.{Whole, Bare as Short}
use Rattle.mb_msg.specs.declared.message.Message.{Message}
use Rattle.mb_msg.specs.declared.message.Message.TheVariants as message
use Rattle.mb_msg.specs.declared.change.ReqViewChange.{ReqViewChange}
use Rattle.mb_msg.specs.declared.change.ViewChange.{ViewChange}
use Rattle.mb_msg.specs.declared.change.NewViewBody.{NewViewBody}
use Rattle.mb_msg.specs.declared.change.NewView.{NewView}
use Rattle.mb_msg.specs.declared.change.OpenBody.{OpenBody}
use Rattle.mb_msg.specs.declared.change.Plan.{Plan}
use Rattle.mb_msg.specs.declared.transfer.Resend.{Resend}
use Rattle.mb_msg.specs.declared.transfer.Log.{Log}
use Rattle.mb_msg.specs.declared.transfer.Fetch.{Fetch}
use Rattle.mb_msg.specs.declared.transfer.StateMsg.{StateMsg}
use Rattle.mb_msg.specs.declared.stamped.Stamped.{Stamped as StampedMessage}
use Rattle.mb_msg.specs.declared.stamped.Stamped.TheVariants as stamped
use Rattle.mb_msg.specs.declared.event.Slot.{Slot}
use Rattle.mb_msg.specs.Bodies.{whole_body}
use Rattle.mb_msg.specs.Plans.{plan_digest, plan_end}
use Rattle.mb_msg.specs.Stamps.{bare_of, ui_of}
use Rattle.mb_model.specs.Service.{Served, reply_of}
use Rattle.mb_model.specs.States.{digest_string}
use Rattle.mb_model.specs.Verified.{is_rightly_tagged, are_rightly_tagged}
use Rattle.mb_model.specs.UsableLogs.{Fault, is_comparable_body, is_plan_body}
use Rattle.mb_model.specs.Histories.{Accepted, Executed, History, Identity, view_of, closed_at, counter_of}
use Rattle.mb_model.specs.Held.{wish_of, change_fault, plan_from}
use Rattle.mb_model.specs.Stable.{stable_of, low_of}
use Rattle.mb_model.specs.Positions.{exec_of}
use Rattle.mb_model.specs.Execution.{state_of, state_from, pending, parts_after, snapshot_of, part_held, parts_held, missing}
use Rattle.mb_model.specs.Making.{expected}
use Rattle.mb_model.specs.GateChecks.{valid}
use Rattle.mb_model.specs.KindChecks.{is_member, member_fault, members_fault, announces, new_view_fault, opening_fault}
use Rattle.mb_model.specs.PlainChecks.{is_behind_pending, is_certified_floor, is_certified_evidence, has_news_for, fault_of}
use Rattle.mb_model.specs.Passed.{PassesGate, PassesBody, PassesVote, PassesRequest, PassesWish, PassesResend, PassesLog, PassesFetch, PassesState, Passes}
use Rattle.mb_model.specs.Members.{In}
use Rattle.mb_model.proofs.Members.{contained}
use Rattle.mb_model.proofs.Options.{or_none, then_none, if_some}
use Rattle.mb_steps.specs.OwnLists.{IsOwn}
use Rattle.mb_steps.specs.Arises.{Arises}
use Rattle.mb_steps.proofs.StepOwnList.{own_passed}
use Rattle.mb_steps.proofs.StepOwnStamped.{steady}
use Rattle.mb_promise.specs.NothingLeft.{IsNoLog}
use Rattle.mb_promise.specs.TakesLogs.{IsValidLog}
use Rattle.mb_promise.specs.TakesValid.{IsCertified, IsTagged, AreTagged, IsUsable, IsMember, IsPlanned, IsPlanOf, IsNextOfSender, IsShown, IsVote, IsNewRequest, IsGreaterWish, AsksForNews, AsksForState, BringsParts, IsValid}
use Rattle.mb_host_laws.proofs.Cases.{not_false, some_is}
use Rattle.mb_host_laws.proofs.Moments.{arises_by}
use Rattle.mb_obligations.proofs.Added.{parts_certified}
use Rattle.mb_pins.specs.OnlyValid.{AcceptsOnlyValid, AcceptsOnlyValidLogs}
use Rattle.mb_pins.proofs.ClosedGates.{IsShut, AreShut, shut_at, shut_past}

-- ---- options and lists

-- a fault that was looked for where a body is whole
whole_none : {B : Type 0} (f : B → Option Fault) (body : Body B) (b : B) → option_and_then f (whole_body body) ≡ None → body ≡ Whole b → f b ≡ None
whole_none {B = B} f body b none is = subst (λ (x : Body B). option_and_then f (whole_body x) ≡ None) is none

map_none : {A B : Type 0} (f : A → B) (o : Option A) → option_map f o ≡ None → o ≡ None
map_none f None e = refl
map_none f (Some x) e = absurd cc

-- one that fails, of those that do not all pass
one_fails : (t : ℕ → Bool) (a n : ℕ) → list_all t (range_with_len a n) ≡ false → (i : ℕ) × (i < n) × (t (a + i) ≡ false)
one_fails t a zero e = absurd cc
one_fails t a (suc n) e = elim (cases_Bool (t a)) [
  | inr fails ↦ let first : a ≡ a + 0 = omega arith in (0, omega arith, subst (λ (k : ℕ). t k ≡ false) first fails)
  | inl passes ↦
      let more = one_fails t (a + 1) n (rw passes at e) in
      let place : (a + 1) + more.0 ≡ a + suc more.0 = omega arith in
      (suc more.0, let lt = more.1 in omega (arith, lt), subst (λ (k : ℕ). t k ≡ false) place more.2)
]

gone : {A : Type 0} (o : Option A) → is_some o ≡ false → o ≡ None
gone None e = refl
gone (Some x) e = absurd cc

there : {A : Type 0} (o : Option A) → is_some o ≡ true → (x : A) × (o ≡ Some x)
there (Some x) e = (x, refl)
there None e = absurd cc

module _ {S : Type 0} (self : Identity S) where
  -- ---- what is right in itself

  tagged_request : (r : Request) → is_rightly_tagged self.secret r ≡ true → IsTagged self r
  tagged_request r e = same_bytes-true r.tag (request_tag self.secret r.client r.seq r.op) e

  tagged_all : (l : List Request) → list_all (is_rightly_tagged self.secret) l ≡ true → AllByRecursion (IsTagged self) l
  tagged_all [] e = tt
  tagged_all (r ∷ l) e = let p = and_parts (is_rightly_tagged self.secret r) (list_all (is_rightly_tagged self.secret) l) e in (tagged_request r p.0, tagged_all l p.1)

  tagged_batches : (l : List Batch) → list_all (are_rightly_tagged self.secret) l ≡ true → AllByRecursion (AreTagged self) l
  tagged_batches [] e = tt
  tagged_batches (b ∷ l) e = let p = and_parts (are_rightly_tagged self.secret b) (list_all (are_rightly_tagged self.secret) l) e in (tagged_all b.requests p.0, tagged_batches l p.1)

  certified_so : (m : StampedMessage) → valid self (record { host = (ui_of m).host; counter = (ui_of m).counter; says = bare_of m; cert = (ui_of m).cert }) ≡ true → IsCertified self m
  certified_so m e = same_bytes-true (ui_of m).cert (certificate self.secret (ui_of m).host (ui_of m).counter (bare_bytes (bare_of m))) e

  usable_so : (m : ViewChange) → change_fault self m ≡ None → IsUsable self m
  usable_so m none b is = whole_none _ m.body b none is

  if_member : (t : Bool) (o : Option Fault) → (if t then option_map (λ (f : Fault). f.1) o else Some 10) ≡ None → (t ≡ true) × (o ≡ None)
  if_member true None e = (refl, refl)
  if_member true (Some f) e = absurd cc
  if_member false o e = absurd cc

  member_so : (v : ℕ) (m : ViewChange) → member_fault self v m ≡ None → IsMember self v m
  member_so v m none =
      let t = if_member (is_member self v m) (change_fault self m) none in
      let p = and_parts (m.view == v) (valid self (record { host = m.ui.host; counter = m.ui.counter; says = bare_of (stamped.ViewChange m); cert = m.ui.cert })) t.0 in
      record { to = eqb-true m.view v p.0; certified = certified_so (stamped.ViewChange m) p.1; usable = usable_so m t.1 }

  members_so : (v i : ℕ) (l : List ViewChange) → members_fault self v i l ≡ None → AllByRecursion (IsMember self v) l
  unfolding members_fault
  members_so v i [] e = tt
  members_so v i (m ∷ l) e =
      let p = or_none (option_map (λ (reason : ℕ). (i, reason)) (member_fault self v m)) (members_fault self v (i + 1) l) e in
      (member_so v m (map_none (λ (reason : ℕ). (i, reason)) (member_fault self v m) p.0), members_so v (i + 1) l p.1)

  planned_so : (m : NewView) (b : NewViewBody) → new_view_fault self m b ≡ None → IsPlanned self m b
  unfolding new_view_fault
  planned_so m b e =
      let plan : Plan = plan_from self b.changes in
      let p = or_none (members_fault self m.view 0 b.changes) (then_some (not (announces self m plan)) (255, 11)) e in
      let is : announces self m plan ≡ true = not_false (announces self m plan) (then_none (not (announces self m plan)) (255, 11) p.1) in
      let q = and_parts (m.base == plan.base.pos) (m.end == plan_end plan && same_bytes m.plan (plan_digest plan)) is in
      let r = and_parts (m.end == plan_end plan) (same_bytes m.plan (plan_digest plan)) q.1 in
      record {
        members = members_so m.view 0 b.changes p.0;
        base = eqb-true m.base plan.base.pos q.0;
        end = eqb-true m.end (plan_end plan) r.0;
        plan = same_bytes-true m.plan (plan_digest plan) r.1;
      }

  plan_so : (e : Evidence) (b : OpenBody) → opening_fault self e b ≡ None → IsPlanOf self e b
  plan_so e b none =
      let whole : is_plan_body self.shape self.secret (valid self) e.base e.end e.plan b ≡ true = not_false _ (then_none (not (is_plan_body self.shape self.secret (valid self) e.base e.end e.plan b)) (0, 8) none) in
      let digest : Bytes = plan_digest (record { base = record b.stable { pos = e.base }; batches = b.batches }) in
      let p = and_parts (is_comparable_body self.shape self.secret (valid self) e.base e.end b) (same_bytes e.plan digest) whole in
      let q = and_parts (is_stable self.shape (valid self) b.stable) (b.stable.pos == e.base && (length b.batches == e.end - e.base && list_all (are_rightly_tagged self.secret) b.batches)) p.0 in
      let r = and_parts (b.stable.pos == e.base) (length b.batches == e.end - e.base && list_all (are_rightly_tagged self.secret) b.batches) q.1 in
      let t = and_parts (length b.batches == e.end - e.base) (list_all (are_rightly_tagged self.secret) b.batches) r.1 in
      let base : b.stable.pos ≡ e.base = eqb-true b.stable.pos e.base r.0 in
      record {
        stable = q.0;
        base = base;
        count = eqb-true (length b.batches) (e.end - e.base) t.0;
        tagged = tagged_batches b.batches t.1;
        plan = subst (λ (n : ℕ). e.plan ≡ plan_digest (record { base = record b.stable { pos = n }; batches = b.batches })) (sym base) (same_bytes-true e.plan digest p.1);
      }

  floor_there : (h : ℕ) (o : Option FloorCert) → is_certified_floor self h o ≡ true → (c : FloorCert) → o ≡ Some c → (f : Floor) × (certified_floor self.shape (valid self) h c ≡ Some f)
  floor_there h None e c is = absurd cc
  floor_there h (Some x) e c is = subst (λ (y : FloorCert). (f : Floor) × (certified_floor self.shape (valid self) h y ≡ Some f)) (some_is x c is) (there (certified_floor self.shape (valid self) h x) e)

  evidence_there : (o : Option Evidence) → is_certified_evidence self o ≡ true → (c : Evidence) → o ≡ Some c → is_evidence self.shape (valid self) c ≡ true
  evidence_there None e c is = absurd cc
  evidence_there (Some x) e c is = subst (λ (y : Evidence). is_evidence self.shape (valid self) y ≡ true) (some_is x c is) e

  pub log_so : (m : Log) → PassesLog self m → IsValidLog self m
  log_so m p = record {
    other = eqb-false m.host self.host p.not_own;
    floor = λ c is. floor_there m.host m.floor p.floor c is;
    stable = p.stable;
    evidence = λ e is. evidence_there m.evidence p.evidence e is;
  }

-- A gate that is closed below no counter is closed at none that has been reached.
not_shut : (o : Option ℕ) (n : ℕ) → shut_before o n ≡ None → ((x : ℕ) → o ≡ Some x → x ≤ n) → o ≡ None
not_shut None n e low = refl
not_shut (Some x) n e low = let f : Some x ≡ None = rw (le-leb x n (low x refl)) at e in absurd cc

module _ {S : Type 0} (self : Identity S) (d : History) where
  -- ---- stamped messages

  next_so : (m : StampedMessage) → IsOwn self d → IsShut d → PassesGate self d m → IsNextOfSender self d m
  next_so m own shut p =
      let next = p.next in
      record {
        certified = certified_so self m p.certified;
        other = eqb-false (ui_of m).host self.host (own_passed self d m own p);
        free = not_shut (closed_at d (ui_of m).host) (ui_of m).counter p.not_convicted (λ x is. let low = shut (ui_of m).host x is in omega (arith, low, next));
        next = p.next;
        permitted = p.permitted;
      }

  shown_so : (pos : ℕ) (body : Body Batch) → PassesBody self d pos body → IsShown self d pos body
  shown_so pos (Whole b) p = tagged_all self b.requests (not_false (list_all (is_rightly_tagged self.secret) b.requests) p)
  shown_so pos (Short digest) p = ltb-false (exec_of d) pos p

  vote_so : (view pos : ℕ) (body : Body Batch) → PassesVote self d view pos body → IsVote self d view pos body
  vote_so view pos body p = record {
    reached = ltb-false (view_of self d) view p.not_later;
    near = λ own. ltb-false (low_of self d + span self.shape) pos (p.within (eq-eqb (view_of self d) view (sym own)));
    shown = λ own. shown_so pos body (p.shown (eq-eqb (view_of self d) view (sym own)));
  }

  -- ---- the others

  above_so : (r : Request) (o : Option Request) → is_behind_pending o r ≡ false → (q : Request) → o ≡ Some q → q.seq < r.seq
  above_so r None e q is = absurd cc
  above_so r (Some x) e q is = subst (λ (y : Request). y.seq < r.seq) (some_is x q is) (leb-false r.seq x.seq e)

  request_so : (r : Request) → PassesRequest self d r → IsNewRequest self d r
  request_so r p = record {
    tagged = tagged_request self r (not_false (is_rightly_tagged self.secret r) p.tagged);
    fresh = ltb-true (reply_of (state_of self d) r.client).seq r.seq p.fresh;
    above = above_so r (pending self d r.client) p.above;
  }

  wish_so : (m : ReqViewChange) → PassesWish self d m → IsGreaterWish self d m
  wish_so m p = record {
    tagged = same_bytes-true m.tag (wish_tag self.secret m.host m.view) (not_false (same_bytes m.tag (wish_tag self.secret m.host m.view)) p.tagged);
    above = ltb-true (wish_of self d m.host) m.view p.above;
  }

  news_so : (m : Resend) → has_news_for self d m ≡ true → (expected self m ≤ counter_of d) ⊎ (m.low < low_of self d)
  news_so m e = elim (or_cases (nat_le (expected self m) (counter_of d)) (nat_lt m.low (low_of self d)) e) [
    | inl expects ↦ inl (leb-true (expected self m) (counter_of d) expects)
    | inr lower ↦ inr (ltb-true m.low (low_of self d) lower)
  ]

  resend_so : (m : Resend) → PassesResend self d m → AsksForNews self d m
  resend_so m p = record { other = eqb-false m.host self.host p.not_own; news = news_so m p.has_news }

  -- An executed position has left the parts of its state.
  executed_there : (h : History) (pos : ℕ) (parts : List Bytes) → parts_after self h pos ≡ Some parts → (slot : Slot) × (In h (Executed slot)) × (slot.pos ≡ pos)
  unfolding parts_after
  executed_there [] pos parts e = absurd cc
  executed_there (Executed slot ∷ h) pos parts e = elim (cases_Bool (slot.pos == pos)) [
    | inl here ↦ (slot, inl refl, eqb-true slot.pos pos here)
    | inr other ↦ let r = executed_there h pos parts (rw other at e) in (r.0, inr r.1, r.2)
  ]
  executed_there (x ∷ h) pos parts e = let r = executed_there h pos parts e in (r.0, inr r.1, r.2)

  fetch_so : (m : Fetch) → PassesFetch self d m → AsksForState self d m
  fetch_so m p =
      let o = there (snapshot_of self d m.pos) p.has_snapshot in
      let t = if_some ((m.pos % interval self.shape == 0) && nat_le (low_of self d) m.pos) (parts_after self d m.pos) o.0 o.1 in
      let q = and_parts (m.pos % interval self.shape == 0) (nat_le (low_of self d) m.pos) t.0 in
      let r = executed_there d m.pos o.0 t.1 in
      record {
        asked = eqb-true m.of self.host p.asked;
        slot = r.0;
        executed = contained d (Executed r.0) r.1;
        position = r.2;
        multiple = eqb-true (m.pos % interval self.shape) 0 q.0;
        above = leb-true (low_of self d) m.pos q.1;
      }

  whole_so : (o : Option ℕ) (r : Result (Served S) (ℕ × ℕ)) → (if is_none o then fault_of self r else None) ≡ None → o ≡ None → (x : Served S) × (r ≡ Ok x)
  whole_so None (Ok x) e is = (x, refl)
  whole_so None (Err f) e is = absurd cc
  whole_so (Some i) r e is = absurd cc

  wanted_so : (a b : Bool) → (if a then b else false) ≡ true → (a ≡ true) × (b ≡ true)
  wanted_so true b e = (refl, e)
  wanted_so false b e = absurd cc

  state_so : (m : StateMsg) → PassesState self d m → BringsParts self d m
  state_so m p =
      let w = wanted_so (m.pos == low_of self d) (nat_lt (exec_of d) (low_of self d)) p.wanted in
      let lacks = one_fails (λ (i : ℕ). is_some (part_held self d i)) m.first (length m.parts) p.not_held in
      record {
        position = eqb-true m.pos (low_of self d) w.0;
        behind = ltb-true (exec_of d) (low_of self d) w.1;
        list = same_bytes-true (sha256 (digest_string m.digests m.pos)) (stable_of self d).state p.list;
        parts = parts_certified m.digests m.parts m.first p.parts;
        news = (lacks.0, lacks.1, gone (part_held self d (m.first + lacks.0)) lacks.2);
        whole = whole_so (missing self (Accepted (message.State m) ∷ d)) (state_from self (parts_held self (Accepted (message.State m) ∷ d))) p.state;
      }

  -- ---- each kind

  pub valid_so : (m : Message) → IsNoLog self d m → IsOwn self d → IsShut d → Passes self d m → IsValid self d m
  valid_so (message.Request m) n own shut p = request_so m p
  valid_so (message.Prepare m) n own shut p = (next_so (stamped.Prepare m) own shut p.gate, vote_so m.view m.pos m.body p.kind)
  valid_so (message.Commit m) n own shut p = (next_so (stamped.Commit m) own shut p.gate, vote_so m.view m.pos m.body p.kind)
  valid_so (message.Reply m) n own shut p = p
  valid_so (message.Checkpoint m) n own shut p = (next_so (stamped.Checkpoint m) own shut p.gate, ltb-false (low_of self d + span self.shape) m.pos p.kind)
  valid_so (message.ReqViewChange m) n own shut p = wish_so m p
  valid_so (message.ViewChange m) n own shut p = (next_so (stamped.ViewChange m) own shut p.gate, λ now. usable_so self m (p.kind (le-leb (view_of self d) m.view now)))
  valid_so (message.NewView m) n own shut p = (next_so (stamped.NewView m) own shut p.gate, λ b now whole. planned_so self m b (whole_none (new_view_fault self m) m.body b (p.kind (le-leb (view_of self d) m.view now)) whole))
  valid_so (message.Enter m) n own shut p = next_so (stamped.Enter m) own shut p.gate
  valid_so (message.Open m) n own shut p =
      (next_so (stamped.Open m) own shut p.gate, λ b now whole. plan_so self m.evidence b (whole_none (opening_fault self m.evidence) m.body b (p.kind (le-leb (view_of self d) m.evidence.view now)) whole))
  valid_so (message.Join m) n own shut p = next_so (stamped.Join m) own shut p.gate
  valid_so (message.Resend m) n own shut p = resend_so m p
  valid_so (message.Log m) n own shut p = absurd n
  valid_so (message.Fetch m) n own shut p = fetch_so m p
  valid_so (message.State m) n own shut p = state_so m p
  valid_so (message.Stop m) n own shut p = p

-- ---- a history

module _ {S : Type 0} (self : Identity S) (d : History) where
  was_passed : (later before : History) (m : Message) → d ≡ later ++ Accepted m ∷ before → Arises self d → Passes self before m × Arises self before
  was_passed later before m is arises = arises_by self later (Accepted m ∷ before) (subst (λ (h : History). Arises self h) is arises)

  no_log : (before : History) (m : Message) → IsNoLog self d m → IsNoLog self before m
  no_log before (message.Log m) n = n
  no_log before m n = tt

  pub only_valid : Arises self d → AreShut d → AcceptsOnlyValid self d
  only_valid arises shut later before m n is =
      let p = was_passed later before m is arises in
      let earlier : AreShut before = (shut_past later (Accepted m ∷ before) (subst AreShut is shut)).1 in
      valid_so self before m (no_log before m n) (steady self before p.1).list.own (shut_at before earlier) p.0

  pub only_valid_logs : Arises self d → AcceptsOnlyValidLogs self d
  only_valid_logs arises later before m is = log_so self m (was_passed later before (message.Log m) is arises).0
