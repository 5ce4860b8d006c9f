-- A valid message passes the tests that refuse, so it is taken.
use Rattle.std.proofs.Common.{◌≡◌, ℕ, zero, suc, ◌+◌, ◌-◌, ◌<◌, ◌≤◌, Bool, true, false, not, List, [], ◌∷◌, ◌⊎◌, length, refl, sym, ap, subst, ◌∙◌, arith, inl, inr, Option, Some, None, Ok}
use Rattle.std.specs.Prelude.{◌==◌, ◌%◌, Result, nat_le, find, slice_get, unwrap_or, is_some, is_none, option_map, option_and_then, if◌then◌else◌}
use Rattle.std.specs.Option.{option_or}
use Rattle.std.specs.List.{AllByRecursion, list_all, range_with_len}
use Rattle.std.proofs.lemmas.Bool.{cases_Bool, and_from, eq-eqb, eqb-true, lt-ltb, lt-leb, le-ltb, le-leb, leb-true, ne_eqb}
use Rattle.std.proofs.lemmas.List.Folds.{list_all_at}
use Rattle.std.proofs.lemmas.List.FromFn.{length-range_with_len, get_or-range_with_len}
use Rattle.sha2.specs.Sha256.{sha256}
use Rattle.mb_base.specs.Shapes.{Bytes, interval, span}
use Rattle.mb_usig.specs.Tags.{same_bytes, certificate, request_tag, wish_tag}
use Rattle.mb_usig.proofs.Laws.{true-same_bytes}
use Rattle.mb_parts.specs.declared.request.Request.{Request}
use Rattle.mb_parts.specs.declared.batch.Batch.{Batch}
use Rattle.mb_parts.specs.declared.certificates.Evidence.{Evidence}
use Rattle.mb_parts.specs.Bares.{bare_bytes}
use Rattle.mb_msg.specs.declared.message.Body.{Body}
use Rattle.mb_msg.specs.declared.message.Body.TheVariants.{Whole, Bare as Short}
use Rattle.mb_msg.specs.declared.message.Message.{Message}
use Rattle.mb_msg.specs.declared.message.Message.TheVariants as message
use Rattle.mb_msg.specs.declared.normal.Prepare.{Prepare}
use Rattle.mb_msg.specs.declared.normal.Commit.{Commit}
use Rattle.mb_msg.specs.declared.change.ReqViewChange.{ReqViewChange}
use Rattle.mb_msg.specs.declared.change.ViewChange.{ViewChange}
use Rattle.mb_msg.specs.declared.change.NewViewBody.{NewViewBody}
use Rattle.mb_msg.specs.declared.change.NewView.{NewView}
use Rattle.mb_msg.specs.declared.change.OpenBody.{OpenBody}
use Rattle.mb_msg.specs.declared.change.Plan.{Plan}
use Rattle.mb_msg.specs.declared.transfer.Resend.{Resend}
use Rattle.mb_msg.specs.declared.transfer.Fetch.{Fetch}
use Rattle.mb_msg.specs.declared.transfer.StateMsg.{StateMsg}
use Rattle.mb_msg.specs.declared.stamped.Stamped.{Stamped as StampedMessage}
use Rattle.mb_msg.specs.declared.stamped.Stamped.TheVariants as stamped
use Rattle.mb_msg.specs.declared.event.Slot.{Slot}
use Rattle.mb_msg.specs.Bodies.{whole_body}
use Rattle.mb_msg.specs.Plans.{plan_digest, plan_end}
use Rattle.mb_msg.specs.Stamps.{bare_of, ui_of}
use Rattle.mb_model.specs.Service.{Served, reply_of}
use Rattle.mb_model.specs.States.{digest_string}
use Rattle.mb_model.specs.Verified.{is_rightly_tagged, are_rightly_tagged}
use Rattle.mb_model.specs.UsableLogs.{Fault, is_plan_body}
use Rattle.mb_model.specs.Histories.{Accepted, Executed, History, Identity, view_of, counter_of}
use Rattle.mb_model.specs.Held.{wish_of, change_fault, plan_from}
use Rattle.mb_model.specs.Stable.{stable_of, low_of}
use Rattle.mb_model.specs.Positions.{exec_of}
use Rattle.mb_model.specs.Execution.{state_of, state_from, pending, parts_after, part_held, parts_held, missing}
use Rattle.mb_model.specs.Making.{expected}
use Rattle.mb_model.specs.GateChecks.{valid, stamp_claim}
use Rattle.mb_model.specs.KindChecks.{is_member, member_fault, members_fault, announces, new_view_fault, opening_fault}
use Rattle.mb_model.specs.PlainChecks.{string_at, wrong_part, is_behind_pending, has_news_for, fault_of}
use Rattle.mb_model.specs.Passed.{PassesGate, PassesBody, PassesVote, PassesStamped, PassesRequest, PassesWish, PassesResend, PassesFetch, PassesState, Passes}
use Rattle.mb_model.specs.Members.{In}
use Rattle.mb_model.proofs.Members.{in_contained}
use Rattle.mb_world_model.specs.World.{System, self_of}
use Rattle.mb_world_model.specs.WorldSteps.{world}
use Rattle.mb_promise.specs.TakesValid.{IsCertified, IsTagged, AreTagged, IsUsable, IsMember, IsPlanned, IsPlanOf, IsNextOfSender, IsShown, IsVote, IsNewRequest, IsGreaterWish, AsksForNews, AsksForState, BringsParts, IsValid, TakesWhatIsValid}
use Rattle.mb_promise.specs.NothingLeft.{IsNoLog}
use Rattle.mb_obligations.proofs.Taken.{takes_what_passes}

-- ---- options and lists

both_none : {A : Type 0} (x y : Option A) → x ≡ None → y ≡ None → option_or x y ≡ None
both_none None y a b = b
both_none (Some x) y a b = absurd cc

-- A fault that is looked for where a body is whole.
no_fault : {B : Type 0} (f : B → Option Fault) (body : Body B) → ((b : B) → body ≡ Whole b → f b ≡ None) → option_and_then f (whole_body body) ≡ None
no_fault f (Whole b) sound = sound b refl
no_fault f (Short digest) sound = refl

there_at : {A : Type 0} (l : List A) (i : ℕ) → i < length l → (x : A) × (slice_get l i ≡ Some x)
there_at [] i lt = absurd (omega (arith, lt))
there_at (y ∷ l) zero lt = (y, refl)
there_at (y ∷ l) (suc i) lt = there_at l i (omega (arith, lt))

-- a search through a range each of whose numbers fails
none_from : (t : ℕ → Bool) (a n : ℕ) → ((i : ℕ) → i < n → t (a + i) ≡ false) → find t (range_with_len a n) ≡ None
none_from t a zero f = refl
none_from t a (suc n) f =
    let first : a + 0 ≡ a = omega arith in
    let here : t a ≡ false = subst (λ (k : ℕ). t k ≡ false) first (f 0 (omega arith)) in
    rw here (none_from t (a + 1) n (λ i lt. later i lt)) where
      later : (i : ℕ) → i < n → t ((a + 1) + i) ≡ false
      later i lt = let place : a + suc i ≡ (a + 1) + i = omega arith in subst (λ (k : ℕ). t k ≡ false) place (f (suc i) (omega (arith, lt)))

-- a number of a range that fails
not_all : (t : ℕ → Bool) (a n i : ℕ) → i < n → t (a + i) ≡ false → list_all t (range_with_len a n) ≡ false
not_all t a n i lt off =
    let many = length-range_with_len a n in
    list_all_at t (range_with_len a n) i 0 (omega (arith, many, lt)) (subst (λ (k : ℕ). t k ≡ false) (sym (get_or-range_with_len a n i 0 lt)) off)

module _ {S : Type 0} (self : Identity S) where
  -- ---- what is right in itself

  all_tagged : (l : List Request) → AllByRecursion (IsTagged self) l → list_all (is_rightly_tagged self.secret) l ≡ true
  all_tagged [] a = refl
  all_tagged (r ∷ l) a = rw (true-same_bytes r.tag (request_tag self.secret r.client r.seq r.op) a.0, all_tagged l a.1) refl

  all_batches : (l : List Batch) → AllByRecursion (AreTagged self) l → list_all (are_rightly_tagged self.secret) l ≡ true
  all_batches [] a = refl
  all_batches (b ∷ l) a = and_from _ _ (all_tagged b.requests a.0) (all_batches l a.1)

  pub certified : (m : StampedMessage) → IsCertified self m → valid self (stamp_claim m) ≡ true
  certified m c = true-same_bytes (ui_of m).cert (certificate self.secret (ui_of m).host (ui_of m).counter (bare_bytes (bare_of m))) c

  usable : (m : ViewChange) → IsUsable self m → change_fault self m ≡ None
  usable m u = no_fault _ m.body u

  member_passes : (v : ℕ) (m : ViewChange) → IsMember self v m → member_fault self v m ≡ None
  member_passes v m x =
      let is : is_member self v m ≡ true = and_from _ _ (eq-eqb m.view v x.to) (certified (stamped.ViewChange m) x.certified) in
      let none : change_fault self m ≡ None = usable m x.usable in
      rw is (rw none refl)

  members_pass : (v i : ℕ) (l : List ViewChange) → AllByRecursion (IsMember self v) l → members_fault self v i l ≡ None
  unfolding members_fault
  members_pass v i [] a = refl
  members_pass v i (m ∷ l) a = both_none _ _ (ap (λ (o : Option ℕ). option_map (λ (reason : ℕ). (i, reason)) o) (member_passes v m a.0)) (members_pass v (i + 1) l a.1)

  planned_passes : (m : NewView) (b : NewViewBody) → IsPlanned self m b → new_view_fault self m b ≡ None
  unfolding new_view_fault
  planned_passes m b p =
      let plan : Plan = plan_from self b.changes in
      let is : announces self m plan ≡ true = and_from _ _ (eq-eqb m.base plan.base.pos p.base) (and_from _ _ (eq-eqb m.end (plan_end plan) p.end) (true-same_bytes m.plan (plan_digest plan) p.plan)) in
      both_none _ _ (members_pass m.view 0 b.changes p.members) (rw is refl)

  opening_passes : (e : Evidence) (b : OpenBody) → IsPlanOf self e b → opening_fault self e b ≡ None
  opening_passes e b p =
      let body : is_plan_body self.shape self.secret (valid self) e.base e.end e.plan b ≡ true =
      and_from _ _ (and_from _ _ p.stable (and_from _ _ (eq-eqb b.stable.pos e.base p.base) (and_from _ _ (eq-eqb (length b.batches) (e.end - e.base) p.count) (all_batches b.batches p.tagged)))) digest in
      rw body refl where
        digest : same_bytes e.plan (plan_digest (record { base = record b.stable { pos = e.base }; batches = b.batches })) ≡ true
        digest = true-same_bytes e.plan _ (subst (λ (n : ℕ). e.plan ≡ plan_digest (record { base = record b.stable { pos = n }; batches = b.batches })) p.base p.plan)

  -- Each part has its digest in the list.
  parts_right : (digests parts : List Bytes) (first : ℕ) → ((i : ℕ) (part : Bytes) → slice_get parts i ≡ Some part → slice_get digests (first + i) ≡ Some (sha256 part)) → wrong_part digests first parts ≡ None
  unfolding wrong_part
  parts_right digests parts first listed = none_from _ first (length parts) right where
    right : (i : ℕ) → i < length parts → not (same_bytes (sha256 (string_at parts ((first + i) - first))) (string_at digests (first + i))) ≡ false
    right i lt =
        let p = there_at parts i lt in
        let place : i ≡ (first + i) - first = omega arith in
        let here : string_at parts i ≡ p.0 = ap (λ (o : Option Bytes). unwrap_or o []) p.1 in
        let there : string_at digests (first + i) ≡ sha256 p.0 = ap (λ (o : Option Bytes). unwrap_or o []) (listed i p.0 p.1) in
        let same : same_bytes (sha256 (string_at parts i)) (string_at digests (first + i)) ≡ true = true-same_bytes _ _ (ap sha256 here ∙ sym there) in
        subst (λ (k : ℕ). not (same_bytes (sha256 (string_at parts k)) (string_at digests (first + i))) ≡ false) place (ap not same)

  no_state : (o : Option ℕ) (r : Result (Served S) (ℕ × ℕ)) → (o ≡ None → (x : Served S) × (r ≡ Ok x)) → (if is_none o then fault_of self r else None) ≡ None
  no_state None r whole = let w = whole refl in rw w.1 refl
  no_state (Some i) r whole = refl

  executed_is : (s t : Slot) → Executed s ≡ Executed t → s ≡ t
  executed_is s t e = cc

  -- An executed position has the parts of the state behind it.
  kept_after : (d : History) (slot : Slot) (pos : ℕ) → In d (Executed slot) → slot.pos ≡ pos → is_some (parts_after self d pos) ≡ true
  unfolding parts_after
  kept_after [] slot pos i at = absurd i
  kept_after (Executed s ∷ d) slot pos (inl is) at = rw (eq-eqb s.pos pos (ap (λ (t : Slot). t.pos) (executed_is s slot is) ∙ at)) refl
  kept_after (Executed s ∷ d) slot pos (inr i) at = elim (cases_Bool (s.pos == pos)) [
    | inl here ↦ rw here refl
    | inr other ↦ rw other (kept_after d slot pos i at)
  ]
  kept_after (x ∷ d) slot pos (inl is) at = absurd cc
  kept_after (x ∷ d) slot pos (inr i) at = kept_after d slot pos i at

module _ {S : Type 0} (self : Identity S) (d : History) where
  -- ---- stamped messages

  gate_passes : (m : StampedMessage) → IsNextOfSender self d m → PassesGate self d m
  gate_passes m n = record {
    certified = certified self m n.certified;
    not_future = rw (ne_eqb (ui_of m).host self.host n.other) refl;
    not_convicted = rw n.free refl;
    next = n.next;
    permitted = n.permitted;
  }

  body_passes : (pos : ℕ) (body : Body Batch) → IsShown self d pos body → PassesBody self d pos body
  body_passes pos (Whole b) tagged = rw (all_tagged self b.requests tagged) refl
  body_passes pos (Short digest) done = le-ltb (exec_of d) pos done

  vote_passes : (view pos : ℕ) (body : Body Batch) → IsVote self d view pos body → PassesVote self d view pos body
  vote_passes view pos body v = record {
    not_later = le-ltb (view_of self d) view v.reached;
    within = λ here. le-ltb (low_of self d + span self.shape) pos (v.near (sym (eqb-true (view_of self d) view here)));
    shown = λ here. body_passes pos body (v.shown (sym (eqb-true (view_of self d) view here)));
  }

  -- ---- the others

  above_pending : (r : Request) (o : Option Request) → ((q : Request) → o ≡ Some q → q.seq < r.seq) → is_behind_pending o r ≡ false
  above_pending r None above = refl
  above_pending r (Some q) above = lt-leb r.seq q.seq (above q refl)

  request_passes : (r : Request) → IsNewRequest self d r → PassesRequest self d r
  request_passes r n = record {
    tagged = rw (true-same_bytes r.tag (request_tag self.secret r.client r.seq r.op) n.tagged) refl;
    fresh = lt-ltb (reply_of (state_of self d) r.client).seq r.seq n.fresh;
    above = above_pending r (pending self d r.client) n.above;
  }

  wish_passes : (m : ReqViewChange) → IsGreaterWish self d m → PassesWish self d m
  wish_passes m w = record {
    tagged = rw (true-same_bytes m.tag (wish_tag self.secret m.host m.view) w.tagged) refl;
    above = lt-ltb (wish_of self d m.host) m.view w.above;
  }

  has_news : (m : Resend) → (expected self m ≤ counter_of d) ⊎ (m.low < low_of self d) → has_news_for self d m ≡ true
  has_news m (inl news) = rw (le-leb (expected self m) (counter_of d) news) refl
  has_news m (inr low) = elim (cases_Bool (nat_le (expected self m) (counter_of d))) [
    | inl news ↦ rw news refl
    | inr none ↦ rw (none, lt-ltb m.low (low_of self d) low) refl
  ]

  resend_passes : (m : Resend) → AsksForNews self d m → PassesResend self d m
  resend_passes m a = record { not_own = ne_eqb m.host self.host a.other; has_news = has_news m a.news }

  fetch_passes : (m : Fetch) → AsksForState self d m → PassesFetch self d m
  fetch_passes m a = record {
    asked = eq-eqb m.of self.host a.asked;
    has_snapshot = rw (eq-eqb (m.pos % interval self.shape) 0 a.multiple, le-leb (low_of self d) m.pos a.above) (kept_after self d a.slot m.pos (in_contained d (Executed a.slot) a.executed) a.position);
  }

  state_passes : (m : StateMsg) → BringsParts self d m → PassesState self d m
  state_passes m b =
      let lacks : is_some (part_held self d (m.first + b.news.0)) ≡ false = ap (λ (o : Option Bytes). is_some o) b.news.2 in
      record {
        wanted = rw (eq-eqb m.pos (low_of self d) b.position, lt-ltb (exec_of d) (low_of self d) b.behind) refl;
        list = true-same_bytes (sha256 (digest_string m.digests m.pos)) (stable_of self d).state b.list;
        parts = parts_right self m.digests m.parts m.first b.parts;
        not_held = not_all (λ (i : ℕ). is_some (part_held self d i)) m.first (length m.parts) b.news.0 b.news.1 lacks;
        state = no_state self (missing self (Accepted (message.State m) ∷ d)) (state_from self (parts_held self (Accepted (message.State m) ∷ d))) b.whole;
      }

  -- ---- each kind

  pub prepare_passes : (m : Prepare) → IsNextOfSender self d (stamped.Prepare m) → IsVote self d m.view m.pos m.body → PassesStamped self d (stamped.Prepare m)
  prepare_passes m n v = record { gate = gate_passes (stamped.Prepare m) n; kind = vote_passes m.view m.pos m.body v }

  pub commit_passes : (m : Commit) → IsNextOfSender self d (stamped.Commit m) → IsVote self d m.view m.pos m.body → PassesStamped self d (stamped.Commit m)
  commit_passes m n v = record { gate = gate_passes (stamped.Commit m) n; kind = vote_passes m.view m.pos m.body v }

  pub valid_passes : (m : Message) → IsValid self d m → Passes self d m
  valid_passes (message.Request m) v = request_passes m v
  valid_passes (message.Prepare m) v = prepare_passes m v.0 v.1
  valid_passes (message.Commit m) v = commit_passes m v.0 v.1
  valid_passes (message.Reply m) v = v
  valid_passes (message.Checkpoint m) v = record { gate = gate_passes (stamped.Checkpoint m) v.0; kind = le-ltb (low_of self d + span self.shape) m.pos v.1 }
  valid_passes (message.ReqViewChange m) v = wish_passes m v
  valid_passes (message.ViewChange m) v = record { gate = gate_passes (stamped.ViewChange m) v.0; kind = λ now. usable self m (v.1 (leb-true (view_of self d) m.view now)) }
  valid_passes (message.NewView m) v = record {
    gate = gate_passes (stamped.NewView m) v.0;
    kind = λ now. no_fault (new_view_fault self m) m.body (λ b whole. planned_passes self m b (v.1 b (leb-true (view_of self d) m.view now) whole));
  }
  valid_passes (message.Enter m) v = record { gate = gate_passes (stamped.Enter m) v; kind = tt }
  valid_passes (message.Open m) v = record {
    gate = gate_passes (stamped.Open m) v.0;
    kind = λ now. no_fault (opening_fault self m.evidence) m.body (λ b whole. opening_passes self m.evidence b (v.1 b (leb-true (view_of self d) m.evidence.view now) whole));
  }
  valid_passes (message.Join m) v = record { gate = gate_passes (stamped.Join m) v; kind = tt }
  valid_passes (message.Resend m) v = resend_passes m v
  valid_passes (message.Log m) v = absurd v
  valid_passes (message.Fetch m) v = fetch_passes m v
  valid_passes (message.State m) v = state_passes m v
  valid_passes (message.Stop m) v = v

  no_log : (m : Message) → IsValid self d m → IsNoLog self d m
  no_log (message.Log m) v = v
  no_log m v = tt

  pub takes_what_is_valid : TakesWhatIsValid self d
  takes_what_is_valid bytes m reads v = (takes_what_passes self d bytes m reads (no_log m v)).1 (valid_passes m v)

-- In each world each host takes each valid message.
pub hosts_take_what_is_valid : {S : Type 0} (system : System S) → (k h : ℕ) → TakesWhatIsValid (self_of system h) ((world system k).histories h)
hosts_take_what_is_valid system k h = takes_what_is_valid (self_of system h) ((world system k).histories h)
