-- What holds of all certificates and requests in what a host accepted and stamped holds of those in what it finds there: batches of slots, requests that
-- wait, VIEW_CHANGEs that are stored, and the batches of a plan.
use Rattle.std.proofs.Common.{◌≡◌, ℕ, zero, suc, ◌+◌, ◌-◌, ◌&&◌, List, [], ◌∷◌, length, take, refl, subst, inl, inr, eqb, Option, Some, None}
use Rattle.std.specs.Prelude.{◌==◌, not, filter, find, nat_lt, nat_le, is_none, slice_get, option_map, option_and_then}
use Rattle.std.specs.List.{AllByRecursion, range_with_len, flat_map}
use Rattle.std.proofs.lemmas.Bool.{cases_Bool}
use Rattle.mb_base.specs.Limits.{batch_limit}
use Rattle.mb_base.specs.Shapes.{quorum, host_count, client_count}
use Rattle.mb_parts.specs.declared.request.Request.{Request}
use Rattle.mb_parts.specs.declared.batch.Batch.{Batch}
use Rattle.mb_parts.specs.declared.certificates.Evidence.{Evidence}
use Rattle.mb_parts.specs.declared.certificates.StableCert.{StableCert}
use Rattle.mb_parts.specs.Claims.{Claim}
use Rattle.mb_parts.specs.Spelling.{request_bytes, batch_bytes}
use Rattle.mb_msg.specs.declared.message.Body.{Body}
use Rattle.mb_msg.specs.declared.message.Body.TheVariants.{Whole, Bare as Short}
use Rattle.mb_msg.specs.declared.message.Message.TheVariants as message
use Rattle.mb_msg.specs.declared.normal.Prepare.{Prepare}
use Rattle.mb_msg.specs.declared.change.ChangeBody.{ChangeBody}
use Rattle.mb_msg.specs.declared.change.ViewChange.{ViewChange}
use Rattle.mb_msg.specs.declared.change.NewView.{NewView}
use Rattle.mb_msg.specs.declared.change.NewViewBody.{NewViewBody}
use Rattle.mb_msg.specs.declared.change.Open.{Open}
use Rattle.mb_msg.specs.declared.change.OpenBody.{OpenBody}
use Rattle.mb_msg.specs.declared.change.Plan.{Plan}
use Rattle.mb_msg.specs.declared.stamped.Shown.{Shown}
use Rattle.mb_msg.specs.declared.stamped.Shown.TheVariants as shown
use Rattle.mb_msg.specs.declared.stamped.Stamped.TheVariants as stamped
use Rattle.mb_msg.specs.Bodies.{body_digest, whole_body}
use Rattle.mb_model.specs.declared.known.KnownSlot.{KnownSlot}
use Rattle.mb_model.specs.Batches.{has_place, fitting, first_batch}
use Rattle.mb_model.specs.Service.{Served as ServedState, is_fresh}
use Rattle.mb_model.specs.Histories.{Entry, Accepted, Stamped, Served, Installed, History, Identity}
use Rattle.mb_model.specs.Held.{is_current, change_fault, change_in, arrived, changes_of, by_rising_host, chosen, shown_log, logs_of, plan_from, plan_in_new_view, plan_in_open, gives_plan, plan_in, plan_held, plan_of_view}
use Rattle.mb_model.specs.Execution.{state_of, pending, if_fresh}
use Rattle.mb_model.specs.EnabledRules.{greatest_in_slots, window, unordered_of, unordered}
use Rattle.mb_model.specs.Plans.{ShownLog, ShownVote, newest, vote_with, plan_vote, vote_since}
use Rattle.mb_model.specs.Positions.{batch_from, slot_of_plan, slot_of_prepare, slot_of_open, slot_by, slot_in}
use Rattle.mb_model.specs.UsableLogs.{is_whole}
use Rattle.mb_model.proofs.Options.{or_some, if_some, map_some}
use Rattle.mb_steps.proofs.StepOwnSteady.{found_slot}
use Rattle.mb_steps.proofs.StepPlanBases.{all_append, all_filter, all_found, all_any}
use Rattle.mb_model.specs.Inside.{batch_requests, open_requests, shown_requests, change_requests, stamped_requests, requests_in}
use Rattle.mb_host_laws.proofs.Cases.{all_left, all_right, all_taken, some_is, then_some_of, whole_is}
use Rattle.mb_host_laws.proofs.Found.{above_is, all_newest}
use Rattle.mb_host_laws.proofs.PlanShows.{ShowsSound, plan_holds}
use Rattle.mb_host_laws.specs.Rests.{Each}
use Rattle.mb_encodable.proofs.Batches.{got}
use Rattle.mb_unforged.proofs.Forms.{OfMessage, OfStamped, from_message}

-- what holds of all members of joined lists holds of all members of each
pub each_flat : {A B : Type 0} (P : B → Type 0) (f : A → List B) (l : List A) → AllByRecursion P (flat_map f l) → AllByRecursion (λ x. AllByRecursion P (f x)) l
each_flat P f [] a = tt
each_flat P f (x ∷ l) a = (all_left P (f x) (flat_map f l) a, each_flat P f l (all_right P (f x) (flat_map f l) a))

fitting_all : (P : Request → Type 0) (most used : ℕ) (l : List Request) → AllByRecursion P l → AllByRecursion P (fitting most used l)
unfolding fitting
fitting_all P zero used l a = tt
fitting_all P (suc most) used [] a = tt
fitting_all P (suc most) used (r ∷ l) a = elim (cases_Bool (has_place used r)) [
  | inl place ↦ rw place (a.0, fitting_all P most (used + length (request_bytes r)) l a.1)
  | inr none ↦ rw none tt
]

module _ (Q : Request → Type 0) where
  abbrev pub OfBatch : Batch → Type 0
  OfBatch b = AllByRecursion Q b.requests

  -- ---- batches in bodies

  body_batch : (x : Body Batch) → AllByRecursion Q (batch_requests x) → (b : Batch) → whole_body x ≡ Some b → OfBatch b
  body_batch (Whole y) a b e = subst OfBatch (some_is y b e) a
  body_batch (Short d) a b e = absurd cc

  open_batches : (x : Body OpenBody) → AllByRecursion Q (open_requests x) → (b : OpenBody) → whole_body x ≡ Some b → AllByRecursion OfBatch b.batches
  open_batches (Whole y) a b e = subst (λ (z : OpenBody). AllByRecursion OfBatch z.batches) (some_is y b e) (each_flat Q (λ x. x.requests) y.batches a)
  open_batches (Short d) a b e = absurd cc

  -- ---- the plan of shown logs

  body_vote : (c : ℕ) (b : Body Batch) → AllByRecursion Q (batch_requests b) → (z : ShownVote) → vote_with c b ≡ Some z → OfBatch z.1
  body_vote c b a z e =
      let r = map_some (λ (x : Batch). (c, x)) (whole_body b) z e in
      subst (λ (y : ShownVote). OfBatch y.1) r.2 (body_batch b a r.0 r.1)

  plan_batch : (e : Evidence) (b : Body OpenBody) (p : ℕ) → AllByRecursion Q (open_requests b) → (z : ShownVote) → plan_vote e.base e.counter p b ≡ Some z → OfBatch z.1
  plan_batch e (Whole b) p a z is =
      let t = if_some (nat_lt e.base p) (option_map (λ x. (e.counter, x)) (slice_get b.batches (p - e.base - 1))) z is in
      let r = map_some (λ (x : Batch). (e.counter, x)) (slice_get b.batches (p - e.base - 1)) z t.1 in
      subst (λ (y : ShownVote). OfBatch y.1) r.2 (got OfBatch b.batches (each_flat Q (λ x. x.requests) b.batches a) (p - e.base - 1) r.0 r.1)
  plan_batch e (Short d) p a z is = absurd cc

  abbrev OfEntry : Shown → Type 0
  OfEntry e = AllByRecursion Q (shown_requests e)

  vote_batch : (p : ℕ) (l : List Shown) → AllByRecursion OfEntry l → (z : ShownVote) → vote_since p l ≡ Some z → OfBatch z.1
  vote_batch p [] a z e = absurd cc
  vote_batch p (shown.Prepare m ∷ l) a z e = elim (cases_Bool (m.pos == p)) [
    | inl here ↦ body_vote m.ui.counter m.body a.0 z (rw here at e)
    | inr other ↦ vote_batch p l a.1 z (rw other at e)
  ]
  vote_batch p (shown.Commit m ∷ l) a z e = elim (cases_Bool (m.pos == p)) [
    | inl here ↦ body_vote m.counter m.body a.0 z (rw here at e)
    | inr other ↦ vote_batch p l a.1 z (rw other at e)
  ]
  vote_batch p (shown.Open m ∷ l) a z e = plan_batch m.evidence m.body p a.0 z e
  vote_batch p (shown.Join m ∷ l) a z e = absurd cc
  vote_batch p (shown.Checkpoint m ∷ l) a z e = vote_batch p l a.1 z e
  vote_batch p (shown.ViewChange m ∷ l) a z e = vote_batch p l a.1 z e
  vote_batch p (shown.NewView m ∷ l) a z e = vote_batch p l a.1 z e
  vote_batch p (shown.Enter m ∷ l) a z e = vote_batch p l a.1 z e

  abbrev AnyCert : StableCert → Type 0
  AnyCert c = Unit {0}

  abbrev Shows : ShownLog → Type 0
  Shows log = ShowsSound AnyCert OfBatch log

  -- All requests that a VIEW_CHANGE shows have the property.
  abbrev pub OfChange : ViewChange → Type 0
  OfChange m = AllByRecursion Q (change_requests m)

  body_shows : (m : ViewChange) (b : ChangeBody) → OfChange m → m.body ≡ Whole b → Shows (record { host = m.ui.host; body = b })
  body_shows m b a is =
      let entries : AllByRecursion OfEntry b.entries = each_flat Q shown_requests b.entries (rw is at a) in
      record { stable = tt; base = λ c f. tt; batches = λ p z f. vote_batch p (newest (record { host = m.ui.host; body = b })) (all_newest OfEntry [] b.entries tt entries) z f }

  change_shows : (m : ViewChange) (log : ShownLog) → OfChange m → shown_log m ≡ Some log → Shows log
  change_shows m log a e =
      let r = map_some (λ (b : ChangeBody). record { host = m.ui.host; body = b }) (whole_body m.body) log e in
      subst Shows r.2 (body_shows m r.0 a (whole_is m.body r.0 r.1))

  -- the batches of a plan
  abbrev pub OfPlan : Plan → Type 0
  OfPlan plan = AllByRecursion OfBatch plan.batches

module _ {S : Type 0} (self : Identity S) (P : Claim → Type 0) (Q : Request → Type 0) where
  -- All certificates and requests of what was accepted and stamped have these properties.
  abbrev pub IsCarried : Entry → History → Type 0
  IsCarried (Accepted m) d = OfMessage self.shape P Q m
  IsCarried (Stamped m) d = OfStamped self.shape P Q m
  IsCarried e d = Unit {0}

  abbrev pub AllCarried : History → Type 0
  AllCarried d = Each IsCarried d

  -- ---- slots

  abbrev OfSlot : KnownSlot → Type 0
  OfSlot k = (b : Batch) → k.batch ≡ Some b → OfBatch Q b

  prepare_slot : (m : Prepare) → AllByRecursion Q (batch_requests m.body) → (v p : ℕ) (k : KnownSlot) → slot_of_prepare m v p ≡ Some k → OfSlot k
  prepare_slot m a v p k e =
      let made : KnownSlot = record { counter = m.ui.counter; cert = m.ui.cert; digest = body_digest batch_bytes m.body; batch = whole_body m.body } in
      let t = if_some (m.view == v && m.pos == p) (Some made) k e in
      subst OfSlot (some_is made k t.1) (body_batch Q m.body a)

  open_slot : (m : Open) → AllByRecursion Q (open_requests m.body) → (v p : ℕ) (k : KnownSlot) → slot_of_open m v p ≡ Some k → OfSlot k
  open_slot m a v p k e =
      let t = if_some (m.evidence.view == v) (option_map (slot_of_plan m.evidence) (option_and_then (λ b. batch_from m.evidence.base p b.batches) (whole_body m.body))) k e in
      let r = map_some (slot_of_plan m.evidence) (option_and_then (λ b. batch_from m.evidence.base p b.batches) (whole_body m.body)) k t.1 in
      let u = then_some_of (λ (b : OpenBody). batch_from m.evidence.base p b.batches) (whole_body m.body) r.0 r.1 in
      let g = if_some (nat_lt m.evidence.base p) (slice_get u.0.batches (p - m.evidence.base - 1)) r.0 u.2 in
      let found : OfBatch Q r.0 = got (OfBatch Q) u.0.batches (open_batches Q m.body a u.0 u.1) (p - m.evidence.base - 1) r.0 g.1 in
      subst OfSlot r.2 (λ b is. subst (OfBatch Q) (some_is r.0 b is) found)

  new_slot : (d : History) (e : Entry) → IsCarried e d → (v p : ℕ) (k : KnownSlot) → slot_by e v p ≡ Some k → OfSlot k
  unfolding requests_in
  new_slot d (Accepted (message.Prepare m)) a v p k e = prepare_slot m a.requests v p k e
  new_slot d (Stamped (stamped.Prepare m)) a v p k e = prepare_slot m a.requests v p k e
  new_slot d (Stamped (stamped.Open m)) a v p k e = open_slot m a.requests v p k e
  new_slot d x a v p k e = absurd cc

  pub slot_carried : (d : History) → AllCarried d → (v p : ℕ) (k : KnownSlot) → slot_in self d v p ≡ Some k → OfSlot k
  unfolding slot_in
  slot_carried [] a v p k e = absurd cc
  slot_carried (x ∷ d) a v p k e = elim (found_slot self d x v p k e) [
    | inl before ↦ slot_carried d a.1 v p k before
    | inr new ↦ new_slot d x a.0 v p k new
  ]

  -- ---- what waits

  fresh_is : (x : ServedState S) (o : Option Request) (r : Request) → if_fresh self x o ≡ Some r → o ≡ Some r
  fresh_is x None r e = absurd cc
  fresh_is x (Some q) r e = (if_some (is_fresh x q) (Some q) r e).1

  pending_carried : (d : History) → AllCarried d → (c : ℕ) (r : Request) → pending self d c ≡ Some r → Q r
  unfolding pending requests_in
  pending_carried [] a c r e = absurd cc
  pending_carried (Accepted (message.Request q) ∷ d) a c r e = elim (cases_Bool (eqb q.client c)) [
    | inl here ↦ subst Q (some_is q r (rw here at e)) a.0.requests.0
    | inr other ↦ pending_carried d a.1 c r (rw other at e)
  ]
  pending_carried (Served pos p ∷ d) a c r e = elim (cases_Bool (eqb p.request.client c)) [
    | inl here ↦ pending_carried d a.1 c r (above_is p.request.seq (pending self d c) r (rw here at e))
    | inr other ↦ pending_carried d a.1 c r (rw other at e)
  ]
  pending_carried (Installed pos parts ∷ d) a c r e = pending_carried d a.1 c r (fresh_is (state_of self (Installed pos parts ∷ d)) (pending self d c) r e)
  pending_carried (x ∷ d) a c r e = pending_carried d a.1 c r e

  unordered_carried : (d : History) → AllCarried d → AllByRecursion Q (unordered self d)
  unfolding unordered
  unordered_carried d a =
      let clients : List ℕ = range_with_len 0 (client_count self.shape) in
      all_found (λ (c : ℕ). Unit {0}) Q (unordered_of self d) (λ c r t e. pending_carried d a c r (above_is (greatest_in_slots self d c (window self d)) (pending self d c) r e)) clients (all_any clients)

  pub next_batch_carried : (d : History) → AllCarried d → (b : Batch) → first_batch (unordered self d) ≡ Some b → OfBatch Q b
  next_batch_carried d a b e = go (unordered self d) (unordered_carried d a) e where
    go : (l : List Request) → AllByRecursion Q l → first_batch l ≡ Some b → OfBatch Q b
    go [] a e = absurd cc
    go (r ∷ l) a e = subst (OfBatch Q) (some_is _ b e) (fitting_all Q batch_limit 0 (r ∷ l) a)

  -- ---- stored VIEW_CHANGEs

  abbrev pub OfMember : ViewChange → Type 0
  OfMember m = OfStamped self.shape P Q (stamped.ViewChange m)

  entry_change : (d : History) (e : Entry) → IsCarried e d → (m : ViewChange) → change_in self d e ≡ Some m → OfMember m
  entry_change d (Accepted (message.ViewChange n)) a m e =
      let t = if_some (is_whole n.body && is_current self d n.view) (Some n) m e in
      subst OfMember (some_is n m t.1) (from_message self.shape P Q (stamped.ViewChange n) a)
  entry_change d (Stamped (stamped.ViewChange n)) a m e =
      let t = if_some (is_whole n.body && is_none (change_fault self n)) (Some n) m e in
      subst OfMember (some_is n m t.1) a
  entry_change d e a m is = absurd cc

  arrived_carried : (x : Option ViewChange) (l : List ViewChange) → ((m : ViewChange) → x ≡ Some m → OfMember m) → AllByRecursion OfMember l → AllByRecursion OfMember (arrived self x l)
  arrived_carried None l new a = a
  arrived_carried (Some m) l new a = all_append OfMember (filter (λ c. not (c.ui.host == m.ui.host)) l) (m ∷ []) (all_filter OfMember _ l a) (new m refl, tt)

  changes_carried : (d : History) → AllCarried d → AllByRecursion OfMember (changes_of self d)
  unfolding changes_of
  changes_carried [] a = tt
  changes_carried (e ∷ d) a = arrived_carried (change_in self d e) (changes_of self d) (λ m is. entry_change d e a.0 m is) (changes_carried d a.1)

  find_all : (h : ℕ) (l : List ViewChange) → AllByRecursion OfMember l → (m : ViewChange) → find (λ c. c.ui.host == h) l ≡ Some m → OfMember m
  find_all h [] a m e = absurd cc
  find_all h (x ∷ l) a m e = elim (cases_Bool (x.ui.host == h)) [
    | inl here ↦ subst OfMember (some_is x m (rw here at e)) a.0
    | inr other ↦ find_all h l a.1 m (rw other at e)
  ]

  -- those of which a NEW_VIEW is made
  pub chosen_carried : (d : History) → AllCarried d → (v : ℕ) (changes : List ViewChange) → chosen self d v ≡ Some changes → AllByRecursion OfMember changes
  chosen_carried d a v changes e =
      let l : List ViewChange = filter (λ c. c.view == v) (changes_of self d) in
      let first : List ViewChange = take (quorum self.shape) l in
      let t = if_some (nat_le (quorum self.shape) (length l)) (Some (by_rising_host self first)) changes e in
      let all : AllByRecursion OfMember first = all_taken OfMember (quorum self.shape) l (all_filter OfMember (λ c. c.view == v) (changes_of self d) (changes_carried d a)) in
      subst (AllByRecursion OfMember) (some_is (by_rising_host self first) changes t.1)
      (all_found (λ (h : ℕ). Unit {0}) OfMember (λ h. find (λ c. c.ui.host == h) first) (λ h m u f. find_all h first all m f) (range_with_len 0 (host_count self.shape)) (all_any (range_with_len 0 (host_count self.shape))))

  -- ---- the plan

  plan_from_carried : (changes : List ViewChange) → AllByRecursion (OfChange Q) changes → OfPlan Q (plan_from self changes)
  plan_from_carried changes a = (plan_holds (λ (c : StableCert). Unit {0}) (OfBatch Q) self.shape tt (logs_of changes)
      (all_found (OfChange Q) (ShowsSound (λ (c : StableCert). Unit {0}) (OfBatch Q)) shown_log (λ m log f e. change_shows Q m log f e) changes a)).1

  new_view_plan : (m : NewView) → AllByRecursion Q (stamped_requests (stamped.NewView m)) → (p : ℕ × Plan) → plan_in_new_view self m ≡ Some p → OfPlan Q p.1
  new_view_plan m a p e =
      let r = map_some (λ (b : NewViewBody). (m.view, plan_from self b.changes)) (whole_body m.body) p e in
      let is : m.body ≡ Whole r.0 = whole_is m.body r.0 r.1 in
      subst (λ (q : ℕ × Plan). OfPlan Q q.1) r.2 (plan_from_carried r.0.changes (each_flat Q change_requests r.0.changes (rw is at a)))

  open_plan : (m : Open) → AllByRecursion Q (open_requests m.body) → (p : ℕ × Plan) → plan_in_open m ≡ Some p → OfPlan Q p.1
  open_plan m a p e =
      let r = map_some (λ (b : OpenBody). (m.evidence.view, record { base = b.stable; batches = b.batches })) (whole_body m.body) p e in
      subst (λ (q : ℕ × Plan). OfPlan Q q.1) r.2 (open_batches Q m.body a r.0 r.1)

  entry_plan : (d : History) (e : Entry) → IsCarried e d → (p : ℕ × Plan) → plan_in self d (plan_held self d) e ≡ Some p → OfPlan Q p.1
  unfolding requests_in
  entry_plan d (Accepted (message.NewView m)) a p e = new_view_plan m a.requests p (if_some (is_current self d m.view) (plan_in_new_view self m) p e).1
  entry_plan d (Stamped (stamped.NewView m)) a p e = new_view_plan m a.requests p e
  entry_plan d (Accepted (message.Open m)) a p e = open_plan m a.requests p (if_some (gives_plan self d (plan_held self d) m.evidence) (plan_in_open m) p e).1
  entry_plan d e a p is = absurd cc

  plan_carried : (d : History) → AllCarried d → (p : ℕ × Plan) → plan_held self d ≡ Some p → OfPlan Q p.1
  unfolding plan_held
  plan_carried [] a p e = absurd cc
  plan_carried (x ∷ d) a p e = elim (or_some (plan_in self d (plan_held self d) x) (plan_held self d) p e) [
    | inl new ↦ entry_plan d x a.0 p new
    | inr old ↦ plan_carried d a.1 p old
  ]

  -- that of a view
  pub plan_at_carried : (d : History) → AllCarried d → (v : ℕ) (plan : Plan) (x : Option (ℕ × Plan)) → plan_held self d ≡ x → plan_of_view v x ≡ Some plan → OfPlan Q plan
  plan_at_carried d a v plan None is e = absurd cc
  plan_at_carried d a v plan (Some q) is e = subst (OfPlan Q) (some_is q.1 plan (if_some (q.0 == v) (Some q.1) plan e).1) (plan_carried d a q is)
