-- What a host finds in its tables of requests, wishes, VIEW_CHANGEs, ENTERs, OPENs, NEW_VIEWs, evidence, plans, CHECKPOINTs and snapshots stands in the history as
-- an entry that says it.
use Rattle.std.proofs.Common.{◌≡◌, ℕ, ◌+◌, ◌<◌, ◌⊎◌, Bool, true, false, ◌&&◌, not, List, [], ◌∷◌, refl, sym, ap, subst, inl, inr, arith, max, Option, Some, None}
use Rattle.std.specs.Prelude.{◌==◌, nat_lt, nat_le, filter, filter_map, if◌then◌else◌}
use Rattle.std.specs.List.{range_with_len}
use Rattle.std.specs.Option.{option_or}
use Rattle.std.proofs.lemmas.Bool.{cases_Bool, cases_lt, and_parts, and_right, eqb-true, ltb-true}
use Rattle.mb_base.specs.Shapes.{Bytes, host_count}
use Rattle.mb_usig.specs.Tags.{same_bytes}
use Rattle.mb_usig.proofs.Laws.{same_bytes-true}
use Rattle.mb_parts.specs.declared.request.Request.{Request}
use Rattle.mb_parts.specs.declared.certificates.Evidence.{Evidence}
use Rattle.mb_msg.specs.declared.event.Slot.{Slot}
use Rattle.mb_msg.specs.declared.message.Body.TheVariants.{Whole}
use Rattle.mb_msg.specs.declared.message.Message.TheVariants as message
use Rattle.mb_msg.specs.declared.normal.Checkpoint.{Checkpoint}
use Rattle.mb_msg.specs.declared.change.ViewChange.{ViewChange}
use Rattle.mb_msg.specs.declared.change.NewView.{NewView}
use Rattle.mb_msg.specs.declared.change.NewViewBody.{NewViewBody}
use Rattle.mb_msg.specs.declared.change.Enter.{Enter}
use Rattle.mb_msg.specs.declared.change.Open.{Open}
use Rattle.mb_msg.specs.declared.change.OpenBody.{OpenBody}
use Rattle.mb_msg.specs.declared.change.Plan.{Plan}
use Rattle.mb_msg.specs.declared.stamped.Stamped.TheVariants as stamped
use Rattle.mb_msg.specs.Bodies.{whole_body}
use Rattle.mb_model.specs.Service.{Served as ServedState, is_fresh}
use Rattle.mb_model.specs.States.{parts_of}
use Rattle.mb_model.specs.Histories.{Entry, Accepted, Stamped, Executed, Installed, LostPatience, History, Identity, view_of}
use Rattle.mb_model.specs.Histories as entry
use Rattle.mb_model.specs.Held.{wish_in, wish_of, change_in, arrived, changes_of, enter_of, answers, enters_for, opened_by, new_view_in, new_view_of, evidence_shown, with_news, is_news, evidence_of, plan_in_open, plan_in_new_view, plan_in, plan_held, plan_from, gives_plan, is_current}
use Rattle.mb_model.specs.Stable.{checkpoint_in, checkpoint_by, checkpoint_of}
use Rattle.mb_model.specs.Execution.{state_of, pending, if_above, if_fresh, parts_after}
use Rattle.mb_model.specs.Members.{In}
use Rattle.mb_model.proofs.Members.{in_contained}
use Rattle.mb_model.proofs.Options.{or_some, if_some, map_some}
use Rattle.mb_promise.specs.KeepsTables.{IsChange, IsEnter, IsCheckpoint, outdoes, is_enter_of, is_open_of, is_checkpoint_of, is_execution_of}
use Rattle.mb_promise.specs.FindsTables.{Came, CameLast, IsNewView, AsksFor, ShowsEvidence, BringsPlan, FindsEnters, FindsSnapshots}
use Rattle.mb_provenance.proofs.FoundMembers.{of_filter, of_found}
use Rattle.mb_one_log.proofs.Executions.{in_parts}
use Rattle.mb_host_laws.proofs.Cases.{some_is, whole_is, not_le}

-- ---- what came earlier came

pub came_now : (says : Entry → History → Type 0) (x : Entry) (d : History) → says x d → Came says (x ∷ d)
came_now says x d t = record { later = []; before = d; entry = x; is = refl; told = t }

pub came_before : (says : Entry → History → Type 0) (x : Entry) (d : History) → Came says d → Came says (x ∷ d)
came_before says x d c = record { later = x ∷ c.later; before = c.before; entry = c.entry; is = ap (λ (h : History). x ∷ h) c.is; told = c.told }

last_now : (replaces : Entry → Bool) (says : Entry → History → Type 0) (x : Entry) (d : History) → says x d → CameLast replaces says (x ∷ d)
last_now replaces says x d t = record { later = []; before = d; entry = x; is = refl; told = t; last = tt }

last_before : (replaces : Entry → Bool) (says : Entry → History → Type 0) (x : Entry) (d : History) → replaces x ≡ false → CameLast replaces says d → CameLast replaces says (x ∷ d)
last_before replaces says x d none c = record { later = x ∷ c.later; before = c.before; entry = c.entry; is = ap (λ (h : History). x ∷ h) c.is; told = c.told; last = (none, c.last) }

module _ {S : Type 0} (self : Identity S) where
  -- ---- requests

  above_both : (seq : ℕ) (o : Option Request) (r : Request) → if_above seq o ≡ Some r → (o ≡ Some r) × (seq < r.seq)
  above_both seq None r e = absurd cc
  above_both seq (Some q) r e =
      let t = if_some (nat_lt seq q.seq) (Some q) r e in
      let same : q ≡ r = some_is q r t.1 in
      (t.1, subst (λ (x : Request). seq < x.seq) same (ltb-true seq q.seq t.0))

  fresh_is : (x : ServedState S) (o : Option Request) (r : Request) → if_fresh self x o ≡ Some r → o ≡ Some r
  fresh_is x None r e = absurd cc
  fresh_is x (Some q) r e = (if_some (is_fresh x q) (Some q) r e).1

  abbrev RequestCame : History → ℕ → Request → Type 0
  RequestCame d c r = (r.client ≡ c) × CameLast (outdoes r) (λ e before. e ≡ Accepted (message.Request r)) d

  stays : (x : Entry) (d : History) (c : ℕ) (r : Request) → (r.client ≡ c → outdoes r x ≡ false) → RequestCame d c r → RequestCame (x ∷ d) c r
  stays x d c r none q = (q.0, last_before (outdoes r) (λ e before. e ≡ Accepted (message.Request r)) x d (none q.0) q.1)

  other_client : (a c b : ℕ) → (a == c) ≡ false → b ≡ c → (a == b) ≡ false
  other_client a c b e is = rw is e

  pub requests_came : (d : History) (c : ℕ) (r : Request) → pending self d c ≡ Some r → RequestCame d c r
  unfolding pending
  requests_came [] c r e = absurd cc
  requests_came (Accepted (message.Request q) ∷ d) c r e = elim (cases_Bool (q.client == c)) [
    | inl here ↦
        let same : q ≡ r = some_is q r (rw here at e) in
        subst (λ (z : Request). RequestCame (Accepted (message.Request q) ∷ d) c z) same
        (eqb-true q.client c here, last_now (outdoes q) (λ y before. y ≡ Accepted (message.Request q)) (Accepted (message.Request q)) d refl)
    | inr other ↦ stays (Accepted (message.Request q)) d c r (λ is. other_client q.client c r.client other is) (requests_came d c r (rw other at e))
  ]
  requests_came (entry.Served pos p ∷ d) c r e = elim (cases_Bool (p.request.client == c)) [
    | inl here ↦
        let b = above_both p.request.seq (pending self d c) r (rw here at e) in
        stays (entry.Served pos p) d c r (λ is. and_right (p.request.client == r.client) (nat_le r.seq p.request.seq) (not_le r.seq p.request.seq b.1)) (requests_came d c r b.0)
    | inr other ↦ stays (entry.Served pos p) d c r (λ is. rw (other_client p.request.client c r.client other is) refl) (requests_came d c r (rw other at e))
  ]
  requests_came (Installed pos parts ∷ d) c r e =
      stays (Installed pos parts) d c r (λ is. refl) (requests_came d c r (fresh_is (state_of self (Installed pos parts ∷ d)) (pending self d c) r e))
  requests_came (x ∷ d) c r e = stays x d c r (λ is. refl) (requests_came d c r e)

  -- ---- wishes

  if_or_zero : (b : Bool) (n v : ℕ) → (if b then n else 0) ≡ v → 0 < v → (b ≡ true) × (n ≡ v)
  if_or_zero true n v e lt = (refl, e)
  if_or_zero false n v e lt = absurd (omega (arith, e, lt))

  of_max : (a b v : ℕ) → max a b ≡ v → (a ≡ v) ⊎ (b ≡ v)
  of_max a b v e = elim (cases_lt a b) [
    | inl lt ↦ inr (omega (arith, lt, e))
    | inr le ↦ inl (omega (arith, le, e))
  ]

  asked : (x : Entry) (d : History) (h v : ℕ) → wish_in self d x h ≡ v → 0 < v → AsksFor self.host (view_of self d) x h v
  asked (Accepted (message.ReqViewChange m)) d h v e lt = let t = if_or_zero (m.host == h) m.view v e lt in (eqb-true m.host h t.0, t.1)
  asked (Accepted (message.ViewChange m)) d h v e lt = let t = if_or_zero (m.ui.host == h) m.view v e lt in (eqb-true m.ui.host h t.0, t.1)
  asked (Stamped (stamped.ViewChange m)) d h v e lt = let t = if_or_zero (m.ui.host == h) m.view v e lt in (eqb-true m.ui.host h t.0, t.1)
  asked LostPatience d h v e lt = let t = if_or_zero (self.host == h) (view_of self d + 1) v e lt in (eqb-true self.host h t.0, t.1)
  asked x d h v e lt = absurd (omega (arith, e, lt))

  abbrev IsAsked : ℕ → ℕ → Entry → History → Type 0
  IsAsked h v y before = AsksFor self.host (view_of self before) y h v

  pub wishes_came : (d : History) (h v : ℕ) → wish_of self d h ≡ v → 0 < v → Came (IsAsked h v) d
  unfolding wish_of
  wishes_came [] h v e lt = absurd (omega (arith, e, lt))
  wishes_came (x ∷ d) h v e lt = elim (of_max (wish_of self d h) (wish_in self d x h) v e) [
    | inl old ↦ came_before (IsAsked h v) x d (wishes_came d h v old lt)
    | inr new ↦ came_now (IsAsked h v) x d (asked x d h v new lt)
  ]

  -- ---- VIEW_CHANGEs

  pub change_said : (x : Entry) (d : History) (m : ViewChange) → change_in self d x ≡ Some m → IsChange x m
  change_said (Accepted (message.ViewChange c)) d m e = let t = if_some _ (Some c) m e in inl (ap (λ (z : ViewChange). Accepted (message.ViewChange z)) (some_is c m t.1))
  change_said (Stamped (stamped.ViewChange c)) d m e = let t = if_some _ (Some c) m e in inr (ap (λ (z : ViewChange). Stamped (stamped.ViewChange z)) (some_is c m t.1))
  change_said x d m e = absurd cc

  only : (c m : ViewChange) → In (c ∷ []) m → Some c ≡ Some m
  only c m (inl is) = ap (λ (z : ViewChange). Some z) is
  only c m (inr i) = absurd i

  arrived_from : (o : Option ViewChange) (l : List ViewChange) (m : ViewChange) → In (arrived self o l) m → In l m ⊎ (o ≡ Some m)
  arrived_from None l m i = inl i
  arrived_from (Some c) l m i = elim (in_parts (filter (λ (x : ViewChange). not (x.ui.host == c.ui.host)) l) (c ∷ []) m i) [
    | inl left ↦ inl (of_filter (λ (x : ViewChange). not (x.ui.host == c.ui.host)) l m left).0
    | inr right ↦ inr (only c m right)
  ]

  pub changes_came : (d : History) (m : ViewChange) → In (changes_of self d) m → Came (λ y before. IsChange y m) d
  unfolding changes_of
  changes_came [] m i = absurd i
  changes_came (x ∷ d) m i = elim (arrived_from (change_in self d x) (changes_of self d) m i) [
    | inl old ↦ came_before (λ y before. IsChange y m) x d (changes_came d m old)
    | inr new ↦ came_now (λ y before. IsChange y m) x d (change_said x d m new)
  ]

-- ---- ENTERs and OPENs

abbrev EnterCame : History → ℕ → Enter → Type 0
EnterCame d h m = (m.ui.host ≡ h) × CameLast (is_enter_of h) (λ y before. IsEnter y m) d

enter_stays : (x : Entry) (d : History) (h : ℕ) (m : Enter) → is_enter_of h x ≡ false → EnterCame d h m → EnterCame (x ∷ d) h m
enter_stays x d h m none r = (r.0, last_before (is_enter_of h) (λ y before. IsEnter y m) x d none r.1)

enter_now : (x : Entry) (d : History) (h : ℕ) (q m : Enter) → Some q ≡ Some m → (q.ui.host == h) ≡ true → IsEnter x q → EnterCame (x ∷ d) h m
enter_now x d h q m e here is = subst (λ (z : Enter). EnterCame (x ∷ d) h z) (some_is q m e) (eqb-true q.ui.host h here, last_now (is_enter_of h) (λ y before. IsEnter y q) x d is)

enter_came : (d : History) (h : ℕ) (m : Enter) → enter_of d h ≡ Some m → EnterCame d h m
unfolding enter_of
enter_came [] h m e = absurd cc
enter_came (Accepted (message.Enter q) ∷ d) h m e = elim (cases_Bool (q.ui.host == h)) [
  | inl here ↦ enter_now (Accepted (message.Enter q)) d h q m (rw here at e) here (inl refl)
  | inr other ↦ enter_stays (Accepted (message.Enter q)) d h m other (enter_came d h m (rw other at e))
]
enter_came (Stamped (stamped.Enter q) ∷ d) h m e = elim (cases_Bool (q.ui.host == h)) [
  | inl here ↦ enter_now (Stamped (stamped.Enter q)) d h q m (rw here at e) here (inr refl)
  | inr other ↦ enter_stays (Stamped (stamped.Enter q)) d h m other (enter_came d h m (rw other at e))
]
enter_came (x ∷ d) h m e = enter_stays x d h m refl (enter_came d h m e)

abbrev IsOpened : ℕ → Evidence → Entry → History → Type 0
IsOpened h x y before = (m : Open) × (y ≡ Accepted (message.Open m)) × (m.ui.host ≡ h) × (m.evidence ≡ x)

pub opens_came : (d : History) (h : ℕ) (x : Evidence) → opened_by d h ≡ Some x → CameLast (is_open_of h) (IsOpened h x) d
unfolding opened_by
opens_came [] h x e = absurd cc
opens_came (Accepted (message.Open m) ∷ d) h x e = elim (cases_Bool (m.ui.host == h)) [
  | inl here ↦ last_now (is_open_of h) (IsOpened h x) (Accepted (message.Open m)) d (m, refl, eqb-true m.ui.host h here, some_is m.evidence x (rw here at e))
  | inr other ↦ last_before (is_open_of h) (IsOpened h x) (Accepted (message.Open m)) d other (opens_came d h x (rw other at e))
]
opens_came (y ∷ d) h x e = last_before (is_open_of h) (IsOpened h x) y d refl (opens_came d h x e)

-- ---- CHECKPOINTs

or_else : {A : Type 0} (x y : Option A) (z : A) → option_or x y ≡ Some z → (x ≡ Some z) ⊎ ((x ≡ None) × (y ≡ Some z))
or_else None y z e = inr (refl, e)
or_else (Some x) y z e = inl e

if_none : {A : Type 0} (b : Bool) (x : A) → (if b then Some x else None) ≡ None → b ≡ false
if_none true x e = absurd cc
if_none false x e = refl

none_there : (h pos : ℕ) (x : Entry) → checkpoint_by h pos (checkpoint_in x) ≡ None → is_checkpoint_of h pos x ≡ false
none_there h pos (Accepted (message.Checkpoint m)) e = if_none (m.ui.host == h && m.pos == pos) m e
none_there h pos (Stamped (stamped.Checkpoint m)) e = if_none (m.ui.host == h && m.pos == pos) m e
none_there h pos x e = refl

checkpoint_said : (h pos : ℕ) (x : Entry) (m : Checkpoint) → checkpoint_by h pos (checkpoint_in x) ≡ Some m → (m.ui.host ≡ h) × (m.pos ≡ pos) × IsCheckpoint x m
checkpoint_said h pos (Accepted (message.Checkpoint q)) m e = let t = if_some (q.ui.host == h && q.pos == pos) (Some q) m e in
    let a = and_parts (q.ui.host == h) (q.pos == pos) t.0 in
    subst (λ (z : Checkpoint). (z.ui.host ≡ h) × (z.pos ≡ pos) × IsCheckpoint (Accepted (message.Checkpoint q)) z) (some_is q m t.1) (eqb-true q.ui.host h a.0, eqb-true q.pos pos a.1, inl refl)
checkpoint_said h pos (Stamped (stamped.Checkpoint q)) m e = let t = if_some (q.ui.host == h && q.pos == pos) (Some q) m e in
    let a = and_parts (q.ui.host == h) (q.pos == pos) t.0 in
    subst (λ (z : Checkpoint). (z.ui.host ≡ h) × (z.pos ≡ pos) × IsCheckpoint (Stamped (stamped.Checkpoint q)) z) (some_is q m t.1) (eqb-true q.ui.host h a.0, eqb-true q.pos pos a.1, inr refl)
checkpoint_said h pos x m e = absurd cc

pub checkpoints_came : (d : History) (h pos : ℕ) (m : Checkpoint) → checkpoint_of d h pos ≡ Some m → (m.ui.host ≡ h) × (m.pos ≡ pos) × CameLast (is_checkpoint_of h pos) (λ y before. IsCheckpoint y m) d
unfolding checkpoint_of
checkpoints_came [] h pos m e = absurd cc
checkpoints_came (x ∷ d) h pos m e = elim (or_else (checkpoint_by h pos (checkpoint_in x)) (checkpoint_of d h pos) m e) [
  | inl now ↦ let s = checkpoint_said h pos x m now in (s.0, s.1, last_now (is_checkpoint_of h pos) (λ y before. IsCheckpoint y m) x d s.2)
  | inr before ↦
      let r = checkpoints_came d h pos m before.1 in
      (r.0, r.1, last_before (is_checkpoint_of h pos) (λ y before. IsCheckpoint y m) x d (none_there h pos x before.0) r.2)
]

module _ {S : Type 0} (self : Identity S) where
  -- ---- NEW_VIEWs, evidence and plans

  pub new_view_said : (x : Entry) (d : History) (m : NewView) → new_view_in self d x ≡ Some m → IsNewView x m
  new_view_said (Accepted (message.NewView n)) d m e = let t = if_some _ (Some n) m e in inl (ap (λ (z : NewView). Accepted (message.NewView z)) (some_is n m t.1))
  new_view_said (Stamped (stamped.NewView n)) d m e = inr (ap (λ (z : NewView). Stamped (stamped.NewView z)) (some_is n m e))
  new_view_said x d m e = absurd cc

  pub new_views_came : (d : History) (m : NewView) → new_view_of self d ≡ Some m → Came (λ y before. IsNewView y m) d
  unfolding new_view_of
  new_views_came [] m e = absurd cc
  new_views_came (x ∷ d) m e = elim (or_some (new_view_in self d x) (new_view_of self d) m e) [
    | inl now ↦ came_now (λ y before. IsNewView y m) x d (new_view_said x d m now)
    | inr before ↦ came_before (λ y before. IsNewView y m) x d (new_views_came d m before)
  ]

  news_from : (d : History) (held shown : Option Evidence) (x : Evidence) → with_news self d held shown ≡ Some x → (held ≡ Some x) ⊎ (shown ≡ Some x)
  news_from d held None x e = inl e
  news_from d held (Some f) x e = elim (cases_Bool (is_news self d held f)) [
    | inl news ↦ inr (rw news at e)
    | inr old ↦ inl (rw old at e)
  ]

  pub shown_said : (y : Entry) (x : Evidence) → evidence_shown y ≡ Some x → ShowsEvidence y x
  shown_said (Accepted (message.Open m)) x e = some_is m.evidence x e
  shown_said (Accepted (message.Join m)) x e = e
  shown_said (Accepted (message.Log m)) x e = e
  shown_said y x e = absurd cc

  evidence_seen : (y : Entry) (d : History) (x : Evidence) → with_news self d (evidence_of self d) (evidence_shown y) ≡ Some x → (evidence_of self d ≡ Some x → Came (λ z before. ShowsEvidence z x) d)
      → Came (λ z before. ShowsEvidence z x) (y ∷ d)
  evidence_seen y d x e earlier = elim (news_from d (evidence_of self d) (evidence_shown y) x e) [
    | inl held ↦ came_before (λ z before. ShowsEvidence z x) y d (earlier held)
    | inr shown ↦ came_now (λ z before. ShowsEvidence z x) y d (shown_said y x shown)
  ]

  pub evidence_came : (d : History) (x : Evidence) → evidence_of self d ≡ Some x → Came (λ z before. ShowsEvidence z x) d
  unfolding evidence_of
  evidence_came [] x e = absurd cc
  evidence_came (Stamped (stamped.Open m) ∷ d) x e = came_now (λ z before. ShowsEvidence z x) (Stamped (stamped.Open m)) d (some_is m.evidence x e)
  evidence_came (y ∷ d) x e = evidence_seen y d x e (λ held. evidence_came d x held)

  two_is : (p q : ℕ × Plan) → p ≡ q → (p.0 ≡ q.0) × (q.1 ≡ p.1)
  two_is p q e = (ap (λ (z : ℕ × Plan). z.0) e, ap (λ (z : ℕ × Plan). z.1) (sym e))

  of_new_view : (m : NewView) (v : ℕ) (p : Plan) → plan_in_new_view self m ≡ Some (v, p) → (b : NewViewBody) × (m.body ≡ Whole b) × (m.view ≡ v) × (p ≡ plan_from self b.changes)
  of_new_view m v p e =
      let q = map_some (λ (b : NewViewBody). (m.view, plan_from self b.changes)) (whole_body m.body) (v, p) e in
      let t = two_is (m.view, plan_from self q.0.changes) (v, p) q.2 in
      (q.0, whole_is m.body q.0 q.1, t.0, t.1)

  of_open : (m : Open) (v : ℕ) (p : Plan) → plan_in_open m ≡ Some (v, p) → (b : OpenBody) × (m.body ≡ Whole b) × (m.evidence.view ≡ v) × (p ≡ record { base = b.stable; batches = b.batches })
  of_open m v p e =
      let q = map_some (λ (b : OpenBody). (m.evidence.view, record { base = b.stable; batches = b.batches })) (whole_body m.body) (v, p) e in
      let t = two_is (m.evidence.view, record { base = q.0.stable; batches = q.0.batches }) (v, p) q.2 in
      (q.0, whole_is m.body q.0 q.1, t.0, t.1)

  pub plan_said : (x : Entry) (d : History) (held : Option (ℕ × Plan)) (v : ℕ) (p : Plan) → plan_in self d held x ≡ Some (v, p) → BringsPlan self x v p
  plan_said (Accepted (message.NewView m)) d held v p e = of_new_view m v p (if_some (is_current self d m.view) (plan_in_new_view self m) (v, p) e).1
  plan_said (Stamped (stamped.NewView m)) d held v p e = of_new_view m v p e
  plan_said (Accepted (message.Open m)) d held v p e = of_open m v p (if_some (gives_plan self d held m.evidence) (plan_in_open m) (v, p) e).1
  plan_said x d held v p e = absurd cc

  pub plans_came : (d : History) (v : ℕ) (p : Plan) → plan_held self d ≡ Some (v, p) → Came (λ y before. BringsPlan self y v p) d
  unfolding plan_held
  plans_came [] v p e = absurd cc
  plans_came (x ∷ d) v p e = elim (or_some (plan_in self d (plan_held self d) x) (plan_held self d) (v, p) e) [
    | inl now ↦ came_now (λ y before. BringsPlan self y v p) x d (plan_said x d (plan_held self d) v p now)
    | inr before ↦ came_before (λ y before. BringsPlan self y v p) x d (plans_came d v p before)
  ]

  -- ---- snapshots

  abbrev IsExecuted : ℕ → List Bytes → Entry → History → Type 0
  IsExecuted pos parts y before = (slot : Slot) × (y ≡ Executed slot) × (slot.pos ≡ pos) × (parts ≡ parts_of self.snapshots (state_of self before))

  parts_came : (d : History) (pos : ℕ) (parts : List Bytes) → parts_after self d pos ≡ Some parts → CameLast (is_execution_of pos) (IsExecuted pos parts) d
  unfolding parts_after state_of
  parts_came [] pos parts e = absurd cc
  parts_came (Executed slot ∷ d) pos parts e = elim (cases_Bool (slot.pos == pos)) [
    | inl here ↦ last_now (is_execution_of pos) (IsExecuted pos parts) (Executed slot) d (slot, refl, eqb-true slot.pos pos here, sym (some_is (parts_of self.snapshots (state_of self d)) parts (rw here at e)))
    | inr other ↦ last_before (is_execution_of pos) (IsExecuted pos parts) (Executed slot) d other (parts_came d pos parts (rw other at e))
  ]
  parts_came (x ∷ d) pos parts e = last_before (is_execution_of pos) (IsExecuted pos parts) x d refl (parts_came d pos parts e)

  pub snapshots_came : (d : History) → FindsSnapshots self d
  snapshots_came d pos parts e = parts_came d pos parts (if_some _ (parts_after self d pos) parts e).1

  -- ---- the ENTERs that answer a NEW_VIEW

  pub finds_enters : (d : History) → FindsEnters self d
  finds_enters d n m c =
      let f = of_filter (answers n) (filter_map (enter_of d) (range_with_len 0 (host_count self.shape))) m (in_contained (enters_for self d n) m c) in
      let g = of_found (enter_of d) (range_with_len 0 (host_count self.shape)) m f.0 in
      let r = enter_came d g.0 m g.1 in
      let a = and_parts (m.view == n.view) (m.counter == n.ui.counter && same_bytes m.plan n.plan) f.1 in
      let b = and_parts (m.counter == n.ui.counter) (same_bytes m.plan n.plan) a.1 in
      (subst (λ (h : ℕ). CameLast (is_enter_of h) (λ y before. IsEnter y m) d) (sym r.0) r.1, eqb-true m.view n.view a.0, eqb-true m.counter n.ui.counter b.0, same_bytes-true m.plan n.plan b.1)
