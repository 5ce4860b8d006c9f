-- Batches and requests that a host finds have the values of the grammar: slots are those of PREPAREs and OPENs, and what waits was accepted.
use Rattle.std.proofs.Common.{◌≡◌, ℕ, zero, suc, ◌&&◌, List, [], ◌∷◌, subst, inl, inr, eqb, Option, Some, None}
use Rattle.std.specs.Prelude.{◌==◌, ◌-◌, nat_lt, slice_get, option_map, option_and_then}
use Rattle.std.specs.List.{AllByRecursion, range_with_len}
use Rattle.std.proofs.lemmas.Bool.{cases_Bool}
use Rattle.mb_base.specs.Shapes.{client_count}
use Rattle.mb_base.specs.declared.shape.Shape.{Shape}
use Rattle.mb_parts.specs.declared.request.Request.{Request}
use Rattle.mb_parts.specs.declared.batch.Batch.{Batch}
use Rattle.mb_parts.specs.Spelling.{batch_bytes}
use Rattle.mb_parts.specs.Fits.{FitsRequest, FitsBatch}
use Rattle.mb_msg.specs.declared.message.Body.{Body}
use Rattle.mb_msg.specs.declared.message.Body.TheVariants.{Whole, Bare as Short}
use Rattle.mb_msg.specs.declared.message.Message.TheVariants as message
use Rattle.mb_msg.specs.declared.normal.Prepare.{Prepare}
use Rattle.mb_msg.specs.declared.change.Open.{Open}
use Rattle.mb_msg.specs.declared.change.OpenBody.{OpenBody}
use Rattle.mb_msg.specs.declared.stamped.Stamped.TheVariants as stamped
use Rattle.mb_msg.specs.Bodies.{FitsBody, body_digest, whole_body}
use Rattle.mb_msg.specs.Fits.{FitsPrepare, FitsOpen, FitsOpenBody}
use Rattle.mb_model.specs.declared.known.KnownSlot.{KnownSlot}
use Rattle.mb_model.specs.Batches.{first_batch}
use Rattle.mb_model.specs.Service.{Served as ServedState, is_fresh}
use Rattle.mb_model.specs.Histories.{Entry, Accepted, Stamped, Installed, History, Identity}
use Rattle.mb_model.specs.Histories as entry
use Rattle.mb_model.specs.Execution.{state_of, pending, if_fresh}
use Rattle.mb_model.specs.EnabledRules.{greatest_in_slots, window, unordered_of, unordered}
use Rattle.mb_model.specs.Positions.{batch_from, slot_of_plan, slot_of_prepare, slot_of_open, slot_by, slot_in}
use Rattle.mb_model.proofs.Options.{if_some, map_some}
use Rattle.mb_steps.proofs.StepOwnSteady.{found_slot}
use Rattle.mb_steps.proofs.StepPlanBases.{all_found, all_any}
use Rattle.mb_host_laws.proofs.FirstBatches.{first_fits}
use Rattle.mb_host_laws.proofs.Cases.{some_is, then_some_of, whole_is}
use Rattle.mb_host_laws.proofs.Found.{above_is}
use Rattle.mb_host_laws.specs.Rests.{Each}
use Rattle.mb_encodable.specs.Fitting.{HasValues}

-- ---- batches in bodies

pub got : {A : Type 0} (P : A → Type 0) (l : List A) → AllByRecursion P l → (i : ℕ) (x : A) → slice_get l i ≡ Some x → P x
got P [] a i x e = absurd cc
got P (y ∷ l) a zero x e = subst P (some_is y x e) a.0
got P (y ∷ l) a (suc i) x e = got P l a.1 i x e

pub body_batch : (s : Shape) (x : Body Batch) → FitsBody (FitsBatch s) x → (b : Batch) → whole_body x ≡ Some b → FitsBatch s b
body_batch s (Whole y) f b e = subst (FitsBatch s) (some_is y b e) f
body_batch s (Short d) f b e = absurd cc

-- ---- slots

module _ (s : Shape) where
  -- its batch fits, where it is known
  abbrev pub FitsSlot : KnownSlot → Type 0
  FitsSlot k = (b : Batch) → k.batch ≡ Some b → FitsBatch s b

  prepare_slot : (m : Prepare) → FitsPrepare s m → (v p : ℕ) (k : KnownSlot) → slot_of_prepare m v p ≡ Some k → FitsSlot k
  prepare_slot m f v p k e =
      let made : KnownSlot = record { counter = m.ui.counter; cert = m.ui.cert; digest = body_digest batch_bytes m.body; batch = whole_body m.body } in
      let t = if_some (m.view == v && m.pos == p) (Some made) k e in
      subst FitsSlot (some_is made k t.1) (body_batch s m.body f.body)

  open_slot : (m : Open) → FitsOpen s m → (v p : ℕ) (k : KnownSlot) → slot_of_open m v p ≡ Some k → FitsSlot k
  open_slot m f v p k e =
      let t = if_some (m.evidence.view == v) (option_map (slot_of_plan m.evidence) (option_and_then (λ b. batch_from m.evidence.base p b.batches) (whole_body m.body))) k e in
      let r = map_some (slot_of_plan m.evidence) (option_and_then (λ b. batch_from m.evidence.base p b.batches) (whole_body m.body)) k t.1 in
      let u = then_some_of (λ (b : OpenBody). batch_from m.evidence.base p b.batches) (whole_body m.body) r.0 r.1 in
      let body : FitsOpenBody s m.evidence u.0 = subst (λ (x : Body OpenBody). FitsBody (FitsOpenBody s m.evidence) x) (whole_is m.body u.0 u.1) f.body in
      let g = if_some (nat_lt m.evidence.base p) (slice_get u.0.batches (p - m.evidence.base - 1)) r.0 u.2 in
      let fits : FitsBatch s r.0 = got (FitsBatch s) u.0.batches body.0.1 (p - m.evidence.base - 1) r.0 g.1 in
      subst FitsSlot r.2 (λ b is. subst (FitsBatch s) (some_is r.0 b is) fits)

module _ {S : Type 0} (self : Identity S) where
  new_slot : (d : History) (e : Entry) → HasValues self e d → (v p : ℕ) (k : KnownSlot) → slot_by e v p ≡ Some k → FitsSlot self.shape k
  new_slot d (Accepted (message.Prepare m)) f v p k e = prepare_slot self.shape m f v p k e
  new_slot d (Stamped (stamped.Prepare m)) f v p k e = prepare_slot self.shape m f v p k e
  new_slot d (Stamped (stamped.Open m)) f v p k e = open_slot self.shape m f v p k e
  new_slot d x f v p k e = absurd cc

  pub slot_fits : (d : History) → Each (HasValues self) d → (v p : ℕ) (k : KnownSlot) → slot_in self d v p ≡ Some k → FitsSlot self.shape k
  unfolding slot_in
  slot_fits [] a v p k e = absurd cc
  slot_fits (x ∷ d) a v p k e = elim (found_slot self d x v p k e) [
    | inl before ↦ slot_fits d a.1 v p k before
    | inr new ↦ new_slot d x a.0 v p k new
  ]

  -- ---- what waits

  fresh_is : (x : ServedState S) (o : Option Request) (r : Request) → if_fresh self x o ≡ Some r → o ≡ Some r
  fresh_is x None r e = absurd cc
  fresh_is x (Some q) r e = (if_some (is_fresh x q) (Some q) r e).1

  pub pending_fits : (d : History) → Each (HasValues self) d → (c : ℕ) (r : Request) → pending self d c ≡ Some r → FitsRequest self.shape r
  unfolding pending
  pending_fits [] a c r e = absurd cc
  pending_fits (Accepted (message.Request q) ∷ d) a c r e = elim (cases_Bool (eqb q.client c)) [
    | inl here ↦ subst (FitsRequest self.shape) (some_is q r (rw here at e)) a.0
    | inr other ↦ pending_fits d a.1 c r (rw other at e)
  ]
  pending_fits (entry.Served pos p ∷ d) a c r e = elim (cases_Bool (eqb p.request.client c)) [
    | inl here ↦ pending_fits d a.1 c r (above_is p.request.seq (pending self d c) r (rw here at e))
    | inr other ↦ pending_fits d a.1 c r (rw other at e)
  ]
  pending_fits (Installed pos parts ∷ d) a c r e = pending_fits d a.1 c r (fresh_is (state_of self (Installed pos parts ∷ d)) (pending self d c) r e)
  pending_fits (x ∷ d) a c r e = pending_fits d a.1 c r e

  pub unordered_fits : (d : History) → Each (HasValues self) d → AllByRecursion (FitsRequest self.shape) (unordered self d)
  unfolding unordered
  unordered_fits d a =
      let clients : List ℕ = range_with_len 0 (client_count self.shape) in
      all_found (λ (c : ℕ). Unit {0}) (FitsRequest self.shape) (unordered_of self d) (λ c r t e. pending_fits d a c r (above_is (greatest_in_slots self d c (window self d)) (pending self d c) r e)) clients (all_any clients)

  pub next_batch_fits : (d : History) → Each (HasValues self) d → (b : Batch) → first_batch (unordered self d) ≡ Some b → FitsBatch self.shape b
  next_batch_fits d a b e = first_fits self.shape (unordered self d) b (unordered_fits d a) e
