-- Small facts of what a host's tables and the parts of messages are found to be: the look-up that found them, or the test that they passed.
use Rattle.std.proofs.Common.{◌≡◌, ℕ, ◌+◌, Bool, true, ◌&&◌, List, [], ◌∷◌, length, refl, ap, ◌∙◌, sym, inl, inr, eqb, arith, Option, Some, None}
use Rattle.std.specs.Prelude.{◌==◌, map, not, nat_lt}
use Rattle.std.specs.List.{AllByRecursion}
use Rattle.std.proofs.lemmas.Bool.{and_parts, or_cases, cases_Bool, eqb-true}
use Rattle.std.proofs.lemmas.List.{length-map}
use Rattle.mb_parts.specs.declared.request.Request.{Request}
use Rattle.mb_parts.specs.declared.batch.Batch.{Batch}
use Rattle.mb_parts.specs.declared.certificates.Evidence.{Evidence}
use Rattle.mb_parts.specs.declared.floor.Floor.{Floor}
use Rattle.mb_parts.specs.declared.floor.Phase.{Phase}
use Rattle.mb_parts.specs.declared.floor.Phase.TheVariants as phase
use Rattle.mb_parts.specs.Spelling.{phase_number}
use Rattle.mb_parts.specs.Bares.{Bare, bare_bytes}
use Rattle.mb_parts.specs.Claims.{Claim}
use Rattle.mb_parts.specs.CheckedCertificates.{Carries}
use Rattle.mb_parts.specs.Counters.{at_counter}
use Rattle.mb_parts.specs.Certificates.{same_floor}
use Rattle.mb_parts.proofs.Advance.{same_floor as floors_equal}
use Rattle.mb_msg.specs.declared.change.NewView.{NewView}
use Rattle.mb_msg.specs.declared.change.Plan.{Plan}
use Rattle.mb_msg.specs.declared.stamped.Shown.{Shown}
use Rattle.mb_model.specs.UsableLogs.{newest_first}
use Rattle.mb_model.specs.declared.known.KnownSlot.{KnownSlot}
use Rattle.mb_model.specs.EnabledRules.{Commit, Open, with_batch, open_with, is_evidence_of}
use Rattle.mb_model.specs.Execution.{if_above}
use Rattle.mb_model.specs.Histories.{History, Identity}
use Rattle.mb_model.specs.Held.{is_current, is_news, evidence_of, evidence_view, is_plan_of, gives_plan, new_view_in_view}
use Rattle.mb_model.specs.Members.{In}
use Rattle.mb_model.proofs.Options.{if_some, map_some}
use Rattle.mb_host_laws.proofs.Cases.{some_is}

-- ---- views, plans and slots

pub in_view : (v : ℕ) (x : Option NewView) (n : NewView) → new_view_in_view v x ≡ Some n → x ≡ Some n
in_view v None n e = absurd cc
in_view v (Some m) n e = (if_some (m.view == v) (Some m) n e).1

pub opened_plan : (x : Option Evidence) (y : Option Plan) (e : Evidence) (plan : Plan) → open_with x y ≡ Some (Open e plan) → y ≡ Some plan
opened_plan (Some c) (Some p) e plan o = let t = if_some (is_evidence_of c p) (Some (Open c p)) (Open e plan) o in cc t.1
opened_plan None y e plan o = absurd cc
opened_plan (Some c) None e plan o = absurd cc

pub commit_shape : (q : ℕ) (x : Option KnownSlot) (p : ℕ) (s : KnownSlot) (b : Batch) → with_batch (Commit q) x ≡ Some (Commit p s b) → (q ≡ p) × (x ≡ Some s) × (s.batch ≡ Some b)
commit_shape q None p s b e = absurd cc
commit_shape q (Some j) p s b e =
    let m = map_some (Commit q j) j.batch (Commit p s b) e in
    let slot : j ≡ s = cc (m.2) in
    let batch : m.0 ≡ b = cc (m.2) in
    (cc (m.2), ap (λ (y : KnownSlot). Some y) slot, ap (λ (y : KnownSlot). y.batch) (sym slot) ∙ m.1 ∙ ap (λ (y : Batch). Some y) batch)

pub above_is : (seq : ℕ) (o : Option Request) (r : Request) → if_above seq o ≡ Some r → o ≡ Some r
above_is seq None r e = absurd cc
above_is seq (Some q) r e = (if_some (nat_lt seq q.seq) (Some q) r e).1

-- Evidence that gives a plan is of the view that the host is in.
pub gives_current : {S : Type 0} (self : Identity S) (d : History) (held : Option (ℕ × Plan)) (e : Evidence) → gives_plan self d held e ≡ true → is_current self d e.view ≡ true
gives_current self d held e g = elim (or_cases (is_news self d (evidence_of self d) e) (is_current self d e.view && (evidence_view (evidence_of self d) == e.view && not (is_plan_of e.view held))) g) [
  | inl news ↦ (and_parts (is_current self d e.view) _ news).0
  | inr lacks ↦ (and_parts (is_current self d e.view) _ lacks).0
]

-- ---- floors that pass the test of equality

phase_is : (a b : Phase) → phase_number a ≡ phase_number b → a ≡ b
phase_is phase.Changing phase.Changing e = refl
phase_is phase.Changing phase.Entered e = absurd (omega (arith, e))
phase_is phase.Changing phase.Open e = absurd (omega (arith, e))
phase_is phase.Entered phase.Changing e = absurd (omega (arith, e))
phase_is phase.Entered phase.Entered e = refl
phase_is phase.Entered phase.Open e = absurd (omega (arith, e))
phase_is phase.Open phase.Changing e = absurd (omega (arith, e))
phase_is phase.Open phase.Entered e = absurd (omega (arith, e))
phase_is phase.Open phase.Open e = refl

pub floor_is : (a b : Floor) → same_floor (Some a) (Some b) ≡ true → a ≡ b
floor_is a b h =
    let x = and_parts (a.counter == b.counter) _ h in
    let y = and_parts (a.view == b.view) _ x.1 in
    let z = and_parts (phase_number a.phase == phase_number b.phase) _ y.1 in
    let u = and_parts (a.last == b.last) _ z.1 in
    let v = and_parts (a.top == b.top) (a.point == b.point) u.1 in
    floors_equal a.counter a.view a.last a.top a.point b.counter b.view b.last b.top b.point a.phase b.phase
    (eqb-true a.counter b.counter x.0) (eqb-true a.view b.view y.0) (phase_is a.phase b.phase (eqb-true (phase_number a.phase) (phase_number b.phase) z.0)) (eqb-true a.last b.last u.0) (eqb-true a.top b.top v.0) (eqb-true a.point b.point v.1)

-- ---- lists of what is said, shown and claimed

pub bytes_at : (l : List Bare) (n : ℕ) (b : Bare) → at_counter l n ≡ Some b → at_counter (map bare_bytes l) n ≡ Some (bare_bytes b)
bytes_at [] n b e = absurd cc
bytes_at (x ∷ l) n b e = elim (cases_Bool (eqb n (length l + 1))) [
  | inl same ↦ rw (length-map l bare_bytes, same) (ap (λ (y : Bare). Some (bare_bytes y)) (some_is x b (rw same at e)))
  | inr other ↦ rw (length-map l bare_bytes, other) (bytes_at l n b (rw other at e))
]

pub all_newest : (P : Shown → Type 0) (before es : List Shown) → AllByRecursion P before → AllByRecursion P es → AllByRecursion P (newest_first before es)
all_newest P before [] a b = a
all_newest P before (e ∷ es) a b = all_newest P (e ∷ before) es (b.0, a) b.1

pub each_carries : (valid known : Claim → Bool) (l : List Claim) → ((c : Claim) → In l c → valid c ≡ true → known c ≡ true) → Carries valid known l
each_carries valid known [] g = tt
each_carries valid known (c ∷ l) g = (g c (inl refl), each_carries valid known l (λ x i. g x (inr i)))
