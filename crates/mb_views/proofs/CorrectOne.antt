-- Of f+1 different hosts one is correct, and what is issued in its name it stamped.
use Rattle.std.proofs.Common.{◌≡◌, ℕ, ◌+◌, ◌≤◌, ◌<◌, Bool, true, false, List, [], ◌∷◌, ◌++◌, length, refl, sym, ap, subst, ◌∙◌, inl, inr, arith, eqb, Some}
use Rattle.std.specs.Prelude.{◌==◌, nat_lt, map}
use Rattle.std.specs.List.{list_any, AllByRecursion}
use Rattle.std.proofs.lemmas.Bool.{and_parts, cases_Bool, eqb-true, ne_eqb, ltb-true}
use Rattle.std.proofs.lemmas.List.{length-map}
use Rattle.mb_base.specs.Shapes.{Bytes, tally, quorum, host_count, max_faults, HasQuorum}
use Rattle.mb_base.specs.declared.shape.Shape.{Shape}
use Rattle.mb_parts.specs.Bares.{Bare, bare_bytes}
use Rattle.mb_parts.specs.BareReading.{bare_of_bytes}
use Rattle.mb_parts.specs.Claims.{Claim, are_rising}
use Rattle.mb_parts.specs.Counters.{at_counter}
use Rattle.mb_parts.specs.Fits.{FitsBare}
use Rattle.mb_parts.proofs.BareLaws.{bare_again}
use Rattle.mb_parts.proofs.IssuedLaws.{says}
use Rattle.mb_msg.specs.declared.stamped.Stamped.{Stamped as StampedMessage}
use Rattle.mb_msg.specs.Stamps.{bare_of}
use Rattle.mb_model.specs.Histories.{Stamped, History, said, stamped as all_stamped}
use Rattle.mb_model.proofs.ByHost.{rising_tail}
use Rattle.mb_model.proofs.PlanLaws.{one_more}
use Rattle.mb_model.proofs.Quorums.{quorum_has_correct}
use Rattle.mb_model.specs.Members.{In}
use Rattle.mb_model.proofs.Members.{any_in}
use Rattle.mb_world_model.specs.WorldEvents.{IsCorrect}
use Rattle.mb_world_model.specs.World.{World, System, stamps}
use Rattle.mb_world_model.specs.WorldRecord.{issued}
use Rattle.mb_host_laws.proofs.Cases.{not_true, some_is, then_some_of}
use Rattle.mb_world_laws.proofs.Facts.{Facts}

-- ---- a rising list of hosts is as many hosts as it is long

module _ {A : Type 0} (host_of : A → ℕ) where
  abbrev pub has_host : List A → ℕ → Bool
  has_host l h = list_any (λ x. host_of x == h) l

  rising_none : (a : ℕ) (l : List A) → are_rising (a ∷ map host_of l) ≡ true → (b : ℕ) → b ≤ a → has_host l b ≡ false
  rising_none a [] r b le = refl
  rising_none a (x ∷ l) r b le =
      let parts = and_parts (nat_lt a (host_of x)) _ r in
      let lt = ltb-true a (host_of x) parts.0 in
      rw (ne_eqb (host_of x) b (λ e. omega arith)) (rising_none (host_of x) l parts.1 b (omega arith))

  pub as_many : (n : ℕ) (l : List A) → are_rising (map host_of l) ≡ true → AllByRecursion (λ (x : A). host_of x < n) l → length l ≤ tally (has_host l) n
  as_many n [] r all = omega arith
  as_many n (x ∷ l) r all =
      let rest = as_many n l (rising_tail (host_of x) _ r) all.1 in
      let none = rising_none (host_of x) l r (host_of x) (omega arith) in
      let more = one_more (has_host l) (host_of x) n none all.0 in
      omega arith

  -- Of f+1 members of rising hosts one is of a correct host.
  pub correct_one : (s : Shape) (faulty : ℕ → Bool) (l : List A) → tally faulty (host_count s) ≤ max_faults s → length l ≡ quorum s → are_rising (map host_of l) ≡ true
      → AllByRecursion (λ (x : A). host_of x < host_count s) l → (x : A) × In l x × (host_of x < host_count s) × (faulty (host_of x) ≡ false)
  correct_one s faulty l few many rising all =
      let q : HasQuorum s (has_host l) = omega (arith, many, as_many (host_count s) l rising all) in
      let found = quorum_has_correct s (has_host l) faulty q few in
      let member = any_in (λ x. host_of x == found.0) l found.2 in
      let same : host_of member.0 ≡ found.0 = eqb-true (host_of member.0) found.0 member.2 in
      (member.0, member.1, subst (λ (h : ℕ). h < host_count s) (sym same) found.1, subst (λ (h : ℕ). faulty h ≡ false) (sym same) (not_true (faulty found.0) found.3))

-- ---- what a correct host stamped

-- the history as it was when a message was stamped
pub record IsStamped (d : History) (n : ℕ) (b : Bare) : Type 0 where
  pub message : StampedMessage
  pub before : History
  pub later : History
  pub is : later ++ Stamped message ∷ before ≡ d
  pub says : bare_of message ≡ b
  pub counter : n ≡ length (said before) + 1

pub stamped_once : (d : History) (n : ℕ) (b : Bare) → at_counter (said d) n ≡ Some b → IsStamped d n b
unfolding all_stamped
stamped_once [] n b e = absurd cc
stamped_once (Stamped m ∷ d) n b e = elim (cases_Bool (eqb n (length (said d) + 1))) [
  | inl same ↦ record { message = m; before = d; later = []; is = refl; says = some_is (bare_of m) b (rw same at e); counter = eqb-true n (length (said d) + 1) same }
  | inr other ↦ let x = stamped_once d n b (rw other at e) in record { message = x.message; before = x.before; later = Stamped m ∷ x.later; is = ap (λ (y : History). Stamped m ∷ y) x.is; says = x.says; counter = x.counter }
]
stamped_once (x ∷ d) n b e = let y = stamped_once d n b e in record { message = y.message; before = y.before; later = x ∷ y.later; is = ap (λ (z : History). x ∷ z) y.is; says = y.says; counter = y.counter }

at_mapped : (l : List Bare) (n : ℕ) (x : Bytes) → at_counter (map bare_bytes l) n ≡ Some x → (b : Bare) × (at_counter l n ≡ Some b) × (bare_bytes b ≡ x)
at_mapped [] n x e = absurd cc
at_mapped (b ∷ l) n x e = elim (cases_Bool (eqb n (length l + 1))) [
  | inl same ↦ (b, rw same refl, some_is (bare_bytes b) x (rw (length-map l bare_bytes, same) at e))
  | inr other ↦ let r = at_mapped l n x (rw (length-map l bare_bytes, other) at e) in (r.0, rw other r.1, r.2)
]

at_in : (l : List Bare) (n : ℕ) (b : Bare) → at_counter l n ≡ Some b → In l b
at_in [] n b e = absurd cc
at_in (x ∷ l) n b e = elim (cases_Bool (eqb n (length l + 1))) [
  | inl same ↦ inl (some_is x b (rw same at e))
  | inr other ↦ inr (at_in l n b (rw other at e))
]

module _ {S : Type 0} (system : System S) (w : World) (f : Facts system w) where
  all_in : (P : Bare → Type 0) (l : List Bare) → AllByRecursion P l → (b : Bare) → In l b → P b
  all_in P [] a b i = absurd i
  all_in P (x ∷ l) a b (inl is) = subst P is a.0
  all_in P (x ∷ l) a b (inr i) = all_in P l a.1 b i

  -- What is issued in the name of a correct host stands in its own list.
  pub issued_said : (c : Claim) → IsCorrect system.schedule c.host → issued system.schedule w c ≡ true → at_counter (said (w.histories c.host)) c.counter ≡ Some c.says
  issued_said c correct e =
      let l : List Bare = said (w.histories c.host) in
      let read = says system.schedule.shape (stamps system.schedule w) c e in
      let t = then_some_of (bare_of_bytes system.schedule.shape) (at_counter (map bare_bytes l) c.counter) c.says (rw correct.1 at read) in
      let m = at_mapped l c.counter t.0 t.1 in
      let fits : FitsBare system.schedule.shape m.0 = all_in (FitsBare system.schedule.shape) l (f.fits c.host correct) m.0 (at_in l c.counter m.0 m.1) in
      let again : bare_of_bytes system.schedule.shape t.0 ≡ Some m.0 = subst (λ (x : Bytes). bare_of_bytes system.schedule.shape x ≡ Some m.0) m.2 (bare_again system.schedule.shape f.shape m.0 fits) in
      m.1 ∙ ap Some (some_is m.0 c.says (sym again ∙ t.2))

  -- So it was stamped once.
  pub issued_stamped : (c : Claim) → IsCorrect system.schedule c.host → issued system.schedule w c ≡ true → IsStamped (w.histories c.host) c.counter c.says
  issued_stamped c correct e = stamped_once (w.histories c.host) c.counter c.says (issued_said c correct e)
