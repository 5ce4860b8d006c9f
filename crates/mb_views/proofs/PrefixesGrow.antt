-- The ordered prefixes grow with what was stamped.
--
-- The messages that are read of more bytes go on from those read before (`read_more`), what was issued stays issued, and an ordered beginning of a list
-- is a beginning of its longest ordered beginning (`within_longest`).
use Rattle.std.proofs.Common.{◌≡◌, ℕ, Bool, true, false, List, [], ◌∷◌, ◌++◌, length, refl, sym, ap, subst, ◌∙◌, inl, inr, eqb, Option, Some, None}
use Rattle.std.proofs.lemmas.Bool.{cases_Bool}
use Rattle.mb_base.specs.Shapes.{Bytes}
use Rattle.mb_base.specs.declared.shape.Shape.{Shape}
use Rattle.mb_parts.specs.declared.floor.Floor.{Floor}
use Rattle.mb_parts.specs.Bares.{Bare}
use Rattle.mb_parts.specs.BareReading.{bare_of_bytes, bares_of}
use Rattle.mb_parts.specs.Claims.{Claim, inner_claims}
use Rattle.mb_parts.specs.CheckedCertificates.{Carries}
use Rattle.mb_parts.specs.Certificates.{inner_valid}
use Rattle.mb_parts.specs.Counters.{IsBeginning}
use Rattle.mb_parts.specs.Ordered.{initial_floor, is_ordered, ordered_prefix}
use Rattle.mb_parts.specs.OrderedLists.{IsLongestOrdered}
use Rattle.mb_parts.specs.Issued.{stamped_prefix}
use Rattle.mb_parts.proofs.CertificateLaws.{ordered_more, inner_more}
use Rattle.mb_parts.proofs.LongestOrdered.{prefix_whole, longest}
use Rattle.mb_world_model.specs.World.{World, System, stamps}
use Rattle.mb_schedule.specs.declared.schedule.Schedule.{Schedule}
use Rattle.mb_world_model.specs.WorldRecord.{issued, prefix}
use Rattle.mb_world_laws.proofs.Grown.{Grows, issued_grows}
use Rattle.mb_world_laws.proofs.Facts.{Facts}
use Rattle.mb_views.proofs.Follows.{IsLed}

pub beginning_then : {A : Type 0} (x y z : List A) → IsBeginning x y → IsBeginning y z → IsBeginning x z
beginning_then x y z p q = record { later = q.later ++ p.later; is = joined q.later p.later ∙ ap (λ l. q.later ++ l) p.is ∙ q.is } where
  joined : (a b : List _) → (a ++ b) ++ x ≡ a ++ (b ++ x)
  joined [] b = refl
  joined (e ∷ a) b = ap (λ l. e ∷ l) (joined a b)

read_next : (s : Shape) (b : Bytes) (l : List Bytes) → IsBeginning (bares_of s l) (bares_of s (b ∷ l))
unfolding bares_of
read_next s b l = elim (cases_Bool (eqb (length (bares_of s l)) (length l))) [
  | inr short ↦ rw short (record { later = []; is = refl })
  | inl long ↦ go (bare_of_bytes s b) refl long
] where
  go : (o : Option Bare) → bare_of_bytes s b ≡ o → eqb (length (bares_of s l)) (length l) ≡ true → IsBeginning (bares_of s l) (bares_of s (b ∷ l))
  go None e long = rw (long, e) (record { later = []; is = refl })
  go (Some m) e long = rw (long, e) (record { later = m ∷ []; is = refl })

-- More is read of more bytes.
read_more : (s : Shape) (later l : List Bytes) → IsBeginning (bares_of s l) (bares_of s (later ++ l))
read_more s [] l = record { later = []; is = refl }
read_more s (b ∷ later) l = beginning_then (bares_of s l) (bares_of s (later ++ l)) (bares_of s (b ∷ later ++ l)) (read_more s later l) (read_next s b (later ++ l))

module _ (o : Floor) (s : Shape) (host : ℕ) (inner : Bare → Bool) where
  whole : (l : List Bare) → is_ordered o s host inner l ≡ true → ordered_prefix o s host inner l ≡ l
  unfolding ordered_prefix
  whole [] e = refl
  whole (m ∷ l) e = prefix_whole o s host inner m l e

  less : (m : Bare) (l : List Bare) → is_ordered o s host inner (m ∷ l) ≡ false → ordered_prefix o s host inner (m ∷ l) ≡ ordered_prefix o s host inner l
  unfolding ordered_prefix
  less m l e = rw e refl

  -- An ordered beginning is a beginning of the longest.
  within_longest : (later l : List Bare) → is_ordered o s host inner l ≡ true → IsBeginning l (ordered_prefix o s host inner (later ++ l))
  within_longest [] l e = record { later = []; is = sym (whole l e) }
  within_longest (m ∷ later) l e = elim (cases_Bool (is_ordered o s host inner (m ∷ later ++ l))) [
    | inl all ↦ record { later = m ∷ later; is = sym (whole (m ∷ later ++ l) all) }
    | inr some ↦ let b = within_longest later l e in record { later = b.later; is = b.is ∙ sym (less m (later ++ l) some) }
  ]

module _ (s : Schedule) (w v : World) (g : Grows s w v) where
  all_carry : (l : List Claim) → Carries (issued s w) (issued s v) l
  all_carry [] = tt
  all_carry (c ∷ l) = (λ e. issued_grows s w v g c e, all_carry l)

  -- The prefix goes on.
  pub prefix_grows : (h : ℕ) → IsBeginning (prefix s w h) (prefix s v h)
  unfolding stamped_prefix
  prefix_grows h =
      let before : List Bare = bares_of s.shape (stamps s w h) in
      let now : List Bare = bares_of s.shape (stamps s v h) in
      let p : List Bare = ordered_prefix initial_floor s.shape h (inner_valid s.shape (issued s w)) before in
      let b : IsLongestOrdered initial_floor s.shape h (inner_valid s.shape (issued s w)) p before = longest initial_floor s.shape h (inner_valid s.shape (issued s w)) before in
      let more : IsBeginning before now = subst (λ (l : List Bytes). IsBeginning before (bares_of s.shape l)) (g.stamped h).is (read_more s.shape (g.stamped h).later (stamps s w h)) in
      let all : IsBeginning p now = beginning_then p before now b.beginning more in
      let ordered : is_ordered initial_floor s.shape h (inner_valid s.shape (issued s v)) p ≡ true =
      ordered_more initial_floor s.shape h (inner_valid s.shape (issued s w)) (inner_valid s.shape (issued s v)) p (λ m e. inner_more s.shape (issued s w) (issued s v) m (all_carry (inner_claims s.shape m)) e) b.ordered in
      subst (λ (l : List Bare). IsBeginning p (ordered_prefix initial_floor s.shape h (inner_valid s.shape (issued s v)) l)) all.is (within_longest initial_floor s.shape h (inner_valid s.shape (issued s v)) all.later p ordered)

module _ {S : Type 0} (system : System S) (w v : World) (f : Facts system w) (k : Facts system v) (g : Grows system.schedule w v) where
  -- Where a prefix led once it led later too.
  pub led_grows : (h : ℕ) (o : Floor) → IsLed system w f h o → IsLed system v k h o
  led_grows h o x = record { hidden = x.hidden; begins = beginning_then x.hidden (prefix system.schedule w h) (prefix system.schedule v h) x.begins (prefix_grows system.schedule w v g h); leads = x.leads }
