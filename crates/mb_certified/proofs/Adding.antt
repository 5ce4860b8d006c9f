-- Bare messages are added to a list one after the other.
use Rattle.std.proofs.Common.{◌≡◌, ℕ, zero, suc, ◌+◌, List, [], ◌∷◌, ◌++◌, map, take, slice_get, Some, Result, Ok, Err, refl, sym, ap, subst, ◌∙◌, append_assoc, add-one}
use Rattle.std.specs.Prelude.{OnOk}
use Rattle.std.specs.List.{AllByRecursion}
use Rattle.std.proofs.lemmas.List.{append-nil}
use Rattle.std.proofs.lemmas.Option.{same_Some, none-some}
use Rattle.mb_base.specs.declared.shape.Shape.{Shape}
use Rattle.mb_parts.specs.declared.certificates.StableCert.{StableCert}
use Rattle.mb_parts.specs.declared.certificates.StableMember.{StableMember}
use Rattle.mb_parts.specs.declared.certificates.FloorCert.{FloorCert}
use Rattle.mb_parts.specs.declared.certificates.FloorMember.{FloorMember}
use Rattle.mb_parts.specs.declared.certificates.Evidence.{Evidence}
use Rattle.mb_parts.specs.declared.certificates.EvidenceMember.{EvidenceMember}
use Rattle.mb_parts.specs.Claims.{Claim, stable_claims, floor_claims}
use Rattle.mb_msg.specs.declared.stamped.Stamped.{Stamped}
use Rattle.mb_model.specs.GateChecks.{stamp_claim}
use Rattle.mb_certified.specs.Certified.{IsBareStamp, AreCertified, Adds, enters_of}

map_both : (a b : List Stamped) → map stamp_claim (a ++ b) ≡ map stamp_claim a ++ map stamp_claim b
map_both [] b = refl
map_both (x ∷ a) b = ap (λ l. stamp_claim x ∷ l) (map_both a b)

all_both : (P : Stamped → Type 0) (a b : List Stamped) → AllByRecursion P a → AllByRecursion P b → AllByRecursion P (a ++ b)
all_both P [] b x y = y
all_both P (m ∷ a) b x y = (x.0, all_both P a b x.1 y)

module _ (s : Shape) where
  -- nothing was added
  pub adds_none : (l : List Stamped) → Adds s l l []
  adds_none l = record { more = []; is = sym (append-nil l); are = record { say = refl; bare = tt } }

  -- one was added
  pub adds_one : (l new : List Stamped) (m : Stamped) → new ≡ l ++ m ∷ [] → IsBareStamp s m → Adds s l new (stamp_claim m ∷ [])
  adds_one l new m is bare = record { more = m ∷ []; is = is; are = record { say = refl; bare = (bare, tt) } }

  -- some, and then others
  pub adds_then : (a b c : List Stamped) (x y : List Claim) → Adds s a b x → Adds s b c y → Adds s a c (x ++ y)
  adds_then a b c x y p q = record {
    more = p.more ++ q.more;
    is = q.is ∙ ap (λ l. l ++ q.more) p.is ∙ append_assoc a p.more q.more;
    are = record {
      say = map_both p.more q.more ∙ ap (λ l. l ++ map stamp_claim q.more) p.are.say ∙ ap (λ l. x ++ l) q.are.say;
      bare = all_both (IsBareStamp s) p.more q.more p.are.bare q.are.bare;
    };
  }

  pub adds_same : (a b : List Stamped) (x y : List Claim) → x ≡ y → Adds s a b x → Adds s a b y
  adds_same a b x y e p = subst (λ (l : List Claim). Adds s a b l) e p

  -- those of a list that was empty
  pub adds_all : (old new : List Stamped) (x : List Claim) → old ≡ [] → Adds s old new x → AreCertified s new x
  adds_all old new x none a = subst (λ (l : List Stamped). AreCertified s l x) (sym (a.is ∙ ap (λ l. l ++ a.more) none)) a.are

  -- ---- where memory may run out on the way

  pub same_ok : {A E : Type 0} (r : Result A E) (a b : List Stamped) (x y : List Claim) → x ≡ y → OnOk r (Adds s a b x) → OnOk r (Adds s a b y)
  same_ok (Ok v) a b x y e p = adds_same a b x y e p
  same_ok (Err v) a b x y e p = tt

  pub then_ok : {A E : Type 0} (r : Result A E) (a b c : List Stamped) (x y : List Claim) → Adds s a b x → OnOk r (Adds s b c y) → OnOk r (Adds s a c (x ++ y))
  then_ok (Ok v) a b c x y p q = adds_then a b c x y p q
  then_ok (Err v) a b c x y p q = tt

  -- ---- of each of a list

  module _ {A : Type 0} (all : List A → List Claim) (part : A → List Claim) (next : (x : A) (l : List A) → all (x ∷ l) ≡ part x ++ all l) (none : all [] ≡ []) where
    taken_more : (l : List A) (i : ℕ) (x : A) → slice_get l i ≡ Some x → all (take (suc i) l) ≡ all (take i l) ++ part x
    taken_more [] i x at = absurd (none-some x at)
    taken_more (y ∷ l) zero x at =
        next y [] ∙ ap (λ z. part y ++ z) none ∙ append-nil (part y) ∙ ap part (same_Some y x at) ∙ sym (ap (λ z. z ++ part x) none)
    taken_more (y ∷ l) (suc i) x at =
        next y (take (suc i) l) ∙ ap (λ z. part y ++ z) (taken_more l i x at) ∙ sym (append_assoc (part y) (all (take i l)) (part x)) ∙ ap (λ z. z ++ part x) (sym (next y (take i l)))

    -- one more at the end
    pub taken_next : (l : List A) (i : ℕ) (x : A) → slice_get l i ≡ Some x → all (take (i + 1) l) ≡ all (take i l) ++ part x
    taken_next l i x at = rw (add-one i) (taken_more l i x at)

    -- those of one more
    pub adds_next : (l : List A) (i : ℕ) (x : A) (a b c : List Stamped) → slice_get l i ≡ Some x → Adds s a b (all (take i l)) → Adds s b c (part x) → Adds s a c (all (take (i + 1) l))
    adds_next l i x a b c at p q =
        rw (add-one i) (adds_same a c (all (take i l) ++ part x) (all (take (suc i) l)) (sym (taken_more l i x at)) (adds_then a b c (all (take i l)) (part x) p q))

    -- those of none
    pub adds_first : (l : List A) (a : List Stamped) → Adds s a a (all (take 0 l))
    adds_first l a = adds_same a a [] (all (take 0 l)) (sym none) (adds_none a)

-- ---- certificates with other members

abbrev pub stable_with : StableCert → List StableMember → List Claim
stable_with c members = stable_claims (record c { members = members })

abbrev pub floor_with : FloorCert → List FloorMember → List Claim
floor_with c members = floor_claims (record c { members = members })

abbrev pub enters_with : Evidence → List EvidenceMember → List Claim
enters_with e members = enters_of (record e { members = members })
