-- Certificates and requests are looked through from the front: up to the first that is forged, none is.
use Rattle.std.proofs.Common.{◌≡◌, ℕ, zero, suc, ◌+◌, ◌<◌, ◌≤◌, Bool, true, false, ◌||◌, List, [], ◌∷◌, ◌++◌, length, drop, slice_get, get_or, Option, Some, None, Result, Ok, Err, refl, sym, ap, subst, ◌∙◌, add-one}
use Rattle.std.specs.Prelude.{find, option_map, IfOk}
use Rattle.std.specs.List.{list_any}
use Rattle.std.specs.Option.{option_or}
use Rattle.std.proofs.lemmas.List.{drop_all}
use Rattle.std.proofs.lemmas.List.Folds.{find-append, list_any-append}
use Rattle.std.proofs.lemmas.Option.{same_Some, none-some, slice_get-get_or}
use Rattle.mb_parts.specs.declared.request.Request.{Request}
use Rattle.mb_parts.specs.declared.certificates.StableCert.{StableCert}
use Rattle.mb_parts.specs.declared.certificates.StableMember.{StableMember}
use Rattle.mb_parts.specs.declared.certificates.FloorCert.{FloorCert}
use Rattle.mb_parts.specs.declared.certificates.FloorMember.{FloorMember}
use Rattle.mb_parts.specs.declared.certificates.Evidence.{Evidence}
use Rattle.mb_parts.specs.declared.certificates.EvidenceMember.{EvidenceMember}
use Rattle.mb_parts.specs.Claims.{Claim, stable_claims, floor_claims}
use Rattle.mb_schedule.specs.declared.schedule.Schedule.{Schedule}
use Rattle.mb_world_model.specs.World.{World}
use Rattle.mb_world_model.specs.Forged.{is_forged_claim, is_forged_request}
use Rattle.mb_forgery.specs.declared.checker.Checker.{Checker}
use Rattle.mb_forgery.specs.declared.checker.ForgedClaim.{ForgedClaim}
use Rattle.mb_forgery.specs.Checks.{AsksIn, told, first_forged, enter_claims}

-- No value is there.
pub is_none : {A : Type 0} (o : Option A) → ((x : A) → o ≡ Some x → ⊥) → o ≡ None
is_none None not = refl
is_none (Some x) not = absurd (not x refl)

-- What is read at a place of a list stands at that place of a list equal to it.
pub found_at : {A : Type 0} (l m : List A) → l ≡ m → (i : ℕ) (d : A) → i < length l → slice_get m i ≡ Some (get_or l i d)
found_at l m e i d lt = subst (λ z. slice_get z i ≡ Some (get_or l i d)) e (slice_get-get_or l i d lt)

-- ---- one list behind another

module _ (s : Schedule) (w : World) where
  told_or : (a b : Option Claim) → option_map told (option_or a b) ≡ option_or (option_map told a) (option_map told b)
  told_or None b = refl
  told_or (Some x) b = refl

  pub both_first : (xs ys : List Claim) → first_forged s w (xs ++ ys) ≡ option_or (first_forged s w xs) (first_forged s w ys)
  both_first xs ys = ap (option_map told) (find-append (is_forged_claim s w) xs ys) ∙ told_or (find (is_forged_claim s w) xs) (find (is_forged_claim s w) ys)

  pub front_found : (xs ys : List Claim) (x : ForgedClaim) → Some x ≡ first_forged s w xs → Some x ≡ first_forged s w (xs ++ ys)
  front_found xs ys x e = sym (both_first xs ys ∙ ap (λ o. option_or o (first_forged s w ys)) (sym e))

  pub front_clean : (xs ys : List Claim) (r : Option ForgedClaim) → None ≡ first_forged s w xs → r ≡ first_forged s w ys → r ≡ first_forged s w (xs ++ ys)
  front_clean xs ys r e is = is ∙ sym (both_first xs ys ∙ ap (λ o. option_or o (first_forged s w ys)) (sym e))

  -- where the first list was looked through, and looking through the second may want memory
  pub then_clean : {E : Type 0} (xs ys : List Claim) (r : Result (Option ForgedClaim) E) → None ≡ first_forged s w xs → IfOk r (λ o. o ≡ first_forged s w ys) → IfOk r (λ o. o ≡ first_forged s w (xs ++ ys))
  then_clean xs ys (Ok o) e is = front_clean xs ys o e is
  then_clean xs ys (Err x) e is = tt

  pub tag_found : (xs ys : List Request) → true ≡ list_any (is_forged_request s w) xs → true ≡ list_any (is_forged_request s w) (xs ++ ys)
  tag_found xs ys e = sym (list_any-append (is_forged_request s w) xs ys ∙ ap (λ b. b || list_any (is_forged_request s w) ys) (sym e))

  pub tags_clean : (xs ys : List Request) (r : Bool) → false ≡ list_any (is_forged_request s w) xs → r ≡ list_any (is_forged_request s w) ys → r ≡ list_any (is_forged_request s w) (xs ++ ys)
  tags_clean xs ys r e is = is ∙ sym (list_any-append (is_forged_request s w) xs ys ∙ ap (λ b. b || list_any (is_forged_request s w) ys) (sym e))

-- ---- lists of things that have some

module _ {A : Type 0} where
  drop_next : (l : List A) (i : ℕ) (x : A) → slice_get l i ≡ Some x → drop i l ≡ x ∷ drop (suc i) l
  drop_next [] i x at = absurd (none-some x at)
  drop_next (y ∷ l) zero x at = ap (λ z. z ∷ l) (same_Some y x at)
  drop_next (y ∷ l) (suc i) x at = drop_next l i x at

  module _ (c : Checker) (all : Schedule → List A → List Claim) where
    -- what stands from a place on decides
    abbrev pub Left : List A → ℕ → Type 0
    Left l i = (s : Schedule) (w : World) → AsksIn s w c → first_forged s w (all s (drop i l)) ≡ first_forged s w (all s l)

    module _ (part : Schedule → A → List Claim) (next : (s : Schedule) (x : A) (l : List A) → all s (x ∷ l) ≡ part s x ++ all s l) (none : (s : Schedule) → all s [] ≡ []) (l : List A) (i : ℕ) (left : Left l i) where
      here : (x : A) → slice_get l i ≡ Some x → (s : Schedule) → part s x ++ all s (drop (suc i) l) ≡ all s (drop i l)
      here x at s = sym (ap (all s) (drop_next l i x at) ∙ next s x (drop (suc i) l))

      pub walk_found : (x : A) (y : ForgedClaim) → slice_get l i ≡ Some x → ((s : Schedule) (w : World) → AsksIn s w c → Some y ≡ first_forged s w (part s x)) → (s : Schedule) (w : World) → AsksIn s w c → Some y ≡ first_forged s w (all s l)
      walk_found x y at is s w a = front_found s w (part s x) (all s (drop (suc i) l)) y (is s w a) ∙ ap (first_forged s w) (here x at s) ∙ left s w a

      pub walk_on : (x : A) → slice_get l i ≡ Some x → ((s : Schedule) (w : World) → AsksIn s w c → None ≡ first_forged s w (part s x)) → Left l (i + 1)
      walk_on x at is = rw (add-one i) (λ s w a. front_clean s w (part s x) (all s (drop (suc i) l)) (first_forged s w (all s (drop (suc i) l))) (is s w a) refl ∙ ap (first_forged s w) (here x at s) ∙ left s w a)

      pub walk_ends : length l ≤ i → (s : Schedule) (w : World) → AsksIn s w c → None ≡ first_forged s w (all s l)
      walk_ends le s w a = ap (first_forged s w) (sym (ap (all s) (drop_all i l le) ∙ none s)) ∙ left s w a

  module _ (c : Checker) (all : List A → List Request) where
    -- what stands from a place on decides
    abbrev pub TagsLeft : List A → ℕ → Type 0
    TagsLeft l i = (s : Schedule) (w : World) → AsksIn s w c → list_any (is_forged_request s w) (all (drop i l)) ≡ list_any (is_forged_request s w) (all l)

    module _ (part : A → List Request) (next : (x : A) (l : List A) → all (x ∷ l) ≡ part x ++ all l) (none : all [] ≡ []) (l : List A) (i : ℕ) (left : TagsLeft l i) where
      there : (x : A) → slice_get l i ≡ Some x → part x ++ all (drop (suc i) l) ≡ all (drop i l)
      there x at = sym (ap all (drop_next l i x at) ∙ next x (drop (suc i) l))

      pub tags_found : (x : A) → slice_get l i ≡ Some x → ((s : Schedule) (w : World) → AsksIn s w c → true ≡ list_any (is_forged_request s w) (part x)) → (s : Schedule) (w : World) → AsksIn s w c → true ≡ list_any (is_forged_request s w) (all l)
      tags_found x at is s w a = tag_found s w (part x) (all (drop (suc i) l)) (is s w a) ∙ ap (list_any (is_forged_request s w)) (there x at) ∙ left s w a

      pub tags_on : (x : A) → slice_get l i ≡ Some x → ((s : Schedule) (w : World) → AsksIn s w c → false ≡ list_any (is_forged_request s w) (part x)) → TagsLeft l (i + 1)
      tags_on x at is = rw (add-one i) (λ s w a. tags_clean s w (part x) (all (drop (suc i) l)) (list_any (is_forged_request s w) (all (drop (suc i) l))) (is s w a) refl ∙ ap (list_any (is_forged_request s w)) (there x at) ∙ left s w a)

      pub tags_end : length l ≤ i → (s : Schedule) (w : World) → AsksIn s w c → false ≡ list_any (is_forged_request s w) (all l)
      tags_end le s w a = ap (list_any (is_forged_request s w)) (sym (ap all (drop_all i l le) ∙ none)) ∙ left s w a

-- ---- certificates with other members

abbrev pub stable_with : StableCert → Schedule → List StableMember → List Claim
stable_with c s members = stable_claims (record c { members = members })

abbrev pub floor_with : FloorCert → Schedule → List FloorMember → List Claim
floor_with c s members = floor_claims (record c { members = members })

abbrev pub enters_with : Evidence → Schedule → List EvidenceMember → List Claim
enters_with e s members = enter_claims (record e { members = members })
