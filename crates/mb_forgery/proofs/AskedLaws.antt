-- One more request that was asked, among those of which the tag begins as its own; and a request was asked where one with its bytes was.
use Rattle.std.proofs.Common.{◌≡◌, ℕ, Ordering, Less, Equal, Greater, Bool, true, false, cond, ◌&&◌, ◌||◌, ◌==◌, List, [], ◌∷◌, ◌++◌, Option, Some, unwrap_or, refl, sym, ap, ◌∙◌, inl, inr}
use Rattle.std.specs.List.{list_any, AllByRecursion}
use Rattle.std.specs.Ordering.{is_eq, nat_cmp}
use Rattle.std.specs.Cmp.Lexicographic.{bytes_decides}
use Rattle.std.specs.Cmp.{nat_cmp_is}
use Rattle.std.specs.FinMap.{nat_cmp-IsAntisymmetric}
use Rattle.std.proofs.lemmas.Bool.{cases_Bool, and_parts, eqb-true, eq-eqb}
use Rattle.std.proofs.lemmas.List.Folds.{list_any-append}
use Rattle.mb_base.specs.declared.shape.Shape.{Shape}
use Rattle.mb_base.specs.Shapes.{Bytes, IsShape}
use Rattle.mb_usig.specs.Tags.{same_bytes}
use Rattle.mb_parts.specs.declared.request.Request.{Request}
use Rattle.mb_parts.specs.Fits.{FitsRequest}
use Rattle.mb_parts.specs.Spelling.{request_bytes}
use Rattle.mb_msg.proofs.Injective.{request_injective}
use Rattle.mb_forgery.specs.Asked.{first_number, is_same}

never_so : (a b c : Bool) → (a && (b && (c && false))) ≡ false
never_so true true true = refl
never_so true true false = refl
never_so true false c = refl
never_so false b c = refl

last_first : (a b : Bool) → (b || (a || false)) ≡ (a || b)
last_first true true = refl
last_first true false = refl
last_first false true = refl
last_first false false = refl

tied : (o : Ordering) → is_eq o ≡ true → o ≡ Equal
tied Less e = absurd cc
tied Equal e = refl
tied Greater e = absurd cc

same_number : (a b : ℕ) → is_eq (nat_cmp a b) ≡ true → a ≡ b
same_number a b e = nat_cmp-IsAntisymmetric a b (tied (nat_cmp a b) e)

-- Tags that begin otherwise differ.
other_tags : (a b : Bytes) → is_eq (nat_cmp (first_number a) (first_number b)) ≡ false → same_bytes a b ≡ false
other_tags a b other = elim (cases_Bool (same_bytes a b)) [
  | inl same ↦
      let numbers : first_number a ≡ first_number b = ap first_number ((bytes_decides a b).0 same) in
      absurd (true_false (ap is_eq (nat_cmp_is (first_number a) (first_number b) Equal numbers) ∙ other))
  | inr differs ↦ differs
] where
  true_false : true ≡ false → ⊥
  true_false e = cc

-- So do their requests.
differ : (q r : Request) → is_eq (nat_cmp (first_number q.tag) (first_number r.tag)) ≡ false → is_same q r ≡ false
differ q r other = ap (λ b. q.client == r.client && (q.seq == r.seq && (same_bytes q.op r.op && b))) (other_tags q.tag r.tag other) ∙ never_so (q.client == r.client) (q.seq == r.seq) (same_bytes q.op r.op)

-- those of a look-up
abbrev pub those : Option (List Request) → List Request
those o = unwrap_or o []

-- the look-ups in the table before and behind, where this is the number with which the tag begins
module _ (old new : ℕ → Option (List Request)) (q : Request) (own : ℕ) (is : own ≡ first_number q.tag)
    (set : (n : ℕ) → new n ≡ cond (is_eq (nat_cmp own n)) (Some (those (old own) ++ q ∷ [])) (old n)) where
  pub has_one_more : (asked : List Request) (r : Request) → list_any (λ x. is_same x r) (those (old (first_number r.tag))) ≡ list_any (λ x. is_same x r) asked
      → list_any (λ x. is_same x r) (those (new (first_number r.tag))) ≡ (is_same q r || list_any (λ x. is_same x r) asked)
  has_one_more asked r was = elim (cases_Bool (is_eq (nat_cmp own (first_number r.tag)))) [
    | inl same ↦
        let sought : ℕ = first_number r.tag in
        let number : own ≡ sought = same_number own sought same in
        let now : those (new sought) ≡ those (old sought) ++ q ∷ [] = ap those (set sought ∙ ap (λ b. cond b (Some (those (old own) ++ q ∷ [])) (old sought)) same) ∙ ap (λ n. those (old n) ++ q ∷ []) number in
        ap (list_any (λ x. is_same x r)) now ∙ list_any-append (λ x. is_same x r) (those (old sought)) (q ∷ []) ∙ last_first (is_same q r) (list_any (λ x. is_same x r) (those (old sought))) ∙ ap (λ b. is_same q r || b) was
    | inr other ↦
        let sought : ℕ = first_number r.tag in
        let now : those (new sought) ≡ those (old sought) = ap those (set sought ∙ ap (λ b. cond b (Some (those (old own) ++ q ∷ [])) (old sought)) other) in
        let differs : is_same q r ≡ false = differ q r (ap (λ n. is_eq (nat_cmp n sought)) (sym is) ∙ other) in
        ap (list_any (λ x. is_same x r)) now ∙ was ∙ ap (λ b. b || list_any (λ x. is_same x r) asked) (sym differs)
  ]

-- ---- the same requests have the same bytes

same_is : (q r : Request) → is_same q r ≡ true → q ≡ r
same_is q r e =
    let client = and_parts (q.client == r.client) _ e in
    let seq = and_parts (q.seq == r.seq) _ client.1 in
    let op = and_parts (same_bytes q.op r.op) _ seq.1 in
    ap (λ c. record { client = c; seq = q.seq; op = q.op; tag = q.tag }) (eqb-true q.client r.client client.0)
    ∙ ap (λ n. record { client = r.client; seq = n; op = q.op; tag = q.tag }) (eqb-true q.seq r.seq seq.0)
    ∙ ap (λ o. record { client = r.client; seq = r.seq; op = o; tag = q.tag }) ((bytes_decides q.op r.op).0 op.0)
    ∙ ap (λ t. record { client = r.client; seq = r.seq; op = r.op; tag = t }) ((bytes_decides q.tag r.tag).0 op.1)

same_own : (r : Request) → is_same r r ≡ true
same_own r = rw (eq-eqb r.client r.client refl, eq-eqb r.seq r.seq refl, (bytes_decides r.op r.op).1 refl, (bytes_decides r.tag r.tag).1 refl) refl

module _ (s : Shape) (h : IsShape s) (r : Request) (fits : FitsRequest s r) where
  alike : (q : Request) → FitsRequest s q → (b : Bool) → is_same q r ≡ b → b ≡ same_bytes (request_bytes q) (request_bytes r)
  alike q fit true e = sym ((bytes_decides (request_bytes q) (request_bytes r)).1 (ap request_bytes (same_is q r e)))
  alike q fit false e = elim (cases_Bool (same_bytes (request_bytes q) (request_bytes r))) [
    | inl same ↦
        let is : q ≡ r = request_injective s h q r fit fits ((bytes_decides (request_bytes q) (request_bytes r)).0 same) in
        sym e ∙ ap (λ x. is_same x r) is ∙ same_own r ∙ sym same
    | inr other ↦ sym other
  ]

  pub asked_alike : (asked : List Request) → AllByRecursion (FitsRequest s) asked → list_any (λ q. is_same q r) asked ≡ list_any (λ q. same_bytes (request_bytes q) (request_bytes r)) asked
  asked_alike [] all = refl
  asked_alike (q ∷ asked) all =
      ap (λ b. b || list_any (λ x. is_same x r) asked) (alike q all.0 (is_same q r) refl)
      ∙ ap (λ b. same_bytes (request_bytes q) (request_bytes r) || b) (asked_alike asked all.1)
