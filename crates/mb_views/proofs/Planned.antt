-- A plan's digest stands for the plan, once its string is hashed: the string is read back, and no other hashed string has this digest.
use Rattle.std.proofs.Common.{◌≡◌, ℕ, ◌+◌, ◌-◌, ◌*◌, ◌^◌, ◌<◌, ◌≤◌, List, [], ◌∷◌, ◌++◌, length, refl, sym, ap, subst, ◌∙◌, inl, inr, ◌⊎◌, arith, lit<, lit≤, length-append, Some, Ok}
use Rattle.std.specs.Prelude.{map, ◌/◌}
use Rattle.std.specs.Int.{w8, w64}
use Rattle.std.specs.Option.{option_or}
use Rattle.std.specs.List.{flat_map, AllByRecursion}
use Rattle.std.proofs.lemmas.Bool.{cases_Bool}
use Rattle.std.proofs.lemmas.List.{append-nil, length-map}
use Rattle.std.proofs.Math.Nat.{mul-div_cancel_left}
use Rattle.sha2.specs.Sha256.{sha256}
use Rattle.sha2.proofs.Facts256.{length-sha256}
use Rattle.mb_base.specs.Shapes.{Bytes}
use Rattle.mb_base.specs.Spelling.{number}
use Rattle.mb_base.specs.Reading.{Cursor, cursor, Reads, number_at, number_in, pair_at, repeat_at}
use Rattle.mb_base.proofs.Laws.{IsField, pair_field, ranged_field, number_field, repeat_field, wide8, wide64, number_length}
use Rattle.mb_usig.specs.Tags.{same_bytes}
use Rattle.mb_usig.proofs.Laws.{same_bytes-true, true-same_bytes}
use Rattle.mb_parts.specs.declared.batch.Batch.{Batch}
use Rattle.mb_parts.specs.declared.certificates.StableCert.{StableCert}
use Rattle.mb_parts.specs.Bares.{batch_digest}
use Rattle.mb_parts.specs.Fits.{IsDigest}
use Rattle.mb_parts.specs.Reading.{digest_at}
use Rattle.mb_parts.proofs.Fields.{digest_field}
use Rattle.mb_msg.specs.declared.change.Plan.{Plan}
use Rattle.mb_msg.specs.Plans.{plan_string, plan_text, plan_digest}
use Rattle.mb_agreement.specs.Agreement.{text_of}
use Rattle.mb_model.specs.Members.{In}
use Rattle.mb_model.proofs.Members.{contained}
use Rattle.mb_world_model.specs.Hashed.{HashesApart}
use Rattle.mb_world_model.specs.WorldRecord.{plan_text_at, plan_text_of, plan_with_digest, plans_of}
use Rattle.mb_host_laws.proofs.Cases.{not_both, some_or}

-- The base of a plan has a position that fits its bytes, and a state digest of 32 bytes.
pub record FitsBase (c : StableCert) : Type 0 where
  pub pos : c.pos < 2 ^ 64
  pub state : IsDigest c.state

digests_fit : (l : List Batch) → AllByRecursion IsDigest (map batch_digest l)
digests_fit [] = tt
digests_fit (r ∷ l) = (length-sha256 _, digests_fit l)

flat_length : (l : List Bytes) → AllByRecursion IsDigest l → length (flat_map (λ d. d) l) ≡ 32 * length l
flat_length [] a = refl
flat_length (x ∷ l) a = let first : length x ≡ 32 = a.0 in omega (arith, length-append x (flat_map (λ d. d) l), first, flat_length l a.1)

abbrev Fields : Type 0
Fields = ℕ × (ℕ × (Bytes × List Bytes))

abbrev fields_at : ℕ → Cursor → Reads Fields
fields_at count = pair_at (number_in w8 80 80) (pair_at (number_at w64) (pair_at digest_at (repeat_at digest_at count)))

abbrev fields_text : Fields → Bytes
fields_text x = number w8 x.0 ++ (number w64 x.1.0 ++ (x.1.1.0 ++ flat_map (λ d. d) x.1.1.1))

abbrev FieldsFit : ℕ → Fields → Type 0
FieldsFit count x = ((80 ≤ x.0) × (x.0 ≤ 80)) × ((x.1.0 < 2 ^ 64) × (IsDigest x.1.1.0 × ((length x.1.1.1 ≡ count) × AllByRecursion IsDigest x.1.1.1)))

fields_field : (count : ℕ) → IsField (fields_at count) fields_text (FieldsFit count)
fields_field count = pair_field _ _ _ _ _ _ (ranged_field w8 (2 ^ 8) 80 80 (lit< tt) wide8) (pair_field _ _ _ _ _ _ (number_field w64 (2 ^ 64) wide64) (pair_field _ _ _ _ _ _ digest_field (repeat_field count digest_at (λ d. d) IsDigest digest_field)))

abbrev fields_of : Plan → Fields
fields_of p = (80, (p.base.pos, (p.base.state, map batch_digest p.batches)))

fields_read : (count : ℕ) (x : Fields) → FieldsFit count x → fields_at count (cursor 0 (fields_text x)) ≡ Ok (x, cursor (0 + length (fields_text x)) [])
fields_read count x f = ap (λ (u : Bytes). fields_at count (cursor 0 u)) (sym (append-nil (fields_text x))) ∙ (fields_field count).again x 0 [] f

text_length : (p : Plan) → FitsBase p.base → length (fields_text (fields_of p)) ≡ 41 + 32 * length p.batches
text_length p f =
    let digests : List Bytes = map batch_digest p.batches in
    omega (
      arith,
      length-append (number w8 80) (number w64 p.base.pos ++ (p.base.state ++ flat_map (λ d. d) digests)),
      length-append (number w64 p.base.pos) (p.base.state ++ flat_map (λ d. d) digests),
      length-append p.base.state (flat_map (λ d. d) digests),
      number_length w8 (2 ^ 8) 80 wide8,
      number_length w64 (2 ^ 64) p.base.pos wide64,
      f.state,
      flat_length digests (digests_fit p.batches),
      length-map p.batches batch_digest,
    )

count_is : (p : Plan) → FitsBase p.base → (length (fields_text (fields_of p)) - 41) / 32 ≡ length p.batches
count_is p f = ap (λ (n : ℕ). (n - 41) / 32) (text_length p f) ∙ ap (λ (n : ℕ). n / 32) (rest (length p.batches)) ∙ mul-div_cancel_left (length p.batches) {n = 32} (lit< tt) where
  rest : (n : ℕ) → (41 + 32 * n) - 41 ≡ 32 * n
  rest n = omega arith

-- The string of a plan is read as the plan.
text_again : (p : Plan) → FitsBase p.base → plan_text_of (plan_text p) ≡ Some (text_of p)
unfolding plan_text_of plan_text_at plan_string
text_again p f = rw (count_is p f, fields_read (length p.batches) (fields_of p) ((lit≤ tt, lit≤ tt), (f.pos, (f.state, (length-map p.batches batch_digest, digests_fit p.batches))))) refl

module _ (p : Plan) (f : FitsBase p.base) (digest : Bytes) (e : plan_digest p ≡ digest) where
  first_known : (x : Bytes) (more : List Bytes) → (sha256 x ≡ sha256 (plan_text p) → x ≡ plan_text p) → (In more (plan_text p) → plans_of more digest ≡ Some (text_of p)) → (x ≡ plan_text p) ⊎ In more (plan_text p)
      → option_or (plan_with_digest digest x) (plans_of more digest) ≡ Some (text_of p)
  first_known x more one rest i = elim (cases_Bool (same_bytes (sha256 x) digest)) [
    | inl same ↦ rw same (some_or (plan_text_of x) (plans_of more digest) (text_of p) (subst (λ y. plan_text_of y ≡ Some (text_of p)) (sym (one (same_bytes-true (sha256 x) digest same ∙ sym e))) (text_again p f)))
    | inr other ↦ rw other (elim i [
      | inl is ↦ absurd (not_both (same_bytes (sha256 x) digest) (true-same_bytes (sha256 x) digest (ap sha256 is ∙ e)) other)
      | inr later ↦ rest later
    ])
  ]

  list_known : (l : List Bytes) → ((x : Bytes) → In l x → sha256 x ≡ sha256 (plan_text p) → x ≡ plan_text p) → In l (plan_text p) → plans_of l digest ≡ Some (text_of p)
  unfolding plans_of
  list_known [] one i = absurd i
  list_known (x ∷ l) one i = first_known x l (one x (inl refl)) (λ j. list_known l (λ y k. one y (inr k)) j) i

-- The first hashed string that is of a plan with this digest is this plan's.
pub plans_known : (strings : List Bytes) (p : Plan) (digest : Bytes) → HashesApart strings → In strings (plan_text p) → FitsBase p.base → plan_digest p ≡ digest → plans_of strings digest ≡ Some (text_of p)
plans_known strings p digest apart i f e = list_known p f digest e strings (λ x j same. apart x (plan_text p) (contained strings x j) (contained strings (plan_text p) i) same) i
