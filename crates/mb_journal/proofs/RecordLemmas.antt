-- A record is read as it is spelled, and nothing else is read.
use Rattle.std.proofs.Common.{◌≡◌, inl, inr, ℕ, suc, ◌+◌, ◌≤◌, ◌==◌, cond, nat_lt, nat_le, [], ◌∷◌, ◌++◌, length, get_or, take, drop, Option, Some, None, refl, sym, ◌∙◌, ap, subst, arith, length-append, length-take, length-drop}
use Rattle.std.proofs.lemmas.Bool.{cases_eq, cases_Bool, cases_lt, cond-true, cond-false, eq-eqb, ne_eqb, le-ltb, lt-ltb, le-leb, leb-true, and_parts, and_from}
use Rattle.std.proofs.lemmas.List.{take_at, drop_more}
use Rattle.std.proofs.Math.Seq.{take-add}
use Rattle.std.specs.Int.{w32, to_be_bytes}
use Rattle.mb_base.specs.Limits.{message_limit}
use Rattle.mb_base.specs.Shapes.{Bytes, is_within}
use Rattle.mb_base.specs.Spelling.{IsBytes}
use Rattle.mb_base.proofs.Laws.{wide32, IsBytes-take}
use Rattle.mb_msg.specs.declared.event.Event.{Event}
use Rattle.mb_msg.specs.declared.event.Event.TheVariants.{Given, Patience, Nudge}
use Rattle.mb_journal.specs.Files.{kind_of, bytes_of, record_text, record_size, entry, EventFits, event_of, told_length, first_event}

pub length-record_text : (event : Event) → length (record_text event) ≡ length (bytes_of event) + 5
length-record_text event =
    omega (arith, length-append (to_be_bytes w32 (length (bytes_of event))) (kind_of event ∷ bytes_of event), wide32.len (length (bytes_of event)))

pub length-entry : (event : Event) → length (entry event) ≡ record_size event
length-entry event = omega (arith, length-record_text event)

pub size_in_range : (event : Event) → EventFits event → length (bytes_of event) ≤ message_limit
size_in_range (Given bytes) fits = fits.1
size_in_range Patience fits = omega arith
size_in_range Nudge fits = omega arith

-- ---- read as spelled

pub event_of-kind : (event : Event) → EventFits event → event_of (kind_of event) (bytes_of event) ≡ Some event
event_of-kind (Given bytes) fits =
    cond-true (is_within 1 message_limit (length bytes)) (Some (Given bytes)) None (and_from _ _ (le-leb 1 (length bytes) fits.0) (le-leb (length bytes) message_limit fits.1))
event_of-kind Patience fits = refl
event_of-kind Nudge fits = refl

-- by the parts that are read
found_by_parts : (bytes body : Bytes) (n kind : ℕ) (found : Option Event) → told_length bytes ≡ n → n + 6 ≤ length bytes → get_or bytes 4 0 ≡ kind → take n (drop 5 bytes) ≡ body → event_of kind body ≡ found
    → first_event bytes ≡ found
found_by_parts bytes body n kind found told long kind_is body_is found_is =
    (λ i. cond (nat_lt (length bytes) (told i + 6)) None (event_of (kind_is i) (take (told i) (drop 5 bytes))))
    ∙ cond-false (nat_lt (length bytes) (n + 6)) None (event_of kind (take n (drop 5 bytes))) (le-ltb (length bytes) (n + 6) long)
    ∙ ap (λ (l : Bytes). event_of kind l) body_is ∙ found_is

pub first_event-record : (event : Event) (rest : Bytes) → EventFits event → 1 ≤ length rest → first_event (record_text event ++ rest) ≡ Some event
first_event-record event rest fits some =
    let body = bytes_of event in
    let n = length body in
    let most = size_in_range event fits in
    found_by_parts (record_text event ++ rest) body n (kind_of event) (Some event) (wide32.again n (omega (arith, most)))
    (omega (arith, length-append (record_text event) rest, length-record_text event)) refl (take_at body rest n refl) (event_of-kind event fits)

-- ---- nothing else is read

-- the parts of an event that was read
pub record HasParts (event : Event) (kind : ℕ) (body : Bytes) : Type 0 where
  pub kind_is : kind ≡ kind_of event
  pub body_is : body ≡ bytes_of event
  pub fits : EventFits event

given_parts : (kind : ℕ) (body : Bytes) (event : Event) → kind ≡ 1 → (1 ≤ length body) × (length body ≤ message_limit) → Some (Given body) ≡ Some event → HasParts event kind body
given_parts kind body (Given bytes) one within is =
    let same : body ≡ bytes = cc in
    record { kind_is = one; body_is = same; fits = subst (λ (l : Bytes). (1 ≤ length l) × (length l ≤ message_limit)) same within }
given_parts kind body Patience one within is = absurd cc
given_parts kind body Nudge one within is = absurd cc

no_bytes : (body : Bytes) → length body ≡ 0 → body ≡ []
no_bytes [] none = refl
no_bytes (x ∷ body) none = absurd (omega arith)

pub parts_of_event : (kind : ℕ) (body : Bytes) (event : Event) → event_of kind body ≡ Some event → HasParts event kind body
parts_of_event kind body event is =
    let small = cond (kind == 2) (Some Patience) (cond (kind == 3) (Some Nudge) None) in
    let given = cond (is_within 1 message_limit (length body)) (Some (Given body)) None in
    elim (cases_eq kind 1) [
      | inl one ↦
          let here : given ≡ Some event = sym (cond-true (kind == 1) given (cond (length body == 0) small None) (eq-eqb kind 1 one)) ∙ is in
          elim (cases_Bool (is_within 1 message_limit (length body))) [
            | inl within ↦
                let both = and_parts (nat_le 1 (length body)) (nat_le (length body) message_limit) within in
                given_parts kind body event one (leb-true 1 (length body) both.0, leb-true (length body) message_limit both.1) (sym (cond-true (is_within 1 message_limit (length body)) (Some (Given body)) None within) ∙ here)
            | inr outside ↦ let none : None ≡ Some event = sym (cond-false (is_within 1 message_limit (length body)) (Some (Given body)) None outside) ∙ here in absurd cc
          ]
      | inr other ↦
          let there : cond (length body == 0) small None ≡ Some event = sym (cond-false (kind == 1) given (cond (length body == 0) small None) (ne_eqb kind 1 other)) ∙ is in
          elim (cases_eq (length body) 0) [
            | inl empty ↦
                let kinds : small ≡ Some event = sym (cond-true (length body == 0) small None (eq-eqb (length body) 0 empty)) ∙ there in
                small_parts kind body event (no_bytes body empty) kinds
            | inr some ↦ let none : None ≡ Some event = sym (cond-false (length body == 0) small None (ne_eqb (length body) 0 some)) ∙ there in absurd cc
          ]
    ]
  where
    patience_parts : (kind : ℕ) (body : Bytes) (event : Event) → kind ≡ 2 → body ≡ [] → Some Patience ≡ Some event → HasParts event kind body
    patience_parts kind body (Given bytes) two empty is = absurd cc
    patience_parts kind body Patience two empty is = record { kind_is = two; body_is = empty; fits = tt }
    patience_parts kind body Nudge two empty is = absurd cc

    nudge_parts : (kind : ℕ) (body : Bytes) (event : Event) → kind ≡ 3 → body ≡ [] → Some Nudge ≡ Some event → HasParts event kind body
    nudge_parts kind body (Given bytes) three empty is = absurd cc
    nudge_parts kind body Patience three empty is = absurd cc
    nudge_parts kind body Nudge three empty is = record { kind_is = three; body_is = empty; fits = tt }

    small_parts : (kind : ℕ) (body : Bytes) (event : Event) → body ≡ [] → cond (kind == 2) (Some Patience) (cond (kind == 3) (Some Nudge) None) ≡ Some event → HasParts event kind body
    small_parts kind body event empty is = elim (cases_eq kind 2) [
      | inl two ↦ patience_parts kind body event two empty (sym (cond-true (kind == 2) (Some Patience) (cond (kind == 3) (Some Nudge) None) (eq-eqb kind 2 two)) ∙ is)
      | inr other ↦
          let there : cond (kind == 3) (Some Nudge) None ≡ Some event = sym (cond-false (kind == 2) (Some Patience) (cond (kind == 3) (Some Nudge) None) (ne_eqb kind 2 other)) ∙ is in
          elim (cases_eq kind 3) [
            | inl three ↦ nudge_parts kind body event three empty (sym (cond-true (kind == 3) (Some Nudge) None (eq-eqb kind 3 three)) ∙ there)
            | inr none ↦ let nothing : None ≡ Some event = sym (cond-false (kind == 3) (Some Nudge) None (ne_eqb kind 3 none)) ∙ there in absurd cc
          ]
    ]

-- a record that was read is its spelling
pub record IsRecord (event : Event) (bytes : Bytes) : Type 0 where
  pub front : take (length (record_text event)) bytes ≡ record_text event
  pub long : record_size event ≤ length bytes
  pub fits : EventFits event

pub record_read : (bytes : Bytes) (event : Event) → IsBytes bytes → first_event bytes ≡ Some event → IsRecord event bytes
record_read bytes event fits is = elim (cases_lt (length bytes) (told_length bytes + 6)) [
  | inl short ↦ let none : None ≡ Some event = sym (cond-true _ None (event_of (get_or bytes 4 0) (take (told_length bytes) (drop 5 bytes))) (lt-ltb (length bytes) (told_length bytes + 6) short)) ∙ is in absurd cc
  | inr long ↦
      let n = told_length bytes in
      let found : event_of (get_or bytes 4 0) (take n (drop 5 bytes)) ≡ Some event = sym (cond-false _ None (event_of (get_or bytes 4 0) (take n (drop 5 bytes))) (le-ltb (length bytes) (n + 6) long)) ∙ is in
      let parts = parts_of_event (get_or bytes 4 0) (take n (drop 5 bytes)) event found in
      let len : length (bytes_of event) ≡ n = sym (ap length parts.body_is) ∙ body_len bytes n long in
      let four : length (take 4 bytes) ≡ 4 = omega (arith, length-take 4 bytes) in
      let number : to_be_bytes w32 (length (bytes_of event)) ≡ take 4 bytes = ap (λ (k : ℕ). to_be_bytes w32 k) len ∙ wide32.back (take 4 bytes) four (IsBytes-take 4 bytes fits) in
      let size : length (record_text event) ≡ 4 + (1 + n) = omega (arith, length-record_text event, len) in
      let kind : take (1 + n) (drop 4 bytes) ≡ kind_of event ∷ bytes_of event =
      ap (λ (l : Bytes). take (1 + n) l) (drop_more bytes 4 0 (omega (arith, long))) ∙ one_more n (get_or bytes 4 0) (drop (4 + 1) bytes) ∙ (λ i. parts.kind_is i ∷ parts.body_is i) in
      record {
        front = ap (λ (k : ℕ). take k bytes) size ∙ take-add 4 (1 + n) bytes ∙ (λ i. number_back number i ++ kind i);
        long = omega (arith, len, long);
        fits = parts.fits;
      }
]
  where
    body_len : (bytes : Bytes) (n : ℕ) → n + 6 ≤ length bytes → length (take n (drop 5 bytes)) ≡ n
    body_len bytes n long = omega (arith, length-take n (drop 5 bytes), length-drop 5 bytes)

    one_more : (n x : ℕ) (xs : Bytes) → take (1 + n) (x ∷ xs) ≡ x ∷ take n xs
    one_more n x xs = let e : 1 + n ≡ suc n = omega arith in ap (λ (k : ℕ). take k (x ∷ xs)) e

    number_back : {xs ys : Bytes} → xs ≡ ys → ys ≡ xs
    number_back e = sym e
