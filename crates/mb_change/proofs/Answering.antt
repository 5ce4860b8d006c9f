-- What is found host by host, with one host more, and the ENTERs that answer a NEW_VIEW.
use Rattle.std.proofs.Common.{◌≡◌, ℕ, ◌+◌, ◌<◌, ◌≤◌, Bool, true, false, cond, List, [], ◌∷◌, ◌++◌, length, map, filter, take, Option, Some, None, Bor, refl, sym, ap, ◌∙◌, arith}
use Rattle.std.specs.Prelude.{filter_map, is_some}
use Rattle.std.specs.List.{range_with_len, cons_option}
use Rattle.std.specs.Option.{option_to_list, option_copied}
use Rattle.std.proofs.lemmas.Bool.{false≢true}
use Rattle.std.proofs.lemmas.List.{map-id, map-append, append-nil, length-append, length-map, length-take, take_all, take-append-le}
use Rattle.std.proofs.lemmas.List.Elements.{filter-append, filter_map-append}
use Rattle.std.proofs.lemmas.List.FromFn.{map-range_with_len_more}
use Rattle.mb_parts.specs.declared.certificates.EvidenceMember.{EvidenceMember}
use Rattle.mb_msg.specs.declared.change.Enter.{Enter}
use Rattle.mb_msg.specs.declared.change.NewView.{NewView}
use Rattle.mb_model.specs.Held.{answers, as_member}
use Rattle.mb_change.specs.Evidences.{answer_in}

-- ---- what a search finds host by host, with one host more

one_host_more : (h : ℕ) → range_with_len 0 (h + 1) ≡ range_with_len 0 h ++ h ∷ []
one_host_more h = sym (map-id (range_with_len 0 (h + 1))) ∙ (map-range_with_len_more (λ x. x) 0 h h (omega arith) ∙ ap (λ l. l ++ h ∷ []) (map-id (range_with_len 0 h)))

alone : {A : Type 0} (o : Option A) → cons_option o [] ≡ option_to_list o
alone None = refl
alone (Some x) = refl

one_more : {A : Type 0} (f : ℕ → Option A) (h : ℕ) → filter_map f (range_with_len 0 (h + 1)) ≡ filter_map f (range_with_len 0 h) ++ option_to_list (f h)
one_more f h =
    ap (filter_map f) (one_host_more h)
    ∙ (filter_map-append f (range_with_len 0 h) (h ∷ [])
    ∙ ap (λ l. filter_map f (range_with_len 0 h) ++ l) (alone (f h)))

pub found_more : {A : Type 0} (f : ℕ → Option A) (h : ℕ) (x : A) → f h ≡ Some x → filter_map f (range_with_len 0 (h + 1)) ≡ filter_map f (range_with_len 0 h) ++ x ∷ []
found_more f h x is = one_more f h ∙ ap (λ o. filter_map f (range_with_len 0 h) ++ option_to_list o) is

pub none_more : {A : Type 0} (f : ℕ → Option A) (h : ℕ) → f h ≡ None → filter_map f (range_with_len 0 (h + 1)) ≡ filter_map f (range_with_len 0 h)
none_more f h is = one_more f h ∙ (ap (λ o. filter_map f (range_with_len 0 h) ++ option_to_list o) is ∙ append-nil (filter_map f (range_with_len 0 h)))

-- ---- the ENTERs that answer a NEW_VIEW

-- of the hosts below a number
abbrev pub answers_below : (ℕ → Option Enter) → NewView → ℕ → List Enter
answers_below enter n h = filter (answers n) (filter_map enter (range_with_len 0 h))

answered : (n : NewView) (o : Option Enter) → filter (answers n) (option_to_list o) ≡ option_to_list (answer_in n o)
answered n None = refl
answered n (Some m) = by_test (answers n m) where
  by_test : (b : Bool) → cond b (m ∷ []) [] ≡ option_to_list (cond b (Some m) None)
  by_test true = refl
  by_test false = refl

one_answer_more : (enter : ℕ → Option Enter) (n : NewView) (h : ℕ) → answers_below enter n (h + 1) ≡ answers_below enter n h ++ option_to_list (answer_in n (enter h))
one_answer_more enter n h =
    ap (filter (answers n)) (one_more enter h)
    ∙ (filter-append (answers n) (filter_map enter (range_with_len 0 h)) (option_to_list (enter h))
    ∙ ap (λ l. answers_below enter n h ++ l) (answered n (enter h)))

pub answer_more : (enter : ℕ → Option Enter) (n : NewView) (h : ℕ) (m : Enter) → answer_in n (enter h) ≡ Some m → answers_below enter n (h + 1) ≡ answers_below enter n h ++ m ∷ []
answer_more enter n h m is = one_answer_more enter n h ∙ ap (λ o. answers_below enter n h ++ option_to_list o) is

pub no_answer : (enter : ℕ → Option Enter) (n : NewView) (h : ℕ) → answer_in n (enter h) ≡ None → answers_below enter n (h + 1) ≡ answers_below enter n h
no_answer enter n h is = one_answer_more enter n h ∙ (ap (λ o. answers_below enter n h ++ option_to_list o) is ∙ append-nil (answers_below enter n h))

-- how many there are
pub count_more : (enter : ℕ → Option Enter) (n : NewView) (h count : ℕ) → count ≡ length (answers_below enter n h) → is_some (answer_in n (enter h)) ≡ true → count + 1 ≡ length (answers_below enter n (h + 1))
count_more enter n h count counted there = by_case (answer_in n (enter h)) refl there where
  by_case : (o : Option Enter) → answer_in n (enter h) ≡ o → is_some o ≡ true → count + 1 ≡ length (answers_below enter n (h + 1))
  by_case None is there = absurd (false≢true there)
  by_case (Some m) is there =
      let long = length-append (answers_below enter n h) (m ∷ []) in
      omega (arith, counted, long, ap length (answer_more enter n h m is))

pub count_same : (enter : ℕ → Option Enter) (n : NewView) (h count : ℕ) → count ≡ length (answers_below enter n h) → is_some (answer_in n (enter h)) ≡ false → count ≡ length (answers_below enter n (h + 1))
count_same enter n h count counted none = by_case (answer_in n (enter h)) refl none where
  by_case : (o : Option Enter) → answer_in n (enter h) ≡ o → is_some o ≡ false → count ≡ length (answers_below enter n (h + 1))
  by_case None is none = counted ∙ sym (ap length (no_answer enter n h is))
  by_case (Some m) is none = absurd (false≢true (sym none))

-- the first of them, as members of evidence

pub member_put : (enter : ℕ → Option Enter) (n : NewView) (f h : ℕ) (xs ys : List EvidenceMember) (o : Option (Bor Enter)) (x : Bor Enter) → xs ≡ map as_member (take f (answers_below enter n h)) → length xs < f
    → option_copied o ≡ answer_in n (enter h) → o ≡ Some x → ys ≡ xs ++ as_member x.now ∷ [] → ys ≡ map as_member (take f (answers_below enter n (h + 1)))
member_put enter n f h xs ys o x are few is there put =
    let old = answers_below enter n h in
    let short : length old < f = omega (arith, few, ap length are, length-map (take f old) as_member, length-take f old) in
    let long = length-append old (x.now ∷ []) in
    put ∙ (rw (are, answer_more enter n h x.now (sym is ∙ ap option_copied there), take_all f old (omega (arith, short)), take_all f (old ++ x.now ∷ []) (omega (arith, short, long))) (sym (map-append as_member old (x.now ∷ []))))

pub member_none : (enter : ℕ → Option Enter) (n : NewView) (f h : ℕ) (xs : List EvidenceMember) (o : Option (Bor Enter)) → xs ≡ map as_member (take f (answers_below enter n h))
    → option_copied o ≡ answer_in n (enter h) → o ≡ None → xs ≡ map as_member (take f (answers_below enter n (h + 1)))
member_none enter n f h xs o are is none = are ∙ sym (ap (λ l. map as_member (take f l)) (no_answer enter n h (sym is ∙ ap option_copied none)))

pub members_full : (enter : ℕ → Option Enter) (n : NewView) (f h : ℕ) (xs : List EvidenceMember) → xs ≡ map as_member (take f (answers_below enter n h)) → f ≤ length xs → xs ≡ map as_member (take f (answers_below enter n (h + 1)))
members_full enter n f h xs are full =
    let old = answers_below enter n h in
    let enough : f ≤ length old = omega (arith, full, ap length are, length-map (take f old) as_member, length-take f old) in
    are ∙ sym (ap (λ l. map as_member (take f l)) (one_answer_more enter n h) ∙ ap (map as_member) (take-append-le f old (option_to_list (answer_in n (enter h))) enough))

-- what a look-up by reference tells of the value
pub told : {A : Type 0} (o : Option (Bor A)) (a : Option A) (b : Bool) → option_copied o ≡ a → b ≡ is_some o → is_some a ≡ b
told None a b is tells = ap is_some (sym is) ∙ sym tells
told (Some x) a b is tells = ap is_some (sym is) ∙ sym tells

-- One more is put behind those found of the hosts below, where there is one.
pub put_more : {A : Type 0} (f : ℕ → Option A) (h : ℕ) (xs ys : List A) (o : Option (Bor A)) (x : Bor A) (copy : A) → xs ≡ filter_map f (range_with_len 0 h) → option_copied o ≡ f h → o ≡ Some x → copy ≡ x.now → ys ≡ xs ++ copy ∷ []
    → ys ≡ filter_map f (range_with_len 0 (h + 1))
put_more f h xs ys o x copy below is there same more =
    more ∙ (rw (below, same) (sym (found_more f h x.now (sym is ∙ ap option_copied there))))

pub put_none : {A : Type 0} (f : ℕ → Option A) (h : ℕ) (xs : List A) (o : Option (Bor A)) → xs ≡ filter_map f (range_with_len 0 h) → option_copied o ≡ f h → o ≡ None → xs ≡ filter_map f (range_with_len 0 (h + 1))
put_none f h xs o below is none = below ∙ sym (none_more f h (sym is ∙ ap option_copied none))
