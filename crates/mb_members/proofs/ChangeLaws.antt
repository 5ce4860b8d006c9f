-- What a faulty host stamped after a counter.
use Rattle.std.proofs.Common.{◌≡◌, ℕ, zero, suc, ◌+◌, ◌-◌, ◌<◌, ◌≤◌, List, [], ◌∷◌, ◌++◌, length, map, take, drop, get_or, Option, Some, None, refl, sym, ap, ◌∙◌, arith, inl, inr}
use Rattle.std.specs.Prelude.{true, filter_map, reverse, min, option_and_then, slice_get}
use Rattle.std.proofs.lemmas.Option.{slice_get_read}
use Rattle.std.proofs.lemmas.List.{take_all, length-map, length-drop, reverse-append, length-reverse, take-map, take-append-drop, append-nil, take_more}
use Rattle.std.proofs.lemmas.List.Elements.{filter_map-append}
use Rattle.mb_base.specs.Shapes.{Bytes}
use Rattle.mb_msg.specs.declared.stamped.Stamped.{Stamped}
use Rattle.mb_msg.specs.Stamps.{as_stamped}
use Rattle.mb_model.proofs.Options.{option_cases}
use Rattle.mb_schedule.specs.declared.schedule.Schedule.{Schedule}
use Rattle.mb_schedule.specs.Limits.{is_faulty}
use Rattle.mb_model.specs.Histories.{History}
use Rattle.mb_world_model.specs.World.{World as WorldState, System, FaultyStamp, read}
use Rattle.mb_world_model.specs.FaultyHosts.{stamped_after}
use Rattle.mb_members.specs.declared.members.FaultyHost.{FaultyHost}
use Rattle.mb_members.specs.declared.members.Member.{Member}
use Rattle.mb_members.specs.declared.members.Member.TheVariants as member
use Rattle.mb_members.specs.Members.{IsMember, RepresentsMembers}

-- the stamped message of these bytes
abbrev pub stamped_in : Schedule → Bytes → Option Stamped
stamped_in s bytes = option_and_then as_stamped (read s bytes)

one_turned : {A B : Type 0} (f : A → Option B) (x : A) → reverse (filter_map f (x ∷ [])) ≡ filter_map f (x ∷ [])
one_turned f x = elim (option_cases (f x)) [ inl none ↦ rw none refl | inr (b, some) ↦ rw some refl ]

turned : {A B : Type 0} (f : A → Option B) (l : List A) → reverse (filter_map f l) ≡ filter_map f (reverse l)
turned f [] = refl
turned f (x ∷ l) =
    ap reverse (filter_map-append f (x ∷ []) l) ∙ (reverse-append (filter_map f (x ∷ [])) (filter_map f l)
    ∙ (ap (λ r. r ++ reverse (filter_map f (x ∷ []))) (turned f l) ∙ (ap (λ r. filter_map f (reverse l) ++ r) (one_turned f x)
    ∙ (sym (filter_map-append f (reverse l) (x ∷ [])) ∙ ap (filter_map f) (sym (reverse-append (x ∷ []) l))))))

through_map : {A B C : Type 0} (f : B → Option C) (g : A → B) (l : List A) → filter_map f (map g l) ≡ filter_map (λ x. f (g x)) l
through_map f g [] = refl
through_map f g (x ∷ l) = elim (option_cases (f (g x))) [
  | inl none ↦ rw none (through_map f g l)
  | inr (c, some) ↦ rw some (ap (λ r. c ∷ r) (through_map f g l))
]

-- The last ones in order are the first ones of the others.
taken_front : {A : Type 0} (n : ℕ) (xs ys : List A) → length xs ≡ n → take n (xs ++ ys) ≡ xs
taken_front zero [] ys e = refl
taken_front zero (x ∷ xs) ys e = absurd (omega arith)
taken_front (suc n) [] ys e = absurd (omega arith)
taken_front (suc n) (x ∷ xs) ys e = ap (λ r. x ∷ r) (taken_front n xs ys (omega arith))

turned_behind : {A : Type 0} (i : ℕ) (l : List A) → reverse (drop i l) ≡ take (length (drop i l)) (reverse l)
turned_behind i l =
    sym (ap (λ r. take (length (drop i l)) (reverse r)) (sym (take-append-drop i l)) ∙ (ap (take (length (drop i l))) (reverse-append (take i l) (drop i l))
    ∙ taken_front (length (drop i l)) (reverse (drop i l)) (reverse (take i l)) (length-reverse (drop i l))))

-- ---- one more that is read

pub kept_more : {A B : Type 0} (f : A → Option B) (l : List A) (i : ℕ) (x : A) (y : B) (kept : List B) → i < length l → x ≡ get_or l i x → Some y ≡ f x → kept ≡ filter_map f (take i l) → kept ++ y ∷ [] ≡ filter_map f (take (i + 1) l)
kept_more f l i x y kept lt at some is =
    ap (λ r. r ++ y ∷ []) is ∙ (ap (λ r. filter_map f (take i l) ++ r) (rw (← some) refl)
    ∙ (sym (filter_map-append f (take i l) (x ∷ [])) ∙ ap (filter_map f) (ap (λ z. take i l ++ z ∷ []) at ∙ sym (take_more l i x lt))))

pub kept_same : {A B : Type 0} (f : A → Option B) (l : List A) (i : ℕ) (x : A) (kept : List B) → i < length l → x ≡ get_or l i x → None ≡ f x → kept ≡ filter_map f (take i l) → kept ≡ filter_map f (take (i + 1) l)
kept_same f l i x kept lt at none is =
    is ∙ (sym (append-nil (filter_map f (take i l))) ∙ (ap (λ r. filter_map f (take i l) ++ r) (rw (← none) refl)
    ∙ (sym (filter_map-append f (take i l) (x ∷ [])) ∙ ap (filter_map f) (ap (λ z. take i l ++ z ∷ []) at ∙ sym (take_more l i x lt)))))

module _ (s : Schedule) (x : WorldState) where
  -- the messages of a faulty host from a counter on, where all its messages are these
  after_counter : (h counter first : ℕ) (messages : List Bytes) → reverse messages ≡ map (λ (k : FaultyStamp). k.message) (x.faulty_stamps h) → length (drop first messages) ≡ length (x.faulty_stamps h) - counter
      → reverse (filter_map (stamped_in s) (drop first messages)) ≡ stamped_after s x h counter
  after_counter h counter first messages are count =
      turned (stamped_in s) (drop first messages) ∙ (ap (filter_map (stamped_in s)) (turned_behind first messages)
      ∙ (ap (λ n. filter_map (stamped_in s) (take n (reverse messages))) count ∙ (ap (λ l. filter_map (stamped_in s) (take (length (x.faulty_stamps h) - counter) l)) are
      ∙ (ap (filter_map (stamped_in s)) (take-map (λ (k : FaultyStamp). k.message) (length (x.faulty_stamps h) - counter) (x.faulty_stamps h))
      ∙ through_map (stamped_in s) (λ (k : FaultyStamp). k.message) (take (length (x.faulty_stamps h) - counter) (x.faulty_stamps h))))))

  -- the same where they were read one by one from there to the end
  pub after_read : (h counter first index : ℕ) (all : List Bytes) (messages : List Stamped) → reverse all ≡ map (λ (k : FaultyStamp). k.message) (x.faulty_stamps h) → first ≡ min counter (length all)
      → length (take (length all - first) (drop first all)) ≤ index → messages ≡ filter_map (stamped_in s) (take index (take (length all - first) (drop first all))) → reverse messages ≡ stamped_after s x h counter
  after_read h counter first index all messages are is end taken =
      let left : length (drop first all) ≡ length all - first = length-drop first all in
      let long : length all ≡ length (x.faulty_stamps h) = sym (length-reverse all) ∙ (ap length are ∙ length-map (x.faulty_stamps h) (λ (k : FaultyStamp). k.message)) in
      ap reverse (taken ∙ ap (filter_map (stamped_in s)) (take_all index (take (length all - first) (drop first all)) end ∙ take_all (length all - first) (drop first all) (omega (arith, left))))
      ∙ after_counter h counter first all are (omega (arith, left, long, is))

-- ---- whose they are

module _ {V : Type 0} (y : System V) where
  pub member_at : (members : List (Member V)) (d : ℕ → History) (stamps : ℕ → List FaultyStamp) (i h : ℕ) (m : Member V) → RepresentsMembers y members d stamps → i ≡ h → i < length members → m ≡ get_or members i m → IsMember y h m (d h) (stamps h)
  member_at members d stamps i h m all same lt read =
      let here : slice_get members i ≡ Some m = slice_get_read members (length members) i m refl lt read in
      all h m (ap (slice_get members) (sym same) ∙ here)

  -- Where a host is faulty, it is no other member.
  pub is_no_other : (h : ℕ) (m : Member V) (d : History) (stamps : List FaultyStamp) → IsMember y h m d stamps → is_faulty y.schedule h ≡ true → ((f : FaultyHost) → m ≡ member.Faulty f → ⊥) → ⊥
  is_no_other h (member.Correct r) d stamps is faulty other = let no = is.correct in absurd cc
  is_no_other h (member.Faulty f) d stamps is faulty other = other f refl
