-- What a log stands for, behind each call, and what it answers of a history.
use Rattle.std.proofs.Common.{◌≡◌, ℕ, zero, suc, ◌+◌, ◌-◌, ◌<◌, ◌≤◌, Bool, true, false, ◌&&◌, cond, ltb, List, [], ◌∷◌, ◌++◌, length, map, take, drop, reverse, min, max, Option, Some, None, inl, inr, refl, sym, ap, ◌∙◌, subst, arith, take-take, take-append-drop, length-take, length-drop}
use Rattle.std.specs.Prelude.{count_by, not, nat_lt}
use Rattle.std.proofs.lemmas.Bool.{cases_lt}
use Rattle.std.proofs.lemmas.List.Sums.{sum_by-cons, sum_by_push}
use Rattle.std.proofs.lemmas.List.{reverse-append, take-map, length-map, length-reverse, append-nil}
use Rattle.mb_base.specs.Limits.{other_limit}
use Rattle.mb_base.specs.declared.shape.Shape.{Shape}
use Rattle.mb_parts.specs.declared.floor.Floor.{Floor}
use Rattle.mb_parts.specs.declared.certificates.FloorCert.{FloorCert}
use Rattle.mb_parts.specs.Certificates.{first_floor}
use Rattle.mb_msg.specs.declared.stamped.Stamped.{Stamped as StampedMessage}
use Rattle.mb_msg.specs.Spelling.{stamped_kind}
use Rattle.mb_model.specs.Histories.{History, Identity, stamped as all_stamped, counter_of}
use Rattle.mb_model.specs.Stable.{log_floor, floor_counter as model_counter, counter_in as model_counter_in}
use Rattle.mb_model.specs.UsableLogs.{normal_limit}
use Rattle.mb_model.specs.OwnLog.{is_normal, behind, as_shown, first_packed, kept_forms, own_log, log_kept, log_start, log_longest, is_unspent, has_room, has_other_room, since}
use Rattle.mb_log.specs.Logs.{Log, counter_in, floor_counter, start, is_normal_kind, has_room_for, appended, cut_at, given_from}
use Rattle.mb_log.specs.Represents.{Represents, count_since, kept_since, count_from, StandsWith, StandsCut, Gives}
use Rattle.mb_log.specs.Histories.{RepresentsLog, AnswersFor, LogsAnswer}
use Rattle.mb_log.proofs.Keeping.{kind_is_normal, count_behind}
use Rattle.mb_model.proofs.LogForms.{normal_behind}

-- a log by its parts
abbrev pub log_with : Shape → ℕ → Option FloorCert → List StampedMessage → ℕ → Log
log_with shape host floor entries longest = record { shape = shape; host = host; floor = floor; entries = entries; longest = longest }

-- ---- lists turned round

reverse_cons : {A : Type 0} (x : A) (xs : List A) → reverse (x ∷ xs) ≡ reverse xs ++ x ∷ []
reverse_cons x xs = reverse-append (x ∷ []) xs

reverse_map : {A B : Type 0} (f : A → B) (xs : List A) → reverse (map f xs) ≡ map f (reverse xs)
reverse_map f [] = refl
reverse_map f (x ∷ xs) = reverse_cons (f x) (map f xs) ∙ (ap (λ l. l ++ f x ∷ []) (reverse_map f xs) ∙ (sym (map_push (reverse xs)) ∙ ap (map f) (sym (reverse_cons x xs)))) where
  map_push : (l : List _) → map f (l ++ x ∷ []) ≡ map f l ++ f x ∷ []
  map_push [] = refl
  map_push (y ∷ l) = ap (λ k. f y ∷ k) (map_push l)

drop_front : {A : Type 0} (n : ℕ) (xs ys : List A) → length xs ≡ n → drop n (xs ++ ys) ≡ ys
drop_front zero [] ys e = refl
drop_front zero (x ∷ xs) ys e = absurd (omega (arith, e))
drop_front (suc n) [] ys e = absurd (omega (arith, e))
drop_front (suc n) (x ∷ xs) ys e = drop_front n xs ys (omega (arith, e))

drop_past : {A : Type 0} (n : ℕ) (xs : List A) → length xs ≤ n → drop n xs ≡ []
drop_past zero [] le = refl
drop_past zero (x ∷ xs) le = absurd (omega (arith, le))
drop_past (suc n) [] le = refl
drop_past (suc n) (x ∷ xs) le = drop_past n xs (omega (arith, le))

-- without some at the front: turned round, those that are left
drop_reverse : {A : Type 0} (n : ℕ) (xs : List A) → drop n (reverse xs) ≡ reverse (take (length xs - n) xs)
drop_reverse n xs = elim (cases_lt n (length xs)) [
  | inl lt ↦
      let k = length xs - n in
      ap (λ l. drop n (reverse l)) (sym (take-append-drop k xs))
      ∙ (ap (drop n) (reverse-append (take k xs) (drop k xs))
      ∙ drop_front n (reverse (drop k xs)) (reverse (take k xs)) (length-reverse (drop k xs) ∙ (length-drop k xs ∙ (let e : length xs - k ≡ n = omega (arith, lt) in e))))
  | inr le ↦
      let none : length xs - n ≡ 0 = omega (arith, le) in
      drop_past n (reverse xs) (let long : length (reverse xs) ≡ length xs = length-reverse xs in omega (arith, long, le))
      ∙ ap (λ k. reverse (take k xs)) (sym none)
]

-- ---- kept forms

length_kept : (l : List StampedMessage) → length (kept_forms l) ≡ length l
unfolding kept_forms
length_kept [] = refl
length_kept (m ∷ l) = ap suc (length-map (kept_forms l) (behind m) ∙ length_kept l)

length_taken : (k : ℕ) (l : List StampedMessage) → k ≤ length l → length (take k (kept_forms l)) ≡ k
length_taken k l le = let long = length_kept l in let taken = length-take k (kept_forms l) in omega (arith, long, taken, le)

-- turned round, with one message more
one_more : (k : ℕ) (m : StampedMessage) (l : List StampedMessage) → reverse (take (suc k) (kept_forms (m ∷ l))) ≡ map (behind m) (reverse (take k (kept_forms l))) ++ m ∷ []
unfolding kept_forms
one_more k m l =
    reverse_cons m (take k (map (behind m) (kept_forms l)))
    ∙ ap (λ ys. ys ++ m ∷ []) (ap reverse (take-map (behind m) k (kept_forms l)) ∙ reverse_map (behind m) (take k (kept_forms l)))

-- ---- what each call makes of what a log stands for

length_entries : (log : Log) (floor : Option FloorCert) (l : List StampedMessage) (longest : ℕ) → Represents log floor l longest → length log.entries ≡ count_since log.host floor l
length_entries log floor l longest r =
    ap length r.entries_are ∙ (length-reverse (kept_since log.host floor l) ∙ length_taken (count_since log.host floor l) l (omega arith))

appended_stands : (old : Log) (m : StampedMessage) → StandsWith old m (appended m old)
appended_stands old m = λ floor l longest r.
    let c = floor_counter old.host floor in
    let k = length l - c in
    let one : suc (length l) - c ≡ suc k = let reached = r.reached in omega (arith, reached) in
    record {
      floor_is = r.floor_is;
      reached = let reached = r.reached in omega (arith, reached);
      entries_are =
          ap (λ xs. map (behind m) xs ++ m ∷ []) r.entries_are
          ∙ (sym (one_more k m l) ∙ ap (λ n. reverse (take n (kept_forms (m ∷ l)))) (sym one));
      longest_is = ap (λ n. max n (length old.entries + 1)) r.longest_is ∙ ap (λ n. max longest (n + 1)) (length_entries old floor l longest r);
    }

pub with_stands : (old new : Log) (m : StampedMessage) → new ≡ appended m old → StandsWith old m new
with_stands old new m is = subst (λ (t : Log). StandsWith old m t) (sym is) (appended_stands old m)

cut_at_stands : (old : Log) (c : FloorCert) → start old ≤ floor_counter old.host (Some c) → floor_counter old.host (Some c) ≤ start old + length old.entries → StandsCut old c (cut_at c old)
cut_at_stands old c forward within = λ floor l longest r.
    let before = floor_counter old.host floor in
    let after = floor_counter old.host (Some c) in
    let k = length l - before in
    let kept = take k (kept_forms l) in
    let begin : start old ≡ before = ap (floor_counter old.host) r.floor_is in
    let held = length_entries old floor l longest r in
    let reached = r.reached in
    let long = length_taken k l (omega arith) in
    let left : length kept - (after - start old) ≡ length l - after = omega (arith, begin, held, reached, long, forward, within) in
    record {
      floor_is = refl;
      reached = omega (arith, begin, held, reached, within);
      entries_are =
          ap (drop (after - start old)) r.entries_are
          ∙ (drop_reverse (after - start old) kept
          ∙ ap reverse (take-take (length kept - (after - start old)) k (kept_forms l) (omega (arith, long)) ∙ ap (λ n. take n (kept_forms l)) left));
      longest_is = r.longest_is;
    }

pub cut_stands : (old new : Log) (c : FloorCert) → new ≡ cut_at c old → start old ≤ floor_counter old.host (Some c) → floor_counter old.host (Some c) ≤ start old + length old.entries → StandsCut old c new
cut_stands old new c is forward within = subst (λ (t : Log). StandsCut old c t) (sym is) (cut_at_stands old c forward within)

-- ---- what it shows of what it stands for

pub since_gives : (log : Log) (from : ℕ) → Gives log from (given_from log from)
since_gives log from = λ floor l longest r.
    let c = floor_counter log.host floor in
    let k = length l - c in
    let kept = take k (kept_forms l) in
    let begin : start log ≡ c = ap (floor_counter log.host) r.floor_is in
    let reached = r.reached in
    let long = length_taken k l (omega arith) in
    let count : length kept - (from - (start log + 1)) ≡ count_from log.host floor l from = omega (arith, begin, reached, long) in
    ap first_packed (
    ap (drop (from - (start log + 1))) r.entries_are
    ∙ (drop_reverse (from - (start log + 1)) kept ∙ ap (λ n. reverse (take n kept)) count))

-- ---- what it answers of a history

count_reverse : (p : StampedMessage → Bool) (xs : List StampedMessage) → count_by p (reverse xs) ≡ count_by p xs
count_reverse p [] = refl
count_reverse p (x ∷ xs) =
    let turned = ap (count_by p) (reverse_cons x xs) in
    let pushed = sum_by_push (λ y. cond (p y) 1 0) (reverse xs) x in
    let rest = count_reverse p xs in
    let whole = sum_by-cons (λ y. cond (p y) 1 0) x xs in
    omega (arith, turned, pushed, rest, whole)

count_kept : (p : StampedMessage → Bool) → ((m x : StampedMessage) → p (behind m x) ≡ p x) → (k : ℕ) (l : List StampedMessage) → count_by p (take k (kept_forms l)) ≡ count_by p (take k l)
unfolding kept_forms
count_kept p same zero l = refl
count_kept p same (suc k) [] = refl
count_kept p same (suc k) (m ∷ l) =
    let first = sum_by-cons (λ y. cond (p y) 1 0) m (take k (map (behind m) (kept_forms l))) in
    let rest = ap (count_by p) (take-map (behind m) k (kept_forms l)) ∙ (count_behind p m (same m) (take k (kept_forms l)) ∙ count_kept p same k l) in
    let whole = sum_by-cons (λ y. cond (p y) 1 0) m (take k l) in
    omega (arith, first, rest, whole)

module _ {S : Type 0} (self : Identity S) where
  counter_same : (o : Option Floor) → counter_in o ≡ model_counter_in self o
  counter_same None = refl
  counter_same (Some f) = refl

  floors_same : (o : Option FloorCert) → floor_counter self.host o ≡ model_counter self o
  floors_same None = refl
  floors_same (Some c) = counter_same (first_floor self.host c.members)

  module _ (log : Log) (d : History) (r : RepresentsLog self log d) where
    begins : floor_counter log.host (log_floor self d) ≡ log_start self d
    begins = ap (λ h. floor_counter h (log_floor self d)) r.host_is ∙ floors_same (log_floor self d)

    kept_is : kept_since log.host (log_floor self d) (all_stamped d) ≡ log_kept self d
    kept_is = ap (λ n. take (counter_of d - n) (kept_forms (all_stamped d))) begins

    counts : (p : StampedMessage → Bool) → ((m x : StampedMessage) → p (behind m x) ≡ p x) → count_by p log.entries ≡ count_by p (own_log self d)
    counts p same =
        ap (count_by p) (r.stands.entries_are ∙ ap reverse kept_is)
        ∙ (count_reverse p (log_kept self d) ∙ count_kept p same (counter_of d - log_start self d) (all_stamped d))

    normal_room : (m : StampedMessage) → is_normal m ≡ true → has_room self d ≡ (has_room_for log (stamped_kind m) && is_unspent self d)
    normal_room m e =
        let kind : is_normal_kind (stamped_kind m) ≡ true = kind_is_normal m ∙ e in
        rw (kind) (ap (λ n. nat_lt n (normal_limit self.shape) && is_unspent self d) (sym (counts is_normal normal_behind))
        ∙ ap (λ s. nat_lt (count_by is_normal log.entries) (normal_limit s) && is_unspent self d) (sym r.shape_is))

    other_room : (m : StampedMessage) → is_normal m ≡ false → has_other_room self d ≡ (has_room_for log (stamped_kind m) && is_unspent self d)
    other_room m e =
        let kind : is_normal_kind (stamped_kind m) ≡ false = kind_is_normal m ∙ e in
        rw (kind) (ap (λ n. nat_lt n other_limit && is_unspent self d) (sym (counts (λ x. not (is_normal x)) (λ m x. ap not (normal_behind m x)))))

    length_own : length log.entries ≡ length (own_log self d)
    length_own =
        length_entries log (log_floor self d) (all_stamped d) (log_longest self d) r.stands
        ∙ (ap (λ n. counter_of d - n) begins ∙ sym (length-take (counter_of d - log_start self d) (all_stamped d) ∙ (let e : min (counter_of d - log_start self d) (counter_of d) ≡ counter_of d - log_start self d = omega arith in e)))

    given : (from : ℕ) → given_from log from ≡ since self d from
    given from =
        since_gives log from (log_floor self d) (all_stamped d) (log_longest self d) r.stands
        ∙ ap (λ n. first_packed (reverse (take (counter_of d + 1 - max from (n + 1)) (take (counter_of d - n) (kept_forms (all_stamped d)))))) begins

    pub answers : AnswersFor self log d
    answers = record {
      start_is = ap (floor_counter log.host) r.stands.floor_is ∙ begins;
      len_is = length_own;
      room = normal_room;
      other_room = other_room;
      shows = ap (map as_shown) (r.stands.entries_are ∙ ap reverse kept_is);
      gives = given;
    }

pub logs_answer : (S : Type 0) → LogsAnswer S
logs_answer S self log d r = answers self log d r
