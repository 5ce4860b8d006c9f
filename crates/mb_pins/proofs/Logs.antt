-- A LOG is filled with what the host stamped from the first message on that is expected and not cut away; the own log keeps its limits; and the longest log
-- that is told is the longest that there was.
--
-- What is beyond the end of a LOG is known from the LOG that a RESEND for it would get: that one begins with it.
use Rattle.std.proofs.Common.{◌≡◌, ℕ, zero, suc, ◌+◌, ◌-◌, ◌≤◌, ◌<◌, ◌⊎◌, List, [], ◌∷◌, ◌++◌, length, length-append, take, reverse, refl, sym, ap, subst, ◌∙◌, inl, inr, arith, Some, None}
use Rattle.std.specs.Prelude.{slice_get, nat_le, replicate, unwrap_or, Contains, Result}
use Rattle.std.specs.List.{flat_map}
use Rattle.std.proofs.lemmas.Bool.{cases_Bool, cases_lt, leb-true, leb-false}
use Rattle.std.proofs.lemmas.List.{length-reverse, length-take-le, reverse-append}
use Rattle.std.proofs.lemmas.List.Concat.{flat_map-cons}
use Rattle.std.proofs.lemmas.Option.{slice_get_within}
use Rattle.mb_base.specs.Limits.{entry_bytes_limit, entry_limit}
use Rattle.mb_msg.specs.declared.message.Message.{Message}
use Rattle.mb_msg.specs.declared.message.Message.TheVariants as message
use Rattle.mb_msg.specs.declared.transfer.Resend.{Resend}
use Rattle.mb_msg.specs.declared.stamped.Stamped.{Stamped as StampedMessage}
use Rattle.mb_msg.specs.Spelling.{stamped_bytes}
use Rattle.mb_model.specs.Histories.{Entry, Stamped, History, Identity}
use Rattle.mb_model.specs.OwnLog.{log_kept, log_start, log_longest, count_from, since, packed, first_packed}
use Rattle.mb_model.specs.Sending.{Letter, Progress, begin, to_host}
use Rattle.mb_model.specs.Making.{expected}
use Rattle.mb_model.specs.Passed.{PassesResend}
use Rattle.mb_model.specs.PlainChecks.{resend_refusal}
use Rattle.mb_model.specs.Given.{give_resend}
use Rattle.mb_model.specs.HostStep.{on_bytes, transition}
use Rattle.mb_history_laws.proofs.OwnLog.{log_kept_length}
use Rattle.mb_promise.specs.Bounds.{KeepsLimits}
use Rattle.mb_promise.specs.ShowsLog.{next_shown, IsShownOf, ShowsLog}
use Rattle.mb_world_model.specs.World.{self_of}
use Rattle.mb_world_model.specs.WorldSteps.{world}
use Rattle.mb_model.proofs.Lists.{get_last, get_more}
use Rattle.mb_each_host.proofs.LogLimits.{hosts_keep_limits}
use Rattle.mb_one_log.proofs.Walks.{finished_keeps}
use Rattle.mb_obligations.proofs.Taken.{resend_passed, takes_what_passes}
use Rattle.mb_obligations.proofs.Answers.{letter_walked, last_of}
use Rattle.mb_obligations.proofs.ShowsLog.{log_shown, shows_log}
use Rattle.mb_pins.specs.Logs.{bytes_of, IsFilled, AreAllFrom, GivesWhatFits, FillsLogs, length_with, TellsLongest, HostsKeepLogs}

-- ---- what is packed

bytes_more : (m : StampedMessage) (l : List StampedMessage) → bytes_of (m ∷ l) ≡ length (stamped_bytes m) + bytes_of l
bytes_more m l = ap length (flat_map-cons stamped_bytes m l) ∙ length-append (stamped_bytes m) (flat_map stamped_bytes l)

-- A list begins with these, which are as many as may be, or have no place for the next one.
record EndsFull (most used : ℕ) (l some : List StampedMessage) : Type 0 where
  rest : List StampedMessage
  begins : l ≡ some ++ rest
  few : length some ≤ most
  short : (length some ≡ 0) ⊎ (used + bytes_of some ≤ entry_bytes_limit)
  full : (m : StampedMessage) (more : List StampedMessage) → rest ≡ m ∷ more → (length some ≡ most) ⊎ (entry_bytes_limit < used + bytes_of (some ++ m ∷ []))

with_first : (most used : ℕ) (m : StampedMessage) (l some : List StampedMessage) → used + length (stamped_bytes m) ≤ entry_bytes_limit → EndsFull most (used + length (stamped_bytes m)) l some → EndsFull (suc most) used (m ∷ l) (m ∷ some)
with_first most used m l some place x = record {
  rest = x.rest;
  begins = ap (λ (y : List StampedMessage). m ∷ y) x.begins;
  few = let few = x.few in omega (arith, few);
  short = inr (elim x.short [
    | inl none ↦ let is = ap bytes_of (nothing some none) in let zeroth : bytes_of [] ≡ 0 = refl in omega (arith, place, bytes_more m some, is, zeroth)
    | inr fits ↦ omega (arith, fits, bytes_more m some)
  ]);
  full = λ q more e. elim (x.full q more e) [
    | inl many ↦ inl (omega (arith, many))
    | inr long ↦ inr (omega (arith, long, bytes_more m (some ++ q ∷ [])))
  ];
} where
  nothing : (l : List StampedMessage) → length l ≡ 0 → l ≡ []
  nothing [] e = refl
  nothing (y ∷ l) e = absurd (omega (arith, e))

first_same : (m q : StampedMessage) (l more : List StampedMessage) → m ∷ l ≡ q ∷ more → m ≡ q
first_same m q l more e = cc

none_more : (most used : ℕ) (m : StampedMessage) (l : List StampedMessage) → entry_bytes_limit < used + length (stamped_bytes m) → EndsFull (suc most) used (m ∷ l) []
none_more most used m l long = record {
  rest = m ∷ l;
  begins = refl;
  few = omega arith;
  short = inl refl;
  full = λ q more e. inr (subst (λ (y : StampedMessage). entry_bytes_limit < used + bytes_of (y ∷ [])) (first_same m q l more e) (let zeroth : bytes_of [] ≡ 0 = refl in omega (arith, long, bytes_more m [], zeroth)));
}

ends_full : (most used : ℕ) (l : List StampedMessage) → EndsFull most used l (packed most used l)
unfolding packed
ends_full zero used l = record { rest = l; begins = refl; few = omega arith; short = inl refl; full = λ m more e. inl refl }
ends_full (suc most) used [] = record { rest = []; begins = refl; few = omega arith; short = inl refl; full = λ m more e. absurd cc }
ends_full (suc most) used (m ∷ l) = elim (cases_Bool (nat_le (used + length (stamped_bytes m)) entry_bytes_limit)) [
  | inl place ↦ rw place (with_first most used m l (packed most (used + length (stamped_bytes m)) l) (leb-true (used + length (stamped_bytes m)) entry_bytes_limit place) (ends_full most (used + length (stamped_bytes m)) l))
  | inr none ↦ rw none (none_more most used m l (leb-false (used + length (stamped_bytes m)) entry_bytes_limit none))
]

-- The first one always goes.
filled : (all : List StampedMessage) → IsFilled all (first_packed all)
filled [] = record { rest = []; begins = refl; first = λ some. some; few = omega arith; short = inl (omega arith); full = λ m more e. absurd cc }
filled (m ∷ l) =
    let p : List StampedMessage = packed (entry_limit - 1) (length (stamped_bytes m)) l in
    let x : EndsFull (entry_limit - 1) (length (stamped_bytes m)) l p = ends_full (entry_limit - 1) (length (stamped_bytes m)) l in
    let few = x.few in
    record {
      rest = x.rest;
      begins = ap (λ (y : List StampedMessage). m ∷ y) x.begins;
      first = λ some. omega arith;
      few = omega (arith, few);
      short = elim x.short [
        | inl none ↦ inl (omega (arith, none))
        | inr fits ↦ inr (omega (arith, fits, bytes_more m p))
      ];
      full = λ q more e. elim (x.full q more e) [
        | inl many ↦ inl (omega (arith, many))
        | inr long ↦ inr (omega (arith, long, bytes_more m (p ++ q ∷ [])))
      ];
    }

first_at : (l : List StampedMessage) → slice_get (first_packed l) 0 ≡ slice_get l 0
first_at [] = refl
first_at (m ∷ l) = refl

-- ---- lists, newest first

module _ {A : Type 0} where
  -- Of the newest so many, oldest first, one at a place is the first of fewer.
  front : (l : List A) (n i : ℕ) (x : A) → n ≤ length l → slice_get (reverse (take n l)) i ≡ Some x → slice_get (reverse (take (n - i) l)) 0 ≡ Some x
  front l zero i x le e = absurd cc
  front [] (suc n) i x le e = absurd (omega (arith, le))
  front (m ∷ l) (suc n) i x le e =
      let at : slice_get (reverse (take n l) ++ m ∷ []) i ≡ Some x = subst (λ (t : List A). slice_get t i ≡ Some x) (reverse-append (m ∷ []) (take n l)) e in
      let many : length (reverse (take n l)) ≡ n = length-reverse (take n l) ∙ length-take-le n l (omega (arith, le)) in
      elim (get_last (reverse (take n l)) m i x at) [
        | inl older ↦
            let within = slice_get_within (reverse (take n l)) i x older in
            let place : suc (n - i) ≡ suc n - i = omega (arith, within, many) in
            let before = front l n i x (omega (arith, le)) older in
            subst (λ (k : ℕ). slice_get (reverse (take k (m ∷ l))) 0 ≡ Some x) place
            (subst (λ (t : List A). slice_get t 0 ≡ Some x) (sym (reverse-append (m ∷ []) (take (n - i) l))) (get_more (reverse (take (n - i) l)) (m ∷ []) 0 x before))
        | inr (last, is) ↦
            let place : suc n - i ≡ 1 = omega (arith, last, many) in
            subst (λ (k : ℕ). slice_get (reverse (take k (m ∷ l))) 0 ≡ Some x) (sym place) (ap (λ (y : A). Some y) is)
      ]

repeated : (c n : ℕ) → unwrap_or (slice_get (replicate (suc n) c) n) 0 ≡ c
repeated c zero = refl
repeated c (suc n) = repeated c n

module _ {S : Type 0} (self : Identity S) (d : History) where
  -- ---- what is there from a counter on

  abbrev shown : ℕ → List StampedMessage
  shown n = reverse (take n (log_kept self d))

  -- one who asks for the messages from this counter on
  abbrev asking : ℕ → Resend
  asking c = record { host = 0; low = 0; nexts = replicate (suc self.host) c }

  asks_for : (c : ℕ) → expected self (asking c) ≡ c
  asks_for c = repeated c self.host

  many_shown : (from : ℕ) → count_from self d from ≤ length (log_kept self d)
  many_shown from = let kept = log_kept_length self d in omega (arith, kept)

  size : (from : ℕ) → length (shown (count_from self d from)) ≡ count_from self d from
  size from = length-reverse (take (count_from self d from) (log_kept self d)) ∙ length-take-le (count_from self d from) (log_kept self d) (many_shown from)

  begins_with : (c : ℕ) (x : StampedMessage) → log_start self d < c → slice_get (shown (count_from self d c)) 0 ≡ Some x → IsShownOf self d c x
  begins_with c x above at =
      let l : ShowsLog self d (asking c) (log_shown self d (asking c)) = shows_log self d (asking c) in
      let entries : slice_get (since self d (expected self (asking c))) 0 ≡ Some x = first_at (shown (count_from self d (expected self (asking c)))) ∙ ap (λ (n : ℕ). slice_get (shown (count_from self d n)) 0) (asks_for c) ∙ at in
      let is = asks_for c in
      let place : next_shown self d (asking c) + 0 ≡ c = omega (arith, is, above) in
      subst (λ (n : ℕ). IsShownOf self d n x) place (l.each 0 x entries)

  all_from : (m : Resend) → AreAllFrom self d (next_shown self d m) (shown (count_from self d (expected self m)))
  all_from m = record {
    many = size (expected self m);
    each = λ i x at.
        let within = slice_get_within (shown (count_from self d (expected self m))) i x at in
        let there = front (log_kept self d) (count_from self d (expected self m)) i x (many_shown (expected self m)) at in
        let fewer : count_from self d (expected self m) - i ≡ count_from self d (next_shown self d m + i) = omega (arith, within, size (expected self m)) in
        begins_with (next_shown self d m + i) x (omega arith) (ap (λ (n : ℕ). slice_get (shown n) 0) (sym fewer) ∙ there);
  }

  gives : (m : Resend) → GivesWhatFits self d m (log_shown self d m)
  gives m = record { all = shown (count_from self d (expected self m)); are_all = all_from m; filled = filled (shown (count_from self d (expected self m))) }

  -- ---- it goes to who asked

  sent_log : (m : Resend) → resend_refusal self d m ≡ None → Contains (give_resend self m (begin d)).left.sent (to_host m.host (message.Log (log_shown self d m)))
  unfolding give_resend
  sent_log m none = rw none (last_of self d [] (to_host m.host (message.Log (log_shown self d m))))

  fills : FillsLogs self d
  unfolding transition
  fills bytes m reads took =
      let passes : PassesResend self d m = (takes_what_passes self d bytes (message.Resend m) reads tt).0 took in
      let l : Letter = to_host m.host (message.Log (log_shown self d m)) in
      let sent = finished_keeps self (λ (x : Progress). Contains x.sent l) (letter_walked self d l) _ _ d (give_resend self m (begin d)) (sent_log m (resend_passed self d m passes)) in
      (log_shown self d m, subst (λ (r : Result Message ℕ). Contains (on_bytes self r d).left.sent l) (sym reads) sent, gives m)

-- ---- the longest log

module _ {S : Type 0} (self : Identity S) where
  grows : (e : Entry) (d : History) → log_longest self d ≤ log_longest self (e ∷ d)
  unfolding log_longest
  grows (Stamped m) d = omega arith
  grows e d = omega arith

  with_it : (m : StampedMessage) (d : History) → length_with self d ≤ log_longest self (Stamped m ∷ d)
  unfolding log_longest
  with_it m d = omega arith

  least : (d later before : History) (m : StampedMessage) → d ≡ later ++ Stamped m ∷ before → length_with self before ≤ log_longest self d
  least [] [] before m is = absurd cc
  least [] (f ∷ later) before m is = absurd cc
  least (e ∷ d) [] before m is =
      let first : e ≡ Stamped m = cc in
      let rest : d ≡ before = cc in
      subst (λ (x : Entry). length_with self before ≤ log_longest self (x ∷ d)) (sym first) (subst (λ (y : History). length_with self y ≤ log_longest self (Stamped m ∷ d)) rest (with_it m d))
  least (e ∷ d) (f ∷ later) before m is =
      let rest : d ≡ later ++ Stamped m ∷ before = cc in
      omega (arith, least d later before m rest, grows e d)

  abbrev IsReached : History → ℕ → Type 0
  IsReached d n = (later before : History) × (m : StampedMessage) × (d ≡ later ++ Stamped m ∷ before) × (n ≡ length_with self before)

  further : (e : Entry) (d : History) (n k : ℕ) → n ≡ k → IsReached d k → IsReached (e ∷ d) n
  further e d n k same (later, before, m, is, at) = (e ∷ later, before, m, ap (λ (y : History). e ∷ y) is, same ∙ at)

  same_longest : (e : Entry) (d : History) (n : ℕ) → n ≡ log_longest self d → (log_longest self d ≡ 0) ⊎ IsReached d (log_longest self d) → (n ≡ 0) ⊎ IsReached (e ∷ d) n
  same_longest e d n same (inl none) = inl (same ∙ none)
  same_longest e d n same (inr there) = inr (further e d n (log_longest self d) same there)

  stamped_longest : (m : StampedMessage) (d : History) → (log_longest self d ≡ 0) ⊎ IsReached d (log_longest self d) → (log_longest self (Stamped m ∷ d) ≡ 0) ⊎ IsReached (Stamped m ∷ d) (log_longest self (Stamped m ∷ d))
  unfolding log_longest
  stamped_longest m d before = elim (cases_lt (log_longest self d) (length_with self d)) [
    | inl less ↦ inr ([], d, m, refl, omega (arith, less))
    | inr ge ↦ old ge before
  ] where
    old : length_with self d ≤ log_longest self d → (log_longest self d ≡ 0) ⊎ IsReached d (log_longest self d) → (log_longest self (Stamped m ∷ d) ≡ 0) ⊎ IsReached (Stamped m ∷ d) (log_longest self (Stamped m ∷ d))
    old ge (inl none) = absurd (omega (arith, ge, none))
    old ge (inr there) = inr (further (Stamped m) d (log_longest self (Stamped m ∷ d)) (log_longest self d) (omega (arith, ge)) there)

  reached : (d : History) → (log_longest self d ≡ 0) ⊎ IsReached d (log_longest self d)
  unfolding log_longest
  reached [] = inl refl
  reached (Stamped m ∷ d) = stamped_longest m d (reached d)
  reached (e ∷ d) = same_longest e d (log_longest self (e ∷ d)) refl (reached d)

  longest : (d : History) → TellsLongest self d
  longest d = record { least = λ later before m is. least d later before m is; reached = reached d }

pub hosts_keep_logs : (S : Type 0) → HostsKeepLogs S
hosts_keep_logs S system k h =
    let x : KeepsLimits (self_of system h) ((world system k).histories h) = hosts_keep_limits S system k h in
    record {
      fills = fills (self_of system h) ((world system k).histories h);
      short = record { normal = x.normal; others = x.others };
      longest = longest (self_of system h) ((world system k).histories h);
    }
