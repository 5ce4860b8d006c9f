-- Whatever a host is given, its counter and its own log stay within their limits: each rule that stamps asks for room, and what stamps nothing makes no
-- log longer.
use Rattle.std.proofs.Common.{◌≡◌, ℕ, zero, suc, ◌+◌, ◌-◌, ◌^◌, ◌<◌, ◌≤◌, Bool, true, false, not, cond, List, [], ◌∷◌, length, take, refl, ap, arith}
use Rattle.std.specs.Prelude.{count_by, nat_lt}
use Rattle.std.proofs.lemmas.Bool.{and_parts, ltb-true}
use Rattle.std.proofs.lemmas.List.Sums.{sum_by-cons}
use Rattle.mb_base.specs.Limits.{other_limit}
use Rattle.mb_msg.specs.declared.message.Message.TheVariants as message
use Rattle.mb_msg.specs.declared.stamped.Stamped.{Stamped as StampedMessage}
use Rattle.mb_model.specs.UsableLogs.{normal_limit}
use Rattle.mb_model.specs.Histories.{Entry, Accepted, Stamped, Served, Executed, History, Identity, stamped as all_stamped, counter_of}
use Rattle.mb_model.specs.OwnLog.{own_log, log_start, is_normal, is_unspent, has_room, has_other_room}
use Rattle.mb_steps.proofs.StepPotential.{start_bounded}
use Rattle.mb_host_laws.proofs.KeptByEvents.{IsKept, execution_keeps, state_keeps}
use Rattle.mb_host_laws.specs.Rests.{Each}
use Rattle.mb_history_laws.specs.Speaks.{is_stamp}
use Rattle.mb_history_laws.proofs.Framing.{stamped_stay}
use Rattle.mb_history_laws.proofs.OwnLog.{start_rises}
use Rattle.mb_encodable.specs.Fitting.{HasRoom, LeavesRoom}
use Rattle.mb_encodable.proofs.Unstamped.{plain_unstamped}

-- one where a test holds, else nothing
abbrev pub weight : Bool → ℕ
weight b = cond b 1 0

pub same_weight : (b c : Bool) → b ≡ c → weight b ≡ weight c
same_weight b c e = ap weight e

-- A shorter beginning has no more of a kind.
pub count_take : {A : Type 0} (p : A → Bool) (l : List A) (m n : ℕ) → m ≤ n → count_by p (take m l) ≤ count_by p (take n l)
count_take p l zero n le = omega arith
count_take p [] (suc m) zero le = absurd (omega (arith, le))
count_take p [] (suc m) (suc n) le = omega arith
count_take p (x ∷ l) (suc m) zero le = absurd (omega (arith, le))
count_take p (x ∷ l) (suc m) (suc n) le = omega (arith, sum_by-cons (λ y. cond (p y) 1 0) x (take m l), sum_by-cons (λ y. cond (p y) 1 0) x (take n l), count_take p l m n (omega (arith, le)))

module _ {S : Type 0} (self : Identity S) where
  -- ---- one more entry

  no_more : (p : StampedMessage → Bool) (e : Entry) (d : History) → is_stamp e ≡ false → count_by p (own_log self (e ∷ d)) ≤ count_by p (own_log self d)
  no_more p e d none = rw (stamped_stay e d none) (count_take p (all_stamped d) (length (all_stamped d) - log_start self (e ∷ d)) (length (all_stamped d) - log_start self d) (omega (arith, start_rises self e d)))

  one_more : (p : StampedMessage → Bool) (m : StampedMessage) (d : History) → count_by p (own_log self (Stamped m ∷ d)) ≤ cond (p m) 1 0 + count_by p (own_log self d)
  unfolding all_stamped
  one_more p m d =
      let c : ℕ = length (all_stamped d) in
      let shorter = count_take p (m ∷ all_stamped d) (suc c - log_start self (Stamped m ∷ d)) (suc (c - log_start self d)) (omega (arith, start_rises self (Stamped m) d, start_bounded self d)) in
      omega (arith, shorter, sum_by-cons (λ y. cond (p y) 1 0) m (take (c - log_start self d) (all_stamped d)))

  begins : HasRoom self []
  unfolding all_stamped
  begins = record { counter = omega arith; normal = omega (arith, none is_normal (0 - log_start self [])); others = omega (arith, none (λ m. not (is_normal m)) (0 - log_start self [])) } where
    none : (p : StampedMessage → Bool) (n : ℕ) → count_by p (take n []) ≡ 0
    none p zero = refl
    none p (suc n) = refl

  same_room : (e : Entry) (d : History) → is_stamp e ≡ false → HasRoom self d → HasRoom self (e ∷ d)
  same_room e d none r = record {
    counter = rw (stamped_stay e d none) r.counter;
    normal = omega (arith, no_more is_normal e d none, r.normal);
    others = omega (arith, no_more (λ m. not (is_normal m)) e d none, r.others);
  }

  more_low : (m : StampedMessage) (d : History) → is_unspent self d ≡ true → counter_of (Stamped m ∷ d) < 2 ^ 64
  unfolding all_stamped
  more_low m d unspent = omega (arith, ltb-true (counter_of d) (2 ^ 64 - 1) unspent)

  normal_room : (m : StampedMessage) (d : History) → is_normal m ≡ true → has_room self d ≡ true → HasRoom self d → HasRoom self (Stamped m ∷ d)
  normal_room m d kind room r =
      let a = and_parts (nat_lt (count_by is_normal (own_log self d)) (normal_limit self.shape)) (is_unspent self d) room in
      let free = ltb-true (count_by is_normal (own_log self d)) (normal_limit self.shape) a.0 in
      record {
        counter = more_low m d a.1;
        normal = omega (arith, one_more is_normal m d, same_weight (is_normal m) true kind, free);
        others = omega (arith, one_more (λ y. not (is_normal y)) m d, same_weight (not (is_normal m)) false (ap not kind), r.others);
      }

  other_room : (m : StampedMessage) (d : History) → is_normal m ≡ false → has_other_room self d ≡ true → HasRoom self d → HasRoom self (Stamped m ∷ d)
  other_room m d kind room r =
      let a = and_parts (nat_lt (count_by (λ y. not (is_normal y)) (own_log self d)) other_limit) (is_unspent self d) room in
      let free = ltb-true (count_by (λ y. not (is_normal y)) (own_log self d)) other_limit a.0 in
      record {
        counter = more_low m d a.1;
        normal = omega (arith, one_more is_normal m d, same_weight (is_normal m) false kind, r.normal);
        others = omega (arith, one_more (λ y. not (is_normal y)) m d, same_weight (not (is_normal m)) true (ap not kind), free);
      }

  -- ---- whole histories

  abbrev pub KeepsRoom : History → Type 0
  KeepsRoom d = Each (LeavesRoom self) d

  -- The limits hold now.
  pub room_now : (d : History) → KeepsRoom d → HasRoom self d
  room_now [] r = begins
  room_now (e ∷ d) r = r.0

  pub more_room : (e : Entry) (d : History) → is_stamp e ≡ false → KeepsRoom d → KeepsRoom (e ∷ d)
  more_room e d none r = (same_room e d none (room_now d r), r)

  stamps_normal : (m : StampedMessage) (d : History) → is_normal m ≡ true → has_room self d ≡ true → KeepsRoom d → KeepsRoom (Stamped m ∷ d)
  stamps_normal m d kind room r = (normal_room m d kind room (room_now d r), r)

  pub room_kept : IsKept self KeepsRoom
  room_kept = record {
    plain = λ e d plain r. more_room e d (plain_unstamped e plain) r;
    normal = stamps_normal;
    change = λ m d kind room r. (other_room m d kind room (room_now d r), r);
    executed = λ pos b x r. execution_keeps self KeepsRoom stamps_normal (λ p placed d y. more_room (Served p placed) d refl y) (λ slot d y. more_room (Executed slot) d refl y) pos b x r;
    state = λ m x r. state_keeps self KeepsRoom (λ m d y. more_room (Accepted (message.State m)) d refl y) (λ e d plain y. more_room e d (plain_unstamped e plain) y) m x r;
  }
