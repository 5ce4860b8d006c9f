-- Logs keep their limits in each history that events lead to. Whatever the history, a log is what was stamped since its floor, and votes are
-- kept at most two intervals above the stable position.
use Rattle.std.proofs.Common.{◌≡◌, ℕ, zero, suc, ◌+◌, ◌-◌, ◌≤◌, ◌<◌, Bool, true, false, ◌&&◌, not, cond, List, [], ◌∷◌, length, take, refl, ap, inl, inr, arith, Option, Some, None}
use Rattle.std.specs.Prelude.{count_by, nat_lt, nat_le, ◌==◌, if◌then◌else◌}
use Rattle.std.specs.Option.{option_or}
use Rattle.std.proofs.lemmas.Bool.{and_parts, cases_Bool, ltb-true, leb-true}
use Rattle.std.proofs.lemmas.List.{length-take-le}
use Rattle.std.proofs.lemmas.List.Sums.{sum_by-cons}
use Rattle.mb_base.specs.Limits.{other_limit}
use Rattle.mb_base.specs.Shapes.{span}
use Rattle.mb_parts.specs.declared.certificates.FloorCert.{FloorCert}
use Rattle.mb_msg.specs.declared.event.Slot.{Slot}
use Rattle.mb_msg.specs.declared.message.Message.TheVariants as message
use Rattle.mb_msg.specs.declared.transfer.StateMsg.{StateMsg}
use Rattle.mb_msg.specs.declared.stamped.Stamped.{Stamped as StampedMessage}
use Rattle.mb_model.specs.declared.known.Vote.{Vote}
use Rattle.mb_model.specs.UsableLogs.{normal_limit}
use Rattle.mb_model.specs.Histories.{Entry, Accepted, Stamped, Served, Executed, History, Identity, stamped as all_stamped, counter_of, view_of}
use Rattle.mb_model.specs.Stable.{low_of, log_floor, floor_counter, floor_from, cut_by, is_kept, checkpoint_in}
use Rattle.mb_model.specs.OwnLog.{own_log, log_start, is_normal, is_unspent, has_room, has_other_room}
use Rattle.mb_model.specs.Positions.{vote_of, vote_at, vote_by, open_vote_by, in_window, position_limit, counts_at}
use Rattle.mb_model.proofs.Options.{or_some, if_some}
use Rattle.mb_steps.specs.Arises.{Arises}
use Rattle.mb_steps.proofs.StepPotential.{start_bounded, grown_low}
use Rattle.mb_world_model.specs.World.{self_of}
use Rattle.mb_world_model.specs.WorldSteps.{world}
use Rattle.mb_promise.specs.Bounds.{KeepsLimits, HostsKeepLimits}
use Rattle.mb_host_laws.proofs.KeptByEvents.{is_plain, IsKept, event_keeps, execution_keeps, state_keeps}
use Rattle.mb_world_laws.proofs.KeptByWorlds.{world_keeps, world_arises}
use Rattle.mb_each_host.proofs.LogFloor.{floor_is_certified}

-- A shorter beginning has no more of a kind.
count_take : {A : Type 0} (p : A → Bool) (l : List A) (m n : ℕ) → m ≤ n → count_by p (take m l) ≤ count_by p (take n l)
count_take p l zero n le = omega arith
count_take p [] (suc m) zero le = absurd (omega (arith, le))
count_take p [] (suc m) (suc n) le = omega arith
count_take p (x ∷ l) (suc m) zero le = absurd (omega (arith, le))
count_take p (x ∷ l) (suc m) (suc n) le = omega (arith, sum_by-cons (λ y. cond (p y) 1 0) x (take m l), sum_by-cons (λ y. cond (p y) 1 0) x (take n l), count_take p l m n (omega (arith, le)))

-- one where a test holds, else nothing
abbrev weight : Bool → ℕ
weight b = cond b 1 0

one_where : (b : Bool) → b ≡ true → weight b ≡ 1
one_where b e = ap weight e

none_where : (b : Bool) → b ≡ false → weight b ≡ 0
none_where b e = ap weight e

none_of_other : (b : Bool) → b ≡ true → weight (not b) ≡ 0
none_of_other b e = ap (λ (x : Bool). weight (not x)) e

one_of_other : (b : Bool) → b ≡ false → weight (not b) ≡ 1
one_of_other b e = ap (λ (x : Bool). weight (not x)) e

module _ {S : Type 0} (self : Identity S) where
  -- ---- one more entry

  cut_grows : (n : ℕ) (old new : Option FloorCert) → floor_counter self old ≤ floor_counter self (cut_by self n old new)
  cut_grows n old None = omega arith
  cut_grows n old (Some c) = elim (cases_Bool (nat_lt (floor_counter self old) (floor_counter self (Some c)) && nat_le (floor_counter self (Some c)) n)) [
    | inl does ↦ rw does (let lt = ltb-true (floor_counter self old) (floor_counter self (Some c)) (and_parts (nat_lt (floor_counter self old) (floor_counter self (Some c))) (nat_le (floor_counter self (Some c)) n) does).0 in omega (arith, lt))
    | inr not_so ↦ rw not_so (omega arith)
  ]

  -- The floor of the log goes forward.
  start_grows : (e : Entry) (d : History) → log_start self d ≤ log_start self (e ∷ d)
  unfolding log_floor
  start_grows e d = elim (cases_Bool (is_kept (low_of self d) (checkpoint_in e))) [
    | inl does ↦ rw does (cut_grows (counter_of (e ∷ d)) (log_floor self d) (floor_from self.shape (e ∷ d) self.host (low_of self (e ∷ d))))
    | inr not_so ↦ rw not_so (omega arith)
  ]

  pub stamped_same : (e : Entry) (d : History) → is_plain e ≡ true → all_stamped (e ∷ d) ≡ all_stamped d
  unfolding all_stamped
  stamped_same (Stamped m) d plain = absurd cc
  stamped_same (Executed slot) d plain = absurd cc
  stamped_same e d plain = refl

  pub state_same : (m : StateMsg) (d : History) → all_stamped (Accepted (message.State m) ∷ d) ≡ all_stamped d
  unfolding all_stamped
  state_same m d = refl

  pub executed_same : (slot : Slot) (d : History) → all_stamped (Executed slot ∷ d) ≡ all_stamped d
  unfolding all_stamped
  executed_same slot d = refl

  -- What stamps nothing makes no log longer.
  no_more : (p : StampedMessage → Bool) (e : Entry) (d : History) → all_stamped (e ∷ d) ≡ all_stamped d → count_by p (own_log self (e ∷ d)) ≤ count_by p (own_log self d)
  no_more p e d same = rw same (count_take p (all_stamped d) (length (all_stamped d) - log_start self (e ∷ d)) (length (all_stamped d) - log_start self d) (omega (arith, start_grows e d)))

  -- A stamp makes it longer by one at most.
  one_more : (p : StampedMessage → Bool) (m : StampedMessage) (d : History) → count_by p (own_log self (Stamped m ∷ d)) ≤ cond (p m) 1 0 + count_by p (own_log self d)
  unfolding all_stamped
  one_more p m d =
      let c : ℕ = length (all_stamped d) in
      let shorter = count_take p (m ∷ all_stamped d) (suc c - log_start self (Stamped m ∷ d)) (suc (c - log_start self d)) (omega (arith, start_grows (Stamped m) d, start_bounded self d)) in
      omega (arith, shorter, sum_by-cons (λ y. cond (p y) 1 0) m (take (c - log_start self d) (all_stamped d)))

  -- ---- the limits

  abbrev pub InLimits : History → Type 0
  InLimits d = (count_by is_normal (own_log self d) ≤ normal_limit self.shape) × (count_by (λ m. not (is_normal m)) (own_log self d) ≤ other_limit)

  pub begins_in_limits : InLimits []
  unfolding all_stamped log_floor
  begins_in_limits = (omega arith, omega arith)

  pub same_limits : (e : Entry) (d : History) → all_stamped (e ∷ d) ≡ all_stamped d → InLimits d → InLimits (e ∷ d)
  same_limits e d same x = (omega (arith, no_more is_normal e d same, x.0), omega (arith, no_more (λ m. not (is_normal m)) e d same, x.1))

  pub normal_limits : (m : StampedMessage) (d : History) → is_normal m ≡ true → has_room self d ≡ true → InLimits d → InLimits (Stamped m ∷ d)
  normal_limits m d kind room x =
      let free = ltb-true (count_by is_normal (own_log self d)) (normal_limit self.shape) (and_parts (nat_lt (count_by is_normal (own_log self d)) (normal_limit self.shape)) (is_unspent self d) room).0 in
      (omega (arith, one_more is_normal m d, one_where (is_normal m) kind, free), omega (arith, one_more (λ y. not (is_normal y)) m d, none_of_other (is_normal m) kind, x.1))

  pub change_limits : (m : StampedMessage) (d : History) → is_normal m ≡ false → has_other_room self d ≡ true → InLimits d → InLimits (Stamped m ∷ d)
  change_limits m d kind room x =
      let free = ltb-true (count_by (λ y. not (is_normal y)) (own_log self d)) other_limit (and_parts (nat_lt (count_by (λ y. not (is_normal y)) (own_log self d)) other_limit) (is_unspent self d) room).0 in
      (omega (arith, one_more is_normal m d, none_where (is_normal m) kind, x.0), omega (arith, one_more (λ y. not (is_normal y)) m d, one_of_other (is_normal m) kind, free))

  limits_kept : IsKept self InLimits
  limits_kept = record {
    plain = λ e d plain x. same_limits e d (stamped_same e d plain) x;
    normal = normal_limits;
    change = change_limits;
    executed = λ pos b x p. execution_keeps self InLimits normal_limits (λ p placed d y. same_limits (Served p placed) d (stamped_same (Served p placed) d refl) y) (λ slot d y. same_limits (Executed slot) d (executed_same slot d) y) pos b x p;
    state = λ m x p. state_keeps self InLimits (λ m d y. same_limits (Accepted (message.State m)) d (state_same m d) y) (λ e d plain y. same_limits e d (stamped_same e d plain) y) m x p;
  }

  -- ---- of every history

  since_floor : (d : History) → log_start self d + length (own_log self d) ≡ counter_of d
  since_floor d = let b = start_bounded self d in omega (arith, b, length-take-le (length (all_stamped d) - log_start self d) (all_stamped d) (omega arith))

  -- A vote that is kept lies in the window of the moment at which it came.
  vote_below : (d : History) (h v p : ℕ) (x : Vote) → vote_of self d h v p ≡ Some x → p ≤ low_of self d + span self.shape
  unfolding vote_of
  vote_below [] h v p x e = absurd cc
  vote_below (e ∷ d) h v p x vote =
      let new : Option Vote = option_or (vote_by self.host e h v p) (open_vote_by self (e ∷ d) e h v p) in
      elim (or_some (vote_of self d h v p) (if counts_at self (e ∷ d) v p then new else None) x vote) [
        | inl before ↦ omega (arith, vote_below d h v p x before, grown_low self d e)
        | inr now ↦
            let t = if_some (counts_at self (e ∷ d) v p) new x now in
            let c = and_parts (view_of self (e ∷ d) == v) (in_window self (e ∷ d) p) t.0 in
            let a = and_parts (nat_lt (low_of self (e ∷ d)) p) (nat_le p (low_of self (e ∷ d) + span self.shape) && nat_le p position_limit) c.1 in
            let b = and_parts (nat_le p (low_of self (e ∷ d) + span self.shape)) (nat_le p position_limit) a.1 in
            leb-true p (low_of self (e ∷ d) + span self.shape) b.0
      ]

  -- One that counts lies in the window of today.
  counted_above : (d : History) (h p : ℕ) (x : Vote) → vote_at self d h p ≡ Some x → (low_of self d < p) × (p ≤ low_of self d + span self.shape)
  counted_above d h p x vote =
      let t = if_some (in_window self d p) (vote_of self d h (view_of self d) p) x vote in
      let a = and_parts (nat_lt (low_of self d) p) (nat_le p (low_of self d + span self.shape) && nat_le p position_limit) t.0 in
      let b = and_parts (nat_le p (low_of self d + span self.shape)) (nat_le p position_limit) a.1 in
      (ltb-true (low_of self d) p a.0, leb-true p (low_of self d + span self.shape) b.0)

  keeps_limits : (d : History) → InLimits d → Arises self d → KeepsLimits self d
  keeps_limits d x a = record { normal = x.0; others = x.1; since = since_floor d; floor = floor_is_certified self d a; taken = λ g view pos y vote. vote_below d g view pos y vote; counted = counted_above d }

pub hosts_keep_limits : (S : Type 0) → HostsKeepLimits S
hosts_keep_limits S system k h = keeps_limits (self_of system h) ((world system k).histories h)
    (world_keeps system (λ g d. InLimits (self_of system g) d) (λ g. begins_in_limits (self_of system g))
    (λ g d e x. event_keeps (self_of system g) (InLimits (self_of system g)) (limits_kept (self_of system g)) d e x) k h)
    (world_arises system k h)
