-- The places of hosts and positions in the window.
use Rattle.std.proofs.Common.{◌≡◌, ◌≢◌, ℕ, ◌+◌, ◌*◌, ◌/◌, ◌<◌, ◌≤◌, ◌^◌, ◌⊎◌, true, false, cond, leb, eqb, Some, None, refl, sym, ap, ◌∙◌, arith, inl, inr, subst}
use Rattle.std.specs.Prelude.{option_map}
use Rattle.std.specs.Option.{option_or}
use Rattle.std.proofs.lemmas.Bool.{cases_lt, lt-leb, ne_eqb, eq-eqb}
use Rattle.std.proofs.lemmas.Bool.Decides.{eqb_tells}
use Rattle.std.proofs.Math.Nat.{mul-div_cancel, mul-lt-mul_of_pos_right}
use Rattle.mb_base.specs.Limits.{least_interval, most_interval, most_hosts}
use Rattle.mb_base.specs.declared.shape.Shape.{Shape}
use Rattle.mb_base.specs.Shapes.{interval, host_count}
use Rattle.mb_msg.specs.declared.normal.Checkpoint.{Checkpoint}
use Rattle.mb_model.specs.Stable.{checkpoint_by}
use Rattle.mb_window.specs.Places.{item_at}
use Rattle.mb_window.specs.Represents.{StandsWith, StandsAbove}
use Rattle.mb_checkpoints.specs.declared.checkpoints.Checkpoints.{Checkpoints}
use Rattle.mb_checkpoints.specs.declared.checkpoints.KeptCheckpoint.{KeptCheckpoint}
use Rattle.mb_checkpoints.specs.Kept.{place_of, kept_at, low_of, Keeps, KeepsAbove}

-- ---- products

product_less : (a b k : ℕ) → least_interval ≤ k → a < b → a * k < b * k
product_less a b k some lt = mul-lt-mul_of_pos_right lt (omega (arith, some))

product_same : (a b k : ℕ) → least_interval ≤ k → a * k ≡ b * k → a ≡ b
product_same a b k some e = elim (cases_lt a b) [
  | inl lt ↦ let h = product_less a b k some lt in absurd (omega (arith, e))
  | inr le ↦ elim (cases_lt b a) [
    | inl lt ↦ let h = product_less b a k some lt in absurd (omega (arith, e))
    | inr ge ↦ omega (arith, le)
  ]
]

product_least : (a b k : ℕ) → least_interval ≤ k → a * k ≤ b * k → a ≤ b
product_least a b k some le = elim (cases_lt b a) [
  | inl lt ↦ let h = product_less b a k some lt in absurd (omega (arith, le))
  | inr ge ↦ ge
]

-- a multiple of the interval, at most two above one below 2 ^ 63
pub product_fits : (number first k : ℕ) → least_interval ≤ k → k ≤ most_interval → number ≤ first + 2 → first * k < 2 ^ 63 → number * k < 2 ^ 64
product_fits number first k some most near low = elim (cases_lt number (first + 2)) [
  | inl lt ↦ let h = product_less number (first + 2) k some lt in let d = distribute first 2 k in omega (arith, h, d, low, most)
  | inr ge ↦ let same : number ≡ first + 2 = omega (arith, near, ge) in let d = ap (λ n. n * k) same ∙ distribute first 2 k in omega (arith, d, low, most)
] where
  distribute : (a b c : ℕ) → (a + b) * c ≡ a * c + b * c
  distribute a b c = grind arith

pub number_is : (k number : ℕ) → least_interval ≤ k → (number * k) / k ≡ number
number_is k number some = mul-div_cancel number (omega (arith, some))

-- ---- one CHECKPOINT more

module _ (old new : Checkpoints) (m : Checkpoint) (kept : KeptCheckpoint) (number : ℕ) where
  pub keeps : kept.message ≡ m → m.pos ≡ number * interval old.shape → old.first ≤ number → m.ui.host < most_hosts → least_interval ≤ interval old.shape → host_count old.shape ≤ most_hosts
      → new.shape ≡ old.shape → new.first ≡ old.first → StandsWith old.window (place_of number m.ui.host) kept new.window → Keeps old m new
  keeps is pos from host some few shape first window s low search st = record {
    shape_is = shape ∙ st.shape_is;
    low_is = ap (λ k. k * interval new.shape) first ∙ ap (λ (x : Shape). old.first * interval x) shape ∙ st.low_is;
    finds = λ h i lt le. by_place h i lt le (eqb_tells (place_of i h) (place_of number m.ui.host));
  } where
    behind : (h i : ℕ) → item_at new.window (place_of i h) ≡ cond (eqb (place_of i h) (place_of number m.ui.host)) (Some kept) (item_at old.window (place_of i h))
    behind h i = (window old.window.low (item_at old.window) (record { low_is = refl; finds = λ q. refl })).finds (place_of i h)

    here : (h i : ℕ) → m.ui.host ≡ h → number ≡ i → checkpoint_by h (i * interval s) (Some m) ≡ Some m
    here h i same_host same_number =
        let at : m.pos ≡ i * interval s = pos ∙ ap (λ n. n * interval old.shape) same_number ∙ ap (λ (x : Shape). i * interval x) st.shape_is in
        rw (eq-eqb m.ui.host h same_host, eq-eqb m.pos (i * interval s) at) refl

    elsewhere : (h i : ℕ) → h < most_hosts → place_of i h ≢ place_of number m.ui.host → checkpoint_by h (i * interval s) (Some m) ≡ None
    elsewhere h i low_host other = elim (eqb_tells m.ui.host h) [
      | inr f ↦ rw f.0 refl
      | inl t ↦
          let other_pos : m.pos ≢ i * interval s = λ e.
          let product : number * interval old.shape ≡ i * interval old.shape = sym pos ∙ e ∙ sym (ap (λ (x : Shape). i * interval x) st.shape_is) in
          let same = product_same number i (interval old.shape) some product in
          let same_host = t.1 in
          other (omega (arith, same, same_host)) in
          rw (t.0, ne_eqb m.pos (i * interval s) other_pos) refl
    ]

    by_place : (h i : ℕ) → h < host_count s → new.first ≤ i → ((eqb (place_of i h) (place_of number m.ui.host) ≡ true) × (place_of i h ≡ place_of number m.ui.host)) ⊎ ((eqb (place_of i h) (place_of number m.ui.host) ≡ false) × (place_of i h ≢ place_of number m.ui.host))
        → option_map (λ k. k.message) (kept_at new i h) ≡ option_or (checkpoint_by h (i * interval s) (Some m)) (search h (i * interval s))
    by_place h i lt le (inl t) =
        let hosts : host_count old.shape ≡ host_count s = ap host_count st.shape_is in
        let same_place = t.1 in
        let same_number : number ≡ i = omega (arith, same_place, host, few, lt, hosts) in
        let same_host : m.ui.host ≡ h = omega (arith, same_place, same_number) in
        ap (option_map (λ (k : KeptCheckpoint). k.message)) (behind h i ∙ ap (λ b. cond b (Some kept) (item_at old.window (place_of i h))) t.0)
        ∙ ap (λ x. Some x) is
        ∙ sym (ap (λ o. option_or o (search h (i * interval s))) (here h i same_host same_number))
    by_place h i lt le (inr f) =
        let hosts : host_count old.shape ≡ host_count s = ap host_count st.shape_is in
        let low_host : h < most_hosts = omega (arith, few, lt, hosts) in
        ap (option_map (λ (k : KeptCheckpoint). k.message)) (behind h i ∙ ap (λ b. cond b (Some kept) (item_at old.window (place_of i h))) f.0)
        ∙ st.finds h i lt (omega (arith, first, le))
        ∙ sym (ap (λ o. option_or o (search h (i * interval s))) (elsewhere h i low_host f.1))

-- ---- the stable position raised

module _ (old new : Checkpoints) (number low : ℕ) (multiple : low ≡ number * interval old.shape) where
  pub keeps_above : least_interval ≤ interval old.shape → low_of old ≤ low → new.shape ≡ old.shape → new.first ≡ number → StandsAbove old.window (number * most_hosts) new.window → KeepsAbove old low new
  keeps_above some above_low shape first window s low0 search st = record {
    shape_is = shape ∙ st.shape_is;
    low_is = ap (λ k. k * interval new.shape) first ∙ ap (λ (x : Shape). number * interval x) shape ∙ sym multiple;
    finds = λ h i lt le.
        let from : old.first ≤ number = product_least old.first number (interval old.shape) some (subst (λ q. low_of old ≤ q) multiple above_low) in
        let up : number * most_hosts < place_of i h = omega (arith, first, le) in
        ap (option_map (λ (k : KeptCheckpoint). k.message)) (behind h i ∙ ap (λ b. cond b None (item_at old.window (place_of i h))) (lt-leb (place_of i h) (number * most_hosts) up))
        ∙ st.finds h i lt (omega (arith, first, le, from));
  } where
    behind : (h i : ℕ) → item_at new.window (place_of i h) ≡ cond (leb (place_of i h) (number * most_hosts)) None (item_at old.window (place_of i h))
    behind h i = (window old.window.low (item_at old.window) (record { low_is = refl; finds = λ q. refl })).finds (place_of i h)
