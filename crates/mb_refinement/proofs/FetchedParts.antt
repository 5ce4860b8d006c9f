-- The fetched parts stay true: those of a STATE join them, and none is left once a state is installed, all are dropped, or they follow a stable position
-- that rose. What they answer is in mb_fetch.
use Rattle.std.proofs.Common.{◌≡◌, ℕ, zero, suc, ◌+◌, ◌-◌, ◌≤◌, ◌<◌, Bool, true, false, ◌∷◌, List, length, refl, sym, ap, ◌∙◌, inl, inr, arith, Option, Some, None, is_some}
use Rattle.std.specs.Prelude.{◌==◌, nat_lt, nat_le, if◌then◌else◌}
use Rattle.std.specs.List.{range_with_len, list_all}
use Rattle.std.specs.Option.{option_or}
use Rattle.std.proofs.lemmas.Bool.{cases_Bool, cases_lt, and_parts, eqb-true, ltb-true, ltb-false, leb-true}
use Rattle.std.proofs.lemmas.Option.{slice_get_within}
use Rattle.mb_base.specs.Shapes.{Bytes}
use Rattle.mb_msg.specs.declared.message.Message.TheVariants as message
use Rattle.mb_msg.specs.declared.transfer.StateMsg.{StateMsg}
use Rattle.mb_model.specs.Histories.{Entry, Accepted, Installed, DroppedParts, History, Identity}
use Rattle.mb_model.specs.Stable.{stable_of, low_of}
use Rattle.mb_model.specs.Positions.{is_behind}
use Rattle.mb_model.specs.Execution.{part_in, part_of, part_held, missing}
use Rattle.mb_model.specs.PlainChecks.{is_wanted, are_all_held}
use Rattle.mb_steps.proofs.StepPotential.{grown_low}
use Rattle.mb_fetch.specs.Fetched.{Fetched}
use Rattle.mb_fetch.specs.Parts.{Represents, StandsWith, joined}
use Rattle.mb_history_laws.specs.Speaks.{speaks_of_parts}
use Rattle.mb_history_laws.specs.Sound.{IsSound}
use Rattle.mb_history_laws.proofs.Framing.{low_stays, parts_stay as search_stays, part_held_stays}
use Rattle.mb_history_laws.proofs.Executing.{parts_held_more, parts_dropped, parts_installed}
use Rattle.mb_refinement.specs.Stands.{PartsStand, HeldStand}
use Rattle.mb_refinement.specs.Lagging.{AreOf, HeldLag, dropped_below}
use Rattle.mb_refinement.proofs.Values.{certificate_same}

-- searches that find the same
pub parts_same : (t : Fetched) (pos : ℕ) (digest : Bytes) (f g : ℕ → Option Bytes) → ((i : ℕ) → f i ≡ g i) → Represents t pos digest f → Represents t pos digest g
parts_same t pos digest f g same stands = record { pos_is = stands.pos_is; digest_is = stands.digest_is; finds = λ i. stands.finds i ∙ same i }

-- A test that holds from a number on holds of each of so many.
all_in_range : (test : ℕ → Bool) (first n i : ℕ) → list_all test (range_with_len first n) ≡ true → first ≤ i → i < first + n → test i ≡ true
all_in_range test first zero i all low high = absurd (omega (arith, low, high))
all_in_range test first (suc n) i all low high =
    let parts = and_parts (test first) (list_all test (range_with_len (first + 1) n)) all in
    elim (cases_lt first i) [
      | inl lt ↦ all_in_range test (first + 1) n i parts.1 (omega (arith, lt)) (omega (arith, high))
      | inr ge ↦ let same : i ≡ first = omega (arith, low, ge) in ap test same ∙ parts.0
    ]

module _ {S : Type 0} (self : Identity S) where
  -- ---- what an entry leaves

  -- behind an entry that leaves the stable position
  at_same : (t : Fetched) (e : Entry) (d : History) (search : ℕ → Option Bytes) → low_of self (e ∷ d) ≡ low_of self d → ((i : ℕ) → search i ≡ part_held self (e ∷ d) i)
      → Represents t (low_of self d) (stable_of self d).state search → PartsStand self t (e ∷ d)
  at_same t e d search low same stands = record {
    pos_is = stands.pos_is ∙ sym low;
    digest_is = stands.digest_is ∙ sym (ap (λ c. c.state) (certificate_same self e d low));
    finds = λ i. stands.finds i ∙ same i;
  }

  -- an entry that speaks of no part, and leaves the stable position
  pub parts_stay : (t : Fetched) (e : Entry) (d : History) → speaks_of_parts e ≡ false → low_of self (e ∷ d) ≡ low_of self d → PartsStand self t d → PartsStand self t (e ∷ d)
  parts_stay t e d s low stands = at_same t e d (part_held self d) low (λ i. sym (part_held_stays self e d i s low)) stands

  pub held_stays : (held : Option Fetched) (e : Entry) (d : History) → speaks_of_parts e ≡ false → low_of self (e ∷ d) ≡ low_of self d → HeldStand self held d → HeldStand self held (e ∷ d)
  held_stays None e d s low none = λ i. part_held_stays self e d i s low ∙ none i
  held_stays (Some t) e d s low stands = parts_stay t e d s low stands

  -- ---- a STATE

  -- What is wanted is for the stable position.
  wanted_at : (m : StateMsg) (d : History) → is_wanted self d m.pos ≡ true → m.pos ≡ low_of self d
  wanted_at m d wanted = by_test (m.pos == low_of self d) refl wanted where
    by_test : (b : Bool) → (m.pos == low_of self d) ≡ b → (if b then is_behind self d else false) ≡ true → m.pos ≡ low_of self d
    by_test true same w = eqb-true m.pos (low_of self d) same
    by_test false other w = absurd cc

  pub parts_position : (t : Fetched) (m : StateMsg) (d : History) → is_wanted self d m.pos ≡ true → PartsStand self t d → m.pos ≡ t.pos
  parts_position t m d wanted stands = wanted_at m d wanted ∙ sym stands.pos_is

  -- Where none is held the first is missing.
  pub first_is_missing : (d : History) → HeldStand self None d → missing self d ≡ Some 0
  first_is_missing d none = rw (none 0) refl

  -- The first of them come into parts that were just made.
  pub parts_begun : (t : Fetched) (d : History) → HeldStand self None d → Represents t (low_of self d) (stable_of self d).state (λ i. None) → PartsStand self t d
  parts_begun t d none stands = parts_same t (low_of self d) (stable_of self d).state (λ i. None) (part_held self d) (λ i. sym (none i)) stands

  -- Those that are taken join them.
  pub parts_joined : (old new : Fetched) (m : StateMsg) (d : History) → is_wanted self d m.pos ≡ true → StandsWith old m new → PartsStand self old d → PartsStand self new (Accepted (message.State m) ∷ d)
  parts_joined old new m d wanted with_it stands =
      at_same new (Accepted (message.State m)) d (joined (part_held self d) m) (low_stays self (Accepted (message.State m)) d refl)
      (λ i. sym (parts_held_more self m d i (wanted_at m d wanted))) (with_it (low_of self d) (stable_of self d).state (part_held self d) stands)

  -- Where all were held, keeping them leaves what is held.
  pub parts_again : (old new : Fetched) (m : StateMsg) (d : History) → are_all_held self d m ≡ true → StandsWith old m new → PartsStand self old d → PartsStand self new d
  parts_again old new m d all with_it stands =
      parts_same new (low_of self d) (stable_of self d).state (joined (part_held self d) m) (part_held self d) nothing_new (with_it (low_of self d) (stable_of self d).state (part_held self d) stands) where
        nothing_new : (i : ℕ) → joined (part_held self d) m i ≡ part_held self d i
        nothing_new i = by_part (part_held self d i) (part_in m i) refl refl where
          held : (x : Bytes) → part_in m i ≡ Some x → is_some (part_held self d i) ≡ true
          held x in_it = elim (cases_Bool (nat_le m.first i)) [
            | inl from ↦
                let short = slice_get_within m.parts (i - m.first) x (rw from at in_it) in
                let low = leb-true m.first i from in
                all_in_range (λ j. is_some (part_held self d j)) m.first (length m.parts) i all low (omega (arith, short, low))
            | inr before ↦ absurd (let e = rw before at in_it in cc)
          ]

          by_part : (o x : Option Bytes) → part_held self d i ≡ o → part_in m i ≡ x → option_or o x ≡ o
          by_part (Some y) x is in_it = refl
          by_part None None is in_it = refl
          by_part None (Some x) is in_it = absurd (let e = held x in_it in let f = rw is at e in cc)

  -- ---- all are gone

  pub parts_gone : (d : History) → HeldStand self None (DroppedParts ∷ d)
  parts_gone d = λ i. parts_dropped self d i

  pub parts_used : (pos : ℕ) (parts : List Bytes) (d : History) → HeldStand self None (Installed pos parts ∷ d)
  parts_used pos parts d = λ i. parts_installed self pos parts d i

  -- ---- the stable position rises, and they follow

  pub held_lags : (held : Option Fetched) (d : History) → IsSound self d → HeldStand self held d → HeldLag self (low_of self d) held d
  held_lags held d sound stands = record { earlier = omega arith; none_above = sound.parts; are = of held stands } where
    of : (o : Option Fetched) → HeldStand self o d → AreOf self (low_of self d) o d
    of None none = none
    of (Some t) stands = record { pos = stands.pos_is; finds = stands.finds; digest = λ same. stands.digest_is }

  -- behind an entry that speaks of no part
  pub held_lags_on : (low : ℕ) (held : Option Fetched) (e : Entry) (d : History) → speaks_of_parts e ≡ false → HeldLag self low held d → HeldLag self low held (e ∷ d)
  held_lags_on low held e d s l = record {
    earlier = let earlier = l.earlier in omega (arith, earlier, grown_low self d e);
    none_above = λ p i above. search_stays self e d p i s ∙ l.none_above p i above;
    are = of held l.are;
  } where
    of : (o : Option Fetched) → AreOf self low o d → AreOf self low o (e ∷ d)
    of None none = λ i. search_stays self e d low i s ∙ none i
    of (Some t) is = record {
      pos = is.pos;
      finds = λ i. is.finds i ∙ sym (search_stays self e d low i s);
      digest = λ same.
          let earlier = l.earlier in
          let now : low ≡ low_of self d = omega (arith, earlier, grown_low self d e, same) in
          is.digest now ∙ ap (λ c. c.state) (sym (certificate_same self e d (sym same ∙ now)));
    }

  -- Those of a lower position are dropped.
  pub held_follow : (low : ℕ) (held : Option Fetched) (d : History) → HeldLag self low held d → HeldStand self (dropped_below (low_of self d) held) d
  held_follow low None d l = λ i. elim (cases_lt low (low_of self d)) [
    | inl rose ↦ l.none_above (low_of self d) i rose
    | inr stayed ↦
        let same : low_of self d ≡ low = let earlier = l.earlier in omega (arith, earlier, stayed) in
        ap (λ p. part_of self d p i) same ∙ l.are i
  ]
  held_follow low (Some t) d l = elim (cases_Bool (nat_lt t.pos (low_of self d))) [
    | inl rose ↦
        let pos = l.are.pos in
        let below = ltb-true t.pos (low_of self d) rose in
        rw rose (λ i. l.none_above (low_of self d) i (omega (arith, pos, below)))
    | inr stayed ↦
        let pos = l.are.pos in
        let earlier = l.earlier in
        let same : low ≡ low_of self d = omega (arith, pos, earlier, ltb-false t.pos (low_of self d) stayed) in
        rw stayed (record { pos_is = pos ∙ same; digest_is = l.are.digest same; finds = λ i. l.are.finds i ∙ ap (λ p. part_of self d p i) same })
  ]
