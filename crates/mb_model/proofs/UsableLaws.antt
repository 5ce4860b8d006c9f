-- What a usable log shows, entry by entry.
--
-- The search for the first fault goes through the entries oldest first. Where it finds none, each entry passed each of the reasons 3 to 8
-- (`all_sound`), and what stands whole is exactly the votes since the last opening, with that opening (`all_bodies`).
use Rattle.std.proofs.Common.{◌≡◌, ℕ, ◌+◌, ◌≤◌, Bool, true, false, ◌&&◌, ◌||◌, not, List, [], ◌∷◌, length, refl, ◌∙◌, inl, inr, ◌⊎◌, Option, Some, None}
use Rattle.std.specs.Prelude.{◌==◌, option_map, if◌then◌else◌}
use Rattle.std.specs.List.{list_any}
use Rattle.std.proofs.lemmas.Bool.{and_parts, cases_Bool, eqb-true, ltb-false}
use Rattle.mb_base.specs.declared.shape.Shape.{Shape}
use Rattle.mb_base.specs.Shapes.{Bytes, span}
use Rattle.mb_parts.specs.declared.floor.Floor.{Floor}
use Rattle.mb_parts.specs.Claims.{Claim}
use Rattle.mb_parts.specs.Certificates.{inner_valid}
use Rattle.mb_parts.specs.Ordered.{permits}
use Rattle.mb_msg.specs.declared.stamped.Shown.{Shown}
use Rattle.mb_msg.specs.Stamps.{bare_of_shown, ui_of_shown}
use Rattle.mb_model.specs.UsableLogs.{bares, newest_first, entry_fault, entries_fault, is_opening_entry, has_body, shows_body, height, is_sound_body, same_truth}
use Rattle.mb_model.proofs.Options.{or_none}

pub not_refused : {A : Type 0} (b : Bool) (r : A) (o : Option A) → (if not b then Some r else o) ≡ None → (b ≡ true) × (o ≡ None)
not_refused true r o e = (refl, e)
not_refused false r o e = absurd cc

pub refused_not : {A : Type 0} (b : Bool) (r : A) (o : Option A) → (if b then Some r else o) ≡ None → (b ≡ false) × (o ≡ None)
refused_not true r o e = absurd cc
refused_not false r o e = (refl, e)

pub map_none : {A B : Type 0} (f : A → B) (x : Option A) → option_map f x ≡ None → x ≡ None
map_none f None e = refl
map_none f (Some a) e = absurd cc

truth_same : (a b : Bool) → same_truth a b ≡ true → a ≡ b
truth_same true true e = refl
truth_same false false e = refl
truth_same true false e = absurd cc
truth_same false true e = absurd cc

module _ (s : Shape) (secret : Bytes) (valid : Claim → Bool) (host stable : ℕ) (o : Floor) where
  -- An entry may stand behind those before it, as the log's host stamped it.
  pub record IsSoundEntry (before : List Shown) (e : Shown) : Type 0 where
    pub counter : (ui_of_shown e).counter ≡ o.counter + length before + 1
    pub claimed : valid (record { host = host; counter = (ui_of_shown e).counter; says = bare_of_shown e; cert = (ui_of_shown e).cert }) ≡ true
    pub permitted : permits o s host (inner_valid s valid) (bares before) (bare_of_shown e) ≡ true
    pub low_enough : height e ≤ stable + span s
    pub body : is_sound_body s secret valid e ≡ true

  -- Each entry of a list that stands newest first may stand behind those before it.
  abbrev pub AreSound : List Shown → Type 0
  AreSound [] = Unit {0}
  AreSound (e ∷ l) = IsSoundEntry l e × AreSound l

  -- the votes since the last opening, and that opening, are whole
  abbrev pub HaveBodies : List Shown → Type 0
  HaveBodies [] = Unit {0}
  HaveBodies (e ∷ l) = (has_body e ≡ true → shows_body e ≡ true) × (is_opening_entry e ≡ false → HaveBodies l)

  pub record IsChecked (before : List Shown) (e : Shown) (rest : List Shown) : Type 0 where
    pub entry : IsSoundEntry before e
    pub form : shows_body e ≡ (has_body e && not (list_any is_opening_entry rest))

  checked : (before : List Shown) (e : Shown) (rest : List Shown) → entry_fault s secret valid host stable o before e rest ≡ None → IsChecked before e rest
  unfolding entry_fault
  checked before e rest h =
      let a = not_refused _ _ _ h in
      let b = not_refused _ _ _ a.1 in
      let c = not_refused _ _ _ b.1 in
      let d = not_refused _ _ _ c.1 in
      let f = refused_not _ _ _ d.1 in
      let g = not_refused _ _ _ f.1 in
      let who = and_parts ((ui_of_shown e).host == host) _ b.0 in
      record {
        entry = record { counter = eqb-true _ _ a.0; claimed = who.1; permitted = c.0; low_enough = ltb-false _ _ f.0; body = g.0 };
        form = truth_same _ _ d.0;
      }

  first_sound : (before : List Shown) (e : Shown) (rest : List Shown) → entries_fault s secret valid host stable o before (e ∷ rest) ≡ None
      → IsChecked before e rest × (entries_fault s secret valid host stable o (e ∷ before) rest ≡ None)
  unfolding entries_fault
  first_sound before e rest h =
      let parts = or_none _ _ h in
      (checked before e rest (map_none _ _ parts.0), parts.1)

  pub all_sound : (before es : List Shown) → entries_fault s secret valid host stable o before es ≡ None → AreSound before → AreSound (newest_first before es)
  all_sound before [] h g = g
  all_sound before (e ∷ es) h g =
      let c = first_sound before e es h in all_sound (e ∷ before) es c.1 (c.0.entry, g)

  shows : (w a b : Bool) → a ≡ (w && not b) → b ≡ false → w ≡ true → a ≡ true
  shows w a b form later wants = form ∙ rw (wants, later) refl

  pub all_bodies : (before es : List Shown) → entries_fault s secret valid host stable o before es ≡ None
      → (list_any is_opening_entry es ≡ true) ⊎ HaveBodies before → HaveBodies (newest_first before es)
  all_bodies before [] h (inl later) = absurd cc
  all_bodies before [] h (inr bodies) = bodies
  all_bodies before (e ∷ es) h known =
      let c = first_sound before e es h in
      all_bodies (e ∷ before) es c.1 (elim (cases_Bool (list_any is_opening_entry es)) [
        | inl later ↦ inl later
        | inr none ↦ inr (shows (has_body e) (shows_body e) (list_any is_opening_entry es) c.0.form none, still none known)
      ]) where
        still : list_any is_opening_entry es ≡ false → (list_any is_opening_entry (e ∷ es) ≡ true) ⊎ HaveBodies before → is_opening_entry e ≡ false → HaveBodies before
        still none (inr bodies) other = bodies
        still none (inl later) other = absurd (clash (list_any is_opening_entry es) (is_opening_entry e) none other later) where
          clash : (a b : Bool) → a ≡ false → b ≡ false → (b || a) ≡ true → ⊥
          clash true b x y z = cc
          clash false true x y z = cc
          clash false false x y z = cc
