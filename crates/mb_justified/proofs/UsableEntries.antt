-- A log of own stamps, shown in its forms, has no fault in its entries: reasons 3 to 8.
--
-- The search goes from the oldest entry to the newest; what it asks of each is shown from the newest on (`passes`). The forms change neither number, nor
-- certificate, nor what is said, nor the height; a body stands there exactly where no opening is behind it (`form_body`).
use Rattle.std.proofs.Common.{◌≡◌, ℕ, ◌+◌, ◌≤◌, Bool, true, false, ◌&&◌, ◌||◌, not, List, [], ◌∷◌, ◌++◌, length, refl, sym, ap, subst, ◌∙◌, arith, Option, Some, None}
use Rattle.std.specs.Prelude.{◌==◌, map, reverse, nat_lt, if◌then◌else◌}
use Rattle.std.specs.List.{list_any}
use Rattle.std.proofs.lemmas.Bool.{and_from, eq-eqb}
use Rattle.std.proofs.lemmas.List.{append-nil, reverse-append}
use Rattle.mb_base.specs.declared.shape.Shape.{Shape}
use Rattle.mb_base.specs.declared.names.Ui.{Ui}
use Rattle.mb_base.specs.Shapes.{Bytes, span}
use Rattle.mb_parts.specs.declared.floor.Floor.{Floor}
use Rattle.mb_parts.specs.Bares.{Bare}
use Rattle.mb_parts.specs.Claims.{Claim}
use Rattle.mb_parts.specs.Certificates.{inner_valid}
use Rattle.mb_parts.specs.Ordered.{permits}
use Rattle.mb_msg.specs.declared.stamped.Shown.{Shown}
use Rattle.mb_msg.specs.declared.stamped.Shown.TheVariants as shown
use Rattle.mb_msg.specs.declared.stamped.Stamped.{Stamped as StampedMessage}
use Rattle.mb_msg.specs.declared.stamped.Stamped.TheVariants as stamped
use Rattle.mb_msg.specs.Stamps.{bare_of, ui_of, bare_of_shown, ui_of_shown}
use Rattle.mb_model.specs.UsableLogs.{bares, entry_claim, entry_fault, entries_fault, is_opening_entry, has_body, shows_body, height, is_sound_body, same_truth}
use Rattle.mb_model.specs.OwnLog.{as_shown}
use Rattle.mb_model.specs.GateChecks.{stamp_claim}
use Rattle.mb_steps.proofs.StepPotential.{not_above}
use Rattle.mb_justified.proofs.ShownForms.{shorten, shorten_where, opens, shown_forms, form_bare, forms_bare, forms_length}

-- ---- what the forms leave as it is

form_ui : (b : Bool) (m : StampedMessage) → ui_of_shown (shorten_where b (as_shown m)) ≡ ui_of m
form_ui b (stamped.Prepare m) = go b where
  go : (b : Bool) → ui_of_shown (shorten_where b (shown.Prepare m)) ≡ m.ui
  go true = refl
  go false = refl
form_ui b (stamped.Commit m) = go b where
  go : (b : Bool) → ui_of_shown (shorten_where b (shown.Commit m)) ≡ m.ui
  go true = refl
  go false = refl
form_ui b (stamped.Open m) = go b where
  go : (b : Bool) → ui_of_shown (shorten_where b (shown.Open m)) ≡ m.ui
  go true = refl
  go false = refl
form_ui b (stamped.Checkpoint m) = go b where
  go : (b : Bool) → ui_of_shown (shorten_where b (as_shown (stamped.Checkpoint m))) ≡ m.ui
  go true = refl
  go false = refl
form_ui b (stamped.ViewChange m) = go b where
  go : (b : Bool) → ui_of_shown (shorten_where b (as_shown (stamped.ViewChange m))) ≡ m.ui
  go true = refl
  go false = refl
form_ui b (stamped.NewView m) = go b where
  go : (b : Bool) → ui_of_shown (shorten_where b (as_shown (stamped.NewView m))) ≡ m.ui
  go true = refl
  go false = refl
form_ui b (stamped.Enter m) = go b where
  go : (b : Bool) → ui_of_shown (shorten_where b (shown.Enter m)) ≡ m.ui
  go true = refl
  go false = refl
form_ui b (stamped.Join m) = go b where
  go : (b : Bool) → ui_of_shown (shorten_where b (shown.Join m)) ≡ m.ui
  go true = refl
  go false = refl

-- of an entry: what an opening behind it does to it
pub record Shortened (e : Shown) : Type 0 where
  pub has : has_body (shorten e) ≡ has_body e
  pub shows : shows_body (shorten e) ≡ false
  pub high : height (shorten e) ≡ height e
  pub opens : is_opening_entry (shorten e) ≡ is_opening_entry e

shortened : (e : Shown) → Shortened e
shortened (shown.Prepare m) = record { has = refl; shows = refl; high = refl; opens = refl }
shortened (shown.Commit m) = record { has = refl; shows = refl; high = refl; opens = refl }
shortened (shown.Checkpoint m) = record { has = refl; shows = refl; high = refl; opens = refl }
shortened (shown.ViewChange m) = record { has = refl; shows = refl; high = refl; opens = refl }
shortened (shown.NewView m) = record { has = refl; shows = refl; high = refl; opens = refl }
shortened (shown.Enter m) = record { has = refl; shows = refl; high = refl; opens = refl }
shortened (shown.Open m) = record { has = refl; shows = refl; high = refl; opens = refl }
shortened (shown.Join m) = record { has = refl; shows = refl; high = refl; opens = refl }

form_high : (b : Bool) (e : Shown) → height (shorten_where b e) ≡ height e
form_high true e = (shortened e).high
form_high false e = refl

form_opens : (b : Bool) (e : Shown) → is_opening_entry (shorten_where b e) ≡ is_opening_entry e
form_opens true e = (shortened e).opens
form_opens false e = refl

not_shown : (h : Bool) → same_truth false (h && not true) ≡ true
not_shown true = refl
not_shown false = refl

whole_shown : (s h : Bool) → s ≡ h → same_truth s (h && not false) ≡ true
whole_shown true true e = refl
whole_shown false false e = refl
whole_shown true false e = absurd cc
whole_shown false true e = absurd cc

-- A body stands there exactly where no opening is behind.
form_body : (b : Bool) (e : Shown) → shows_body e ≡ has_body e → same_truth (shows_body (shorten_where b e)) (has_body (shorten_where b e) && not b) ≡ true
form_body true e w = rw ((shortened e).shows, (shortened e).has) (not_shown (has_body e))
form_body false e w = whole_shown (shows_body e) (has_body e) w

module _ (s : Shape) (secret : Bytes) (valid : Claim → Bool) (host stable : ℕ) (o : Floor) where
  short_sound : (e : Shown) → is_sound_body s secret valid (shorten e) ≡ true
  short_sound (shown.Prepare m) = refl
  short_sound (shown.Commit m) = refl
  short_sound (shown.Checkpoint m) = refl
  short_sound (shown.ViewChange m) = refl
  short_sound (shown.NewView m) = refl
  short_sound (shown.Enter m) = refl
  short_sound (shown.Open m) = refl
  short_sound (shown.Join m) = refl

  form_sound : (b : Bool) (e : Shown) → is_sound_body s secret valid e ≡ true → is_sound_body s secret valid (shorten_where b e) ≡ true
  form_sound true e w = short_sound e
  form_sound false e w = w

  -- ---- what is asked of an own stamp; those before it stand newest first

  pub record IsOwnEntry (before : List StampedMessage) (m : StampedMessage) : Type 0 where
    pub counter : (ui_of m).counter ≡ o.counter + length before + 1
    pub sender : (ui_of m).host ≡ host
    pub claimed : valid (stamp_claim m) ≡ true
    pub permitted : permits o s host (inner_valid s valid) (map bare_of before) (bare_of m) ≡ true
    pub low : height (as_shown m) ≤ stable + span s
    pub whole : shows_body (as_shown m) ≡ has_body (as_shown m)
    pub sound : is_sound_body s secret valid (as_shown m) ≡ true

  abbrev pub AreOwnEntries : List StampedMessage → Type 0
  AreOwnEntries [] = Unit {0}
  AreOwnEntries (m ∷ l) = IsOwnEntry l m × AreOwnEntries l

  passed : (a : Bool) (r : ℕ) (x : Option ℕ) → a ≡ true → x ≡ None → (if not a then Some r else x) ≡ None
  passed true r x e n = n
  passed false r x e n = absurd cc

  not_failed : (a : Bool) (r : ℕ) (x : Option ℕ) → a ≡ false → x ≡ None → (if a then Some r else x) ≡ None
  not_failed false r x e n = n
  not_failed true r x e n = absurd cc

  claim_is : (m : StampedMessage) (u : Ui) (b : Bare) → (ui_of m).host ≡ host → u ≡ ui_of m → b ≡ bare_of m → valid (stamp_claim m) ≡ true → valid (record { host = host; counter = u.counter; says = b; cert = u.cert }) ≡ true
  claim_is m u b e g k v = rw (g, k, ← e) v

  entry_passes : (b : Bool) (rest : Bool) (l : List StampedMessage) (m : StampedMessage) (behind : List Shown) → list_any is_opening_entry behind ≡ b → IsOwnEntry l m
      → entry_fault s secret valid host stable o (shown_forms rest l) (shorten_where b (as_shown m)) behind ≡ None
  unfolding entry_fault
  entry_passes b rest l m behind same x =
      let e : Shown = shorten_where b (as_shown m) in
      let u : ui_of_shown e ≡ ui_of m = form_ui b m in
      let says : bare_of_shown e ≡ bare_of m = form_bare b m in
      let count : (ui_of_shown e).counter ≡ o.counter + length (shown_forms rest l) + 1 = ap (λ (y : Ui). y.counter) u ∙ omega (arith, x.counter, forms_length rest l) in
      passed ((ui_of_shown e).counter == o.counter + length (shown_forms rest l) + 1) 3 _ (eq-eqb _ _ count)
      (passed ((ui_of_shown e).host == host && valid (entry_claim host e)) 4 _ (and_from _ _ (eq-eqb _ _ (ap (λ (y : Ui). y.host) u ∙ x.sender)) (claim_is m (ui_of_shown e) (bare_of_shown e) x.sender u says x.claimed))
      (passed (permits o s host (inner_valid s valid) (bares (shown_forms rest l)) (bare_of_shown e)) 5 _ (permit_is (forms_bare rest l) says)
      (passed (same_truth (shows_body e) (has_body e && not (list_any is_opening_entry behind))) 6 _ (subst (λ (t : Bool). same_truth (shows_body e) (has_body e && not t) ≡ true) (sym same) (form_body b (as_shown m) x.whole))
      (not_failed (nat_lt (stable + span s) (height e)) 7 _ (not_above (stable + span s) (height e) (omega (arith, form_high b (as_shown m), x.low)))
      (passed (is_sound_body s secret valid e) 8 None (form_sound b (as_shown m) x.sound) refl))))) where
        permit_is : bares (shown_forms rest l) ≡ map bare_of l → bare_of_shown (shorten_where b (as_shown m)) ≡ bare_of m → permits o s host (inner_valid s valid) (bares (shown_forms rest l)) (bare_of_shown (shorten_where b (as_shown m))) ≡ true
        permit_is e g = rw (e, g) x.permitted

  -- ---- all entries, oldest first

  abbrev AllPass : List Shown → List Shown → Type 0
  AllPass before [] = Unit {0}
  AllPass before (e ∷ es) = (entry_fault s secret valid host stable o before e es ≡ None) × AllPass (e ∷ before) es

  none_fails : (before es : List Shown) → AllPass before es → entries_fault s secret valid host stable o before es ≡ None
  unfolding entries_fault
  none_fails before [] a = refl
  none_fails before (e ∷ es) a = rw (a.0) (none_fails (e ∷ before) es a.1)

  or_comm : (a b : Bool) → (a || b) ≡ (b || a)
  or_comm true true = refl
  or_comm true false = refl
  or_comm false true = refl
  or_comm false false = refl

  appended : (x : Shown) (a b : List Shown) → (a ++ x ∷ []) ++ b ≡ a ++ x ∷ b
  appended x [] b = refl
  appended x (y ∷ a) b = ap (λ (z : List Shown). y ∷ z) (appended x a b)

  passes : (b : Bool) (l : List StampedMessage) (behind : List Shown) → list_any is_opening_entry behind ≡ b → AreOwnEntries l → AllPass (shown_forms b l) behind → AllPass [] (reverse (shown_forms b l) ++ behind)
  unfolding shown_forms
  passes b [] behind same a p = p
  passes b (m ∷ l) behind same a p =
      let e : Shown = shorten_where b (as_shown m) in
      let more : list_any is_opening_entry (e ∷ behind) ≡ (b || opens m) = rw (form_opens b (as_shown m), same) (or_comm (opens m) b) in
      subst (λ (t : List Shown). AllPass [] t) (sym (appended e (reverse (shown_forms (b || opens m) l)) behind) ∙ ap (λ (t : List Shown). t ++ behind) (sym (reverse-append (e ∷ []) (shown_forms (b || opens m) l))))
      (passes (b || opens m) l (e ∷ behind) more a.1 (entry_passes b (b || opens m) l m behind same a.0, p))

  -- A log of own stamps has no fault in its entries.
  pub no_entry_fault : (l : List StampedMessage) → AreOwnEntries l → entries_fault s secret valid host stable o [] (reverse (shown_forms false l)) ≡ None
  no_entry_fault l a = none_fails [] (reverse (shown_forms false l)) (subst (λ (t : List Shown). AllPass [] t) (append-nil (reverse (shown_forms false l))) (passes false l [] refl a tt))
