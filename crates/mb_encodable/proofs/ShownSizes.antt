-- A VIEW_CHANGE that is usable, or that this host stamps, has few bytes: its log is within the limits, and of the bodies of OPENs it shows one at most. So
-- each stamped message and each LOG stays below the most bytes of a message.
use Rattle.std.proofs.Common.{◌≡◌, ℕ, ◌+◌, ◌*◌, ◌≤◌, Bool, true, false, not, ◌&&◌, cond, List, [], ◌∷◌, length, refl, ap, ◌∙◌, inl, inr, arith, Option, Some, None}
use Rattle.std.specs.Prelude.{◌==◌, nat_lt, count_by, if◌then◌else◌, option_map}
use Rattle.std.specs.Bool.{then_some}
use Rattle.std.specs.Option.{IfSome}
use Rattle.std.specs.Int.{w8}
use Rattle.std.specs.List.{AllByRecursion, list_any, flat_map}
use Rattle.std.proofs.lemmas.Bool.{cases_Bool, ltb-false}
use Rattle.std.proofs.lemmas.List.{length-append}
use Rattle.std.proofs.lemmas.List.Concat.{flat_map-cons}
use Rattle.std.proofs.lemmas.List.Sums.{sum_by-cons}
use Rattle.mb_base.specs.Limits.{other_limit}
use Rattle.mb_base.specs.Shapes.{Bytes, IsShape, span}
use Rattle.mb_base.specs.Spelling.{number, optional}
use Rattle.mb_base.specs.declared.shape.Shape.{Shape}
use Rattle.mb_parts.specs.declared.certificates.FloorCert.{FloorCert}
use Rattle.mb_parts.specs.declared.floor.Floor.{Floor}
use Rattle.mb_parts.specs.Claims.{Claim}
use Rattle.mb_parts.specs.declared.certificates.Evidence.{Evidence}
use Rattle.mb_parts.specs.Fits.{FitsFloorCert, FitsEvidence}
use Rattle.mb_parts.specs.Spelling.{floor_cert_bytes}
use Rattle.mb_parts.specs.Certificates.{inner_valid}
use Rattle.mb_parts.specs.Ordered.{permits}
use Rattle.mb_msg.specs.declared.message.Body.{Body}
use Rattle.mb_msg.specs.declared.message.Body.TheVariants.{Whole, Bare as Short}
use Rattle.mb_msg.specs.declared.change.ChangeBody.{ChangeBody}
use Rattle.mb_msg.specs.declared.stamped.Shown.{Shown}
use Rattle.mb_msg.specs.declared.stamped.Shown.TheVariants as shown
use Rattle.mb_msg.specs.declared.change.OpenBody.{OpenBody}
use Rattle.mb_msg.specs.Bodies.{FitsBody, body_bytes}
use Rattle.mb_msg.specs.Fits.{FitsOpenBody, FitsShown, FitsChangeBody}
use Rattle.mb_msg.specs.Spelling.{open_body_bytes, open_bytes, shown_bytes, change_body_bytes}
use Rattle.mb_msg.specs.Stamps.{bare_of_shown, ui_of_shown}
use Rattle.mb_model.specs.UsableLogs.{is_opening_entry, is_whole, shows_body, has_body, is_normal_kind, normal_limit, same_truth, height, is_sound_body, entry_claim, bares, entry_fault, entries_fault, is_ill_founded, is_too_long, fault_from, floor_of, log_fault}
use Rattle.mb_model.proofs.Options.{or_none, then_none}
use Rattle.mb_model.proofs.UsableLaws.{not_refused, map_none}
use Rattle.mb_host_laws.proofs.Cases.{or_false}
use Rattle.mb_encodable.proofs.Room.{weight}
use Rattle.mb_encodable.proofs.Sizes.{length8, length16, floor_cert_short, stable_short, prepare_short, commit_short, bare_checkpoint_short, bare_change_short, bare_new_view_short, enter_short, open_short, opened_short, join_short}

-- an OPEN with its body
abbrev pub is_whole_open : Shown → Bool
is_whole_open (shown.Open m) = is_whole m.body
is_whole_open e = false

-- It has so many entries of each sort, and one OPEN at most with its body.
pub record IsModest (s : Shape) (l : List Shown) : Type 0 where
  pub normal : count_by is_normal_kind l ≤ normal_limit s
  pub others : count_by (λ e. not (is_normal_kind e)) l ≤ other_limit
  pub opens : count_by is_whole_open l ≤ 1

-- the most bytes of what a VIEW_CHANGE shows
abbrev pub change_limit : ℕ
change_limit = 1032511

-- ---- entries

module _ (s : Shape) (shape : IsShape s) where
  -- A vote or a CHECKPOINT has 2,148 bytes at most, another entry 634, and the body of an OPEN 131,468.
  abbrev bound : Shown → ℕ
  bound e = 2148 * weight (is_normal_kind e) + 634 * weight (not (is_normal_kind e)) + 131468 * weight (is_whole_open e)

  opened : (c : ℕ) (b : Body OpenBody) (e : Evidence) → FitsEvidence s e → FitsBody (FitsOpenBody s e) b → c ≤ 293 + length (body_bytes open_body_bytes b) → 1 + c ≤ 634 + 131468 * weight (is_whole b)
  opened c (Whole b) e g f le = omega (arith, le, opened_short s shape e (Whole b) g f)
  opened c (Short d) e g f le = omega (arith, le, f)

  entry_short : (e : Shown) → FitsShown s e → length (shown_bytes e) ≤ bound e
  unfolding shown_bytes
  entry_short (shown.Prepare m) f = let le = prepare_short s shape m f in simp (length-append, length8) (omega (arith, le))
  entry_short (shown.Commit m) f = let le = commit_short s shape m f in simp (length-append, length8) (omega (arith, le))
  entry_short (shown.Checkpoint m) f = let le = bare_checkpoint_short s shape m f in simp (length-append, length8) (omega (arith, le))
  entry_short (shown.ViewChange m) f = let le = bare_change_short s shape m f in simp (length-append, length8) (omega (arith, le))
  entry_short (shown.NewView m) f = let le = bare_new_view_short s shape m f in simp (length-append, length8) (omega (arith, le))
  entry_short (shown.Enter m) f = let le = enter_short s shape m f in simp (length-append, length8) (omega (arith, le))
  entry_short (shown.Open m) f = let le = opened (length (open_bytes m)) m.body m.evidence f.evidence f.body (open_short s shape m f) in simp (length-append, length8) (omega (arith, le))
  entry_short (shown.Join m) f = let le = join_short s shape m f in simp (length-append, length8) (omega (arith, le))

  entries_short : (l : List Shown) → AllByRecursion (FitsShown s) l → length (flat_map shown_bytes l) ≤ 2148 * count_by is_normal_kind l + 634 * count_by (λ e. not (is_normal_kind e)) l + 131468 * count_by is_whole_open l
  entries_short [] a = omega arith
  entries_short (e ∷ l) a =
      let joined : length (flat_map shown_bytes (e ∷ l)) ≡ length (shown_bytes e) + length (flat_map shown_bytes l) = ap length (flat_map-cons shown_bytes e l) ∙ length-append (shown_bytes e) (flat_map shown_bytes l) in
      omega (arith, joined, entry_short e a.0, entries_short l a.1, sum_by-cons (λ y. cond (is_normal_kind y) 1 0) e l, sum_by-cons (λ y. cond (not (is_normal_kind y)) 1 0) e l, sum_by-cons (λ y. cond (is_whole_open y) 1 0) e l)

  -- ---- a whole log

  pub optional_cert : (o : Option FloorCert) → IfSome o (FitsFloorCert s) → length (optional floor_cert_bytes o) ≤ 1381
  optional_cert None f = omega (arith, length8 0)
  optional_cert (Some c) f = omega (arith, length-append (number w8 1) (floor_cert_bytes c), length8 1, floor_cert_short s shape c f)

  pub change_short : (b : ChangeBody) → FitsChangeBody s b → IsModest s b.entries → length (change_body_bytes b) ≤ change_limit
  unfolding change_body_bytes
  change_short b f m =
      let floor = optional_cert b.floor f.floor in
      let stable = stable_short s shape b.stable f.stable in
      let entries = entries_short b.entries f.entries in
      simp (length-append, length16) (omega (arith, floor, stable, entries, m.normal, m.others, m.opens, shape.intervals.1))

-- ---- a usable log

none_opens : (l : List Shown) → list_any is_opening_entry l ≡ false → count_by is_whole_open l ≡ 0
none_opens [] e = refl
none_opens (x ∷ l) e = let b = or_false (is_opening_entry x) (list_any is_opening_entry l) e in omega (arith, sum_by-cons (λ y. cond (is_whole_open y) 1 0) x l, none_opens l b.1, no_open x b.0) where
  no_open : (x : Shown) → is_opening_entry x ≡ false → weight (is_whole_open x) ≡ 0
  no_open (shown.Open m) e = absurd cc
  no_open (shown.Prepare m) e = refl
  no_open (shown.Commit m) e = refl
  no_open (shown.Checkpoint m) e = refl
  no_open (shown.ViewChange m) e = refl
  no_open (shown.NewView m) e = refl
  no_open (shown.Enter m) e = refl
  no_open (shown.Join m) e = refl

whole_shows : (x : Shown) → is_whole_open x ≡ true → (has_body x ≡ true) × (shows_body x ≡ true)
whole_shows (shown.Open m) e = (refl, e)
whole_shows (shown.Prepare m) e = absurd cc
whole_shows (shown.Commit m) e = absurd cc
whole_shows (shown.Checkpoint m) e = absurd cc
whole_shows (shown.ViewChange m) e = absurd cc
whole_shows (shown.NewView m) e = absurd cc
whole_shows (shown.Enter m) e = absurd cc
whole_shows (shown.Join m) e = absurd cc

module _ (s : Shape) (secret : Bytes) (valid : Claim → Bool) (host stable : ℕ) (o : Floor) where
  form_of_entry : (before : List Shown) (e : Shown) (rest : List Shown) → entry_fault s secret valid host stable o before e rest ≡ None → same_truth (shows_body e) (has_body e && not (list_any is_opening_entry rest)) ≡ true
  unfolding entry_fault
  form_of_entry before e rest h =
      let form : Bool = same_truth (shows_body e) (has_body e && not (list_any is_opening_entry rest)) in
      let last : Option ℕ = if not (is_sound_body s secret valid e) then Some 8 else None in
      let high : Option ℕ = if nat_lt (stable + span s) (height e) then Some 7 else last in
      let a = not_refused ((ui_of_shown e).counter == o.counter + length before + 1) 3 _ h in
      let b = not_refused ((ui_of_shown e).host == host && valid (entry_claim host e)) 4 _ a.1 in
      let c = not_refused (permits o s host (inner_valid s valid) (bares before) (bare_of_shown e)) 5 _ b.1 in
      (not_refused form 6 high c.1).0

  last_one : (w a b : Bool) → same_truth a (w && not b) ≡ true → w ≡ true → a ≡ true → b ≡ false
  last_one true true false t x y = refl
  last_one true true true t x y = absurd cc
  last_one true false b t x y = absurd cc
  last_one false a b t x y = absurd cc

  one_open : (before es : List Shown) → entries_fault s secret valid host stable o before es ≡ None → count_by is_whole_open es ≤ 1
  unfolding entries_fault
  one_open before [] h = omega arith
  one_open before (e ∷ es) h =
      let parts = or_none (option_map (λ reason. (length before, reason)) (entry_fault s secret valid host stable o before e es)) (entries_fault s secret valid host stable o (e ∷ before) es) h in
      let form = form_of_entry before e es (map_none _ _ parts.0) in
      let rest = one_open (e ∷ before) es parts.1 in
      elim (cases_Bool (is_whole_open e)) [
        | inl whole ↦
            let w = whole_shows e whole in
            let last = last_one (has_body e) (shows_body e) (list_any is_opening_entry es) form w.0 w.1 in
            let one : weight (is_whole_open e) ≡ 1 = ap weight whole in
            omega (arith, sum_by-cons (λ y. cond (is_whole_open y) 1 0) e es, none_opens es last, one)
        | inr other ↦
            let none : weight (is_whole_open e) ≡ 0 = ap weight other in
            omega (arith, sum_by-cons (λ y. cond (is_whole_open y) 1 0) e es, rest, none)
      ]

module _ (s : Shape) (secret : Bytes) (valid : Claim → Bool) where
  from_modest : (host view counter : ℕ) (b : ChangeBody) (o : Option Floor) → fault_from s secret valid host view counter b o ≡ None → IsModest s b.entries
  from_modest host view counter b None e = absurd cc
  from_modest host view counter b (Some o) e =
      let x = or_none (then_some (is_ill_founded s secret valid b) (0, 2)) _ e in
      let y = or_none (then_some (is_too_long s secret valid b.entries) (0, 9)) _ x.1 in
      let z = or_none (entries_fault s secret valid host b.stable.pos o [] b.entries) _ y.1 in
      let long = or_false (nat_lt (normal_limit s) (count_by is_normal_kind b.entries)) (nat_lt other_limit (count_by (λ e. not (is_normal_kind e)) b.entries)) (then_none _ (0, 9) y.0) in
      record {
        normal = ltb-false (normal_limit s) (count_by is_normal_kind b.entries) long.0;
        others = ltb-false other_limit (count_by (λ e. not (is_normal_kind e)) b.entries) long.1;
        opens = one_open s secret valid host b.stable.pos o [] b.entries z.0;
      }

  pub usable_modest : (host view counter : ℕ) (b : ChangeBody) → log_fault s secret valid host view counter b ≡ None → IsModest s b.entries
  unfolding log_fault
  usable_modest host view counter b e = from_modest host view counter b (floor_of s valid host b.floor) e
