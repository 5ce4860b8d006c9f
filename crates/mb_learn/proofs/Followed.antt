-- How the list of a host goes on, as more is shown of it.
use Rattle.std.proofs.Common.{◌≡◌, ℕ, ◌+◌, ◌<◌, ◌≤◌, Bool, true, false, cond, eqb, BTreeMap, List, [], ◌∷◌, ◌++◌, length, map, Option, Some, None, option_map, IfSome, sym, ap, subst, ◌∙◌, inl, inr, arith}
use Rattle.std.specs.Prelude.{if◌then◌else◌, ◌==◌}
use Rattle.std.specs.Option.{option_or}
use Rattle.std.specs.Ordering.{is_eq, nat_cmp}
use Rattle.std.specs.BTreeMap.{get, is_at}
use Rattle.std.specs.Map.{lookup}
use Rattle.std.specs.Global.{Vec}
use Rattle.std.proofs.lemmas.Bool.{cases_Bool, ne_eqb, eq-eqb, eqb-true}
use Rattle.std.proofs.lemmas.List.{reverse-append, length-reverse, length-map}
use mathlib.Core.Path.{fun_ext}
use Rattle.mb_base.specs.Shapes.{Bytes}
use Rattle.mb_base.specs.declared.shape.Shape.{Shape}
use Rattle.mb_parts.specs.Bares.{Bare}
use Rattle.mb_gate.specs.declared.gate.Gate.{Gate}
use Rattle.mb_gate.specs.Represents.{Represents}
use Rattle.mb_msg.specs.declared.stamped.Stamped.{Stamped}
use Rattle.mb_msg.specs.Stamps.{ui_of, bare_of}
use Rattle.mb_certified.specs.Certified.{IsBareStamp}
use Rattle.mb_audit.specs.Walks.{log_of}
use Rattle.mb_learn.specs.declared.follower.Follower.{Follower}
use Rattle.mb_learn.specs.Followers.{led_by, shown_too, IsKeptAt, IsFollowing, Follows, IsAwaited}
use Rattle.mb_learn.specs.Lists.{may_follow, AreInOrder, IsList}
use Rattle.mb_learn.proofs.Finds.{or_none}
use Rattle.mb_learn.proofs.MapLists.{same_number, same_order}
use Rattle.mb_learn.proofs.Tests.{true_false}

-- ---- what is shown first, with one certificate more

-- what is first at a counter stays so
abbrev pub Grows : (ℕ → Option Bare) → (ℕ → Option Bare) → Type 0
Grows first more = (c : ℕ) (m : Bare) → first c ≡ Some m → more c ≡ Some m

module _ (first : ℕ → Option Bare) (counter : ℕ) (m : Bare) where
  pub shown_grows : Grows first (shown_too first counter m)
  shown_grows c x is = ap (λ (o : Option Bare). option_or o (if counter == c then Some m else None)) is

  pub other_stays : (c : ℕ) → (counter ≡ c → ⊥) → shown_too first counter m c ≡ first c
  other_stays c ne = ap (λ b. option_or (first c) (if b then Some m else None)) (ne_eqb counter c ne) ∙ or_none (first c)

  pub own_shown : first counter ≡ None → (c : ℕ) → counter ≡ c → shown_too first counter m c ≡ Some m
  own_shown none c e =
      ap (λ (o : Option Bare). option_or o (if counter == c then Some m else None)) (ap first (sym e) ∙ none)
      ∙ ap (λ b. if b then Some m else None) (eq-eqb counter c e)

-- what holds of all that waits, with one entry more or without one
module _ (old new : BTreeMap ℕ Stamped) (n : ℕ) (w : Option Stamped) (puts : (q : ℕ) → get nat_cmp new q ≡ cond (is_eq (nat_cmp n q)) w (get nat_cmp old q)) (P : Stamped → Type 0) where
  pub put_fits : ((c : ℕ) → IfSome (get nat_cmp old c) P) → IfSome w P → (c : ℕ) → IfSome (get nat_cmp new c) P
  put_fits all own c = subst (λ (o : Option Stamped). IfSome o P) (sym (puts c)) (by (is_eq (nat_cmp n c))) where
    by : (b : Bool) → IfSome (cond b w (get nat_cmp old c)) P
    by true = own
    by false = all c

-- ---- a new follower

module _ (s : Shape) (host : ℕ) (f : Follower) (shape : f.shape ≡ s) (none : f.waiting.entries ≡ []) where
  nothing_waits : (c : ℕ) → get nat_cmp f.waiting c ≡ None
  nothing_waits c = ap (λ (es : List (ℕ × Stamped)). lookup (is_at (nat_cmp c)) es) none

  pub made_ready : IsFollowing s f
  made_ready = record { shape = shape; bare = λ c. subst (λ (o : Option Stamped). IfSome o (IsBareStamp s)) (sym (nothing_waits c)) tt }

  pub made_follows : f.ended ≡ false → f.led.items ≡ [] → Represents f.gate (log_of s host []) → (secret : Bytes) (first : ℕ → Option Bare) → ((c : ℕ) → first c ≡ None) → Follows s secret host first f []
  made_follows on led gate secret first nothing = record {
    shape = shape;
    in_order = tt;
    led = led;
    gate = λ o. gate;
    waiting = λ o c lt. ap (option_map bare_of) (nothing_waits c) ∙ sym (nothing c);
    kept = λ c. subst (λ (o : Option Stamped). IfSome o (IsKeptAt host c)) (sym (nothing_waits c)) tt;
    ended = λ e. true_false (sym e ∙ on);
  }

-- ---- lists in order

module _ (s : Shape) (secret : Bytes) (host : ℕ) where
  pub in_order_more : (first more : ℕ → Option Bare) → Grows first more → (l : List Bare) → AreInOrder s secret host first l → AreInOrder s secret host more l
  in_order_more first more grows [] o = tt
  in_order_more first more grows (m ∷ l) o = (grows (length l + 1) m o.0, o.1, in_order_more first more grows l o.2)

  abbrev Ends : Option Bare → List Bare → Type 0
  Ends o l = IfSome o (λ m. may_follow s secret host l m ≡ false)

  module _ (first : ℕ → Option Bare) (f : Follower) (l : List Bare) (fo : Follows s secret host first f l) where
    -- as many are kept beside the list
    pub led_long : length f.led.items ≡ length l
    led_long = ap (λ (x : List (Option ℕ)). length x) fo.led ∙ length-reverse (map led_by l) ∙ length-map l led_by

    -- It has ended.
    pub ended_list : f.ended ≡ true → IsList s secret host first l
    ended_list e = record { in_order = fo.in_order; ends = let r = fo.ended e in subst (λ (o : Option Bare). Ends o l) (sym r.1) r.2 }

    -- ---- what is awaited

    pub awaits_one : (counter : ℕ) → f.ended ≡ false → length l < counter → get nat_cmp f.waiting counter ≡ None → IsAwaited s secret host first f l counter
    awaits_one counter on lt none = record { goes_on = on; behind = lt; none = sym (fo.waiting on counter lt) ∙ ap (option_map bare_of) none }

    -- ---- one certificate more, which the list does not await

    module _ (counter : ℕ) (m : Bare) where
      abbrev more : ℕ → Option Bare
      more = shown_too first counter m

      abbrev Stays : Type 0
      Stays = Follows s secret host more f l × (IsList s secret host first l → IsList s secret host more l)

      still_ended : f.ended ≡ true → (x : Bare) × (more (length l + 1) ≡ Some x) × (may_follow s secret host l x ≡ false)
      still_ended e = let r = fo.ended e in (r.0, shown_grows first counter m (length l + 1) r.0 r.1, r.2)

      -- since it has ended
      pub ended_stays : f.ended ≡ true → Stays
      ended_stays e = (
        record {
          shape = fo.shape;
          in_order = in_order_more first more (shown_grows first counter m) l fo.in_order;
          led = fo.led;
          gate = λ on. true_false (sym e ∙ on);
          waiting = λ on. true_false (sym e ∙ on);
          kept = fo.kept;
          ended = still_ended;
        },
        λ whole. record {
          in_order = in_order_more first more (shown_grows first counter m) l fo.in_order;
          ends = let r = still_ended e in subst (λ (o : Option Bare). Ends o l) (sym r.1) r.2;
        },
      )

      -- since it is beyond the counter
      pub below_stays : counter ≤ length l → Stays
      below_stays le = (
        record {
          shape = fo.shape;
          in_order = in_order_more first more (shown_grows first counter m) l fo.in_order;
          led = fo.led;
          gate = fo.gate;
          waiting = λ on c lt. fo.waiting on c lt ∙ sym (other_stays first counter m c (λ e. omega (arith, e, le, lt)));
          kept = fo.kept;
          ended = still_ended;
        },
        λ whole. record {
          in_order = in_order_more first more (shown_grows first counter m) l fo.in_order;
          ends = subst (λ (o : Option Bare). Ends o l) (sym (other_stays first counter m (length l + 1) (λ e. omega (arith, e, le)))) whole.ends;
        },
      )

      -- since something is kept there
      pub kept_stays : f.ended ≡ false → length l < counter → (x : Stamped) → get nat_cmp f.waiting counter ≡ Some x → Stays
      kept_stays on lt x is = (
        subst (λ (g : ℕ → Option Bare). Follows s secret host g f l) (sym same) fo,
        λ whole. subst (λ (g : ℕ → Option Bare). IsList s secret host g l) (sym same) whole,
      ) where
        there : first counter ≡ Some (bare_of x)
        there = sym (fo.waiting on counter lt) ∙ ap (option_map bare_of) is

        at : (c : ℕ) → more c ≡ first c
        at c = elim (cases_Bool (eqb counter c)) [
          | inl own ↦
              let here : first c ≡ Some (bare_of x) = subst (λ (n : ℕ). first n ≡ Some (bare_of x)) (eqb-true counter c own) there in
              shown_grows first counter m c (bare_of x) here ∙ sym here
          | inr other ↦ ap (λ b. option_or (first c) (if b then Some m else None)) other ∙ or_none (first c)
        ]

        same : more ≡ first
        same = fun_ext at

    -- ---- one that is kept

    -- a map with one entry more, or without one
    abbrev Puts : BTreeMap ℕ Stamped → ℕ → Option Stamped → Type 0
    Puts waiting n w = (q : ℕ) → get nat_cmp waiting q ≡ cond (is_eq (nat_cmp n q)) w (get nat_cmp f.waiting q)

    own_entry : (waiting : BTreeMap ℕ Stamped) (n : ℕ) (w : Option Stamped) → Puts waiting n w → (q : ℕ) → n ≡ q → get nat_cmp waiting q ≡ w
    own_entry waiting n w puts q e = puts q ∙ ap (λ b. cond b w (get nat_cmp f.waiting q)) (same_order n q e)

    other_entry : (waiting : BTreeMap ℕ Stamped) (n : ℕ) (w : Option Stamped) → Puts waiting n w → (q : ℕ) → (n ≡ q → ⊥) → get nat_cmp waiting q ≡ get nat_cmp f.waiting q
    other_entry waiting n w puts q ne = elim (cases_Bool (is_eq (nat_cmp n q))) [
      | inl same ↦ absurd (ne (same_number n q same))
      | inr other ↦ puts q ∙ ap (λ b. cond b w (get nat_cmp f.waiting q)) other
    ]

    module _ (waiting : BTreeMap ℕ Stamped) where
      pub keeps_one : (m : Stamped) → Puts waiting (ui_of m).counter (Some m) → IsAwaited s secret host first f l (ui_of m).counter → (ui_of m).host ≡ host
          → Follows s secret host (shown_too first (ui_of m).counter (bare_of m)) (record f { waiting = waiting }) l
      keeps_one m puts awaited by = record {
        shape = fo.shape;
        in_order = in_order_more first (shown_too first (ui_of m).counter (bare_of m)) (shown_grows first (ui_of m).counter (bare_of m)) l fo.in_order;
        led = fo.led;
        gate = fo.gate;
        waiting = at;
        kept = kept;
        ended = λ e. true_false (sym e ∙ awaited.goes_on);
      } where
        at : f.ended ≡ false → (c : ℕ) → length l < c → option_map bare_of (get nat_cmp waiting c) ≡ shown_too first (ui_of m).counter (bare_of m) c
        at on c lt = elim (cases_Bool (is_eq (nat_cmp (ui_of m).counter c))) [
          | inl same ↦
              let e : (ui_of m).counter ≡ c = same_number (ui_of m).counter c same in
              ap (option_map bare_of) (own_entry waiting (ui_of m).counter (Some m) puts c e) ∙ sym (own_shown first (ui_of m).counter (bare_of m) awaited.none c e)
          | inr other ↦
              let ne : ((ui_of m).counter ≡ c → ⊥) = λ e. true_false (sym (same_order (ui_of m).counter c e) ∙ other) in
              ap (option_map bare_of) (other_entry waiting (ui_of m).counter (Some m) puts c ne) ∙ fo.waiting on c lt ∙ sym (other_stays first (ui_of m).counter (bare_of m) c ne)
        ]

        kept : (c : ℕ) → IfSome (get nat_cmp waiting c) (IsKeptAt host c)
        kept c = elim (cases_Bool (is_eq (nat_cmp (ui_of m).counter c))) [
          | inl same ↦
              let e : (ui_of m).counter ≡ c = same_number (ui_of m).counter c same in
              subst (λ (o : Option Stamped). IfSome o (IsKeptAt host c)) (sym (own_entry waiting (ui_of m).counter (Some m) puts c e)) (record { by = by; at = e })
          | inr other ↦
              let ne : ((ui_of m).counter ≡ c → ⊥) = λ e. true_false (sym (same_order (ui_of m).counter c e) ∙ other) in
              subst (λ (o : Option Stamped). IfSome o (IsKeptAt host c)) (sym (other_entry waiting (ui_of m).counter (Some m) puts c ne)) (fo.kept c)
        ]

      -- ---- the next one

      module _ (next : ℕ) (is : next ≡ length l + 1) (on : f.ended ≡ false) (puts : Puts waiting next None) where
        others : (c : ℕ) → length l + 1 < c → get nat_cmp waiting c ≡ get nat_cmp f.waiting c
        others c lt = other_entry waiting next None puts c (λ e. omega (arith, is, e, lt))

        kept_behind : (c : ℕ) → IfSome (get nat_cmp waiting c) (IsKeptAt host c)
        kept_behind c = elim (cases_Bool (is_eq (nat_cmp next c))) [
          | inl same ↦ subst (λ (o : Option Stamped). IfSome o (IsKeptAt host c)) (sym (own_entry waiting next None puts c (same_number next c same))) tt
          | inr other ↦
              subst (λ (o : Option Stamped). IfSome o (IsKeptAt host c)) (sym (other_entry waiting next None puts c (λ e. true_false (sym (same_order next c e) ∙ other)))) (fo.kept c)
        ]

        -- none is there
        pub none_next : get nat_cmp f.waiting next ≡ None → Follows s secret host first (record f { waiting = waiting }) l × IsList s secret host first l
        none_next none = (
          record {
            shape = fo.shape;
            in_order = fo.in_order;
            led = fo.led;
            gate = fo.gate;
            waiting = λ o c lt. ap (option_map bare_of) (as_before c) ∙ fo.waiting o c lt;
            kept = kept_behind;
            ended = fo.ended;
          },
          record {
            in_order = fo.in_order;
            ends = subst (λ (o : Option Bare). Ends o l) (sym (sym (fo.waiting on (length l + 1) (omega arith)) ∙ ap (option_map bare_of) (ap (get nat_cmp f.waiting) (sym is) ∙ none))) tt;
          },
        ) where
          as_before : (c : ℕ) → get nat_cmp waiting c ≡ get nat_cmp f.waiting c
          as_before c = elim (cases_Bool (is_eq (nat_cmp next c))) [
            | inl same ↦ let e : next ≡ c = same_number next c same in own_entry waiting next None puts c e ∙ sym (ap (get nat_cmp f.waiting) (sym e) ∙ none)
            | inr other ↦ other_entry waiting next None puts c (λ e. true_false (sym (same_order next c e) ∙ other))
          ]

        module _ (m : Stamped) (there : get nat_cmp f.waiting next ≡ Some m) (gate : Gate) where
          first_there : first (length l + 1) ≡ Some (bare_of m)
          first_there = sym (fo.waiting on (length l + 1) (omega arith)) ∙ ap (option_map bare_of) (ap (get nat_cmp f.waiting) (sym is) ∙ there)

          pub kept_there : IsKeptAt host (length l + 1) m
          kept_there = subst (λ (n : ℕ). IsKeptAt host n m) is (subst (λ (o : Option Stamped). IfSome o (IsKeptAt host next)) there (fo.kept next))

          -- it is taken
          pub takes_next : (led : Vec (Option ℕ)) → led.items ≡ f.led.items ++ led_by (bare_of m) ∷ [] → may_follow s secret host l (bare_of m) ≡ true → Represents gate (log_of s host (bare_of m ∷ l))
              → Follows s secret host first (record f { gate = gate; waiting = waiting; led = led }) (bare_of m ∷ l)
          takes_next led led_is may stands = record {
            shape = fo.shape;
            in_order = (first_there, may, fo.in_order);
            led = led_is ∙ ap (λ (x : List (Option ℕ)). x ++ led_by (bare_of m) ∷ []) fo.led ∙ sym (reverse-append (led_by (bare_of m) ∷ []) (map led_by l));
            gate = λ o. stands;
            waiting = λ o c lt. ap (option_map bare_of) (others c (omega (arith, lt))) ∙ fo.waiting on c (omega (arith, lt));
            kept = kept_behind;
            ended = λ e. true_false (sym e ∙ on);
          }

          -- it may not stand there
          pub refuses_next : may_follow s secret host l (bare_of m) ≡ false
              → Follows s secret host first (record f { gate = gate; waiting = waiting; ended = true }) l × IsList s secret host first l
          refuses_next may = (
            record {
              shape = fo.shape;
              in_order = fo.in_order;
              led = fo.led;
              gate = λ o. true_false o;
              waiting = λ o. true_false o;
              kept = kept_behind;
              ended = λ e. (bare_of m, first_there, may);
            },
            record { in_order = fo.in_order; ends = subst (λ (o : Option Bare). Ends o l) (sym first_there) may },
          )
