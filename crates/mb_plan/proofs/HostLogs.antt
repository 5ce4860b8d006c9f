-- The search for a host's log, and the logs by rising host, step by step.
use Rattle.std.proofs.Common.{◌≡◌, ℕ, suc, ◌+◌, ◌-◌, ◌≤◌, ◌<◌, true, false, List, [], ◌∷◌, ◌++◌, map, drop, slice_get, Option, Some, None, refl, sym, ap, ◌∙◌, inl, inr, arith}
use Rattle.std.specs.Prelude.{◌==◌, filter_map}
use Rattle.std.specs.Option.{option_or}
use Rattle.std.specs.List.{range_with_len, cons_option}
use Rattle.std.proofs.lemmas.Bool.{cases_Bool}
use Rattle.mb_base.specs.Shapes.{host_count}
use Rattle.mb_base.specs.declared.shape.Shape.{Shape}
use Rattle.mb_msg.specs.declared.change.ViewChange.{ViewChange}
use Rattle.mb_model.specs.Plans.{ShownLog, log_of, by_host, opened_view, same_view, of_view}
use Rattle.mb_model.specs.Held.{shown_log, logs_of}
use Rattle.mb_plan.proofs.Folds.{rest_next}

join_log : (x : Option ShownLog) (logs : List ShownLog) (h : ℕ) → log_of (cons_option x logs) h ≡ option_or (log_of (cons_option x []) h) (log_of logs h)
join_log None logs h = refl
join_log (Some l) logs h = elim (cases_Bool (l.host == h)) [ inl at ↦ rw at refl | inr other ↦ rw other refl ]

-- The first VIEW_CHANGE's log is looked at before the others'.
pub log_next : (c : ViewChange) (cs : List ViewChange) (h : ℕ) → log_of (logs_of (c ∷ cs)) h ≡ option_or (log_of (logs_of (c ∷ [])) h) (log_of (logs_of cs) h)
log_next c cs h = join_log (shown_log c) (logs_of cs) h

module _ (cs : List ViewChange) (h i : ℕ) (c : ViewChange) (at : slice_get cs i ≡ Some c) (r : Option ShownLog) (is : r ≡ log_of (logs_of (c ∷ [])) h) where
  one_on : log_of (logs_of (drop i cs)) h ≡ option_or r (log_of (logs_of (drop (i + 1) cs)) h)
  one_on = rest_next (λ l. log_of (logs_of l) h) cs i c at ∙ log_next c (drop (i + 1) cs) h ∙ ap (λ x. option_or x (log_of (logs_of (drop (i + 1) cs)) h)) (sym is)

  pub found_here : (y : ShownLog) → r ≡ Some y → log_of (logs_of (drop i cs)) h ≡ log_of (logs_of cs) h → Some y ≡ log_of (logs_of cs) h
  found_here y e so_far = sym (ap (λ x. option_or x (log_of (logs_of (drop (i + 1) cs)) h)) e) ∙ sym one_on ∙ so_far

  pub found_later : r ≡ None → log_of (logs_of (drop i cs)) h ≡ log_of (logs_of cs) h → log_of (logs_of (drop (i + 1) cs)) h ≡ log_of (logs_of cs) h
  found_later e so_far = sym (ap (λ x. option_or x (log_of (logs_of (drop (i + 1) cs)) h)) e) ∙ sym one_on ∙ so_far

pub pushed : {A B : Type 0} (g : A → B) (l : List A) (x : A) (r : List B) → map g (l ++ x ∷ []) ++ r ≡ map g l ++ (g x ∷ r)
pushed g [] x r = refl
pushed g (y ∷ l) x r = ap (λ t. g y ∷ t) (pushed g l x r)

-- the logs of the hosts from this one on
abbrev pub hosts_from : List ShownLog → ℕ → ℕ → List ShownLog
hosts_from logs n h = filter_map (λ x. log_of logs x) (range_with_len h (n - h))

pub hosts_next : (logs : List ShownLog) (n h : ℕ) → h < n → hosts_from logs n h ≡ cons_option (log_of logs h) (hosts_from logs n (h + 1))
hosts_next logs n h lt =
    let more : n - h ≡ suc (n - (h + 1)) = omega (arith, lt) in
    ap (λ m. filter_map (λ x. log_of logs x) (range_with_len h m)) more

pub hosts_all : (s : Shape) (logs : List ShownLog) → hosts_from logs (host_count s) 0 ≡ by_host s logs
unfolding by_host
hosts_all s logs = let all : host_count s - 0 ≡ host_count s = omega arith in ap (λ m. filter_map (λ h. log_of logs h) (range_with_len 0 m)) all

pub hosts_none : (logs : List ShownLog) (n h : ℕ) → n ≤ h → hosts_from logs n h ≡ []
hosts_none logs n h le = let none : n - h ≡ 0 = omega (arith, le) in ap (λ m. filter_map (λ x. log_of logs x) (range_with_len h m)) none

pub is_kept : (u : Option ℕ) (x : ShownLog) (l : List ShownLog) → same_view (opened_view x) u ≡ true → of_view u (x ∷ l) ≡ x ∷ of_view u l
is_kept u x l e = rw e refl

pub is_left_out : (u : Option ℕ) (x : ShownLog) (l : List ShownLog) → same_view (opened_view x) u ≡ false → of_view u (x ∷ l) ≡ of_view u l
is_left_out u x l e = rw e refl
