-- How many of the hosts have a property, as a scan of the list of their votes.
use Rattle.std.proofs.Common.{◌≡◌, ℕ, zero, suc, ◌+◌, ◌≤◌, Bool, false, cond, List, [], ◌∷◌, get_or, length, Option, Some, None, refl, subst, ◌<◌, ◌-◌, sym, ap, ◌∙◌, arith, if◌then◌else◌}
use Rattle.std.specs.Prelude.{count_by}
use Rattle.std.proofs.lemmas.List.Sums.{sum_by-cons}
use Rattle.std.specs.Prelude.{slice_get}
use Rattle.std.proofs.lemmas.Bool.{lt-leb}
use Rattle.mb_base.specs.declared.shape.Shape.{Shape}
use Rattle.mb_base.specs.Shapes.{tally, host_count, quorum}
use Rattle.mb_model.specs.declared.known.Vote.{Vote}
use Rattle.mb_model.specs.Votes.{is_vote}
use Rattle.mb_steps.proofs.StepPotential.{tally_same}
use Rattle.mb_window.specs.Places.{item_at, flat}
use Rattle.mb_votes.specs.declared.votes.Votes.{Votes}
use Rattle.mb_votes.specs.Ballots.{Ballots, kept_in, vote_at}
use Rattle.mb_votes.specs.Votes.{Represents, matching, Agrees}

-- the first host apart
pub tally_first : (p : ℕ → Bool) (n : ℕ) → tally p (suc n) ≡ (if p 0 then 1 else 0) + tally (λ h. p (suc h)) n
tally_first p zero = refl
tally_first p (suc n) = let rest = tally_first p n in omega (arith, rest)

tally_none : (p : ℕ → Bool) (n : ℕ) → ((h : ℕ) → p h ≡ false) → tally p n ≡ 0
tally_none p zero none = refl
tally_none p (suc n) none = rw (none n, tally_none p n none) refl

abbrev one : Bool → ℕ
one b = cond b 1 0

-- where none at or behind the last host has one
pub tally_is_count : {A : Type 0} (f : Option A → Bool) → f None ≡ false → (votes : List (Option A)) (n : ℕ) → ((h : ℕ) → n ≤ h → get_or votes h None ≡ None) → tally (λ h. f (get_or votes h None)) n ≡ count_by f votes
tally_is_count f none [] n past = tally_none (λ h. f None) n (λ h. none)
tally_is_count f none (v ∷ vs) zero past =
    let here : one (f v) ≡ 0 = ap (λ o. one (f o)) (past 0 (omega arith)) ∙ ap one none in
    let rest = tally_is_count f none vs zero (λ h le. past (suc h) (omega arith)) in
    let sum = sum_by-cons (λ o. one (f o)) v vs in
    omega (arith, here, rest, sum)
tally_is_count f none (v ∷ vs) (suc n) past =
    let first = tally_first (λ h. f (get_or (v ∷ vs) h None)) n in
    let rest = tally_is_count f none vs n (λ h le. past (suc h) (omega (arith, le))) in
    let sum = sum_by-cons (λ o. one (f o)) v vs in
    omega (arith, first, rest, sum)

-- ---- as a scan of what a table holds

-- of the ballot of a position
pub scan : (b : Ballots) (pos n : ℕ) (votes : List (Option Vote)) (f : Option Vote → Bool) → f None ≡ false → item_at b pos ≡ Some votes → ((h p : ℕ) → n ≤ h → vote_at b h p ≡ None)
    → tally (λ h. f (vote_at b h pos)) n ≡ count_by f votes
scan b pos n votes f none here past =
    ap (λ o. tally (λ h. f (kept_in o h)) n) here
    ∙ tally_is_count f none votes n (λ h le. sym (ap (λ o. kept_in o h) here) ∙ past h pos le)

-- where there is no ballot
pub scan_nothing : (b : Ballots) (pos n : ℕ) (f : Option Vote → Bool) → f None ≡ false → item_at b pos ≡ None → tally (λ h. f (vote_at b h pos)) n ≡ 0
scan_nothing b pos n f none here = ap (λ o. tally (λ h. f (kept_in o h)) n) here ∙ tally_none (λ h. f None) n (λ h. none)

-- of what the search finds that the table stands for
pub scan_found : (s : Shape) (t : Votes) (low : ℕ) (search : ℕ → ℕ → Option Vote) (p : ℕ) (f : Option Vote → Bool) → Represents s t low search
    → tally (λ h. f (vote_at t.ballots h p)) (host_count t.shape) ≡ tally (λ h. f (search h p)) (host_count s)
scan_found s t low search p f st =
    ap (λ (x : Shape). tally (λ h. f (vote_at t.ballots h p)) (host_count x)) st.shape_is
    ∙ tally_same (λ h. f (vote_at t.ballots h p)) (λ h. f (search h p)) (host_count s) (λ h. ap f (st.finds h p))

-- ---- agreement

module _ (s : Shape) (t : Votes) (low : ℕ) (search : ℕ → ℕ → Option Vote) (st : Represents s t low search) (p : ℕ) where
  quorum_is : quorum t.shape ≡ quorum s
  quorum_is = ap quorum st.shape_is

  pub agrees_found : Agrees t.shape (vote_at t.ballots) p → Agrees s search p
  agrees_found a = (a.0, let found = scan_found s t low search p (λ o. is_vote o a.0) st in let same = quorum_is in let enough = a.1 in subst (λ n. quorum s ≤ n) found (subst (λ q. q ≤ matching t.shape (vote_at t.ballots) p a.0) same enough))

  pub found_agrees : Agrees s search p → Agrees t.shape (vote_at t.ballots) p
  found_agrees a = (a.0, let found = scan_found s t low search p (λ o. is_vote o a.0) st in let same = quorum_is in let enough = a.1 in subst (λ n. quorum t.shape ≤ n) (sym found) (subst (λ q. q ≤ matching s search p a.0) (sym same) enough))

-- nobody agrees where there is no ballot
pub nobody_agrees : (s : Shape) (b : Ballots) (p : ℕ) → item_at b p ≡ None → Agrees s (vote_at b) p → ⊥
nobody_agrees s b p none a = let zero_count = scan_nothing b p (host_count s) (λ o. is_vote o a.0) refl none in let enough = a.1 in omega (arith, zero_count, enough)

past_end : {X : Type 0} (xs : List X) (i : ℕ) → length xs ≤ i → slice_get xs i ≡ None
past_end [] i le = refl
past_end (x ∷ xs) zero le = absurd (omega arith)
past_end (x ∷ xs) (suc i) le = past_end xs i (omega (arith, le))

-- as at or below the low end, and above the window
pub beyond : (b : Ballots) (p : ℕ) → b.low + length b.items < p → item_at b p ≡ None
beyond b p over = rw (lt-leb p b.low (omega (arith, over))) (ap flat (past_end b.items (p - b.low - 1) (omega (arith, over))))
