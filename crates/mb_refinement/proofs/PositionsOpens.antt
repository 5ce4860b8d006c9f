-- The votes of OPENs are counted host by host and position by position, behind a NEW_VIEW, an OPEN of another host and the own VIEW_CHANGE; and the own
-- OPEN makes slots and own votes, position by position. Each step says what the tables stand for then, so that a loop's invariant is what was counted.
use Rattle.std.proofs.Common.{◌≡◌, ℕ, zero, suc, ◌+◌, ◌-◌, ◌*◌, ◌<◌, ◌≤◌, Bool, true, false, ◌&&◌, ◌||◌, not, List, [], ◌∷◌, map, refl, sym, ap, ◌∙◌, subst, inl, inr, ◌⊎◌, arith, Option, Some, None, length}
use Rattle.std.specs.Prelude.{◌==◌, nat_lt, nat_le, if◌then◌else◌, option_map, option_and_then, slice_get}
use Rattle.std.specs.Option.{option_or}
use Rattle.std.proofs.lemmas.Bool.{cases_Bool, and_parts, eq-eqb, ne_eqb, eqb-true, eqb-false, ltb-true, ltb-false, leb-true, leb-false, lt-ltb, le-leb, lt-leb}
use Rattle.std.proofs.lemmas.Option.{slice_get-map}
use Rattle.mb_base.specs.declared.shape.Shape.{Shape}
use Rattle.mb_base.specs.Shapes.{max_faults, host_count, interval, span}
use Rattle.mb_usig.specs.Tags.{same_bytes}
use Rattle.mb_parts.specs.declared.batch.Batch.{Batch}
use Rattle.mb_parts.specs.declared.certificates.Evidence.{Evidence}
use Rattle.mb_parts.specs.declared.certificates.StableCert.{StableCert}
use Rattle.mb_parts.specs.Bares.{batch_digest}
use Rattle.mb_msg.specs.declared.message.Message.TheVariants as message
use Rattle.mb_msg.specs.declared.change.NewView.{NewView}
use Rattle.mb_msg.specs.declared.change.ViewChange.{ViewChange}
use Rattle.mb_msg.specs.declared.change.Open.{Open}
use Rattle.mb_msg.specs.declared.change.OpenBody.{OpenBody}
use Rattle.mb_msg.specs.declared.change.Plan.{Plan}
use Rattle.mb_msg.specs.declared.stamped.Stamped.{Stamped as StampedMessage}
use Rattle.mb_msg.specs.declared.stamped.Stamped.TheVariants as stamped
use Rattle.mb_msg.specs.Bodies.{whole_body}
use Rattle.mb_msg.specs.Plans.{plan_digest}
use Rattle.mb_model.specs.declared.known.Vote.{Vote}
use Rattle.mb_model.specs.declared.known.KnownSlot.{KnownSlot}
use Rattle.mb_model.specs.Histories.{Entry, Accepted, Stamped, History, Identity, view_of}
use Rattle.mb_model.specs.Held.{opened_by, plan_at, plan_held, plan_in_new_view, plan_in_open, gives_plan, is_current, new_view_of, new_view_in_view, evidence_of, evidence_in, evidence_view, evidence_with, evidence_for, enters_for}
use Rattle.mb_model.specs.EnabledRules.{Rule, Open as OpenAt, is_evidence_of, open_with, open_enabled}
use Rattle.mb_model.proofs.Options.{if_some, or_some}
use Rattle.mb_model.specs.Stable.{low_of, stable_of, further, plan_base}
use Rattle.mb_model.specs.Positions.{position_limit, in_window, vote_at, slot_vote, batch_from, slot_of_plan, slot_of_open, open_vote, counts_opens}
use Rattle.mb_model.proofs.Options.{or_nothing}
use Rattle.mb_steps.specs.Arises.{Arises}
use Rattle.mb_steps.proofs.StepPotential.{not_above}
use Rattle.mb_history_laws.specs.Speaks.{changes_view, speaks_of_slots, speaks_of_requests, speaks_of_checkpoints, speaks_of_opened}
use Rattle.mb_history_laws.proofs.Framing.{checkpoints_stay, low_stays, requests_stay, opened_stays}
use Rattle.mb_history_laws.proofs.Voted.{slot_raised, opens_counted, slot_emptied, vote_emptied, own_open_slots, own_open_votes}
use Rattle.mb_history_laws.proofs.Certified.{stable_of_plan, own_stable_of_plan, stable_of_opened}
use Rattle.mb_change.specs.Searches.{opened_in}
use Rattle.mb_normal.specs.declared.normal.Normal.{Normal}
use Rattle.mb_normal.specs.Searches.{Searches, searches_in, above_low, without_votes}
use Rattle.mb_normal.specs.Tables.{Represents, Becomes}
use Rattle.mb_refinement.specs.Positions.{Alike, has_place, with_first_slot, with_first_vote, PutsSlot, CountsVote, Learns, counting, hosts_below, positions_to, AreOpens, is_open_of, open_votes, open_slots, above_raise, carrying, up_to}
use Rattle.mb_refinement.specs.Stands.{NormalStands}
use Rattle.mb_refinement.proofs.Positions.{strictly, nothing_if, stands_alike, raised_where_above}
use Rattle.mb_refinement.proofs.PositionsVoted.{positions_alone}

-- ---- over plain values

-- Positions up to the next are those up to the last, and the next.
next_most : (p last : ℕ) → (p == last + 1) ≡ false → nat_le p (last + 1) ≡ nat_le p last
next_most p last other = elim (cases_Bool (nat_le p last)) [
  | inl most ↦ rw (most, le-leb p (last + 1) (let le = leb-true p last most in omega (arith, le))) refl
  | inr more ↦ rw (more, lt-leb p (last + 1) (strictly p (last + 1) (eqb-false p (last + 1) other) (let lt = leb-false p last more in omega (arith, lt)))) refl
]

-- So are hosts.
next_less : (h host : ℕ) → (h == host) ≡ false → nat_lt h (host + 1) ≡ nat_lt h host
next_less h host other = elim (cases_Bool (nat_lt h host)) [
  | inl less ↦ rw (less, lt-ltb h (host + 1) (let lt = ltb-true h host less in omega (arith, lt))) refl
  | inr ge ↦ rw (ge, not_above h (host + 1) (let more = strictly h host (eqb-false h host other) (ltb-false h host ge) in omega (arith, more))) refl
]

or_no : (b : Bool) → (b || false) ≡ b
or_no true = refl
or_no false = refl

or_yes : (b : Bool) → (b || true) ≡ true
or_yes true = refl
or_yes false = refl

module _ {A : Type 0} where
  -- what has a place is counted, and nothing elsewhere
  placed : (b : Bool) (x : A) → (if b && true then Some x else None) ≡ (if b then Some x else None)
  placed true x = refl
  placed false x = refl

  unplaced : (b : Bool) (x : A) (o : Option A) → option_or o (if b && false then Some x else None) ≡ o
  unplaced true x o = or_nothing o
  unplaced false x o = or_nothing o

  -- a list ends
  past : (l : List A) (i : ℕ) → length l ≤ i → slice_get l i ≡ None
  past [] zero le = refl
  past [] (suc i) le = refl
  past (x ∷ l) zero le = absurd (omega (arith, le))
  past (x ∷ l) (suc i) le = past l i (omega (arith, le))

  -- the one that was found is counted now
  now_counted : (old found : Option A) (fits : Bool) (x : A) → found ≡ (if fits then Some x else None) → option_or (option_or old None) (if fits then Some x else None) ≡ option_or old found
  now_counted old found fits x is = ap (λ o. option_or o (if fits then Some x else None)) (or_nothing old) ∙ ap (option_or old) (sym is)

-- ---- votes that are found, counted host by host and position by position

module _ (s : Shape) (own : ℕ) (x : Searches) (found : ℕ → ℕ → Option Vote) where
  -- what is counted makes no difference where nothing is found
  count_alike : (b c : ℕ → ℕ → Bool) → ((h p : ℕ) → (b h p ≡ c h p) ⊎ (found h p ≡ None)) → Alike s (counting x found b) (counting x found c)
  count_alike b c same = record {
    low = refl;
    slots = λ p. refl;
    votes = λ h p. by_case h p (same h p);
    pending = λ c lt. refl;
    checkpoints = λ h n lt le. refl;
  } where
    by_case : (h p : ℕ) → (b h p ≡ c h p) ⊎ (found h p ≡ None) → option_or (x.votes h p) (if c h p then found h p else None) ≡ option_or (x.votes h p) (if b h p then found h p else None)
    by_case h p (inl e) = ap (λ t. option_or (x.votes h p) (if t then found h p else None)) (sym e)
    by_case h p (inr none) = ap (option_or (x.votes h p)) (nothing_if (c h p) (found h p) none ∙ sym (nothing_if (b h p) (found h p) none))

  -- No host was counted yet.
  pub counting_begins : (t : Normal) → Represents s own t x → Represents s own t (counting x found (hosts_below 0))
  counting_begins t st = stands_alike s own t x (counting x found (hosts_below 0)) st (record {
    low = refl;
    slots = λ p. refl;
    votes = λ h p. ap (λ b. option_or (x.votes h p) (if b then found h p else None)) (not_above h 0 (omega arith)) ∙ or_nothing (x.votes h p);
    pending = λ c lt. refl;
    checkpoints = λ h n lt le. refl;
  })

  -- Nothing is found of a host.
  pub host_passed : (t : Normal) (host : ℕ) → ((p : ℕ) → found host p ≡ None) → Represents s own t (counting x found (hosts_below host)) → Represents s own t (counting x found (hosts_below (host + 1)))
  host_passed t host none st =
      stands_alike s own t (counting x found (hosts_below host)) (counting x found (hosts_below (host + 1))) st (count_alike (hosts_below host) (hosts_below (host + 1)) (λ h p. elim (cases_Bool (h == host)) [
        | inl same ↦ inr (ap (λ g. found g p) (eqb-true h host same) ∙ none p)
        | inr other ↦ inl (sym (next_less h host other))
      ]))

  -- A host's positions are counted from this one on: none is found up to it.
  pub host_begins : (t : Normal) (host base : ℕ) → ((p : ℕ) → p ≤ base → found host p ≡ None) → Represents s own t (counting x found (hosts_below host)) → Represents s own t (counting x found (positions_to host base))
  host_begins t host base none st =
      stands_alike s own t (counting x found (hosts_below host)) (counting x found (positions_to host base)) st (count_alike (hosts_below host) (positions_to host base) (λ h p. by_host h p (cases_Bool (h == host)) (cases_Bool (nat_le p base)))) where
        by_host : (h p : ℕ) → ((h == host) ≡ true) ⊎ ((h == host) ≡ false) → (nat_le p base ≡ true) ⊎ (nat_le p base ≡ false) → (nat_lt h host ≡ (nat_lt h host || (h == host && nat_le p base))) ⊎ (found h p ≡ None)
        by_host h p (inl same) (inl most) = inr (ap (λ g. found g p) (eqb-true h host same) ∙ none p (leb-true p base most))
        by_host h p (inl same) (inr more) = inl (rw (same, more) (sym (or_no (nat_lt h host))))
        by_host h p (inr other) m = inl (rw other (sym (or_no (nat_lt h host))))

  -- The next position was counted: the vote that is found there, if it has a place.
  pub position_counted : (t new : Normal) (host last : ℕ) (vote : Vote) → found host (last + 1) ≡ (if has_place s x (last + 1) then Some vote else None) → CountsVote t new (last + 1) host vote
      → Represents s own t (counting x found (positions_to host last)) → Represents s own new (counting x found (positions_to host (last + 1)))
  position_counted t new host last vote is counts st =
      stands_alike s own new (with_first_vote s (counting x found (positions_to host last)) (last + 1) host vote) (counting x found (positions_to host (last + 1))) (counts s own (counting x found (positions_to host last)) st) (record {
        low = refl;
        slots = λ p. refl;
        votes = λ h p. sym (by_place h p (cases_Bool (h == host)) (cases_Bool (p == last + 1)));
        pending = λ c lt. refl;
        checkpoints = λ h n lt le. refl;
      }) where
        here_now : (h p : ℕ) → h ≡ host → p ≡ last + 1
            → option_or (option_or (x.votes h p) (if nat_lt h host || (h == host && nat_le p last) then found h p else None)) (if has_place s x (last + 1) && (p == last + 1 && h == host) then Some vote else None)
            ≡ option_or (x.votes h p) (if nat_lt h host || (h == host && nat_le p (last + 1)) then found h p else None)
        here_now h p same at =
            rw (same, at, not_above host host (omega arith), eq-eqb host host refl, eq-eqb (last + 1) (last + 1) refl, lt-leb (last + 1) last (omega arith), le-leb (last + 1) (last + 1) (omega arith), placed (has_place s x (last + 1)) vote)
            (now_counted (x.votes host (last + 1)) (found host (last + 1)) (has_place s x (last + 1)) vote is)

        by_place : (h p : ℕ) → ((h == host) ≡ true) ⊎ ((h == host) ≡ false) → ((p == last + 1) ≡ true) ⊎ ((p == last + 1) ≡ false)
            → option_or (option_or (x.votes h p) (if nat_lt h host || (h == host && nat_le p last) then found h p else None)) (if has_place s x (last + 1) && (p == last + 1 && h == host) then Some vote else None)
            ≡ option_or (x.votes h p) (if nat_lt h host || (h == host && nat_le p (last + 1)) then found h p else None)
        by_place h p (inl same) (inl here) = here_now h p (eqb-true h host same) (eqb-true p (last + 1) here)
        by_place h p (inl same) (inr other) =
            rw (same, other, next_most p last other) (unplaced (has_place s x (last + 1)) vote (option_or (x.votes h p) (if nat_lt h host || nat_le p last then found h p else None)))
        by_place h p (inr other) (inl here) = rw (other, here) (unplaced (has_place s x (last + 1)) vote (option_or (x.votes h p) (if nat_lt h host || false then found h p else None)))
        by_place h p (inr other) (inr there) = rw (other, there) (unplaced (has_place s x (last + 1)) vote (option_or (x.votes h p) (if nat_lt h host || false then found h p else None)))

  -- Nothing is found at the next position.
  pub position_passed : (t : Normal) (host last : ℕ) → found host (last + 1) ≡ None → Represents s own t (counting x found (positions_to host last)) → Represents s own t (counting x found (positions_to host (last + 1)))
  position_passed t host last none st =
      stands_alike s own t (counting x found (positions_to host last)) (counting x found (positions_to host (last + 1))) st
      (count_alike (positions_to host last) (positions_to host (last + 1)) (λ h p. by_place h p (cases_Bool (h == host)) (cases_Bool (p == last + 1)))) where
        by_place : (h p : ℕ) → ((h == host) ≡ true) ⊎ ((h == host) ≡ false) → ((p == last + 1) ≡ true) ⊎ ((p == last + 1) ≡ false)
            → ((nat_lt h host || (h == host && nat_le p last)) ≡ (nat_lt h host || (h == host && nat_le p (last + 1)))) ⊎ (found h p ≡ None)
        by_place h p (inl same) (inl here) = inr (ap (λ g. found g p) (eqb-true h host same) ∙ ap (found host) (eqb-true p (last + 1) here) ∙ none)
        by_place h p m (inr there) = inl (ap (λ b. nat_lt h host || (h == host && b)) (sym (next_most p last there)))
        by_place h p (inr other) m = inl (rw other refl)

  -- A host's positions were counted: none is found behind the last.
  pub host_ends : (t : Normal) (host last : ℕ) → ((p : ℕ) → last < p → found host p ≡ None) → Represents s own t (counting x found (positions_to host last)) → Represents s own t (counting x found (hosts_below (host + 1)))
  host_ends t host last none st =
      stands_alike s own t (counting x found (positions_to host last)) (counting x found (hosts_below (host + 1))) st
      (count_alike (positions_to host last) (hosts_below (host + 1)) (λ h p. by_place h p (cases_Bool (h == host)) (cases_Bool (nat_le p last)))) where
        by_place : (h p : ℕ) → ((h == host) ≡ true) ⊎ ((h == host) ≡ false) → (nat_le p last ≡ true) ⊎ (nat_le p last ≡ false) → ((nat_lt h host || (h == host && nat_le p last)) ≡ nat_lt h (host + 1)) ⊎ (found h p ≡ None)
        by_place h p (inl same) (inr more) = inr (ap (λ g. found g p) (eqb-true h host same) ∙ none p (leb-false p last more))
        by_place h p (inl same) (inl most) = inl (rw (same, most) (or_yes (nat_lt h host) ∙ sym (lt-ltb h (host + 1) (let at = eqb-true h host same in omega (arith, at)))))
        by_place h p (inr other) m = inl (rw other (or_no (nat_lt h host) ∙ sym (next_less h host other)))

  -- All were counted: nothing is found of hosts that there are not.
  pub counting_ends : (t : Normal) (n : ℕ) → ((h p : ℕ) → n ≤ h → found h p ≡ None) → Represents s own t (counting x found (hosts_below n)) → Represents s own t (counting x found (λ h p. true))
  counting_ends t n none st =
      stands_alike s own t (counting x found (hosts_below n)) (counting x found (λ h p. true)) st (count_alike (hosts_below n) (λ h p. true) (λ h p. elim (cases_Bool (nat_lt h n)) [
        | inl less ↦ inl less
        | inr ge ↦ inr (none h p (ltb-false h n ge))
      ]))

module _ {S : Type 0} (self : Identity S) where
  -- A position of the window is not above the greatest of all,
  pub window_in_limit : (d : History) (p : ℕ) → in_window self d p ≡ true → nat_le p position_limit ≡ true
  window_in_limit d p e = (and_parts (nat_le p (low_of self d + span self.shape)) (nat_le p position_limit) (and_parts (nat_lt (low_of self d) p) (nat_le p (low_of self d + span self.shape) && nat_le p position_limit) e).1).1

  -- and such a one lies in the window where the tables have a place for it.
  place_in_window : (d : History) (x : Searches) (p : ℕ) → x.low ≡ low_of self d → nat_le p position_limit ≡ true → in_window self d p ≡ has_place self.shape x p
  place_in_window d x p low most = rw (low, most) (ap (λ b. nat_lt (low_of self d) p && b) (and_true (nat_le p (low_of self d + span self.shape)))) where
    and_true : (b : Bool) → (b && true) ≡ b
    and_true true = refl
    and_true false = refl

  -- Outside of the window nothing counts.
  pub no_vote_outside : (d : History) (h p : ℕ) → in_window self d p ≡ false → open_votes self d h p ≡ None
  no_vote_outside d h p out = ap (λ b. if b then open_vote (opened_by d h) (plan_at self d (view_of self d)) (view_of self d) p else None) out

  pub no_slot_outside : (m : Open) (d : History) (p : ℕ) → in_window self d p ≡ false → open_slots self m d p ≡ None
  no_slot_outside m d p out = ap (λ b. if b then slot_of_open m (view_of self d) p else None) out

-- ---- the votes of OPENs in a history

-- OPENs are of hosts that there are, and of views above the first: so it begins, and an OPEN that came so keeps it so.
pub opens_begin : (s : Shape) → AreOpens s []
unfolding opened_by
opens_begin s h e is = absurd cc

pub opens_stay : (s : Shape) (e : Entry) (d : History) → speaks_of_opened e ≡ false → AreOpens s d → AreOpens s (e ∷ d)
opens_stay s e d says are h o is = are h o (sym (opened_stays e d h says) ∙ is)

pub opens_more : (s : Shape) (m : Open) (d : History) → m.ui.host < host_count s → 1 ≤ m.evidence.view → AreOpens s d → AreOpens s (Accepted (message.Open m) ∷ d)
unfolding opened_by
opens_more s m d host view are h o is = elim (cases_Bool (m.ui.host == h)) [
  | inr other ↦ are h o (rw other at is)
  | inl same ↦ let this : m.evidence ≡ o = cc (rw same at is) in (subst (λ g. g < host_count s) (eqb-true m.ui.host h same) host, subst (λ (y : Evidence). 1 ≤ y.view) this view)
]

module _ {S : Type 0} (self : Identity S) where
  none_without : (o : Option Evidence) (v p : ℕ) → open_vote o None v p ≡ None
  none_without None v p = refl
  none_without (Some e) v p = refl

  -- Without a plan none counts.
  pub no_plan : (d : History) → plan_at self d (view_of self d) ≡ None → (h p : ℕ) → open_votes self d h p ≡ None
  no_plan d none h p =
      nothing_if (in_window self d p) (open_vote (opened_by d h) (plan_at self d (view_of self d)) (view_of self d) p)
      (ap (λ o. open_vote (opened_by d h) o (view_of self d) p) none ∙ none_without (opened_by d h) (view_of self d) p)

  -- Hosts that there are not have none.
  pub no_host : (d : History) → AreOpens self.shape d → (h p : ℕ) → host_count self.shape ≤ h → open_votes self d h p ≡ None
  no_host d are h p beyond =
      nothing_if (in_window self d p) (open_vote (opened_by d h) (plan_at self d (view_of self d)) (view_of self d) p) (ap (λ o. open_vote o (plan_at self d (view_of self d)) (view_of self d) p) (none (opened_by d h) refl) ∙ empty (plan_at self d (view_of self d))) where
        none : (o : Option Evidence) → opened_by d h ≡ o → o ≡ None
        none None e = refl
        none (Some y) e = let lt = (are h y e).0 in absurd (omega (arith, lt, beyond))

        empty : (q : Option Plan) → open_vote None q (view_of self d) p ≡ None
        empty None = refl
        empty (Some q) = refl

  module _ (d : History) (plan : Plan) (held : plan_at self d (view_of self d) ≡ Some plan) (h : ℕ) where
    -- the vote for the batch at a position of the plan
    abbrev vote_in_plan : ℕ → ℕ → Option Vote
    vote_in_plan counter p = option_map (λ b. record { counter = counter; request = batch_digest b }) (batch_from plan.base.pos p plan.batches)

    -- An OPEN of another view or of another plan doesn't count.
    pub not_of_plan : AreOpens self.shape d → is_open_of (view_of self d) plan (opened_in (opened_by d h)) ≡ false → (p : ℕ) → open_votes self d h p ≡ None
    not_of_plan are other p =
        nothing_if (in_window self d p) (open_vote (opened_by d h) (plan_at self d (view_of self d)) (view_of self d) p)
        (ap (λ o. open_vote (opened_by d h) o (view_of self d) p) held ∙ by_opened (opened_by d h) refl (λ e. ap (λ o. is_open_of (view_of self d) plan (opened_in o)) (sym e) ∙ other)) where
          by_opened : (o : Option Evidence) → opened_by d h ≡ o → (opened_by d h ≡ o → is_open_of (view_of self d) plan (opened_in o) ≡ false) → open_vote o (Some plan) (view_of self d) p ≡ None
          by_opened None e differs = refl
          by_opened (Some y) e differs =
              let some_view : (y.view == 0) ≡ false = ne_eqb y.view 0 (λ zero_view. let least = (are h y e).1 in omega (arith, least, zero_view)) in
              let apart : (y.view == view_of self d && same_bytes (plan_digest plan) y.plan) ≡ false = ap (λ b. not b && (y.view == view_of self d && same_bytes (plan_digest plan) y.plan)) (sym some_view) ∙ differs e in
              rw apart refl

    -- One of this view and of the plan is a vote for each position of the plan that lies in the window.
    pub of_plan : is_open_of (view_of self d) plan (opened_in (opened_by d h)) ≡ true → (p : ℕ) → open_votes self d h p ≡ (if in_window self d p then vote_in_plan (opened_in (opened_by d h)).counter p else None)
    of_plan this p =
        ap (λ (o : Option Vote). if in_window self d p then o else None) (ap (λ o. open_vote (opened_by d h) o (view_of self d) p) held ∙ by_opened (opened_by d h) this) where
          by_opened : (o : Option Evidence) → is_open_of (view_of self d) plan (opened_in o) ≡ true → open_vote o (Some plan) (view_of self d) p ≡ vote_in_plan (opened_in o).counter p
          by_opened None same = absurd cc
          by_opened (Some y) same = rw (and_parts (not (y.view == 0)) (y.view == view_of self d && same_bytes (plan_digest plan) y.plan) same).1 refl

    module _ (this : is_open_of (view_of self d) plan (opened_in (opened_by d h)) ≡ true) where
      no_vote : (p : ℕ) → batch_from plan.base.pos p plan.batches ≡ None → open_votes self d h p ≡ None
      no_vote p none = of_plan this p ∙ nothing_if (in_window self d p) (vote_in_plan (opened_in (opened_by d h)).counter p) (ap (option_map (λ b. record { counter = (opened_in (opened_by d h)).counter; request = batch_digest b })) none)

      -- none up to its base,
      pub none_to_base : (p : ℕ) → p ≤ plan.base.pos → open_votes self d h p ≡ None
      none_to_base p le = no_vote p (ap (λ b. if b then slice_get plan.batches (p - plan.base.pos - 1) else None) (not_above plan.base.pos p le))

      -- none behind its end,
      pub none_behind : (p : ℕ) → plan.base.pos + length plan.batches < p → open_votes self d h p ≡ None
      none_behind p lt = no_vote p (nothing_if (nat_lt plan.base.pos p) (slice_get plan.batches (p - plan.base.pos - 1)) (past plan.batches (p - plan.base.pos - 1) (omega (arith, lt))))

      -- and at each position between, for the batch there
      pub vote_there : (i : ℕ) (digest : List ℕ) → slice_get (map batch_digest plan.batches) i ≡ Some digest
          → open_votes self d h (plan.base.pos + i + 1) ≡ (if in_window self d (plan.base.pos + i + 1) then Some (record { counter = (opened_in (opened_by d h)).counter; request = digest }) else None)
      vote_there i digest is = of_plan this (plan.base.pos + i + 1) ∙ ap (λ (o : Option Vote). if in_window self d (plan.base.pos + i + 1) then o else None) at where
        counter : ℕ
        counter = (opened_in (opened_by d h)).counter

        vote_for : List ℕ → Vote
        vote_for digest = record { counter = counter; request = digest }

        behind_base : nat_lt plan.base.pos (plan.base.pos + i + 1) ≡ true
        behind_base = lt-ltb plan.base.pos (plan.base.pos + i + 1) (omega arith)

        index : plan.base.pos + i + 1 - plan.base.pos - 1 ≡ i
        index = omega arith

        with_digest : (o : Option Batch) → option_map batch_digest o ≡ Some digest → option_map (λ b. vote_for (batch_digest b)) o ≡ Some (vote_for digest)
        with_digest None e = absurd cc
        with_digest (Some b) e = ap (option_map vote_for) e

        at : option_map (λ b. vote_for (batch_digest b)) (batch_from plan.base.pos (plan.base.pos + i + 1) plan.batches) ≡ Some (vote_for digest)
        at = ap (λ b. option_map (λ x. vote_for (batch_digest x)) (if b then slice_get plan.batches (plan.base.pos + i + 1 - plan.base.pos - 1) else None)) behind_base
            ∙ with_digest (slice_get plan.batches (plan.base.pos + i + 1 - plan.base.pos - 1)) (ap (λ j. option_map batch_digest (slice_get plan.batches j)) index ∙ sym (slice_get-map batch_digest plan.batches i) ∙ is)

      -- as a step of the count asks it
      pub vote_with_place : (x : Searches) (i : ℕ) (digest : List ℕ) → x.low ≡ low_of self d → nat_le (plan.base.pos + i + 1) position_limit ≡ true → slice_get (map batch_digest plan.batches) i ≡ Some digest
          → open_votes self d h (plan.base.pos + i + 1) ≡ (if has_place self.shape x (plan.base.pos + i + 1) then Some (record { counter = (opened_in (opened_by d h)).counter; request = digest }) else None)
      vote_with_place x i digest low most is =
          vote_there i digest is
          ∙ ap (λ b. if b then Some (record { counter = (opened_in (opened_by d h)).counter; request = digest }) else None) (place_in_window self d x (plan.base.pos + i + 1) low most)

  -- ---- behind an entry: the raise comes first, and then all OPENs are counted

  raised_for : (e : Entry) (d : History) (c : Option StableCert) (t new : Normal) → stable_of self (e ∷ d) ≡ further (stable_of self d) c → Learns (stable_of self d) c t new → NormalStands self t d
      → Represents self.shape self.host new (above_raise self e d)
  raised_for e d c t new is learns st =
      subst (λ (y : StableCert). Represents self.shape self.host new (above_low (searches_in self d) y.pos)) (sym is) (raised_where_above self.shape self.host t (searches_in self d) st new (stable_of self d) c refl learns)

  -- What is learnt is the certificate of the base of a plan that comes to be held.
  pub new_view_raised : (m : NewView) (d : History) (t new : Normal) → Learns (stable_of self d) (plan_base (if is_current self d m.view then plan_in_new_view self m else None)) t new → NormalStands self t d
      → Represents self.shape self.host new (above_raise self (Accepted (message.NewView m)) d)
  new_view_raised m d t new learns st = raised_for (Accepted (message.NewView m)) d (plan_base (if is_current self d m.view then plan_in_new_view self m else None)) t new (stable_of_plan self m d) learns st

  pub own_new_view_raised : (m : NewView) (d : History) (t new : Normal) → Learns (stable_of self d) (plan_base (plan_in_new_view self m)) t new → NormalStands self t d
      → Represents self.shape self.host new (above_raise self (Stamped (stamped.NewView m)) d)
  own_new_view_raised m d t new learns st = raised_for (Stamped (stamped.NewView m)) d (plan_base (plan_in_new_view self m)) t new (own_stable_of_plan self m d) learns st

  pub open_raised : (m : Open) (d : History) (t new : Normal) → Learns (stable_of self d) (plan_base (if gives_plan self d (plan_held self d) m.evidence then plan_in_open m else None)) t new → NormalStands self t d
      → Represents self.shape self.host new (above_raise self (Accepted (message.Open m)) d)
  open_raised m d t new learns st = raised_for (Accepted (message.Open m)) d (plan_base (if gives_plan self d (plan_held self d) m.evidence then plan_in_open m else None)) t new (stable_of_opened self m d) learns st

  module _ (e : Entry) (d : History) (a : Arises self (e ∷ d)) (counts : counts_opens e ≡ true) (stays : changes_view e ≡ false) (slots : speaks_of_slots e ≡ false) (requests : speaks_of_requests e ≡ false)
      (checkpoints : speaks_of_checkpoints e ≡ false) where
    all_counted : AreOpens self.shape (e ∷ d) → (t : Normal) → Represents self.shape self.host t (counting (above_raise self e d) (open_votes self (e ∷ d)) (hosts_below (host_count self.shape))) → NormalStands self t (e ∷ d)
    all_counted opens t st =
        stands_alike self.shape self.host t (counting (above_raise self e d) (open_votes self (e ∷ d)) (λ h p. true)) (searches_in self (e ∷ d))
        (counting_ends self.shape self.host (above_raise self e d) (open_votes self (e ∷ d)) t (host_count self.shape) (no_host (e ∷ d) opens) st) (record {
          low = refl;
          slots = λ p. slot_raised self e d a stays slots p;
          votes = λ h p. opens_counted self e d a counts stays h p;
          pending = λ c lt. requests_stay self e d c requests;
          checkpoints = λ h n lt le. checkpoints_stay self e d h (n * interval self.shape) checkpoints;
        })

  pub new_view_counted : (m : NewView) (d : History) (t : Normal) → Arises self (Accepted (message.NewView m) ∷ d) → AreOpens self.shape (Accepted (message.NewView m) ∷ d)
      → Represents self.shape self.host t (counting (above_raise self (Accepted (message.NewView m)) d) (open_votes self (Accepted (message.NewView m) ∷ d)) (hosts_below (host_count self.shape)))
      → NormalStands self t (Accepted (message.NewView m) ∷ d)
  new_view_counted m d t a opens st = all_counted (Accepted (message.NewView m)) d a refl refl refl refl refl opens t st

  pub own_new_view_counted : (m : NewView) (d : History) (t : Normal) → Arises self (Stamped (stamped.NewView m) ∷ d) → AreOpens self.shape (Stamped (stamped.NewView m) ∷ d)
      → Represents self.shape self.host t (counting (above_raise self (Stamped (stamped.NewView m)) d) (open_votes self (Stamped (stamped.NewView m) ∷ d)) (hosts_below (host_count self.shape)))
      → NormalStands self t (Stamped (stamped.NewView m) ∷ d)
  own_new_view_counted m d t a opens st = all_counted (Stamped (stamped.NewView m)) d a refl refl refl refl refl opens t st

  pub open_counted : (m : Open) (d : History) (t : Normal) → Arises self (Accepted (message.Open m) ∷ d) → AreOpens self.shape (Accepted (message.Open m) ∷ d)
      → Represents self.shape self.host t (counting (above_raise self (Accepted (message.Open m)) d) (open_votes self (Accepted (message.Open m) ∷ d)) (hosts_below (host_count self.shape)))
      → NormalStands self t (Accepted (message.Open m) ∷ d)
  open_counted m d t a opens st = all_counted (Accepted (message.Open m)) d a refl refl refl refl refl opens t st

  -- ---- behind the own VIEW_CHANGE: all is cleared first

  pub change_cleared : (d : History) (t new : Normal) → Becomes t new without_votes → NormalStands self t d → Represents self.shape self.host new (without_votes (searches_in self d))
  change_cleared d t new becomes st = becomes self.shape self.host (searches_in self d) st

  pub change_counted : (m : ViewChange) (d : History) (t : Normal) → Arises self (Stamped (stamped.ViewChange m) ∷ d) → AreOpens self.shape (Stamped (stamped.ViewChange m) ∷ d)
      → Represents self.shape self.host t (counting (without_votes (searches_in self d)) (open_votes self (Stamped (stamped.ViewChange m) ∷ d)) (hosts_below (host_count self.shape)))
      → NormalStands self t (Stamped (stamped.ViewChange m) ∷ d)
  change_counted m d t a opens st =
      let e : Entry = Stamped (stamped.ViewChange m) in
      let x : Searches = without_votes (searches_in self d) in
      stands_alike self.shape self.host t (counting x (open_votes self (e ∷ d)) (λ h p. true)) (searches_in self (e ∷ d))
      (counting_ends self.shape self.host x (open_votes self (e ∷ d)) t (host_count self.shape) (no_host (e ∷ d) opens) st) (record {
        low = low_stays self e d refl;
        slots = λ p. slot_emptied self m d a p;
        votes = λ h p. vote_emptied self m d a h p;
        pending = λ c lt. requests_stay self e d c refl;
        checkpoints = λ h n lt le. checkpoints_stay self e d h (n * interval self.shape) refl;
      })

-- ---- the own OPEN

-- slots that are found, carried on position by position, each with the own vote
module _ (s : Shape) (own : ℕ) (x : Searches) (found : ℕ → Option KnownSlot) where
  -- what is carried on makes no difference where nothing is found
  carry_alike : (b c : ℕ → Bool) → ((p : ℕ) → (b p ≡ c p) ⊎ (found p ≡ None)) → Alike s (carrying own x found b) (carrying own x found c)
  carry_alike b c same = record {
    low = refl;
    slots = λ p. slot_case p (same p);
    votes = λ h p. vote_case h p (same p);
    pending = λ c lt. refl;
    checkpoints = λ h n lt le. refl;
  } where
    slot_case : (p : ℕ) → (b p ≡ c p) ⊎ (found p ≡ None) → option_or (x.slots p) (if c p then found p else None) ≡ option_or (x.slots p) (if b p then found p else None)
    slot_case p (inl e) = ap (λ t. option_or (x.slots p) (if t then found p else None)) (sym e)
    slot_case p (inr none) = ap (option_or (x.slots p)) (nothing_if (c p) (found p) none ∙ sym (nothing_if (b p) (found p) none))

    no_vote : (p : ℕ) → found p ≡ None → option_map slot_vote (found p) ≡ None
    no_vote p none = ap (option_map slot_vote) none

    vote_case : (h p : ℕ) → (b p ≡ c p) ⊎ (found p ≡ None) → option_or (x.votes h p) (if c p && own == h then option_map slot_vote (found p) else None) ≡ option_or (x.votes h p) (if b p && own == h then option_map slot_vote (found p) else None)
    vote_case h p (inl e) = ap (λ t. option_or (x.votes h p) (if t && own == h then option_map slot_vote (found p) else None)) (sym e)
    vote_case h p (inr none) = ap (option_or (x.votes h p)) (nothing_if (c p && own == h) (option_map slot_vote (found p)) (no_vote p none) ∙ sym (nothing_if (b p && own == h) (option_map slot_vote (found p)) (no_vote p none)))

  -- None is found up to a base.
  pub carrying_begins : (t : Normal) (base : ℕ) → ((p : ℕ) → p ≤ base → found p ≡ None) → Represents s own t x → Represents s own t (carrying own x found (up_to base))
  carrying_begins t base none st =
      stands_alike s own t (carrying own x found (λ p. false)) (carrying own x found (up_to base)) (stands_alike s own t x (carrying own x found (λ p. false)) st (record {
        low = refl;
        slots = λ p. or_nothing (x.slots p);
        votes = λ h p. or_nothing (x.votes h p);
        pending = λ c lt. refl;
        checkpoints = λ h n lt le. refl;
      })) (carry_alike (λ p. false) (up_to base) (λ p. elim (cases_Bool (nat_le p base)) [
        | inl most ↦ inr (none p (leb-true p base most))
        | inr more ↦ inl (sym more)
      ]))

  -- The next slot was put, if there is a place for it, and this host's vote for it was counted.
  pub slot_carried : (t put new : Normal) (last : ℕ) (slot : KnownSlot) → found (last + 1) ≡ (if has_place s x (last + 1) then Some slot else None) → PutsSlot t put (last + 1) slot → CountsVote put new (last + 1) own (slot_vote slot)
      → Represents s own t (carrying own x found (up_to last)) → Represents s own new (carrying own x found (up_to (last + 1)))
  slot_carried t put new last slot is puts counts st =
      stands_alike s own new (with_first_vote s (with_first_slot s (carrying own x found (up_to last)) (last + 1) slot) (last + 1) own (slot_vote slot)) (carrying own x found (up_to (last + 1)))
      (counts s own (with_first_slot s (carrying own x found (up_to last)) (last + 1) slot) (puts s own (carrying own x found (up_to last)) st)) (record {
        low = refl;
        slots = λ p. sym (slot_case p (cases_Bool (p == last + 1)));
        votes = λ h p. sym (vote_case h p (cases_Bool (p == last + 1)) (cases_Bool (h == own)));
        pending = λ c lt. refl;
        checkpoints = λ h n lt le. refl;
      }) where
        slot_case : (p : ℕ) → ((p == last + 1) ≡ true) ⊎ ((p == last + 1) ≡ false)
            → option_or (option_or (x.slots p) (if nat_le p last then found p else None)) (if has_place s x (last + 1) && p == last + 1 then Some slot else None) ≡ option_or (x.slots p) (if nat_le p (last + 1) then found p else None)
        slot_case p (inr other) = rw (other, next_most p last other) (unplaced (has_place s x (last + 1)) slot (option_or (x.slots p) (if nat_le p last then found p else None)))
        slot_case p (inl here) =
            let at : p ≡ last + 1 = eqb-true p (last + 1) here in
            rw (here, at, lt-leb (last + 1) last (omega arith), le-leb (last + 1) (last + 1) (omega arith), placed (has_place s x (last + 1)) slot)
            (now_counted (x.slots (last + 1)) (found (last + 1)) (has_place s x (last + 1)) slot is)

        vote_found : option_map slot_vote (found (last + 1)) ≡ (if has_place s x (last + 1) then Some (slot_vote slot) else None)
        vote_found = ap (option_map slot_vote) is ∙ mapped (has_place s x (last + 1)) where
          mapped : (b : Bool) → option_map slot_vote (if b then Some slot else None) ≡ (if b then Some (slot_vote slot) else None)
          mapped true = refl
          mapped false = refl

        strange : (b : Bool) (o q : Option Vote) → option_or o (if b && false then q else None) ≡ o
        strange true o q = or_nothing o
        strange false o q = or_nothing o

        vote_case : (h p : ℕ) → ((p == last + 1) ≡ true) ⊎ ((p == last + 1) ≡ false) → ((h == own) ≡ true) ⊎ ((h == own) ≡ false)
            → option_or (option_or (x.votes h p) (if nat_le p last && own == h then option_map slot_vote (found p) else None)) (if has_place s x (last + 1) && (p == last + 1 && h == own) then Some (slot_vote slot) else None)
            ≡ option_or (x.votes h p) (if nat_le p (last + 1) && own == h then option_map slot_vote (found p) else None)
        vote_case h p (inr other) m =
            rw (other, next_most p last other) (unplaced (has_place s x (last + 1)) (slot_vote slot) (option_or (x.votes h p) (if nat_le p last && own == h then option_map slot_vote (found p) else None)))
        vote_case h p (inl here) (inr stranger) =
            let apart : (own == h) ≡ false = ne_eqb own h (λ e. eqb-false h own stranger (sym e)) in
            rw (here, stranger, apart) (unplaced (has_place s x (last + 1)) (slot_vote slot) (option_or (x.votes h p) (if nat_le p last && false then option_map slot_vote (found p) else None))
            ∙ strange (nat_le p last) (x.votes h p) (option_map slot_vote (found p)) ∙ sym (strange (nat_le p (last + 1)) (x.votes h p) (option_map slot_vote (found p))))
        vote_case h p (inl here) (inl mine) =
            let at : p ≡ last + 1 = eqb-true p (last + 1) here in
            let who : h ≡ own = eqb-true h own mine in
            rw (here, mine, at, who, eq-eqb own own refl, lt-leb (last + 1) last (omega arith), le-leb (last + 1) (last + 1) (omega arith), placed (has_place s x (last + 1)) (slot_vote slot))
            (now_counted (x.votes own (last + 1)) (option_map slot_vote (found (last + 1))) (has_place s x (last + 1)) (slot_vote slot) vote_found)

  -- Nothing is found at the next position.
  pub slot_passed : (t : Normal) (last : ℕ) → found (last + 1) ≡ None → Represents s own t (carrying own x found (up_to last)) → Represents s own t (carrying own x found (up_to (last + 1)))
  slot_passed t last none st =
      stands_alike s own t (carrying own x found (up_to last)) (carrying own x found (up_to (last + 1))) st (carry_alike (up_to last) (up_to (last + 1)) (λ p. elim (cases_Bool (p == last + 1)) [
        | inl here ↦ inr (ap found (eqb-true p (last + 1) here) ∙ none)
        | inr other ↦ inl (sym (next_most p last other))
      ]))

  -- None is found behind the last.
  pub carrying_ends : (t : Normal) (last : ℕ) → ((p : ℕ) → last < p → found p ≡ None) → Represents s own t (carrying own x found (up_to last)) → Represents s own t (carrying own x found (λ p. true))
  carrying_ends t last none st =
      stands_alike s own t (carrying own x found (up_to last)) (carrying own x found (λ p. true)) st (carry_alike (up_to last) (λ p. true) (λ p. elim (cases_Bool (nat_le p last)) [
        | inl most ↦ inl most
        | inr more ↦ inr (none p (leb-false p last more))
      ]))

module _ {S : Type 0} (self : Identity S) where
  -- ---- the slots of an own OPEN in a history

  module _ (m : Open) (b : OpenBody) (d : History) (whole : whole_body m.body ≡ Some b) (view : m.evidence.view ≡ view_of self d) where
    slot_is : (p : ℕ) → open_slots self m d p ≡ (if in_window self d p then option_map (slot_of_plan m.evidence) (batch_from m.evidence.base p b.batches) else None)
    slot_is p = rw (whole, eq-eqb m.evidence.view (view_of self d) view) refl

    no_slot : (p : ℕ) → batch_from m.evidence.base p b.batches ≡ None → open_slots self m d p ≡ None
    no_slot p none = slot_is p ∙ nothing_if (in_window self d p) (option_map (slot_of_plan m.evidence) (batch_from m.evidence.base p b.batches)) (ap (option_map (slot_of_plan m.evidence)) none)

    -- none up to the base,
    pub no_slot_to_base : (p : ℕ) → p ≤ m.evidence.base → open_slots self m d p ≡ None
    no_slot_to_base p le = no_slot p (ap (λ t. if t then slice_get b.batches (p - m.evidence.base - 1) else None) (not_above m.evidence.base p le))

    -- none behind the last batch,
    pub no_slot_behind : (p : ℕ) → m.evidence.base + length b.batches < p → open_slots self m d p ≡ None
    no_slot_behind p lt = no_slot p (nothing_if (nat_lt m.evidence.base p) (slice_get b.batches (p - m.evidence.base - 1)) (past b.batches (p - m.evidence.base - 1) (omega (arith, lt))))

    -- and at each position between, with the batch there
    pub slot_there : (i : ℕ) (batch : Batch) → slice_get b.batches i ≡ Some batch → open_slots self m d (m.evidence.base + i + 1) ≡ (if in_window self d (m.evidence.base + i + 1) then Some (slot_of_plan m.evidence batch) else None)
    slot_there i batch is = slot_is (m.evidence.base + i + 1) ∙ ap (λ (o : Option KnownSlot). if in_window self d (m.evidence.base + i + 1) then o else None) (ap (option_map (slot_of_plan m.evidence)) at) where
      index : m.evidence.base + i + 1 - m.evidence.base - 1 ≡ i
      index = omega arith

      at : batch_from m.evidence.base (m.evidence.base + i + 1) b.batches ≡ Some batch
      at = ap (λ t. if t then slice_get b.batches (m.evidence.base + i + 1 - m.evidence.base - 1) else None) (lt-ltb m.evidence.base (m.evidence.base + i + 1) (omega arith)) ∙ ap (slice_get b.batches) index ∙ is

    -- as a step asks it
    pub slot_with_place : (i : ℕ) (batch : Batch) → nat_le (m.evidence.base + i + 1) position_limit ≡ true → slice_get b.batches i ≡ Some batch
        → open_slots self m d (m.evidence.base + i + 1) ≡ (if has_place self.shape (searches_in self d) (m.evidence.base + i + 1) then Some (slot_of_plan m.evidence batch) else None)
    slot_with_place i batch most is =
        slot_there i batch is ∙ ap (λ t. if t then Some (slot_of_plan m.evidence batch) else None) (place_in_window self d (searches_in self d) (m.evidence.base + i + 1) refl most)

  -- An own OPEN is of the host's view.
  pub own_open_view : (m : Open) (d : History) → Arises self (Stamped (stamped.Open m) ∷ d) → m.evidence.view ≡ view_of self d
  unfolding open_enabled
  own_open_view m d ((e, plan, enabled, is), arises) = sym (ap view_in is) ∙ of_rule (evidence_for self d (view_of self d)) (plan_at self d (view_of self d)) refl (if_some _ _ (OpenAt e plan) enabled).1 where
    view_in : StampedMessage → ℕ
    view_in (stamped.Open m) = m.evidence.view
    view_in m = 0

    evidence_of_rule : Rule → Option Evidence
    evidence_of_rule (OpenAt e plan) = Some e
    evidence_of_rule r = None

    in_view : (o : Option Evidence) → evidence_in (view_of self d) o ≡ Some e → e.view ≡ view_of self d
    in_view None x = absurd cc
    in_view (Some y) x =
        let t = if_some (y.view == view_of self d) (Some y) e x in
        let same : y ≡ e = cc in
        ap (λ (z : Evidence). z.view) (sym same) ∙ eqb-true y.view (view_of self d) t.0

    of_new_view : (o : Option NewView) → option_and_then (λ n. evidence_with self n (enters_for self d n)) (new_view_in_view (view_of self d) o) ≡ Some e → e.view ≡ view_of self d
    of_new_view None x = absurd cc
    of_new_view (Some n) x = elim (cases_Bool (n.view == view_of self d)) [
      | inr other ↦ let no = rw other at x in absurd cc
      | inl same ↦
          let t = if_some (nat_le (max_faults self.shape) (length (enters_for self d n))) _ e (rw same at x) in
          let is : n.view ≡ e.view = ap (λ (o : Option Evidence). evidence_view o) t.1 in
          sym is ∙ eqb-true n.view (view_of self d) same
    ]

    found : evidence_for self d (view_of self d) ≡ Some e → e.view ≡ view_of self d
    found x = elim (or_some (evidence_in (view_of self d) (evidence_of self d)) _ e x) [
      | inl held ↦ in_view (evidence_of self d) held
      | inr shown ↦ of_new_view (new_view_of self d) shown
    ]

    of_rule : (o : Option Evidence) (q : Option Plan) → evidence_for self d (view_of self d) ≡ o → open_with o q ≡ Some (OpenAt e plan) → e.view ≡ view_of self d
    of_rule None q f x = absurd cc
    of_rule (Some y) None f x = absurd cc
    of_rule (Some y) (Some q) f x =
        let t = if_some (is_evidence_of y q) (Some (OpenAt y q)) (OpenAt e plan) x in
        let same : Some y ≡ Some e = ap (λ o. option_and_then evidence_of_rule o) t.1 in
        found (f ∙ same)

  -- All was carried on.
  pub open_carried : (m : Open) (d : History) (t : Normal) → Arises self (Stamped (stamped.Open m) ∷ d)
      → Represents self.shape self.host t (carrying self.host (searches_in self d) (open_slots self m d) (λ p. true)) → NormalStands self t (Stamped (stamped.Open m) ∷ d)
  open_carried m d t a st =
      stands_alike self.shape self.host t (carrying self.host (searches_in self d) (open_slots self m d) (λ p. true)) (searches_in self (Stamped (stamped.Open m) ∷ d)) st
      (positions_alone self (Stamped (stamped.Open m)) d a refl refl refl refl (carrying self.host (searches_in self d) (open_slots self m d) (λ p. true)).slots (carrying self.host (searches_in self d) (open_slots self m d) (λ p. true)).votes
      (λ p. own_open_slots self m d a p)
      (λ h p. own_open_votes self m d a h p ∙ ap (option_or (vote_at self d h p)) (by_case (in_window self d p) (self.host == h) (slot_of_open m (view_of self d) p)))) where
        by_case : (inside mine : Bool) (o : Option KnownSlot) → (if inside then (if mine then option_map slot_vote o else None) else None) ≡ (if mine then option_map slot_vote (if inside then o else None) else None)
        by_case true mine o = refl
        by_case false true o = refl
        by_case false false o = refl
