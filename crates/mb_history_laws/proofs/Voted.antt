-- What a PREPARE, a COMMIT, an OPEN, a raise of the stable position and a new view make of slots and votes.
use Rattle.std.proofs.Common.{◌≡◌, ℕ, ◌<◌, Bool, true, false, ◌&&◌, ◌∷◌, refl, sym, ap, ◌∙◌, inl, inr, arith, Option, Some, None}
use Rattle.std.specs.Prelude.{◌==◌, nat_le, if◌then◌else◌, option_map}
use Rattle.std.specs.Option.{option_or}
use Rattle.std.proofs.lemmas.Bool.{cases_Bool, and_parts, eq-eqb, ne_eqb, eqb-true, eqb-false, leb-true}
use Rattle.mb_msg.specs.declared.change.ViewChange.{ViewChange}
use Rattle.mb_msg.specs.declared.stamped.Stamped.TheVariants as stamped
use Rattle.mb_msg.specs.declared.message.Message.TheVariants as message
use Rattle.mb_msg.specs.declared.normal.Prepare.{Prepare}
use Rattle.mb_msg.specs.declared.normal.Commit.{Commit}
use Rattle.mb_msg.specs.declared.change.Open.{Open}
use Rattle.mb_model.specs.declared.known.Vote.{Vote}
use Rattle.mb_model.specs.declared.known.KnownSlot.{KnownSlot}
use Rattle.mb_model.specs.Histories.{Entry, Accepted, Stamped, History, Identity, view_of}
use Rattle.mb_model.specs.Stable.{low_of}
use Rattle.mb_model.specs.Held.{opened_by, plan_at}
use Rattle.mb_model.specs.Positions.{in_window, counts_at, slot_by, slot_at, vote_by, open_vote, open_vote_by, counts_opens, vote_at, slot_vote, slot_of_open}
use Rattle.mb_model.proofs.Options.{or_nothing}
use Rattle.mb_steps.specs.Arises.{Arises}
use Rattle.mb_steps.proofs.StepPotential.{not_above}
use Rattle.mb_history_laws.specs.Speaks.{changes_view, speaks_of_stable, speaks_of_slots, speaks_of_votes}
use Rattle.mb_history_laws.specs.Behind.{slot_in_prepare, vote_in_prepare, vote_in_commit, left_at, if_behind, if_in_window, slot_left, vote_left, vote_new}
use Rattle.mb_history_laws.proofs.Framing.{low_stays}
use Rattle.mb_history_laws.proofs.Standing.{view_stays, view_changed}
use Rattle.mb_history_laws.proofs.Positions.{slot_behind, vote_behind}

-- ---- over plain numbers

module _ {A : Type 0} where
  stays_in_view : (v low p : ℕ) (x : Option A) → left_at v v low p x ≡ if_behind low p x
  stays_in_view v low p x = rw (eq-eqb v v refl) refl

  leaves_view : (v w low p : ℕ) (x : Option A) → v < w → left_at v w low p x ≡ None
  leaves_view v w low p x lt = rw (ne_eqb v w (λ e. omega (arith, lt, e))) refl

  nothing_added : (x : Option A) (b : Bool) (y : Option A) → y ≡ None → option_or x (if b then y else None) ≡ x
  nothing_added x true y e = rw e (or_nothing x)
  nothing_added x false y e = or_nothing x

  -- at one position: what was there first, or else the new one
  module _ (old : ℕ → Option A) (inside : ℕ → Bool) (view v pos : ℕ) (x : A) where
    abbrev more : ℕ → Option A
    more p = option_or (old p) (if inside p then (if view == v && pos == p then Some x else None) else None)

    put : (view == v && inside pos) ≡ true → old pos ≡ None → (p : ℕ) → more p ≡ (if p == pos then Some x else old p)
    put counts free p = elim (cases_Bool (p == pos)) [
      | inl same ↦
          let at : p ≡ pos = eqb-true p pos same in
          let a = and_parts (view == v) (inside pos) counts in
          rw (same, at, free, a.0, a.1, eq-eqb pos pos refl) refl
      | inr other ↦
          let apart : (pos == p) ≡ false = ne_eqb pos p (λ e. eqb-false p pos other (sym e)) in
          rw (other, apart) (nothing_added (old p) (inside p) _ (no (view == v)))
    ] where
      no : (b : Bool) → (if b && false then Some x else None) ≡ None
      no true = refl
      no false = refl

    held : (y : A) → old pos ≡ Some y → (p : ℕ) → more p ≡ old p
    held y is p = elim (cases_Bool (pos == p)) [
      | inl same ↦ let at : pos ≡ p = eqb-true pos p same in rw (← at, is) refl
      | inr other ↦ rw other (nothing_added (old p) (inside p) _ (no (view == v)))
    ] where
      no : (b : Bool) → (if b && false then Some x else None) ≡ None
      no true = refl
      no false = refl

    out : (view == v && inside pos) ≡ false → (p : ℕ) → more p ≡ old p
    out not_so p = elim (cases_Bool (view == v && pos == p)) [
      | inr other ↦ rw other (nothing_added (old p) (inside p) None refl)
      | inl same ↦
          let a = and_parts (view == v) (pos == p) same in
          let at : pos ≡ p = eqb-true pos p a.1 in
          let outside : inside pos ≡ false = rw a.0 at not_so in
          rw (← at, outside) (or_nothing (old pos))
    ]

module _ {A : Type 0} (old : ℕ → ℕ → Option A) (inside : ℕ → Bool) (view v host pos : ℕ) (x : A) where
  abbrev more_vote : ℕ → ℕ → Option A
  more_vote h p = option_or (old h p) (if inside p then (if view == v && (pos == p && host == h) then Some x else None) else None)

  none_of : (b c : Bool) → (if b && (c && false) then Some x else None) ≡ None
  none_of true true = refl
  none_of true false = refl
  none_of false c = refl

  none_at : (b c : Bool) → (if b && (false && c) then Some x else None) ≡ None
  none_at true c = refl
  none_at false c = refl

  put_vote : (view == v && inside pos) ≡ true → old host pos ≡ None → (h p : ℕ) → more_vote h p ≡ (if p == pos && h == host then Some x else old h p)
  put_vote counts free h p = elim (cases_Bool (p == pos)) [
    | inr other ↦
        let apart : (pos == p) ≡ false = ne_eqb pos p (λ e. eqb-false p pos other (sym e)) in
        rw (other, apart) (nothing_added (old h p) (inside p) _ (none_at (view == v) (host == h)))
    | inl same ↦ elim (cases_Bool (h == host)) [
      | inr stranger ↦
          let apart : (host == h) ≡ false = ne_eqb host h (λ e. eqb-false h host stranger (sym e)) in
          rw (same, stranger, apart) (nothing_added (old h p) (inside p) _ (none_of (view == v) (pos == p)))
      | inl here ↦
          let at : p ≡ pos = eqb-true p pos same in
          let who : h ≡ host = eqb-true h host here in
          let a = and_parts (view == v) (inside pos) counts in
          rw (same, here, at, who, free, a.0, a.1, eq-eqb pos pos refl, eq-eqb host host refl) refl
    ]
  ]

  held_vote : (y : A) → old host pos ≡ Some y → (h p : ℕ) → more_vote h p ≡ old h p
  held_vote y is h p = elim (cases_Bool (pos == p)) [
    | inr other ↦ rw other (nothing_added (old h p) (inside p) _ (none_at (view == v) (host == h)))
    | inl same ↦ elim (cases_Bool (host == h)) [
      | inr stranger ↦ rw stranger (nothing_added (old h p) (inside p) _ (none_of (view == v) (pos == p)))
      | inl here ↦
          let at : pos ≡ p = eqb-true pos p same in
          let who : host ≡ h = eqb-true host h here in
          rw (← at, ← who, is) refl
    ]
  ]

  out_vote : (view == v && inside pos) ≡ false → (h p : ℕ) → more_vote h p ≡ old h p
  out_vote not_so h p = elim (cases_Bool (view == v && (pos == p && host == h))) [
    | inr other ↦ rw other (nothing_added (old h p) (inside p) None refl)
    | inl same ↦
        let a = and_parts (view == v) (pos == p && host == h) same in
        let b = and_parts (pos == p) (host == h) a.1 in
        let at : pos ≡ p = eqb-true pos p b.0 in
        let outside : inside pos ≡ false = rw a.0 at not_so in
        rw (← at, outside) (or_nothing (old h pos))
  ]

turned : (v w : ℕ) (i b : Bool) → (v == w && i) ≡ b → (w == v && i) ≡ b
turned v w i b e = ap (λ t. t && i) (swap v w) ∙ e where
  swap : (v w : ℕ) → (w == v) ≡ (v == w)
  swap v w = elim (cases_Bool (v == w)) [
    | inl same ↦ rw same (eq-eqb w v (sym (eqb-true v w same)))
    | inr other ↦ rw other (ne_eqb w v (λ e. eqb-false v w other (sym e)))
  ]

module _ {S : Type 0} (self : Identity S) where
  -- nothing is found at or below the stable position
  slot_above : (d : History) (p : ℕ) → if_behind (low_of self d) p (slot_at self d p) ≡ slot_at self d p
  slot_above d p = elim (cases_Bool (nat_le p (low_of self d))) [
    | inl under ↦ rw (under, not_above (low_of self d) p (leb-true p (low_of self d) under)) refl
    | inr above ↦ rw above refl
  ]

  vote_above : (d : History) (h p : ℕ) → if_behind (low_of self d) p (vote_at self d h p) ≡ vote_at self d h p
  vote_above d h p = elim (cases_Bool (nat_le p (low_of self d))) [
    | inl under ↦ rw (under, not_above (low_of self d) p (leb-true p (low_of self d) under)) refl
    | inr above ↦ rw above refl
  ]

  -- ---- the host stays in its view

  -- Raising the stable position drops what lies at or below it, and leaves new places empty.
  pub slot_raised : (e : Entry) (d : History) → Arises self (e ∷ d) → changes_view e ≡ false → speaks_of_slots e ≡ false → (p : ℕ) → slot_at self (e ∷ d) p ≡ if_behind (low_of self (e ∷ d)) p (slot_at self d p)
  slot_raised e d a stays s p =
      slot_behind self e d a p ∙ nothing_added (slot_left self e d p) (in_window self (e ∷ d) p) _ (says_none e s (view_of self (e ∷ d)) p)
      ∙ ap (λ v. left_at (view_of self d) v (low_of self (e ∷ d)) p (slot_at self d p)) (view_stays self e d a stays) ∙ stays_in_view (view_of self d) (low_of self (e ∷ d)) p (slot_at self d p) where
        says_none : (e : Entry) → speaks_of_slots e ≡ false → (v p : ℕ) → slot_by e v p ≡ None
        says_none (Accepted (message.Prepare m)) s v p = absurd cc
        says_none (Stamped (stamped.Prepare m)) s v p = absurd cc
        says_none (Stamped (stamped.Open m)) s v p = absurd cc
        says_none e s v p = refl

  pub vote_raised : (e : Entry) (d : History) → Arises self (e ∷ d) → changes_view e ≡ false → speaks_of_votes e ≡ false → (h p : ℕ) → vote_at self (e ∷ d) h p ≡ if_behind (low_of self (e ∷ d)) p (vote_at self d h p)
  vote_raised e d a stays s h p =
      vote_behind self e d a h p ∙ nothing_added (vote_left self e d h p) (in_window self (e ∷ d) p) _ (says_none e s d h (view_of self (e ∷ d)) p)
      ∙ ap (λ v. left_at (view_of self d) v (low_of self (e ∷ d)) p (vote_at self d h p)) (view_stays self e d a stays) ∙ stays_in_view (view_of self d) (low_of self (e ∷ d)) p (vote_at self d h p) where
        says_none : (e : Entry) → speaks_of_votes e ≡ false → (d : History) (h v p : ℕ) → option_or (vote_by self.host e h v p) (open_vote_by self (e ∷ d) e h v p) ≡ None
        says_none (Accepted (message.Prepare m)) s d h v p = absurd cc
        says_none (Accepted (message.Commit m)) s d h v p = absurd cc
        says_none (Accepted (message.Open m)) s d h v p = absurd cc
        says_none (Accepted (message.NewView m)) s d h v p = absurd cc
        says_none (Stamped (stamped.Prepare m)) s d h v p = absurd cc
        says_none (Stamped (stamped.Commit m)) s d h v p = absurd cc
        says_none (Stamped (stamped.Open m)) s d h v p = absurd cc
        says_none (Stamped (stamped.NewView m)) s d h v p = absurd cc
        says_none (Stamped (stamped.ViewChange m)) s d h v p = absurd cc
        says_none e s d h v p = refl

  -- behind an entry that doesn't speak of what is stable: what was there first, or else what the entry says
  pub slot_more : (e : Entry) (d : History) → Arises self (e ∷ d) → changes_view e ≡ false → speaks_of_stable e ≡ false → (p : ℕ)
      → slot_at self (e ∷ d) p ≡ option_or (slot_at self d p) (if_in_window self d p (slot_by e (view_of self d) p))
  slot_more e d a stays s p =
      let view : view_of self (e ∷ d) ≡ view_of self d = view_stays self e d a stays in
      let low : low_of self (e ∷ d) ≡ low_of self d = low_stays self e d s in
      slot_behind self e d a p ∙ rw (view, low, stays_in_view (view_of self d) (low_of self d) p (slot_at self d p), slot_above d p) refl

  pub vote_more : (e : Entry) (d : History) → Arises self (e ∷ d) → changes_view e ≡ false → speaks_of_stable e ≡ false → counts_opens e ≡ false → (h p : ℕ)
      → vote_at self (e ∷ d) h p ≡ option_or (vote_at self d h p) (if_in_window self d p (vote_by self.host e h (view_of self d) p))
  vote_more e d a stays s o h p =
      let view : view_of self (e ∷ d) ≡ view_of self d = view_stays self e d a stays in
      let low : low_of self (e ∷ d) ≡ low_of self d = low_stays self e d s in
      vote_behind self e d a h p ∙ rw (o, view, low, stays_in_view (view_of self d) (low_of self d) p (vote_at self d h p), vote_above d h p, or_nothing (vote_by self.host e h (view_of self d) p)) refl

  -- ---- an entry that says something of one position: it counts where nothing was there, and else changes nothing

  -- a slot, as a PREPARE makes one
  abbrev pub SaysSlot : Entry → ℕ → ℕ → KnownSlot → Type 0
  SaysSlot e view pos k = (v p : ℕ) → slot_by e v p ≡ (if view == v && pos == p then Some k else None)

  abbrev pub SaysVote : Entry → ℕ → ℕ → ℕ → Vote → Type 0
  SaysVote e host view pos x = (h v p : ℕ) → vote_by self.host e h v p ≡ (if view == v && (pos == p && host == h) then Some x else None)

  module _ (e : Entry) (d : History) (a : Arises self (e ∷ d)) (stays : changes_view e ≡ false) (s : speaks_of_stable e ≡ false) where
    module _ (view pos : ℕ) (k : KnownSlot) (says : SaysSlot e view pos k) where
      slot_said : (p : ℕ) → slot_at self (e ∷ d) p ≡ more (slot_at self d) (in_window self d) view (view_of self d) pos k p
      slot_said p = slot_more e d a stays s p ∙ ap (λ o. option_or (slot_at self d p) (if_in_window self d p o)) (says (view_of self d) p)

      pub slot_put : counts_at self d view pos ≡ true → slot_at self d pos ≡ None → (p : ℕ) → slot_at self (e ∷ d) p ≡ (if p == pos then Some k else slot_at self d p)
      slot_put counts free p = slot_said p ∙ put (slot_at self d) (in_window self d) view (view_of self d) pos k (turned (view_of self d) view (in_window self d pos) true counts) free p

      pub slot_held : (j : KnownSlot) → slot_at self d pos ≡ Some j → (p : ℕ) → slot_at self (e ∷ d) p ≡ slot_at self d p
      slot_held j is p = slot_said p ∙ held (slot_at self d) (in_window self d) view (view_of self d) pos k j is p

      pub slot_out : counts_at self d view pos ≡ false → (p : ℕ) → slot_at self (e ∷ d) p ≡ slot_at self d p
      slot_out not_so p = slot_said p ∙ out (slot_at self d) (in_window self d) view (view_of self d) pos k (turned (view_of self d) view (in_window self d pos) false not_so) p

    module _ (o : counts_opens e ≡ false) (host view pos : ℕ) (x : Vote) (says : SaysVote e host view pos x) where
      vote_said : (h p : ℕ) → vote_at self (e ∷ d) h p ≡ more_vote (vote_at self d) (in_window self d) view (view_of self d) host pos x h p
      vote_said h p = vote_more e d a stays s o h p ∙ ap (λ y. option_or (vote_at self d h p) (if_in_window self d p y)) (says h (view_of self d) p)

      pub vote_put : counts_at self d view pos ≡ true → vote_at self d host pos ≡ None → (h p : ℕ) → vote_at self (e ∷ d) h p ≡ (if p == pos && h == host then Some x else vote_at self d h p)
      vote_put counts free h p = vote_said h p ∙ put_vote (vote_at self d) (in_window self d) view (view_of self d) host pos x (turned (view_of self d) view (in_window self d pos) true counts) free h p

      pub vote_held : (y : Vote) → vote_at self d host pos ≡ Some y → (h p : ℕ) → vote_at self (e ∷ d) h p ≡ vote_at self d h p
      vote_held y is h p = vote_said h p ∙ held_vote (vote_at self d) (in_window self d) view (view_of self d) host pos x y is h p

      pub vote_out : counts_at self d view pos ≡ false → (h p : ℕ) → vote_at self (e ∷ d) h p ≡ vote_at self d h p
      vote_out not_so h p = vote_said h p ∙ out_vote (vote_at self d) (in_window self d) view (view_of self d) host pos x (turned (view_of self d) view (in_window self d pos) false not_so) h p

  -- what PREPAREs and COMMITs say so
  pub prepare_says : (m : Prepare) → SaysSlot (Accepted (message.Prepare m)) m.view m.pos (slot_in_prepare m)
  prepare_says m v p = refl

  pub own_prepare_says : (m : Prepare) → SaysSlot (Stamped (stamped.Prepare m)) m.view m.pos (slot_in_prepare m)
  own_prepare_says m v p = refl

  pub prepare_votes : (m : Prepare) → SaysVote (Accepted (message.Prepare m)) m.ui.host m.view m.pos (vote_in_prepare m)
  prepare_votes m h v p = refl

  pub commit_votes : (m : Commit) → SaysVote (Accepted (message.Commit m)) m.ui.host m.view m.pos (vote_in_commit m)
  commit_votes m h v p = refl

  pub own_prepare_votes : (m : Prepare) → SaysVote (Stamped (stamped.Prepare m)) self.host m.view m.pos (vote_in_prepare m)
  own_prepare_votes m h v p = refl

  pub own_commit_votes : (m : Commit) → SaysVote (Stamped (stamped.Commit m)) self.host m.view m.pos (vote_in_commit m)
  own_commit_votes m h v p = refl

  -- ---- OPENs

  -- The slots of the plan of an own OPEN, and the own vote for each.
  pub own_open_slots : (m : Open) (d : History) → Arises self (Stamped (stamped.Open m) ∷ d) → (p : ℕ)
      → slot_at self (Stamped (stamped.Open m) ∷ d) p ≡ option_or (slot_at self d p) (if_in_window self d p (slot_of_open m (view_of self d) p))
  own_open_slots m d a p = slot_more (Stamped (stamped.Open m)) d a refl refl p

  pub own_open_votes : (m : Open) (d : History) → Arises self (Stamped (stamped.Open m) ∷ d) → (h p : ℕ)
      → vote_at self (Stamped (stamped.Open m) ∷ d) h p ≡ option_or (vote_at self d h p) (if_in_window self d p (if self.host == h then option_map slot_vote (slot_of_open m (view_of self d) p) else None))
  own_open_votes m d a h p = vote_more (Stamped (stamped.Open m)) d a refl refl refl h p

  -- the vote that the last OPEN of a host is, as it counts behind an entry
  abbrev pub open_vote_now : History → ℕ → ℕ → Option Vote
  open_vote_now d h p = if_in_window self d p (open_vote (opened_by d h) (plan_at self d (view_of self d)) (view_of self d) p)

  -- behind a message of another host that speaks of OPENs, or the own NEW_VIEW: what is left above the stable position, or else the votes of OPENs
  pub opens_counted : (e : Entry) (d : History) → Arises self (e ∷ d) → counts_opens e ≡ true → changes_view e ≡ false → (h p : ℕ)
      → vote_at self (e ∷ d) h p ≡ option_or (if_behind (low_of self (e ∷ d)) p (vote_at self d h p)) (open_vote_now (e ∷ d) h p)
  opens_counted e d a counts stays h p =
      vote_behind self e d a h p
      ∙ ap (λ x. option_or x (if_in_window self (e ∷ d) p (vote_new self e d h p)))
      (ap (λ v. left_at (view_of self d) v (low_of self (e ∷ d)) p (vote_at self d h p)) (view_stays self e d a stays) ∙ stays_in_view (view_of self d) (low_of self (e ∷ d)) p (vote_at self d h p))
      ∙ ap (λ x. option_or (if_behind (low_of self (e ∷ d)) p (vote_at self d h p)) (if_in_window self (e ∷ d) p x)) (only_opens e counts (view_of self (e ∷ d))) where
        only_opens : (e : Entry) → counts_opens e ≡ true → (v : ℕ) → option_or (vote_by self.host e h v p) (open_vote_by self (e ∷ d) e h v p) ≡ open_vote (opened_by (e ∷ d) h) (plan_at self (e ∷ d) v) v p
        only_opens (Accepted (message.Open m)) c v = refl
        only_opens (Accepted (message.NewView m)) c v = refl
        only_opens (Stamped (stamped.NewView m)) c v = refl
        only_opens (Stamped (stamped.ViewChange m)) c v = refl
        only_opens e c v = absurd cc

  -- ---- a new view

  -- All slots are gone, and so are all votes; those of OPENs to the new view are counted, where its plan is held.
  pub slot_emptied : (m : ViewChange) (d : History) → Arises self (Stamped (stamped.ViewChange m) ∷ d) → (p : ℕ) → slot_at self (Stamped (stamped.ViewChange m) ∷ d) p ≡ None
  slot_emptied m d a p =
      let e : Entry = Stamped (stamped.ViewChange m) in
      let c = view_changed self m d a in
      slot_behind self e d a p ∙ nothing_added (slot_left self e d p) (in_window self (e ∷ d) p) None refl
      ∙ leaves_view (view_of self d) (view_of self (e ∷ d)) (low_of self (e ∷ d)) p (slot_at self d p) (omega (arith, c.0, c.1))

  pub vote_emptied : (m : ViewChange) (d : History) → Arises self (Stamped (stamped.ViewChange m) ∷ d) → (h p : ℕ)
      → vote_at self (Stamped (stamped.ViewChange m) ∷ d) h p ≡ open_vote_now (Stamped (stamped.ViewChange m) ∷ d) h p
  vote_emptied m d a h p =
      let e : Entry = Stamped (stamped.ViewChange m) in
      let c = view_changed self m d a in
      vote_behind self e d a h p
      ∙ ap (λ x. option_or x (open_vote_now (e ∷ d) h p)) (leaves_view (view_of self d) (view_of self (e ∷ d)) (low_of self (e ∷ d)) p (vote_at self d h p) (omega (arith, c.0, c.1)))
