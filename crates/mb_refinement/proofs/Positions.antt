-- The tables of the normal case behind an entry, where each call that the host makes for it is one: they stand for two searches that they don't tell
-- apart, so an entry that doesn't speak of positions leaves them, and behind each other the searches are what the calls made of them.
use Rattle.std.proofs.Common.{◌≡◌, ℕ, ◌+◌, ◌*◌, ◌-◌, ◌<◌, ◌≤◌, Bool, true, false, cond, ◌&&◌, List, [], ◌∷◌, refl, sym, ap, ◌∙◌, subst, inl, inr, arith, Option, Some, None, is_some, Result, Ok, Err, OnOk, OnErr, mul-le-mul_right}
use Rattle.std.specs.Prelude.{◌==◌, nat_lt, nat_le, option_map, if◌then◌else◌, slice_get}
use Rattle.std.specs.Option.{option_or}
use Rattle.std.proofs.lemmas.Bool.{cases_Bool, and_parts, eqb-true, eqb-false, ltb-true, ltb-false, leb-true, le-leb, lt-ltb}
use Rattle.mb_base.specs.declared.shape.Shape.{Shape}
use Rattle.mb_base.specs.Shapes.{host_count, client_count, interval, span}
use Rattle.mb_parts.specs.declared.batch.Batch.{Batch}
use Rattle.mb_parts.specs.declared.request.Request.{Request}
use Rattle.mb_parts.specs.declared.certificates.StableCert.{StableCert}
use Rattle.mb_msg.specs.declared.message.Message.TheVariants as message
use Rattle.mb_msg.specs.declared.event.Placed.{Placed}
use Rattle.mb_model.specs.declared.known.Vote.{Vote}
use Rattle.mb_model.specs.declared.known.KnownSlot.{KnownSlot}
use Rattle.mb_base.specs.Shapes.{Bytes}
use Rattle.mb_model.specs.Histories.{Entry, Accepted, Served, Installed, History, Identity}
use Rattle.mb_model.specs.Stable.{stable_of, further, checkpoint_of}
use Rattle.mb_model.specs.Stable.{low_of as low_in}
use Rattle.mb_model.specs.Positions.{in_window, slot_in, vote_of}
use Rattle.mb_model.specs.Execution.{pending, if_above}
use Rattle.mb_model.proofs.Options.{or_nothing}
use Rattle.mb_steps.specs.Arises.{Arises}
use Rattle.mb_steps.proofs.StepPotential.{not_above}
use Rattle.mb_history_laws.specs.Speaks.{changes_view, speaks_of_stable, speaks_of_slots, speaks_of_votes, speaks_of_checkpoints, speaks_of_positions}
use Rattle.mb_history_laws.proofs.Framing.{checkpoints_stay, low_stays, slot_at_stays, vote_at_stays}
use Rattle.mb_history_laws.proofs.Standing.{view_stays}
use Rattle.mb_history_laws.proofs.Executing.{request_put, request_settled, requests_adopted}
use Rattle.mb_history_laws.proofs.Tables.{positions_left}
use Rattle.mb_window.specs.declared.refused.Refused.{Refused}
use Rattle.mb_window.specs.declared.refused.Refused.TheVariants.{Below, Beyond, Filled}
use Rattle.mb_window.specs.Places.{flat}
use Rattle.mb_votes.specs.Ballots.{kept_in}
use Rattle.mb_checkpoints.specs.Kept.{kept_at, low_of}
use Rattle.mb_normal.proofs.Tables.{own_kept}
use Rattle.mb_normal.specs.declared.normal.Normal.{Normal}
use Rattle.mb_normal.specs.Searches.{Searches, searches_in, nothing_above, with_slot, with_vote, with_pending, with_settled, above_low}
use Rattle.mb_normal.specs.Tables.{Represents, Becomes, RefusesIn}
use Rattle.mb_refinement.specs.Positions.{Alike, found_in, StandsAt, has_place, with_first_slot, with_first_vote, PutsSlot, CountsVote, RaisesWhere, Learns, settled_below, installed_numbers}
use Rattle.mb_refinement.specs.Stands.{NormalStands}

pub strictly : (a b : ℕ) → (a ≡ b → ⊥) → b ≤ a → b < a
strictly a b apart le = elim (cases_Bool (nat_lt b a)) [
  | inl less ↦ ltb-true b a less
  | inr ge ↦ let most = ltb-false b a ge in absurd (apart (omega (arith, le, most)))
]

-- ---- searches that the tables don't tell apart

pub stands_alike : (s : Shape) (host : ℕ) (t : Normal) (x y : Searches) → Represents s host t x → Alike s x y → Represents s host t y
stands_alike s host t x y st same = record {
  shape_is = st.shape_is;
  host_is = st.host_is;
  slots = record { low_is = st.slots.low_is ∙ sym same.low; finds = λ p. st.slots.finds p ∙ sym (same.slots p) };
  votes = record { shape_is = st.votes.shape_is; low_is = st.votes.low_is ∙ sym same.low; finds = λ h p. st.votes.finds h p ∙ sym (same.votes h p) };
  pending = λ c lt. st.pending c lt ∙ sym (same.pending c lt);
  checkpoints = record {
    shape_is = st.checkpoints.shape_is;
    low_is = st.checkpoints.low_is ∙ sym same.low;
    finds = λ h number lt le. st.checkpoints.finds h number lt le ∙ sym (same.checkpoints h number lt (not_below number le));
  };
} where
  not_below : (number : ℕ) → t.checkpoints.first ≤ number → x.low ≤ number * interval s
  not_below number le =
      let low : t.checkpoints.first * interval t.checkpoints.shape ≡ x.low = st.checkpoints.low_is in
      let at : t.checkpoints.first * interval s ≡ x.low = sym (ap (λ (y : Shape). t.checkpoints.first * interval y) st.checkpoints.shape_is) ∙ low in
      subst (λ q. q ≤ number * interval s) at (mul-le-mul_right (interval s) le)

-- ---- The tables stand for what they hold themselves, so each call says which shape, host and stable position it leaves.

pub stands_for_itself : (t : Normal) → Represents t.shape t.host t (found_in t)
stands_for_itself t = record {
  shape_is = refl;
  host_is = refl;
  slots = record { low_is = sym t.checkpoints_low; finds = λ p. refl };
  votes = record { shape_is = t.votes_shape; low_is = t.votes_low ∙ sym t.checkpoints_low; finds = λ h p. refl };
  pending = λ c lt. refl;
  checkpoints = record { shape_is = t.checkpoints_shape; low_is = refl; finds = λ h number lt le. found h number (subst (λ (y : Shape). h < host_count y) (sym t.checkpoints_shape) lt) le };
} where
  found : (h number : ℕ) → h < host_count t.checkpoints.shape → t.checkpoints.first ≤ number
      → option_map (λ k. k.message) (kept_at t.checkpoints number h) ≡ (found_in t).checkpoints h (number * interval t.shape)
  found h number lt le = (own_kept t.checkpoints).finds h number lt le ∙ ap (λ (y : Shape). (found_in t).checkpoints h (number * interval y)) t.checkpoints_shape

-- as a call whose searches are these leaves the tables
pub left_by : (old new : Normal) (f : Shape → Searches → Searches) → ((s : Shape) (host : ℕ) (x : Searches) → Represents s host old x → Represents s host new (f s x)) → StandsAt (f old.shape (found_in old)).low old new
left_by old new f is =
    let st = is old.shape old.host (found_in old) (stands_for_itself old) in
    record { shape_is = st.shape_is; host_is = st.host_is; low_is = st.checkpoints.low_is }

pub left_by_call : (old new : Normal) (f : Searches → Searches) → Becomes old new f → StandsAt (f (found_in old)).low old new
left_by_call old new f is = left_by old new (λ s x. f x) is

pub left_by_slot : (old new : Normal) (pos : ℕ) (slot : KnownSlot) → PutsSlot old new pos slot → StandsAt (low_of old.checkpoints) old new
left_by_slot old new pos slot is = left_by old new (λ s x. with_first_slot s x pos slot) is

pub left_by_vote : (old new : Normal) (pos voter : ℕ) (vote : Vote) → CountsVote old new pos voter vote → StandsAt (low_of old.checkpoints) old new
left_by_vote old new pos voter vote is = left_by old new (λ s x. with_first_vote s x pos voter vote) is

-- What is learnt is no news, or it raises the stable position.
pub learns_no_news : (t : Normal) (stable c : StableCert) → c.pos ≤ stable.pos → Learns stable (Some c) t t
learns_no_news t stable c le = subst (λ b. RaisesWhere b t t c.pos) (sym (not_above stable.pos c.pos le)) refl

pub learns_news : (old new : Normal) (stable c : StableCert) → stable.pos < c.pos → Becomes old new (λ x. above_low x c.pos) → Learns stable (Some c) old new
learns_news old new stable c lt becomes = subst (λ b. RaisesWhere b old new c.pos) (sym (lt-ltb stable.pos c.pos lt)) becomes

pub left_by_learning : (old new : Normal) (stable : StableCert) (c : Option StableCert) → low_of old.checkpoints ≡ stable.pos → Learns stable c old new → StandsAt (further stable c).pos old new
left_by_learning old new stable None at same = record { shape_is = ap (λ (t : Normal). t.shape) same; host_is = ap (λ (t : Normal). t.host) same; low_is = ap (λ (t : Normal). low_of t.checkpoints) same ∙ at }
left_by_learning old new stable (Some c) at learns = by_test (nat_lt stable.pos c.pos) learns where
  by_test : (b : Bool) → RaisesWhere b old new c.pos → StandsAt (if b then c else stable).pos old new
  by_test true becomes = left_by_call old new (λ x. above_low x c.pos) becomes
  by_test false same = record { shape_is = ap (λ (t : Normal). t.shape) same; host_is = ap (λ (t : Normal). t.host) same; low_is = ap (λ (t : Normal). low_of t.checkpoints) same ∙ at }

-- ---- the first slot and the first vote

pub nothing_if : {A : Type 0} (b : Bool) (o : Option A) → o ≡ None → (if b then o else None) ≡ None
nothing_if true o e = e
nothing_if false o e = refl

none_is : {A : Type 0} (o : Option A) → is_some o ≡ false → o ≡ None
none_is None e = refl
none_is (Some x) e = absurd cc

module _ {A : Type 0} where
  in_free : (old : Option A) (b : Bool) (x : A) → (b ≡ true → old ≡ None) → option_or old (if b then Some x else None) ≡ (if b then Some x else old)
  in_free old true x free = rw (free refl) refl
  in_free old false x free = or_nothing old

  in_held : (old : Option A) (b : Bool) (x : A) → (b ≡ true → is_some old ≡ true) → option_or old (if b then Some x else None) ≡ old
  in_held None true x held = let no = held refl in absurd cc
  in_held None false x held = refl
  in_held (Some y) b x held = refl

left_part : (a b : Bool) → (a && b) ≡ true → a ≡ true
left_part a b e = (and_parts a b e).0

right_part : (a b : Bool) → (a && b) ≡ true → b ≡ true
right_part a b e = (and_parts a b e).1

module _ (s : Shape) (x : Searches) where
  place_there : (pos : ℕ) → x.low < pos → pos ≤ x.low + span s → has_place s x pos ≡ true
  place_there pos lt le = rw (lt-ltb x.low pos lt, le-leb pos (x.low + span s) le) refl

  place_below : (pos : ℕ) → pos ≤ x.low → has_place s x pos ≡ true → ⊥
  place_below pos le e = let lt = ltb-true x.low pos (left_part (nat_lt x.low pos) (nat_le pos (x.low + span s)) e) in omega (arith, le, lt)

  place_beyond : (pos : ℕ) → x.low + span s < pos → has_place s x pos ≡ true → ⊥
  place_beyond pos lt e = let le = leb-true pos (x.low + span s) (right_part (nat_lt x.low pos) (nat_le pos (x.low + span s)) e) in omega (arith, le, lt)

-- what the contract of the call says, whatever its result
pub slot_put_or_refused : (old new : Normal) (pos : ℕ) (slot : KnownSlot) (r : Result (Unit {0}) (Refused (Option Batch)))
    → ((s : Shape) (host : ℕ) (x : Searches) → Represents s host old x → RefusesIn x.low (span s) (is_some (x.slots pos)) pos slot.batch r)
    → OnOk r (Becomes old new (λ x. with_slot x pos slot)) → OnErr r (new ≡ old) → PutsSlot old new pos slot
slot_put_or_refused old new pos slot r refused stands err s host x st = by_result r (refused s host x st) stands err where
  goal : Searches
  goal = with_first_slot s x pos slot

  stays : new ≡ old → ((p : ℕ) → (has_place s x pos && p == pos) ≡ true → is_some (x.slots p) ≡ true) → Represents s host new (with_first_slot s x pos slot)
  stays same held = subst (λ (t : Normal). Represents s host t (with_first_slot s x pos slot)) (sym same) (stands_alike s host old x (with_first_slot s x pos slot) st (record {
    low = refl;
    slots = λ p. in_held (x.slots p) (has_place s x pos && p == pos) slot (held p);
    votes = λ h p. refl;
    pending = λ c lt. refl;
    checkpoints = λ h n lt le. refl;
  }))

  put : x.low < pos → pos ≤ x.low + span s → is_some (x.slots pos) ≡ false → Becomes old new (λ x. with_slot x pos slot) → Represents s host new (with_first_slot s x pos slot)
  put lt le free becomes = stands_alike s host new (with_slot x pos slot) (with_first_slot s x pos slot) (becomes s host x st) (record {
    low = refl;
    slots = λ p. rw (place_there s x pos lt le) (in_free (x.slots p) (p == pos) slot (λ e. ap x.slots (eqb-true p pos e) ∙ none_is (x.slots pos) free));
    votes = λ h p. refl;
    pending = λ c lt. refl;
    checkpoints = λ h n lt le. refl;
  })

  by_result : (r : Result (Unit {0}) (Refused (Option Batch))) → RefusesIn x.low (span s) (is_some (x.slots pos)) pos slot.batch r → OnOk r (Becomes old new (λ x. with_slot x pos slot)) → OnErr r (new ≡ old)
      → Represents s host new (with_first_slot s x pos slot)
  by_result (Ok u) e stands err = put e.0 e.1 e.2 stands
  by_result (Err (Below l back)) e stands err = stays err (λ p b. absurd (place_below s x pos e.0 (left_part (has_place s x pos) (p == pos) b)))
  by_result (Err (Beyond l back)) e stands err = stays err (λ p b. absurd (place_beyond s x pos e.0 (left_part (has_place s x pos) (p == pos) b)))
  by_result (Err (Filled back)) e stands err = stays err (λ p b. ap (λ q. is_some (x.slots q)) (eqb-true p pos (right_part (has_place s x pos) (p == pos) b)) ∙ e.2)

pub vote_counted_or_refused : (old new : Normal) (pos voter : ℕ) (vote : Vote) (r : Result (Unit {0}) (Refused Vote))
    → ((s : Shape) (host : ℕ) (x : Searches) → Represents s host old x → RefusesIn x.low (span s) (is_some (x.votes voter pos)) pos vote r)
    → OnOk r (Becomes old new (λ x. with_vote x pos voter vote)) → OnErr r (new ≡ old) → CountsVote old new pos voter vote
vote_counted_or_refused old new pos voter vote r refused stands err s host x st = by_result r (refused s host x st) stands err where
  same_place : (h p : ℕ) → (p == pos && h == voter) ≡ true → x.votes h p ≡ x.votes voter pos
  same_place h p e =
      let c = and_parts (p == pos) (h == voter) e in
      ap (λ g. x.votes g p) (eqb-true h voter c.1) ∙ ap (x.votes voter) (eqb-true p pos c.0)

  stays : new ≡ old → ((h p : ℕ) → (has_place s x pos && (p == pos && h == voter)) ≡ true → is_some (x.votes h p) ≡ true) → Represents s host new (with_first_vote s x pos voter vote)
  stays same held = subst (λ (t : Normal). Represents s host t (with_first_vote s x pos voter vote)) (sym same) (stands_alike s host old x (with_first_vote s x pos voter vote) st (record {
    low = refl;
    slots = λ p. refl;
    votes = λ h p. in_held (x.votes h p) (has_place s x pos && (p == pos && h == voter)) vote (held h p);
    pending = λ c lt. refl;
    checkpoints = λ h n lt le. refl;
  }))

  put : x.low < pos → pos ≤ x.low + span s → is_some (x.votes voter pos) ≡ false → Becomes old new (λ x. with_vote x pos voter vote) → Represents s host new (with_first_vote s x pos voter vote)
  put lt le free becomes = stands_alike s host new (with_vote x pos voter vote) (with_first_vote s x pos voter vote) (becomes s host x st) (record {
    low = refl;
    slots = λ p. refl;
    votes = λ h p. rw (place_there s x pos lt le) (in_free (x.votes h p) (p == pos && h == voter) vote (λ e. same_place h p e ∙ none_is (x.votes voter pos) free));
    pending = λ c lt. refl;
    checkpoints = λ h n lt le. refl;
  })

  by_result : (r : Result (Unit {0}) (Refused Vote)) → RefusesIn x.low (span s) (is_some (x.votes voter pos)) pos vote r → OnOk r (Becomes old new (λ x. with_vote x pos voter vote)) → OnErr r (new ≡ old)
      → Represents s host new (with_first_vote s x pos voter vote)
  by_result (Ok u) e stands err = put e.0 e.1 e.2 stands
  by_result (Err (Below l back)) e stands err = stays err (λ h p b. absurd (place_below s x pos e.0 (left_part (has_place s x pos) (p == pos && h == voter) b)))
  by_result (Err (Beyond l back)) e stands err = stays err (λ h p b. absurd (place_beyond s x pos e.0 (left_part (has_place s x pos) (p == pos && h == voter) b)))
  by_result (Err (Filled back)) e stands err = stays err (λ h p b. ap is_some (same_place h p (right_part (has_place s x pos) (p == pos && h == voter) b)) ∙ e.2)

-- ---- a certificate that is learnt

module _ (s : Shape) (host : ℕ) (t : Normal) (x : Searches) (st : Represents s host t x) where
  -- Nothing is found at or below the stable position.
  slot_below : (p : ℕ) → nat_le p x.low ≡ true → x.slots p ≡ None
  slot_below p le = sym (st.slots.finds p) ∙ ap (λ b. cond b None (flat (slice_get t.slots.window.items (p - t.slots.window.low - 1)))) (ap (nat_le p) st.slots.low_is ∙ le)

  vote_below : (h p : ℕ) → nat_le p x.low ≡ true → x.votes h p ≡ None
  vote_below h p le =
      sym (st.votes.finds h p)
      ∙ ap (λ b. kept_in (cond b None (flat (slice_get t.votes.ballots.items (p - t.votes.ballots.low - 1)))) h) (ap (nat_le p) st.votes.low_is ∙ le)

  unmoved : {A : Type 0} (b : Bool) (o : Option A) → (b ≡ true → o ≡ None) → (if b then None else o) ≡ o
  unmoved true o none = sym (none refl)
  unmoved false o none = refl

  -- so a raise to where it is changes nothing
  pub raised_nowhere : (low : ℕ) → x.low ≡ low → Represents s host t (above_low x low)
  raised_nowhere low at = stands_alike s host t x (above_low x low) st (record {
    low = sym at;
    slots = λ p. unmoved (nat_le p low) (x.slots p) (λ le. slot_below p (ap (nat_le p) at ∙ le));
    votes = λ h p. unmoved (nat_le p low) (x.votes h p) (λ le. vote_below h p (ap (nat_le p) at ∙ le));
    pending = λ c lt. refl;
    checkpoints = λ h n lt le. refl;
  })

  pub raised_where_above : (new : Normal) (stable : StableCert) (c : Option StableCert) → x.low ≡ stable.pos → Learns stable c t new → Represents s host new (above_low x (further stable c).pos)
  raised_where_above new stable None at same = subst (λ (n : Normal). Represents s host n (above_low x stable.pos)) (sym same) (raised_nowhere stable.pos at)
  raised_where_above new stable (Some c) at learns = by_test (nat_lt stable.pos c.pos) learns where
    by_test : (b : Bool) → RaisesWhere b t new c.pos → Represents s host new (above_low x (if b then c else stable).pos)
    by_test true becomes = becomes s host x st
    by_test false same = subst (λ (n : Normal). Represents s host n (above_low x stable.pos)) (sym same) (raised_nowhere stable.pos at)

-- ---- clients that are settled, one after the other

module _ (s : Shape) (host : ℕ) (x : Searches) (numbers : ℕ → ℕ) where
  pub none_settled : (t : Normal) → Represents s host t x → Represents s host t (settled_below x numbers 0)
  none_settled t st = stands_alike s host t x (settled_below x numbers 0) st (record {
    low = refl;
    slots = λ p. refl;
    votes = λ h p. refl;
    pending = λ c lt. ap (λ b. cond b (if_above (numbers c) (x.pending c)) (x.pending c)) (not_above c 0 (omega arith));
    checkpoints = λ h n lt le. refl;
  })

  pub one_settled : (t new : Normal) (n : ℕ) → Represents s host t (settled_below x numbers n) → Becomes t new (λ y. with_settled y n (numbers n)) → Represents s host new (settled_below x numbers (n + 1))
  one_settled t new n st becomes = stands_alike s host new (with_settled (settled_below x numbers n) n (numbers n)) (settled_below x numbers (n + 1)) (becomes s host (settled_below x numbers n) st) (record {
    low = refl;
    slots = λ p. refl;
    votes = λ h p. refl;
    pending = λ c lt. next c;
    checkpoints = λ h n lt le. refl;
  }) where
    next : (c : ℕ) → (if nat_lt c (n + 1) then if_above (numbers c) (x.pending c) else x.pending c)
        ≡ (if n == c then if_above (numbers n) (if nat_lt c n then if_above (numbers c) (x.pending c) else x.pending c) else (if nat_lt c n then if_above (numbers c) (x.pending c) else x.pending c))
    next c = elim (cases_Bool (n == c)) [
      | inl same ↦
          let at : n ≡ c = eqb-true n c same in
          rw (same, at, not_above c c (omega arith), lt-ltb c (c + 1) (omega arith)) refl
      | inr other ↦ rw other (elim (cases_Bool (nat_lt c n)) [
        | inl less ↦ rw (less, lt-ltb c (n + 1) (let lt = ltb-true c n less in omega (arith, lt))) refl
        | inr not_so ↦ rw (not_so, not_above c (n + 1) (let more = strictly c n (λ e. eqb-false n c other (sym e)) (ltb-false c n not_so) in omega (arith, more))) refl
      ])
    ]

-- ---- behind an entry

module _ {S : Type 0} (self : Identity S) where
  -- At first the tables are empty.
  pub normal_begins : (t : Normal) → Represents self.shape self.host t (nothing_above 0) → NormalStands self t []
  unfolding stable_of slot_in vote_of pending checkpoint_of
  normal_begins t st = stands_alike self.shape self.host t (nothing_above 0) (searches_in self []) st (record {
    low = refl;
    slots = λ p. nothing_if (in_window self [] p) None refl;
    votes = λ h p. nothing_if (in_window self [] p) None refl;
    pending = λ c lt. refl;
    checkpoints = λ h n lt le. refl;
  })

  -- An entry that doesn't speak of positions leaves the tables.
  pub normal_stays : (e : Entry) (d : History) (t : Normal) → Arises self (e ∷ d) → speaks_of_positions e ≡ false → NormalStands self t d → NormalStands self t (e ∷ d)
  normal_stays e d t a s st =
      let same = positions_left self e d a s in
      stands_alike self.shape self.host t (searches_in self d) (searches_in self (e ∷ d)) st (record {
        low = same.low;
        slots = same.slots;
        votes = same.votes;
        pending = λ c lt. same.requests c;
        checkpoints = λ h n lt le. same.checkpoints h (n * interval self.shape);
      })

  -- the tables stand at the stable position, and for the shape and the host
  pub low_stands : (d : History) (t : Normal) → NormalStands self t d → (t.shape ≡ self.shape) × (t.host ≡ self.host) × (low_of t.checkpoints ≡ low_in self d)
  low_stands d t st = (st.shape_is, st.host_is, st.checkpoints.low_is)

  -- ---- pending requests

  module _ (e : Entry) (d : History) (a : Arises self (e ∷ d)) (stays : changes_view e ≡ false) (stable : speaks_of_stable e ≡ false) (slots : speaks_of_slots e ≡ false) (votes : speaks_of_votes e ≡ false)
      (checkpoints : speaks_of_checkpoints e ≡ false) where
    requests_alone : (f : ℕ → Option Request) → ((c : ℕ) → c < client_count self.shape → pending self (e ∷ d) c ≡ f c) → Alike self.shape (record (searches_in self d) { pending = f }) (searches_in self (e ∷ d))
    requests_alone f is =
        let view = view_stays self e d a stays in
        let low = low_stays self e d stable in
        record {
          low = low;
          slots = λ p. slot_at_stays self e d p slots view low;
          votes = λ h p. vote_at_stays self e d h p votes view low;
          pending = is;
          checkpoints = λ h n lt le. checkpoints_stay self e d h (n * interval self.shape) checkpoints;
        }

  -- A request was accepted.
  pub request_pended : (r : Request) (d : History) (t new : Normal) → Arises self (Accepted (message.Request r) ∷ d) → Becomes t new (λ x. with_pending x r) → NormalStands self t d
      → NormalStands self new (Accepted (message.Request r) ∷ d)
  request_pended r d t new a becomes st =
      stands_alike self.shape self.host new (with_pending (searches_in self d) r) (searches_in self (Accepted (message.Request r) ∷ d)) (becomes self.shape self.host (searches_in self d) st)
      (requests_alone (Accepted (message.Request r)) d a refl refl refl refl refl (with_pending (searches_in self d) r).pending (λ c lt. request_put self r d c))

  -- A request of a batch was served.
  pub request_served : (pos : ℕ) (placed : Placed) (d : History) (t new : Normal) → Arises self (Served pos placed ∷ d) → Becomes t new (λ x. with_settled x placed.request.client placed.request.seq) → NormalStands self t d
      → NormalStands self new (Served pos placed ∷ d)
  request_served pos placed d t new a becomes st =
      stands_alike self.shape self.host new (with_settled (searches_in self d) placed.request.client placed.request.seq) (searches_in self (Served pos placed ∷ d)) (becomes self.shape self.host (searches_in self d) st)
      (requests_alone (Served pos placed) d a refl refl refl refl refl (with_settled (searches_in self d) placed.request.client placed.request.seq).pending (λ c lt. request_settled self pos placed d c))

  -- A state was installed: all clients were settled by its table, one after the other (`none_settled`, `one_settled`).
  pub requests_settled : (pos : ℕ) (parts : List Bytes) (d : History) (t : Normal) → Arises self (Installed pos parts ∷ d)
      → Represents self.shape self.host t (settled_below (searches_in self d) (installed_numbers self pos parts d) (client_count self.shape)) → NormalStands self t (Installed pos parts ∷ d)
  requests_settled pos parts d t a st =
      let numbers = installed_numbers self pos parts d in
      stands_alike self.shape self.host t (settled_below (searches_in self d) numbers (client_count self.shape)) (searches_in self (Installed pos parts ∷ d)) st
      (requests_alone (Installed pos parts) d a refl refl refl refl refl (settled_below (searches_in self d) numbers (client_count self.shape)).pending (λ c lt.
      requests_adopted self pos parts d c ∙ sym (ap (λ b. cond b (if_above (numbers c) (pending self d c)) (pending self d c)) (lt-ltb c (client_count self.shape) lt))))
