-- Slots, votes and CHECKPOINTs behind an entry: PREPAREs and COMMITs, CHECKPOINTs with the certificates that they complete, and the certificates that
-- others show.
use Rattle.std.proofs.Common.{◌≡◌, ℕ, ◌+◌, ◌-◌, ◌*◌, ◌/◌, ◌<◌, ◌≤◌, Bool, true, false, ◌&&◌, ◌∷◌, refl, sym, ap, ◌∙◌, subst, inl, inr, arith, Option, Some, None, div-add-mod', le_of_mul-le-mul_right}
use Rattle.std.specs.Prelude.{◌==◌, ◌%◌, nat_lt, nat_le, if◌then◌else◌}
use Rattle.std.specs.Option.{option_or}
use Rattle.std.proofs.Math.Path.{fun_ext}
use Rattle.std.proofs.lemmas.Bool.{cases_Bool, and_parts, eq-eqb, ne_eqb, eqb-true, eqb-false, ltb-false, leb-true, leb-false}
use Rattle.mb_base.specs.declared.shape.Shape.{Shape}
use Rattle.mb_base.specs.Shapes.{host_count, interval, span}
use Rattle.mb_parts.specs.declared.certificates.StableCert.{StableCert}
use Rattle.mb_parts.specs.Ordered.{permits, last_checkpoint}
use Rattle.mb_msg.specs.declared.message.Message.TheVariants as message
use Rattle.mb_msg.specs.declared.normal.Prepare.{Prepare}
use Rattle.mb_msg.specs.declared.normal.Commit.{Commit}
use Rattle.mb_msg.specs.declared.normal.Checkpoint.{Checkpoint}
use Rattle.mb_msg.specs.declared.change.Join.{Join}
use Rattle.mb_msg.specs.declared.transfer.Log.{Log}
use Rattle.mb_msg.specs.declared.stamped.Stamped.{Stamped as StampedMessage}
use Rattle.mb_msg.specs.declared.stamped.Stamped.TheVariants as stamped
use Rattle.mb_model.specs.declared.known.Vote.{Vote}
use Rattle.mb_model.specs.declared.known.KnownSlot.{KnownSlot}
use Rattle.mb_model.specs.Histories.{Entry, Accepted, Stamped, Executed, History, Identity, view_of, origin, taken_of}
use Rattle.mb_model.specs.Stable.{low_of, stable_of, further, learnt_in, checkpoint_in, checkpoint_by, checkpoint_of}
use Rattle.mb_model.specs.Stable as history
use Rattle.mb_model.specs.Positions.{position_limit, in_window, counts_at, slot_at, vote_at, counts_opens, exec_of}
use Rattle.mb_model.specs.EnabledRules.{Rule, Commit as CommitAt, Prepare as PrepareAt, with_batch, commit_enabled, prepare_enabled, next_position, may_order, unordered}
use Rattle.mb_model.specs.Batches.{first_batch}
use Rattle.mb_model.proofs.Options.{if_some, map_some}
use Rattle.mb_steps.specs.Arises.{Arises, JustExecuted}
use Rattle.mb_steps.proofs.StepPotential.{order_parts}
use Rattle.mb_history_laws.specs.Speaks.{changes_view, speaks_of_stable, speaks_of_slots, speaks_of_votes, speaks_of_requests, speaks_of_checkpoints}
use Rattle.mb_history_laws.specs.Behind.{slot_in_prepare, vote_in_prepare, vote_in_commit}
use Rattle.mb_history_laws.proofs.Framing.{checkpoints_stay, low_stays, requests_stay, slot_at_stays}
use Rattle.mb_history_laws.proofs.Standing.{view_stays}
use Rattle.mb_history_laws.proofs.Voted.{SaysSlot, SaysVote, slot_more, vote_more, slot_out, vote_out, slot_raised, vote_raised, prepare_says, own_prepare_says, prepare_votes, commit_votes, own_prepare_votes, own_commit_votes}
use Rattle.mb_history_laws.proofs.Certified.{checkpoint_put, own_checkpoint_put, stable_shown, stable_in_log, stable_agreed, own_stable_agreed, exec_within}
use Rattle.mb_checkpoints.specs.Kept.{IsKeptPlace, low_of as kept_low}
use Rattle.mb_checkpoints.specs.Certificates.{agreed_above}
use Rattle.mb_checkpoints.proofs.InHistories.{learns}
use Rattle.mb_window.specs.Represents.{above}
use Rattle.mb_votes.specs.Votes.{votes_above}
use Rattle.mb_normal.specs.declared.normal.Normal.{Normal}
use Rattle.mb_normal.specs.Searches.{searches_in, with_checkpoint, above_low}
use Rattle.mb_normal.specs.Tables.{Represents, Becomes}
use Rattle.mb_refinement.specs.Positions.{Alike, has_place, with_first_slot, with_first_vote, PutsSlot, CountsVote, Learns, AnswersStable}
use Rattle.mb_refinement.specs.Stands.{NormalStands}
use Rattle.mb_refinement.proofs.Positions.{stands_alike, raised_nowhere, raised_where_above}

-- ---- over plain values

pub turned : (a b : ℕ) → (a == b) ≡ (b == a)
turned a b = elim (cases_Bool (b == a)) [
  | inl same ↦ rw same (eq-eqb a b (sym (eqb-true b a same)))
  | inr other ↦ rw other (ne_eqb a b (λ e. eqb-false b a other (sym e)))
]

-- what counts in the view, at a place of the window, counts at a place of the tables
counted_place : {A : Type 0} (inside in_view fits at : Bool) (x : A) → in_view ≡ true → fits ≡ true → (at ≡ true → inside ≡ true) → (if inside then (if in_view && at then Some x else None) else None) ≡ (if fits && at then Some x else None)
counted_place inside in_view fits true x e f i = rw (e, f, i refl) refl
counted_place true in_view fits false x e f i = rw (e, f) refl
counted_place false in_view fits false x e f i = rw f refl

-- A multiple of the interval that is not below the stable position, and at most two intervals above it, is a place of kept CHECKPOINTs.
pub is_kept_place : (t : Normal) (pos : ℕ) → (pos % interval t.shape == 0) ≡ true → kept_low t.checkpoints ≤ pos → pos ≤ kept_low t.checkpoints + span t.shape → IsKeptPlace t.checkpoints pos
is_kept_place t pos whole from within = (number - first, near, place) where
  k : ℕ
  k = interval t.shape

  first : ℕ
  first = t.checkpoints.first

  number : ℕ
  number = pos / k

  low : first * k ≡ kept_low t.checkpoints
  low = sym (ap (λ (y : Shape). first * interval y) t.checkpoints_shape)

  at : number * k ≡ pos
  at = let none_left = eqb-true (pos % k) 0 whole in let parts = div-add-mod' pos k in omega (arith, none_left, parts)

  some : 0 < k
  some = let least = t.shape.interval_in.0 in omega (arith, least)

  behind : first ≤ number
  behind = le_of_mul-le-mul_right {k = k} (omega (arith, low, at, from)) some

  two_more : (a c : ℕ) → (a + 2) * c ≡ a * c + 2 * c
  two_more a c = grind arith

  before : number ≤ first + 2
  before = le_of_mul-le-mul_right {k = k} (omega (arith, low, at, within, two_more first k)) some

  near : number - first ≤ 2
  near = omega (arith, behind, before)

  place : pos ≡ (first + (number - first)) * interval t.checkpoints.shape
  place =
      let sum : first + (number - first) ≡ number = omega (arith, behind) in
      sym at ∙ ap (λ n. n * k) (sym sum) ∙ sym (ap (λ (y : Shape). (first + (number - first)) * interval y) t.checkpoints_shape)

module _ {S : Type 0} (self : Identity S) where
  -- So it is with a CHECKPOINT within the window.
  kept_place : (d : History) (t : Normal) (pos : ℕ) → NormalStands self t d → (pos % interval self.shape == 0) ≡ true → low_of self d ≤ pos → pos ≤ low_of self d + span self.shape → IsKeptPlace t.checkpoints pos
  kept_place d t pos st whole from within =
      let low : kept_low t.checkpoints ≡ low_of self d = st.checkpoints.low_is in
      let width : span t.shape ≡ span self.shape = ap span st.shape_is in
      is_kept_place t pos (subst (λ (y : Shape). (pos % interval y == 0) ≡ true) (sym st.shape_is) whole) (omega (arith, low, from)) (omega (arith, low, width, within))

  -- a position of the window has a place
  pub window_has_place : (d : History) (p : ℕ) → in_window self d p ≡ true → has_place self.shape (searches_in self d) p ≡ true
  window_has_place d p e =
      let a = and_parts (nat_lt (low_of self d) p) (nat_le p (low_of self d + span self.shape) && nat_le p position_limit) e in
      let b = and_parts (nat_le p (low_of self d + span self.shape)) (nat_le p position_limit) a.1 in
      rw (a.0, b.0) refl

  in_view : (d : History) (view p : ℕ) → counts_at self d view p ≡ true → ((view == view_of self d) ≡ true) × (in_window self d p ≡ true)
  in_view d view p e = let a = and_parts (view_of self d == view) (in_window self d p) e in (turned view (view_of self d) ∙ a.0, a.1)

module _ {S : Type 0} (self : Identity S) where
  -- ---- one slot, and one vote

  module _ (e : Entry) (d : History) (a : Arises self (e ∷ d)) (stays : changes_view e ≡ false) (stable : speaks_of_stable e ≡ false) (requests : speaks_of_requests e ≡ false)
      (checkpoints : speaks_of_checkpoints e ≡ false) where
    pub positions_alone : (f : ℕ → Option KnownSlot) (g : ℕ → ℕ → Option Vote) → ((p : ℕ) → slot_at self (e ∷ d) p ≡ f p) → ((h p : ℕ) → vote_at self (e ∷ d) h p ≡ g h p)
        → Alike self.shape (record (searches_in self d) { slots = f; votes = g }) (searches_in self (e ∷ d))
    positions_alone f g slots votes = record {
      low = low_stays self e d stable;
      slots = slots;
      votes = votes;
      pending = λ c lt. requests_stay self e d c requests;
      checkpoints = λ h n lt le. checkpoints_stay self e d h (n * interval self.shape) checkpoints;
    }

    first_slot : (view pos : ℕ) (k : KnownSlot) → SaysSlot self e view pos k → counts_at self d view pos ≡ true → (p : ℕ) → slot_at self (e ∷ d) p ≡ (with_first_slot self.shape (searches_in self d) pos k).slots p
    first_slot view pos k says counts p =
        let c = in_view self d view pos counts in
        slot_more self e d a stays stable p ∙ ap (option_or (slot_at self d p))
        (ap (λ (o : Option KnownSlot). if in_window self d p then o else None) (says (view_of self d) p ∙ ap (λ b. if view == view_of self d && b then Some k else None) (turned pos p))
        ∙ counted_place (in_window self d p) (view == view_of self d) (has_place self.shape (searches_in self d) pos) (p == pos) k c.0 (window_has_place self d pos c.1)
        (λ same. ap (in_window self d) (eqb-true p pos same) ∙ c.1))

    first_vote : counts_opens e ≡ false → (host view pos : ℕ) (x : Vote) → SaysVote self e host view pos x → counts_at self d view pos ≡ true
        → (h p : ℕ) → vote_at self (e ∷ d) h p ≡ (with_first_vote self.shape (searches_in self d) pos host x).votes h p
    first_vote opens host view pos x says counts h p =
        let c = in_view self d view pos counts in
        vote_more self e d a stays stable opens h p ∙ ap (option_or (vote_at self d h p))
        (ap (λ (o : Option Vote). if in_window self d p then o else None) (says h (view_of self d) p ∙ ap (λ b. if view == view_of self d && (b && host == h) then Some x else None) (turned pos p)
        ∙ ap (λ b. if view == view_of self d && (p == pos && b) then Some x else None) (turned host h))
        ∙ counted_place (in_window self d p) (view == view_of self d) (has_place self.shape (searches_in self d) pos) (p == pos && h == host) x c.0 (window_has_place self d pos c.1)
        (λ same. ap (in_window self d) (eqb-true p pos (and_parts (p == pos) (h == host) same).0) ∙ c.1))

    -- both count
    ordered : counts_opens e ≡ false → (host view pos : ℕ) (k : KnownSlot) (x : Vote) → SaysSlot self e view pos k → SaysVote self e host view pos x → counts_at self d view pos ≡ true
        → (t : Normal) → Represents self.shape self.host t (with_first_slot self.shape (with_first_vote self.shape (searches_in self d) pos host x) pos k) → NormalStands self t (e ∷ d)
    ordered opens host view pos k x slot vote counts t st =
        stands_alike self.shape self.host t (with_first_slot self.shape (with_first_vote self.shape (searches_in self d) pos host x) pos k) (searches_in self (e ∷ d)) st
        (positions_alone (with_first_slot self.shape (searches_in self d) pos k).slots (with_first_vote self.shape (searches_in self d) pos host x).votes
        (first_slot view pos k slot counts) (first_vote opens host view pos x vote counts))

    -- a vote alone counts
    voted : counts_opens e ≡ false → speaks_of_slots e ≡ false → (host view pos : ℕ) (x : Vote) → SaysVote self e host view pos x → counts_at self d view pos ≡ true
        → (t : Normal) → Represents self.shape self.host t (with_first_vote self.shape (searches_in self d) pos host x) → NormalStands self t (e ∷ d)
    voted opens slots host view pos x vote counts t st =
        stands_alike self.shape self.host t (with_first_vote self.shape (searches_in self d) pos host x) (searches_in self (e ∷ d)) st
        (positions_alone (slot_at self d) (with_first_vote self.shape (searches_in self d) pos host x).votes
        (λ p. slot_at_stays self e d p slots (view_stays self e d a stays) (low_stays self e d stable)) (first_vote opens host view pos x vote counts))

  -- ---- PREPARE

  -- An accepted one that counts is its sender's vote, and the slot of its position.
  pub prepare_counts : (m : Prepare) (d : History) (t voted new : Normal) → Arises self (Accepted (message.Prepare m) ∷ d) → counts_at self d m.view m.pos ≡ true
      → CountsVote t voted m.pos m.ui.host (vote_in_prepare m) → PutsSlot voted new m.pos (slot_in_prepare m) → NormalStands self t d → NormalStands self new (Accepted (message.Prepare m) ∷ d)
  prepare_counts m d t mid new a counts vote slot st =
      ordered (Accepted (message.Prepare m)) d a refl refl refl refl refl m.ui.host m.view m.pos (slot_in_prepare m) (vote_in_prepare m) (prepare_says self m) (prepare_votes self m) counts new
      (slot self.shape self.host (with_first_vote self.shape (searches_in self d) m.pos m.ui.host (vote_in_prepare m)) (vote self.shape self.host (searches_in self d) st))

  pub prepare_does_not_count : (m : Prepare) (d : History) (t : Normal) → Arises self (Accepted (message.Prepare m) ∷ d) → counts_at self d m.view m.pos ≡ false → NormalStands self t d → NormalStands self t (Accepted (message.Prepare m) ∷ d)
  prepare_does_not_count m d t a out st =
      let e : Entry = Accepted (message.Prepare m) in
      stands_alike self.shape self.host t (searches_in self d) (searches_in self (e ∷ d)) st (positions_alone e d a refl refl refl refl (slot_at self d) (vote_at self d)
      (slot_out self e d a refl refl m.view m.pos (slot_in_prepare m) (prepare_says self m) out)
      (vote_out self e d a refl refl refl m.ui.host m.view m.pos (vote_in_prepare m) (prepare_votes self m) out))

  -- The own one counts where the rule of the primary made it.
  own_prepare_place : (m : Prepare) (d : History) → Arises self (Stamped (stamped.Prepare m) ∷ d) → counts_at self d m.view m.pos ≡ true
  unfolding prepare_enabled
  own_prepare_place m d ((p, b, e, is), arises) =
      let q = if_some (may_order self d) _ (PrepareAt p b) e in
      let found = map_some (PrepareAt (next_position self d)) (first_batch (unordered self d)) (PrepareAt p b) q.1 in
      let at : m.pos ≡ next_position self d = sym (ap place_of is) ∙ sym (ap place_in found.2) in
      let view : m.view ≡ view_of self d = sym (ap view_in is) in
      rw (view, at, eq-eqb (view_of self d) (view_of self d) refl) ((order_parts self d q.0).inside) where
        place_of : StampedMessage → ℕ
        place_of (stamped.Prepare m) = m.pos
        place_of m = 0

        view_in : StampedMessage → ℕ
        view_in (stamped.Prepare m) = m.view
        view_in m = 0

        place_in : Rule → ℕ
        place_in (PrepareAt p b) = p
        place_in r = 0

  pub own_prepare_counts : (m : Prepare) (d : History) (t put new : Normal) → Arises self (Stamped (stamped.Prepare m) ∷ d) → PutsSlot t put m.pos (slot_in_prepare m)
      → CountsVote put new m.pos self.host (vote_in_prepare m) → NormalStands self t d → NormalStands self new (Stamped (stamped.Prepare m) ∷ d)
  own_prepare_counts m d t mid new a slot vote st =
      ordered (Stamped (stamped.Prepare m)) d a refl refl refl refl refl self.host m.view m.pos (slot_in_prepare m) (vote_in_prepare m) (own_prepare_says self m) (own_prepare_votes self m) (own_prepare_place m d a) new
      (vote self.shape self.host (with_first_slot self.shape (searches_in self d) m.pos (slot_in_prepare m)) (slot self.shape self.host (searches_in self d) st))

  -- ---- COMMIT

  pub commit_counts : (m : Commit) (d : History) (t new : Normal) → Arises self (Accepted (message.Commit m) ∷ d) → counts_at self d m.view m.pos ≡ true → CountsVote t new m.pos m.ui.host (vote_in_commit m) → NormalStands self t d
      → NormalStands self new (Accepted (message.Commit m) ∷ d)
  commit_counts m d t new a counts vote st =
      voted (Accepted (message.Commit m)) d a refl refl refl refl refl refl m.ui.host m.view m.pos (vote_in_commit m) (commit_votes self m) counts new (vote self.shape self.host (searches_in self d) st)

  pub commit_does_not_count : (m : Commit) (d : History) (t : Normal) → Arises self (Accepted (message.Commit m) ∷ d) → counts_at self d m.view m.pos ≡ false → NormalStands self t d → NormalStands self t (Accepted (message.Commit m) ∷ d)
  commit_does_not_count m d t a out st =
      let e : Entry = Accepted (message.Commit m) in
      stands_alike self.shape self.host t (searches_in self d) (searches_in self (e ∷ d)) st (positions_alone e d a refl refl refl refl (slot_at self d) (vote_at self d)
      (λ p. slot_at_stays self e d p refl (view_stays self e d a refl) (low_stays self e d refl))
      (vote_out self e d a refl refl refl m.ui.host m.view m.pos (vote_in_commit m) (commit_votes self m) out))

  -- The own one counts where the rule of a backup made it.
  own_commit_place : (m : Commit) (d : History) → Arises self (Stamped (stamped.Commit m) ∷ d) → counts_at self d m.view m.pos ≡ true
  unfolding commit_enabled
  own_commit_place m d ((p, k, b, e, is), arises) =
      let q = if_some _ (with_batch (CommitAt (next_position self d)) (slot_at self d (next_position self d))) (CommitAt p k b) e in
      let at : m.pos ≡ p = sym (ap place_of is) in
      let view : m.view ≡ view_of self d = sym (ap view_in is) in
      let found = of_slot (next_position self d) (in_window self d (next_position self d)) _ q.1 in
      rw (view, at, ← found.1, eq-eqb (view_of self d) (view_of self d) refl) found.0 where
        place_of : StampedMessage → ℕ
        place_of (stamped.Commit m) = m.pos
        place_of m = 0

        view_in : StampedMessage → ℕ
        view_in (stamped.Commit m) = m.view
        view_in m = 0

        place_in : Rule → ℕ
        place_in (CommitAt p k b) = p
        place_in r = 0

        of_slot : (n : ℕ) (inside : Bool) (o : Option KnownSlot) → with_batch (CommitAt n) (if inside then o else None) ≡ Some (CommitAt p k b) → (inside ≡ true) × (n ≡ p)
        of_slot n false o e = absurd cc
        of_slot n true None e = absurd cc
        of_slot n true (Some j) e = let found = map_some (CommitAt n j) j.batch (CommitAt p k b) e in (refl, ap place_in found.2)

  pub own_commit_counts : (m : Commit) (d : History) (t new : Normal) → Arises self (Stamped (stamped.Commit m) ∷ d) → CountsVote t new m.pos self.host (vote_in_commit m) → NormalStands self t d
      → NormalStands self new (Stamped (stamped.Commit m) ∷ d)
  own_commit_counts m d t new a vote st =
      voted (Stamped (stamped.Commit m)) d a refl refl refl refl refl refl self.host m.view m.pos (vote_in_commit m) (own_commit_votes self m) (own_commit_place m d a) new (vote self.shape self.host (searches_in self d) st)

  -- ---- certificates that others show: JOIN and LOG

  module _ (e : Entry) (d : History) (a : Arises self (e ∷ d)) (stays : changes_view e ≡ false) (slots : speaks_of_slots e ≡ false) (votes : speaks_of_votes e ≡ false) (requests : speaks_of_requests e ≡ false) where
    -- Behind an entry that may raise the stable position the searches are those above it, but for CHECKPOINTs.
    raised_alike : (f : ℕ → ℕ → Option Checkpoint) (low : ℕ) → low_of self (e ∷ d) ≡ low
        → ((h number : ℕ) → h < host_count self.shape → low ≤ number * interval self.shape → checkpoint_of (e ∷ d) h (number * interval self.shape) ≡ f h (number * interval self.shape))
        → Alike self.shape (record (above_low (searches_in self d) low) { checkpoints = f }) (searches_in self (e ∷ d))
    raised_alike f low is checkpoints = record {
      low = is;
      slots = λ p. slot_raised self e d a stays slots p ∙ ap (λ l. above l (slot_at self d) p) is;
      votes = λ h p. vote_raised self e d a stays votes h p ∙ ap (λ l. votes_above l (vote_at self d) h p) is;
      pending = λ c lt. requests_stay self e d c requests;
      checkpoints = checkpoints;
    }

    shown : speaks_of_checkpoints e ≡ false → (c : Option StableCert) → stable_of self (e ∷ d) ≡ further (stable_of self d) c → (t new : Normal) → Learns (stable_of self d) c t new → NormalStands self t d
        → NormalStands self new (e ∷ d)
    shown checkpoints c is t new learns st =
        let low = (further (stable_of self d) c).pos in
        stands_alike self.shape self.host new (above_low (searches_in self d) low) (searches_in self (e ∷ d))
        (raised_where_above self.shape self.host t (searches_in self d) st new (stable_of self d) c refl learns)
        (raised_alike (checkpoint_of d) low (ap (λ (y : StableCert). y.pos) is) (λ h i lt le. checkpoints_stay self e d h (i * interval self.shape) checkpoints))

  pub join_learnt : (m : Join) (d : History) (t new : Normal) → Arises self (Accepted (message.Join m) ∷ d) → Learns (stable_of self d) (Some m.stable) t new → NormalStands self t d → NormalStands self new (Accepted (message.Join m) ∷ d)
  join_learnt m d t new a learns st = shown (Accepted (message.Join m)) d a refl refl refl refl refl (Some m.stable) (stable_shown self m d) t new learns st

  pub log_learnt : (m : Log) (d : History) (t new : Normal) → Arises self (Accepted (message.Log m) ∷ d) → Learns (stable_of self d) (Some m.stable) t new → NormalStands self t d → NormalStands self new (Accepted (message.Log m) ∷ d)
  log_learnt m d t new a learns st = shown (Accepted (message.Log m)) d a refl refl refl refl refl (Some m.stable) (stable_in_log self m d) t new learns st

  -- ---- CHECKPOINTs

  module _ (e : Entry) (m : Checkpoint) (d : History) (a : Arises self (e ∷ d)) (stays : changes_view e ≡ false) (slots : speaks_of_slots e ≡ false) (votes : speaks_of_votes e ≡ false) (requests : speaks_of_requests e ≡ false)
      (put : (h p : ℕ) → checkpoint_of (e ∷ d) h p ≡ option_or (checkpoint_by h p (Some m)) (checkpoint_of d h p))
      (agreed : stable_of self (e ∷ d) ≡ further (stable_of self d) (if nat_le (low_of self d) m.pos then history.agreed_above self.shape (e ∷ d) (low_of self d) else None)) where
    not_looked_at : nat_le (low_of self d) m.pos ≡ false → (h p : ℕ) → low_of self d ≤ p → checkpoint_of (e ∷ d) h p ≡ checkpoint_of d h p
    not_looked_at below h p le =
        let lt : m.pos < low_of self d = leb-false (low_of self d) m.pos below in
        put h p ∙ ap (λ b. option_or (if m.ui.host == h && b then Some m else None) (checkpoint_of d h p)) (ne_eqb m.pos p (λ e. omega (arith, e, lt, le)))
        ∙ ap (λ o. option_or o (checkpoint_of d h p)) (never (m.ui.host == h)) where
          never : (b : Bool) → (if b && false then Some m else None) ≡ None
          never true = refl
          never false = refl

    is_below : nat_le (low_of self d) m.pos ≡ false → (t : Normal) → NormalStands self t d → NormalStands self t (e ∷ d)
    is_below below t st =
        let low : low_of self (e ∷ d) ≡ low_of self d = ap (λ (c : StableCert). c.pos) (agreed ∙ ap (λ b. further (stable_of self d) (if b then history.agreed_above self.shape (e ∷ d) (low_of self d) else None)) below) in
        stands_alike self.shape self.host t (above_low (searches_in self d) (low_of self d)) (searches_in self (e ∷ d)) (raised_nowhere self.shape self.host t (searches_in self d) st (low_of self d) refl)
        (raised_alike e d a stays slots votes requests (checkpoint_of d) (low_of self d) low (λ h i lt le. not_looked_at below h (i * interval self.shape) le))

    -- the search that a table with it stands for is that of the history
    checkpoints_are : (with_checkpoint (searches_in self d) m).checkpoints ≡ checkpoint_of (e ∷ d)
    checkpoints_are = fun_ext (λ h. fun_ext (λ p. sym (put h p)))

    module _ (t kept : Normal) (becomes : Becomes t kept (λ x. with_checkpoint x m)) (st : NormalStands self t d) (from : nat_le (low_of self d) m.pos ≡ true) (c : Option StableCert)
        (answers : AnswersStable kept c) where
      kept_stands : Represents self.shape self.host kept (with_checkpoint (searches_in self d) m)
      kept_stands = becomes self.shape self.host (searches_in self d) st

      completes : stable_of self (e ∷ d) ≡ further (stable_of self d) c
      completes =
          agreed ∙ ap (λ b. further (stable_of self d) (if b then history.agreed_above self.shape (e ∷ d) (low_of self d) else None)) from
          ∙ ap (further (stable_of self d)) (sym (answers self.shape self.host (with_checkpoint (searches_in self d) m) kept_stands
          ∙ ap (λ f. agreed_above self.shape f (low_of self d)) checkpoints_are ∙ learns self.shape (e ∷ d) (low_of self d)))

      is_kept : (new : Normal) → Learns (stable_of self d) c kept new → NormalStands self new (e ∷ d)
      is_kept new learnt =
          let low = (further (stable_of self d) c).pos in
          stands_alike self.shape self.host new (above_low (with_checkpoint (searches_in self d) m) low) (searches_in self (e ∷ d))
          (raised_where_above self.shape self.host kept (with_checkpoint (searches_in self d) m) kept_stands new (stable_of self d) c refl learnt)
          (raised_alike e d a stays slots votes requests (with_checkpoint (searches_in self d) m).checkpoints low (ap (λ (y : StableCert). y.pos) completes) (λ h i lt le. put h (i * interval self.shape)))

  -- an accepted one, and the own one, each below the stable position or kept with the certificate that it completes
  pub checkpoint_below : (m : Checkpoint) (d : History) (t : Normal) → Arises self (Accepted (message.Checkpoint m) ∷ d) → nat_le (low_of self d) m.pos ≡ false → NormalStands self t d
      → NormalStands self t (Accepted (message.Checkpoint m) ∷ d)
  checkpoint_below m d t a below st = is_below (Accepted (message.Checkpoint m)) m d a refl refl refl refl (checkpoint_put m d) (stable_agreed self m d) below t st

  pub own_checkpoint_below : (m : Checkpoint) (d : History) (t : Normal) → Arises self (Stamped (stamped.Checkpoint m) ∷ d) → nat_le (low_of self d) m.pos ≡ false → NormalStands self t d
      → NormalStands self t (Stamped (stamped.Checkpoint m) ∷ d)
  own_checkpoint_below m d t a below st = is_below (Stamped (stamped.Checkpoint m)) m d a refl refl refl refl (own_checkpoint_put m d) (own_stable_agreed self m d) below t st

  pub checkpoint_completes : (m : Checkpoint) (d : History) (t kept : Normal) (c : Option StableCert) → Arises self (Accepted (message.Checkpoint m) ∷ d) → nat_le (low_of self d) m.pos ≡ true
      → Becomes t kept (λ x. with_checkpoint x m) → AnswersStable kept c → NormalStands self t d → stable_of self (Accepted (message.Checkpoint m) ∷ d) ≡ further (stable_of self d) c
  checkpoint_completes m d t kept c a from becomes answers st =
      completes (Accepted (message.Checkpoint m)) m d a refl refl refl refl (checkpoint_put m d) (stable_agreed self m d) t kept becomes st from c answers

  pub own_checkpoint_completes : (m : Checkpoint) (d : History) (t kept : Normal) (c : Option StableCert) → Arises self (Stamped (stamped.Checkpoint m) ∷ d) → nat_le (low_of self d) m.pos ≡ true
      → Becomes t kept (λ x. with_checkpoint x m) → AnswersStable kept c → NormalStands self t d → stable_of self (Stamped (stamped.Checkpoint m) ∷ d) ≡ further (stable_of self d) c
  own_checkpoint_completes m d t kept c a from becomes answers st =
      completes (Stamped (stamped.Checkpoint m)) m d a refl refl refl refl (own_checkpoint_put m d) (own_stable_agreed self m d) t kept becomes st from c answers

  pub checkpoint_kept : (m : Checkpoint) (d : History) (t kept new : Normal) (c : Option StableCert) → Arises self (Accepted (message.Checkpoint m) ∷ d) → nat_le (low_of self d) m.pos ≡ true
      → Becomes t kept (λ x. with_checkpoint x m) → AnswersStable kept c → Learns (stable_of self d) c kept new → NormalStands self t d → NormalStands self new (Accepted (message.Checkpoint m) ∷ d)
  checkpoint_kept m d t kept new c a from becomes answers learnt st =
      is_kept (Accepted (message.Checkpoint m)) m d a refl refl refl refl (checkpoint_put m d) (stable_agreed self m d) t kept becomes st from c answers new learnt

  pub own_checkpoint_kept : (m : Checkpoint) (d : History) (t kept new : Normal) (c : Option StableCert) → Arises self (Stamped (stamped.Checkpoint m) ∷ d) → nat_le (low_of self d) m.pos ≡ true
      → Becomes t kept (λ x. with_checkpoint x m) → AnswersStable kept c → Learns (stable_of self d) c kept new → NormalStands self t d → NormalStands self new (Stamped (stamped.Checkpoint m) ∷ d)
  own_checkpoint_kept m d t kept new c a from becomes answers learnt st =
      is_kept (Stamped (stamped.Checkpoint m)) m d a refl refl refl refl (own_checkpoint_put m d) (own_stable_agreed self m d) t kept becomes st from c answers new learnt

  -- Both stand at a kept place, where they are not below the stable position.
  pub checkpoint_place : (m : Checkpoint) (d : History) (t : Normal) → Arises self (Accepted (message.Checkpoint m) ∷ d) → nat_le (low_of self d) m.pos ≡ true → NormalStands self t d → IsKeptPlace t.checkpoints m.pos
  unfolding permits
  checkpoint_place m d t a from st =
      let allowed = a.0.gate.permitted in
      let parts = and_parts (m.pos % interval self.shape == 0) (nat_lt (last_checkpoint (origin d m.ui.host) (taken_of d m.ui.host)) m.pos) allowed in
      kept_place self d t m.pos st parts.0 (leb-true (low_of self d) m.pos from) (ltb-false (low_of self d + span self.shape) m.pos a.0.kind)

  pub own_checkpoint_place : (m : Checkpoint) (d : History) (t : Normal) → Arises self (Stamped (stamped.Checkpoint m) ∷ d) → nat_le (low_of self d) m.pos ≡ true → NormalStands self t d → IsKeptPlace t.checkpoints m.pos
  unfolding exec_of
  own_checkpoint_place m d t ((p, just, whole, is), arises) from st =
      let at : p ≡ m.pos = ap place_of is in
      kept_place self d t m.pos st (subst (λ n. (n % interval self.shape == 0) ≡ true) at whole) (leb-true (low_of self d) m.pos from) (omega (arith, at, executed_place d p just, exec_within self d arises)) where
        place_of : StampedMessage → ℕ
        place_of (stamped.Checkpoint m) = m.pos
        place_of m = 0

        executed_place : (d : History) (p : ℕ) → JustExecuted self d p → exec_of d ≡ p
        executed_place (Executed slot ∷ d) p j = j
        executed_place d p j = absurd j
