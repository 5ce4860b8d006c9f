-- A slot, a vote and a part of a state are found only where an entry of the history said so.
use Rattle.std.proofs.Common.{◌≡◌, ℕ, ◌-◌, ◌⊎◌, true, false, ◌&&◌, [], ◌∷◌, refl, sym, ap, ◌∙◌, inl, inr, arith, Option, Some, None}
use Rattle.std.specs.Prelude.{◌==◌, nat_le, slice_get, option_map, option_and_then, if◌then◌else◌}
use Rattle.std.specs.Option.{option_or}
use Rattle.std.proofs.lemmas.Bool.{and_parts, eqb-true, leb-true}
use Rattle.mb_base.specs.Shapes.{Bytes}
use Rattle.mb_usig.specs.Tags.{same_bytes}
use Rattle.mb_usig.proofs.Laws.{same_bytes-true}
use Rattle.mb_parts.specs.declared.batch.Batch.{Batch}
use Rattle.mb_parts.specs.declared.certificates.Evidence.{Evidence}
use Rattle.mb_parts.specs.Spelling.{batch_bytes}
use Rattle.mb_parts.specs.Bares.{batch_digest}
use Rattle.mb_msg.specs.declared.message.Body.{Body}
use Rattle.mb_msg.specs.declared.message.Message.TheVariants as message
use Rattle.mb_msg.specs.declared.normal.Prepare.{Prepare}
use Rattle.mb_msg.specs.declared.change.Open.{Open}
use Rattle.mb_msg.specs.declared.change.OpenBody.{OpenBody}
use Rattle.mb_msg.specs.declared.change.Plan.{Plan}
use Rattle.mb_msg.specs.declared.transfer.StateMsg.{StateMsg}
use Rattle.mb_msg.specs.declared.stamped.Stamped.TheVariants as stamped
use Rattle.mb_msg.specs.Bodies.{body_digest, whole_body}
use Rattle.mb_msg.specs.Plans.{plan_digest}
use Rattle.mb_model.specs.declared.known.Vote.{Vote}
use Rattle.mb_model.specs.declared.known.KnownSlot.{KnownSlot}
use Rattle.mb_model.specs.Histories.{Entry, Accepted, Stamped, Installed, DroppedParts, History, Identity, view_of}
use Rattle.mb_model.specs.Held.{opened_by, plan_of_view, plan_held, plan_at}
use Rattle.mb_model.specs.Stable.{low_of}
use Rattle.mb_model.specs.Positions.{batch_from, slot_of_prepare, slot_of_plan, slot_of_open, slot_by, slot_vote, vote_with, vote_by, counts_opens, open_vote, open_vote_by, in_window, counts_at, slot_in, vote_of}
use Rattle.mb_model.specs.Execution.{part_of, part_in}
use Rattle.mb_model.proofs.Options.{or_some, if_some, map_some}
use Rattle.mb_world_model.specs.World.{System, self_of}
use Rattle.mb_world_model.specs.WorldSteps.{world}
use Rattle.mb_promise.specs.NothingLeft.{IsInWindow}
use Rattle.mb_promise.specs.KeepsTables.{empties}
use Rattle.mb_promise.specs.OwnStamps.{carried_slot, carried_vote}
use Rattle.mb_promise.specs.WhatCame.{IsSlotOf, Carries, SaysSlot, IsVoteAt, SaysVote, IsOpenVote, SlotCame, VoteCame, PartCame, FindsWhatCame}
use Rattle.mb_each_host.proofs.Words.{window_says}
use Rattle.mb_host_laws.proofs.Cases.{some_is, whole_is}

-- ---- one entry

same_two : (a b c d : ℕ) → (a == b && c == d) ≡ true → (a ≡ b) × (c ≡ d)
same_two a b c d e = let t = and_parts (a == b) (c == d) e in (eqb-true a b t.0, eqb-true c d t.1)

prepare_says : (m : Prepare) (v p : ℕ) (k : KnownSlot) → slot_of_prepare m v p ≡ Some k → IsSlotOf m v p k
prepare_says m v p k e =
    let made : KnownSlot = record { counter = m.ui.counter; cert = m.ui.cert; digest = body_digest batch_bytes m.body; batch = whole_body m.body } in
    let t = if_some (m.view == v && m.pos == p) (Some made) k e in
    let s = same_two m.view v m.pos p t.0 in
    (s.0, s.1, sym (some_is made k t.1))

pub and_then_at : {A B : Type 0} (f : A → Option B) (o : Option A) (z : B) → option_and_then f o ≡ Some z → (x : A) × (o ≡ Some x) × (f x ≡ Some z)
and_then_at f None z e = absurd cc
and_then_at f (Some x) z e = (x, refl, e)

open_says : (m : Open) (v p : ℕ) (k : KnownSlot) → slot_of_open m v p ≡ Some k → (b : Batch) × Carries m v p b × (k ≡ carried_slot m.evidence b)
open_says m v p k e =
    let t = if_some (m.evidence.view == v) _ k e in
    let q = map_some (slot_of_plan m.evidence) _ k t.1 in
    let b = and_then_at (λ (b : OpenBody). batch_from m.evidence.base p b.batches) (whole_body m.body) q.0 q.1 in
    (q.0, record { body = b.0; view = eqb-true m.evidence.view v t.0; whole = whole_is m.body b.0 b.1; at = b.2 }, sym q.2)

pub says_slot : (x : Entry) (v p : ℕ) (k : KnownSlot) → slot_by x v p ≡ Some k → SaysSlot x v p k
says_slot (Accepted (message.Prepare m)) v p k e = prepare_says m v p k e
says_slot (Stamped (stamped.Prepare m)) v p k e = prepare_says m v p k e
says_slot (Stamped (stamped.Open m)) v p k e = open_says m v p k e
says_slot x v p k e = absurd cc

-- A slot has the digest of its batch.
whole_named : (body : Body Batch) (b : Batch) → whole_body body ≡ Some b → body_digest batch_bytes body ≡ batch_digest b
whole_named body b e = ap (λ (x : Body Batch). body_digest batch_bytes x) (whole_is body b e)

prepare_named : (m : Prepare) (v p : ℕ) (k : KnownSlot) (b : Batch) → IsSlotOf m v p k → k.batch ≡ Some b → k.digest ≡ batch_digest b
prepare_named m v p k b s e = ap (λ (x : KnownSlot). x.digest) s.2 ∙ whole_named m.body b (sym (ap (λ (x : KnownSlot). x.batch) s.2) ∙ e)

open_named : (m : Open) (c b : Batch) (k : KnownSlot) → k ≡ carried_slot m.evidence c → k.batch ≡ Some b → k.digest ≡ batch_digest b
open_named m c b k s e = ap (λ (x : KnownSlot). x.digest) s ∙ ap (λ (x : Batch). batch_digest x) (some_is c b (sym (ap (λ (x : KnownSlot). x.batch) s) ∙ e))

slot_named : (x : Entry) (v p : ℕ) (k : KnownSlot) (b : Batch) → SaysSlot x v p k → k.batch ≡ Some b → k.digest ≡ batch_digest b
slot_named (Accepted (message.Prepare m)) v p k b s e = prepare_named m v p k b s e
slot_named (Stamped (stamped.Prepare m)) v p k b s e = prepare_named m v p k b s e
slot_named (Stamped (stamped.Open m)) v p k b s e = open_named m s.0 b k s.2 e
slot_named x v p k b s e = absurd s

with_says : (voter g v p view pos : ℕ) (body : Body Batch) (counter : ℕ) (x : Vote) → vote_with voter g v p view pos body counter ≡ Some x → (voter ≡ g) × IsVoteAt view pos body counter v p x
with_says voter g v p view pos body counter x e =
    let made : Vote = record { counter = counter; request = body_digest batch_bytes body } in
    let t = if_some (view == v && (pos == p && voter == g)) (Some made) x e in
    let a = and_parts (view == v) (pos == p && voter == g) t.0 in
    let b = same_two pos p voter g a.1 in
    (b.1, (eqb-true view v a.0, b.0, sym (some_is made x t.1)))

own_open_says : (own g : ℕ) (m : Open) (v p : ℕ) (x : Vote) → (if own == g then option_map slot_vote (slot_of_open m v p) else None) ≡ Some x → (own ≡ g) × (b : Batch) × Carries m v p b × (x ≡ carried_vote m.evidence b)
own_open_says own g m v p x e =
    let t = if_some (own == g) (option_map slot_vote (slot_of_open m v p)) x e in
    let q = map_some slot_vote (slot_of_open m v p) x t.1 in
    let s = open_says m v p q.0 q.1 in
    (eqb-true own g t.0, s.0, s.1, sym q.2 ∙ ap (λ (k : KnownSlot). slot_vote k) s.2)

pub says_vote : (own : ℕ) (y : Entry) (g v p : ℕ) (x : Vote) → vote_by own y g v p ≡ Some x → SaysVote own y g v p x
says_vote own (Accepted (message.Prepare m)) g v p x e = with_says m.ui.host g v p m.view m.pos m.body m.ui.counter x e
says_vote own (Accepted (message.Commit m)) g v p x e = with_says m.ui.host g v p m.view m.pos m.body m.counter x e
says_vote own (Stamped (stamped.Prepare m)) g v p x e = with_says own g v p m.view m.pos m.body m.ui.counter x e
says_vote own (Stamped (stamped.Commit m)) g v p x e = with_says own g v p m.view m.pos m.body m.counter x e
says_vote own (Stamped (stamped.Open m)) g v p x e = own_open_says own g m v p x e
says_vote own y g v p x e = absurd cc

module _ {S : Type 0} (self : Identity S) where
  plan_from_view : (o : Option (ℕ × Plan)) (v : ℕ) (plan : Plan) → plan_of_view v o ≡ Some plan → o ≡ Some (v, plan)
  plan_from_view None v plan e = absurd cc
  plan_from_view (Some q) v plan e =
      let t = if_some (q.0 == v) (Some q.1) plan e in
      let view : q.0 ≡ v = eqb-true q.0 v t.0 in
      let is : q.1 ≡ plan = some_is q.1 plan t.1 in
      rw (view, is) refl

  vote_found : (d : History) (g v p : ℕ) (x : Vote) (e : Evidence) (plan : Plan) → opened_by d g ≡ Some e → plan_at self d v ≡ Some plan → open_vote (Some e) (Some plan) v p ≡ Some x → IsOpenVote self d g v p x
  vote_found d g v p x e plan opened held f =
      let made : Batch → Vote = λ b. record { counter = e.counter; request = batch_digest b } in
      let t = if_some (e.view == v && same_bytes (plan_digest plan) e.plan) (option_map made (batch_from plan.base.pos p plan.batches)) x f in
      let a = and_parts (e.view == v) (same_bytes (plan_digest plan) e.plan) t.0 in
      let q = map_some made (batch_from plan.base.pos p plan.batches) x t.1 in
      record {
        evidence = e;
        plan = plan;
        batch = q.0;
        opened = opened;
        view = eqb-true e.view v a.0;
        held = plan_from_view (plan_held self d) v plan held;
        digest = same_bytes-true (plan_digest plan) e.plan a.1;
        at = q.1;
        vote = sym q.2;
      }

  vote_opened : (d : History) (g v p : ℕ) (x : Vote) (a : Option Evidence) (b : Option Plan) → opened_by d g ≡ a → plan_at self d v ≡ b → open_vote a b v p ≡ Some x → IsOpenVote self d g v p x
  vote_opened d g v p x (Some e) (Some plan) opened held f = vote_found d g v p x e plan opened held f
  vote_opened d g v p x None b opened held f = absurd cc
  vote_opened d g v p x (Some e) None opened held f = absurd cc

  says_votes : (y : Entry) (d : History) (g v p : ℕ) (x : Vote) → option_or (vote_by self.host y g v p) (open_vote_by self (y ∷ d) y g v p) ≡ Some x
      → SaysVote self.host y g v p x ⊎ IsOpenVote self (y ∷ d) g v p x
  says_votes y d g v p x e = elim (or_some (vote_by self.host y g v p) (open_vote_by self (y ∷ d) y g v p) x e) [
    | inl said ↦ inl (says_vote self.host y g v p x said)
    | inr opened ↦ inr (vote_opened (y ∷ d) g v p x (opened_by (y ∷ d) g) (plan_at self (y ∷ d) v) refl refl (if_some (counts_opens y) _ x opened).1)
  ]

  -- ---- the moment

  moment : (d : History) (v p : ℕ) → counts_at self d v p ≡ true → (view_of self d ≡ v) × IsInWindow self d p
  moment d v p e = let t = and_parts (view_of self d == v) (in_window self d p) e in (eqb-true (view_of self d) v t.0, window_says self d p t.1)

  slots_came : (d : History) (v p : ℕ) (k : KnownSlot) → slot_in self d v p ≡ Some k → SlotCame self d v p k
  unfolding slot_in
  slots_came [] v p k e = absurd cc
  slots_came (x ∷ d) v p k e = elim (or_some (slot_in self d v p) _ k e) [
    | inl before ↦
        let r = slots_came d v p k before in
        record { later = x ∷ r.later; before = r.before; entry = r.entry; is = ap (λ (h : History). x ∷ h) r.is; current = r.current; inside = r.inside; says = r.says }
    | inr now ↦
        let t = if_some (counts_at self (x ∷ d) v p) (slot_by x v p) k now in
        let m = moment (x ∷ d) v p t.0 in
        record { later = []; before = d; entry = x; is = refl; current = m.0; inside = m.1; says = says_slot x v p k t.1 }
  ]

  pub named_in : (d : History) (v p : ℕ) (k : KnownSlot) (b : Batch) → slot_in self d v p ≡ Some k → k.batch ≡ Some b → k.digest ≡ batch_digest b
  named_in d v p k b e is = let c = slots_came d v p k e in slot_named c.entry v p k b c.says is

  votes_came : (d : History) (g v p : ℕ) (x : Vote) → vote_of self d g v p ≡ Some x → VoteCame self d g v p x
  unfolding vote_of
  votes_came [] g v p x e = absurd cc
  votes_came (y ∷ d) g v p x e = elim (or_some (vote_of self d g v p) _ x e) [
    | inl before ↦
        let r = votes_came d g v p x before in
        record { later = y ∷ r.later; before = r.before; entry = r.entry; is = ap (λ (h : History). y ∷ h) r.is; current = r.current; inside = r.inside; says = r.says }
    | inr now ↦
        let t = if_some (counts_at self (y ∷ d) v p) (option_or (vote_by self.host y g v p) (open_vote_by self (y ∷ d) y g v p)) x now in
        let m = moment (y ∷ d) v p t.0 in
        record { later = []; before = d; entry = y; is = refl; current = m.0; inside = m.1; says = says_votes y d g v p x t.1 }
  ]

  -- ---- parts

  still : (x : Entry) (d : History) (pos i : ℕ) (part : Bytes) → empties x ≡ false → PartCame self d pos i part → PartCame self (x ∷ d) pos i part
  still x d pos i part not_such r = record {
    later = x ∷ r.later;
    before = r.before;
    taken = r.taken;
    index = r.index;
    is = ap (λ (h : History). x ∷ h) r.is;
    stable = r.stable;
    position = r.position;
    place = r.place;
    brings = r.brings;
    kept = (not_such, r.kept);
  }

  part_new : (m : StateMsg) (d : History) (pos i : ℕ) (part : Bytes) → (if m.pos == pos && low_of self d == pos then part_in m i else None) ≡ Some part → PartCame self (Accepted (message.State m) ∷ d) pos i part
  part_new m d pos i part e =
      let t = if_some (m.pos == pos && low_of self d == pos) (part_in m i) part e in
      let s = same_two m.pos pos (low_of self d) pos t.0 in
      let q = if_some (nat_le m.first i) (slice_get m.parts (i - m.first)) part t.1 in
      let le = leb-true m.first i q.0 in
      record {
        later = [];
        before = d;
        taken = m;
        index = i - m.first;
        is = refl;
        stable = s.1;
        position = s.0;
        place = omega (arith, le);
        brings = q.1;
        kept = tt;
      }

  parts_came : (d : History) (pos i : ℕ) (part : Bytes) → part_of self d pos i ≡ Some part → PartCame self d pos i part
  unfolding part_of
  parts_came [] pos i part e = absurd cc
  parts_came (Accepted (message.State m) ∷ d) pos i part e = elim (or_some (part_of self d pos i) _ part e) [
    | inl before ↦ still (Accepted (message.State m)) d pos i part refl (parts_came d pos i part before)
    | inr now ↦ part_new m d pos i part now
  ]
  parts_came (DroppedParts ∷ d) pos i part e = absurd cc
  parts_came (Installed p parts ∷ d) pos i part e = absurd cc
  parts_came (x ∷ d) pos i part e = still x d pos i part refl (parts_came d pos i part e)

  pub finds_what_came : (d : History) → FindsWhatCame self d
  finds_what_came d = record { slots = slots_came d; votes = votes_came d; parts = parts_came d }

-- Of any history, so in each world.
pub hosts_find_what_came : {S : Type 0} (system : System S) → (k h : ℕ) → FindsWhatCame (self_of system h) ((world system k).histories h)
hosts_find_what_came system k h = finds_what_came (self_of system h) ((world system k).histories h)
