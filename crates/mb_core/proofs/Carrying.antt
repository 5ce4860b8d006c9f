-- The plan of the own OPEN is carried on position by position, from its base on.
use Rattle.std.proofs.Common.{◌≡◌, ◌∙◌, ℕ, ◌+◌, ◌<◌, ◌≤◌, Bool, true, false, ◌&&◌, List, length, refl, sym, ap, subst, Option, Some, None, slice_get, get_or, map, arith}
use Rattle.std.specs.Prelude.{nat_lt, nat_le, if◌then◌else◌, option_map}
use Rattle.std.proofs.lemmas.Option.{slice_get-map}
use Rattle.std.proofs.lemmas.Bool.{le-leb, lt-leb}
use Rattle.mb_parts.specs.declared.batch.Batch.{Batch}
use Rattle.mb_parts.specs.declared.certificates.Evidence.{Evidence}
use Rattle.mb_parts.specs.Bares.{batch_digest}
use Rattle.mb_msg.specs.declared.change.Open.{Open}
use Rattle.mb_msg.specs.declared.change.OpenBody.{OpenBody}
use Rattle.mb_msg.specs.declared.change.Plan.{Plan}
use Rattle.mb_msg.specs.Plans.{CanHash}
use Rattle.mb_model.specs.Histories.{History, Identity, view_of}
use Rattle.mb_model.specs.Held.{plan_of_view}
use Rattle.mb_model.specs.Positions.{position_limit, slot_of_plan, slot_vote, in_window}
use Rattle.mb_model.specs.Stable.{low_of}
use Rattle.mb_base.specs.Limits.{plan_limit}
use Rattle.mb_base.specs.Shapes.{span}
use Rattle.mb_host_laws.proofs.Cases.{some_is}
use Rattle.mb_normal.specs.declared.normal.Normal.{Normal}
use Rattle.mb_normal.specs.Searches.{searches_in}
use Rattle.mb_normal.specs.Tables.{Represents as NormalRepresents}
use Rattle.mb_refinement.specs.Positions.{CountsVote, PutsSlot, carrying, open_slots, has_place}
use Rattle.mb_refinement.specs.Tables.{Tables}
use Rattle.mb_refinement.proofs.PositionsOpens.{carrying_begins, slot_carried, slot_passed, carrying_ends, no_slot_to_base, no_slot_behind, slot_with_place, no_slot_outside}
use Rattle.mb_replica.specs.declared.state.ReplicaState.{ReplicaState}
use Rattle.mb_replica.specs.Between.{WritesNormal}
use Rattle.mb_core.specs.Carrying.{Opens, StandsCarrying, CarriesMore, CarriesOn}
use Rattle.mb_replica.specs.Holding.{length_in}
use Rattle.mb_replica.proofs.Places.{stored}
use Rattle.mb_replica.proofs.Accepted.{same_again, still_host}

-- So many batches a plan has at most.
pub index_within : (p : Option Plan) (plan : Plan) (index : ℕ) → Some plan ≡ p → index < length_in p → CanHash plan → index < plan_limit
index_within p plan index is lt can = let below : index < length plan.batches = subst (λ (q : Option Plan). index < length_in q) (sym is) lt in let few = can.1.0 in omega (arith, below, few)

module _ {V : Type 0} (me : Identity V) (d : History) (m : Open) (view : ℕ) (e : Evidence) where
  -- It still opens where positions alone were written.
  pub opens_still : (old new : ReplicaState V) → WritesNormal old new → Opens me d m view e old → Opens me d m view e new
  opens_still old new w o = record {
    plan = o.plan;
    who = still_host me old new w.same o.who;
    held = ap (λ (t : Tables V). plan_of_view view t.change.plan) w.tables ∙ o.held;
    shows = o.shows;
    view_is = o.view_is;
  }

  module _ (r : ReplicaState V) (o : Opens me d m view e r) where
    abbrev body : OpenBody
    body = record { stable = o.plan.base; batches = o.plan.batches }

    in_view : m.evidence.view ≡ view_of me d
    in_view = ap (λ (y : Evidence). y.view) o.shows.evidence ∙ o.view_is

    base_is : m.evidence.base ≡ e.base
    base_is = ap (λ (y : Evidence). y.base) o.shows.evidence

    -- none yet
    pub carry_begins : NormalRepresents me.shape me.host r.protocol.normal (searches_in me d) → StandsCarrying me d m (e.base + 0) r
    carry_begins st = carrying_begins me.shape me.host (searches_in me d) (open_slots me m d) r.protocol.normal (e.base + 0) (λ p le. let b = base_is in no_slot_to_base me m body d o.shows.body in_view p (omega (arith, b, le))) st

    -- all
    pub carry_ends : (n : ℕ) → length_in (plan_of_view view r.protocol.change.plan) ≤ n → StandsCarrying me d m (e.base + n) r
        → NormalRepresents me.shape me.host r.protocol.normal (carrying me.host (searches_in me d) (open_slots me m d) (λ p. true))
    carry_ends n many st =
        let b = base_is in
        let long : length o.plan.batches ≤ n = subst (λ (p : Option Plan). length_in p ≤ n) o.held many in
        carrying_ends me.shape me.host (searches_in me d) (open_slots me m d) r.protocol.normal (e.base + n) (λ p lt. no_slot_behind me m body d o.shows.body in_view p (omega (arith, b, long, lt))) st

    -- one that lies above all
    pub carry_passes : (index : ℕ) → position_limit < e.base + index + 1 → StandsCarrying me d m (e.base + index) r → StandsCarrying me d m (e.base + index + 1) r
    carry_passes index above st =
        slot_passed me.shape me.host (searches_in me d) (open_slots me m d) r.protocol.normal (e.base + index) (no_slot_outside me m d (e.base + index + 1) outside) st where
          unlimited : (a b : Bool) → (a && (b && false)) ≡ false
          unlimited true true = refl
          unlimited true false = refl
          unlimited false b = refl

          outside : in_window me d (e.base + index + 1) ≡ false
          outside = rw (lt-leb (e.base + index + 1) position_limit above) (unlimited (nat_lt (low_of me d) (e.base + index + 1)) (nat_le (e.base + index + 1) (low_of me d + span me.shape)))

    -- one more
    pub carry_more : (index : ℕ) (batch : Batch) → slice_get o.plan.batches index ≡ Some batch → e.base + index + 1 ≤ position_limit → (put new : Normal) → PutsSlot r.protocol.normal put (e.base + index + 1) (slot_of_plan e batch)
        → CountsVote put new (e.base + index + 1) me.host (slot_vote (slot_of_plan e batch)) → StandsCarrying me d m (e.base + index) r
        → NormalRepresents me.shape me.host new (carrying me.host (searches_in me d) (open_slots me m d) (λ p. nat_le p (e.base + index + 1)))
    carry_more index batch there most put new puts counts st =
        slot_carried me.shape me.host (searches_in me d) (open_slots me m d) r.protocol.normal put new (e.base + index) (slot_of_plan e batch) placed puts counts st where
          placed : open_slots me m d (e.base + index + 1) ≡ (if has_place me.shape (searches_in me d) (e.base + index + 1) then Some (slot_of_plan e batch) else None)
          placed =
              let most_is : nat_le (m.evidence.base + index + 1) position_limit ≡ true = le-leb (m.evidence.base + index + 1) position_limit (let b = base_is in omega (arith, b, most)) in
              let at = slot_with_place me m body d o.shows.body in_view index batch most_is there in
              subst (λ (y : Evidence). open_slots me m d (y.base + index + 1) ≡ (if has_place me.shape (searches_in me d) (y.base + index + 1) then Some (slot_of_plan y batch) else None)) o.shows.evidence at

    -- as the code reads it
    pub carry_read : (index : ℕ) (plan : Plan) (list : List Batch) (item batch : Batch) (digest : List ℕ) → Some plan ≡ plan_of_view view r.protocol.change.plan → list ≡ plan.batches → index < length_in (plan_of_view view r.protocol.change.plan)
        → item ≡ get_or list index item → batch ≡ item → ((p : Plan) → plan_of_view view r.protocol.change.plan ≡ Some p → slice_get (map batch_digest p.batches) index ≡ Some digest) → e.base + index + 1 ≤ position_limit → (put new : Normal)
        → PutsSlot r.protocol.normal put (e.base + index + 1) (record { counter = e.counter; cert = e.cert; digest = digest; batch = Some batch }) → (host : ℕ) → host ≡ me.host
        → CountsVote put new (e.base + index + 1) host (record { counter = e.counter; request = digest }) → StandsCarrying me d m (e.base + index) r
        → NormalRepresents me.shape me.host new (carrying me.host (searches_in me d) (open_slots me m d) (λ p. nat_le p (e.base + index + 1)))
    carry_read index plan list item batch digest is listed lt read copied hashed most put new puts host own counts st =
        let same : plan ≡ o.plan = some_is plan o.plan (is ∙ o.held) in
        let all : list ≡ o.plan.batches = listed ∙ ap (λ (p : Plan). p.batches) same in
        let within : index < length o.plan.batches = subst (λ (p : Option Plan). index < length_in p) o.held lt in
        let there : slice_get list index ≡ Some item = stored list index index item refl (subst (λ (l : List Batch). index < length l) (sym all) within) read in
        let at : slice_get o.plan.batches index ≡ Some item = ap (λ (l : List Batch). slice_get l index) (sym all) ∙ there in
        let hash : digest ≡ batch_digest item = some_is digest (batch_digest item) (sym (hashed o.plan o.held) ∙ slice_get-map batch_digest o.plan.batches index ∙ ap (option_map batch_digest) at) in
        let slot : PutsSlot r.protocol.normal put (e.base + index + 1) (slot_of_plan e item) =
        subst (λ (b : Batch). PutsSlot r.protocol.normal put (e.base + index + 1) (record { counter = e.counter; cert = e.cert; digest = batch_digest item; batch = Some b })) copied
        (subst (λ (t : List ℕ). PutsSlot r.protocol.normal put (e.base + index + 1) (record { counter = e.counter; cert = e.cert; digest = t; batch = Some batch })) hash puts) in
        let vote : CountsVote put new (e.base + index + 1) me.host (slot_vote (slot_of_plan e item)) =
        subst (λ (h : ℕ). CountsVote put new (e.base + index + 1) h (record { counter = e.counter; request = batch_digest item })) own
        (subst (λ (t : List ℕ). CountsVote put new (e.base + index + 1) host (record { counter = e.counter; request = t })) hash counts) in
        carry_more index item at most put new slot vote st

-- ---- index by index

-- The positions of so many batches were carried on, and no other table was written.
pub record CarriedTo {V : Type 0} (view : ℕ) (e : Evidence) (n : ℕ) (old new : ReplicaState V) : Type 0 where
  pub writes : WritesNormal old new
  pub carried : (me : Identity V) (d : History) (m : Open) → Opens me d m view e old → NormalRepresents me.shape me.host old.protocol.normal (searches_in me d) → StandsCarrying me d m (e.base + n) new

module _ {V : Type 0} (view : ℕ) (e : Evidence) where
  pub carried_none : (r : ReplicaState V) → CarriedTo view e 0 r r
  carried_none r = record {
    writes = record { same = record { shape = refl; host = refl; secret = refl }; tables = refl };
    carried = λ me d m o st. carry_begins me d m view e r o st;
  }

  pub then_carried : (old mid new : ReplicaState V) → WritesNormal old mid → WritesNormal mid new → WritesNormal old new
  then_carried old mid new a b = record {
    same = same_again old mid new a.same b.same;
    tables = b.tables ∙ ap (λ (t : Tables V). record t { normal = new.protocol.normal }) a.tables;
  }

  pub carried_more : (n : ℕ) (old mid new : ReplicaState V) → CarriedTo view e n old mid → WritesNormal mid new → CarriesMore view e n mid new → CarriedTo view e (n + 1) old new
  carried_more n old mid new c w more = record {
    writes = then_carried old mid new c.writes w;
    carried = λ me d m o st. subst (λ (p : ℕ). StandsCarrying me d m p new) (next e.base n) (more me d m (opens_still me d m view e old mid c.writes o) (c.carried me d m o st));
  } where
    next : (b n : ℕ) → b + n + 1 ≡ b + (n + 1)
    next b n = omega arith

  pub carried_all : (n : ℕ) (old new : ReplicaState V) → CarriedTo view e n old new → length_in (plan_of_view view old.protocol.change.plan) ≤ n → CarriesOn view e old new
  carried_all n old new c many me d m o st =
      let same : plan_of_view view new.protocol.change.plan ≡ plan_of_view view old.protocol.change.plan = ap (λ (t : Tables V). plan_of_view view t.change.plan) c.writes.tables in
      carry_ends me d m view e new (opens_still me d m view e old new c.writes o) n (subst (λ (p : Option Plan). length_in p ≤ n) (sym same) many) (c.carried me d m o st)
