-- The votes of OPENs, counted host by host and position by position, as the tables of view changes and of the normal case say it.
use Rattle.std.proofs.Common.{◌≡◌, ℕ, zero, suc, List, [], get_or, ◌+◌, ◌<◌, ◌≤◌, true, false, ◌∷◌, refl, sym, ap, subst, ◌∙◌, inl, inr, ◌⊎◌, arith, Option, Some, None, length, map}
use Rattle.std.specs.Prelude.{nat_le, slice_get, if◌then◌else◌}
use Rattle.std.proofs.lemmas.Bool.{cases_Bool}
use Rattle.std.proofs.lemmas.List.{length-map}
use Rattle.mb_base.specs.declared.shape.Shape.{Shape}
use Rattle.mb_base.specs.Shapes.{Bytes, host_count}
use Rattle.mb_parts.specs.Bares.{batch_digest}
use Rattle.mb_msg.specs.declared.change.Plan.{Plan}
use Rattle.mb_model.specs.declared.known.Vote.{Vote}
use Rattle.mb_model.specs.Histories.{History, Identity, view_of}
use Rattle.mb_model.specs.Held.{opened_by, plan_at, plan_of_view}
use Rattle.mb_model.specs.Positions.{position_limit, in_window}
use Rattle.mb_change.specs.Tables.{Table as ChangeTable, opened_at}
use Rattle.mb_change.specs.declared.opened.Opened.{Opened}
use Rattle.mb_change.specs.Searches.{opened_in}
use Rattle.mb_normal.specs.Searches.{Searches}
use Rattle.mb_refinement.specs.Tables.{Tables}
use Rattle.mb_refinement.specs.Positions.{CountsVote, has_place, hosts_below, positions_to, open_votes, is_open_of}
use Rattle.mb_refinement.specs.Stands.{ChangeStands}
use Rattle.mb_refinement.proofs.Changes.{change_answers}
use Rattle.mb_refinement.proofs.PositionsOpens.{counting_begins, host_passed, host_begins, position_counted, position_passed, host_ends, window_in_limit, no_vote_outside, no_plan, not_of_plan, none_to_base, none_behind, vote_with_place}
use Rattle.mb_replica.specs.declared.state.ReplicaState.{ReplicaState}
use Rattle.mb_replica.specs.Between.{WritesNormal}
use Rattle.mb_replica.specs.Holding.{Counts, StandsCounting, CountsMore, CountsBelow, CountsVoteOf, base_in, length_in, is_for_plan}
use Rattle.mb_replica.proofs.Accepted.{same_again}

-- what is read of a list at a place of it
read_at : (l : List Bytes) (i : ℕ) → i < length l → slice_get l i ≡ Some (get_or l i [])
read_at [] i lt = absurd (omega (arith, lt))
read_at (x ∷ l) zero lt = refl
read_at (x ∷ l) (suc i) lt = read_at l i (omega (arith, lt))

-- the digest of the batch of a plan with an index
pub digest_read : (plan : Plan) (digests : List Bytes) (i : ℕ) → digests ≡ map batch_digest plan.batches → i < length plan.batches → slice_get (map batch_digest plan.batches) i ≡ Some (get_or digests i [])
digest_read plan digests i are lt =
    read_at (map batch_digest plan.batches) i (subst (λ (n : ℕ). i < n) (sym (length-map plan.batches batch_digest)) lt) ∙ ap (λ (l : List Bytes). Some (get_or l i [])) (sym are)

module _ {V : Type 0} where
  -- ---- nothing but the tables of the normal case was written

  pub none_written : (r : ReplicaState V) → WritesNormal r r
  none_written r = record { same = record { shape = refl; host = refl; secret = refl }; tables = refl }

  pub written_again : (a b c : ReplicaState V) → WritesNormal a b → WritesNormal b c → WritesNormal a c
  written_again a b c first second = record {
    same = same_again a b c first.same second.same;
    tables = second.tables ∙ ap (λ (t : Tables V). record t { normal = c.protocol.normal }) first.tables;
  }

  pub change_left : (old new : ReplicaState V) → WritesNormal old new → new.protocol.change ≡ old.protocol.change
  change_left old new writes = ap (λ (t : Tables V). t.change) writes.tables

  -- So the same votes are counted.
  pub counts_on : (old new : ReplicaState V) → WritesNormal old new → (me : Identity V) (d : History) (x : Searches) (view : ℕ) → Counts me d x view old → Counts me d x view new
  counts_on old new writes me d x view c = record {
    change = subst (λ (t : ChangeTable). ChangeStands me t d) (sym (change_left old new writes)) c.change;
    view_is = c.view_is;
    opens = c.opens;
    low = c.low;
  }

  -- the shape is that of the host
  pub counts_shape : (r : ReplicaState V) (me : Identity V) (d : History) (x : Searches) (view : ℕ) → Counts me d x view r → r.protocol.shape ≡ me.shape
  counts_shape r me d x view c = sym r.protocol.change_is.0 ∙ c.change.shape

  -- ---- host by host

  pub no_host_counted : (r : ReplicaState V) (view : ℕ) → CountsBelow 0 view r r
  no_host_counted r view me d x c st = counting_begins me.shape me.host x (open_votes me d) r.protocol.normal st

  pub next_host_counted : (first old new : ReplicaState V) (view host : ℕ) → WritesNormal first old → CountsBelow host view first old → CountsMore (hosts_below host) (hosts_below (host + 1)) view old new → CountsBelow (host + 1) view first new
  next_host_counted first old new view host writes below more me d x c st = more me d x (counts_on first old writes me d x view c) (below me d x c st)

  -- ---- the OPEN of one host, of which the table says this

  module _ (r : ReplicaState V) (view host : ℕ) (o : Opened) (there : host < host_count r.protocol.shape) (says : o ≡ opened_at r.protocol.change host) where
    within : (me : Identity V) (d : History) (x : Searches) → Counts me d x view r → host < host_count me.shape
    within me d x c = subst (λ (s : Shape). host < host_count s) (counts_shape r me d x view c) there

    pub plan_told : (me : Identity V) (d : History) (x : Searches) → Counts me d x view r → plan_of_view view r.protocol.change.plan ≡ plan_at me d (view_of me d)
    plan_told me d x c = (change_answers me r.protocol.change d c.change).plans view ∙ ap (plan_at me d) c.view_is

    pub opened_told : (me : Identity V) (d : History) (x : Searches) → Counts me d x view r → o ≡ opened_in (opened_by d host)
    opened_told me d x c = says ∙ (change_answers me r.protocol.change d c.change).opened host (within me d x c)

    -- Whether it counts is told by the table.
    test_told : (me : Identity V) (d : History) (x : Searches) → Counts me d x view r → is_for_plan view (plan_of_view view r.protocol.change.plan) o ≡ is_for_plan (view_of me d) (plan_at me d (view_of me d)) (opened_in (opened_by d host))
    test_told me d x c =
        ap (λ (q : Option Plan). is_for_plan view q o) (plan_told me d x c)
        ∙ ap (λ (v : ℕ). is_for_plan v (plan_at me d (view_of me d)) o) c.view_is
        ∙ ap (λ (y : Opened). is_for_plan (view_of me d) (plan_at me d (view_of me d)) y) (opened_told me d x c)

    -- One that does not is passed over.
    pub one_passed : is_for_plan view (plan_of_view view r.protocol.change.plan) o ≡ false → CountsMore (hosts_below host) (hosts_below (host + 1)) view r r
    one_passed fails me d x c st = host_passed me.shape me.host x (open_votes me d) r.protocol.normal host (by_plan (plan_at me d (view_of me d)) refl (sym (test_told me d x c) ∙ fails)) st where
      by_plan : (q : Option Plan) → plan_at me d (view_of me d) ≡ q → is_for_plan (view_of me d) (plan_at me d (view_of me d)) (opened_in (opened_by d host)) ≡ false → (p : ℕ) → open_votes me d host p ≡ None
      by_plan None held fails p = no_plan me d held host p
      by_plan (Some plan) held fails p = not_of_plan me d plan held host c.opens (rw held at fails) p

    -- One that does is counted from the base on.
    module _ (holds : is_for_plan view (plan_of_view view r.protocol.change.plan) o ≡ true) where
      with_plan : (me : Identity V) (d : History) (x : Searches) → Counts me d x view r → (P : Option Plan → Type 0)
          → ((plan : Plan) → plan_at me d (view_of me d) ≡ Some plan → is_open_of (view_of me d) plan (opened_in (opened_by d host)) ≡ true → P (Some plan)) → P (plan_of_view view r.protocol.change.plan)
      with_plan me d x c P each = subst P (sym (plan_told me d x c)) (by_plan (plan_at me d (view_of me d)) refl (sym (test_told me d x c) ∙ holds)) where
        by_plan : (q : Option Plan) → plan_at me d (view_of me d) ≡ q → is_for_plan (view_of me d) (plan_at me d (view_of me d)) (opened_in (opened_by d host)) ≡ true → P q
        by_plan None held is = absurd (let e = rw held at is in cc)
        by_plan (Some plan) held is = each plan held (rw held at is)

      pub one_begins : (last : ℕ) → last ≡ base_in (plan_of_view view r.protocol.change.plan) → CountsMore (hosts_below host) (positions_to host last) view r r
      one_begins last is me d x c st =
          subst (λ (n : ℕ). StandsCounting me d x (positions_to host n) r) (sym is)
          (with_plan me d x c (λ (q : Option Plan). StandsCounting me d x (positions_to host (base_in q)) r)
          (λ plan held this. host_begins me.shape me.host x (open_votes me d) r.protocol.normal host plan.base.pos (none_to_base me d plan held host this) st))

      -- and ends behind the last batch.
      pub one_ends : (last : ℕ) → base_in (plan_of_view view r.protocol.change.plan) + length_in (plan_of_view view r.protocol.change.plan) ≤ last → CountsMore (positions_to host last) (hosts_below (host + 1)) view r r
      one_ends last behind me d x c =
          with_plan me d x c (λ (q : Option Plan). base_in q + length_in q ≤ last → StandsCounting me d x (positions_to host last) r → StandsCounting me d x (hosts_below (host + 1)) r)
          (λ plan held this most st. host_ends me.shape me.host x (open_votes me d) r.protocol.normal host last (λ p lt. none_behind me d plan held host this p (omega (arith, lt, most))) st) behind

      -- ---- position by position

      pub next_counted : (new : ReplicaState V) (counter index last next : ℕ) → o.counter ≡ counter → index < length_in (plan_of_view view r.protocol.change.plan)
          → last ≡ base_in (plan_of_view view r.protocol.change.plan) + index → next ≡ last + 1
          → ((plan : Plan) → plan_of_view view r.protocol.change.plan ≡ Some plan → CountsVoteOf plan host counter (plan.base.pos + index) view r new)
          → CountsMore (positions_to host last) (positions_to host next) view r new
      next_counted new counter index last next counter_is lt last_is next_is counts me d x c st =
          by_plan (plan_of_view view r.protocol.change.plan) refl lt last_is where
            by_plan : (q : Option Plan) → plan_of_view view r.protocol.change.plan ≡ q → index < length_in q → last ≡ base_in q + index → StandsCounting me d x (positions_to host next) new
            by_plan None held lt last_is = absurd (omega (arith, lt))
            by_plan (Some plan) held lt last_is =
                let this : is_open_of view plan (opened_in (opened_by d host)) ≡ true = ap (is_open_of view plan) (sym (opened_told me d x c)) ∙ (rw held at holds) in
                subst (λ (n : ℕ). StandsCounting me d x (positions_to host n) new) (sym (next_is ∙ ap (λ (n : ℕ). n + 1) last_is))
                (counts plan held me d x c (sym counter_is ∙ ap (λ (y : Opened). y.counter) (opened_told me d x c)) this
                (subst (λ (n : ℕ). StandsCounting me d x (positions_to host n) r) last_is st))

  -- ---- one position of the plan

  module _ (r : ReplicaState V) (plan : Plan) (view host counter index : ℕ) (held : plan_of_view view r.protocol.change.plan ≡ Some plan) where
    plan_of : (me : Identity V) (d : History) (x : Searches) → Counts me d x view r → plan_at me d (view_of me d) ≡ Some plan
    plan_of me d x c = sym ((change_answers me r.protocol.change d c.change).plans view ∙ ap (plan_at me d) c.view_is) ∙ held

    in_view : (me : Identity V) (d : History) (x : Searches) → Counts me d x view r → is_open_of view plan (opened_in (opened_by d host)) ≡ true → is_open_of (view_of me d) plan (opened_in (opened_by d host)) ≡ true
    in_view me d x c this = ap (λ (v : ℕ). is_open_of v plan (opened_in (opened_by d host))) (sym c.view_is) ∙ this

    -- The vote for it was counted, or refused.
    pub vote_counted : (new : ReplicaState V) (pos : ℕ) (batch : Bytes) → pos ≡ plan.base.pos + index + 1 → slice_get (map batch_digest plan.batches) index ≡ Some batch → nat_le pos position_limit ≡ true
        → CountsVote r.protocol.normal new.protocol.normal pos host (record { counter = counter; request = batch }) → CountsVoteOf plan host counter (plan.base.pos + index) view r new
    vote_counted new pos batch at there most counts me d x c counter_is this st =
        let vote : Vote = record { counter = counter; request = batch } in
        let now : CountsVote r.protocol.normal new.protocol.normal (plan.base.pos + index + 1) host vote = subst (λ (p : ℕ). CountsVote r.protocol.normal new.protocol.normal p host vote) at counts in
        position_counted me.shape me.host x (open_votes me d) r.protocol.normal new.protocol.normal host (plan.base.pos + index) vote
        (subst (λ (n : ℕ). open_votes me d host (plan.base.pos + index + 1) ≡ (if has_place me.shape x (plan.base.pos + index + 1) then Some (record { counter = n; request = batch }) else None)) (sym counter_is)
        (vote_with_place me d plan (plan_of me d x c) host (in_view me d x c this) x index batch c.low (subst (λ (p : ℕ). nat_le p position_limit ≡ true) at most) there)) now st

    -- Beyond the greatest position there is none.
    pub no_vote_counted : (pos : ℕ) → pos ≡ plan.base.pos + index + 1 → nat_le pos position_limit ≡ false → CountsVoteOf plan host counter (plan.base.pos + index) view r r
    no_vote_counted pos at beyond me d x c counter_is this st =
        position_passed me.shape me.host x (open_votes me d) r.protocol.normal host (plan.base.pos + index) (no_vote_outside me d host (plan.base.pos + index + 1) (outside (cases_Bool (in_window me d (plan.base.pos + index + 1))))) st where
          outside : (in_window me d (plan.base.pos + index + 1) ≡ true) ⊎ (in_window me d (plan.base.pos + index + 1) ≡ false) → in_window me d (plan.base.pos + index + 1) ≡ false
          outside (inr out) = out
          outside (inl inside) =
              let within : nat_le (plan.base.pos + index + 1) position_limit ≡ true = window_in_limit me d (plan.base.pos + index + 1) inside in
              let not_so : nat_le (plan.base.pos + index + 1) position_limit ≡ false = subst (λ (p : ℕ). nat_le p position_limit ≡ false) at beyond in
              absurd (let e : true ≡ false = sym within ∙ not_so in cc)

  -- ---- what a loop over hosts and one over positions have counted so far

  pub record HostsCounted (first now : ReplicaState V) (host view : ℕ) : Type 0 where
    pub writes : WritesNormal first now
    pub counts : CountsBelow host view first now

  pub record PositionsCounted (first now : ReplicaState V) (host last view : ℕ) : Type 0 where
    pub writes : WritesNormal first now
    pub counts : CountsMore (hosts_below host) (positions_to host last) view first now

  module _ (first : ReplicaState V) (view host : ℕ) (o : Opened) (there : host < host_count first.protocol.shape) (says : o ≡ opened_at first.protocol.change host)
      (holds : is_for_plan view (plan_of_view view first.protocol.change.plan) o ≡ true) where
    plan_now : Option Plan
    plan_now = plan_of_view view first.protocol.change.plan

    module _ (now : ReplicaState V) (writes : WritesNormal first now) where
      same : now.protocol.change ≡ first.protocol.change
      same = change_left first now writes

      there_now : host < host_count now.protocol.shape
      there_now = subst (λ (s : Shape). host < host_count s) (sym writes.same.shape) there

      says_now : o ≡ opened_at now.protocol.change host
      says_now = says ∙ ap (λ (t : ChangeTable). opened_at t host) (sym same)

      plan_same : plan_of_view view now.protocol.change.plan ≡ plan_of_view view first.protocol.change.plan
      plan_same = ap (λ (t : ChangeTable). plan_of_view view t.plan) same

      holds_now : is_for_plan view (plan_of_view view now.protocol.change.plan) o ≡ true
      holds_now = ap (λ (q : Option Plan). is_for_plan view q o) plan_same ∙ holds

    pub positions_begin : (last : ℕ) → last ≡ base_in (plan_of_view view first.protocol.change.plan) → PositionsCounted first first host last view
    positions_begin last is = record { writes = none_written first; counts = one_begins first view host o there says holds last is }

    pub positions_more : (old new : ReplicaState V) (counter index last next : ℕ) → o.counter ≡ counter → index < length_in (plan_of_view view first.protocol.change.plan) → last ≡ base_in (plan_of_view view first.protocol.change.plan) + index → next ≡ last + 1
        → PositionsCounted first old host last view → WritesNormal old new
        → ((plan : Plan) → plan_of_view view old.protocol.change.plan ≡ Some plan → CountsVoteOf plan host counter (plan.base.pos + index) view old new) → PositionsCounted first new host next view
    positions_more old new counter index last next counter_is lt last_is next_is p writes counts =
        let before : plan_of_view view old.protocol.change.plan ≡ plan_of_view view first.protocol.change.plan = plan_same old p.writes in
        record {
          writes = written_again first old new p.writes writes;
          counts = λ me d x c st. next_counted old view host o (there_now old p.writes) (says_now old p.writes) (holds_now old p.writes) new counter index last next counter_is
              (subst (λ (q : Option Plan). index < length_in q) (sym before) lt) (last_is ∙ ap (λ (q : Option Plan). base_in q + index) (sym before)) next_is counts me d x (counts_on first old p.writes me d x view c) (p.counts me d x c st);
        }

    pub positions_end : (now : ReplicaState V) (index last : ℕ) → length_in (plan_of_view view first.protocol.change.plan) ≤ index → last ≡ base_in (plan_of_view view first.protocol.change.plan) + index → PositionsCounted first now host last view
        → CountsMore (hosts_below host) (hosts_below (host + 1)) view first now
    positions_end now index last most last_is p me d x c st =
        let after : plan_of_view view now.protocol.change.plan ≡ plan_of_view view first.protocol.change.plan = plan_same now p.writes in
        one_ends now view host o (there_now now p.writes) (says_now now p.writes) (holds_now now p.writes) last
        (subst (λ (q : Option Plan). base_in q + length_in q ≤ last) (sym after) (omega (arith, most, last_is))) me d x (counts_on first now p.writes me d x view c) (p.counts me d x c st)
