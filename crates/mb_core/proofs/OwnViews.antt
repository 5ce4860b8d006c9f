-- The own VIEW_CHANGE, NEW_VIEW and OPEN: what a host has for them when their rules are next, and that its tables stand behind them.
use Rattle.std.proofs.Common.{◌≡◌, ◌∙◌, ℕ, ◌<◌, ◌^◌, Bool, true, false, List, [], ◌∷◌, is_none, refl, sym, ap, subst, inl, inr, Option, Some, None}
use Rattle.std.specs.Prelude.{option_map, nat_lt, nat_le, if◌then◌else◌}
use Rattle.std.specs.List.{AllByRecursion, filter}
use Rattle.std.proofs.lemmas.Bool.{cases_Bool}
use Rattle.mb_base.specs.Shapes.{host_count}
use Rattle.mb_base.specs.declared.shape.Shape.{Shape}
use Rattle.mb_parts.specs.declared.certificates.Evidence.{Evidence}
use Rattle.mb_parts.specs.declared.certificates.StableCert.{StableCert}
use Rattle.mb_msg.specs.declared.change.NewView.{NewView}
use Rattle.mb_msg.specs.declared.change.NewViewBody.{NewViewBody}
use Rattle.mb_msg.specs.declared.change.Open.{Open as OpenMessage}
use Rattle.mb_msg.specs.declared.change.Plan.{Plan}
use Rattle.mb_msg.specs.declared.change.ViewChange.{ViewChange}
use Rattle.mb_msg.specs.declared.message.Body.TheVariants.{Whole}
use Rattle.mb_msg.specs.declared.stamped.Stamped.{Stamped as StampedMessage}
use Rattle.mb_msg.specs.declared.stamped.Stamped.TheVariants as stamped
use Rattle.mb_msg.specs.Bodies.{whole_body}
use Rattle.mb_msg.specs.Fits.{FitsMember, FitsNewViewBody}
use Rattle.mb_msg.specs.Stamps.{with_ui, bare_of}
use Rattle.mb_msg.specs.Plans.{plan_end, plan_digest}
use Rattle.mb_model.specs.EnabledRules.{Rule, ChangeView, Announce, Open, announce_enabled, open_enabled, open_with, is_evidence_of}
use Rattle.mb_model.specs.Held.{change_fault, chosen, evidence_for, plan_at, plan_of_view, plan_from, plan_in_new_view}
use Rattle.mb_model.specs.Histories.{Stamped, History, Identity, view_of}
use Rattle.mb_model.specs.Making.{opening, new_view, new_view_with, view_change}
use Rattle.mb_model.specs.OwnLog.{proof_of}
use Rattle.mb_model.specs.Sending.{signed, next_ui}
use Rattle.mb_model.specs.Stable.{stable_of, further, plan_base}
use Rattle.mb_model.specs.UsableLogs.{is_whole}
use Rattle.mb_model.proofs.Options.{if_some, map_some}
use Rattle.mb_steps.specs.Arises.{Makes}
use Rattle.mb_fetch.specs.Fetched.{Fetched}
use Rattle.mb_fetch.specs.Snapshots.{Snapshot}
use Rattle.mb_plan.specs.Planned.{are_quorum}
use Rattle.mb_plan.proofs.MemberFaults.{members_are_quorum}
use Rattle.mb_host_laws.proofs.Cases.{some_is}
use Rattle.mb_executor.specs.Keeping.{Keeping, raised, fetched_from}
use Rattle.mb_normal.specs.declared.normal.Normal.{Normal}
use Rattle.mb_normal.specs.Searches.{searches_in, without_votes}
use Rattle.mb_normal.specs.Tables.{Represents as NormalRepresents, Becomes}
use Rattle.mb_change.specs.Searches.{Searches as ChangeSearches}
use Rattle.mb_change.specs.Searches.{with_change, with_wish, with_new_view, with_plan, with_evidence}
use Rattle.mb_change.specs.Represents.{SameHost, StandsWith, Answers}
use Rattle.mb_change.specs.Evidences.{chosen as chosen_in, evidence_for as evidence_in_table}
use Rattle.mb_change.specs.Tables.{Table as ChangeTable}
use Rattle.mb_history_laws.proofs.Certified.{own_stable_of_plan}
use Rattle.mb_history_laws.proofs.Framing.{low_stays}
use Rattle.mb_history_laws.proofs.Standing.{view_changed, view_stays}
use Rattle.mb_refinement.specs.Positions.{Learns, AreOpens, counting, hosts_below, open_votes, above_raise}
use Rattle.mb_refinement.specs.Stands.{NormalStands, ChangeStands, ShelfStands, HeldStand}
use Rattle.mb_refinement.specs.Tables.{Tables}
use Rattle.mb_encodable.proofs.Changes.{chosen_fit}
use Rattle.mb_refinement.proofs.Changes.{change_answers, own_change_stored, own_change_not_stored, own_new_view_held, own_open_held}
use Rattle.mb_refinement.proofs.PositionsOpens.{change_cleared, change_counted, own_new_view_raised, own_new_view_counted, open_carried, own_open_view}
use Rattle.mb_replica.specs.declared.state.ReplicaState.{ReplicaState}
use Rattle.mb_core.specs.declared.stamping.TheConstants.{NO_UI}
use Rattle.mb_replica.specs.Between.{AwaitsPublish, WritesCounter, WritesNormal, WritesChange}
use Rattle.mb_core.specs.Carrying.{StoresOwn, Opens, CarriesOn}
use Rattle.mb_replica.specs.Holding.{Holds, CountsOpens, StandsCounting, kept_behind}
use Rattle.mb_replica.specs.Represents.{IsHost, Represents}
use Rattle.mb_replica.proofs.Learnt.{KeptStands, kept_learnt, stable_learnt}
use Rattle.mb_replica.proofs.Opened.{opens_are}
use Rattle.mb_replica.proofs.Accepted.{still_host}
use Rattle.mb_core.proofs.Publishing.{MayStamp, IsNext, may_next, Begun, awaits_publish, awaits_learnt, begun, nothing_yet, then_written, then_normal, then_change, nothing_by_normal, nothing_by_change}

-- ---- snapshots and parts

module _ {V : Type 0} (s : StableCert) where
  same_shelf : (c : Option StableCert) (k j : Keeping V) → k.snapshots ≡ j.snapshots → (kept_behind s c k).snapshots ≡ (kept_behind s c j).snapshots
  same_shelf None k j e = e
  same_shelf (Some c) k j e = by_test (nat_lt s.pos c.pos) where
    by_test : (b : Bool) → (if b then raised c.pos k else k).snapshots ≡ (if b then raised c.pos j else j).snapshots
    by_test true = ap (λ (l : List Snapshot). filter (λ x. nat_le c.pos x.pos) l) e
    by_test false = e

  same_parts : (c : Option StableCert) (k j : Keeping V) → k.fetched ≡ j.fetched → (kept_behind s c k).fetched ≡ (kept_behind s c j).fetched
  same_parts None k j e = e
  same_parts (Some c) k j e = by_test (nat_lt s.pos c.pos) where
    by_test : (b : Bool) → (if b then raised c.pos k else k).fetched ≡ (if b then raised c.pos j else j).fetched
    by_test true = ap (λ (o : Option Fetched). fetched_from c.pos o) e
    by_test false = e

-- ---- what rules and messages carry

abbrev changes_in : Rule → List ViewChange
changes_in (Announce changes) = changes
changes_in r = []

abbrev members_in : StampedMessage → Option NewViewBody
members_in (stamped.NewView m) = whole_body m.body
members_in m = None

same_changes : (a b : NewViewBody) → Some a ≡ Some b → a.changes ≡ b.changes
same_changes a b e = let same : a ≡ b = cc in ap (λ (y : NewViewBody). y.changes) same

abbrev shown_by : Rule → Option (Evidence × Plan)
shown_by (Open e plan) = Some (e, plan)
shown_by r = None

abbrev shown_by_any : Option Rule → Option (Evidence × Plan)
shown_by_any None = None
shown_by_any (Some r) = shown_by r

abbrev evidence_in_open : StampedMessage → Option Evidence
evidence_in_open (stamped.Open m) = Some m.evidence
evidence_in_open m = None

of_both : (a : Option Evidence) (b : Option Plan) (e : Evidence) (plan : Plan) → open_with a b ≡ Some (Open e plan) → (a ≡ Some e) × (b ≡ Some plan)
of_both None b e plan is = absurd cc
of_both (Some a) None e plan is = absurd cc
of_both (Some a) (Some b) e plan is =
    let t = if_some (is_evidence_of a b) (Some (Open a b)) (Open e plan) is in
    let same : (a, b) ≡ (e, plan) = some_is (a, b) (e, plan) (ap shown_by_any t.1) in
    (ap (λ (x : Evidence × Plan). Some x.0) same, ap (λ (x : Evidence × Plan). Some x.1) same)

module _ {V : Type 0} (me : Identity V) (d : History) where
  -- ---- the VIEW_CHANGEs that the NEW_VIEW that is next announces

  pub has_chosen : (changes : List ViewChange) → Makes me d (signed me d (new_view me d changes)) → chosen me d (view_of me d) ≡ Some changes
  unfolding announce_enabled
  has_chosen changes (others, enabled, is) =
      let found = map_some Announce (chosen me d (view_of me d)) (Announce others) (if_some _ _ (Announce others) enabled).1 in
      let first : found.0 ≡ others = ap changes_in found.2 in
      let second : others ≡ changes = same_changes (record { changes = others }) (record { changes = changes }) (ap members_in is) in
      found.1 ∙ ap (λ (l : List ViewChange). Some l) (first ∙ second)

  -- ---- the evidence and the plan that the OPEN that is next shows

  pub record HasPlan (e : Evidence) (plan : Plan) : Type 0 where
    pub held : Plan
    pub evidence : evidence_for me d (view_of me d) ≡ Some e
    pub plan_is : plan_at me d (view_of me d) ≡ Some held
    pub signs : signed me d (opening e held) ≡ signed me d (opening e plan)

  pub has_plan : (e : Evidence) (plan : Plan) → Makes me d (signed me d (opening e plan)) → HasPlan e plan
  unfolding open_enabled
  has_plan e plan (f, other, enabled, is) =
      let both = of_both (evidence_for me d (view_of me d)) (plan_at me d (view_of me d)) f other (if_some _ _ (Open f other) enabled).1 in
      let same : Some f ≡ Some e = ap evidence_in_open is in
      let evidence : f ≡ e = some_is f e same in
      record { held = other; evidence = both.0 ∙ same; plan_is = both.1; signs = ap (λ (y : Evidence). signed me d (opening y other)) (sym evidence) ∙ is }

pub none_planned : (o : Option Plan) (x : Plan) → o ≡ None → o ≡ Some x → ⊥
none_planned o x none some = let no : None ≡ Some x = sym none ∙ some in absurd cc

-- What was written for the own NEW_VIEW.
pub announce_begun : {V : Type 0} (me : Identity V) (old bound : ReplicaState V) → WritesCounter old bound → (f : ChangeSearches → ChangeSearches) (c : Option StableCert) (shown kept counted : ReplicaState V) → WritesChange bound shown → Holds f c shown kept
    → WritesNormal kept counted → Begun me old counted
announce_begun me old bound w f c shown kept counted first second third =
    then_normal me old kept counted
    (then_written me old shown kept kept.protocol.normal kept.protocol.change (further shown.protocol.stable c) kept.keeper.snapshots kept.keeper.fetched second.same second.tables (then_change me old bound shown (begun me old bound w) first)) third

module _ {V : Type 0} (me : Identity V) (old bound : ReplicaState V) (d : History) (rep : Represents me old d) (w : WritesCounter old bound) where
  normal_is : bound.protocol.normal ≡ old.protocol.normal
  normal_is = ap (λ (t : Tables V). t.normal) w.tables

  change_is : bound.protocol.change ≡ old.protocol.change
  change_is = ap (λ (t : Tables V). t.change) w.tables

  stood : NormalStands me bound.protocol.normal d
  stood = subst (λ (t : Normal). NormalStands me t d) (sym normal_is) rep.tables.normal

  held : ChangeStands me bound.protocol.change d
  held = subst (λ (t : ChangeTable). ChangeStands me t d) (sym change_is) rep.tables.change

  opens_behind : (m : StampedMessage) → MayStamp me m d → AreOpens me.shape (Stamped m ∷ d)
  opens_behind m may = opens_are me (Stamped m ∷ d) may.fit.values

  -- ---- the own VIEW_CHANGE

  -- It is stored, where it is usable.
  pub change_behind : (m : ViewChange) → is_whole m.body ≡ true → (wished stored : ChangeTable) → SameHost bound.protocol.change stored → StandsWith bound.protocol.change (with_wish m.ui.host m.view) wished
      → StandsWith wished (λ s. if is_none (change_fault me m) then with_change m s else s) stored → ChangeStands me stored (Stamped (stamped.ViewChange m) ∷ d)
  change_behind m whole wished stored same first second = elim (cases_Bool (is_none (change_fault me m))) [
    | inl usable ↦ own_change_stored me bound.protocol.change stored d same held m (rw (whole, usable) refl) (λ s r. let z = second (with_wish m.ui.host m.view s) (first s r) in rw usable at z)
    | inr faulty ↦ own_change_not_stored me bound.protocol.change stored d same held m (rw (whole, faulty) refl) (λ s r. let z = second (with_wish m.ui.host m.view s) (first s r) in rw faulty at z)
  ]

  -- All is cleared, and the votes of OPENs are counted.
  pub normal_behind : (m : ViewChange) → MayStamp me (stamped.ViewChange m) d → (cleared counted : ReplicaState V) → IsHost me cleared → Becomes bound.protocol.normal cleared.protocol.normal without_votes
      → ChangeStands me cleared.protocol.change (Stamped (stamped.ViewChange m) ∷ d) → CountsOpens m.view cleared counted → NormalStands me counted.protocol.normal (Stamped (stamped.ViewChange m) ∷ d)
  normal_behind m may cleared counted who clears changed counts =
      let e = Stamped (stamped.ViewChange m) in
      let opens : AreOpens me.shape (e ∷ d) = opens_behind (stamped.ViewChange m) may in
      let begins : NormalRepresents me.shape me.host cleared.protocol.normal (without_votes (searches_in me d)) = change_cleared me d bound.protocol.normal cleared.protocol.normal clears stood in
      let ends : StandsCounting me (e ∷ d) (without_votes (searches_in me d)) (hosts_below (host_count cleared.protocol.shape)) counted =
      counts me (e ∷ d) (without_votes (searches_in me d)) (record { change = changed; view_is = sym (view_changed me m d may.sound.arises).0; opens = opens; low = sym (low_stays me e d refl) }) begins in
      change_counted me m d counted.protocol.normal may.sound.arises opens
      (subst (λ (s : Shape). NormalRepresents me.shape me.host counted.protocol.normal (counting (without_votes (searches_in me d)) (open_votes me (e ∷ d)) (hosts_below (host_count s)))) (sym who.shape) ends)

  -- ---- the own NEW_VIEW

  module _ (m : NewView) (changes : List ViewChange) (may : MayStamp me (stamped.NewView m) d) (whole : m.body ≡ Whole (record { changes = changes })) (view : ℕ) (plan : Plan) (in_view : view ≡ m.view) (here : view ≡ view_of me d)
      (plan_is : plan ≡ plan_from me changes) (shown kept counted : ReplicaState V) (first : WritesChange bound shown) (held_first : StandsWith bound.protocol.change (with_new_view m) shown.protocol.change)
      (second : Holds (with_plan view plan) (Some plan.base) shown kept) (third : WritesNormal kept counted) (counts : CountsOpens view kept counted) where
    plan_shown : plan_in_new_view me m ≡ Some (view, plan)
    plan_shown = rw (whole, in_view, plan_is) refl

    stable_is : shown.protocol.stable ≡ old.protocol.stable
    stable_is = ap (λ (t : Tables V). t.stable) first.tables ∙ ap (λ (t : Tables V). t.stable) w.tables

    -- It is held, with its plan,
    change_announced : SameHost bound.protocol.change kept.protocol.change → ChangeStands me kept.protocol.change (Stamped (stamped.NewView m) ∷ d)
    change_announced same =
        own_new_view_held me bound.protocol.change kept.protocol.change d same held m (record { changes = changes }) (ap whole_body whole)
        (λ s r. let z = second.stands (with_new_view m s) (held_first s r) in rw (in_view, plan_is) at z)

    -- the windows rise to its base,
    normal_raised : NormalRepresents me.shape me.host kept.protocol.normal (above_raise me (Stamped (stamped.NewView m)) d)
    normal_raised =
        let learns : Learns (stable_of me d) (plan_base (plan_in_new_view me m)) shown.protocol.normal kept.protocol.normal =
        subst (λ (p : Option (ℕ × Plan)). Learns (stable_of me d) (plan_base p) shown.protocol.normal kept.protocol.normal) (sym plan_shown)
        (subst (λ (c : StableCert). Learns c (plan_base (Some (view, plan))) shown.protocol.normal kept.protocol.normal) (stable_is ∙ rep.tables.stable) second.learns) in
        own_new_view_raised me m d shown.protocol.normal kept.protocol.normal learns (subst (λ (t : Normal). NormalStands me t d) (sym (ap (λ (t : Tables V). t.normal) first.tables)) stood)

    -- and the votes of OPENs are counted.
    normal_announced : IsHost me kept → SameHost bound.protocol.change kept.protocol.change → NormalStands me counted.protocol.normal (Stamped (stamped.NewView m) ∷ d)
    normal_announced who same =
        let e = Stamped (stamped.NewView m) in
        let opens : AreOpens me.shape (e ∷ d) = opens_behind (stamped.NewView m) may in
        let ends : StandsCounting me (e ∷ d) (above_raise me e d) (hosts_below (host_count kept.protocol.shape)) counted =
        counts me (e ∷ d) (above_raise me e d) (record { change = change_announced same; view_is = here ∙ sym (view_stays me e d may.sound.arises refl); opens = opens; low = refl }) normal_raised in
        own_new_view_counted me m d counted.protocol.normal may.sound.arises opens
        (subst (λ (s : Shape). NormalRepresents me.shape me.host counted.protocol.normal (counting (above_raise me e d) (open_votes me (e ∷ d)) (hosts_below (host_count s)))) (sym who.shape) ends)

    brings : stable_of me (Stamped (stamped.NewView m) ∷ d) ≡ further (stable_of me d) (plan_base (Some (view, plan)))
    brings = own_stable_of_plan me m d ∙ ap (λ (p : Option (ℕ × Plan)). further (stable_of me d) (plan_base p)) plan_shown

    pub announce_awaits : AwaitsPublish me counted (stamped.NewView m) d
    announce_awaits =
        let e = Stamped (stamped.NewView m) in
        let c : Option StableCert = plan_base (Some (view, plan)) in
        let same : SameHost bound.protocol.change kept.protocol.change = record {
          shape_is = kept.protocol.change_is.0 ∙ second.same.shape ∙ first.same.shape ∙ sym bound.protocol.change_is.0;
          host_is = kept.protocol.change_is.1 ∙ second.same.host ∙ first.same.host ∙ sym bound.protocol.change_is.1;
        } in
        let who : IsHost me kept = still_host me shown kept second.same (still_host me bound shown first.same (still_host me old bound w.same rep.who)) in
        let k : KeptStands me old d rep e (kept_behind old.protocol.stable c old.keeper) = kept_learnt me old d rep e refl refl c brings in
        let shelf : counted.keeper.snapshots ≡ (kept_behind old.protocol.stable c old.keeper).snapshots =
        ap (λ (t : Tables V). t.shelf) third.tables ∙ ap (λ (x : Keeping V). x.snapshots) second.keeper ∙ ap (λ (y : StableCert). (kept_behind y c shown.keeper).snapshots) stable_is
        ∙ same_shelf old.protocol.stable c shown.keeper old.keeper (ap (λ (t : Tables V). t.shelf) first.tables ∙ ap (λ (t : Tables V). t.shelf) w.tables) in
        let parts : counted.keeper.fetched ≡ (kept_behind old.protocol.stable c old.keeper).fetched =
        ap (λ (t : Tables V). t.parts) third.tables ∙ ap (λ (x : Keeping V). x.fetched) second.keeper ∙ ap (λ (y : StableCert). (kept_behind y c shown.keeper).fetched) stable_is
        ∙ same_parts old.protocol.stable c shown.keeper old.keeper (ap (λ (t : Tables V). t.parts) first.tables ∙ ap (λ (t : Tables V). t.parts) w.tables) in
        awaits_learnt me old counted (stamped.NewView m) d rep (announce_begun me old bound w (with_plan view plan) (Some plan.base) shown kept counted first second third) (normal_announced who same)
        (subst (λ (t : ChangeTable). ChangeStands me t (e ∷ d)) (sym (ap (λ (t : Tables V). t.change) third.tables)) (change_announced same))
        (ap (λ (t : Tables V). t.stable) third.tables ∙ ap (λ (t : Tables V). t.stable) second.tables ∙ ap (λ (y : StableCert). further y c) stable_is ∙ stable_learnt me old d rep e c brings)
        (subst (λ (l : List Snapshot). ShelfStands me l (e ∷ d)) (sym shelf) k.shelf)
        (subst (λ (o : Option Fetched). HeldStand me o (e ∷ d)) (sym parts) k.parts)

  -- ---- the own OPEN

  -- Its plan is carried on, and its evidence held.
  pub open_awaits : (m : OpenMessage) → MayStamp me (stamped.Open m) d → (view : ℕ) (evidence : Evidence) → Opens me d m view evidence bound → (carried new : ReplicaState V) → WritesNormal bound carried → CarriesOn view evidence bound carried
      → WritesChange carried new → StandsWith carried.protocol.change (with_evidence evidence) new.protocol.change → AwaitsPublish me new (stamped.Open m) d
  open_awaits m may view evidence opens carried new first carries second holds =
      let e = Stamped (stamped.Open m) in
      let before : carried.protocol.change ≡ old.protocol.change = ap (λ (t : Tables V). t.change) first.tables ∙ change_is in
      let same : SameHost old.protocol.change new.protocol.change = record {
        shape_is = new.protocol.change_is.0 ∙ second.same.shape ∙ first.same.shape ∙ w.same.shape ∙ sym old.protocol.change_is.0;
        host_is = new.protocol.change_is.1 ∙ second.same.host ∙ first.same.host ∙ w.same.host ∙ sym old.protocol.change_is.1;
      } in
      let stands : StandsWith old.protocol.change (with_evidence m.evidence) new.protocol.change =
      subst (λ (y : Evidence). StandsWith old.protocol.change (with_evidence y) new.protocol.change) (sym opens.shows.evidence)
      (subst (λ (t : ChangeTable). StandsWith t (with_evidence evidence) new.protocol.change) before holds) in
      let normal : NormalStands me carried.protocol.normal (e ∷ d) = open_carried me m d carried.protocol.normal may.sound.arises (carries me d m opens stood) in
      awaits_publish me old new (stamped.Open m) d rep (then_change me old carried new (then_normal me old bound carried (begun me old bound w) first) second)
      (subst (λ (t : Normal). NormalStands me t (e ∷ d)) (sym (ap (λ (t : Tables V). t.normal) second.tables)) normal)
      (own_open_held me old.protocol.change new.protocol.change d same rep.tables.change m stands)
      (nothing_by_change me old carried new (nothing_by_normal me old bound carried (nothing_yet me old bound w) first) second) refl

-- ---- as the code writes them

module _ {V : Type 0} (me : Identity V) (d : History) where
  -- the own VIEW_CHANGE
  abbrev pub own_change : ℕ → ViewChange
  own_change view = record { view = view; body = Whole (proof_of me d); ui = next_ui me d (bare_of (view_change me d view)) }

module _ {V : Type 0} (me : Identity V) (old bound : ReplicaState V) (d : History) where
  module _ (view : ℕ) (n : IsNext me old d (ChangeView view)) where
    pub change_may : MayStamp me (signed me d (view_change me d view)) d
    change_may = may_next me old d (ChangeView view) n (signed me d (view_change me d view)) refl

    module _ (w : WritesCounter old bound) (wished stored cleared counted : ReplicaState V) (first : WritesChange bound wished) (wishes : StandsWith bound.protocol.change (with_wish bound.protocol.host view) wished.protocol.change)
        (second : WritesChange wished stored) (stores : StoresOwn me (own_change me d view) wished stored) (third : WritesNormal stored cleared) (clears : Becomes stored.protocol.normal cleared.protocol.normal without_votes)
        (fourth : WritesNormal cleared counted) (counts : CountsOpens view cleared counted) where
      who_stored : IsHost me stored
      who_stored = still_host me wished stored second.same (still_host me bound wished first.same (still_host me old bound w.same n.represents.who))

      table_stored : SameHost bound.protocol.change stored.protocol.change
      table_stored = record {
        shape_is = stored.protocol.change_is.0 ∙ second.same.shape ∙ first.same.shape ∙ sym bound.protocol.change_is.0;
        host_is = stored.protocol.change_is.1 ∙ second.same.host ∙ first.same.host ∙ sym bound.protocol.change_is.1;
      }

      change_stored_so : ChangeStands me stored.protocol.change (Stamped (stamped.ViewChange (own_change me d view)) ∷ d)
      change_stored_so =
          change_behind me old bound d n.represents w (own_change me d view) refl wished.protocol.change stored.protocol.change table_stored
          (subst (λ (h : ℕ). StandsWith bound.protocol.change (with_wish h view) wished.protocol.change) (w.same.host ∙ sym n.represents.who.host) wishes) stores

      change_cleared_so : ChangeStands me cleared.protocol.change (Stamped (stamped.ViewChange (own_change me d view)) ∷ d)
      change_cleared_so = subst (λ (t : ChangeTable). ChangeStands me t (Stamped (stamped.ViewChange (own_change me d view)) ∷ d)) (sym (ap (λ (t : Tables V). t.change) third.tables)) change_stored_so

      normal_so : NormalStands me counted.protocol.normal (Stamped (stamped.ViewChange (own_change me d view)) ∷ d)
      normal_so =
          normal_behind me old bound d n.represents w (own_change me d view) change_may cleared counted (still_host me stored cleared third.same who_stored)
          (subst (λ (t : Normal). Becomes t cleared.protocol.normal without_votes) (ap (λ (t : Tables V). t.normal) second.tables ∙ ap (λ (t : Tables V). t.normal) first.tables) clears) change_cleared_so counts

      pub change_begun : Begun me old counted
      change_begun = then_normal me old cleared counted (then_normal me old stored cleared (then_change me old wished stored (then_change me old bound wished (begun me old bound w) first) second) third) fourth

      pub change_waits : AwaitsPublish me counted (signed me d (view_change me d view)) d
      change_waits =
          awaits_publish me old counted (signed me d (view_change me d view)) d n.represents change_begun normal_so
          (subst (λ (t : ChangeTable). ChangeStands me t (Stamped (stamped.ViewChange (own_change me d view)) ∷ d)) (sym (ap (λ (t : Tables V). t.change) fourth.tables)) change_cleared_so)
          (nothing_by_normal me old cleared counted (nothing_by_normal me old stored cleared (nothing_by_change me old wished stored (nothing_by_change me old bound wished (nothing_yet me old bound w) first) second) third) fourth) refl

  module _ (changes : List ViewChange) (n : IsNext me old d (Announce changes)) where
    pub announce_may : MayStamp me (signed me d (new_view me d changes)) d
    announce_may = may_next me old d (Announce changes) n (signed me d (new_view me d changes)) refl

    chosen_is : chosen me d (view_of me d) ≡ Some changes
    chosen_is = has_chosen me d changes announce_may.adds

    fit_body : FitsNewViewBody me.shape (record { changes = changes })
    fit_body = chosen_fit me d n.represents.fit.values (view_of me d) changes chosen_is

    -- what the table chooses
    module _ (view : ℕ) (same_view : view ≡ view_of me d) where
      table_chooses : chosen_in old.protocol.change.shape view old.protocol.change.changes ≡ Some changes
      table_chooses = (change_answers me old.protocol.change d n.represents.tables.change).chosen_for view ∙ ap (chosen me d) same_view ∙ chosen_is

      pub some_chosen : None ≡ chosen_in old.protocol.change.shape view old.protocol.change.changes → ⊥
      some_chosen none = let no : None ≡ Some changes = none ∙ table_chooses in absurd cc

      pub chosen_so : (l : List ViewChange) → Some l ≡ chosen_in old.protocol.change.shape view old.protocol.change.changes → l ≡ changes
      chosen_so l is = some_is l changes (is ∙ table_chooses)

    pub members_fit : (l : List ViewChange) → l ≡ changes → AllByRecursion (FitsMember old.protocol.shape) l
    members_fit l is = subst (λ (s : Shape). AllByRecursion (FitsMember s) l) n.represents.who.shape (subst (λ (x : List ViewChange). AllByRecursion (FitsMember me.shape) x) (sym is) fit_body.1.1)

    pub members_enough : (l : List ViewChange) → l ≡ changes → are_quorum me.shape l ≡ true
    members_enough l is = ap (are_quorum me.shape) is ∙ members_are_quorum me.shape (record { changes = changes }) fit_body

    -- The code's message is the one that is made of them.
    pub announce_made : (message : StampedMessage) (l : List ViewChange) (plan : Plan) → message ≡ with_ui NO_UI (new_view_with me (view_of me d) l plan) → l ≡ changes → plan ≡ plan_from me l → message ≡ with_ui NO_UI (new_view me d changes)
    announce_made message l plan is same planned =
        is ∙ ap (λ (p : Plan). with_ui NO_UI (new_view_with me (view_of me d) l p)) planned ∙ ap (λ (x : List ViewChange). with_ui NO_UI (new_view_with me (view_of me d) x (plan_from me x))) same

    -- the own NEW_VIEW
    abbrev pub own_new_view : NewView
    own_new_view = record {
      view = view_of me d;
      base = (plan_from me changes).base.pos;
      end = plan_end (plan_from me changes);
      plan = plan_digest (plan_from me changes);
      body = Whole (record { changes = changes });
      ui = next_ui me d (bare_of (new_view me d changes));
    }

    pub announce_waits : (w : WritesCounter old bound) (view : ℕ) (plan : Plan) → view ≡ view_of me d → plan ≡ plan_from me changes → (shown kept counted : ReplicaState V) → WritesChange bound shown
        → StandsWith bound.protocol.change (with_new_view own_new_view) shown.protocol.change → Holds (with_plan view plan) (Some plan.base) shown kept → WritesNormal kept counted → CountsOpens view kept counted
        → AwaitsPublish me counted (signed me d (new_view me d changes)) d
    announce_waits w view plan here planned shown kept counted first holds second third counts =
        announce_awaits me old bound d n.represents w own_new_view changes announce_may refl view plan here here planned shown kept counted first holds second third counts

  module _ (e : Evidence) (plan : Plan) (n : IsNext me old d (Open e plan)) where
    pub open_may : MayStamp me (signed me d (opening e plan)) d
    open_may = may_next me old d (Open e plan) n (signed me d (opening e plan)) refl

    pub open_has : HasPlan me d e plan
    open_has = has_plan me d e plan open_may.adds

    pub evidence_so : (view : ℕ) → view ≡ view_of me d → (o : Option Evidence) → Answers old.protocol.change o (evidence_in_table old.protocol.change.shape view) → o ≡ Some e
    evidence_so view here o answers = (change_answers me old.protocol.change d n.represents.tables.change).evidence_for_view view o answers ∙ ap (evidence_for me d) here ∙ open_has.evidence

    pub some_evidence : (o : Option Evidence) → o ≡ Some e → o ≡ None → ⊥
    some_evidence o is none = let no : None ≡ Some e = sym none ∙ is in absurd cc

    pub evidence_is : (o : Option Evidence) (y : Evidence) → o ≡ Some e → o ≡ Some y → y ≡ e
    evidence_is o y is some = some_is y e (sym some ∙ is)

    pub opening_so : (view : ℕ) (y : Evidence) → view ≡ view_of me d → y ≡ e → (o : Option StampedMessage) → o ≡ option_map (λ p. with_ui NO_UI (opening y p)) (plan_at me d view) → o ≡ Some (with_ui NO_UI (opening e open_has.held))
    opening_so view y here same o is =
        is ∙ ap (λ (v : ℕ). option_map (λ p. with_ui NO_UI (opening y p)) (plan_at me d v)) here ∙ ap (option_map (λ p. with_ui NO_UI (opening y p))) open_has.plan_is
        ∙ ap (λ (x : Evidence). Some (with_ui NO_UI (opening x open_has.held))) same

    pub some_opening : (o : Option StampedMessage) → o ≡ Some (with_ui NO_UI (opening e open_has.held)) → o ≡ None → ⊥
    some_opening o is none = let no : None ≡ Some (with_ui NO_UI (opening e open_has.held)) = sym none ∙ is in absurd cc

    pub opening_is : (o : Option StampedMessage) (message : StampedMessage) → o ≡ Some (with_ui NO_UI (opening e open_has.held)) → o ≡ Some message → message ≡ with_ui NO_UI (opening e open_has.held)
    opening_is o message is some = some_is message (with_ui NO_UI (opening e open_has.held)) (sym some ∙ is)

    -- It is signed as the one of the rule.
    abbrev pub open_raw : StampedMessage
    open_raw = opening e open_has.held

    pub open_signs : signed me d (opening e open_has.held) ≡ signed me d (opening e plan)
    open_signs = open_has.signs

    pub base_low : (y : Evidence) → y ≡ e → y.base < 2 ^ 63
    base_low y same = subst (λ (x : Evidence). x.base < 2 ^ 63) (sym same) open_may.fit.values.0.evidence.base.0

    -- the own OPEN
    abbrev own_open : OpenMessage
    own_open = record { evidence = e; body = Whole (record { stable = open_has.held.base; batches = open_has.held.batches }); ui = next_ui me d (bare_of (opening e open_has.held)) }

    may_held : MayStamp me (stamped.Open own_open) d
    may_held = subst (λ (m : StampedMessage). MayStamp me m d) (sym open_has.signs) open_may

    pub open_waits : (w : WritesCounter old bound) (view : ℕ) (y : Evidence) → view ≡ view_of me d → y ≡ e → (carried held : ReplicaState V) → WritesNormal bound carried → CarriesOn view y bound carried → WritesChange carried held
        → StandsWith carried.protocol.change (with_evidence y) held.protocol.change → AwaitsPublish me held (signed me d (opening e plan)) d
    open_waits w view y here same carried held first carries second holds =
        let holds_plan : plan_of_view view bound.protocol.change.plan ≡ Some open_has.held =
        ap (λ (t : Tables V). plan_of_view view t.change.plan) w.tables ∙ (change_answers me old.protocol.change d n.represents.tables.change).plans view ∙ ap (plan_at me d) here ∙ open_has.plan_is in
        let opens : Opens me d own_open view y bound = record {
          plan = open_has.held;
          who = still_host me old bound w.same n.represents.who;
          held = holds_plan;
          shows = record { evidence = sym same; body = refl };
          view_is = ap (λ (x : Evidence). x.view) same ∙ own_open_view me own_open d may_held.sound.arises;
        } in
        subst (λ (m : StampedMessage). AwaitsPublish me held m d) open_has.signs (open_awaits me old bound d n.represents w own_open may_held view y opens carried held first carries second holds)
