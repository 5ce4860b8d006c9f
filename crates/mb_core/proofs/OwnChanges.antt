-- The own messages of view changes: what a host has for them when their rules are next, and that its tables stand behind them.
use Rattle.std.proofs.Common.{◌≡◌, ◌∙◌, ℕ, ◌<◌, false, List, ◌∷◌, refl, sym, ap, subst, Option, Some, None}
use Rattle.std.specs.Prelude.{◌==◌}
use Rattle.mb_base.specs.Shapes.{host_count}
use Rattle.mb_base.specs.declared.shape.Shape.{Shape}
use Rattle.mb_service.specs.Machine.{ServiceMachine}
use Rattle.mb_parts.specs.declared.certificates.Evidence.{Evidence}
use Rattle.mb_parts.specs.declared.certificates.StableCert.{StableCert}
use Rattle.mb_msg.specs.declared.change.Enter.{Enter as EnterMessage}
use Rattle.mb_msg.specs.declared.change.Join.{Join as JoinMessage}
use Rattle.mb_msg.specs.declared.change.NewView.{NewView}
use Rattle.mb_msg.specs.declared.change.Plan.{Plan}
use Rattle.mb_msg.specs.declared.change.ViewChange.{ViewChange}
use Rattle.mb_msg.specs.declared.stamped.Stamped.{Stamped as StampedMessage}
use Rattle.mb_msg.specs.declared.stamped.Stamped.TheVariants as stamped
use Rattle.mb_msg.specs.Stamps.{bare_of}
use Rattle.mb_model.specs.EnabledRules.{Rule, ChangeView, Announce, Enter, Open, Join, Commit, Execute, Prepare, enter_enabled}
use Rattle.mb_model.specs.Held.{new_view_of, new_view_in_view}
use Rattle.mb_model.specs.Histories.{Stamped, History, Identity, view_of}
use Rattle.mb_model.specs.Making.{enter, join, join_evidence}
use Rattle.mb_model.specs.Sending.{signed, next_ui}
use Rattle.mb_model.specs.Stable.{stable_of}
use Rattle.mb_model.proofs.Options.{if_some, map_some}
use Rattle.mb_steps.specs.Arises.{Makes}
use Rattle.mb_normal.specs.declared.normal.Normal.{Normal}
use Rattle.mb_change.specs.Searches.{with_enter}
use Rattle.mb_change.specs.Represents.{SameHost, StandsWith}
use Rattle.mb_change.specs.Tables.{Table as ChangeTable}
use Rattle.mb_history_laws.specs.Speaks.{speaks_of_positions}
use Rattle.mb_refinement.specs.Tables.{Tables}
use Rattle.mb_refinement.specs.Stands.{NormalStands, ChangeStands}
use Rattle.mb_refinement.proofs.Changes.{change_stays, own_enter_held}
use Rattle.mb_refinement.proofs.Positions.{normal_stays}
use Rattle.mb_replica.specs.declared.state.ReplicaState.{ReplicaState}
use Rattle.mb_replica.specs.declared.sending.StepOutput.{StepOutput}
use Rattle.mb_core.specs.declared.rules.Due.TheVariants as due
use Rattle.mb_core.specs.declared.stamping.TheConstants.{NO_UI}
use Rattle.mb_replica.specs.Between.{IsSame, AwaitsPublish, WritesCounter, WritesChange}
use Rattle.mb_core.specs.Due.{IsNamed, IsDue}
use Rattle.mb_replica.specs.Represents.{IsHost, Represents}
use Rattle.mb_core.proofs.Publishing.{MayStamp, IsNext, is_next, may_next, Begun, LearntNothing, awaits_publish, begun, nothing_yet, then_change, nothing_by_change}

-- ---- what is named

change_rule : (view : ℕ) (r : Rule) → IsNamed (due.ChangeView view) r → ChangeView view ≡ r
change_rule view (ChangeView target) is = ap ChangeView is
change_rule view (Announce changes) is = absurd is
change_rule view (Enter n) is = absurd is
change_rule view (Open e plan) is = absurd is
change_rule view Join is = absurd is
change_rule view (Commit p k b) is = absurd is
change_rule view (Execute p b) is = absurd is
change_rule view (Prepare p b) is = absurd is

announce_rule : (r : Rule) → IsNamed due.Announce r → (changes : List ViewChange) × (Announce changes ≡ r)
announce_rule (ChangeView target) is = absurd is
announce_rule (Announce changes) is = (changes, refl)
announce_rule (Enter n) is = absurd is
announce_rule (Open e plan) is = absurd is
announce_rule Join is = absurd is
announce_rule (Commit p k b) is = absurd is
announce_rule (Execute p b) is = absurd is
announce_rule (Prepare p b) is = absurd is

enter_rule : (r : Rule) → IsNamed due.Enter r → (n : NewView) × (Enter n ≡ r)
enter_rule (ChangeView target) is = absurd is
enter_rule (Announce changes) is = absurd is
enter_rule (Enter n) is = (n, refl)
enter_rule (Open e plan) is = absurd is
enter_rule Join is = absurd is
enter_rule (Commit p k b) is = absurd is
enter_rule (Execute p b) is = absurd is
enter_rule (Prepare p b) is = absurd is

open_rule : (r : Rule) → IsNamed due.Open r → (e : Evidence) × (plan : Plan) × (Open e plan ≡ r)
open_rule (ChangeView target) is = absurd is
open_rule (Announce changes) is = absurd is
open_rule (Enter n) is = absurd is
open_rule (Open e plan) is = (e, plan, refl)
open_rule Join is = absurd is
open_rule (Commit p k b) is = absurd is
open_rule (Execute p b) is = absurd is
open_rule (Prepare p b) is = absurd is

join_rule : (r : Rule) → IsNamed due.Join r → Join ≡ r
join_rule (ChangeView target) is = absurd is
join_rule (Announce changes) is = absurd is
join_rule (Enter n) is = absurd is
join_rule (Open e plan) is = absurd is
join_rule Join is = refl
join_rule (Commit p k b) is = absurd is
join_rule (Execute p b) is = absurd is
join_rule (Prepare p b) is = absurd is

-- ---- what is due

module _ {V : Type 0} (r : ReplicaState V) where
  -- What is due is due of something.

  pub record ChangeDue (view : ℕ) : Type 0 where
    pub me : Identity V
    pub history : History
    pub next : IsNext me r history (ChangeView view)

  pub record AnnounceDue : Type 0 where
    pub me : Identity V
    pub history : History
    pub changes : List ViewChange
    pub next : IsNext me r history (Announce changes)

  pub record EnterDue : Type 0 where
    pub me : Identity V
    pub history : History
    pub new_view : NewView
    pub next : IsNext me r history (Enter new_view)

  pub record OpenDue : Type 0 where
    pub me : Identity V
    pub history : History
    pub evidence : Evidence
    pub plan : Plan
    pub next : IsNext me r history (Open evidence plan)

  pub record JoinDue : Type 0 where
    pub me : Identity V
    pub history : History
    pub next : IsNext me r history Join

module _ {V : Type 0} (machine : ServiceMachine V) (r : ReplicaState V) (done : StepOutput) where
  pub change_due : (view : ℕ) → IsDue machine r done (due.ChangeView view) → ChangeDue r view
  change_due view q =
      record { me = q.me; history = q.left.history; next = is_next q.me r done q.left (ChangeView view) q.stands (q.next ∙ ap (λ (a : Rule). Some a) (sym (change_rule view q.rule q.named))) }

  pub announce_due : IsDue machine r done due.Announce → AnnounceDue r
  announce_due q =
      let found = announce_rule q.rule q.named in
      record { me = q.me; history = q.left.history; changes = found.0; next = is_next q.me r done q.left (Announce found.0) q.stands (q.next ∙ ap (λ (a : Rule). Some a) (sym found.1)) }

  pub enter_due : IsDue machine r done due.Enter → EnterDue r
  enter_due q =
      let found = enter_rule q.rule q.named in
      record { me = q.me; history = q.left.history; new_view = found.0; next = is_next q.me r done q.left (Enter found.0) q.stands (q.next ∙ ap (λ (a : Rule). Some a) (sym found.1)) }

  pub open_due : IsDue machine r done due.Open → OpenDue r
  open_due q =
      let found = open_rule q.rule q.named in
      record { me = q.me; history = q.left.history; evidence = found.0; plan = found.1; next = is_next q.me r done q.left (Open found.0 found.1) q.stands (q.next ∙ ap (λ (a : Rule). Some a) (sym found.2)) }

  pub join_due : IsDue machine r done due.Join → JoinDue r
  join_due q = record { me = q.me; history = q.left.history; next = is_next q.me r done q.left Join q.stands (q.next ∙ ap (λ (a : Rule). Some a) (sym (join_rule q.rule q.named))) }

module _ {V : Type 0} (me : Identity V) (d : History) where
  -- ---- the NEW_VIEW that the ENTER that is next answers

  pub record HasNewView (n : NewView) : Type 0 where
    pub shown : NewView
    pub held : new_view_of me d ≡ Some shown
    pub signs : signed me d (enter shown) ≡ signed me d (enter n)

  in_view : (v : ℕ) (o : Option NewView) (n : NewView) → new_view_in_view v o ≡ Some n → o ≡ Some n
  in_view v None n e = absurd cc
  in_view v (Some x) n e = (if_some (x.view == v) (Some x) n e).1

  same_new_view : (a b : NewView) → Enter a ≡ Enter b → a ≡ b
  same_new_view a b e = cc

  pub has_new_view : (n : NewView) → Makes me d (signed me d (enter n)) → HasNewView n
  unfolding enter_enabled
  has_new_view n (k, enabled, is) =
      let found = map_some Enter (new_view_in_view (view_of me d) (new_view_of me d)) (Enter k) (if_some _ _ (Enter k) enabled).1 in
      record {
        shown = found.0;
        held = in_view (view_of me d) (new_view_of me d) found.0 found.1;
        signs = ap (λ (y : NewView). signed me d (enter y)) (same_new_view found.0 k found.2) ∙ is;
      }

  pub enter_signed : (n : NewView) → HasNewView n → (y : NewView) → Some y ≡ new_view_of me d
      → signed me d (stamped.Enter (record { view = y.view; counter = y.ui.counter; plan = y.plan; ui = NO_UI })) ≡ signed me d (enter n)
  enter_signed n has y held =
      let whole : Some y ≡ Some has.shown = held ∙ has.held in
      let same : y ≡ has.shown = cc in
      ap (λ (z : NewView). signed me d (enter z)) same ∙ has.signs

same_enter : (a b : EnterMessage) → stamped.Enter a ≡ stamped.Enter b → a ≡ b
same_enter a b e = cc

-- ---- the tables behind ENTER and JOIN

module _ {V : Type 0} (me : Identity V) (old new : ReplicaState V) (d : History) (rep : Represents me old d) (b : Begun me old new) (k : LearntNothing me old new) (normal : new.protocol.normal ≡ old.protocol.normal) where
  normal_behind : (m : StampedMessage) → MayStamp me m d → speaks_of_positions (Stamped m) ≡ false → NormalStands me new.protocol.normal (Stamped m ∷ d)
  normal_behind m may none = subst (λ (t : Normal). NormalStands me t (Stamped m ∷ d)) (sym normal) (normal_stays me (Stamped m) d old.protocol.normal may.sound.arises none rep.tables.normal)

  -- The own ENTER is held.
  pub enter_awaits : (m : EnterMessage) → MayStamp me (stamped.Enter m) d → SameHost old.protocol.change new.protocol.change → StandsWith old.protocol.change (with_enter m) new.protocol.change → AwaitsPublish me new (stamped.Enter m) d
  enter_awaits m may same stands =
      awaits_publish me old new (stamped.Enter m) d rep b (normal_behind (stamped.Enter m) may refl) (own_enter_held me old.protocol.change new.protocol.change d same rep.tables.change m stands) k refl

  -- Nothing is written for the own JOIN.
  pub join_awaits : (m : JoinMessage) → MayStamp me (stamped.Join m) d → new.protocol.change ≡ old.protocol.change → AwaitsPublish me new (stamped.Join m) d
  join_awaits m may same =
      awaits_publish me old new (stamped.Join m) d rep b (normal_behind (stamped.Join m) may refl)
      (subst (λ (t : ChangeTable). ChangeStands me t (Stamped (stamped.Join m) ∷ d)) (sym same) (change_stays me old.protocol.change (Stamped (stamped.Join m)) d refl rep.tables.change)) k refl

-- ---- as the code writes them

module _ {V : Type 0} (me : Identity V) (old bound : ReplicaState V) (d : History) where
  -- This host is one of the hosts.
  pub own_host : IsHost me old → IsSame old bound → (n : ℕ) → n ≡ me.host → n < host_count bound.protocol.shape
  own_host who same n is = subst (λ (s : Shape). n < host_count s) (sym same.shape) (subst (λ (h : ℕ). h < host_count old.protocol.shape) (sym (is ∙ who.host)) old.protocol.host_in)

  module _ (n : NewView) (next : IsNext me old d (Enter n)) where
    pub enter_may : MayStamp me (signed me d (enter n)) d
    enter_may = may_next me old d (Enter n) next (signed me d (enter n)) refl

    enter_has : HasNewView me d n
    enter_has = has_new_view me d n enter_may.adds

    pub some_new_view : None ≡ old.protocol.change.new_view → ⊥
    some_new_view none = let no : None ≡ Some enter_has.shown = none ∙ next.represents.tables.change.represents.new_view_is ∙ enter_has.held in absurd cc

    -- The code's message is signed as this one.
    pub enter_made : (y : NewView) → Some y ≡ old.protocol.change.new_view → signed me d (stamped.Enter (record { view = y.view; counter = y.ui.counter; plan = y.plan; ui = NO_UI })) ≡ signed me d (enter n)
    enter_made y held = enter_signed me d n enter_has y (held ∙ next.represents.tables.change.represents.new_view_is)

    pub enter_waits : (w : WritesCounter old bound) (held : ReplicaState V) → WritesChange bound held → (kept : EnterMessage) → stamped.Enter kept ≡ signed me d (enter n) → StandsWith bound.protocol.change (with_enter kept) held.protocol.change
        → AwaitsPublish me held (signed me d (enter n)) d
    enter_waits w held writes kept is stands =
        let m : EnterMessage = record { view = n.view; counter = n.ui.counter; plan = n.plan; ui = next_ui me d (bare_of (enter n)) } in
        let same : kept ≡ m = same_enter kept m is in
        let change : bound.protocol.change ≡ old.protocol.change = ap (λ (t : Tables V). t.change) w.tables in
        let table : SameHost old.protocol.change held.protocol.change = record {
          shape_is = held.protocol.change_is.0 ∙ writes.same.shape ∙ w.same.shape ∙ sym old.protocol.change_is.0;
          host_is = held.protocol.change_is.1 ∙ writes.same.host ∙ w.same.host ∙ sym old.protocol.change_is.1;
        } in
        enter_awaits me old held d next.represents (then_change me old bound held (begun me old bound w) writes) (nothing_by_change me old bound held (nothing_yet me old bound w) writes)
        (ap (λ (t : Tables V). t.normal) writes.tables ∙ ap (λ (t : Tables V). t.normal) w.tables) m enter_may table
        (subst (λ (y : EnterMessage). StandsWith old.protocol.change (with_enter y) held.protocol.change) same (subst (λ (t : ChangeTable). StandsWith t (with_enter kept) held.protocol.change) change stands))

  module _ (next : IsNext me old d Join) where
    pub join_may : MayStamp me (signed me d (join me d)) d
    join_may = may_next me old d Join next (signed me d (join me d)) refl

    pub join_made : (view : ℕ) (evidence : Option Evidence) (stable : StableCert) → view ≡ view_of me d → evidence ≡ join_evidence me d → stable ≡ old.protocol.stable
        → signed me d (stamped.Join (record { view = view; evidence = evidence; stable = stable; ui = NO_UI })) ≡ signed me d (join me d)
    join_made view evidence stable same_view shown held = rw (same_view, shown, held ∙ next.represents.tables.stable) refl

    pub join_waits : WritesCounter old bound → AwaitsPublish me bound (signed me d (join me d)) d
    join_waits w =
        let m : JoinMessage = record { view = view_of me d; evidence = join_evidence me d; stable = stable_of me d; ui = next_ui me d (bare_of (join me d)) } in
        join_awaits me old bound d next.represents (begun me old bound w) (nothing_yet me old bound w) (ap (λ (t : Tables V). t.normal) w.tables) m join_may (ap (λ (t : Tables V). t.change) w.tables)
