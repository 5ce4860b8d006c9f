-- What is written into the table of view changes and what is learnt, put together; and behind an entry the tables stand.
use Rattle.std.proofs.Common.{◌≡◌, ℕ, ◌<◌, Bool, true, false, ◌∷◌, refl, sym, ap, subst, ◌∙◌, Option, Some, None}
use Rattle.std.specs.Prelude.{◌&&◌, if◌then◌else◌, option_map}
use Rattle.mb_base.specs.Shapes.{host_count}
use Rattle.mb_base.specs.declared.shape.Shape.{Shape}
use Rattle.mb_parts.specs.declared.certificates.StableCert.{StableCert}
use Rattle.mb_msg.specs.declared.change.NewView.{NewView}
use Rattle.mb_msg.specs.declared.change.Open.{Open}
use Rattle.mb_msg.specs.declared.change.Join.{Join}
use Rattle.mb_msg.specs.declared.change.NewViewBody.{NewViewBody}
use Rattle.mb_msg.specs.declared.change.Plan.{Plan}
use Rattle.mb_msg.specs.declared.message.Body.{Body}
use Rattle.mb_msg.specs.declared.message.Body.TheVariants.{Whole, Bare as Short}
use Rattle.mb_msg.specs.declared.message.Message.TheVariants as message
use Rattle.mb_msg.specs.Bodies.{whole_body}
use Rattle.mb_msg.specs.declared.stamped.Stamped.{Stamped as StampedMessage}
use Rattle.mb_msg.specs.declared.stamped.Stamped.TheVariants as stamped
use Rattle.mb_msg.specs.Fits.{FitsOpen}
use Rattle.mb_msg.specs.Stamps.{as_message}
use Rattle.mb_model.specs.Histories.{Entry, Accepted, History, Identity, view_of}
use Rattle.mb_model.specs.Held.{is_current, new_view_in, gives_plan, plan_held, plan_from}
use Rattle.mb_model.specs.KindChecks.{stamped_refusal}
use Rattle.mb_model.specs.UsableLogs.{is_whole}
use Rattle.mb_model.specs.Stable.{stable_of, further, plan_base}
use Rattle.mb_steps.specs.Arises.{Arises}
use Rattle.mb_change.specs.Tables.{Table as ChangeTable}
use Rattle.mb_change.specs.Searches.{Searches as ChangeSearches, opened_in, with_opened, with_new_view, with_plan}
use Rattle.mb_change.specs.Represents.{StandsWith, Represents as ChangeRepresents}
use Rattle.mb_change.specs.Written.{with_planned, with_announced, with_shown, brought, written}
use Rattle.mb_normal.specs.Searches.{searches_in, above_low}
use Rattle.mb_normal.specs.Tables.{Represents as NormalRepresents}
use Rattle.mb_normal.specs.declared.normal.Normal.{Normal}
use Rattle.mb_history_laws.specs.Speaks.{changes_view, speaks_of_snapshots, speaks_of_parts}
use Rattle.mb_history_laws.proofs.Certified.{stable_shown, stable_of_plan, stable_of_opened}
use Rattle.mb_history_laws.proofs.Sound.{accepted_adds}
use Rattle.mb_history_laws.proofs.Standing.{view_stays}
use Rattle.mb_refinement.specs.Tables.{Tables}
use Rattle.mb_refinement.specs.Stands.{NormalStands, ChangeStands}
use Rattle.mb_refinement.specs.Positions.{Learns, AreOpens, above_raise, hosts_below}
use Rattle.mb_refinement.proofs.Changes.{change_stands, open_gives_none}
use Rattle.mb_refinement.proofs.Positions.{raised_where_above}
use Rattle.mb_refinement.proofs.PositionsOpens.{new_view_counted, open_counted, opens_stay, opens_more}
use Rattle.mb_refinement.proofs.PositionsVoted.{join_learnt}
use Rattle.mb_replica.specs.declared.state.ReplicaState.{ReplicaState}
use Rattle.mb_replica.specs.Represents.{Represents, tables_of}
use Rattle.mb_replica.specs.Between.{WritesNormal, WritesChange, WritesLearnt, AwaitsGate}
use Rattle.mb_replica.specs.Holding.{Holds, announced, HoldsEntry, HoldsBody, plan_in_body, kept_behind, Counts, CountsOpens, StandsCounting}
use Rattle.mb_replica.proofs.Learnt.{KeptStands, kept_learnt, stable_learnt}
use Rattle.mb_replica.proofs.Accepted.{LeavesOthers, same_again, same_table, awaits}
use Rattle.mb_replica.proofs.OpenVotes.{none_written}
use Rattle.mb_replica.proofs.Opened.{opens_are}

module _ {V : Type 0} where
  -- ---- calls put together

  pub wrote_nothing : (r : ReplicaState V) → WritesChange r r
  wrote_nothing r = record { same = record { shape = refl; host = refl; secret = refl }; tables = refl }

  pub wrote_again : (a b c : ReplicaState V) → WritesChange a b → WritesChange b c → WritesChange a c
  wrote_again a b c first second = record {
    same = same_again a b c first.same second.same;
    tables = second.tables ∙ ap (λ (t : Tables V). record t { change = c.protocol.change }) first.tables;
  }

  -- Where the table of view changes alone was written, the keeper is as it was.
  keeper_left : (old new : ReplicaState V) → WritesChange old new → new.keeper ≡ old.keeper
  keeper_left old new writes = ap (λ (t : Tables V). record { served = t.service; snapshots = t.shelf; fetched = t.parts }) writes.tables

  stable_left : (old new : ReplicaState V) → WritesChange old new → new.protocol.stable ≡ old.protocol.stable
  stable_left old new writes = ap (λ (t : Tables V). t.stable) writes.tables

  normal_left : (old new : ReplicaState V) → WritesChange old new → new.protocol.normal ≡ old.protocol.normal
  normal_left old new writes = ap (λ (t : Tables V). t.normal) writes.tables

  -- No certificate was learnt.
  pub wrote_alone : (old new : ReplicaState V) (f : ChangeSearches → ChangeSearches) → WritesChange old new → StandsWith old.protocol.change f new.protocol.change → Holds f None old new
  wrote_alone old new f writes stands = record {
    same = writes.same;
    stands = stands;
    learns = normal_left old new writes;
    keeper = keeper_left old new writes;
    tables = writes.tables ∙ sym (ap (λ (t : Tables V). record (tables_of old) { normal = t.normal; change = new.protocol.change; shelf = t.shelf; parts = t.parts }) writes.tables);
  }

  -- Then something is held.
  pub wrote_then_held : (old mid new : ReplicaState V) (f g : ChangeSearches → ChangeSearches) (c : Option StableCert) → WritesChange old mid → StandsWith old.protocol.change f mid.protocol.change → Holds g c mid new → Holds (λ s. g (f s)) c old new
  wrote_then_held old mid new f g c writes stands holds = record {
    same = same_again old mid new writes.same holds.same;
    stands = λ s r. holds.stands (f s) (stands s r);
    learns = subst (λ (n : Normal). Learns old.protocol.stable c n new.protocol.normal) (normal_left old mid writes) (subst (λ (s : StableCert). Learns s c mid.protocol.normal new.protocol.normal) (stable_left old mid writes) holds.learns);
    keeper = holds.keeper ∙ ap (λ (s : StableCert). kept_behind s c mid.keeper) (stable_left old mid writes) ∙ ap (kept_behind old.protocol.stable c) (keeper_left old mid writes);
    tables = holds.tables
        ∙ ap (λ (s : StableCert). record (tables_of mid) { normal = new.protocol.normal; change = new.protocol.change; stable = further s c; shelf = new.keeper.snapshots; parts = new.keeper.fetched }) (stable_left old mid writes)
        ∙ ap (λ (t : Tables V). record t { normal = new.protocol.normal; change = new.protocol.change; stable = further old.protocol.stable c; shelf = new.keeper.snapshots; parts = new.keeper.fetched }) writes.tables;
  }

  -- A certificate alone is learnt.
  pub learnt_alone : (old new : ReplicaState V) (c : StableCert) → WritesLearnt c old new → Holds (λ s. s) (Some c) old new
  learnt_alone old new c writes = record {
    same = writes.same;
    stands = λ s r. subst (λ (t : ChangeTable). ChangeRepresents t s) (sym (ap (λ (t : Tables V). t.change) writes.tables)) r;
    learns = writes.learns;
    keeper = writes.keeper;
    tables = writes.tables ∙ sym (ap (λ (t : Tables V). record (tables_of old) {
      normal = new.protocol.normal;
      change = t.change;
      stable = further old.protocol.stable (Some c);
      shelf = new.keeper.snapshots;
      parts = new.keeper.fetched;
    }) writes.tables);
  }

  -- with this certificate, of which it is a copy
  pub learnt_same : (old new : ReplicaState V) (c b : StableCert) → b ≡ c → WritesLearnt b old new → Holds (λ s. s) (Some c) old new
  learnt_same old new c b same writes = learnt_alone old new c (subst (λ (x : StableCert). WritesLearnt x old new) same writes)

  -- ---- a NEW_VIEW and an OPEN

  module _ (me : Identity V) (d : History) where
    -- what an entry brings and is held of a NEW_VIEW, by what it announces
    module _ (m : NewView) where
      abbrev plan_in : Bool → Body NewViewBody → Option Plan
      plan_in current b = if current then option_map (λ x. plan_from me x.changes) (whole_body b) else None

      abbrev with_view : Bool → Body NewViewBody → Option (ℕ × Plan)
      with_view current b = if current then option_map (λ x. (m.view, plan_from me x.changes)) (whole_body b) else None

      brings_as : (current : Bool) (b : Body NewViewBody) → with_view current b ≡ option_map (λ p. (m.view, p)) (plan_in current b)
      brings_as true (Whole x) = refl
      brings_as true (Short x) = refl
      brings_as false b = refl

      holds_as : (current : Bool) (b : Body NewViewBody) → (if is_whole b && current then Some m else None) ≡ option_map (λ p. m) (plan_in current b)
      holds_as true (Whole x) = refl
      holds_as true (Short x) = refl
      holds_as false (Whole x) = refl
      holds_as false (Short x) = refl

    -- Nothing is held of a NEW_VIEW that announces no plan.
    pub none_announced : (r : ReplicaState V) (m : NewView) → announced me d (stamped.NewView m) ≡ None → HoldsEntry me d (Accepted (message.NewView m)) r r
    none_announced r m none =
        let P : Option (ℕ × Plan) → Option NewView → Type 0 = λ x n. Holds (λ s. with_planned x (with_announced n s)) (plan_base x) r r in
        let brings : brought me d (Accepted (message.NewView m)) ≡ None = brings_as m (is_current me d m.view) m.body ∙ ap (option_map (λ (p : Plan). (m.view, p))) none in
        let held : new_view_in me d (Accepted (message.NewView m)) ≡ None = holds_as m (is_current me d m.view) m.body ∙ ap (option_map (λ (p : Plan). m)) none in
        subst (λ (x : Option (ℕ × Plan)). P x (new_view_in me d (Accepted (message.NewView m)))) (sym brings)
        (subst (λ (n : Option NewView). P None n) (sym held) (wrote_alone r r (λ s. s) (wrote_nothing r) (λ s y. y)))

    -- Else it is, with its plan.
    pub announced_held : (old mid new : ReplicaState V) (m : NewView) (plan : Plan) → announced me d (stamped.NewView m) ≡ Some plan → WritesChange old mid → StandsWith old.protocol.change (with_new_view m) mid.protocol.change
        → Holds (with_plan m.view plan) (Some plan.base) mid new → HoldsEntry me d (Accepted (message.NewView m)) old new
    announced_held old mid new m plan some writes stands holds =
        let P : Option (ℕ × Plan) → Option NewView → Type 0 = λ x n. Holds (λ s. with_planned x (with_announced n s)) (plan_base x) old new in
        let both : P (Some (m.view, plan)) (Some m) = wrote_then_held old mid new (with_new_view m) (with_plan m.view plan) (Some plan.base) writes stands holds in
        let brings : brought me d (Accepted (message.NewView m)) ≡ Some (m.view, plan) = brings_as m (is_current me d m.view) m.body ∙ ap (option_map (λ (p : Plan). (m.view, p))) some in
        let held : new_view_in me d (Accepted (message.NewView m)) ≡ Some m = holds_as m (is_current me d m.view) m.body ∙ ap (option_map (λ (p : Plan). m)) some in
        subst (λ (x : Option (ℕ × Plan)). P x (new_view_in me d (Accepted (message.NewView m)))) (sym brings) (subst (λ (n : Option NewView). P (Some (m.view, plan)) n) (sym held) both)

    -- An OPEN that is kept, and of which the evidence is held where it is news.
    module _ (old shown opened : ReplicaState V) (m : Open) (first : WritesChange old shown) (shows : StandsWith old.protocol.change (with_shown me d (Some m.evidence)) shown.protocol.change)
        (second : WritesChange shown opened) (opens : StandsWith shown.protocol.change (with_opened m.ui.host (opened_in (Some m.evidence))) opened.protocol.change) where
      pub opened_alone : gives_plan me d (plan_held me d) m.evidence ≡ false → HoldsEntry me d (Accepted (message.Open m)) old opened
      opened_alone gives =
          subst (λ (x : Option (ℕ × Plan)). Holds (λ s. with_planned x (with_shown me d (Some m.evidence) (with_opened m.ui.host (opened_in (Some m.evidence)) s))) (plan_base x) old opened) (sym (open_gives_none me m d gives))
          (wrote_alone old opened (λ s. with_opened m.ui.host (opened_in (Some m.evidence)) (with_shown me d (Some m.evidence) s)) (wrote_again old shown opened first second) (λ s r. opens (with_shown me d (Some m.evidence) s) (shows s r)))

      pub opened_with_plan : (new : ReplicaState V) → gives_plan me d (plan_held me d) m.evidence ≡ true → HoldsBody m.evidence.view m.body opened new → HoldsEntry me d (Accepted (message.Open m)) old new
      opened_with_plan new gives holds =
          let x : Option (ℕ × Plan) = plan_in_body m.evidence.view m.body in
          let brings : brought me d (Accepted (message.Open m)) ≡ x = rw gives refl in
          subst (λ (y : Option (ℕ × Plan)). Holds (λ s. with_planned y (with_shown me d (Some m.evidence) (with_opened m.ui.host (opened_in (Some m.evidence)) s))) (plan_base y) old new) (sym brings)
          (wrote_then_held old opened new (λ s. with_opened m.ui.host (opened_in (Some m.evidence)) (with_shown me d (Some m.evidence) s)) (with_planned x) (plan_base x) (wrote_again old shown opened first second)
          (λ s r. opens (with_shown me d (Some m.evidence) s) (shows s r)) holds)

-- An entry brings a plan, or none, and behind it the votes of OPENs are counted.
pub record BringsPlan {S : Type 0} (me : Identity S) (e : Entry) (d : History) : Type 0 where
  pub leaves : LeavesOthers e
  pub stays : changes_view e ≡ false
  pub snapshots : speaks_of_snapshots e ≡ false
  pub parts : speaks_of_parts e ≡ false
  pub brings : stable_of me (e ∷ d) ≡ further (stable_of me d) (plan_base (brought me d e))

module _ {V : Type 0} (me : Identity V) (old : ReplicaState V) (m : StampedMessage) (d : History) (rep : Represents me old d) (passed : stamped_refusal me d m ≡ None) where
  arises : Arises me (Accepted (as_message m) ∷ d)
  arises = (accepted_adds me m d passed, rep.tables.sound.arises)

  -- Behind what was held the tables of the normal case were written: then the gate of the sender is awaited.
  pub awaits_held : (mid new : ReplicaState V) (f : ChangeSearches → ChangeSearches) (c : Option StableCert) → Holds f c old mid → WritesNormal mid new → stable_of me (Accepted (as_message m) ∷ d) ≡ further (stable_of me d) c
      → LeavesOthers (Accepted (as_message m)) → speaks_of_snapshots (Accepted (as_message m)) ≡ false → speaks_of_parts (Accepted (as_message m)) ≡ false
      → NormalStands me new.protocol.normal (Accepted (as_message m) ∷ d) → ChangeStands me mid.protocol.change (Accepted (as_message m) ∷ d) → AwaitsGate me old new m d
  awaits_held mid new f c holds writes brings leaves snapshots parts normal change =
      let e : Entry = Accepted (as_message m) in
      let kept : KeptStands me old d rep e mid.keeper = subst (KeptStands me old d rep e) (sym holds.keeper) (kept_learnt me old d rep e snapshots parts c brings) in
      awaits me old new m d rep passed leaves new.protocol.normal mid.protocol.change (further old.protocol.stable c) mid.keeper.snapshots mid.keeper.fetched (same_again old mid new holds.same writes.same)
      (writes.tables ∙ ap (λ (t : Tables V). record t { normal = new.protocol.normal }) holds.tables) normal change (stable_learnt me old d rep e c brings) kept.shelf kept.parts

  -- the table of view changes behind it
  changed : (mid : ReplicaState V) → HoldsEntry me d (Accepted (as_message m)) old mid → ChangeStands me mid.protocol.change (Accepted (as_message m) ∷ d)
  changed mid holds = change_stands me old.protocol.change mid.protocol.change (Accepted (as_message m)) d (same_table old mid holds.same) holds.stands rep.tables.change

  raised_behind : (mid : ReplicaState V) (c : Option StableCert) → stable_of me (Accepted (as_message m) ∷ d) ≡ further (stable_of me d) c → Learns old.protocol.stable c old.protocol.normal mid.protocol.normal
      → NormalRepresents me.shape me.host mid.protocol.normal (above_raise me (Accepted (as_message m)) d)
  raised_behind mid c brings learns =
      subst (λ (y : StableCert). NormalRepresents me.shape me.host mid.protocol.normal (above_low (searches_in me d) y.pos)) (sym brings)
      (raised_where_above me.shape me.host old.protocol.normal (searches_in me d) rep.tables.normal mid.protocol.normal (stable_of me d) c refl
      (subst (λ (s : StableCert). Learns s c old.protocol.normal mid.protocol.normal) rep.tables.stable learns))

  -- What came with a plan is taken, and the votes of OPENs are counted.
  pub plan_taken : (mid new : ReplicaState V) (here : ℕ) → HoldsEntry me d (Accepted (as_message m)) old mid → WritesNormal mid new → CountsOpens here mid new → here ≡ view_of me d
      → BringsPlan me (Accepted (as_message m)) d → AreOpens me.shape (Accepted (as_message m) ∷ d)
      → (StandsCounting me (Accepted (as_message m) ∷ d) (above_raise me (Accepted (as_message m)) d) (hosts_below (host_count me.shape)) new → NormalStands me new.protocol.normal (Accepted (as_message m) ∷ d)) → AwaitsGate me old new m d
  plan_taken mid new here holds writes counts is b opens stands =
      let e : Entry = Accepted (as_message m) in
      let c : Option StableCert = plan_base (brought me d e) in
      let now : Counts me (e ∷ d) (above_raise me e d) here mid = record { change = changed mid holds; view_is = is ∙ sym (view_stays me e d arises b.stays); opens = opens; low = refl } in
      let shape : mid.protocol.shape ≡ me.shape = holds.same.shape ∙ sym rep.who.shape in
      let counted : StandsCounting me (e ∷ d) (above_raise me e d) (hosts_below (host_count me.shape)) new =
      subst (λ (s : Shape). StandsCounting me (e ∷ d) (above_raise me e d) (hosts_below (host_count s)) new) shape (counts me (e ∷ d) (above_raise me e d) now (raised_behind mid c b.brings holds.learns)) in
      awaits_held mid new (written me d e) c holds writes b.brings b.leaves b.snapshots b.parts
      (stands counted) (changed mid holds)

module _ {V : Type 0} (me : Identity V) (old : ReplicaState V) (d : History) (rep : Represents me old d) where
  pub new_view_taken : (m : NewView) → stamped_refusal me d (stamped.NewView m) ≡ None → (mid new : ReplicaState V) (here : ℕ) → HoldsEntry me d (Accepted (message.NewView m)) old mid → WritesNormal mid new → CountsOpens here mid new → here ≡ view_of me d
      → AwaitsGate me old new (stamped.NewView m) d
  new_view_taken m passed mid new here holds writes counts is = let opens = opens_stay me.shape (Accepted (message.NewView m)) d refl (opens_are me d rep.fit.values) in plan_taken me old (stamped.NewView m) d rep passed mid new here holds writes counts is (record {
    leaves = record { counter = refl; log = refl; executed = refl; state = refl; nudge = refl };
    stays = refl;
    snapshots = refl;
    parts = refl;
    brings = stable_of_plan me m d;
  }) opens (λ st. new_view_counted me m d new.protocol.normal (arises me old (stamped.NewView m) d rep passed) opens st)

  pub open_taken : (m : Open) → FitsOpen old.protocol.shape m → stamped_refusal me d (stamped.Open m) ≡ None → (mid new : ReplicaState V) (here : ℕ) → HoldsEntry me d (Accepted (message.Open m)) old mid → WritesNormal mid new → CountsOpens here mid new
      → here ≡ view_of me d → AwaitsGate me old new (stamped.Open m) d
  open_taken m fits passed mid new here holds writes counts is = let opens = opens_more me.shape m d (subst (λ (s : Shape). m.ui.host < host_count s) (sym rep.who.shape) fits.ui.host) fits.evidence.view.0 (opens_are me d rep.fit.values) in plan_taken me old (stamped.Open m) d rep passed mid new here holds writes counts is (record {
    leaves = record { counter = refl; log = refl; executed = refl; state = refl; nudge = refl };
    stays = refl;
    snapshots = refl;
    parts = refl;
    brings = stable_of_opened me m d;
  }) opens (λ st. open_counted me m d new.protocol.normal (arises me old (stamped.Open m) d rep passed) opens st)

  pub join_taken : (m : Join) → stamped_refusal me d (stamped.Join m) ≡ None → (new : ReplicaState V) → Holds (with_shown me d m.evidence) (Some m.stable) old new → AwaitsGate me old new (stamped.Join m) d
  join_taken m passed new holds =
      let e : Entry = Accepted (message.Join m) in
      let learns : Learns (stable_of me d) (Some m.stable) old.protocol.normal new.protocol.normal = subst (λ (s : StableCert). Learns s (Some m.stable) old.protocol.normal new.protocol.normal) rep.tables.stable holds.learns in
      awaits_held me old (stamped.Join m) d rep passed new new (with_shown me d m.evidence) (Some m.stable) holds (none_written new) (stable_shown me m d)
      (record { counter = refl; log = refl; executed = refl; state = refl; nudge = refl }) refl refl
      (join_learnt me m d old.protocol.normal new.protocol.normal (arises me old (stamped.Join m) d rep passed) learns rep.tables.normal)
      (change_stands me old.protocol.change new.protocol.change e d (same_table old new holds.same) holds.stands rep.tables.change)
