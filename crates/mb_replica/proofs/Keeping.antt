-- A CHECKPOINT that is kept: the certificate that it completes is learnt, and then the own log is cut. One that is below the stable position leaves all.
use Rattle.std.proofs.Common.{◌≡◌, ℕ, ◌+◌, ◌*◌, ◌/◌, ◌%◌, ◌<◌, ◌≤◌, div-add-mod', Bool, true, false, ◌&&◌, List, [], ◌∷◌, refl, sym, ap, subst, ◌∙◌, inl, inr, arith, length, Option, Some, None, Result, Ok, Err, OnOk, OnErr}
use Rattle.std.specs.Prelude.{nat_lt, nat_le, option_and_then, if◌then◌else◌}
use Rattle.std.proofs.lemmas.Bool.{lt-ltb}
use Rattle.std.proofs.lemmas.Result.{on_ok_weaker}
use Rattle.mb_base.specs.Shapes.{interval, span, quorum}
use Rattle.mb_base.specs.declared.shape.Shape.{Shape}
use Rattle.mb_parts.specs.declared.floor.Floor.{Floor}
use Rattle.mb_parts.specs.declared.certificates.StableCert.{StableCert}
use Rattle.mb_parts.specs.declared.certificates.FloorCert.{FloorCert}
use Rattle.mb_parts.specs.Certificates.{first_floor}
use Rattle.mb_parts.specs.Fits.{FitsStable}
use Rattle.mb_msg.specs.Fits.{FitsStamped}
use Rattle.mb_msg.specs.declared.message.Message.TheVariants as message
use Rattle.mb_msg.specs.declared.normal.Checkpoint.{Checkpoint}
use Rattle.mb_msg.specs.declared.stamped.Stamped.TheVariants as stamped
use Rattle.mb_model.specs.Histories.{Entry, Accepted, Stamped, History, Identity, counter_of}
use Rattle.mb_model.specs.Stable.{stable_of, low_of, further, learnt_in, checkpoint_in, log_floor, first_agreed, same_state, stable_cert}
use Rattle.mb_model.specs.Stable as history
use Rattle.mb_model.specs.KindChecks.{stamped_refusal}
use Rattle.mb_model.proofs.Options.{or_some}
use Rattle.mb_steps.specs.Arises.{Arises}
use Rattle.mb_steps.proofs.StepPotential.{not_above}
use Rattle.mb_fetch.specs.Snapshots.{Snapshot}
use Rattle.mb_fetch.specs.Fetched.{Fetched}
use Rattle.mb_executor.specs.Keeping.{Keeping, raised}
use Rattle.mb_checkpoints.specs.Kept.{IsKeptPlace, low_of as kept_low}
use Rattle.mb_checkpoints.specs.Certificates.{stable_of_these, found_at, agreed_at, agreed_above, floor_from}
use Rattle.mb_checkpoints.proofs.InHistories.{cuts}
use Rattle.mb_host_laws.proofs.Cases.{some_is}
use Rattle.mb_log.specs.Logs.{Log, start, counter_in, floor_counter}
use Rattle.mb_encodable.proofs.Found.{stable_fits}
use Rattle.mb_normal.specs.declared.normal.Normal.{Normal}
use Rattle.mb_normal.specs.Searches.{searches_in, with_checkpoint}
use Rattle.mb_normal.specs.Tables.{Becomes}
use Rattle.mb_history_laws.specs.Speaks.{speaks_of_snapshots, speaks_of_parts}
use Rattle.mb_history_laws.proofs.Sound.{accepted_adds, stays_sound}
use Rattle.mb_refinement.specs.Tables.{Tables}
use Rattle.mb_refinement.specs.Stands.{LogStands, NormalStands, ShelfStands, HeldStand}
use Rattle.mb_refinement.specs.LogCalls.{IsUncut, CutsTo}
use Rattle.mb_refinement.specs.Positions.{StandsAt, Learns, AnswersStable, AnswersFloor}
use Rattle.mb_refinement.proofs.FetchedParts.{held_stays}
use Rattle.mb_refinement.proofs.OwnLogs.{not_appended, own_log_uncut, own_log_cut, uncut_starts, may_cut}
use Rattle.mb_refinement.proofs.Positions.{left_by_call, learns_news, learns_no_news}
use Rattle.mb_refinement.proofs.PositionsVoted.{checkpoint_below, checkpoint_kept, own_checkpoint_kept, checkpoint_completes, own_checkpoint_completes, checkpoint_place, own_checkpoint_place}
use Rattle.mb_refinement.proofs.Snapshots.{shelf_stays}
use Rattle.mb_refinement.proofs.Together.{stays, stand_lags}
use Rattle.mb_refinement.proofs.Values.{no_certificate, own_counter_stays}
use Rattle.mb_replica.specs.declared.state.ReplicaState.{ReplicaState}
use Rattle.mb_replica.specs.Represents.{Represents, tables_of}
use Rattle.mb_replica.specs.Between.{RestStands, RisesTo, WritesNormal, WritesLearnt, WritesLog, WritesKept, KeepingStands, AwaitsKeeping, AwaitsCut, Learnt, LearntAgreed, CutsFound, goes_forward, IsWithin, AwaitsGate}
use Rattle.mb_replica.proofs.Accepted.{same_again, still_host}
use Rattle.mb_replica.proofs.Accepting.{there, accepted_fit}
use Rattle.mb_replica.proofs.Learnt.{keeper_stays, keeper_learns}

pub multiple : (p k : ℕ) → p % k ≡ 0 → (n : ℕ) × (p ≡ n * k)
multiple p k none_left = (p / k, let parts = div-add-mod' p k in omega (arith, none_left, parts))

-- ---- what brings a CHECKPOINT speaks of nothing but positions, what is stable, and the own log

brings_snapshots : (e : Entry) (m : Checkpoint) → checkpoint_in e ≡ Some m → speaks_of_snapshots e ≡ false
brings_snapshots (Accepted (message.Checkpoint x)) m is = refl
brings_snapshots (Stamped (stamped.Checkpoint x)) m is = refl
brings_snapshots e m is = absurd cc

brings_parts : (e : Entry) (m : Checkpoint) → checkpoint_in e ≡ Some m → speaks_of_parts e ≡ false
brings_parts (Accepted (message.Checkpoint x)) m is = refl
brings_parts (Stamped (stamped.Checkpoint x)) m is = refl
brings_parts e m is = absurd cc

-- the same counter, of the model's floor and of the log's
counter_same : {S : Type 0} (self : Identity S) (o : Option Floor) → counter_in o ≡ history.counter_in self o
counter_same self None = refl
counter_same self (Some f) = refl

agreed_place : (s : Shape) (all : List Checkpoint) (p : ℕ) (c : StableCert) → stable_of_these s p all ≡ Some c → c.pos ≡ p
agreed_place s all p c e = of_list (first_agreed (same_state s) (quorum s) all all) e where
  of_list : (o : Option (List Checkpoint)) → option_and_then (stable_cert s p) o ≡ Some c → c.pos ≡ p
  of_list None e = absurd cc
  of_list (Some []) e = absurd cc
  of_list (Some (m ∷ ms)) e = let made = some_is _ c e in ap (λ (x : StableCert). x.pos) (sym made)

-- A certificate was learnt, or is no news.
module _ {V : Type 0} (old new : ReplicaState V) (c : StableCert) where
  pub learnt_writes : old.protocol.stable.pos < c.pos → RisesTo c old.protocol new.protocol → new.keeper ≡ raised c.pos old.keeper → WritesLearnt c old new
  learnt_writes above r keeper =
      let news : nat_lt old.protocol.stable.pos c.pos ≡ true = lt-ltb old.protocol.stable.pos c.pos above in
      record {
        same = record { shape = r.shape; host = r.host; secret = ap (λ u. u.secret) r.usig };
        learns = learns_news old.protocol.normal new.protocol.normal old.protocol.stable c above r.normal;
        keeper = keeper ∙ sym (ap (λ (b : Bool). if b then raised c.pos old.keeper else old.keeper) news);
        tables = rw (news, r.usig, r.gates, r.log, r.change, r.stable, r.exec, r.asked, ap (λ (k : Keeping V). k.served) keeper) refl;
      }

pub no_news_written : {V : Type 0} (old : ReplicaState V) (c : StableCert) → c.pos ≤ old.protocol.stable.pos → WritesLearnt c old old
no_news_written old c below =
    let same : nat_lt old.protocol.stable.pos c.pos ≡ false = not_above old.protocol.stable.pos c.pos below in
    record {
      same = record { shape = refl; host = refl; secret = refl };
      learns = learns_no_news old.protocol.normal old.protocol.stable c below;
      keeper = sym (ap (λ (b : Bool). if b then raised c.pos old.keeper else old.keeper) same);
      tables = rw same refl;
    }

module _ {V : Type 0} where
  -- What it wrote, in all.
  kept_form : (t new : Tables V) (normal : Normal) (stable : StableCert) (shelf : List Snapshot) (parts : Option Fetched) → new ≡ record t { normal = normal; stable = stable; shelf = shelf; parts = parts }
      → new ≡ record t { normal = new.normal; stable = new.stable; shelf = new.shelf; parts = new.parts }
  kept_form t new a b c x is = is ∙ ap (λ (x : Tables V). record t { normal = x.normal; stable = x.stable; shelf = x.shelf; parts = x.parts }) (sym is)

  by_cert_writes : (old mid new : ReplicaState V) → WritesNormal old mid → (c : Option StableCert) → Learnt c mid new → WritesKept old new
  by_cert_writes old mid new w None same = subst (λ (r : ReplicaState V). WritesKept old r) (sym same) (record {
    same = w.same;
    tables = kept_form (tables_of old) (tables_of mid) mid.protocol.normal old.protocol.stable old.keeper.snapshots old.keeper.fetched w.tables;
  })
  by_cert_writes old mid new w (Some x) l = record {
    same = same_again old mid new w.same l.same;
    tables = kept_form (tables_of old) (tables_of new) new.protocol.normal (further mid.protocol.stable (Some x)) new.keeper.snapshots new.keeper.fetched
        (l.tables ∙ ap (λ (t : Tables V). record t { normal = new.protocol.normal; stable = further mid.protocol.stable (Some x); shelf = new.keeper.snapshots; parts = new.keeper.fetched }) w.tables);
  }

  pub keeping_writes : {E : Type 0} (result : Result (Unit {0}) E) (old mid new : ReplicaState V) → OnOk result (LearntAgreed mid new) → WritesNormal old mid → OnOk result (WritesKept old new)
  keeping_writes result old mid new l w = on_ok_weaker result (λ (a : LearntAgreed mid new). by_cert_writes old mid new w a.cert a.learnt) l

-- The tables are those of the same stable position.
pub keeping_left : (old new : Normal) (m : Checkpoint) → Becomes old new (λ x. with_checkpoint x m) → StandsAt (kept_low old.checkpoints) old new
keeping_left old new m becomes = left_by_call old new (λ x. with_checkpoint x m) becomes

module _ {V : Type 0} (me : Identity V) where
  -- ---- the tables of positions and the certificate, however the CHECKPOINT came

  module _ (e : Entry) (m : Checkpoint) (d : History) (a : Arises me (e ∷ d)) (brings : checkpoint_in e ≡ Some m) (from : nat_le (low_of me d) m.pos ≡ true) (t : Normal)
      (stands : NormalStands me t d) where
    pub place_for : IsKeptPlace t.checkpoints m.pos
    place_for = by_entry e a brings where
      by_entry : (e : Entry) → Arises me (e ∷ d) → checkpoint_in e ≡ Some m → IsKeptPlace t.checkpoints m.pos
      by_entry (Accepted (message.Checkpoint x)) a is = let same : m ≡ x = sym (some_is x m is) in
          subst (λ (y : Checkpoint). IsKeptPlace t.checkpoints y.pos) (sym same) (checkpoint_place me x d t a (subst (λ (y : Checkpoint). nat_le (low_of me d) y.pos ≡ true) same from) stands)
      by_entry (Stamped (stamped.Checkpoint x)) a is = let same : m ≡ x = sym (some_is x m is) in
          subst (λ (y : Checkpoint). IsKeptPlace t.checkpoints y.pos) (sym same) (own_checkpoint_place me x d t a (subst (λ (y : Checkpoint). nat_le (low_of me d) y.pos ≡ true) same from) stands)
      by_entry e a is = absurd cc

    module _ (kept : Normal) (becomes : Becomes t kept (λ x. with_checkpoint x m)) (c : Option StableCert) (answers : AnswersStable kept c) where
      completes : stable_of me (e ∷ d) ≡ further (stable_of me d) c
      completes = by_entry e a brings where
        by_entry : (e : Entry) → Arises me (e ∷ d) → checkpoint_in e ≡ Some m → stable_of me (e ∷ d) ≡ further (stable_of me d) c
        by_entry (Accepted (message.Checkpoint x)) a is = let same : m ≡ x = sym (some_is x m is) in
            checkpoint_completes me x d t kept c a (subst (λ (y : Checkpoint). nat_le (low_of me d) y.pos ≡ true) same from) (subst (λ (y : Checkpoint). Becomes t kept (λ s. with_checkpoint s y)) same becomes) answers stands
        by_entry (Stamped (stamped.Checkpoint x)) a is = let same : m ≡ x = sym (some_is x m is) in
            own_checkpoint_completes me x d t kept c a (subst (λ (y : Checkpoint). nat_le (low_of me d) y.pos ≡ true) same from) (subst (λ (y : Checkpoint). Becomes t kept (λ s. with_checkpoint s y)) same becomes) answers stands
        by_entry e a is = absurd cc

      normal_kept : (new : Normal) → Learns (stable_of me d) c kept new → NormalStands me new (e ∷ d)
      normal_kept new learns = by_entry e a brings where
        by_entry : (e : Entry) → Arises me (e ∷ d) → checkpoint_in e ≡ Some m → NormalStands me new (e ∷ d)
        by_entry (Accepted (message.Checkpoint x)) a is = let same : m ≡ x = sym (some_is x m is) in
            checkpoint_kept me x d t kept new c a (subst (λ (y : Checkpoint). nat_le (low_of me d) y.pos ≡ true) same from) (subst (λ (y : Checkpoint). Becomes t kept (λ s. with_checkpoint s y)) same becomes) answers learns stands
        by_entry (Stamped (stamped.Checkpoint x)) a is = let same : m ≡ x = sym (some_is x m is) in
            own_checkpoint_kept me x d t kept new c a (subst (λ (y : Checkpoint). nat_le (low_of me d) y.pos ≡ true) same from) (subst (λ (y : Checkpoint). Becomes t kept (λ s. with_checkpoint s y)) same becomes) answers learns stands
        by_entry e a is = absurd cc

      -- The certificate on which kept CHECKPOINTs agree is of a position above the stable one.
      agreed_high : (x : StableCert) → c ≡ Some x → low_of me d < x.pos
      agreed_high x is =
          let search = (with_checkpoint (searches_in me d) m).checkpoints in
          let low : ℕ = low_of me d in
          let found : c ≡ agreed_above me.shape search low = answers me.shape me.host (with_checkpoint (searches_in me d) m) (becomes me.shape me.host (searches_in me d) stands) in
          let least = me.shape.interval_in.0 in
          elim (or_some (agreed_at me.shape search (low + span me.shape)) (agreed_at me.shape search (low + interval me.shape)) x (sym found ∙ is)) [
            | inl far ↦ let at = agreed_place me.shape (found_at me.shape search (low + span me.shape)) (low + span me.shape) x far in omega (arith, at, least)
            | inr near ↦ let at = agreed_place me.shape (found_at me.shape search (low + interval me.shape)) (low + interval me.shape) x near in omega (arith, at, least)
          ]

      -- So it is the stable one behind the entry, which has the values of the grammar.
      agreed_now : (x : StableCert) → c ≡ Some x → stable_of me (e ∷ d) ≡ x
      agreed_now x is = completes ∙ ap (further (stable_of me d)) is ∙ ap (λ (b : Bool). if b then x else stable_of me d) (lt-ltb (low_of me d) x.pos (agreed_high x is))

  -- ---- the whole of it

  module _ (old : ReplicaState V) (m : Checkpoint) (e : Entry) (d : History) (w : AwaitsKeeping me old m e d) where
    pub place_there : IsKeptPlace old.protocol.normal.checkpoints m.pos
    place_there = place_for e m d w.now.arises w.brings w.kept old.protocol.normal w.tables.normal

    module _ (kept : Normal) (becomes : Becomes old.protocol.normal kept (λ x. with_checkpoint x m)) where
      -- What is learnt has the values of the grammar.
      pub agreed_fits : (x : StableCert) → AnswersStable kept (Some x) → FitsStable old.protocol.shape x
      agreed_fits x answers =
          subst (λ (s : Shape). FitsStable s x) w.who.shape (subst (FitsStable me.shape) (agreed_now e m d w.now.arises w.brings w.kept old.protocol.normal w.tables.normal kept becomes (Some x) answers x refl)
          (stable_fits me (there me old w.who) (e ∷ d) w.now w.fit))

      -- The tables were written so.
      module _ (mid new : ReplicaState V) (normal : mid.protocol.normal ≡ kept) (stable : mid.protocol.stable ≡ old.protocol.stable) (keeper : mid.keeper ≡ old.keeper) where
        was : mid.protocol.stable ≡ stable_of me d
        was = stable ∙ w.tables.stable

        snapshots : ShelfStands me mid.keeper.snapshots d
        snapshots = subst (λ (k : Keeping V). ShelfStands me k.snapshots d) (sym keeper) w.tables.shelf

        held : HeldStand me mid.keeper.fetched d
        held = subst (λ (k : Keeping V). HeldStand me k.fetched d) (sym keeper) w.tables.parts

        kept_stand : (c : Option StableCert) → AnswersStable kept c → Learns mid.protocol.stable c mid.protocol.normal new.protocol.normal → new.protocol.stable ≡ further mid.protocol.stable c
            → (ShelfStands me new.keeper.snapshots (e ∷ d) × HeldStand me new.keeper.fetched (e ∷ d)) → KeepingStands me new (e ∷ d)
        kept_stand c answers learns is follow = record {
          normal = normal_kept e m d w.now.arises w.brings w.kept old.protocol.normal w.tables.normal kept becomes c answers new.protocol.normal
              (subst (λ (n : Normal). Learns (stable_of me d) c n new.protocol.normal) normal (subst (λ (s : StableCert). Learns s c mid.protocol.normal new.protocol.normal) was learns));
          stable = is ∙ ap (λ (s : StableCert). further s c) was ∙ sym (now_is c answers);
          shelf = follow.0;
          parts = follow.1;
        } where
          now_is : (c : Option StableCert) → AnswersStable kept c → stable_of me (e ∷ d) ≡ further (stable_of me d) c
          now_is c answers = completes e m d w.now.arises w.brings w.kept old.protocol.normal w.tables.normal kept becomes c answers

        by_cert : (c : Option StableCert) → AnswersStable kept c → Learnt c mid new → KeepingStands me new (e ∷ d)
        by_cert None answers same =
            let now = completes e m d w.now.arises w.brings w.kept old.protocol.normal w.tables.normal kept becomes None answers in
            let left = keeper_stays me mid.keeper d w.sound snapshots held e (brings_snapshots e m w.brings) (brings_parts e m w.brings) (ap (λ (s : StableCert). s.pos) now) in
            kept_stand None answers (ap (λ (r : ReplicaState V). r.protocol.normal) same) (ap (λ (r : ReplicaState V). r.protocol.stable) same)
            (subst (λ (k : Keeping V). ShelfStands me k.snapshots (e ∷ d) × HeldStand me k.fetched (e ∷ d)) (ap (λ (r : ReplicaState V). r.keeper) (sym same)) left)
        by_cert (Some x) answers l =
            let now = completes e m d w.now.arises w.brings w.kept old.protocol.normal w.tables.normal kept becomes (Some x) answers in
            let left = keeper_learns me mid.keeper d w.sound snapshots held e (brings_snapshots e m w.brings) (brings_parts e m w.brings) mid.protocol.stable x was now in
            kept_stand (Some x) answers l.learns (ap (λ (t : Tables V). t.stable) l.tables)
            (subst (λ (k : Keeping V). ShelfStands me k.snapshots (e ∷ d) × HeldStand me k.fetched (e ∷ d)) (sym l.keeper) left)

        kept_learns : LearntAgreed mid new → KeepingStands me new (e ∷ d)
        kept_learns l = by_cert l.cert (subst (λ (n : Normal). AnswersStable n l.cert) normal l.answers) l.learnt

      pub keeping_ends : {E : Type 0} (result : Result (Unit {0}) E) (mid new : ReplicaState V) → OnOk result (LearntAgreed mid new) → mid.protocol.normal ≡ kept → mid.protocol.stable ≡ old.protocol.stable → mid.keeper ≡ old.keeper
          → OnOk result (KeepingStands me new (e ∷ d))
      keeping_ends result mid new l normal stable keeper = on_ok_weaker result (kept_learns mid new normal stable keeper) l

  -- ---- the cut

  module _ (old : ReplicaState V) (e : Entry) (d : History) (w : AwaitsCut me old e d) where
    counter_here : (c : FloorCert) → floor_counter old.protocol.host (Some c) ≡ history.floor_counter me (Some c)
    counter_here c = ap (λ (h : ℕ). floor_counter h (Some c)) (sym w.who.host) ∙ counter_same me (first_floor me.host c.members)

    forward_here : (c : FloorCert) → goes_forward old c ≡ (nat_lt (history.floor_counter me (log_floor me d)) (history.floor_counter me (Some c)) && nat_le (history.floor_counter me (Some c)) (counter_of (e ∷ d)))
    forward_here c = rw (counter_here c, uncut_starts me old.protocol.log e d w.log, w.counter) refl

    -- Where the cut goes forward, the log holds so much.
    pub within : (c : FloorCert) → goes_forward old c ≡ true → IsWithin old c
    within c forward = subst (λ (h : ℕ). floor_counter h (Some c) ≤ start old.protocol.log + length old.protocol.log.entries) old.protocol.log_is.1
        (may_cut me old.protocol.log e d c w.log (sym (forward_here c) ∙ forward)).1

    pub cut_stands : (new : ReplicaState V) (c : Option FloorCert) → AnswersFloor old.protocol.normal old.protocol.host c → CutsFound old new c → LogStands me new.protocol.log (e ∷ d)
    cut_stands new c answers cut = own_log_cut me old.protocol.log new.protocol.log e d w.kept w.log (subst (λ (o : Option FloorCert). CutsTo me (counter_of (e ∷ d)) old.protocol.log (log_floor me d) o new.protocol.log) found (by_cert c cut)) where
      found : c ≡ history.floor_from me.shape (e ∷ d) me.host (low_of me (e ∷ d))
      found = answers me.shape me.host (searches_in me (e ∷ d)) w.normal ∙ ap (λ (h : ℕ). floor_from me.shape (searches_in me (e ∷ d)).checkpoints h (low_of me (e ∷ d))) (sym w.who.host)
          ∙ cuts me.shape (e ∷ d) me.host (low_of me (e ∷ d))

      by_cert : (o : Option FloorCert) → CutsFound old new o → CutsTo me (counter_of (e ∷ d)) old.protocol.log (log_floor me d) o new.protocol.log
      by_cert None same = ap (λ (r : ReplicaState V). r.protocol.log) same
      by_cert (Some x) by = ((λ is. by.forward (forward_here x ∙ is)), (λ is. by.stays (forward_here x ∙ is)))

  -- ---- an accepted one

  module _ (old : ReplicaState V) (m : Checkpoint) (d : History) (r : Represents me old d) (none : stamped_refusal me d (stamped.Checkpoint m) ≡ None) where
    abbrev entry : Entry
    entry = Accepted (message.Checkpoint m)

    adds : Arises me (entry ∷ d)
    adds = (accepted_adds me (stamped.Checkpoint m) d none, r.tables.sound.arises)

    -- It is below the stable position, and leaves all.
    pub below_awaits : nat_le (low_of me d) m.pos ≡ false → AwaitsGate me old old (stamped.Checkpoint m) d
    below_awaits below =
        let t = r.tables in
        let left = stays me (low_of me d) (tables_of old) entry d (stand_lags me (tables_of old) d t) adds.0 in
        let none_learnt : learnt_in me d old.protocol.stable.pos entry ≡ None = rw (ap (λ (s : StableCert). nat_le s.pos m.pos) t.stable ∙ below) refl in
        let stable = no_certificate me old.protocol.stable entry d t.stable none_learnt in
        let low : low_of me (entry ∷ d) ≡ low_of me d = ap (λ (s : StableCert). s.pos) (sym stable ∙ t.stable) in
        record {
          who = r.who;
          gates = refl;
          log = own_log_uncut me old.protocol.log entry d below (not_appended me old.protocol.log entry d refl t.log);
          rest = record {
            counter = left.counter refl;
            normal = checkpoint_below me m d old.protocol.normal adds below t.normal;
            change = left.change refl;
            stable = stable;
            exec = left.exec refl;
            service = left.service refl;
            shelf = shelf_stays me old.keeper.snapshots entry d refl low t.shelf;
            parts = held_stays me old.keeper.fetched entry d refl low t.parts;
            asked = left.asked refl;
          };
        }

    module _ (kept : nat_le (low_of me d) m.pos ≡ true) (fits : FitsStamped old.protocol.shape (stamped.Checkpoint m)) where
      pub awaits_keeping : AwaitsKeeping me old m entry d
      awaits_keeping = record {
        who = r.who;
        sound = r.tables.sound;
        now = stays_sound me entry d adds.0 tt r.tables.sound;
        fit = accepted_fit me old (stamped.Checkpoint m) d r fits none;
        brings = refl;
        kept = kept;
        tables = record { normal = r.tables.normal; stable = r.tables.stable; shelf = r.tables.shelf; parts = r.tables.parts };
      }

      pub awaits_cut : (mid : ReplicaState V) → WritesKept old mid → KeepingStands me mid (entry ∷ d) → AwaitsCut me mid entry d
      awaits_cut mid w stands = record {
        who = still_host me old mid w.same r.who;
        kept = kept;
        log = subst (λ (l : Log). IsUncut me l entry d) (sym (ap (λ (t : Tables V). t.log) w.tables)) (not_appended me old.protocol.log entry d refl r.tables.log);
        counter = ap (λ (t : Tables V). t.counter) w.tables ∙ own_counter_stays old.protocol.usig.counter entry d refl r.tables.counter;
        normal = stands.normal;
      }

      kept_awaits : (mid new : ReplicaState V) → WritesKept old mid → KeepingStands me mid (entry ∷ d) → WritesLog mid new → LogStands me new.protocol.log (entry ∷ d) → AwaitsGate me old new (stamped.Checkpoint m) d
      kept_awaits mid new w stands l log =
          let t = r.tables in
          let left = stays me (low_of me d) (tables_of old) entry d (stand_lags me (tables_of old) d t) adds.0 in
          let written : tables_of new ≡ record (tables_of old) { log = new.protocol.log; normal = mid.protocol.normal; stable = mid.protocol.stable; shelf = mid.keeper.snapshots; parts = mid.keeper.fetched } =
          l.tables ∙ ap (λ (x : Tables V). record x { log = new.protocol.log }) w.tables in
          record {
            who = still_host me mid new l.same (still_host me old mid w.same r.who);
            gates = ap (λ (x : Tables V). x.gates) written;
            log = log;
            rest = subst (λ (x : Tables V). RestStands me x (entry ∷ d)) (sym written) (record {
              counter = left.counter refl;
              normal = stands.normal;
              change = left.change refl;
              stable = stands.stable;
              exec = left.exec refl;
              service = left.service refl;
              shelf = stands.shelf;
              parts = stands.parts;
              asked = left.asked refl;
            });
          }

      pub kept_awaits_where : {E : Type 0} (result : Result (Unit {0}) E) (mid new : ReplicaState V) → WritesKept old mid → KeepingStands me mid (entry ∷ d) → OnOk result (WritesLog mid new) → OnOk result (LogStands me new.protocol.log (entry ∷ d))
          → OnOk result (AwaitsGate me old new (stamped.Checkpoint m) d)
      kept_awaits_where (Ok u) mid new w stands l log = kept_awaits mid new w stands l log
      kept_awaits_where (Err x) mid new w stands l log = tt
