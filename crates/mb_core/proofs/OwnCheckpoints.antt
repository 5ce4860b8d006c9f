-- The own CHECKPOINT behind an execution: it may be signed, it is kept as another's, and it is published before the own log is cut.
use Rattle.std.proofs.Common.{◌≡◌, ℕ, ◌+◌, ◌-◌, ◌^◌, ◌<◌, ◌≤◌, Bool, true, false, ◌&&◌, List, [], ◌∷◌, ◌++◌, refl, sym, ap, subst, ◌∙◌, arith, Option, Some, Result, Ok, Err, OnOk}
use Rattle.std.specs.Prelude.{nat_lt, nat_le, count_by}
use Rattle.std.proofs.lemmas.Bool.{and_parts, ltb-true, leb-true, le-leb}
use Rattle.std.proofs.lemmas.List.{map-append}
use Rattle.mb_base.specs.Shapes.{Bytes}
use Rattle.mb_base.specs.declared.shape.Shape.{Shape}
use Rattle.mb_parts.specs.declared.floor.Floor.{Floor}
use Rattle.mb_msg.specs.declared.message.Body.TheVariants.{Whole}
use Rattle.mb_msg.specs.declared.normal.Checkpoint.{Checkpoint}
use Rattle.mb_msg.specs.declared.stamped.Stamped.{Stamped as StampedMessage}
use Rattle.mb_msg.specs.declared.stamped.Stamped.TheVariants as stamped
use Rattle.mb_msg.specs.Fits.{Fits, FitsStamped}
use Rattle.mb_msg.specs.Spelling.{stamped_kind}
use Rattle.mb_msg.specs.Stamps.{as_message, bare_of}
use Rattle.mb_model.specs.EnabledRules.{Rule, rule_where, execute_enabled}
use Rattle.mb_model.specs.Histories.{Entry, Executed, Stamped, History, Identity, is_open, counter_of}
use Rattle.mb_model.specs.Making.{checkpoint, floors_under}
use Rattle.mb_model.specs.OwnLog.{is_normal, own_log, is_unspent}
use Rattle.mb_model.specs.Positions.{exec_of}
use Rattle.mb_model.specs.Sending.{Progress, signed, next_ui, to_all, stamp, send, write}
use Rattle.mb_model.specs.Stable.{low_of}
use Rattle.mb_model.specs.UsableLogs.{normal_limit}
use Rattle.mb_steps.specs.Arises.{Adds, Arises, JustExecuted}
use Rattle.mb_log.specs.Logs.{Log, has_room_for, appended}
use Rattle.mb_gate.specs.declared.gate.Gate.{Gate}
use Rattle.mb_encodable.specs.Fitting.{AreFit}
use Rattle.mb_model.specs.Histories.{stamped as all_stamped}
use Rattle.mb_model.proofs.ShapesFit.{shape_fits}
use Rattle.mb_encodable.proofs.Fit.{checkpoint_fit}
use Rattle.mb_encodable.proofs.Letters.{stamps_sent}
use Rattle.mb_history_laws.specs.Sound.{IsSound}
use Rattle.mb_history_laws.proofs.Executing.{served_ends}
use Rattle.mb_history_laws.proofs.Framing.{low_stays}
use Rattle.mb_history_laws.proofs.Sound.{stays_sound}
use Rattle.mb_refinement.specs.Tables.{Tables}
use Rattle.mb_refinement.specs.Stands.{GatesStand, LogStands, NormalStands, ShelfStands, HeldStand}
use Rattle.mb_refinement.proofs.OwnLogs.{place_for, stamp_appended}
use Rattle.mb_refinement.proofs.Together.{EachStands, stands_behind, stand_lags, stays}
use Rattle.mb_refinement.proofs.Values.{own_counter_stamped}
use Rattle.mb_replica.specs.declared.state.ReplicaState.{ReplicaState}
use Rattle.mb_replica.specs.declared.sending.StepOutput.{StepOutput}
use Rattle.mb_core.specs.declared.stamping.TheConstants.{NO_UI}
use Rattle.mb_replica.specs.Represents.{IsHost, Represents, StandsAt, tables_of}
use Rattle.mb_replica.specs.Told.{as_outgoing}
use Rattle.mb_replica.specs.Between.{WritesCounter, WritesStamp, WritesLog, WritesKept, KeepingStands, AwaitsKeeping, AwaitsCut, AwaitsCheckpoint}
use Rattle.mb_core.specs.declared.stamping.Signed.{Signed}
use Rattle.mb_core.specs.Signed.{IsSigned}
use Rattle.mb_replica.proofs.Accepted.{still_host}
use Rattle.mb_replica.proofs.Accepting.{there}
use Rattle.mb_core.proofs.Publishing.{fits_again, no_ui_fits}

where_holds : (test : Bool) (o : Option Rule) (r : Rule) → rule_where test o ≡ Some r → test ≡ true
where_holds true o r e = refl
where_holds false o r e = absurd cc

same_checkpoint : (a b : Checkpoint) → stamped.Checkpoint a ≡ stamped.Checkpoint b → a ≡ b
same_checkpoint a b e = cc

module _ {V : Type 0} (me : Identity V) where
  -- A position that was just executed is not below the stable one.
  low_reached : (d : History) (pos : ℕ) → Arises me d → JustExecuted me d pos → low_of me d ≤ pos
  unfolding execute_enabled
  low_reached (Executed slot ∷ d) pos a j =
      let test = where_holds (is_open me d && nat_le (low_of me d) (exec_of d)) _ _ a.0.enabled in
      let le = leb-true (low_of me d) (exec_of d) (and_parts (is_open me d) (nat_le (low_of me d) (exec_of d)) test).1 in
      let place = a.0.place in
      let low = low_stays me (Executed slot) d refl in
      omega (arith, le, place, low, j)
  low_reached [] pos a j = absurd j
  low_reached (e ∷ d) pos a j = absurd j

  module _ (old : ReplicaState V) (done : StepOutput) (pos : ℕ) (state : Bytes) (x : Progress) (w : AwaitsCheckpoint me old done pos state x) where
    abbrev d : History
    d = x.history

    abbrev made : StampedMessage
    made = signed me d (checkpoint me d pos)

    rep : Represents me old d
    rep = w.stands.represents

    fit_now : AreFit me (Stamped made ∷ d)
    fit_now = checkpoint_fit me (there me old rep.who) pos d w.executed w.whole w.room rep.tables.sound rep.fit

    made_fits : FitsStamped old.protocol.shape made
    made_fits = subst (λ (s : Shape). FitsStamped s made) rep.who.shape fit_now.values.0

    -- ---- what is signed

    pub unspent : old.protocol.usig.counter < 2 ^ 64 - 1
    unspent = subst (λ (n : ℕ). n < 2 ^ 64 - 1) (sym rep.tables.counter) (ltb-true (counter_of d) (2 ^ 64 - 1) (and_parts (nat_lt (count_by is_normal (own_log me d)) (normal_limit me.shape)) (is_unspent me d) w.room).1)

    module _ (floors : List (Option Floor)) (is : floors ≡ floors_under me d pos) where
      abbrev unsigned : Checkpoint
      unsigned = record { pos = pos; state = state; body = Whole (record { floors = floors }); ui = NO_UI }

      pub signs : signed me d (stamped.Checkpoint unsigned) ≡ made
      signs = rw (w.digest, is) refl

      pub fits_unsigned : FitsStamped old.protocol.shape (stamped.Checkpoint unsigned)
      fits_unsigned = fits_again old.protocol.shape (next_ui me d (bare_of (stamped.Checkpoint unsigned))) (stamped.Checkpoint unsigned) (no_ui_fits old.protocol.shape) (subst (FitsStamped old.protocol.shape) (sym signs) made_fits)

      -- What was signed is the copy under its identifier, and it is what is made.
      pub is_own : (s : Signed) (kept : Checkpoint) → IsSigned (signed me d (stamped.Checkpoint unsigned)) s → kept ≡ unsigned → s.message ≡ stamped.Checkpoint (record kept { ui = s.ui })
      is_own s kept is_signed copied = rw (copied, is_signed.ui) is_signed.message

      pub same_own : (s : Signed) (kept : Checkpoint) → IsSigned (signed me d (stamped.Checkpoint unsigned)) s → kept ≡ unsigned → made ≡ stamped.Checkpoint (record kept { ui = s.ui })
      same_own s kept is_signed copied = sym signs ∙ sym is_signed.message ∙ is_own s kept is_signed copied

    -- ---- it is kept

    module _ (m : Checkpoint) (same : made ≡ stamped.Checkpoint m) where
      abbrev entry : Entry
      entry = Stamped (stamped.Checkpoint m)

      pub adds : Adds me d entry
      adds = (pos, w.executed, w.whole, same)

      sound_now : IsSound me (entry ∷ d)
      sound_now = stays_sound me entry d adds tt rep.tables.sound

      fit_here : AreFit me (entry ∷ d)
      fit_here = subst (λ (y : StampedMessage). AreFit me (Stamped y ∷ d)) same fit_now

      pub fits_own : FitsStamped old.protocol.shape (stamped.Checkpoint m)
      fits_own = subst (FitsStamped old.protocol.shape) same made_fits

      sent_own : Fits me.shape (as_message (stamped.Checkpoint m))
      unfolding all_stamped
      sent_own = (stamps_sent me (shape_fits me.shape) (there me old rep.who) (entry ∷ d) sound_now fit_here).0

      kept_at : nat_le (low_of me d) m.pos ≡ true
      kept_at =
          let at : m.pos ≡ pos = ap (λ (y : Checkpoint). y.pos) (sym (same_checkpoint _ m same)) in
          le-leb (low_of me d) m.pos (let le = low_reached d pos rep.tables.sound.arises w.executed in omega (arith, le, at))

      pub awaits_keeping : (mid : ReplicaState V) → WritesCounter old mid → AwaitsKeeping me mid m entry d
      awaits_keeping mid c = record {
        who = still_host me old mid c.same rep.who;
        sound = rep.tables.sound;
        now = sound_now;
        fit = fit_here;
        brings = refl;
        kept = kept_at;
        tables = record {
          normal = subst (λ n. NormalStands me n d) (sym (ap (λ (t : Tables V). t.normal) c.tables)) rep.tables.normal;
          stable = ap (λ (t : Tables V). t.stable) c.tables ∙ rep.tables.stable;
          shelf = subst (λ s. ShelfStands me s d) (sym (ap (λ (t : Tables V). t.shelf) c.tables)) rep.tables.shelf;
          parts = subst (λ s. HeldStand me s d) (sym (ap (λ (t : Tables V). t.parts) c.tables)) rep.tables.parts;
        };
      }

      -- ---- it is published

      module _ (mid kept : ReplicaState V) (c : WritesCounter old mid) (k : WritesKept mid kept) where
        written : tables_of kept ≡ record (tables_of old) { counter = old.protocol.usig.counter + 1; normal = kept.protocol.normal; stable = kept.protocol.stable; shelf = kept.keeper.snapshots; parts = kept.keeper.fetched }
        written = k.tables ∙ ap (λ (t : Tables V). record t { normal = kept.protocol.normal; stable = kept.protocol.stable; shelf = kept.keeper.snapshots; parts = kept.keeper.fetched }) c.tables

        same_log : kept.protocol.log ≡ old.protocol.log
        same_log = ap (λ (t : Tables V). t.log) written

        pub who_kept : IsHost me kept
        who_kept = still_host me mid kept k.same (still_host me old mid c.same rep.who)

        pub sent_kept : Fits kept.protocol.shape (as_message (stamped.Checkpoint m))
        sent_kept = subst (λ (s : Shape). Fits s (as_message (stamped.Checkpoint m))) (rep.who.shape ∙ sym (k.same.shape ∙ c.same.shape)) sent_own

        pub room_kept : has_room_for kept.protocol.log (stamped_kind (stamped.Checkpoint m)) ≡ true
        room_kept = subst (λ (l : Log). has_room_for l (stamped_kind (stamped.Checkpoint m)) ≡ true) (sym same_log) (place_for me old.protocol.log d rep.tables.log (stamped.Checkpoint m) refl w.room)

        pub gates_kept : GatesStand me kept.protocol.gates.items d
        gates_kept = subst (λ (l : List Gate). GatesStand me l d) (sym (ap (λ (t : Tables V). t.gates) written)) rep.tables.gates

        module _ (sent : ReplicaState V) (stands : KeepingStands me kept (entry ∷ d)) (s : WritesStamp kept sent) (log : sent.protocol.log ≡ appended (stamped.Checkpoint m) kept.protocol.log) where
          pub awaits_cut : AwaitsCut me sent entry d
          awaits_cut = record {
            who = still_host me kept sent s.same who_kept;
            kept = kept_at;
            log = stamp_appended me kept.protocol.log sent.protocol.log (stamped.Checkpoint m) d log (subst (λ (l : Log). LogStands me l d) (sym same_log) rep.tables.log);
            counter = ap (λ (t : Tables V). t.counter) s.tables ∙ ap (λ (t : Tables V). t.counter) written ∙ own_counter_stamped old.protocol.usig.counter (stamped.Checkpoint m) d rep.tables.counter;
            normal = subst (λ n. NormalStands me n (entry ∷ d)) (sym (ap (λ (t : Tables V). t.normal) s.tables)) stands.normal;
          }

          pub checkpoint_stands : (new : ReplicaState V) → GatesStand me sent.protocol.gates.items (entry ∷ d) → WritesLog sent new → LogStands me new.protocol.log (entry ∷ d) → Represents me new (entry ∷ d)
          checkpoint_stands new gates l cut =
              let left = stays me (low_of me d) (tables_of old) entry d (stand_lags me (tables_of old) d rep.tables) adds in
              let all : tables_of new ≡ record (tables_of old) {
                counter = old.protocol.usig.counter + 1;
                gates = sent.protocol.gates.items;
                log = new.protocol.log;
                normal = kept.protocol.normal;
                stable = kept.protocol.stable;
                shelf = kept.keeper.snapshots;
                parts = kept.keeper.fetched;
              } = l.tables ∙ ap (λ (t : Tables V). record t { log = new.protocol.log }) (s.tables ∙ ap (λ (t : Tables V). record t { gates = sent.protocol.gates.items; log = sent.protocol.log }) written) in
              record {
                who = still_host me sent new l.same (still_host me kept sent s.same who_kept);
                tables = stands_behind me (tables_of old) (tables_of new) entry d rep.tables adds tt (subst (λ (t : Tables V). EachStands me t (entry ∷ d)) (sym all) (record {
                  counter = own_counter_stamped old.protocol.usig.counter (stamped.Checkpoint m) d rep.tables.counter;
                  gates = gates;
                  log = cut;
                  normal = stands.normal;
                  change = left.change refl;
                  stable = stands.stable;
                  exec = left.exec refl;
                  service = left.service refl;
                  shelf = stands.shelf;
                  parts = stands.parts;
                  asked = left.asked refl;
                }));
                fit = fit_here;
              }

    -- ---- the step

    -- It was sent to all, and nothing else.
    pub checkpoint_sent : (new : ReplicaState V) (after : StepOutput) (m : Checkpoint) → made ≡ stamped.Checkpoint m → Represents me new (Stamped (stamped.Checkpoint m) ∷ d)
        → after.sent ≡ done.sent ++ as_outgoing (to_all (as_message (stamped.Checkpoint m))) ∷ [] → (after.executed ≡ done.executed) × (after.installed ≡ done.installed) → StandsAt me new after (stamp me (checkpoint me d pos) x)
    checkpoint_sent new after m same r sent kept = subst (λ (y : StampedMessage). StandsAt me new after (send (to_all (as_message y)) (write (Stamped y) x))) (sym same) (record {
      represents = r;
      serving = served_ends (Stamped (stamped.Checkpoint m)) d refl;
      sent = sent ∙ ap (λ l. l ++ as_outgoing (to_all (as_message (stamped.Checkpoint m))) ∷ []) w.stands.sent ∙ sym (map-append as_outgoing x.sent (to_all (as_message (stamped.Checkpoint m)) ∷ []));
      executed = kept.0 ∙ w.stands.executed;
      installed = kept.1 ∙ w.stands.installed;
    })

    pub checkpoint_ends : {E : Type 0} (result : Result (Unit {0}) E) (mid kept sent new : ReplicaState V) (after : StepOutput) (m : Checkpoint) (same : made ≡ stamped.Checkpoint m) (c : WritesCounter old mid) (k : WritesKept mid kept)
        → KeepingStands me kept (Stamped (stamped.Checkpoint m) ∷ d) → WritesStamp kept sent → sent.protocol.log ≡ appended (stamped.Checkpoint m) kept.protocol.log → GatesStand me sent.protocol.gates.items (Stamped (stamped.Checkpoint m) ∷ d)
        → OnOk result (WritesLog sent new) → OnOk result (LogStands me new.protocol.log (Stamped (stamped.Checkpoint m) ∷ d))
        → after.sent ≡ done.sent ++ as_outgoing (to_all (as_message (stamped.Checkpoint m))) ∷ [] → (after.executed ≡ done.executed) × (after.installed ≡ done.installed) → OnOk result (StandsAt me new after (stamp me (checkpoint me d pos) x))
    checkpoint_ends (Ok u) mid kept sent new after m same c k stands s log gates l cut out left =
        checkpoint_sent new after m same (checkpoint_stands m same mid kept c k sent stands s log new gates l cut) out left
    checkpoint_ends (Err e) mid kept sent new after m same c k stands s log gates l cut out left = tt
