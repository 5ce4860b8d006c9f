-- What a rule stamps: its message may be stamped, and once it is published the host stands behind it.
use Rattle.std.proofs.Common.{◌≡◌, ◌∙◌, ℕ, ◌+◌, ◌-◌, ◌^◌, ◌<◌, true, false, not, List, [], ◌∷◌, ◌++◌, refl, sym, ap, subst, Option, Some, Result, Ok, Err, arith}
use Rattle.std.specs.Prelude.{OnOk, nat_lt, count_by}
use Rattle.std.proofs.lemmas.Bool.{and_parts, ltb-true}
use Rattle.std.proofs.lemmas.List.{map-append}
use Rattle.mb_base.specs.Limits.{other_limit}
use Rattle.mb_base.specs.Shapes.{Bytes}
use Rattle.mb_base.specs.declared.shape.Shape.{Shape}
use Rattle.mb_base.specs.declared.names.Ui.{Ui}
use Rattle.mb_parts.specs.declared.certificates.StableCert.{StableCert}
use Rattle.mb_parts.specs.Fits.{FitsUi}
use Rattle.mb_msg.specs.declared.event.Placed.{Placed}
use Rattle.mb_msg.specs.declared.stamped.Stamped.{Stamped as StampedMessage}
use Rattle.mb_msg.specs.declared.stamped.Stamped.TheVariants as stamped
use Rattle.mb_msg.specs.Fits.{Fits, FitsStamped}
use Rattle.mb_msg.specs.Spelling.{stamped_kind}
use Rattle.mb_msg.specs.Stamps.{as_message, with_ui, ui_of, bare_of}
use Rattle.mb_model.specs.CarriedOut.{carry_out, just_served}
use Rattle.mb_model.specs.EnabledRules.{Rule, next_rule}
use Rattle.mb_model.specs.EnabledRules as rule
use Rattle.mb_model.specs.Histories.{Stamped, Served, History, Identity, counter_of}
use Rattle.mb_model.specs.Making.{prepare, commit, view_change, new_view, enter, opening, join}
use Rattle.mb_model.specs.OwnLog.{is_normal, own_log, has_room, has_other_room, is_unspent}
use Rattle.mb_model.specs.Stable.{stable_of}
use Rattle.mb_model.specs.UsableLogs.{normal_limit}
use Rattle.mb_model.specs.Sending.{Progress, begin, write, send, note, to_all, signed, next_ui}
use Rattle.mb_model.specs.Histories.{stamped as all_stamped}
use Rattle.mb_model.proofs.ShapesFit.{shape_fits}
use Rattle.mb_steps.specs.Arises.{Adds, IsWhole}
use Rattle.mb_host_laws.proofs.RoomForRules.{room_for}
use Rattle.mb_log.specs.Logs.{Log, has_room_for, appended}
use Rattle.mb_normal.specs.declared.normal.Normal.{Normal}
use Rattle.mb_change.specs.Tables.{Table as ChangeTable}
use Rattle.mb_fetch.specs.Snapshots.{Snapshot}
use Rattle.mb_fetch.specs.Fetched.{Fetched}
use Rattle.mb_gate.specs.declared.gate.Gate.{Gate}
use Rattle.mb_history_laws.specs.Sound.{IsSound}
use Rattle.mb_history_laws.specs.Speaks.{speaks_of_checkpoints, speaks_of_stable}
use Rattle.mb_history_laws.proofs.Framing.{low_stays}
use Rattle.mb_history_laws.proofs.SoundRules.{rule_sound}
use Rattle.mb_refinement.specs.Stands.{GatesStand, LogStands, NormalStands, ChangeStands, ShelfStands, HeldStand}
use Rattle.mb_refinement.specs.Tables.{Tables}
use Rattle.mb_refinement.proofs.FetchedParts.{held_stays}
use Rattle.mb_refinement.proofs.OwnLogs.{own_log_appended, place_for, place_for_other}
use Rattle.mb_refinement.proofs.Snapshots.{shelf_stays}
use Rattle.mb_refinement.proofs.Values.{own_counter_stamped, executed_stays, certificate_stays, service_stays, asked_left}
use Rattle.mb_encodable.specs.Fitting.{AreFit}
use Rattle.mb_encodable.proofs.Fit.{rule_fit}
use Rattle.mb_encodable.proofs.Letters.{stamps_sent}
use Rattle.mb_replica.specs.declared.state.ReplicaState.{ReplicaState}
use Rattle.mb_replica.specs.declared.sending.StepOutput.{StepOutput}
use Rattle.mb_core.specs.declared.stamping.TheConstants.{NO_UI}
use Rattle.mb_replica.specs.Between.{IsSame, RestStands, AwaitsPublish, WritesStamp, WritesCounter, WritesNormal, WritesChange}
use Rattle.mb_replica.specs.Represents.{IsHost, Represents, StandsAt, tables_of}
use Rattle.mb_replica.specs.Told.{as_outgoing}
use Rattle.mb_replica.proofs.Accepted.{same_again, still_host}
use Rattle.mb_replica.proofs.Accepting.{there}

-- ---- identifiers that stand in a message until it is stamped

-- Under another identifier that fits, a message fits too.
pub fits_again : (s : Shape) (u : Ui) (m : StampedMessage) → FitsUi s (ui_of m) → FitsStamped s (with_ui u m) → FitsStamped s m
fits_again s u (stamped.Prepare m) own f = record { view = f.view; pos = f.pos; body = f.body; ui = own }
fits_again s u (stamped.Commit m) own f = record { view = f.view; pos = f.pos; counter = f.counter; cert = f.cert; body = f.body; ui = own }
fits_again s u (stamped.Checkpoint m) own f = record { pos = f.pos; state = f.state; body = f.body; ui = own }
fits_again s u (stamped.ViewChange m) own f = record { view = f.view; body = f.body; ui = own }
fits_again s u (stamped.NewView m) own f = record { view = f.view; base = f.base; end = f.end; plan = f.plan; body = f.body; ui = own }
fits_again s u (stamped.Enter m) own f = record { view = f.view; counter = f.counter; plan = f.plan; ui = own }
fits_again s u (stamped.Open m) own f = record { evidence = f.evidence; body = f.body; ui = own }
fits_again s u (stamped.Join m) own f = record { view = f.view; evidence = f.evidence; stable = f.stable; above = f.above; ui = own }

-- It is signed the same, whatever stands there.
pub signed_again : {S : Type 0} (self : Identity S) (d : History) (u : Ui) (m : StampedMessage) → signed self d (with_ui u m) ≡ signed self d m
signed_again self d u (stamped.Prepare m) = refl
signed_again self d u (stamped.Commit m) = refl
signed_again self d u (stamped.Checkpoint m) = refl
signed_again self d u (stamped.ViewChange m) = refl
signed_again self d u (stamped.NewView m) = refl
signed_again self d u (stamped.Enter m) = refl
signed_again self d u (stamped.Open m) = refl
signed_again self d u (stamped.Join m) = refl

pub signed_raw : {S : Type 0} (self : Identity S) (d : History) (raw before : StampedMessage) → before ≡ with_ui NO_UI raw → signed self d before ≡ signed self d raw
signed_raw self d raw before is = ap (signed self d) is ∙ signed_again self d NO_UI raw

ui_with : (u : Ui) (m : StampedMessage) → ui_of (with_ui u m) ≡ u
ui_with u (stamped.Prepare m) = refl
ui_with u (stamped.Commit m) = refl
ui_with u (stamped.Checkpoint m) = refl
ui_with u (stamped.ViewChange m) = refl
ui_with u (stamped.NewView m) = refl
ui_with u (stamped.Enter m) = refl
ui_with u (stamped.Open m) = refl
ui_with u (stamped.Join m) = refl

-- No request of a batch was served last.
pub nothing_served : (d : History) → just_served d ≡ [] → IsWhole d
unfolding just_served
nothing_served [] none = tt
nothing_served (Served pos placed ∷ d) none = absurd (not_empty (just_served d) placed none) where
  not_empty : (l : List Placed) (p : Placed) → l ++ p ∷ [] ≡ [] → ⊥
  not_empty [] p e = cc
  not_empty (x ∷ l) p e = cc
nothing_served (e ∷ d) none = tt

module _ {V : Type 0} (me : Identity V) where
  -- ---- what may be stamped

  -- The history with it is one to which the host's steps lead, and there is room for it.
  pub record MayStamp (m : StampedMessage) (d : History) : Type 0 where
    pub adds : Adds me d (Stamped m)
    pub sound : IsSound me (Stamped m ∷ d)
    pub fit : AreFit me (Stamped m ∷ d)
    pub plain : speaks_of_checkpoints (Stamped m) ≡ false
    pub unspent : counter_of d < 2 ^ 64 - 1
    pub room : (log : Log) → LogStands me log d → has_room_for log (stamped_kind m) ≡ true

  normal_stamp : (m : StampedMessage) (d : History) → is_normal m ≡ true → speaks_of_checkpoints (Stamped m) ≡ false → has_room me d ≡ true → IsSound me (Stamped m ∷ d) → AreFit me (Stamped m ∷ d) → MayStamp m d
  normal_stamp m d normal plain room s f = record {
    adds = s.arises.0;
    sound = s;
    fit = f;
    plain = plain;
    unspent = ltb-true (counter_of d) (2 ^ 64 - 1) (and_parts (nat_lt (count_by is_normal (own_log me d)) (normal_limit me.shape)) (is_unspent me d) room).1;
    room = λ log stands. place_for me log d stands m normal room;
  }

  other_stamp : (m : StampedMessage) (d : History) → is_normal m ≡ false → speaks_of_checkpoints (Stamped m) ≡ false → has_other_room me d ≡ true → IsSound me (Stamped m ∷ d) → AreFit me (Stamped m ∷ d) → MayStamp m d
  other_stamp m d other plain room s f = record {
    adds = s.arises.0;
    sound = s;
    fit = f;
    plain = plain;
    unspent = ltb-true (counter_of d) (2 ^ 64 - 1) (and_parts (nat_lt (count_by (λ m. not (is_normal m)) (own_log me d)) other_limit) (is_unspent me d) room).1;
    room = λ log stands. place_for_other me log d stands m other room;
  }

  -- what a rule signs, where it signs before anything else
  abbrev pub signs : Rule → History → StampedMessage → Type 0
  signs (rule.ChangeView view) d m = signed me d (view_change me d view) ≡ m
  signs (rule.Announce changes) d m = signed me d (new_view me d changes) ≡ m
  signs (rule.Enter n) d m = signed me d (enter n) ≡ m
  signs (rule.Open e plan) d m = signed me d (opening e plan) ≡ m
  signs rule.Join d m = signed me d (join me d) ≡ m
  signs (rule.Commit pos k b) d m = signed me d (commit me d pos k b) ≡ m
  signs (rule.Execute pos b) d m = ⊥
  signs (rule.Prepare pos b) d m = signed me d (prepare me d pos b) ≡ m

  module _ (r : ReplicaState V) (d : History) (rep : Represents me r d) (whole : IsWhole d) where
    sound_behind : (a : Rule) → next_rule me d ≡ Some a → IsSound me (carry_out me a (begin d)).history
    sound_behind a next = (rule_sound me a (begin d) next rep.tables.sound whole).0

    fit_behind : (a : Rule) → next_rule me d ≡ Some a → AreFit me (carry_out me a (begin d)).history
    fit_behind a next = rule_fit me (there me r rep.who) a (begin d) next rep.tables.sound whole rep.fit

    -- The next rule may stamp its message.
    pub may_stamp : (a : Rule) → next_rule me d ≡ Some a → (m : StampedMessage) → signs a d m → MayStamp m d
    unfolding carry_out
    may_stamp (rule.ChangeView view) next m is = subst (λ (y : StampedMessage). MayStamp y d) is
        (other_stamp (signed me d (view_change me d view)) d refl refl (room_for me d (rule.ChangeView view) next) (sound_behind (rule.ChangeView view) next) (fit_behind (rule.ChangeView view) next))
    may_stamp (rule.Announce changes) next m is = subst (λ (y : StampedMessage). MayStamp y d) is
        (other_stamp (signed me d (new_view me d changes)) d refl refl (room_for me d (rule.Announce changes) next) (sound_behind (rule.Announce changes) next) (fit_behind (rule.Announce changes) next))
    may_stamp (rule.Enter n) next m is = subst (λ (y : StampedMessage). MayStamp y d) is
        (other_stamp (signed me d (enter n)) d refl refl (room_for me d (rule.Enter n) next) (sound_behind (rule.Enter n) next) (fit_behind (rule.Enter n) next))
    may_stamp (rule.Open e plan) next m is = subst (λ (y : StampedMessage). MayStamp y d) is
        (other_stamp (signed me d (opening e plan)) d refl refl (room_for me d (rule.Open e plan) next) (sound_behind (rule.Open e plan) next) (fit_behind (rule.Open e plan) next))
    may_stamp rule.Join next m is = subst (λ (y : StampedMessage). MayStamp y d) is
        (other_stamp (signed me d (join me d)) d refl refl (room_for me d rule.Join next) (sound_behind rule.Join next) (fit_behind rule.Join next))
    may_stamp (rule.Commit pos k b) next m is = subst (λ (y : StampedMessage). MayStamp y d) is
        (normal_stamp (signed me d (commit me d pos k b)) d refl refl (room_for me d (rule.Commit pos k b) next) (sound_behind (rule.Commit pos k b) next) (fit_behind (rule.Commit pos k b) next))
    may_stamp (rule.Execute pos b) next m is = absurd is
    may_stamp (rule.Prepare pos b) next m is = subst (λ (y : StampedMessage). MayStamp y d) is
        (normal_stamp (signed me d (prepare me d pos b)) d refl refl (room_for me d (rule.Prepare pos b) next) (sound_behind (rule.Prepare pos b) next) (fit_behind (rule.Prepare pos b) next))

  -- This rule is next in the history that the host stands for.
  pub record IsNext (r : ReplicaState V) (d : History) (a : Rule) : Type 0 where
    pub represents : Represents me r d
    pub whole : IsWhole d
    pub next : next_rule me d ≡ Some a

  pub may_next : (r : ReplicaState V) (d : History) (a : Rule) → IsNext r d a → (m : StampedMessage) → signs a d m → MayStamp m d
  may_next r d a n m is = may_stamp r d n.represents n.whole a n.next m is

  pub is_next : (r : ReplicaState V) (done : StepOutput) (x : Progress) (a : Rule) → StandsAt me r done x → next_rule me x.history ≡ Some a → IsNext r x.history a
  is_next r done x a st next = record { represents = st.represents; whole = nothing_served x.history st.serving; next = next }

  -- ---- what was written before

  -- A counter was bound. Positions, view changes and what is stable may have been written.
  pub record Begun (old new : ReplicaState V) : Type 0 where
    pub same : IsSame old new
    pub counter : new.protocol.usig.counter ≡ old.protocol.usig.counter + 1
    pub gates : new.protocol.gates.items ≡ old.protocol.gates.items
    pub log : new.protocol.log ≡ old.protocol.log
    pub exec : new.protocol.exec ≡ old.protocol.exec
    pub service : new.keeper.served ≡ old.keeper.served
    pub asked : new.protocol.asked ≡ old.protocol.asked

  -- Nothing was learnt.
  pub record LearntNothing (old new : ReplicaState V) : Type 0 where
    pub stable : new.protocol.stable ≡ old.protocol.stable
    pub shelf : new.keeper.snapshots ≡ old.keeper.snapshots
    pub parts : new.keeper.fetched ≡ old.keeper.fetched

  -- First the counter is bound.
  pub begun : (old new : ReplicaState V) → WritesCounter old new → Begun old new
  begun old new w = record {
    same = w.same;
    counter = ap (λ (t : Tables V). t.counter) w.tables;
    gates = ap (λ (t : Tables V). t.gates) w.tables;
    log = ap (λ (t : Tables V). t.log) w.tables;
    exec = ap (λ (t : Tables V). t.exec) w.tables;
    service = ap (λ (t : Tables V). t.service) w.tables;
    asked = ap (λ (t : Tables V). t.asked) w.tables;
  }

  pub nothing_yet : (old new : ReplicaState V) → WritesCounter old new → LearntNothing old new
  nothing_yet old new w = record { stable = ap (λ (t : Tables V). t.stable) w.tables; shelf = ap (λ (t : Tables V). t.shelf) w.tables; parts = ap (λ (t : Tables V). t.parts) w.tables }

  -- These tables may be written then.
  module _ (old mid new : ReplicaState V) (normal : Normal) (change : ChangeTable) (stable : StableCert) (shelf : List Snapshot) (parts : Option Fetched) (same : IsSame mid new)
      (is : tables_of new ≡ record (tables_of mid) { normal = normal; change = change; stable = stable; shelf = shelf; parts = parts }) where
    pub then_written : Begun old mid → Begun old new
    then_written b = record {
      same = same_again old mid new b.same same;
      counter = ap (λ (t : Tables V). t.counter) is ∙ b.counter;
      gates = ap (λ (t : Tables V). t.gates) is ∙ b.gates;
      log = ap (λ (t : Tables V). t.log) is ∙ b.log;
      exec = ap (λ (t : Tables V). t.exec) is ∙ b.exec;
      service = ap (λ (t : Tables V). t.service) is ∙ b.service;
      asked = ap (λ (t : Tables V). t.asked) is ∙ b.asked;
    }

  pub then_normal : (old mid new : ReplicaState V) → Begun old mid → WritesNormal mid new → Begun old new
  then_normal old mid new b w = then_written old mid new new.protocol.normal mid.protocol.change mid.protocol.stable mid.keeper.snapshots mid.keeper.fetched w.same w.tables b

  pub then_change : (old mid new : ReplicaState V) → Begun old mid → WritesChange mid new → Begun old new
  then_change old mid new b w = then_written old mid new mid.protocol.normal new.protocol.change mid.protocol.stable mid.keeper.snapshots mid.keeper.fetched w.same w.tables b

  pub nothing_by_normal : (old mid new : ReplicaState V) → LearntNothing old mid → WritesNormal mid new → LearntNothing old new
  nothing_by_normal old mid new k w = record {
    stable = ap (λ (t : Tables V). t.stable) w.tables ∙ k.stable;
    shelf = ap (λ (t : Tables V). t.shelf) w.tables ∙ k.shelf;
    parts = ap (λ (t : Tables V). t.parts) w.tables ∙ k.parts;
  }

  pub nothing_by_change : (old mid new : ReplicaState V) → LearntNothing old mid → WritesChange mid new → LearntNothing old new
  nothing_by_change old mid new k w = record {
    stable = ap (λ (t : Tables V). t.stable) w.tables ∙ k.stable;
    shelf = ap (λ (t : Tables V). t.shelf) w.tables ∙ k.shelf;
    parts = ap (λ (t : Tables V). t.parts) w.tables ∙ k.parts;
  }

  -- ---- what waits for the own gate and the own log

  module _ (old new : ReplicaState V) (m : StampedMessage) (d : History) (rep : Represents me old d) (b : Begun old new) (normal : NormalStands me new.protocol.normal (Stamped m ∷ d)) (change : ChangeStands me new.protocol.change (Stamped m ∷ d)) where
    pub awaits_learnt : new.protocol.stable ≡ stable_of me (Stamped m ∷ d) → ShelfStands me new.keeper.snapshots (Stamped m ∷ d) → HeldStand me new.keeper.fetched (Stamped m ∷ d) → AwaitsPublish me new m d
    awaits_learnt stable shelf parts = record {
      who = still_host me old new b.same rep.who;
      gates = subst (λ (l : List Gate). GatesStand me l d) (sym b.gates) rep.tables.gates;
      log = subst (λ (l : Log). LogStands me l d) (sym b.log) rep.tables.log;
      rest = record {
        counter = b.counter ∙ own_counter_stamped old.protocol.usig.counter m d rep.tables.counter;
        normal = normal;
        change = change;
        stable = stable;
        exec = b.exec ∙ executed_stays me old.protocol.exec (Stamped m) d refl rep.tables.exec;
        service = b.service ∙ service_stays me old.keeper.served (Stamped m) d refl rep.tables.service;
        shelf = shelf;
        parts = parts;
        asked = b.asked ∙ asked_left me old.protocol.asked (Stamped m) d refl rep.tables.asked;
      };
    }

    -- where the message brings no certificate
    pub awaits_publish : LearntNothing old new → speaks_of_stable (Stamped m) ≡ false → AwaitsPublish me new m d
    awaits_publish k plain = awaits_learnt
        (k.stable ∙ certificate_stays me old.protocol.stable (Stamped m) d plain rep.tables.stable)
        (subst (λ (l : List Snapshot). ShelfStands me l (Stamped m ∷ d)) (sym k.shelf) (shelf_stays me old.keeper.snapshots (Stamped m) d refl (low_stays me (Stamped m) d plain) rep.tables.shelf))
        (subst (λ (h : Option Fetched). HeldStand me h (Stamped m ∷ d)) (sym k.parts) (held_stays me old.keeper.fetched (Stamped m) d refl (low_stays me (Stamped m) d plain) rep.tables.parts))

  -- ---- published

  rest_after : (r new : ReplicaState V) (d : History) → WritesStamp r new → RestStands me (tables_of r) d → RestStands me (tables_of new) d
  rest_after r new d w rest = subst (λ (t : Tables V). RestStands me t d) (sym w.tables) (record {
    counter = rest.counter;
    normal = rest.normal;
    change = rest.change;
    stable = rest.stable;
    exec = rest.exec;
    service = rest.service;
    shelf = rest.shelf;
    parts = rest.parts;
    asked = rest.asked;
  })

  stands_published : (old r new : ReplicaState V) (m : StampedMessage) (d : History) → Represents me old d → MayStamp m d → AwaitsPublish me r m d → new.protocol.log ≡ appended m r.protocol.log
      → GatesStand me new.protocol.gates.items (Stamped m ∷ d) → WritesStamp r new → Represents me new (Stamped m ∷ d)
  stands_published old r new m d rep may waits log gates w = let rest = rest_after r new (Stamped m ∷ d) w waits.rest in record {
    who = still_host me r new w.same waits.who;
    tables = record {
      sound = may.sound;
      counter = rest.counter;
      gates = gates;
      log = own_log_appended me r.protocol.log new.protocol.log m d may.plain log waits.log;
      normal = rest.normal;
      change = rest.change;
      stable = rest.stable;
      exec = rest.exec;
      service = rest.service;
      shelf = rest.shelf;
      parts = rest.parts;
      asked = rest.asked;
    };
    fit = may.fit;
  }

  published : (old r new : ReplicaState V) (before after : StepOutput) (x : Progress) (m : StampedMessage) → StandsAt me old before x → MayStamp m x.history → AwaitsPublish me r m x.history
      → after.sent ≡ before.sent ++ as_outgoing (to_all (as_message m)) ∷ [] → (after.executed ≡ before.executed) × (after.installed ≡ before.installed) → new.protocol.log ≡ appended m r.protocol.log
      → GatesStand me new.protocol.gates.items (Stamped m ∷ x.history) → WritesStamp r new → StandsAt me new after (send (to_all (as_message m)) (write (Stamped m) x))
  unfolding just_served
  published old r new before after x m st may waits sent kept log gates w = record {
    represents = stands_published old r new m x.history st.represents may waits log gates w;
    serving = refl;
    sent = sent ∙ ap (λ l. l ++ as_outgoing (to_all (as_message m)) ∷ []) st.sent ∙ sym (map-append as_outgoing x.sent (to_all (as_message m) ∷ []));
    executed = kept.0 ∙ st.executed;
    installed = kept.1 ∙ st.installed;
  }

  -- What publishing leaves, where it succeeds.
  pub when_published : {E : Type 0} (result : Result (Unit {0}) E) (old r new : ReplicaState V) (before after : StepOutput) (x : Progress) (m : StampedMessage) → StandsAt me old before x → MayStamp m x.history → AwaitsPublish me r m x.history
      → OnOk result (after.sent ≡ before.sent ++ as_outgoing (to_all (as_message m)) ∷ []) → (after.executed ≡ before.executed) × (after.installed ≡ before.installed)
      → OnOk result (new.protocol.log ≡ appended m r.protocol.log) → ((me : Identity V) (d : History) → IsHost me r → IsSound me d → Adds me d (Stamped m) → GatesStand me r.protocol.gates.items d → OnOk result (GatesStand me new.protocol.gates.items (Stamped m ∷ d)))
      → OnOk result (WritesStamp r new) → OnOk result (StandsAt me new after (send (to_all (as_message m)) (write (Stamped m) x)))
  when_published (Ok a) old r new before after x m st may waits sent kept log gates w =
      published old r new before after x m st may waits sent kept log (gates me x.history waits.who st.represents.tables.sound may.adds waits.gates) w
  when_published (Err e) old r new before after x m st may waits sent kept log gates w = tt

-- ---- before it is signed

-- What stands in a message until then fits.
pub no_ui_fits : (s : Shape) → FitsUi s NO_UI
no_ui_fits s = let k = shape_fits s in record { host = omega (arith, k.faults.0); counter = (omega arith, omega arith); cert = refl }

module _ {V : Type 0} (me : Identity V) (r : ReplicaState V) (d : History) (rep : Represents me r d) (m : StampedMessage) (may : MayStamp me m d) where
  -- A message that is signed as one that may be stamped fits before.
  pub fits_unsigned : (before : StampedMessage) → FitsUi r.protocol.shape (ui_of before) → signed me d before ≡ m → FitsStamped r.protocol.shape before
  fits_unsigned before own is =
      fits_again r.protocol.shape (next_ui me d (bare_of before)) before own (subst (FitsStamped r.protocol.shape) (sym is) (subst (λ (s : Shape). FitsStamped s m) rep.who.shape may.fit.values.0))

  -- So does one that stands under the identifier that stands for none.
  pub fits_raw : (raw before : StampedMessage) → before ≡ with_ui NO_UI raw → signed me d raw ≡ m → FitsStamped r.protocol.shape before
  fits_raw raw before is same =
      subst (FitsStamped r.protocol.shape) (sym is)
      (fits_unsigned (with_ui NO_UI raw) (subst (FitsUi r.protocol.shape) (sym (ui_with NO_UI raw)) (no_ui_fits r.protocol.shape)) (signed_again me d NO_UI raw ∙ same))

  -- A counter is left for it.
  pub is_left : r.protocol.usig.counter < 2 ^ 64 - 1
  is_left = subst (λ (n : ℕ). n < 2 ^ 64 - 1) (sym rep.tables.counter) may.unspent

  -- Once it is signed it is this message, and the log has room for it.
  module _ (new : ReplicaState V) (b : Begun me r new) where
    pub fits_signed : (s : StampedMessage) → s ≡ m → FitsStamped new.protocol.shape s
    fits_signed s is = subst (FitsStamped new.protocol.shape) (sym is) (subst (λ (t : Shape). FitsStamped t m) (rep.who.shape ∙ sym b.same.shape) may.fit.values.0)

    pub sent_signed : (s : StampedMessage) → s ≡ m → Fits new.protocol.shape (as_message s)
    unfolding all_stamped
    sent_signed s is = subst (λ (y : StampedMessage). Fits new.protocol.shape (as_message y)) (sym is) (subst (λ (t : Shape). Fits t (as_message m)) (rep.who.shape ∙ sym b.same.shape)
        (stamps_sent me (shape_fits me.shape) (there me r rep.who) (Stamped m ∷ d) may.sound may.fit).0)

    pub room_signed : (s : StampedMessage) → s ≡ m → has_room_for new.protocol.log (stamped_kind s) ≡ true
    room_signed s is = subst (λ (y : StampedMessage). has_room_for new.protocol.log (stamped_kind y) ≡ true) (sym is) (subst (λ (l : Log). has_room_for l (stamped_kind m) ≡ true) (sym b.log) (may.room r.protocol.log rep.tables.log))

module _ {V : Type 0} (me : Identity V) where
  -- A rule ends with what it publishes.
  pub rule_ends : {E : Type 0} (result : Result (Unit {0}) E) (old r new : ReplicaState V) (before after : StepOutput) (x : Progress) (a : Rule) (s m : StampedMessage) → StandsAt me old before x → next_rule me x.history ≡ Some a
      → signs me a x.history m → s ≡ m → AwaitsPublish me r m x.history → OnOk result (after.sent ≡ before.sent ++ as_outgoing (to_all (as_message s)) ∷ [])
      → (after.executed ≡ before.executed) × (after.installed ≡ before.installed) → OnOk result (new.protocol.log ≡ appended s r.protocol.log)
      → ((me : Identity V) (d : History) → IsHost me r → IsSound me d → Adds me d (Stamped s) → GatesStand me r.protocol.gates.items d → OnOk result (GatesStand me new.protocol.gates.items (Stamped s ∷ d)))
      → OnOk result (WritesStamp r new) → OnOk result (StandsAt me new after (send (to_all (as_message m)) (write (Stamped m) x)))
  rule_ends result old r new before after x a s m st next is same waits sent kept log gates w =
      let may : MayStamp me m x.history = may_next me old x.history a (is_next me old before x a st next) m is in
      let ends = when_published me result old r new before after x s st (subst (λ (y : StampedMessage). MayStamp me y x.history) (sym same) may) (subst (λ (y : StampedMessage). AwaitsPublish me r y x.history) (sym same) waits) sent kept log gates w in
      subst (λ (y : StampedMessage). OnOk result (StandsAt me new after (send (to_all (as_message y)) (write (Stamped y) x)))) same ends

  -- What it compared is no table.
  pub when_noted : {E : Type 0} (result : Result (Unit {0}) E) (r : ReplicaState V) (done : StepOutput) (x : Progress) (l : List Bytes) → OnOk result (StandsAt me r done x) → OnOk result (StandsAt me r done (note l x))
  when_noted (Ok a) r done x l st = record { represents = st.represents; serving = st.serving; sent = st.sent; executed = st.executed; installed = st.installed }
  when_noted (Err e) r done x l st = tt
