-- An accepted message, from its tables to its sender's gate: where all tables but the gate took it, and the gate follows, the replica stands for the
-- longer history.
use Rattle.std.proofs.Common.{◌≡◌, ℕ, ◌<◌, false, List, [], ◌∷◌, refl, sym, ap, subst, ◌∙◌, inl, Some, None}
use Rattle.std.specs.List.{AllByRecursion}
use Rattle.mb_base.specs.Shapes.{Bytes, host_count}
use Rattle.mb_base.specs.declared.shape.Shape.{Shape}
use Rattle.mb_base.specs.declared.names.Ui.{Ui}
use Rattle.mb_parts.specs.declared.floor.Mark.{Mark}
use Rattle.mb_msg.specs.declared.message.Message.TheVariants as message
use Rattle.mb_msg.specs.declared.normal.Prepare.{Prepare}
use Rattle.mb_msg.specs.declared.normal.Commit.{Commit}
use Rattle.mb_msg.specs.declared.stamped.Stamped.{Stamped as StampedMessage}
use Rattle.mb_msg.specs.declared.stamped.Stamped.TheVariants as stamped
use Rattle.mb_msg.specs.declared.event.Outcome.{Outcome}
use Rattle.mb_msg.specs.declared.event.Outcome.TheVariants as outcome
use Rattle.mb_msg.specs.Fits.{FitsStamped}
use Rattle.mb_msg.specs.Stamps.{ui_of, mark_of, as_message}
use Rattle.mb_msg.proofs.Messages.{as_message_fits}
use Rattle.mb_gate.specs.declared.gate.Gate.{Gate}
use Rattle.mb_model.specs.Histories.{Entry, Accepted, Closed, History, Identity}
use Rattle.mb_model.specs.Stable.{low_of}
use Rattle.mb_model.specs.Sending.{Progress, write, note}
use Rattle.mb_model.specs.Compared.{compared_in}
use Rattle.mb_model.specs.KindChecks.{stamped_refusal}
use Rattle.mb_model.specs.Given.{Answer, answer, accept, closing, give_stamped}
use Rattle.mb_host_laws.specs.Rests.{compared_by}
use Rattle.mb_host_laws.proofs.RestsGiven.{convicts}
use Rattle.mb_encodable.specs.Fitting.{AreFit}
use Rattle.mb_encodable.proofs.Fit.{unstamped_fit}
use Rattle.mb_history_laws.specs.Speaks.{is_served, speaks_of_log, speaks_of_change, speaks_of_stable, speaks_of_executed, speaks_of_state, speaks_of_snapshots, speaks_of_parts, is_nudge}
use Rattle.mb_history_laws.proofs.Executing.{served_ends}
use Rattle.mb_history_laws.proofs.Framing.{low_stays}
use Rattle.mb_history_laws.proofs.Gates.{illegal_is_of_others}
use Rattle.mb_history_laws.proofs.Sound.{accepted_adds}
use Rattle.mb_refinement.specs.Tables.{Tables}
use Rattle.mb_refinement.specs.Stands.{GatesStand, NormalStands, LogStands}
use Rattle.mb_refinement.specs.GateCalls.{Marks}
use Rattle.mb_refinement.proofs.Gates.{mark_says, gate_taken, gate_closed}
use Rattle.mb_refinement.proofs.Snapshots.{shelf_stays}
use Rattle.mb_refinement.proofs.FetchedParts.{held_stays}
use Rattle.mb_refinement.proofs.Together.{EachStands, stands_behind, stand_lags, stays}
use Rattle.mb_replica.specs.declared.state.ReplicaState.{ReplicaState}
use Rattle.mb_replica.specs.declared.sending.StepOutput.{StepOutput}
use Rattle.mb_replica.specs.Represents.{IsHost, Represents, StandsAt, tables_of}
use Rattle.mb_replica.specs.Between.{IsNoCommit, WritesNormal, GateFollows, GateCloses, RestStands, AwaitsGate}
use Rattle.mb_replica.proofs.Accepted.{still_host}

pub any_of : (l : List Bytes) → AllByRecursion (λ (s : Bytes). Unit {0}) l
any_of [] = tt
any_of (s ∷ l) = (tt, any_of l)

pub marked : (mark : Mark) (m : StampedMessage) → mark ≡ mark_of m → Marks mark m
marked mark m is = subst (λ (k : Mark). Marks k m) (sym is) (mark_says m)

pub no_commit : (m : StampedMessage) → ((x : Commit) → m ≡ stamped.Commit x → ⊥) → IsNoCommit m
no_commit (stamped.Commit x) other = other x refl
no_commit m other = tt

-- An entry speaks only of gates and of what is known of positions, and not of the stable one.
pub record SpeaksOfVotes (e : Entry) : Type 0 where
  pub log : speaks_of_log e ≡ false
  pub change : speaks_of_change e ≡ false
  pub stable : speaks_of_stable e ≡ false
  pub executed : speaks_of_executed e ≡ false
  pub state : speaks_of_state e ≡ false
  pub snapshots : speaks_of_snapshots e ≡ false
  pub parts : speaks_of_parts e ≡ false
  pub nudge : is_nudge e ≡ false

pub prepare_speaks : (m : Prepare) → SpeaksOfVotes (Accepted (message.Prepare m))
prepare_speaks m = record { log = refl; change = refl; stable = refl; executed = refl; state = refl; snapshots = refl; parts = refl; nudge = refl }

pub commit_speaks : (m : Commit) → SpeaksOfVotes (Accepted (message.Commit m))
commit_speaks m = record { log = refl; change = refl; stable = refl; executed = refl; state = refl; snapshots = refl; parts = refl; nudge = refl }

module _ {V : Type 0} (me : Identity V) where
  -- ---- which host it is

  module _ (r : ReplicaState V) (who : IsHost me r) where
    pub there : me.host < host_count me.shape
    there = subst (λ (h : ℕ). h < host_count me.shape) (sym who.host) (subst (λ (s : Shape). r.protocol.host < host_count s) (sym who.shape) r.protocol.host_in)

    pub fits_here : (m : StampedMessage) → FitsStamped r.protocol.shape m → FitsStamped me.shape m
    fits_here m fits = subst (λ (s : Shape). FitsStamped s m) (sym who.shape) fits

  -- ---- all tables but the gate

  -- Slots and votes were written for an entry that speaks of no more.
  pub votes_await : (old new : ReplicaState V) (m : StampedMessage) (d : History) → Represents me old d → stamped_refusal me d m ≡ None → SpeaksOfVotes (Accepted (as_message m)) → WritesNormal old new
      → NormalStands me new.protocol.normal (Accepted (as_message m) ∷ d) → AwaitsGate me old new m d
  votes_await old new m d r none s w normal =
      let e : Entry = Accepted (as_message m) in
      let t = r.tables in
      let left = stays me (low_of me d) (tables_of old) e d (stand_lags me (tables_of old) d t) (accepted_adds me m d none) in
      let low = low_stays me e d s.stable in
      record {
        who = still_host me old new w.same r.who;
        gates = ap (λ (x : Tables V). x.gates) w.tables;
        log = subst (λ x. LogStands me x (e ∷ d)) (sym (ap (λ (x : Tables V). x.log) w.tables)) (left.log s.log);
        rest = subst (λ (x : Tables V). RestStands me x (e ∷ d)) (sym w.tables) (record {
          counter = left.counter refl;
          normal = normal;
          change = left.change s.change;
          stable = left.stable s.stable;
          exec = left.exec s.executed;
          service = left.service s.state;
          shelf = shelf_stays me (tables_of old).shelf e d s.snapshots low t.shelf;
          parts = held_stays me (tables_of old).parts e d s.parts low t.parts;
          asked = left.asked s.nudge;
        });
      }

  -- ---- the gate follows

  pub accepted_fit : (r : ReplicaState V) (m : StampedMessage) (d : History) → Represents me r d → FitsStamped r.protocol.shape m → stamped_refusal me d m ≡ None → AreFit me (Accepted (as_message m) ∷ d)
  accepted_fit r m d rep fits none =
      unstamped_fit me (there r rep.who) (Accepted (as_message m)) d refl (accepted_adds me m d none)
      ((as_message m, as_message_fits me.shape m (fits_here r rep.who m fits), inl refl), any_of (compared_by me d (as_message m))) rep.tables.sound rep.fit

  pub accepted_stands : (old mid new : ReplicaState V) (m : StampedMessage) (d : History) (mark : Mark) → Represents me old d → FitsStamped old.protocol.shape m → stamped_refusal me d m ≡ None
      → AwaitsGate me old mid m d → mark ≡ mark_of m → GateFollows (ui_of m).host mark mid new → Represents me new (Accepted (as_message m) ∷ d)
  accepted_stands old mid new m d mark r fits none a is g =
      let e : Entry = Accepted (as_message m) in
      let gates : GatesStand me mid.protocol.gates.items d = subst (λ (x : List Gate). GatesStand me x d) (sym a.gates) r.tables.gates in
      let taken = gate_taken me mid.protocol.gates.items d m mark g.before g.behind none (marked mark m is) g.there g.law gates in
      let each : EachStands me (record (tables_of mid) { gates = new.protocol.gates.items }) (e ∷ d) = record {
        counter = a.rest.counter;
        gates = subst (λ (x : List Gate). GatesStand me x (e ∷ d)) (sym g.now) taken;
        log = a.log;
        normal = a.rest.normal;
        change = a.rest.change;
        stable = a.rest.stable;
        exec = a.rest.exec;
        service = a.rest.service;
        shelf = a.rest.shelf;
        parts = a.rest.parts;
        asked = a.rest.asked;
      } in
      record {
        who = still_host me mid new g.writes.same a.who;
        tables = stands_behind me (tables_of old) (tables_of new) e d r.tables (accepted_adds me m d none) tt (subst (λ (x : Tables V). EachStands me x (e ∷ d)) (sym g.writes.tables) each);
        fit = accepted_fit old m d r fits none;
      }

  -- ---- a gate is closed

  pub illegal_stands : (old new : ReplicaState V) (m : StampedMessage) (d : History) (rule : ℕ) → Represents me old d → FitsStamped old.protocol.shape m → stamped_refusal me d m ≡ Some (outcome.Illegal rule)
      → GateCloses (ui_of m).host (ui_of m).counter old new → Represents me new (Closed (ui_of m).host (ui_of m).counter ∷ d)
  illegal_stands old new m d rule r fits some g =
      let h : ℕ = (ui_of m).host in
      let c : ℕ = (ui_of m).counter in
      let e : Entry = Closed h c in
      let t = r.tables in
      let left = stays me (low_of me d) (tables_of old) e d (stand_lags me (tables_of old) d t) tt in
      let low = low_stays me e d refl in
      let closed = gate_closed me old.protocol.gates.items d h c g.before g.behind g.there g.law t.gates in
      let each : EachStands me (record (tables_of old) { gates = new.protocol.gates.items }) (e ∷ d) = record {
        counter = left.counter refl;
        gates = subst (λ (x : List Gate). GatesStand me x (e ∷ d)) (sym g.now) closed;
        log = left.log refl;
        normal = left.normal refl;
        change = left.change refl;
        stable = left.stable refl;
        exec = left.exec refl;
        service = left.service refl;
        shelf = shelf_stays me (tables_of old).shelf e d refl low t.shelf;
        parts = held_stays me (tables_of old).parts e d refl low t.parts;
        asked = left.asked refl;
      } in
      record {
        who = still_host me old new g.writes.same r.who;
        tables = stands_behind me (tables_of old) (tables_of new) e d t tt (illegal_is_of_others me d t.sound.own.own m rule some) (subst (λ (x : Tables V). EachStands me x (e ∷ d)) (sym g.writes.tables) each);
        fit = unstamped_fit me (there old r.who) e d refl tt (as_message m, m, as_message_fits me.shape m (fits_here old r.who m fits), inl refl, convicts me d m rule some) t.sound r.fit;
      }

  -- ---- within a step

  -- One entry was added that nothing was sent for.
  pub entry_added : (old new : ReplicaState V) (done : StepOutput) (e : Entry) (x : Progress) → StandsAt me old done x → is_served e ≡ false → Represents me new (e ∷ x.history) → StandsAt me new done (write e x)
  entry_added old new done e x s plain r = record { represents = r; serving = served_ends e x.history plain; sent = s.sent; executed = s.executed; installed = s.installed }

  -- A message that may not stand there closed its sender's gate.
  pub illegal_closes : (old new : ReplicaState V) (done : StepOutput) (ui : Ui) (m : StampedMessage) (x : Progress) (o : Outcome) (rule : ℕ) → StandsAt me old done x → FitsStamped old.protocol.shape m → ui ≡ ui_of m
      → stamped_refusal me x.history m ≡ Some o → o ≡ outcome.Illegal rule → GateCloses ui.host ui.counter old new → StandsAt me new done (closing o ui x)
  illegal_closes old new done ui m x o rule s fits same some is g =
      subst (λ (y : Outcome). StandsAt me new done (closing y ui x)) (sym is) (subst (λ (u : Ui). StandsAt me new done (closing (outcome.Illegal rule) u x)) (sym same)
      (entry_added old new done (Closed (ui_of m).host (ui_of m).counter) x s refl
      (illegal_stands old new m x.history rule s.represents fits (some ∙ ap Some is) (subst (λ (u : Ui). GateCloses u.host u.counter old new) same g))))

  -- A message of a kind other than COMMIT brings no more than itself.
  pub accept_plain : (m : StampedMessage) (x : Progress) → IsNoCommit m → accept me m x ≡ write (Accepted (as_message m)) x
  accept_plain (stamped.Commit m) x plain = absurd plain
  accept_plain m x plain = refl

  -- ---- a given message

  -- What is noted as hashed is no table of the host.
  pub noted : (r : ReplicaState V) (done : StepOutput) (strings : List Bytes) (x : Progress) → StandsAt me r done x → StandsAt me r done (note strings x)
  noted r done strings x s = record { represents = s.represents; serving = s.serving; sent = s.sent; executed = s.executed; installed = s.installed }

  pub given_accepted : (m : StampedMessage) (x : Progress) → stamped_refusal me x.history m ≡ None → give_stamped me m x ≡ answer outcome.Took (accept me m (note (compared_in me x.history m) x))
  unfolding give_stamped
  given_accepted m x none = rw none refl

  pub given_refused : (m : StampedMessage) (o : Outcome) (x : Progress) → stamped_refusal me x.history m ≡ Some o → give_stamped me m x ≡ answer o (closing o (ui_of m) (note (compared_in me x.history m) x))
  unfolding give_stamped
  given_refused m o x some = rw some refl

  -- So it is with a given message, as it came.
  pub given_took : (new : ReplicaState V) (done : StepOutput) (m given : StampedMessage) (x : Progress) → m ≡ given → stamped_refusal me x.history m ≡ None → StandsAt me new done (accept me m (note (compared_in me x.history m) x))
      → (outcome.Took ≡ (give_stamped me given x).outcome) × StandsAt me new done (give_stamped me given x).left
  given_took new done m given x same none s = subst (λ (y : StampedMessage). (outcome.Took ≡ (give_stamped me y x).outcome) × StandsAt me new done (give_stamped me y x).left) same
      (subst (λ (a : Answer). (outcome.Took ≡ a.outcome) × StandsAt me new done a.left) (sym (given_accepted m x none)) (refl, s))

  pub given_closed : (new : ReplicaState V) (done : StepOutput) (m given : StampedMessage) (ui : Ui) (o : Outcome) (x : Progress) → m ≡ given → ui ≡ ui_of m → stamped_refusal me x.history m ≡ Some o
      → StandsAt me new done (closing o ui (note (compared_in me x.history m) x)) → (o ≡ (give_stamped me given x).outcome) × StandsAt me new done (give_stamped me given x).left
  given_closed new done m given ui o x same by some s = subst (λ (y : StampedMessage). (o ≡ (give_stamped me y x).outcome) × StandsAt me new done (give_stamped me y x).left) same
      (subst (λ (a : Answer). (o ≡ a.outcome) × StandsAt me new done a.left) (sym (given_refused m o x some))
      (refl, subst (λ (u : Ui). StandsAt me new done (closing o u (note (compared_in me x.history m) x))) by s))
