-- The requests of a batch are served one after the other, and then the batch is executed: what a replica stands for meanwhile.
use Rattle.std.proofs.Common.{◌≡◌, ◌<◌, ◌≤◌, ◌∙◌, ◌++◌, ℕ, Bool, true, false, List, [], ◌∷◌, refl, ap, sym, subst, arith, length, inl, inr, Result, Ok, Err}
use Rattle.std.specs.Prelude.{OnOk}
use Rattle.std.proofs.lemmas.Bool.{cases_Bool}
use Rattle.mb_base.specs.declared.shape.Shape.{Shape}
use Rattle.mb_base.specs.Shapes.{client_count}
use Rattle.mb_parts.specs.declared.request.Request.{Request}
use Rattle.mb_parts.specs.Fits.{IsPosition, FitsRequest}
use Rattle.mb_msg.specs.declared.event.Placed.{Placed}
use Rattle.mb_model.specs.declared.known.LastReply.{LastReply}
use Rattle.mb_model.specs.Service.{Machine, Served as ServedState, reply_of, is_fresh, served}
use Rattle.mb_model.specs.Histories.{Entry, Served, History, Identity}
use Rattle.mb_model.specs.Stable.{low_of}
use Rattle.mb_model.specs.Execution.{state_of}
use Rattle.mb_model.specs.PlainChecks.{last_seq}
use Rattle.mb_model.specs.Sending.{Progress, write, send, to_client}
use Rattle.mb_model.specs.Given.{stored_reply}
use Rattle.mb_model.specs.CarriedOut.{placed_in, with_reply, serve, serve_all}
use Rattle.mb_steps.specs.Arises.{Adds}
use Rattle.mb_history_laws.proofs.Framing.{low_stays}
use Rattle.mb_history_laws.proofs.Executing.{served_more, state_served}
use Rattle.mb_history_laws.specs.Sound.{IsServing}
use Rattle.mb_history_laws.proofs.SoundRules.{serving_goes_on}
use Rattle.mb_encodable.specs.Fitting.{AreFit}
use Rattle.mb_encodable.proofs.Fit.{served_fit}
use Rattle.mb_cache.specs.Represents.{StandsServed}
use Rattle.mb_cache.proofs.Clients.{last_written}
use Rattle.mb_normal.specs.Tables.{Becomes}
use Rattle.mb_normal.specs.Searches.{with_settled}
use Rattle.mb_refinement.specs.Tables.{Tables}
use Rattle.mb_refinement.proofs.Values.{clients_kept}
use Rattle.mb_refinement.proofs.Positions.{request_served}
use Rattle.mb_refinement.proofs.Snapshots.{shelf_stays}
use Rattle.mb_refinement.proofs.FetchedParts.{held_stays}
use Rattle.mb_refinement.proofs.Together.{EachStands, stand_lags, stays, stands_behind}
use Rattle.mb_replica.specs.declared.state.ReplicaState.{ReplicaState}
use Rattle.mb_replica.specs.declared.sending.StepOutput.{StepOutput}
use Rattle.mb_replica.specs.Represents.{tables_of, Represents, StandsServing}
use Rattle.mb_replica.specs.Between.{IsSame}
use Rattle.mb_core.specs.Serving.{ServesOn}
use Rattle.mb_replica.proofs.Entries.{hosted, is_there}

pub nothing_left : {A : Type 0} (l : List A) → length l ≡ 0 → l ≡ []
nothing_left [] e = refl
nothing_left (x ∷ l) e = absurd (omega (arith, e))

-- what holds where a call ends well
pub on_ok : {T E : Type 0} (r : Result T E) (P Q : Type 0) → (P → Q) → OnOk r P → OnOk r Q
on_ok (Ok v) P Q f p = f p
on_ok (Err e) P Q f p = tt

module _ {V : Type 0} (me : Identity V) where
  -- ---- a reply

  -- A reply leaves the history.
  reply_history : (p : Placed) (x : Progress) → (with_reply me p x).history ≡ x.history
  reply_history p x = elim (cases_Bool p.fresh) [
    | inl fresh ↦ rw fresh refl
    | inr old ↦ rw old refl
  ]

  replied_on : (new : ReplicaState V) (done before : StepOutput) (pos : ℕ) (p : Placed) (more : List Request) (served : List Placed) (x : Progress)
      → ServesOn me new before pos more served x → StandsServing me new done served (with_reply me p x) → ServesOn me new done pos more served (with_reply me p x)
  replied_on new done before pos p more served x s stands = record {
    stands = stands;
    batch = s.batch;
    serving = subst (IsServing me pos s.batch more) (sym (reply_history p x)) s.serving;
  }

  -- ---- a request

  -- the service with its table, and the pending requests
  pub record WritesServed (old new : ReplicaState V) : Type 0 where
    pub same : IsSame old new
    pub tables : tables_of new ≡ record (tables_of old) { normal = new.protocol.normal; service = new.keeper.served }

  module _ (old : ReplicaState V) (done : StepOutput) (pos : ℕ) (r : Request) (more : List Request) (before : List Placed) (x : Progress) (s : ServesOn me old done pos (r ∷ more) before x) where
    d : History
    d = x.history

    rep : Represents me old x.history
    rep = s.stands.represents

    abbrev served_now : Entry
    served_now = Served pos (placed_in me x.history r)

    goes_on : IsServing me pos s.batch more (served_now ∷ x.history)
    goes_on = serving_goes_on me pos s.batch r more x.history s.serving

    fits_on : AreFit me (served_now ∷ x.history)
    fits_on = served_fit me (is_there me old rep.who) pos s.batch r more x.history s.serving rep.fit

    pub place_fits : IsPosition pos
    place_fits = fits_on.values.0.0

    request_here : FitsRequest me.shape r
    request_here = fits_on.values.0.1

    pub client_known : r.client < client_count old.protocol.shape
    client_known = subst (λ (z : Shape). r.client < client_count z) rep.who.shape request_here.client

    fresh_is : (fresh : Bool) → fresh ≡ is_fresh old.keeper.served r → fresh ≡ is_fresh (state_of me x.history) r
    fresh_is fresh is = is ∙ ap (λ (y : ServedState V). is_fresh y r) rep.tables.service

    -- What it leaves for the next.
    served_on : (new : ReplicaState V) (m : Machine V) → me.machine ≡ m → WritesServed old new → StandsServed m old.keeper.served pos r new.keeper.served
        → Becomes old.protocol.normal new.protocol.normal (λ y. with_settled y r.client r.seq) → ServesOn me new done pos more (before ++ placed_in me x.history r ∷ []) (write served_now x)
    served_on new m machine writes serves settles =
        let t : Tables V = tables_of old in
        let placed : Placed = placed_in me x.history r in
        let adds : Adds me x.history served_now = goes_on.sound.arises.0 in
        let left = stays me (low_of me x.history) t served_now x.history (stand_lags me t x.history rep.tables) adds in
        let low = low_stays me served_now x.history refl in
        let each : EachStands me (record t { normal = new.protocol.normal; service = new.keeper.served }) (served_now ∷ x.history) = record {
          counter = left.counter refl;
          gates = left.gates (λ h. refl);
          log = left.log refl;
          normal = request_served me pos placed x.history t.normal new.protocol.normal goes_on.sound.arises settles rep.tables.normal;
          change = left.change refl;
          stable = left.stable refl;
          exec = left.exec refl;
          service = serves me x.history placed machine refl rep.tables.service;
          shelf = shelf_stays me t.shelf served_now x.history refl low rep.tables.shelf;
          parts = held_stays me t.parts served_now x.history refl low rep.tables.parts;
          asked = left.asked refl;
        } in
        record {
          stands = record {
            represents = record {
              who = hosted me old new writes.same rep.who;
              tables = stands_behind me t (tables_of new) served_now x.history rep.tables adds tt (subst (λ (u : Tables V). EachStands me u (served_now ∷ x.history)) (sym writes.tables) each);
              fit = fits_on;
            };
            serving = served_more pos placed x.history ∙ ap (λ (l : List Placed). l ++ placed ∷ []) s.stands.serving;
            sent = s.stands.sent;
            executed = s.stands.executed;
            installed = s.stands.installed;
          };
          batch = s.batch;
          serving = goes_on;
        }

    -- A fresh one has a reply.
    has_reply : is_fresh (state_of me x.history) r ≡ true → 1 ≤ last_seq me (served_now ∷ x.history) r.client
    unfolding served
    has_reply fresh =
        let within : r.client < length (state_of me x.history).table = omega (arith, clients_kept me x.history, request_here.client) in
        let made : LastReply = record { seq = r.seq; pos = pos; result = me.machine.result (state_of me x.history).state r.op } in
        let now : reply_of (state_of me (served_now ∷ x.history)) r.client ≡ made =
        ap (λ (y : ServedState V). reply_of y r.client) (state_served me pos (placed_in me x.history r) x.history) ∙ rw fresh (last_written (state_of me x.history).table r.client r.client made refl within) in
        let some = request_here.seq.0 in
        subst (λ (a : LastReply). 1 ≤ a.seq) (sym now) some

    -- Its reply is sent where it is fresh.
    pub replied : (new : ReplicaState V) (behind : StepOutput) (m : Machine V) (fresh : Bool) → me.machine ≡ m → WritesServed old new → StandsServed m old.keeper.served pos r new.keeper.served
        → Becomes old.protocol.normal new.protocol.normal (λ y. with_settled y r.client r.seq) → fresh ≡ is_fresh old.keeper.served r
        → ((y : Progress) (p : Placed) (l : List Placed) → StandsServing me new done l y → p.request.client ≡ r.client → p.fresh ≡ fresh → (fresh ≡ true → 1 ≤ last_seq me y.history r.client) → StandsServing me new behind l (with_reply me p y))
        → ServesOn me new behind pos more (before ++ record { request = r; fresh = fresh } ∷ []) (serve me pos r x)
    replied new behind m fresh machine writes serves settles is sends =
        let placed : Placed = placed_in me x.history r in
        let l : List Placed = before ++ placed ∷ [] in
        let on : ServesOn me new done pos more l (write served_now x) = served_on new m machine writes serves settles in
        let same : fresh ≡ is_fresh (state_of me x.history) r = fresh_is fresh is in
        let sent : StandsServing me new behind l (with_reply me placed (write served_now x)) = sends (write served_now x) placed l on.stands refl (sym same) (λ e. has_reply (sym same ∙ e)) in
        subst (λ (b : Bool). ServesOn me new behind pos more (before ++ record { request = r; fresh = b } ∷ []) (serve me pos r x)) (sym same) (replied_on new behind done pos placed more l (write served_now x) on sent)

  -- ---- whether a request is answered

  pub reply_is : (p : Placed) (client : ℕ) (x : Progress) → p.request.client ≡ client → p.fresh ≡ true → send (to_client client (stored_reply me x.history client)) x ≡ with_reply me p x
  reply_is p client x same fresh = ap (λ (c : ℕ). send (to_client c (stored_reply me x.history c)) x) (sym same) ∙ rw fresh refl

  pub no_reply_is : (p : Placed) (x : Progress) → p.fresh ≡ false → x ≡ with_reply me p x
  no_reply_is p x old = rw old refl

  -- ---- one after the other

  pub serve_next : (pos : ℕ) (r : Request) (rs : List Request) (x : Progress) → serve_all me pos rs (serve me pos r x) ≡ serve_all me pos (r ∷ rs) x
  unfolding serve_all
  serve_next pos r rs x = refl

  pub serve_none : (pos : ℕ) (x : Progress) → x ≡ serve_all me pos [] x
  unfolding serve_all
  serve_none pos x = refl

  -- Where these are left, the rest of the batch comes to the same as the whole from its start.
  pub record Leads (r : ReplicaState V) (done : StepOutput) (pos : ℕ) (rest : List Request) (served : List Placed) (all : Progress) : Type 0 where
    pub now : Progress
    pub stands : ServesOn me r done pos rest served now
    pub same : serve_all me pos rest now ≡ all

  pub leads_from : (r : ReplicaState V) (done : StepOutput) (pos : ℕ) (all rest : List Request) (served : List Placed) (x : Progress) → rest ≡ all → served ≡ [] → ServesOn me r done pos all [] x → Leads r done pos rest served (serve_all me pos all x)
  leads_from r done pos all rest served x same none s = record {
    now = x;
    stands = subst (λ (rs : List Request). ServesOn me r done pos rs served x) (sym same) (subst (λ (l : List Placed). ServesOn me r done pos all l x) (sym none) s);
    same = ap (λ (rs : List Request). serve_all me pos rs x) same;
  }

  pub leads_on : (old new : ReplicaState V) (before behind : StepOutput) (pos : ℕ) (r : Request) (rest : List Request) (served more : List Placed) (all : Progress) (l : Leads old before pos (r ∷ rest) served all)
      → ServesOn me new behind pos rest more (serve me pos r l.now) → Leads new behind pos rest more all
  leads_on old new before behind pos r rest served more all l stands = record { now = serve me pos r l.now; stands = stands; same = serve_next pos r rest l.now ∙ l.same }

  pub leads_to : (r : ReplicaState V) (done : StepOutput) (pos : ℕ) (served : List Placed) (all : Progress) → Leads r done pos [] served all → ServesOn me r done pos [] served all
  leads_to r done pos served all l = subst (ServesOn me r done pos [] served) (serve_none pos l.now ∙ l.same) l.stands
