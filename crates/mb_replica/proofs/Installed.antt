-- A STATE that was taken: what a replica stands for where its parts are held, where their state is installed, and where all parts are dropped.
use Rattle.std.proofs.Common.{◌≡◌, ◌∙◌, ℕ, true, List, ◌∷◌, refl, ap, sym, subst, arith, length, inl, Option, Some, None, Ok}
use Rattle.std.proofs.Math.Path.{fun_ext}
use Rattle.std.proofs.lemmas.Bool.{ltb-true}
use Rattle.mb_base.specs.declared.shape.Shape.{Shape}
use Rattle.mb_base.specs.Shapes.{Bytes, client_count}
use Rattle.mb_parts.specs.declared.certificates.StableCert.{StableCert}
use Rattle.mb_msg.specs.declared.message.Message.TheVariants as message
use Rattle.mb_msg.specs.declared.transfer.StateMsg.{StateMsg}
use Rattle.mb_msg.specs.Fits.{FitsState}
use Rattle.mb_model.specs.Service.{Served as ServedState, reply_of}
use Rattle.mb_model.specs.Histories.{Entry, Accepted, Installed, DroppedParts, History, Identity}
use Rattle.mb_model.specs.Stable.{stable_of, low_of}
use Rattle.mb_model.specs.Positions.{exec_of, is_behind}
use Rattle.mb_model.specs.Execution.{state_of, state_from, part_held, missing, parts_held}
use Rattle.mb_model.specs.PlainChecks.{bad_state, state_refusal}
use Rattle.mb_model.specs.Sending.{Progress, write}
use Rattle.mb_model.specs.Given.{install}
use Rattle.mb_steps.specs.Arises.{Adds}
use Rattle.mb_steps.proofs.StepPassed.{passes_state}
use Rattle.mb_history_laws.specs.Sound.{IsSound}
use Rattle.mb_history_laws.proofs.Sound.{stays_sound}
use Rattle.mb_history_laws.proofs.Framing.{low_stays, stable_stays, exec_stays}
use Rattle.mb_history_laws.proofs.Executing.{served_ends}
use Rattle.mb_encodable.specs.Fitting.{ComesOfRead, AreFit}
use Rattle.mb_encodable.proofs.Fit.{unstamped_fit}
use Rattle.mb_fetch.specs.Fetched.{Fetched}
use Rattle.mb_fetch.specs.Parts.{joined}
use Rattle.mb_normal.specs.declared.normal.Normal.{Normal}
use Rattle.mb_normal.specs.Tables.{Represents as NormalRepresents}
use Rattle.mb_normal.specs.Searches.{searches_in}
use Rattle.mb_cache.specs.Tables.{last_of}
use Rattle.mb_executor.specs.Keeping.{Keeping, found, with_served, with_fetched}
use Rattle.mb_executor.specs.Taking.{HoldsParts, emptied}
use Rattle.mb_refinement.specs.Tables.{Tables}
use Rattle.mb_refinement.specs.Positions.{settled_below, installed_numbers}
use Rattle.mb_refinement.specs.Stands.{Stand, NormalStands, HeldStand}
use Rattle.mb_refinement.proofs.Gates.{gates_stay}
use Rattle.mb_refinement.proofs.OwnLogs.{own_log_stays}
use Rattle.mb_refinement.proofs.Changes.{change_stays}
use Rattle.mb_refinement.proofs.Values.{own_counter_stays, certificate_stays, asked_left, service_installed, installed_position, clients_kept}
use Rattle.mb_refinement.proofs.Positions.{normal_stays, requests_settled}
use Rattle.mb_refinement.proofs.Snapshots.{shelf_stays}
use Rattle.mb_refinement.proofs.FetchedParts.{parts_gone, parts_used}
use Rattle.mb_refinement.proofs.Together.{EachStands, stand_lags, stays}
use Rattle.mb_replica.specs.declared.state.ReplicaState.{ReplicaState}
use Rattle.mb_replica.specs.declared.sending.StepOutput.{StepOutput}
use Rattle.mb_replica.specs.Represents.{tables_of, Represents, StandsAt}
use Rattle.mb_replica.specs.Between.{IsSame}
use Rattle.mb_replica.specs.Installing.{Settles, WritesInstalled, DoesInstall}
use Rattle.mb_replica.proofs.Entries.{hosted, is_there, one_more, written}
use Rattle.mb_replica.proofs.Fetching.{held_search, held_stand}

module _ {V : Type 0} (me : Identity V) where
  -- the parts that were fetched
  pub record WritesParts (old new : ReplicaState V) : Type 0 where
    pub same : IsSame old new
    pub tables : tables_of new ≡ record (tables_of old) { parts = new.keeper.fetched }

  -- What the keeper did to its parts alone, and to its state.
  pub parts_written : (r : ReplicaState V) (k : Keeping V) → k ≡ with_fetched r.keeper k.fetched → WritesParts r (record r { keeper = k })
  parts_written r k is = record {
    same = record { shape = refl; host = refl; secret = refl };
    tables = ap (λ (y : Keeping V). record (tables_of r) { service = y.served; shelf = y.snapshots; parts = y.fetched }) is;
  }

  pub parts_emptied : (r : ReplicaState V) (k : Keeping V) → k ≡ emptied r.keeper → WritesParts r (record r { keeper = k })
  parts_emptied r k is = parts_written r k (is ∙ ap (λ (f : Option Fetched). with_fetched r.keeper f) (sym (ap (λ (y : Keeping V). y.fetched) is)))

  pub state_written : (r new : ReplicaState V) (k : Keeping V) → k ≡ emptied (with_served r.keeper k.served) → WritesInstalled (record r { keeper = k }) new
      → tables_of new ≡ record (tables_of r) { normal = new.protocol.normal; exec = r.protocol.stable.pos; service = k.served; parts = None }
  state_written r new k is writes =
      writes.tables ∙ ap (λ (y : Keeping V). record (tables_of r) { normal = new.protocol.normal; exec = r.protocol.stable.pos; service = y.served; shelf = y.snapshots; parts = y.fetched }) is

  -- A state that parts give has as many clients.
  pub installed_clients : (r : ReplicaState V) (d first : History) (pos : ℕ) (parts : List Bytes) (y : ServedState V) → Represents me r d → state_from me parts ≡ Ok y → length y.table ≡ client_count r.protocol.shape
  installed_clients r d first pos parts y rep gives =
      ap (λ (z : ServedState V). length z.table) (service_installed me y pos parts first gives) ∙ (clients_kept me (Installed pos parts ∷ first) ∙ ap client_count rep.who.shape)

  -- ---- parts that were held are held again

  with_parts : (t : Tables V) (held : Option Fetched) (d : History) → Stand me t d → HeldStand me held d → Stand me (record t { parts = held }) d
  with_parts t held d s parts = record {
    sound = s.sound;
    counter = s.counter;
    gates = s.gates;
    log = s.log;
    normal = s.normal;
    change = s.change;
    stable = s.stable;
    exec = s.exec;
    service = s.service;
    shelf = s.shelf;
    parts = parts;
    asked = s.asked;
  }

  module _ (old new : ReplicaState V) (done : StepOutput) (x : Progress) (s : StandsAt me old done x) (m : StateMsg) (at : m.pos ≡ low_of me x.history) where
    rep : Represents me old x.history
    rep = s.represents

    digest : old.protocol.stable.state ≡ (stable_of me x.history).state
    digest = ap (λ (c : StableCert). c.state) rep.tables.stable

    pub held_again : WritesParts old new → HoldsParts m.pos old.protocol.stable.state (found old.keeper.fetched) old.keeper new.keeper → StandsAt me new done x
    held_again writes holds =
        let parts : HeldStand me new.keeper.fetched x.history = held_stand me new.keeper.fetched x.history m.pos old.protocol.stable.state holds.parts_of at digest
        (λ i. holds.finds i ∙ ap (λ f. f i) (held_search me old.keeper.fetched x.history rep.tables.parts)) in
        record {
          represents = record {
            who = hosted me old new writes.same rep.who;
            tables = subst (λ (u : Tables V). Stand me u x.history) (sym writes.tables) (with_parts (tables_of old) new.keeper.fetched x.history rep.tables parts);
            fit = rep.fit;
          };
          serving = s.serving;
          sent = s.sent;
          executed = s.executed;
          installed = s.installed;
        }

    -- ---- all are dropped

    pub parts_dropped : WritesParts old new → new.keeper.fetched ≡ None → StandsAt me new done (write DroppedParts x)
    parts_dropped writes none =
        let d : History = x.history in
        let t : Tables V = tables_of old in
        let left = stays me (low_of me d) t DroppedParts d (stand_lags me t d rep.tables) tt in
        let low = low_stays me DroppedParts d refl in
        let each : EachStands me (record t { parts = new.keeper.fetched }) (DroppedParts ∷ d) = record {
          counter = left.counter refl;
          gates = left.gates (λ h. refl);
          log = left.log refl;
          normal = left.normal refl;
          change = left.change refl;
          stable = left.stable refl;
          exec = left.exec refl;
          service = left.service refl;
          shelf = shelf_stays me t.shelf DroppedParts d refl low rep.tables.shelf;
          parts = subst (λ (held : Option Fetched). HeldStand me held (DroppedParts ∷ d)) (sym none) (parts_gone me d);
          asked = left.asked refl;
        } in
        written me old new done DroppedParts x refl (one_more me old new DroppedParts d rep writes.same refl tt tt tt (subst (λ (u : Tables V). EachStands me u (DroppedParts ∷ d)) (sym writes.tables) each)) s

    -- ---- parts are held, too

    module _ (fits : FitsState old.protocol.shape m) (passed : state_refusal me x.history m ≡ None) (held_now : (i : ℕ) → joined (found old.keeper.fetched) m i ≡ part_held me (Accepted (message.State m) ∷ x.history) i) where
      abbrev taken_now : Entry
      taken_now = Accepted (message.State m)

      adds_on : Adds me x.history taken_now
      adds_on = passes_state me x.history m passed

      comes_on : ComesOfRead me taken_now x.history
      comes_on = let here : FitsState me.shape m = subst (λ (z : Shape). FitsState z m) (sym rep.who.shape) fits in ((message.State m, here, inl refl), tt)

      pub parts_taken : WritesParts old new → HoldsParts m.pos old.protocol.stable.state (joined (found old.keeper.fetched) m) old.keeper new.keeper → StandsAt me new done (write taken_now x)
      parts_taken writes holds =
          let d : History = x.history in
          let t : Tables V = tables_of old in
          let left = stays me (low_of me d) t taken_now d (stand_lags me t d rep.tables) adds_on in
          let low = low_stays me taken_now d refl in
          let same : stable_of me (taken_now ∷ d) ≡ stable_of me d = stable_stays me taken_now d refl in
          let parts : HeldStand me new.keeper.fetched (taken_now ∷ d) = held_stand me new.keeper.fetched (taken_now ∷ d) m.pos old.protocol.stable.state holds.parts_of (at ∙ sym low) (digest ∙ ap (λ (c : StableCert). c.state) (sym same))
          (λ i. holds.finds i ∙ held_now i) in
          let each : EachStands me (record t { parts = new.keeper.fetched }) (taken_now ∷ d) = record {
            counter = left.counter refl;
            gates = left.gates (λ h. refl);
            log = left.log refl;
            normal = left.normal refl;
            change = left.change refl;
            stable = left.stable refl;
            exec = left.exec refl;
            service = left.service refl;
            shelf = shelf_stays me t.shelf taken_now d refl low rep.tables.shelf;
            parts = parts;
            asked = left.asked refl;
          } in
          written me old new done taken_now x refl (one_more me old new taken_now d rep writes.same refl adds_on tt comes_on (subst (λ (u : Tables V). EachStands me u (taken_now ∷ d)) (sym writes.tables) each)) s

      -- ---- and their state is installed

      module _ (behind : is_behind me x.history ≡ true) (all : missing me (taken_now ∷ x.history) ≡ None) (y : ServedState V) (gives : state_from me (parts_held me (taken_now ∷ x.history)) ≡ Ok y) where
        abbrev low_now : ℕ
        low_now = low_of me (taken_now ∷ x.history)

        abbrev installed_now : Entry
        installed_now = Installed low_now (parts_held me (taken_now ∷ x.history))

        abbrev behind_it : History
        behind_it = installed_now ∷ (taken_now ∷ x.history)

        taken_sound : IsSound me (taken_now ∷ x.history)
        taken_sound = stays_sound me taken_now x.history adds_on tt rep.tables.sound

        taken_fit : AreFit me (taken_now ∷ x.history)
        taken_fit = unstamped_fit me (is_there me old rep.who) taken_now x.history refl adds_on comes_on rep.tables.sound rep.fit

        installs : Adds me (taken_now ∷ x.history) installed_now
        installs =
            let lt = ltb-true (exec_of x.history) (low_of me x.history) behind in
            (refl, omega (arith, lt, exec_stays me taken_now x.history refl, low_stays me taken_now x.history refl))

        no_fault : bad_state me (taken_now ∷ x.history) ≡ None
        no_fault = rw (all, gives) refl

        installed_sound : IsSound me behind_it
        installed_sound = stays_sound me installed_now (taken_now ∷ x.history) installs tt taken_sound

        low_is : old.protocol.stable.pos ≡ low_now
        low_is = ap (λ (c : StableCert). c.pos) rep.tables.stable ∙ sym (low_stays me taken_now x.history refl)

        -- ---- the pending requests

        requests : (normal : Normal) → Settles old.protocol.normal normal (λ c. (last_of y.table c).seq) (client_count old.protocol.shape) → NormalStands me normal behind_it
        requests normal settles =
            let first : History = taken_now ∷ x.history in
            let parts : List Bytes = parts_held me first in
            let service : y ≡ state_of me behind_it = service_installed me y low_now parts first gives in
            let numbers : (λ c. (last_of y.table c).seq) ≡ installed_numbers me low_now parts first = fun_ext (λ (c : ℕ). ap (λ (z : ServedState V). (reply_of z c).seq) service) in
            let before : NormalStands me old.protocol.normal first = normal_stays me taken_now x.history old.protocol.normal taken_sound.arises refl rep.tables.normal in
            let done : NormalRepresents me.shape me.host normal (settled_below (searches_in me first) (λ c. (last_of y.table c).seq) (client_count old.protocol.shape)) = settles me.shape me.host (searches_in me first) before in
            let counted : NormalRepresents me.shape me.host normal (settled_below (searches_in me first) (λ c. (last_of y.table c).seq) (client_count me.shape)) =
            subst (λ (z : Shape). NormalRepresents me.shape me.host normal (settled_below (searches_in me first) (λ c. (last_of y.table c).seq) (client_count z))) (sym rep.who.shape) done in
            requests_settled me low_now parts first normal installed_sound.arises (subst (λ (f : ℕ → ℕ). NormalRepresents me.shape me.host normal (settled_below (searches_in me first) f (client_count me.shape))) numbers counted)

        -- ---- all tables

        installed_tables : (normal : Normal) → Settles old.protocol.normal normal (λ c. (last_of y.table c).seq) (client_count old.protocol.shape)
            → Stand me (record (tables_of old) { normal = normal; exec = old.protocol.stable.pos; service = y; parts = None }) behind_it
        installed_tables normal settles =
            let t : Tables V = tables_of old in
            let first : History = taken_now ∷ x.history in
            let parts : List Bytes = parts_held me first in
            record {
              sound = installed_sound;
              counter = own_counter_stays t.counter installed_now first refl (own_counter_stays t.counter taken_now x.history refl rep.tables.counter);
              gates = gates_stay me t.gates installed_now first (λ h. refl) (gates_stay me t.gates taken_now x.history (λ h. refl) rep.tables.gates);
              log = own_log_stays me t.log installed_now first refl (own_log_stays me t.log taken_now x.history refl rep.tables.log);
              normal = requests normal settles;
              change = change_stays me t.change installed_now first refl (change_stays me t.change taken_now x.history refl rep.tables.change);
              stable = certificate_stays me t.stable installed_now first refl (certificate_stays me t.stable taken_now x.history refl rep.tables.stable);
              exec = low_is ∙ installed_position low_now parts first;
              service = service_installed me y low_now parts first gives;
              shelf = shelf_stays me t.shelf installed_now first refl (low_stays me installed_now first refl) (shelf_stays me t.shelf taken_now x.history refl (low_stays me taken_now x.history refl) rep.tables.shelf);
              parts = parts_used me low_now parts first;
              asked = asked_left me t.asked installed_now first refl (asked_left me t.asked taken_now x.history refl rep.tables.asked);
            }

        pub state_installed : (after : StepOutput) → IsSame old new → tables_of new ≡ record (tables_of old) { normal = new.protocol.normal; exec = old.protocol.stable.pos; service = y; parts = None }
            → Settles old.protocol.normal new.protocol.normal (λ c. (last_of y.table c).seq) (client_count old.protocol.shape) → DoesInstall old.protocol.stable.pos done after
            → StandsAt me new after (install me (write taken_now x))
        state_installed after same is settles does =
            let first : History = taken_now ∷ x.history in
            let comes : ComesOfRead me installed_now first = (refl, all, no_fault) in
            record {
              represents = record {
                who = hosted me old new same rep.who;
                tables = subst (λ (u : Tables V). Stand me u behind_it) (sym is) (installed_tables new.protocol.normal settles);
                fit = unstamped_fit me (is_there me old rep.who) installed_now first refl installs comes taken_sound taken_fit;
              };
              serving = served_ends installed_now first refl;
              sent = does.sent ∙ s.sent;
              executed = does.executed ∙ s.executed;
              installed = does.installed ∙ ap (λ (n : ℕ). Some n) low_is;
            }
