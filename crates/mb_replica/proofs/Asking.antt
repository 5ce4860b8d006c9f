-- A request, a RESEND or a FETCH that is given: what the definitions come to for each refusal, and what taking one leaves.
use Rattle.std.proofs.Common.{◌≡◌, ◌≤◌, ◌∙◌, ℕ, Bool, true, false, List, [], ◌∷◌, refl, ap, sym, subst, inl, length, Option, Some, None, is_some}
use Rattle.std.specs.Prelude.{◌==◌, nat_lt, unwrap_or}
use Rattle.std.specs.Bool.{then_some}
use Rattle.std.specs.Option.{option_or}
use Rattle.std.proofs.lemmas.Bool.{eqb-true}
use Rattle.mb_base.specs.declared.shape.Shape.{Shape}
use Rattle.mb_base.specs.Shapes.{Bytes, client_count}
use Rattle.mb_parts.specs.declared.request.Request.{Request}
use Rattle.mb_msg.specs.declared.message.Message.TheVariants as message
use Rattle.mb_msg.specs.declared.transfer.Resend.{Resend}
use Rattle.mb_msg.specs.declared.transfer.Fetch.{Fetch}
use Rattle.mb_msg.specs.Fits.{FitsResend, FitsFetch}
use Rattle.mb_parts.specs.Fits.{FitsRequest}
use Rattle.mb_msg.specs.declared.event.Outcome.{Outcome}
use Rattle.mb_msg.specs.declared.event.Outcome.TheVariants as outcome
use Rattle.mb_model.specs.Histories.{Accepted, History, Identity}
use Rattle.mb_model.specs.Service.{Served}
use Rattle.mb_model.specs.Stable.{low_of}
use Rattle.mb_model.specs.Execution.{pending, snapshot_of}
use Rattle.mb_model.specs.Sending.{Progress, write, send, to_host, to_client}
use Rattle.mb_model.specs.Making.{log_for, state_message}
use Rattle.mb_model.specs.KindChecks.{is_badly_tagged}
use Rattle.mb_model.specs.PlainChecks.{last_seq, is_behind_pending, number_refusal, request_refusal, resend_refusal, fetch_refusal}
use Rattle.mb_model.specs.Given.{answer, answer_unless, answer_request, stored_reply, give_request, give_resend, give_fetch}
use Rattle.mb_steps.specs.Arises.{Adds}
use Rattle.mb_steps.proofs.StepPassed.{passes_request, passes_resend, passes_fetch}
use Rattle.mb_history_laws.proofs.Framing.{low_stays}
use Rattle.mb_fetch.specs.Snapshots.{parts_at}
use Rattle.mb_executor.specs.Sent.{kept_at}
use Rattle.mb_normal.specs.Tables.{Becomes}
use Rattle.mb_normal.specs.Searches.{with_pending}
use Rattle.mb_refinement.specs.Tables.{Tables}
use Rattle.mb_refinement.proofs.Values.{clients_kept}
use Rattle.mb_refinement.proofs.Positions.{request_pended}
use Rattle.mb_refinement.proofs.Snapshots.{shelf_stays}
use Rattle.mb_refinement.proofs.FetchedParts.{held_stays}
use Rattle.mb_refinement.proofs.Together.{EachStands, stand_lags, stays, resend_leaves, fetch_leaves}
use Rattle.mb_replica.specs.declared.state.ReplicaState.{ReplicaState}
use Rattle.mb_replica.specs.declared.sending.StepOutput.{StepOutput}
use Rattle.mb_replica.specs.Represents.{tables_of, Represents, StandsAt}
use Rattle.mb_replica.specs.Between.{WritesNormal}
use Rattle.mb_replica.proofs.Entries.{one_more, one_left, written}

-- ---- which case of a definition it is

module _ {S : Type 0} (me : Identity S) (x : Progress) where
  pub resend_refused : (m : Resend) (o : Outcome) → Some o ≡ resend_refusal me x.history m → answer o x ≡ give_resend me m x
  unfolding give_resend
  resend_refused m o is = ap (λ (r : Option Outcome). answer_unless r x (send (to_host m.host (log_for me x.history m)) (write (Accepted (message.Resend m)) x))) is

  pub resend_taken : (m : Resend) → None ≡ resend_refusal me x.history m → answer outcome.Took (send (to_host m.host (log_for me x.history m)) (write (Accepted (message.Resend m)) x)) ≡ give_resend me m x
  unfolding give_resend
  resend_taken m is = ap (λ (r : Option Outcome). answer_unless r x (send (to_host m.host (log_for me x.history m)) (write (Accepted (message.Resend m)) x))) is

  pub fetch_refused : (m : Fetch) (o : Outcome) → Some o ≡ fetch_refusal me x.history m → answer o x ≡ give_fetch me m x
  unfolding give_fetch
  fetch_refused m o is = ap (λ (r : Option Outcome). answer_unless r x (send (to_host m.host (state_message me m.pos m.first (unwrap_or (snapshot_of me x.history m.pos) []))) (write (Accepted (message.Fetch m)) x))) is

  pub fetch_taken : (m : Fetch) → None ≡ fetch_refusal me x.history m
      → answer outcome.Took (send (to_host m.host (state_message me m.pos m.first (unwrap_or (snapshot_of me x.history m.pos) []))) (write (Accepted (message.Fetch m)) x)) ≡ give_fetch me m x
  unfolding give_fetch
  fetch_taken m is = ap (λ (r : Option Outcome). answer_unless r x (send (to_host m.host (state_message me m.pos m.first (unwrap_or (snapshot_of me x.history m.pos) []))) (write (Accepted (message.Fetch m)) x))) is

  pub request_taken : (r : Request) → None ≡ request_refusal me x.history r → answer outcome.Took (write (Accepted (message.Request r)) x) ≡ give_request me r x
  unfolding give_request
  request_taken r is = ap (λ (o : Option Outcome). answer_request me o r x) is

  pub request_again : (r : Request) → Some outcome.Again ≡ request_refusal me x.history r → answer outcome.Again (send (to_client r.client (stored_reply me x.history r.client)) x) ≡ give_request me r x
  unfolding give_request
  request_again r is = ap (λ (o : Option Outcome). answer_request me o r x) is

  other_refusal : (r : Request) (o : Outcome) → (o ≡ outcome.Again → ⊥) → answer o x ≡ answer_request me (Some o) r x
  other_refusal r outcome.Again other = absurd (other refl)
  other_refusal r o other = refl

  pub request_refused : (r : Request) (o : Outcome) → (o ≡ outcome.Again → ⊥) → Some o ≡ request_refusal me x.history r → answer o x ≡ give_request me r x
  unfolding give_request
  request_refused r o other is = other_refusal r o other ∙ ap (λ (p : Option Outcome). answer_request me p r x) is

-- The number of a request that asks for its reply again is that of the last executed one.
by_tests : (bad old again idle : Bool) (last : ℕ)
    → option_or (then_some bad outcome.BadTag) (option_or (then_some old (outcome.Old last)) (option_or (then_some again outcome.Again) (then_some idle outcome.Idle))) ≡ Some outcome.Again → again ≡ true
by_tests true old again idle last e = absurd cc
by_tests false true again idle last e = absurd cc
by_tests false false true idle last e = refl
by_tests false false false true last e = absurd cc
by_tests false false false false last e = absurd cc

pub again_number : {S : Type 0} (me : Identity S) (d : History) (r : Request) → Some outcome.Again ≡ request_refusal me d r → 1 ≤ r.seq → 1 ≤ last_seq me d r.client
unfolding request_refusal number_refusal
again_number me d r is some =
    let test = by_tests (is_badly_tagged me r) (nat_lt r.seq (last_seq me d r.client)) (r.seq == last_seq me d r.client) (is_behind_pending (pending me d r.client) r) (last_seq me d r.client) (sym is) in
    subst (λ (n : ℕ). 1 ≤ n) (eqb-true r.seq (last_seq me d r.client) test) some

module _ {V : Type 0} (me : Identity V) where
  -- ---- a RESEND or a FETCH that is taken

  pub resend_written : (r : ReplicaState V) (done : StepOutput) (m : Resend) (x : Progress) → FitsResend r.protocol.shape m → None ≡ resend_refusal me x.history m → StandsAt me r done x → StandsAt me r done (write (Accepted (message.Resend m)) x)
  resend_written r done m x fits is s =
      let rep = s.represents in
      let e = Accepted (message.Resend m) in
      let taken : Adds me x.history e = passes_resend me x.history m (sym is) in
      let here : FitsResend me.shape m = subst (λ (z : Shape). FitsResend z m) (sym rep.who.shape) fits in
      written me r r done e x refl (one_left me r e x.history rep refl taken ((message.Resend m, here, inl refl), tt) (resend_leaves me (tables_of r) m x.history rep.tables taken)) s

  pub fetch_written : (r : ReplicaState V) (done : StepOutput) (m : Fetch) (x : Progress) → FitsFetch r.protocol.shape m → None ≡ fetch_refusal me x.history m → StandsAt me r done x → StandsAt me r done (write (Accepted (message.Fetch m)) x)
  fetch_written r done m x fits is s =
      let rep = s.represents in
      let e = Accepted (message.Fetch m) in
      let taken : Adds me x.history e = passes_fetch me x.history m (sym is) in
      let here : FitsFetch me.shape m = subst (λ (z : Shape). FitsFetch z m) (sym rep.who.shape) fits in
      written me r r done e x refl (one_left me r e x.history rep refl taken ((message.Fetch m, here, inl refl), tt) (fetch_leaves me (tables_of r) m x.history rep.tables taken)) s

  -- ---- the snapshot that a FETCH asks for

  some_of : {A : Type 0} (o : Option A) → is_some o ≡ true → (y : A) × (o ≡ Some y)
  some_of None e = absurd cc
  some_of (Some y) e = (y, refl)

  module _ (r : ReplicaState V) (d : History) (rep : Represents me r d) (m : Fetch) (is : None ≡ fetch_refusal me d m) where
    pub kept : (parts : List Bytes) × (snapshot_of me d m.pos ≡ Some parts)
    kept = let passed = passes_fetch me d m (sym is) in some_of (snapshot_of me d m.pos) passed.has_snapshot

    pub shelf_has : parts_at r.keeper.snapshots m.pos ≡ Some kept.0
    shelf_has = rep.tables.shelf.finds m.pos ∙ kept.1

    pub parts_sent : kept.0 ≡ unwrap_or (snapshot_of me d m.pos) []
    parts_sent = ap (λ (o : Option (List Bytes)). unwrap_or o []) (sym kept.1)

    pub parts_kept : kept_at r.keeper.snapshots m.pos ≡ kept.0
    parts_kept = ap (λ (o : Option (List Bytes)). unwrap_or o []) shelf_has

  -- ---- clients

  pub clients_known : (r : ReplicaState V) (d : History) → Represents me r d → length r.keeper.served.table ≡ client_count r.protocol.shape
  clients_known r d rep = ap (λ (y : Served V). length y.table) rep.tables.service ∙ (clients_kept me d ∙ ap client_count rep.who.shape)

  -- ---- a request that is taken

  pub request_written : (old new : ReplicaState V) (done : StepOutput) (r : Request) (x : Progress) → WritesNormal old new → Becomes old.protocol.normal new.protocol.normal (λ y. with_pending y r)
      → FitsRequest old.protocol.shape r → request_refusal me x.history r ≡ None → StandsAt me old done x → StandsAt me new done (write (Accepted (message.Request r)) x)
  request_written old new done r x writes pends fits is s =
      let d : History = x.history in
      let rep = s.represents in
      let t : Tables V = tables_of old in
      let e = Accepted (message.Request r) in
      let adds : Adds me d e = passes_request me d r is in
      let here : FitsRequest me.shape r = subst (λ (z : Shape). FitsRequest z r) (sym rep.who.shape) fits in
      let left = stays me (low_of me d) t e d (stand_lags me t d rep.tables) adds in
      let low = low_stays me e d refl in
      let each : EachStands me (record t { normal = new.protocol.normal }) (e ∷ d) = record {
        counter = left.counter refl;
        gates = left.gates (λ h. refl);
        log = left.log refl;
        normal = request_pended me r d t.normal new.protocol.normal (adds, rep.tables.sound.arises) pends rep.tables.normal;
        change = left.change refl;
        stable = left.stable refl;
        exec = left.exec refl;
        service = left.service refl;
        shelf = shelf_stays me t.shelf e d refl low rep.tables.shelf;
        parts = held_stays me t.parts e d refl low rep.tables.parts;
        asked = left.asked refl;
      } in
      written me old new done e x refl (one_more me old new e d rep writes.same refl adds tt ((message.Request r, here, inl refl), tt) (subst (λ (u : Tables V). EachStands me u (e ∷ d)) (sym writes.tables) each)) s
