-- A message that is not refused has passed each test of its kind.
use Rattle.std.proofs.Common.{◌≡◌, ℕ, ◌+◌, Bool, true, false, ◌∷◌, refl, arith, Option, Some, None}
use Rattle.std.specs.Prelude.{not, ◌&&◌, ◌||◌, ◌==◌, nat_lt, nat_le, is_some, is_none, option_map, option_and_then}
use Rattle.std.specs.Bool.{then_some}
use Rattle.std.specs.Option.{option_or}
use Rattle.std.proofs.lemmas.Bool.{not-false, eqb-false, ltb-false, leb-false, lt-ltb}
use Rattle.mb_base.specs.Limits.{part_count}
use Rattle.mb_base.specs.declared.names.Ui.{Ui}
use Rattle.mb_parts.specs.declared.request.Request.{Request}
use Rattle.mb_parts.specs.declared.batch.Batch.{Batch}
use Rattle.mb_parts.specs.Certificates.{is_stable}
use Rattle.mb_msg.specs.declared.message.Body.{Body}
use Rattle.mb_msg.specs.declared.message.Body.TheVariants.{Whole, Bare as Short}
use Rattle.mb_msg.specs.declared.message.Message.TheVariants as message
use Rattle.mb_msg.specs.declared.change.ReqViewChange.{ReqViewChange}
use Rattle.mb_msg.specs.declared.transfer.Resend.{Resend}
use Rattle.mb_msg.specs.declared.transfer.Log.{Log}
use Rattle.mb_msg.specs.declared.transfer.Fetch.{Fetch}
use Rattle.mb_msg.specs.declared.transfer.StateMsg.{StateMsg}
use Rattle.mb_msg.specs.declared.stamped.Stamped.{Stamped as StampedMessage}
use Rattle.mb_msg.specs.declared.stamped.Stamped.TheVariants as stamped
use Rattle.mb_msg.specs.Stamps.{bare_of, ui_of}
use Rattle.mb_model.specs.UsableLogs.{Fault}
use Rattle.mb_msg.specs.declared.event.Outcome.{Outcome}
use Rattle.mb_msg.specs.declared.event.Outcome.TheVariants as outcome
use Rattle.mb_model.specs.Histories.{Accepted, History, Identity, gate}
use Rattle.mb_model.specs.Held.{change_fault, wish_of}
use Rattle.mb_msg.specs.Bodies.{whole_body}
use Rattle.mb_model.specs.Stable.{low_of}
use Rattle.mb_model.specs.Positions.{exec_of}
use Rattle.mb_model.specs.Execution.{pending, snapshot_of}
use Rattle.mb_model.specs.Sending.{next_of}
use Rattle.mb_model.specs.GateChecks.{is_bad_ui, is_own_future, conviction, is_stale, is_ahead, is_permitted, gate_refusal, identifier_refusal, valid}
use Rattle.mb_parts.specs.Rules.{rule_of}
use Rattle.mb_model.specs.KindChecks.{unusable, only_where, is_badly_tagged, has_bad_tag, is_beyond, is_of_later_view, is_of_view, body_refusal, vote_refusal, new_view_fault, opening_fault, kind_refusal, stamped_refusal}
use Rattle.mb_model.specs.PlainChecks.{last_seq, is_behind_pending, number_refusal, request_refusal, fetch_refusal, is_wanted, is_list_right, wrong_part, wrong_digest, are_all_held, bad_state, state_refusal, is_bad_wish, has_news_for, is_certified_floor, is_certified_evidence, wish_refusal, resend_refusal, log_refusal}
use Rattle.mb_model.specs.Passed.{PassesGate, PassesBody, PassesVote, PassesKind, PassesStamped, PassesRequest, PassesWish, PassesResend, PassesLog, PassesFetch, PassesState}
use Rattle.mb_model.proofs.Options.{or_none, then_none}

next_counter : (at counter : ℕ) → nat_le counter at ≡ false → nat_lt (at + 1) counter ≡ false → counter ≡ at + 1
next_counter at counter stale ahead = let above = leb-false _ _ stale in let below = ltb-false _ _ ahead in omega arith

map_none : {A B : Type 0} (f : A → B) (o : Option A) → option_map f o ≡ None → o ≡ None
map_none f None e = refl
map_none f (Some x) e = absurd cc

where_none : (t : Bool) (o : Option Outcome) → only_where t o ≡ None → t ≡ true → o ≡ None
where_none true o e t = e
where_none false o e t = absurd cc

above : (n m : ℕ) → nat_le m n ≡ false → nat_lt n m ≡ true
above n m e = lt-ltb n m (leb-false m n e)

strictly : (last seq : ℕ) → nat_lt seq last ≡ false → (seq == last) ≡ false → nat_lt last seq ≡ true
strictly last seq low same = lt-ltb last seq (omega (arith, ltb-false seq last low, eqb-false seq last same))

or_false : (a b : Bool) → (a || b) ≡ false → (a ≡ false) × (b ≡ false)
or_false false b e = (refl, e)
or_false true b e = absurd cc

there_is : {A : Type 0} (o : Option A) → is_none o ≡ false → is_some o ≡ true
there_is None e = absurd cc
there_is (Some x) e = refl

module _ {S : Type 0} (self : Identity S) where
  pub passes_gate : (d : History) (m : StampedMessage) → identifier_refusal self d m ≡ None → PassesGate self d m
  unfolding identifier_refusal gate_refusal
  passes_gate d m e =
      let u : Ui = ui_of m in
      let bad_ui : Option Outcome = then_some (is_bad_ui self m) outcome.BadUi in
      let own_future : Option Outcome = then_some (is_own_future self d u) outcome.Idle in
      let convicted : Option Outcome = option_map outcome.Convicted (conviction self d u) in
      let stale : Option Outcome = then_some (is_stale self d u) (outcome.Stale (next_of d u.host)) in
      let ahead : Option Outcome = then_some (is_ahead self d u) (outcome.Ahead (next_of d u.host)) in
      let illegal : Option Outcome = then_some (not (is_permitted self d m)) (outcome.Illegal (rule_of (bare_of m))) in
      let a = or_none bad_ui (option_or own_future (option_or convicted (option_or stale (option_or ahead illegal)))) e in
      let b = or_none own_future (option_or convicted (option_or stale (option_or ahead illegal))) a.1 in
      let c = or_none convicted (option_or stale (option_or ahead illegal)) b.1 in
      let f = or_none stale (option_or ahead illegal) c.1 in
      let g = or_none ahead illegal f.1 in
      record {
        certified = not-false _ (then_none (is_bad_ui self m) outcome.BadUi a.0);
        not_future = then_none (is_own_future self d u) outcome.Idle b.0;
        not_convicted = map_none outcome.Convicted (conviction self d u) c.0;
        next = next_counter (gate d u.host).counter u.counter (then_none (is_stale self d u) _ f.0) (then_none (is_ahead self d u) _ g.0);
        permitted = not-false _ (then_none (not (is_permitted self d m)) _ g.1);
      }

  passes_body : (d : History) (pos : ℕ) (b : Body Batch) → body_refusal self d pos b ≡ None → PassesBody self d pos b
  passes_body d pos (Whole b) e = then_none (has_bad_tag self b) outcome.BadTag e
  passes_body d pos (Short digest) e = then_none (nat_lt (exec_of d) pos) _ e

  passes_vote : (d : History) (view pos : ℕ) (b : Body Batch) → vote_refusal self d view pos b ≡ None → PassesVote self d view pos b
  unfolding vote_refusal
  passes_vote d view pos b e =
      let beyond : Option Outcome = then_some (is_beyond self d pos) (outcome.BeyondWindow (low_of self d)) in
      let a = or_none _ (only_where (is_of_view self d view) (option_or beyond (body_refusal self d pos b))) e in
      record {
        not_later = then_none (is_of_later_view self d view) _ a.0;
        within = λ there. then_none (is_beyond self d pos) _ (or_none beyond (body_refusal self d pos b) (where_none _ _ a.1 there)).0;
        shown = λ there. passes_body d pos b (or_none beyond (body_refusal self d pos b) (where_none _ _ a.1 there)).1;
      }

  usable : (fault : Option Fault) → unusable fault ≡ None → fault ≡ None
  usable fault e = map_none (λ f. outcome.Unusable f.0 f.1) fault e

  passes_kind : (d : History) (m : StampedMessage) → kind_refusal self d m ≡ None → PassesKind self d m
  passes_kind d (stamped.Prepare m) e = passes_vote d m.view m.pos m.body e
  passes_kind d (stamped.Commit m) e = passes_vote d m.view m.pos m.body e
  passes_kind d (stamped.Checkpoint m) e = then_none (is_beyond self d m.pos) _ e
  passes_kind d (stamped.ViewChange m) e = λ now. usable (change_fault self m) (where_none _ _ e now)
  passes_kind d (stamped.NewView m) e = λ now. usable (option_and_then (new_view_fault self m) (whole_body m.body)) (where_none _ _ e now)
  passes_kind d (stamped.Enter m) e = tt
  passes_kind d (stamped.Open m) e = λ now. usable (option_and_then (opening_fault self m.evidence) (whole_body m.body)) (where_none _ _ e now)
  passes_kind d (stamped.Join m) e = tt

  pub passes_stamped : (d : History) (m : StampedMessage) → stamped_refusal self d m ≡ None → PassesStamped self d m
  unfolding stamped_refusal
  passes_stamped d m e =
      let a = or_none (identifier_refusal self d m) (kind_refusal self d m) e in
      record { gate = passes_gate d m a.0; kind = passes_kind d m a.1 }

  pub passes_wish : (d : History) (m : ReqViewChange) → wish_refusal self d m ≡ None → PassesWish self d m
  unfolding wish_refusal
  passes_wish d m e =
      let a = or_none (then_some (is_bad_wish self m) outcome.BadTag) (then_some (nat_le m.view (wish_of self d m.host)) outcome.Idle) e in
      record { tagged = then_none (is_bad_wish self m) _ a.0; above = above (wish_of self d m.host) m.view (then_none (nat_le m.view (wish_of self d m.host)) _ a.1) }

  pub passes_resend : (d : History) (m : Resend) → resend_refusal self d m ≡ None → PassesResend self d m
  unfolding resend_refusal
  passes_resend d m e =
      let a = or_none (then_some (m.host == self.host) outcome.Idle) (then_some (not (has_news_for self d m)) outcome.Idle) e in
      record { not_own = then_none (m.host == self.host) _ a.0; has_news = not-false _ (then_none (not (has_news_for self d m)) _ a.1) }

  pub passes_log : (m : Log) → log_refusal self m ≡ None → PassesLog self m
  unfolding log_refusal
  passes_log m e =
      let floor : Option Outcome = then_some (not (is_certified_floor self m.host m.floor)) (outcome.Unusable 0 1) in
      let stable : Option Outcome = then_some (not (is_stable self.shape (valid self) m.stable)) (outcome.Unusable 0 2) in
      let evidence : Option Outcome = then_some (not (is_certified_evidence self m.evidence)) (outcome.Unusable 0 12) in
      let own : Option Outcome = then_some (m.host == self.host) outcome.Idle in
      let a = or_none floor (option_or stable (option_or evidence own)) e in
      let b = or_none stable (option_or evidence own) a.1 in
      let c = or_none evidence own b.1 in
      record {
        floor = not-false _ (then_none (not (is_certified_floor self m.host m.floor)) _ a.0);
        stable = not-false _ (then_none (not (is_stable self.shape (valid self) m.stable)) _ b.0);
        evidence = not-false _ (then_none (not (is_certified_evidence self m.evidence)) _ c.0);
        not_own = then_none (m.host == self.host) _ c.1;
      }

  pub passes_request : (d : History) (r : Request) → request_refusal self d r ≡ None → PassesRequest self d r
  unfolding request_refusal number_refusal
  passes_request d r e =
      let last : ℕ = last_seq self d r.client in
      let old : Option Outcome = then_some (nat_lt r.seq last) (outcome.Old last) in
      let again : Option Outcome = then_some (r.seq == last) outcome.Again in
      let idle : Option Outcome = then_some (is_behind_pending (pending self d r.client) r) outcome.Idle in
      let a = or_none (then_some (is_badly_tagged self r) outcome.BadTag) (option_or old (option_or again idle)) e in
      let b = or_none old (option_or again idle) a.1 in
      let c = or_none again idle b.1 in
      record {
        tagged = then_none (is_badly_tagged self r) _ a.0;
        fresh = strictly last r.seq (then_none (nat_lt r.seq last) _ b.0) (then_none (r.seq == last) _ c.0);
        above = then_none (is_behind_pending (pending self d r.client) r) _ c.1;
      }

  pub passes_fetch : (d : History) (m : Fetch) → fetch_refusal self d m ≡ None → PassesFetch self d m
  passes_fetch d m e =
      let a = or_false (not (m.of == self.host)) (is_none (snapshot_of self d m.pos)) (then_none _ outcome.Idle e) in
      record { asked = not-false _ a.0; has_snapshot = there_is (snapshot_of self d m.pos) a.1 }

  digests_right : (o : Option ℕ) → wrong_digest o ≡ None → o ≡ None
  digests_right None e = refl
  digests_right (Some i) e = absurd cc

  pub passes_state : (d : History) (m : StateMsg) → state_refusal self d m ≡ None → PassesState self d m
  unfolding state_refusal
  passes_state d m e =
      let idle : Option Outcome = then_some (not (is_wanted self d m.pos)) outcome.Idle in
      let list : Option Outcome = then_some (not (is_list_right self d m)) (outcome.WrongDigest part_count) in
      let parts : Option Outcome = wrong_digest (wrong_part m.digests m.first m.parts) in
      let held : Option Outcome = then_some (are_all_held self d m) outcome.Idle in
      let bad : Option Outcome = bad_state self (Accepted (message.State m) ∷ d) in
      let a = or_none idle (option_or list (option_or parts (option_or held bad))) e in
      let b = or_none list (option_or parts (option_or held bad)) a.1 in
      let c = or_none parts (option_or held bad) b.1 in
      let f = or_none held bad c.1 in
      record {
        wanted = not-false _ (then_none (not (is_wanted self d m.pos)) _ a.0);
        list = not-false _ (then_none (not (is_list_right self d m)) _ b.0);
        parts = digests_right (wrong_part m.digests m.first m.parts) c.0;
        not_held = then_none (are_all_held self d m) _ f.0;
        state = f.1;
      }
