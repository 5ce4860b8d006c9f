-- What a host keeps as it is found stays true: the counter of the USIG, the certificate of the stable position, the last executed position, the service
-- with its client table, and the host that is asked for state.
use Rattle.std.proofs.Common.{◌≡◌, ℕ, zero, suc, ◌+◌, true, false, List, [], ◌∷◌, length, replicate, refl, sym, ap, ◌∙◌, inl, inr, arith, Option, Some, None, Result, Ok, Err}
use Rattle.std.specs.Prelude.{◌==◌, nat_lt, slice_get, unwrap_or, take, if◌then◌else◌}
use Rattle.std.proofs.lemmas.Bool.{cases_Bool, ltb-true}
use Rattle.mb_base.specs.Limits.{table_part, service_parts}
use Rattle.mb_base.specs.Shapes.{Bytes, client_count}
use Rattle.mb_base.specs.Reading.{Cursor, cursor, Reads, ◌>>=◌, repeat_at}
use Rattle.mb_base.proofs.Laws.{bind_ok, allow_ok, ok_is}
use Rattle.mb_parts.specs.declared.request.Request.{Request}
use Rattle.mb_parts.specs.declared.certificates.StableCert.{StableCert}
use Rattle.mb_msg.specs.declared.event.Placed.{Placed}
use Rattle.mb_msg.specs.declared.event.Slot.{Slot}
use Rattle.mb_msg.specs.declared.stamped.Stamped.{Stamped as StampedMessage}
use Rattle.mb_model.specs.declared.known.LastReply.{LastReply}
use Rattle.mb_model.specs.Service.{Served, no_reply, served}
use Rattle.mb_model.specs.States.{last_reply_at, ended, table_of, joined_state, restored}
use Rattle.mb_model.specs.Histories.{Entry, Accepted, Stamped, Executed, Installed, Nudged, History, Identity, counter_of}
use Rattle.mb_model.specs.Histories as entry
use Rattle.mb_model.specs.Stable.{stable_of, low_of, learnt_in, further}
use Rattle.mb_model.specs.Positions.{exec_of, is_behind}
use Rattle.mb_model.specs.Execution.{state_from, if_restored, state_of, next_host, asked_host}
use Rattle.mb_model.proofs.ServiceLaws.{table_kept}
use Rattle.mb_history_laws.specs.Speaks.{is_stamp, speaks_of_stable, speaks_of_executed, speaks_of_state, is_nudge}
use Rattle.mb_history_laws.proofs.Framing.{counter_stays, stable_stays, exec_stays, state_stays, asked_stays}
use Rattle.mb_history_laws.proofs.OwnLog.{counter_more}
use Rattle.mb_history_laws.proofs.Executing.{executed_is, installed_is, state_served, state_installed, asked_next}

-- ---- the counter

pub own_counter_stays : (counter : ℕ) (e : Entry) (d : History) → is_stamp e ≡ false → counter ≡ counter_of d → counter ≡ counter_of (e ∷ d)
own_counter_stays counter e d s is = is ∙ sym (counter_stays e d s)

pub own_counter_stamped : (counter : ℕ) (m : StampedMessage) (d : History) → counter ≡ counter_of d → counter + 1 ≡ counter_of (Stamped m ∷ d)
own_counter_stamped counter m d is = ap (λ n. n + 1) is ∙ sym (counter_more m d)

-- ---- the last executed position

pub executed_stays : {S : Type 0} (self : Identity S) (exec : ℕ) (e : Entry) (d : History) → speaks_of_executed e ≡ false → exec ≡ exec_of d → exec ≡ exec_of (e ∷ d)
executed_stays self exec e d s is = is ∙ sym (exec_stays self e d s)

pub executed_position : (slot : Slot) (d : History) → slot.pos ≡ exec_of (Executed slot ∷ d)
executed_position slot d = sym (executed_is slot d)

pub installed_position : (pos : ℕ) (parts : List Bytes) (d : History) → pos ≡ exec_of (Installed pos parts ∷ d)
installed_position pos parts d = sym (installed_is pos parts d)

-- ---- tables of a length

replicated : (n : ℕ) (a : LastReply) → length (replicate n a) ≡ n
replicated zero a = refl
replicated (suc n) a = ap suc (replicated n a)

repeated : {A : Type 0} (f : Cursor → Reads A) (n : ℕ) (s : Cursor) (xs : List A) (t : Cursor) → repeat_at f n s ≡ Ok (xs, t) → length xs ≡ n
unfolding repeat_at
repeated {A} f zero s xs t e = ap (λ (y : List A × Cursor). length y.0) (sym (ok_is ([], s) (xs, t) e))
repeated {A} f (suc n) s xs t e =
    let a = bind_ok (f s) (λ first. repeat_at f n first.1 >>= λ others. Ok (first.0 ∷ others.0, others.1)) (xs, t) e in
    let b = bind_ok (repeat_at f n a.0.1) (λ others. Ok (a.0.0 ∷ others.0, others.1)) (xs, t) a.2 in
    ap (λ (y : List A × Cursor). length y.0) (sym (ok_is (a.0.0 ∷ b.0.0, b.0.1) (xs, t) b.2)) ∙ ap suc (repeated f n a.0.1 b.0.0 b.0.1 b.1)

table_length : (n : ℕ) (bytes : Bytes) (t : List LastReply) → table_of n bytes ≡ Ok t → length t ≡ n
unfolding table_of
table_length n bytes t e =
    let a = bind_ok (repeat_at last_reply_at n (cursor 0 bytes)) ended t e in
    let b = allow_ok (length a.0.1.rest == 0) a.0.1.at a.0.0 t a.2 in
    ap length (sym b.1) ∙ repeated last_reply_at n (cursor 0 bytes) a.0.0 a.0.1 a.1

module _ {S : Type 0} (self : Identity S) where
  -- ---- the stable certificate

  pub certificate_stays : (stable : StableCert) (e : Entry) (d : History) → speaks_of_stable e ≡ false → stable ≡ stable_of self d → stable ≡ stable_of self (e ∷ d)
  certificate_stays stable e d s is = is ∙ sym (stable_stays self e d s)

  -- the further of it and of the one that the entry brings
  pub certificate_learnt : (stable : StableCert) (e : Entry) (d : History) → stable ≡ stable_of self d → further stable (learnt_in self d stable.pos e) ≡ stable_of self (e ∷ d)
  unfolding stable_of
  certificate_learnt stable e d is = ap (λ c. further c (learnt_in self d c.pos e)) is

  -- one that is further takes its place, and one that is not leaves it
  pub certificate_taken : (stable new : StableCert) (e : Entry) (d : History) → stable ≡ stable_of self d → learnt_in self d stable.pos e ≡ Some new → nat_lt stable.pos new.pos ≡ true → new ≡ stable_of self (e ∷ d)
  certificate_taken stable new e d is learnt above = rw (learnt, above) at (certificate_learnt stable e d is)

  pub certificate_not_taken : (stable new : StableCert) (e : Entry) (d : History) → stable ≡ stable_of self d → learnt_in self d stable.pos e ≡ Some new → nat_lt stable.pos new.pos ≡ false → stable ≡ stable_of self (e ∷ d)
  certificate_not_taken stable new e d is learnt below = rw (learnt, below) at (certificate_learnt stable e d is)

  pub no_certificate : (stable : StableCert) (e : Entry) (d : History) → stable ≡ stable_of self d → learnt_in self d stable.pos e ≡ None → stable ≡ stable_of self (e ∷ d)
  no_certificate stable e d is none = rw none at (certificate_learnt stable e d is)

  -- Where the stable position stays, so does its certificate.
  pub certificate_same : (e : Entry) (d : History) → low_of self (e ∷ d) ≡ low_of self d → stable_of self (e ∷ d) ≡ stable_of self d
  unfolding stable_of
  certificate_same e d same = by_cert (learnt_in self d (stable_of self d).pos e) same where
    by_cert : (o : Option StableCert) → (further (stable_of self d) o).pos ≡ (stable_of self d).pos → further (stable_of self d) o ≡ stable_of self d
    by_cert None e = refl
    by_cert (Some c) e = elim (cases_Bool (nat_lt (stable_of self d).pos c.pos)) [
      | inr below ↦ rw below refl
      | inl above ↦ let at : c.pos ≡ (stable_of self d).pos = rw above at e in absurd (omega (arith, ltb-true (stable_of self d).pos c.pos above, at))
    ]

  -- ---- the service with its client table

  pub service_stays : (x : Served S) (e : Entry) (d : History) → speaks_of_state e ≡ false → x ≡ state_of self d → x ≡ state_of self (e ∷ d)
  service_stays x e d s is = is ∙ sym (state_stays self e d s)

  -- A request is served.
  pub service_served : (old new : Served S) (pos : ℕ) (r : Request) (placed : Placed) (d : History) → placed.request ≡ r → new ≡ served self.machine old pos r → old ≡ state_of self d → new ≡ state_of self (entry.Served pos placed ∷ d)
  service_served old new pos r placed d same does is =
      does ∙ ap (λ x. served self.machine x pos r) is ∙ ap (λ q. served self.machine (state_of self d) pos q) (sym same) ∙ sym (state_served self pos placed d)

  -- There are as many places in the table as clients.
  joined_table : (t : Result (List LastReply) ℕ) (x : Result S (ℕ × ℕ)) (y : Served S) → joined_state self.snapshots t x ≡ Ok y → t ≡ Ok y.table
  joined_table (Err at) x y e = absurd cc
  joined_table (Ok t) (Err fault) y e = absurd cc
  joined_table (Ok t) (Ok x) y e = let same : record { state = x; table = t } ≡ y = cc in ap (λ (z : Served S). Ok z.table) same

  from_length : (parts : List Bytes) (y : Served S) → state_from self parts ≡ Ok y → length y.table ≡ client_count self.shape
  unfolding restored
  from_length parts y e = table_length (client_count self.shape) (unwrap_or (slice_get parts table_part) []) y.table
      (joined_table (table_of (client_count self.shape) (unwrap_or (slice_get parts table_part) [])) (self.snapshots.restored (take service_parts parts)) y e)

  pub clients_kept : (d : History) → length (state_of self d).table ≡ client_count self.shape
  unfolding state_of
  clients_kept [] = replicated (client_count self.shape) no_reply
  clients_kept (entry.Served pos placed ∷ d) = table_kept self.machine (state_of self d) pos placed.request ∙ clients_kept d
  clients_kept (Installed pos parts ∷ d) = by_result (state_from self parts) refl (clients_kept d) where
    by_result : (r : Result (Served S) (ℕ × ℕ)) → state_from self parts ≡ r → length (state_of self d).table ≡ client_count self.shape → length (if_restored self (state_of self d) r).table ≡ client_count self.shape
    by_result (Ok y) is before = from_length parts y is
    by_result (Err fault) is before = before
  clients_kept (e ∷ d) = clients_kept d

  -- Parts that give a table and a state give both together, and those that give none of either give none.
  pub state_given : (parts : List Bytes) (y : Served S) → table_of (client_count self.shape) (unwrap_or (slice_get parts table_part) []) ≡ Ok y.table → self.snapshots.restored (take service_parts parts) ≡ Ok y.state → state_from self parts ≡ Ok y
  unfolding restored
  state_given parts y table state = rw (table, state) refl

  pub no_table_given : (parts : List Bytes) (at : ℕ) → table_of (client_count self.shape) (unwrap_or (slice_get parts table_part) []) ≡ Err at → state_from self parts ≡ Err (table_part, at)
  unfolding restored
  no_table_given parts at table = rw table refl

  pub no_state_given : (parts : List Bytes) (t : List LastReply) (fault : ℕ × ℕ) → table_of (client_count self.shape) (unwrap_or (slice_get parts table_part) []) ≡ Ok t → self.snapshots.restored (take service_parts parts) ≡ Err fault → state_from self parts ≡ Err fault
  unfolding restored
  no_state_given parts t fault table state = rw (table, state) refl

  -- A state is installed.
  pub service_installed : (new : Served S) (pos : ℕ) (parts : List Bytes) (d : History) → state_from self parts ≡ Ok new → new ≡ state_of self (Installed pos parts ∷ d)
  service_installed new pos parts d is = sym (state_installed self pos parts d ∙ ap (if_restored self (state_of self d)) is)

  -- ---- the host that is asked for state

  pub asked_left : (asked : ℕ) (e : Entry) (d : History) → is_nudge e ≡ false → asked ≡ asked_host self d → asked ≡ asked_host self (e ∷ d)
  asked_left asked e d s is = is ∙ sym (asked_stays self e d s)

  -- A Nudge goes on to the next host while this host is behind.
  pub asked_nudged : (asked : ℕ) (d : History) → asked ≡ asked_host self d → (if is_behind self d then next_host self asked else asked) ≡ asked_host self (Nudged ∷ d)
  asked_nudged asked d is = ap (λ h. if is_behind self d then next_host self h else h) is ∙ sym (asked_next self d)
