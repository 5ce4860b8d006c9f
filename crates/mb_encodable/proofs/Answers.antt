-- The moments at which a host answers or asks: what it sends then can be encoded, since a request was served, patience was lost, or the host is behind.
use Rattle.std.proofs.Common.{◌≡◌, ℕ, zero, suc, ◌≤◌, ◌<◌, true, ◌+◌, ◌++◌, List, [], ◌∷◌, length, refl, subst, arith, Some}
use Rattle.std.proofs.lemmas.List.{length-append}
use Rattle.std.specs.Int.{w64}
use Rattle.std.specs.List.{AllByRecursion, range_with_len}
use Rattle.std.specs.Prelude.{map, ◌==◌, nat_lt, slice_get, slice_set}
use Rattle.std.proofs.lemmas.Bool.{eq-eqb, eqb-true, ltb-true}
use Rattle.mb_base.specs.Limits.{service_parts, part_limit}
use Rattle.mb_base.specs.Shapes.{Bytes}
use Rattle.mb_base.specs.Spelling.{number, text16}
use Rattle.mb_base.specs.Shapes.{IsShape, host_count}
use Rattle.mb_parts.specs.declared.request.Request.{Request}
use Rattle.mb_parts.specs.Fits.{IsCounter, IsPlace, FitsText, FitsRequest}
use Rattle.mb_msg.specs.Fits.{Fits}
use Rattle.mb_model.specs.States.{table_bytes, parts_of}
use Rattle.mb_steps.proofs.StepPlanBases.{all_append}
use Rattle.mb_model.specs.declared.known.LastReply.{LastReply}
use Rattle.mb_model.specs.Service.{Served as ServedState, reply_of, is_fresh, served}
use Rattle.mb_model.specs.Given.{stored_reply}
use Rattle.mb_model.specs.Execution.{state_of}
use Rattle.mb_model.specs.Held.{wish_of}
use Rattle.mb_model.specs.Histories.{LostPatience, History, Identity, view_of}
use Rattle.mb_model.specs.Making.{reply, wish, fetch}
use Rattle.mb_model.specs.PlainChecks.{last_seq}
use Rattle.mb_model.specs.Positions.{is_behind, exec_of}
use Rattle.mb_model.specs.Stable.{low_of}
use Rattle.mb_history_laws.specs.Sound.{IsSound}
use Rattle.mb_encodable.proofs.Sizes.{length16, length64, flat_short}
use Rattle.mb_encodable.specs.Fitting.{FitsLast, FitsTable, AreFit}
use Rattle.mb_encodable.proofs.Letters.{reply_sent, wish_sent, fetch_sent}
use Rattle.mb_encodable.proofs.States.{last_fits}

there_set : (t : List LastReply) (i : ℕ) (a : LastReply) → i < length t → slice_get (slice_set t i a) i ≡ Some a
there_set [] i a lt = absurd (omega (arith, lt))
there_set (b ∷ t) zero a lt = refl
there_set (b ∷ t) (suc i) a lt = there_set t i a (omega (arith, lt))

module _ {S : Type 0} (self : Identity S) (shape : IsShape self.shape) (there : self.host < host_count self.shape) where
  -- ---- replies

  -- The reply to a request that was just served.
  pub served_reply : (x : ServedState S) (pos : ℕ) (r : Request) → is_fresh x r ≡ true → FitsTable self.shape x.table → IsPlace pos → FitsText (self.machine.result x.state r.op) → FitsRequest self.shape r
      → Fits self.shape (reply self r.client (reply_of (served self.machine x pos r) r.client))
  unfolding served
  served_reply x pos r fresh t place short f =
      let made : LastReply = record { seq = r.seq; pos = pos; result = self.machine.result x.state r.op } in
      let sent : Fits self.shape (reply self r.client made) = reply_sent self shape there r.client made f.client f.seq (record { pos = place; result = short }) in
      rw (fresh, there_set x.table r.client made (omega (arith, f.client, t.count))) sent

  -- The stored reply to the last executed request of a client.
  pub stored_reply_sent : (d : History) (r : Request) → (r.seq == last_seq self d r.client) ≡ true → FitsTable self.shape (state_of self d).table → FitsRequest self.shape r → Fits self.shape (stored_reply self d r.client)
  stored_reply_sent d r again t f =
      reply_sent self shape there r.client (reply_of (state_of self d) r.client) f.client (subst IsCounter (eqb-true r.seq (last_seq self d r.client) again) f.seq) (last_fits (state_of self d).table t.each r.client)

  -- ---- the parts of a state

  last_short : (a : LastReply) → FitsLast a → length (number w64 a.seq ++ (number w64 a.pos ++ text16 a.result)) ≤ 1042
  last_short a f = simp (length-append, length16, length64) (omega (arith, f.result))

  lasts_short : (l : List LastReply) → AllByRecursion FitsLast l → AllByRecursion (λ (a : LastReply). length (number w64 a.seq ++ (number w64 a.pos ++ text16 a.result)) ≤ 1042) l
  lasts_short [] a = tt
  lasts_short (x ∷ l) a = (last_short x a.0, lasts_short l a.1)

  -- A client table has room in a part.
  pub table_short : (t : List LastReply) → FitsTable self.shape t → length (table_bytes t) ≤ part_limit
  unfolding table_bytes
  table_short t f =
      let each = flat_short (λ (a : LastReply). number w64 a.seq ++ (number w64 a.pos ++ text16 a.result)) 1042 t (lasts_short t f.each) in
      omega (arith, each, f.count, shape.clients.1)

  ranged : (x : S) → ((i : ℕ) → i < service_parts → length (self.snapshots.part x i) ≤ part_limit) → (from n : ℕ) → from + n ≤ service_parts → AllByRecursion (λ (p : Bytes). length p ≤ part_limit) (map (self.snapshots.part x) (range_with_len from n))
  ranged x short from zero le = tt
  ranged x short from (suc n) le = (short from (omega (arith, le)), ranged x short (from + 1) n (omega (arith, le)))

  -- So the parts of a state can be sent, where those of the service are no longer.
  pub parts_short : (x : ServedState S) → ((i : ℕ) → i < service_parts → length (self.snapshots.part x.state i) ≤ part_limit) → FitsTable self.shape x.table → AllByRecursion (λ (p : Bytes). length p ≤ part_limit) (parts_of self.snapshots x)
  unfolding parts_of
  parts_short x short t = all_append (λ (p : Bytes). length p ≤ part_limit) (map (self.snapshots.part x.state) (range_with_len 0 service_parts)) (table_bytes x.table ∷ []) (ranged x.state short 0 service_parts (omega arith)) (table_short x.table t, tt)

  -- ---- wishes

  patience_wishes : (d : History) → 1 ≤ wish_of self (LostPatience ∷ d) self.host
  unfolding wish_of
  patience_wishes d = rw (eq-eqb self.host self.host refl) (omega arith)

  -- where patience was just lost
  pub patience_sent : (d : History) → IsSound self (LostPatience ∷ d) → AreFit self (LostPatience ∷ d) → Fits self.shape (wish self (LostPatience ∷ d))
  patience_sent d s f = wish_sent self shape there (LostPatience ∷ d) s f (patience_wishes d)

  -- where the wish isn't fulfilled
  pub wish_again_sent : (d : History) → nat_lt (view_of self d) (wish_of self d self.host) ≡ true → IsSound self d → AreFit self d → Fits self.shape (wish self d)
  wish_again_sent d more s f = let lt = ltb-true (view_of self d) (wish_of self d self.host) more in wish_sent self shape there d s f (omega (arith, lt))

  -- ---- a host that is behind

  pub behind_sent : (d : History) → is_behind self d ≡ true → IsSound self d → AreFit self d → Fits self.shape (fetch self d)
  behind_sent d behind s f = let lt = ltb-true (exec_of d) (low_of self d) behind in fetch_sent self shape there d s f (omega (arith, lt))
