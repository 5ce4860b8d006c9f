-- What a host sends without stamping it has the values of the grammar: wishes, RESEND, LOG, FETCH, STATE and replies.
use Rattle.std.proofs.Common.{◌≡◌, ℕ, zero, suc, ◌+◌, ◌-◌, ◌≤◌, ◌<◌, Bool, true, false, List, [], ◌∷◌, length, ap, subst, ◌∙◌, inl, inr, arith, Option, Some, None}
use Rattle.std.specs.Prelude.{◌==◌, ◌%◌, map, drop, find, nat_le, is_none, unwrap_or, if◌then◌else◌}
use Rattle.std.specs.Option.{IfSome}
use Rattle.std.specs.List.{AllByRecursion, range_with_len}
use Rattle.std.proofs.lemmas.Bool.{cases_Bool}
use Rattle.std.proofs.lemmas.List.{length-map, length-append}
use Rattle.std.proofs.lemmas.List.FromFn.{length-range_with_len}
use Rattle.std.proofs.lemmas.Nat.{mod_below}
use Rattle.sha2.specs.Sha256.{sha256}
use Rattle.sha2.proofs.Facts256.{length-sha256}
use Rattle.mb_base.specs.Limits.{service_parts, part_count, part_bytes_limit, table_part}
use Rattle.mb_base.specs.Shapes.{Bytes, host_count, client_count}
use Rattle.mb_usig.specs.Tags.{reply_tag, reply_text}
use Rattle.mb_usig.proofs.Laws.{length-signed_reply, length-wish_tag}
use Rattle.mb_parts.specs.declared.certificates.Evidence.{Evidence}
use Rattle.mb_parts.specs.Fits.{IsCounter, IsPosition, IsDigest, IsBase, FitsStatePart, FitsEvidence, FitsFloorCert}
use Rattle.mb_msg.specs.declared.transfer.Resend.{Resend}
use Rattle.mb_msg.specs.Fits.{FitsFields, FitsReply}
use Rattle.mb_model.specs.declared.known.LastReply.{LastReply}
use Rattle.mb_model.specs.Service.{Served as ServedState}
use Rattle.mb_model.specs.States.{parts_of, part_digests, table_bytes}
use Rattle.mb_model.specs.Execution.{asked_host, next_host, part_held, parts_after, snapshot_of, state_of}
use Rattle.mb_model.specs.Held.{wish_of, evidence_of, evidence_in}
use Rattle.mb_model.specs.Histories.{Executed, Nudged, History, Identity, view_of}
use Rattle.mb_model.specs.Making.{fitting, first_fitting, wish_for, wish, resend, expected, log_for, fetch, state_message}
use Rattle.mb_model.specs.OwnLog.{log_start}
use Rattle.mb_model.specs.Positions.{is_behind}
use Rattle.mb_model.specs.Sending.{next_of}
use Rattle.mb_model.specs.Stable.{log_floor, low_of}
use Rattle.mb_model.proofs.Options.{if_some}
use Rattle.mb_host_laws.proofs.Cases.{some_is}
use Rattle.mb_host_laws.proofs.OwnViews.{wish_low}
use Rattle.mb_history_laws.specs.Sound.{IsSound}
use Rattle.mb_encodable.specs.Fitting.{FitsLast, AreFit}
use Rattle.mb_encodable.proofs.Fit.{fit_known}
use Rattle.mb_encodable.proofs.Found.{stable_fits, log_floor_fits, evidence_fits, low_place}
use Rattle.mb_encodable.proofs.Logs.{since_fits}
use Rattle.mb_encodable.proofs.ReadKnown.{AnyClaim, AnyText}

-- ---- parts of a state

digests_fit : (parts : List Bytes) → AllByRecursion IsDigest (part_digests parts)
digests_fit [] = tt
digests_fit (p ∷ ps) = (length-sha256 p, digests_fit ps)

module _ (P : Bytes → Type 0) where
  dropped : (n : ℕ) (l : List Bytes) → AllByRecursion P l → AllByRecursion P (drop n l)
  dropped zero l a = a
  dropped (suc n) [] a = tt
  dropped (suc n) (x ∷ l) a = dropped n l a.1

  fitting_all : (used : ℕ) (l : List Bytes) → AllByRecursion P l → AllByRecursion P (fitting used l)
  unfolding fitting
  fitting_all used [] a = tt
  fitting_all used (p ∷ ps) a = elim (cases_Bool (nat_le (used + length p) part_bytes_limit)) [
    | inl place ↦ rw place (a.0, fitting_all (used + length p) ps a.1)
    | inr none ↦ rw none tt
  ]

  pub first_all : (l : List Bytes) → AllByRecursion P l → AllByRecursion P (first_fitting l)
  first_all [] a = tt
  first_all (p ∷ ps) a = (a.0, fitting_all (length p) ps a.1)

fitting_few : (used : ℕ) (l : List Bytes) → length (fitting used l) ≤ length l
unfolding fitting
fitting_few used [] = omega arith
fitting_few used (p ∷ ps) = elim (cases_Bool (nat_le (used + length p) part_bytes_limit)) [
  | inl place ↦ rw place (let few = fitting_few (used + length p) ps in omega (arith, few))
  | inr none ↦ rw none (omega arith)
]

first_some : (l : List Bytes) → 1 ≤ length l → (1 ≤ length (first_fitting l)) × (length (first_fitting l) ≤ length l)
first_some [] some = absurd (omega (arith, some))
first_some (p ∷ ps) some = let few = fitting_few (length p) ps in (omega arith, omega (arith, few))

drop_many : {A : Type 0} (n : ℕ) (l : List A) → length (drop n l) ≡ length l - n
drop_many zero l = omega arith
drop_many (suc n) [] = omega arith
drop_many (suc n) (x ∷ l) = drop_many n l ∙ omega arith

-- ---- options

fits_where : {A : Type 0} (P : A → Type 0) (b : Bool) (o : Option A) → IfSome o P → IfSome (if b then o else None) P
fits_where P true o f = f
fits_where P false o f = tt

evidence_there : (P : Evidence → Type 0) (v : ℕ) (o : Option Evidence) → IfSome o P → IfSome (evidence_in v o) P
evidence_there P v None f = tt
evidence_there P v (Some e) f = fits_where P (e.view == v) (Some e) f

found_below : (t : ℕ → Bool) (from count : ℕ) → unwrap_or (find t (range_with_len from count)) 0 ≤ from + count - 1
found_below t from zero = omega arith
found_below t from (suc n) = elim (cases_Bool (t from)) [
  | inl here ↦ rw here (omega arith)
  | inr other ↦ rw other (let more = found_below t (from + 1) n in omega (arith, more))
]

module _ {S : Type 0} (self : Identity S) (there : self.host < host_count self.shape) where
  -- ---- replies and wishes

  pub reply_fits : (c : ℕ) (a : LastReply) → c < client_count self.shape → IsCounter a.seq → FitsLast a → FitsReply self.shape (record { host = self.host; client = c; seq = a.seq; pos = a.pos; result = a.result; tag = reply_tag self.secret self.host c a.seq a.pos a.result })
  reply_fits c a known seq f = record { host = there; client = known; seq = seq; pos = f.pos; result = f.result; tag = length-signed_reply self.secret self.host c (reply_text c a.seq a.pos a.result) }

  pub wish_for_fits : (view : ℕ) → IsPosition view → FitsFields self.shape (wish_for self view)
  wish_for_fits view p = record { host = there; view = p; tag = length-wish_tag self.secret self.host view }

  -- ---- the parts of a snapshot

  pub parts_many : (x : ServedState S) → length (parts_of self.snapshots x) ≡ part_count
  unfolding parts_of
  parts_many x = length-append (map (self.snapshots.part x.state) (range_with_len 0 service_parts)) (table_bytes x.table ∷ [])
      ∙ ap (λ (n : ℕ). n + 1) (length-map (range_with_len 0 service_parts) (self.snapshots.part x.state) ∙ length-range_with_len 0 service_parts)

  after_many : (d : History) (pos : ℕ) (parts : List Bytes) → parts_after self d pos ≡ Some parts → length parts ≡ part_count
  unfolding parts_after
  after_many [] pos parts e = absurd cc
  after_many (Executed slot ∷ d) pos parts e = elim (cases_Bool (slot.pos == pos)) [
    | inl here ↦ subst (λ (l : List Bytes). length l ≡ part_count) (some_is (parts_of self.snapshots (state_of self (Executed slot ∷ d))) parts (rw here at e)) (parts_many (state_of self (Executed slot ∷ d)))
    | inr other ↦ after_many d pos parts (rw other at e)
  ]
  after_many (x ∷ d) pos parts e = after_many d pos parts e

  pub snapshot_many : (d : History) (pos : ℕ) (parts : List Bytes) → snapshot_of self d pos ≡ Some parts → length parts ≡ part_count
  snapshot_many d pos parts e = after_many d pos parts (if_some _ (parts_after self d pos) parts e).1

  -- a STATE of parts that have room in one
  pub state_message_fits : (pos first : ℕ) (parts : List Bytes) → (1 ≤ pos) × IsBase self.shape pos → first ≤ table_part → length parts ≡ part_count → AllByRecursion FitsStatePart parts → FitsFields self.shape (state_message self pos first parts)
  state_message_fits pos first parts p le many a =
      let left : length (drop first parts) ≡ length parts - first = drop_many first parts in
      let some = first_some (drop first parts) (omega (arith, left, many, le)) in
      record {
        host = there;
        pos = p;
        digest_count = length-map parts sha256 ∙ many;
        digests = digests_fit parts;
        first = le;
        count = (some.0, omega (arith, some.1, left, many));
        parts = first_all FitsStatePart (drop first parts) (dropped FitsStatePart first parts a);
      }

  -- ---- the host that is asked for state

  mod_low : (n : ℕ) → n % host_count self.shape < host_count self.shape
  mod_low n = mod_below n (host_count self.shape) (omega arith)

  next_low : (h : ℕ) → next_host self h < host_count self.shape
  next_low h = elim (cases_Bool ((h + 1) % host_count self.shape == self.host)) [
    | inl own ↦ rw own (mod_low (h + 2))
    | inr other ↦ rw other (mod_low (h + 1))
  ]

  asked_there : (d : History) → asked_host self d < host_count self.shape
  unfolding asked_host
  asked_there [] = mod_low (self.host + 1)
  asked_there (Nudged ∷ d) = elim (cases_Bool (is_behind self d)) [
    | inl behind ↦ rw behind (next_low (asked_host self d))
    | inr not_so ↦ rw not_so (asked_there d)
  ]
  asked_there (x ∷ d) = asked_there d

  -- ---- in a history that is sound and fit

  module _ (d : History) (s : IsSound self d) (f : AreFit self d) where
    pub wish_fits : 1 ≤ wish_of self d self.host → FitsFields self.shape (wish self d)
    wish_fits some = wish_for_fits (wish_of self d self.host) (some, wish_low self AnyClaim AnyText d s.arises (fit_known self there d s.arises f) self.host)

    nexts_fit : (l : List ℕ) → AllByRecursion IsCounter (map (next_of d) l)
    nexts_fit [] = tt
    nexts_fit (h ∷ l) = ((omega arith, omega arith), nexts_fit l)

    pub resend_fits : FitsFields self.shape (resend self d)
    resend_fits = record {
      host = there;
      low = (low_place self there d s f).0;
      count = length-map (range_with_len 0 (host_count self.shape)) (next_of d) ∙ length-range_with_len 0 (host_count self.shape);
      nexts = nexts_fit (range_with_len 0 (host_count self.shape));
    }

    pub log_for_fits : (m : Resend) → FitsFields self.shape (log_for self d m)
    log_for_fits m = let since = since_fits self d f.values (expected self m) in record {
      host = there;
      floor = fits_where (FitsFloorCert self.shape) (nat_le (expected self m) (log_start self d)) (log_floor self d) (log_floor_fits self there d s f);
      stable = stable_fits self there d s f;
      evidence = evidence_there (FitsEvidence self.shape) (view_of self d) (evidence_of self d) (evidence_fits self there d s f);
      count = since.0;
      entries = since.1;
    }

    -- Above position 0 there is something to fetch.
    pub fetch_fits : 1 ≤ low_of self d → FitsFields self.shape (fetch self d)
    fetch_fits some = let first = found_below (λ i. is_none (part_held self d i)) 0 part_count in record {
      host = there;
      asked = asked_there d;
      pos = (some, low_place self there d s f);
      first = omega (arith, first);
    }
