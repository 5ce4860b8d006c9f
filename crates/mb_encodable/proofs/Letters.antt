-- Each message that a host sends can be encoded: it has the values of the grammar, and no more bytes than a message may have.
use Rattle.std.proofs.Common.{◌≡◌, ℕ, zero, suc, ◌+◌, ◌-◌, ◌*◌, ◌^◌, ◌≤◌, ◌<◌, List, [], ◌∷◌, length, take, reverse, ap, ◌∙◌, inl, inr, arith, Option, Some, None}
use Rattle.std.specs.Prelude.{drop, nat_le}
use Rattle.std.specs.Option.{IfSome}
use Rattle.std.specs.Int.{w8, w32, w64}
use Rattle.std.specs.List.{AllByRecursion, flat_map}
use Rattle.std.proofs.lemmas.Bool.{cases_Bool, leb-true}
use Rattle.std.proofs.lemmas.List.{length-append}
use Rattle.std.proofs.lemmas.List.Concat.{flat_map-cons}
use Rattle.mb_base.specs.Limits.{part_count, part_bytes_limit, entry_bytes_limit, entry_limit, table_part, part_limit}
use Rattle.mb_base.specs.Shapes.{Bytes, IsShape, host_count, client_count}
use Rattle.mb_base.specs.Spelling.{number, text, optional}
use Rattle.mb_base.specs.declared.shape.Shape.{Shape}
use Rattle.mb_base.proofs.Laws.{number_length, wide32}
use Rattle.mb_parts.specs.declared.certificates.Evidence.{Evidence}
use Rattle.mb_parts.specs.Fits.{IsCounter, IsDigest, IsBase, FitsStatePart, FitsEvidence}
use Rattle.mb_parts.specs.Spelling.{evidence_bytes}
use Rattle.mb_msg.specs.declared.message.Message.TheVariants as message
use Rattle.mb_msg.specs.declared.change.ReqViewChange.{ReqViewChange}
use Rattle.mb_msg.specs.declared.transfer.Resend.{Resend}
use Rattle.mb_msg.specs.declared.transfer.Log.{Log}
use Rattle.mb_msg.specs.declared.transfer.Fetch.{Fetch}
use Rattle.mb_msg.specs.declared.transfer.StateMsg.{StateMsg}
use Rattle.mb_msg.specs.declared.stamped.Stamped.{Stamped as StampedMessage}
use Rattle.mb_msg.specs.Fits.{FitsWish, FitsResend, FitsLog, FitsFetch, FitsState, FitsStamped, Fits}
use Rattle.mb_msg.specs.Spelling.{wish_bytes, resend_bytes, log_bytes, fetch_bytes, state_bytes, stamped_bytes, spelling}
use Rattle.mb_msg.specs.Stamps.{as_message}
use Rattle.mb_msg.proofs.AsStamped.{spelled_as_stamped}
use Rattle.mb_msg.proofs.Messages.{as_message_fits}
use Rattle.mb_msg.proofs.Sizes.{small_reply}
use Rattle.mb_model.specs.declared.known.LastReply.{LastReply}
use Rattle.mb_model.specs.Held.{wish_of}
use Rattle.mb_model.specs.Histories.{Stamped, History, Identity, stamped as all_stamped}
use Rattle.mb_model.specs.Making.{fitting, first_fitting, reply, wish, resend, expected, log_for, fetch, state_message}
use Rattle.mb_model.specs.OwnLog.{kept_forms, packed, first_packed, log_kept, log_start, count_from, since}
use Rattle.mb_model.specs.Stable.{low_of}
use Rattle.mb_host_laws.proofs.Cases.{all_more, all_reverse, all_taken}
use Rattle.mb_host_laws.specs.Rests.{Each}
use Rattle.mb_history_laws.specs.Sound.{IsSound}
use Rattle.mb_encodable.specs.Fitting.{FitsLast, HasValues, AreFit}
use Rattle.mb_encodable.proofs.Fit.{fit_known}
use Rattle.mb_encodable.proofs.Logs.{log_kept_fits}
use Rattle.mb_encodable.proofs.Messages.{reply_fits, wish_fits, resend_fits, log_for_fits, fetch_fits, state_message_fits}
use Rattle.mb_encodable.proofs.ShownSizes.{optional_cert}
use Rattle.mb_encodable.proofs.Sizes.{length8, length16, length64, flat_short, stable_short, evidence_short}
use Rattle.mb_encodable.proofs.StampSizes.{HasShortBodies, StampsShort, mapped_short, all_both, stamps_short, stamped_limit, stamped_short}

length32 : (n : ℕ) → length (number w32 n) ≡ 4
length32 n = number_length w32 (2 ^ 32) n wide32

joined : {A : Type 0} (f : A → Bytes) (x : A) (l : List A) → length (flat_map f (x ∷ l)) ≡ length (f x) + length (flat_map f l)
joined f x l = ap length (flat_map-cons f x l) ∙ length-append (f x) (flat_map f l)

-- ---- as many stamped messages as go into a LOG

packed_short : (most used : ℕ) (l : List StampedMessage) → used ≤ stamped_limit → used + length (flat_map stamped_bytes (packed most used l)) ≤ stamped_limit
unfolding packed
packed_short zero used l le = omega (arith, le)
packed_short (suc most) used [] le = omega (arith, le)
packed_short (suc most) used (m ∷ l) le = elim (cases_Bool (nat_le (used + length (stamped_bytes m)) entry_bytes_limit)) [
  | inl place ↦
      let low = leb-true (used + length (stamped_bytes m)) entry_bytes_limit place in
      let rest = packed_short most (used + length (stamped_bytes m)) l (omega (arith, low)) in
      rw place (omega (arith, rest, joined stamped_bytes m (packed most (used + length (stamped_bytes m)) l)))
  | inr none ↦ rw none (omega (arith, le))
]

first_short : (l : List StampedMessage) → AllByRecursion (λ (m : StampedMessage). length (stamped_bytes m) ≤ stamped_limit) l → length (flat_map stamped_bytes (first_packed l)) ≤ stamped_limit
first_short [] a = omega arith
first_short (m ∷ l) a = let rest = packed_short (entry_limit - 1) (length (stamped_bytes m)) l a.0 in omega (arith, rest, joined stamped_bytes m (packed (entry_limit - 1) (length (stamped_bytes m)) l))

-- ---- as many parts as go into a STATE

sums : (l : List Bytes) → ℕ
sums [] = 0
sums (p ∷ l) = length p + sums l

texts_long : (l : List Bytes) → length (flat_map (text w32) l) ≡ 4 * length l + sums l
unfolding sums
texts_long [] = omega arith
texts_long (p ∷ l) = omega (arith, joined (text w32) p l, length-append (number w32 (length p)) p, length32 (length p), texts_long l)

fitting_short : (used : ℕ) (l : List Bytes) → used ≤ part_limit → used + sums (fitting used l) ≤ part_limit
unfolding fitting sums
fitting_short used [] le = omega (arith, le)
fitting_short used (p ∷ ps) le = elim (cases_Bool (nat_le (used + length p) part_bytes_limit)) [
  | inl place ↦ rw place (let low = leb-true (used + length p) part_bytes_limit place in let rest = fitting_short (used + length p) ps (omega (arith, low)) in omega (arith, rest))
  | inr none ↦ rw none (omega (arith, le))
]

first_parts_short : (l : List Bytes) → AllByRecursion (λ (p : Bytes). length p ≤ part_limit) l → sums (first_fitting l) ≤ part_limit
unfolding sums
first_parts_short [] a = omega arith
first_parts_short (p ∷ ps) a = let rest = fitting_short (length p) ps a.0 in omega (arith, rest)

module _ (s : Shape) (shape : IsShape s) where
  -- ---- bytes of each kind

  optional_evidence : (o : Option Evidence) → IfSome o (FitsEvidence s) → length (optional evidence_bytes o) ≤ 252
  optional_evidence None f = omega (arith, length8 0)
  optional_evidence (Some e) f = omega (arith, length-append (number w8 1) (evidence_bytes e), length8 1, evidence_short s shape e f)

  pub log_message : (m : Log) → FitsLog s m → length (flat_map stamped_bytes m.entries) ≤ stamped_limit → Fits s (message.Log m)
  unfolding log_bytes spelling
  log_message m f le =
      let floor = optional_cert s shape m.floor f.floor in
      let stable = stable_short s shape m.stable f.stable in
      let shown = optional_evidence m.evidence f.evidence in
      record { fields = f; size = simp (length-append, length8, length16) (omega (arith, floor, stable, shown, le)) }

  pub wish_message : (m : ReqViewChange) → FitsWish s m → Fits s (message.ReqViewChange m)
  unfolding wish_bytes spelling
  wish_message m f = record { fields = f; size = simp (length-append, length8, length64, f.tag) (omega arith) }

  numbers_short : (l : List ℕ) → AllByRecursion (λ (n : ℕ). length (number w64 n) ≤ 8) l
  numbers_short [] = tt
  numbers_short (n ∷ l) = (omega (arith, length64 n), numbers_short l)

  pub resend_message : (m : Resend) → FitsResend s m → Fits s (message.Resend m)
  unfolding resend_bytes spelling
  resend_message m f =
      let nexts = flat_short (number w64) 8 m.nexts (numbers_short m.nexts) in
      record { fields = f; size = simp (length-append, length8, length64) (omega (arith, nexts, f.count, shape.faults.1)) }

  pub fetch_message : (m : Fetch) → FitsFetch s m → Fits s (message.Fetch m)
  unfolding fetch_bytes spelling
  fetch_message m f = record { fields = f; size = simp (length-append, length8, length64) (omega arith) }

  digests_short : (l : List Bytes) → AllByRecursion IsDigest l → AllByRecursion (λ (d : Bytes). length d ≤ 32) l
  digests_short [] a = tt
  digests_short (d ∷ l) a = (omega (arith, a.0), digests_short l a.1)

  state_parts : (m : StateMsg) → FitsState s m → sums m.parts ≤ part_limit → Fits s (message.State m)
  unfolding state_bytes spelling
  state_parts m f le =
      let digests = flat_short (λ (d : Bytes). d) 32 m.digests (digests_short m.digests f.digests) in
      record { fields = f; size = simp (length-append, length8, length64, texts_long m.parts) (omega (arith, digests, f.digest_count, f.count.1, le)) }

  -- a stamped message by itself
  pub stamped_message : (m : StampedMessage) → FitsStamped s m → HasShortBodies m → Fits s (as_message m)
  stamped_message m f h = record { fields = as_message_fits s m f; size = let le = stamped_short s shape m f h in omega (arith, ap length (spelled_as_stamped m), le) }

-- ---- what a host sends

module _ {S : Type 0} (self : Identity S) (shape : IsShape self.shape) (there : self.host < host_count self.shape) where
  pub reply_sent : (c : ℕ) (a : LastReply) → c < client_count self.shape → IsCounter a.seq → FitsLast a → Fits self.shape (reply self c a)
  reply_sent c a known seq f = small_reply self.shape _ (reply_fits self there c a known seq f)

  dropped : (n : ℕ) (l : List Bytes) → AllByRecursion (λ (p : Bytes). length p ≤ part_limit) l → AllByRecursion (λ (p : Bytes). length p ≤ part_limit) (drop n l)
  dropped zero l a = a
  dropped (suc n) [] a = tt
  dropped (suc n) (x ∷ l) a = dropped n l a.1

  pub state_sent : (pos first : ℕ) (parts : List Bytes) → (1 ≤ pos) × IsBase self.shape pos → first ≤ table_part → length parts ≡ part_count → AllByRecursion (λ (p : Bytes). length p ≤ part_limit) parts → Fits self.shape (state_message self pos first parts)
  state_sent pos first parts p le many a =
      state_parts self.shape shape _ (state_message_fits self there pos first parts p le many (all_more (λ (p : Bytes). length p ≤ part_limit) FitsStatePart (λ x le. omega (arith, le)) parts a)) (first_parts_short (drop first parts) (dropped first parts a))

  module _ (d : History) (s : IsSound self d) (f : AreFit self d) where
    short : Each StampsShort d
    short = stamps_short self shape d s.arises (fit_known self there d s.arises f) f.values f.room

    sent_each : (e : History) → Each (HasValues self) e → Each StampsShort e → AllByRecursion (λ (m : StampedMessage). Fits self.shape (as_message m)) (all_stamped e)
    unfolding all_stamped
    sent_each [] v b = tt
    sent_each (Stamped m ∷ e) v b = (stamped_message self.shape shape m v.0 b.0, sent_each e v.1 b.1)
    sent_each (x ∷ e) v b = sent_each e v.1 b.1

    -- each stamp, as it was stamped
    pub stamps_sent : AllByRecursion (λ (m : StampedMessage). Fits self.shape (as_message m)) (all_stamped d)
    stamps_sent = sent_each d f.values short

    forms_short : (e : History) → Each StampsShort e → AllByRecursion HasShortBodies (kept_forms (all_stamped e))
    unfolding all_stamped kept_forms
    forms_short [] a = tt
    forms_short (Stamped m ∷ e) a = (a.0, mapped_short m (kept_forms (all_stamped e)) (forms_short e a.1))
    forms_short (x ∷ e) a = forms_short e a.1

    abbrev IsLettered : StampedMessage → Type 0
    IsLettered m = length (stamped_bytes m) ≤ stamped_limit

    kept_short : AllByRecursion IsLettered (log_kept self d)
    kept_short =
        let bodies : AllByRecursion HasShortBodies (log_kept self d) = all_taken HasShortBodies (length (all_stamped d) - log_start self d) (kept_forms (all_stamped d)) (forms_short d short) in
        all_more (λ (m : StampedMessage). FitsStamped self.shape m × HasShortBodies m) IsLettered (λ m x. stamped_short self.shape shape m x.0 x.1) (log_kept self d)
        (all_both (FitsStamped self.shape) HasShortBodies (log_kept self d) (log_kept_fits self d f.values) bodies)

    since_short : (from : ℕ) → length (flat_map stamped_bytes (since self d from)) ≤ stamped_limit
    since_short from =
        let l : List StampedMessage = take (count_from self d from) (log_kept self d) in
        first_short (reverse l) (all_reverse IsLettered l (all_taken IsLettered (count_from self d from) (log_kept self d) kept_short))

    pub log_sent : (m : Resend) → Fits self.shape (log_for self d m)
    log_sent m = log_message self.shape shape _ (log_for_fits self there d s f m) (since_short (expected self m))

    pub wish_sent : 1 ≤ wish_of self d self.host → Fits self.shape (wish self d)
    wish_sent some = wish_message self.shape shape _ (wish_fits self there d s f some)

    pub resend_sent : Fits self.shape (resend self d)
    resend_sent = resend_message self.shape shape _ (resend_fits self there d s f)

    pub fetch_sent : 1 ≤ low_of self d → Fits self.shape (fetch self d)
    fetch_sent some = fetch_message self.shape shape _ (fetch_fits self there d s f some)
