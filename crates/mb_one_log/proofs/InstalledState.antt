-- An installed state is one that a correct host had behind an execution at its position.
--
-- Of the f+1 members of the stable certificate one is correct, and stamped its CHECKPOINT right behind an execution. Its state has the digest of the
-- certificate, as the installed parts have, and all these strings are hashed: so the parts are those of that state.
use Rattle.std.proofs.Common.{◌≡◌, ℕ, zero, suc, ◌+◌, ◌<◌, true, ◌&&◌, List, [], ◌∷◌, ◌++◌, length, refl, sym, ap, subst, ◌∙◌, inl, inr, arith}
use Rattle.std.specs.Prelude.{◌==◌, nat_lt, map}
use Rattle.std.specs.List.{AllByRecursion, list_all, range_with_len}
use Rattle.std.proofs.lemmas.Bool.{and_parts, or_cases, eqb-true}
use Rattle.std.proofs.lemmas.List.{length-map, length-append}
use Rattle.sha2.specs.Sha256.{sha256}
use Rattle.mb_base.specs.Limits.{part_count, service_parts}
use Rattle.mb_base.specs.Shapes.{Bytes, quorum, host_count}
use Rattle.mb_parts.specs.declared.certificates.StableMember.{StableMember}
use Rattle.mb_parts.specs.declared.certificates.StableCert.{StableCert}
use Rattle.mb_parts.specs.Bares as bare
use Rattle.mb_parts.specs.Claims.{Claim, stable_claims, are_rising}
use Rattle.mb_parts.specs.Certificates.{is_stable}
use Rattle.mb_parts.proofs.CertificateLaws.{certificate_laws}
use Rattle.mb_msg.specs.declared.event.Slot.{Slot}
use Rattle.mb_msg.specs.declared.message.Body.TheVariants.{Whole}
use Rattle.mb_msg.specs.declared.normal.Checkpoint.{Checkpoint}
use Rattle.mb_msg.specs.declared.stamped.Stamped.{Stamped as StampedMessage}
use Rattle.mb_msg.specs.declared.stamped.Stamped.TheVariants as stamped
use Rattle.mb_msg.specs.Stamps.{bare_of}
use Rattle.mb_model.specs.Verified.{verifies}
use Rattle.mb_model.specs.Histories.{Stamped, Executed, Installed, History, Identity}
use Rattle.mb_model.specs.Stable.{stable_of, low_of}
use Rattle.mb_model.specs.States.{digest_string, part_digests, state_digest, parts_of, table_bytes}
use Rattle.mb_model.specs.Execution.{state_of}
use Rattle.mb_model.specs.Sending.{next_ui}
use Rattle.mb_model.specs.Making.{floors_under, checkpoint, present_parts}
use Rattle.mb_model.specs.Members.{In}
use Rattle.mb_model.proofs.Members.{contained, in_map}
use Rattle.mb_steps.specs.Arises.{JustExecuted, Makes}
use Rattle.mb_steps.proofs.StepHeldStable.{stable_checks}
use Rattle.mb_schedule.specs.Limits.{is_faulty}
use Rattle.mb_world_model.specs.WorldEvents.{IsCorrect}
use Rattle.mb_world_model.specs.World.{World, System, self_of}
use Rattle.mb_world_model.specs.WorldRecord.{issued}
use Rattle.mb_host_laws.proofs.Cases.{all_holds}
use Rattle.mb_views.proofs.EvidenceHost.{issued_host}
use Rattle.mb_host_laws.specs.Rests.{Each}
use Rattle.mb_world_laws.proofs.Facts.{Facts}
use Rattle.mb_views.proofs.Follows.{JumpsLed}
use Rattle.mb_views.proofs.CorrectOne.{correct_one, IsStamped, issued_stamped}
use Rattle.mb_host_laws.proofs.Moments.{IsPast, past_tail, each_at}
use Rattle.mb_views.proofs.Floors.{arises_then}
use Rattle.mb_views.proofs.Certified.{IsCheckpoint, checkpoint_said}
use Rattle.mb_one_log.proofs.StableIssued.{stable_issued}
use Rattle.mb_one_log.proofs.StateDigests.{digests_apart, digests_of, strings_apart, IsCertified, certified}

all_parts : {A : Type 0} (P : A → Type 0) (a : List A) (x : A) → AllByRecursion P (a ++ x ∷ []) → AllByRecursion P a × P x
all_parts P [] x h = (tt, h.0)
all_parts P (y ∷ a) x h = let r = all_parts P a x h.1 in ((h.0, r.0), r.1)

pub range_length : (a n : ℕ) → length (range_with_len a n) ≡ n
range_length a zero = refl
range_length a (suc n) = ap (λ (k : ℕ). suc k) (range_length (a + 1) n)

module _ {S : Type 0} (system : System S) (w : World) (f : Facts system w) (jumps : (h : ℕ) → IsCorrect system.schedule h → Each (JumpsLed system w f) (w.histories h)) where
  member_hosts : (c : StableCert) (l : List StableMember) → list_all (issued system.schedule w) (map (λ (m : StableMember). record { host = m.host; counter = m.counter; says = bare.Checkpoint c.pos c.state m.floors; cert = m.cert }) l) ≡ true
      → AllByRecursion (λ (m : StableMember). m.host < host_count system.schedule.shape) l
  member_hosts c [] e = tt
  member_hosts c (m ∷ l) e = let a = and_parts _ _ e in (issued_host system w f (record { host = m.host; counter = m.counter; says = bare.Checkpoint c.pos c.state m.floors; cert = m.cert }) a.0, member_hosts c l a.1)

  -- A correct host stamped a CHECKPOINT of its state right behind an execution.
  pub record IsOnceAt (pos : ℕ) (state : Bytes) : Type 0 where
    pub host : ℕ
    pub correct : IsCorrect system.schedule host
    pub slot : Slot
    pub before : History
    pub past : IsPast (Executed slot ∷ before) (w.histories host)
    pub place : slot.pos ≡ pos
    pub digest : state_digest (present_parts (self_of system host) (Executed slot ∷ before)) pos ≡ state
    pub strings : AllByRecursion (In w.hashed) (present_parts (self_of system host) (Executed slot ∷ before))
    pub string : In w.hashed (digest_string (part_digests (present_parts (self_of system host) (Executed slot ∷ before))) pos)

  pub checkpoint_once : (h n pos : ℕ) (state digest : Bytes) → IsCorrect system.schedule h → IsStamped (w.histories h) n (bare.Checkpoint pos state digest) → IsOnceAt pos state
  checkpoint_once h n pos state digest correct x = go (checkpoint_said x.message pos state digest x.says) where
    self : Identity S
    self = self_of system h

    executed : (d : History) (p : ℕ) → IsPast d (w.histories h) → JustExecuted self d p → state_digest (present_parts self d) p ≡ state → p ≡ pos
        → AllByRecursion (In w.hashed) (present_parts self d) → In w.hashed (digest_string (part_digests (present_parts self d)) p) → IsOnceAt pos state
    executed (Executed slot ∷ d) p past just digest same strings string = record {
      host = h;
      correct = correct;
      slot = slot;
      before = d;
      past = past;
      place = just ∙ same;
      digest = subst (λ (q : ℕ). state_digest (present_parts self (Executed slot ∷ d)) q ≡ state) same digest;
      strings = strings;
      string = subst (λ (q : ℕ). In w.hashed (digest_string (part_digests (present_parts self (Executed slot ∷ d))) q)) same string;
    }
    executed d p past just digest same strings string = absurd just

    go : IsCheckpoint x.message pos state digest → IsOnceAt pos state
    go c =
        let d : History = x.before in
        let m : Checkpoint = c.message in
        let past : IsPast (Stamped (stamped.Checkpoint m) ∷ d) (w.histories h) = record { later = x.later; is = subst (λ (y : StampedMessage). x.later ++ Stamped y ∷ d ≡ w.histories h) c.is x.is } in
        let makes : Makes self d (stamped.Checkpoint m) = (arises_then system w f h correct (jumps h correct) (Stamped (stamped.Checkpoint m) ∷ d) past).0 in
        let made : Checkpoint = record { pos = makes.0; state = state_digest (present_parts self d) makes.0; body = Whole (record { floors = floors_under self d makes.0 }); ui = next_ui self d (bare_of (checkpoint self d makes.0)) } in
        let same : made ≡ m = cc makes.3 in
        let place : makes.0 ≡ m.pos = ap (λ (y : Checkpoint). y.pos) same in
        let noted = (each_at _ (Stamped (stamped.Checkpoint m) ∷ d) (w.histories h) past (f.standing.rests h)).0.1 in
        let parts = all_parts (In w.hashed) (present_parts self d) (digest_string (part_digests (present_parts self d)) m.pos) noted in
        executed d makes.0 (past_tail (Stamped (stamped.Checkpoint m)) d (w.histories h) past) makes.1 (ap (λ (y : Checkpoint). y.state) same ∙ c.has) (place ∙ c.place) parts.0
        (subst (λ (q : ℕ). In w.hashed (digest_string (part_digests (present_parts self d)) q)) (sym place) parts.1)

  -- The stable certificate of a correct host has a correct member.
  pub stable_once : (h : ℕ) (d : History) → IsCorrect system.schedule h → IsPast d (w.histories h) → 0 < low_of (self_of system h) d → IsOnceAt (low_of (self_of system h) d) (stable_of (self_of system h) d).state
  unfolding is_stable
  stable_once h d correct past above =
      let self : Identity S = self_of system h in
      let c : StableCert = stable_of self d in
      let verified = stable_checks self d (arises_then system w f h correct (jumps h correct) d past) in
      let was : is_stable system.schedule.shape (issued system.schedule w) c ≡ true =
      (certificate_laws.carries system.schedule.shape (verifies system.schedule.secret) (issued system.schedule w)).stable c (stable_issued system w f h d correct past) verified in
      elim (or_cases (c.pos == 0 && length c.members == 0) _ was) [
        | inl zeroth ↦ let z : c.pos ≡ 0 = eqb-true c.pos 0 (and_parts (c.pos == 0) (length c.members == 0) zeroth).0 in absurd (omega (arith, above, z))
        | inr higher ↦
            let a = and_parts (nat_lt 0 c.pos) _ higher in
            let b = and_parts (length c.members == quorum system.schedule.shape) _ a.1 in
            let k = and_parts (are_rising (map (λ m. m.host) c.members)) (list_all (issued system.schedule w) (stable_claims c)) b.1 in
            let one = correct_one (λ (m : StableMember). m.host) system.schedule.shape (is_faulty system.schedule) c.members f.few (eqb-true _ _ b.0) k.0 (member_hosts c c.members k.1) in
            let m : StableMember = one.0 in
            let claim : Claim = record { host = m.host; counter = m.counter; says = bare.Checkpoint c.pos c.state m.floors; cert = m.cert } in
            let was_issued : issued system.schedule w claim ≡ true = all_holds (issued system.schedule w) (stable_claims c) k.1 claim (in_map _ c.members m one.1) in
            checkpoint_once m.host m.counter c.pos c.state m.floors (one.2, one.3) (issued_stamped system w f claim (one.2, one.3) was_issued)
      ]

  -- An installed state is that of a correct host behind an execution at its position.
  pub record IsStateOf (pos : ℕ) (parts : List Bytes) : Type 0 where
    pub host : ℕ
    pub correct : IsCorrect system.schedule host
    pub slot : Slot
    pub before : History
    pub past : IsPast (Executed slot ∷ before) (w.histories host)
    pub place : slot.pos ≡ pos
    pub parts_are : parts ≡ parts_of system.snapshots (state_of (self_of system host) (Executed slot ∷ before))

  present_length : (h : ℕ) (d : History) → length (part_digests (present_parts (self_of system h) d)) ≡ part_count
  unfolding parts_of
  present_length h d =
      let x = state_of (self_of system h) d in
      length-map (parts_of system.snapshots x) sha256 ∙ length-append (map (system.snapshots.part x.state) (range_with_len 0 service_parts)) (table_bytes x.table ∷ []) ∙ ap (λ (n : ℕ). n + 1) (length-map (range_with_len 0 service_parts) (system.snapshots.part x.state) ∙ range_length 0 service_parts)

  pub installed_state : (h pos : ℕ) (parts : List Bytes) (d : History) → IsCorrect system.schedule h → IsPast (Installed pos parts ∷ d) (w.histories h) → IsStateOf pos parts
  installed_state h pos parts d correct past =
      let self : Identity S = self_of system h in
      let before : IsPast d (w.histories h) = past_tail (Installed pos parts) d (w.histories h) past in
      let c : IsCertified system w f h d pos parts = certified system w f h pos parts d past in
      let above = c.above in
      let place : pos ≡ low_of self d = c.place in
      let once : IsOnceAt pos (stable_of self d).state = subst (λ (p : ℕ). IsOnceAt p (stable_of self d).state) (sym place) (stable_once h d correct before (omega (arith, above, place))) in
      let there : List Bytes = present_parts (self_of system once.host) (Executed once.slot ∷ once.before) in
      let one : digest_string (part_digests parts) pos ≡ digest_string (part_digests there) pos =
      f.apart _ _ (contained w.hashed _ c.string) (contained w.hashed _ once.string) (c.state ∙ sym once.digest) in
      let digests : part_digests parts ≡ part_digests there = digests_apart part_count pos (part_digests parts) (part_digests there) c.short (c.many, digests_of parts) (present_length once.host (Executed once.slot ∷ once.before), digests_of there) one in
      record {
        host = once.host;
        correct = once.correct;
        slot = once.slot;
        before = once.before;
        past = once.past;
        place = once.place;
        parts_are = strings_apart w.hashed parts there f.apart c.hashed once.strings digests;
      }
