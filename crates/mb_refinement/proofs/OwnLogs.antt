-- The own log stays true: a stamp is appended, and behind a CHECKPOINT that is kept the log is cut, once its certificate is learnt. Between the two it
-- holds the stamp and is not cut yet (`IsUncut`). What it answers is what the history says.
use Rattle.std.proofs.Common.{◌≡◌, ℕ, ◌+◌, ◌-◌, ◌≤◌, true, false, ◌&&◌, List, [], ◌∷◌, length, max, refl, sym, ap, subst, ◌∙◌, inl, inr, arith, Option, Some, None}
use Rattle.std.specs.Prelude.{nat_lt, nat_le}
use Rattle.std.proofs.lemmas.Bool.{cases_Bool, and_parts, ltb-true, leb-true}
use Rattle.std.proofs.lemmas.List.{length-reverse, length-take-le}
use Rattle.mb_parts.specs.declared.floor.Floor.{Floor}
use Rattle.mb_parts.specs.declared.certificates.FloorCert.{FloorCert}
use Rattle.mb_parts.specs.declared.certificates.StableCert.{StableCert}
use Rattle.mb_parts.specs.Certificates.{first_floor}
use Rattle.mb_msg.specs.declared.message.Body.TheVariants.{Bare as Short}
use Rattle.mb_msg.specs.declared.stamped.Stamped.{Stamped as StampedMessage}
use Rattle.mb_msg.specs.declared.stamped.Stamped.TheVariants as stamped
use Rattle.mb_msg.specs.Spelling.{stamped_kind}
use Rattle.mb_model.specs.Histories.{Entry, Stamped, History, Identity, stamped as all_stamped, counter_of}
use Rattle.mb_model.specs.Stable.{stable_of, low_of, checkpoint_in, is_kept, counter_in as model_counter_in, floor_counter as model_counter, floor_from, cut_by, log_floor}
use Rattle.mb_model.specs.OwnLog.{is_normal, is_unspent, kept_forms, own_log, log_longest, log_start, has_room, has_other_room, proof_of as proof_in, since}
use Rattle.mb_model.specs.Sending.{no_ui}
use Rattle.mb_log.specs.Logs.{Log, start, counter_in, floor_counter, is_normal_kind, has_room_for, appended, cut_at, proof_of, given_from}
use Rattle.mb_log.specs.Represents.{Represents, count_since, kept_since}
use Rattle.mb_log.specs.Histories.{RepresentsLog, AnswersFor}
use Rattle.mb_log.proofs.Histories.{with_stands, cut_stands, answers}
use Rattle.mb_history_laws.specs.Speaks.{is_stamp, speaks_of_checkpoints, speaks_of_log}
use Rattle.mb_history_laws.proofs.Framing.{log_floor_stays, stamped_stay, longest_stays}
use Rattle.mb_history_laws.proofs.OwnLog.{stamped_more, kept_length, longest_more}
use Rattle.mb_history_laws.proofs.Tables.{log_left}
use Rattle.mb_refinement.specs.Stands.{LogStands}
use Rattle.mb_refinement.specs.LogCalls.{IsUncut, CutsTo}

-- a message of each sort
abbrev a_vote : StampedMessage
a_vote = stamped.Checkpoint (record { pos = 0; state = []; body = Short []; ui = no_ui })

abbrev another : StampedMessage
another = stamped.Enter (record { view = 0; counter = 0; plan = []; ui = no_ui })

module _ {S : Type 0} (self : Identity S) where
  -- ---- what an entry leaves

  -- an entry that speaks of no stamp and of no CHECKPOINT
  pub own_log_stays : (log : Log) (e : Entry) (d : History) → speaks_of_log e ≡ false → LogStands self log d → LogStands self log (e ∷ d)
  own_log_stays log e d s l =
      let same = log_left self e d s in
      record {
        shape = l.shape;
        host = l.host;
        represents = rw (same.floor, same.stamped, same.longest) l.represents;
      }

  represents_log : (log : Log) (d : History) → LogStands self log d → RepresentsLog self log d
  represents_log log d l = record { shape_is = l.shape; host_is = l.host; stands = l.represents }

  -- the same counters, of the model's floor and of the log's
  counter_same : (o : Option Floor) → counter_in o ≡ model_counter_in self o
  counter_same None = refl
  counter_same (Some f) = refl

  counters_same : (o : Option FloorCert) → floor_counter self.host o ≡ model_counter self o
  counters_same None = refl
  counters_same (Some c) = counter_same (first_floor self.host c.members)

  counter_for : (log : Log) → log.host ≡ self.host → (o : Option FloorCert) → floor_counter log.host o ≡ model_counter self o
  counter_for log host o = ap (λ h. floor_counter h o) host ∙ counters_same o

  -- ---- a stamp is appended

  -- not cut yet
  pub stamp_appended : (old new : Log) (m : StampedMessage) (d : History) → new ≡ appended m old → LogStands self old d → IsUncut self new (Stamped m) d
  stamp_appended old new m d is l =
      let counter : floor_counter old.host (log_floor self d) ≡ log_start self d = counter_for old l.host (log_floor self d) in
      let long : length (own_log self d) ≡ counter_of d - log_start self d = length-take-le (counter_of d - log_start self d) (all_stamped d) (omega arith) in
      let more : max (log_longest self d) (count_since old.host (log_floor self d) (all_stamped d) + 1) ≡ log_longest self (Stamped m ∷ d) =
      ap (λ n. max (log_longest self d) (counter_of d - n + 1)) counter ∙ ap (λ n. max (log_longest self d) (n + 1)) (sym long) ∙ sym (longest_more self m d) in
      let stands = with_stands old new m is (log_floor self d) (all_stamped d) (log_longest self d) l.represents in
      record {
        shape = ap (λ (t : Log). t.shape) is ∙ l.shape;
        host = ap (λ (t : Log). t.host) is ∙ l.host;
        represents = rw (stamped_more m d, ← more) stands;
      }

  -- behind any stamp but a CHECKPOINT
  pub own_log_appended : (old new : Log) (m : StampedMessage) (d : History) → speaks_of_checkpoints (Stamped m) ≡ false → new ≡ appended m old → LogStands self old d → LogStands self new (Stamped m ∷ d)
  own_log_appended old new m d plain is l =
      let u = stamp_appended old new m d is l in
      record { shape = u.shape; host = u.host; represents = rw (log_floor_stays self (Stamped m) d plain) u.represents }

  -- ---- the log is cut

  -- Nothing is cut behind what was accepted until the certificate is learnt.
  pub not_appended : (log : Log) (e : Entry) (d : History) → is_stamp e ≡ false → LogStands self log d → IsUncut self log e d
  not_appended log e d s l = record { shape = l.shape; host = l.host; represents = rw (stamped_stay e d s, longest_stays self e d s) l.represents }

  -- where no CHECKPOINT is kept
  pub own_log_uncut : (log : Log) (e : Entry) (d : History) → is_kept (low_of self d) (checkpoint_in e) ≡ false → IsUncut self log e d → LogStands self log (e ∷ d)
  unfolding log_floor
  own_log_uncut log e d none u = record { shape = u.shape; host = u.host; represents = rw none u.represents }

  floor_behind : (e : Entry) (d : History) → is_kept (low_of self d) (checkpoint_in e) ≡ true → log_floor self (e ∷ d) ≡ cut_by self (counter_of (e ∷ d)) (log_floor self d) (floor_from self.shape (e ∷ d) self.host (low_of self (e ∷ d)))
  unfolding log_floor
  floor_behind e d kept = rw kept refl

  entries_count : (log : Log) (floor : Option FloorCert) (l : List StampedMessage) (longest : ℕ) → Represents log floor l longest → length log.entries + floor_counter log.host floor ≡ length l
  entries_count log floor l longest r =
      let n = count_since log.host floor l in
      let count : length log.entries ≡ n = ap length r.entries_are ∙ length-reverse (kept_since log.host floor l) ∙ length-take-le n (kept_forms l) (omega (arith, kept_length l)) in
      let reached = r.reached in
      omega (arith, count, reached)

  -- where it begins before the cut
  pub uncut_starts : (log : Log) (e : Entry) (d : History) → IsUncut self log e d → start log ≡ model_counter self (log_floor self d)
  uncut_starts log e d u = ap (floor_counter log.host) u.represents.floor_is ∙ counter_for log u.host (log_floor self d)

  -- What the cut needs: the floor is forward, and at or below what was stamped.
  pub may_cut : (log : Log) (e : Entry) (d : History) (c : FloorCert) → IsUncut self log e d → (nat_lt (model_counter self (log_floor self d)) (model_counter self (Some c)) && nat_le (model_counter self (Some c)) (counter_of (e ∷ d))) ≡ true
      → (start log ≤ floor_counter log.host (Some c)) × (floor_counter log.host (Some c) ≤ start log + length log.entries)
  may_cut log e d c u forward =
      let parts = and_parts (nat_lt (model_counter self (log_floor self d)) (model_counter self (Some c))) (nat_le (model_counter self (Some c)) (counter_of (e ∷ d))) forward in
      let above = ltb-true (model_counter self (log_floor self d)) (model_counter self (Some c)) parts.0 in
      let within = leb-true (model_counter self (Some c)) (counter_of (e ∷ d)) parts.1 in
      let begin : start log ≡ model_counter self (log_floor self d) = uncut_starts log e d u in
      let old : floor_counter log.host (log_floor self d) ≡ model_counter self (log_floor self d) = counter_for log u.host (log_floor self d) in
      let new : floor_counter log.host (Some c) ≡ model_counter self (Some c) = counter_for log u.host (Some c) in
      let count = entries_count log (log_floor self d) (all_stamped (e ∷ d)) (log_longest self (e ∷ d)) u.represents in
      (omega (arith, begin, new, above), omega (arith, begin, old, new, within, count))

  -- Behind a CHECKPOINT that is kept the log is cut by the floor certificate that is found then, where this goes forward.
  pub own_log_cut : (log new : Log) (e : Entry) (d : History) → is_kept (low_of self d) (checkpoint_in e) ≡ true → IsUncut self log e d
      → CutsTo self (counter_of (e ∷ d)) log (log_floor self d) (floor_from self.shape (e ∷ d) self.host (low_of self (e ∷ d))) new → LogStands self new (e ∷ d)
  own_log_cut log new e d kept u cuts = by_cert (floor_from self.shape (e ∷ d) self.host (low_of self (e ∷ d))) (floor_behind e d kept) cuts where
    stands : (floor : Option FloorCert) (t : Log) → log_floor self (e ∷ d) ≡ floor → t.shape ≡ self.shape → t.host ≡ self.host → Represents t floor (all_stamped (e ∷ d)) (log_longest self (e ∷ d)) → LogStands self t (e ∷ d)
    stands floor t is shape host r = record { shape = shape; host = host; represents = rw is r }

    by_cert : (found : Option FloorCert) → log_floor self (e ∷ d) ≡ cut_by self (counter_of (e ∷ d)) (log_floor self d) found → CutsTo self (counter_of (e ∷ d)) log (log_floor self d) found new → LogStands self new (e ∷ d)
    by_cert None is same = subst (λ (t : Log). LogStands self t (e ∷ d)) (sym same) (stands (log_floor self d) log is u.shape u.host u.represents)
    by_cert (Some c) is cuts = elim (cases_Bool (nat_lt (model_counter self (log_floor self d)) (model_counter self (Some c)) && nat_le (model_counter self (Some c)) (counter_of (e ∷ d)))) [
      | inl forward ↦
          let cut : new ≡ cut_at c log = cuts.0 forward in
          let may = may_cut log e d c u forward in
          stands (Some c) new (rw forward at is) (ap (λ (t : Log). t.shape) cut ∙ u.shape) (ap (λ (t : Log). t.host) cut ∙ u.host)
          (cut_stands log new c cut may.0 may.1 (log_floor self d) (all_stamped (e ∷ d)) (log_longest self (e ∷ d)) u.represents)
      | inr not_so ↦ subst (λ (t : Log). LogStands self t (e ∷ d)) (sym (cuts.1 not_so)) (stands (log_floor self d) log (rw not_so at is) u.shape u.host u.represents)
    ]

  -- ---- what it answers

  module _ (log : Log) (d : History) (l : LogStands self log d) where
    told : AnswersFor self log d
    told = answers self log d (represents_log log d l)

    pub log_starts : start log ≡ log_start self d
    log_starts = told.start_is

    pub proof_shown : (stable : StableCert) → stable ≡ stable_of self d → ((proof_of log stable).floor ≡ (proof_in self d).floor) × ((proof_of log stable).stable ≡ (proof_in self d).stable) × ((proof_of log stable).entries ≡ (proof_in self d).entries)
    proof_shown stable is = (l.represents.floor_is, is, told.shows)

    pub since_given : (from : ℕ) → given_from log from ≡ since self d from
    since_given from = told.gives from

    same_room : (kind other : ℕ) → is_normal_kind kind ≡ is_normal_kind other → has_room_for log kind ≡ has_room_for log other
    same_room kind other same = rw same refl

    -- room for one more PREPARE, COMMIT or CHECKPOINT, where the USIG has a counter left
    pub room_is : (kind : ℕ) → is_normal_kind kind ≡ true → has_room self d ≡ (has_room_for log kind && is_unspent self d)
    room_is kind normal = told.room a_vote refl ∙ ap (λ b. b && is_unspent self d) (sym (same_room kind 5 normal))

    -- for one more of the other kinds
    pub other_room_is : (kind : ℕ) → is_normal_kind kind ≡ false → has_other_room self d ≡ (has_room_for log kind && is_unspent self d)
    other_room_is kind other = told.other_room another refl ∙ ap (λ b. b && is_unspent self d) (sym (same_room kind 9 other))

    -- what appending asks
    pub place_for : (m : StampedMessage) → is_normal m ≡ true → has_room self d ≡ true → has_room_for log (stamped_kind m) ≡ true
    place_for m normal room = (and_parts (has_room_for log (stamped_kind m)) (is_unspent self d) (sym (told.room m normal) ∙ room)).0

    pub place_for_other : (m : StampedMessage) → is_normal m ≡ false → has_other_room self d ≡ true → has_room_for log (stamped_kind m) ≡ true
    place_for_other m other room = (and_parts (has_room_for log (stamped_kind m)) (is_unspent self d) (sym (told.other_room m other) ∙ room)).0
