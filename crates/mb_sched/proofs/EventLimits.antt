-- What the text of a schedule says keeps the limits of its lines.
use Rattle.std.proofs.Common.{◌≡◌, ℕ, zero, suc, ◌+◌, ◌-◌, ◌*◌, ◌/◌, ◌%◌, ◌^◌, ◌≤◌, ◌<◌, Bool, true, false, cond, ◌&&◌, leb, eqb, List, [], ◌∷◌, length, drop, map, codes, Option, Some, None, Result, Ok, Err, refl, ap, subst, arith, ◌⊎◌, inl, inr}
use Rattle.std.specs.Prelude.{slice_get, option_map, option_and_then}
use Rattle.std.specs.List.{list_any, count_by, range_with_len}
use Rattle.std.specs.Option.{option_or}
use Rattle.std.specs.Result.{result_ok}
use Rattle.std.specs.Str.{byte}
use Rattle.std.proofs.lemmas.Bool.{leb-true, eqb-true}
use Rattle.std.proofs.lemmas.List.{length-drop, length-take}
use Rattle.std.proofs.lemmas.List.FromFn.{length-map-range_with_len}
use Rattle.std.proofs.lemmas.List.Splits.{length-slice_split}
use Rattle.std.proofs.lemmas.List.Sums.{count_by-le-length}
use Rattle.hex.specs.Hex.{decode_of, decode_sized, decode_pairs, pair_value, ◌>>=◌ as ◌>>>=◌}
use Rattle.hex.specs.declared.error.FromHexError.{FromHexError}
use Rattle.hex.specs.declared.error.FromHexError.TheVariants.{OddLength, InvalidStringLength}
use Rattle.mb_base.specs.Limits.{batch_limit, text_limit, most_faults, least_interval, most_interval, most_clients}
use Rattle.mb_base.specs.Shapes.{Bytes, is_within, max_faults, host_count, client_count, tally}
use Rattle.mb_base.specs.declared.shape.Shape.{Shape}
use Rattle.mb_parts.specs.Fits.{IsCounter, IsPlace, IsPosition, IsDigest}
use Rattle.mb_sched.specs.declared.header.Marks.{Marks}
use Rattle.mb_schedule.specs.declared.schedule.Name.{Name}
use Rattle.mb_schedule.specs.declared.schedule.Name.TheVariants as name
use Rattle.mb_schedule.specs.declared.schedule.Schedule.{Schedule}
use Rattle.mb_schedule.specs.declared.schedule.WorldEvent.{WorldEvent}
use Rattle.mb_sched.specs.Words.{pieces, words, is, decimal_value, is_decimal, number_in, named, host_in, client_in, name_in, is_hex, is_operation, bytes_of, operation_of, digest_of, all_of}
use Rattle.mb_sched.specs.Lines.{◌>>=◌, numbered, read_line, lines, is_ended}
use Rattle.mb_sched.specs.TextLines.{exact_line, keyword_line, all_lines}
use Rattle.mb_sched.specs.EventLines.{message_in, seq_in, place_in, place_from_1, ask_of, give_of, take_of, raw_of, patience_of, nudge_of, sign_of, answer_of, reply_of, wish_of, tag_of, numbers_of, messages_of, prepare_of, commit_of, checkpoint_of, change_of, as_of, stamp_raw_of, stamped_of, stamp_of, event_line}
use Rattle.mb_sched.specs.Headers.{is_host_name, rise, are_faulty, is_host_of, is_client_of, marks_of, faulty_named, faulty_by_name, faulty_line, HeaderContents, header_by, header_of}
use Rattle.mb_sched.specs.Schedules.{line_number, events_from, with_events, contents, schedule_of, IsScheduleText}
use Rattle.mb_schedule.specs.Limits.{NameFits, EventFits, IsSchedule}
use Rattle.mb_sched.proofs.ReadSteps.{okay, ok_is, bind_ok, numbered_ok, allowed}
use Rattle.mb_sched.proofs.ReadWords.{some_is, bind_some, as_many}
use Rattle.mb_sched.proofs.FaultyMarks.{mark_at, few_marked}

-- ---- steps that did not fail

-- what a line of the header says
read_ok : {A : Type 0} (n : ℕ) (read : Bytes → Option A) (line : Option Bytes) (x : A) → read_line n read line ≡ Ok x → (text : Bytes) × (read text ≡ Some x)
read_ok n read None x e = absurd cc
read_ok n read (Some text) x e = (text, numbered_ok n (read text) x e)

both : (a b : Bool) → (a && b) ≡ true → (a ≡ true) × (b ≡ true)
both true b e = (refl, e)
both false b e = absurd cc

abbrev failed : {A E : Type 0} → E → Result A E
failed d = Err d

abbrev none : {A : Type 0} → Option A
none = None

odd_or_even : (b : Bool) → (b ≡ true) ⊎ (b ≡ false)
odd_or_even true = inl refl
odd_or_even false = inr refl

none_is_some : {A : Type 0} (x : A) → none {A = A} ≡ Some x → ⊥
none_is_some x e = cc

result_is : {A E : Type 0} (r : Result A E) (x : A) → result_ok r ≡ Some x → r ≡ Ok x
result_is (Ok y) x e = ap Ok (some_is y x e)
result_is (Err d) x e = absurd cc

-- ---- words

number_within : (low high n : ℕ) (word : Bytes) → number_in low high word ≡ Some n → (low ≤ n) × (n ≤ high)
number_within low high n word e =
    let a = allowed (is_decimal word && is_within low high (decimal_value word)) (Some (decimal_value word)) n e in
    let b = both (is_decimal word) (is_within low high (decimal_value word)) a.0 in
    let c = both (leb low (decimal_value word)) (leb (decimal_value word) high) b.1 in
    subst (λ (m : ℕ). (low ≤ m) × (m ≤ high)) (some_is (decimal_value word) n a.1) (leb-true _ _ c.0, leb-true _ _ c.1)

named_below : (letter count n : ℕ) (word : Bytes) → 1 ≤ count → named letter count word ≡ Some n → n < count
named_below letter count n [] some e = absurd cc
named_below letter count n (first ∷ digits) some e =
    let a = allowed (eqb first letter) (number_in 0 (count - 1) digits) n e in
    let b = number_within 0 (count - 1) n digits a.1 in
    omega (arith, b.1)

-- the shape of a text's schedule has at least one client
some_client : (s : Shape) → 1 ≤ client_count s
some_client s = s.clients_in.0

either_name : (host client : Option ℕ) (n : Name) → option_or (option_map name.Host host) (option_map name.Client client) ≡ Some n
    → ((h : ℕ) × (host ≡ Some h) × (name.Host h ≡ n)) ⊎ ((c : ℕ) × (client ≡ Some c) × (name.Client c ≡ n))
either_name (Some h) client n e = inl (h, refl, some_is (name.Host h) n e)
either_name None (Some c) n e = inr (c, refl, some_is (name.Client c) n e)
either_name None None n e = absurd cc

name_fits : (s : Shape) (n : Name) (word : Bytes) → name_in (host_count s) (client_count s) word ≡ Some n → NameFits s n
name_fits s n word e =
    elim (either_name (host_in (host_count s) word) (client_in (client_count s) word) n e) [
      | inl host ↦ subst (NameFits s) host.2 (named_below (byte "h") (host_count s) host.0 word (omega arith) host.1)
      | inr client ↦ subst (NameFits s) client.2 (named_below (byte "c") (client_count s) client.0 word (some_client s) client.1)
    ]

-- ---- operations

pairs_bind : {A B : Type 0} (r : Result A FromHexError) (f : A → Result B FromHexError) (y : B) → (r >>>= f) ≡ Ok y → (x : A) × (r ≡ Ok x) × (f x ≡ Ok y)
pairs_bind (Ok x) f y e = (x, refl, e)
pairs_bind (Err d) f y e = absurd cc

-- two digits for each byte
pairs_length : (i : ℕ) (text bytes : Bytes) → decode_pairs i text ≡ Ok bytes → 2 * length bytes ≡ length text
unfolding decode_pairs
pairs_length i [] bytes e = let same : [] ≡ bytes = cc in rw (← same) refl
pairs_length i (digit ∷ []) bytes e = absurd cc
pairs_length i (high ∷ low ∷ rest) bytes e =
    let a = pairs_bind (pair_value high low i) (λ b. decode_pairs (i + 2) rest >>>= λ bs. Ok (b ∷ bs)) bytes e in
    let b = pairs_bind (decode_pairs (i + 2) rest) (λ bs. Ok (a.0 ∷ bs)) bytes a.2 in
    let before = pairs_length (i + 2) rest b.0 b.1 in
    let same : a.0 ∷ b.0 ≡ bytes = ok_is (a.0 ∷ b.0) bytes b.2 in
    rw (← same) (omega (arith, before))

decoded : (text bytes : Bytes) → result_ok (decode_of text) ≡ Some bytes → 2 * length bytes ≤ length text
decoded text bytes e = elim (odd_or_even (eqb (length text % 2) 1)) [
  | inl odd ↦ absurd (none_is_some bytes (rw odd at e))
  | inr even ↦ let f : result_ok (decode_pairs 0 text) ≡ Some bytes = rw even at e in let exact = pairs_length 0 text bytes (result_is (decode_pairs 0 text) bytes f) in omega (arith, exact)
]

bytes_short : (word bytes : Bytes) → bytes_of word ≡ Some bytes → length word ≤ 2 * text_limit → length bytes ≤ text_limit
bytes_short word bytes e short =
    let a = allowed (is_hex word) (cond (is "-" word) (Some []) (result_ok (decode_of word))) bytes e in
    elim (odd_or_even (is "-" word)) [
      | inl dash ↦ let f : Some [] ≡ Some bytes = rw dash at a.1 in rw (← some_is [] bytes f) (omega arith)
      | inr other ↦ let f : result_ok (decode_of word) ≡ Some bytes = rw other at a.1 in let g = decoded word bytes f in omega (arith, g, short)
    ]

operation_short : (word bytes : Bytes) → operation_of word ≡ Some bytes → length bytes ≤ text_limit
operation_short word bytes e =
    let a = allowed (is_operation word) (bytes_of word) bytes e in
    let b = both (is_hex word) (leb (length word) (2 * text_limit)) a.0 in
    bytes_short word bytes a.1 (leb-true _ _ b.1)

no_value : {A : Type 0} (d : FromHexError) (x : A) → failed {A = A} d ≡ okay x → ⊥
no_value d x e = cc

sized : (word bytes : Bytes) → decode_sized word 32 ≡ Ok bytes → length bytes ≡ 32
sized word bytes e =
    elim (odd_or_even (eqb (length word % 2) 1)) [
      | inl odd ↦ absurd (no_value OddLength bytes (rw odd at e))
      | inr even ↦
          let f : cond (eqb (length word / 2) 32) (decode_pairs 0 word) (Err InvalidStringLength) ≡ Ok bytes = rw even at e in
          elim (odd_or_even (eqb (length word / 2) 32)) [
            | inl full ↦
                let g : decode_pairs 0 word ≡ Ok bytes = rw full at f in
                let pairs = pairs_length 0 word bytes g in
                let half = eqb-true _ _ full in
                omega (arith, pairs, half)
            | inr other ↦ absurd (no_value InvalidStringLength bytes (rw other at f))
          ]
    ]

digest_fits : (word bytes : Bytes) → digest_of word ≡ Some bytes → IsDigest bytes
digest_fits word bytes e = sized word bytes (result_is (decode_sized word 32) bytes e)

-- ---- events

module _ (s : Shape) where
  client_fits : (c : ℕ) (word : Bytes) → client_in (client_count s) word ≡ Some c → c < client_count s
  client_fits c word e = named_below (byte "c") (client_count s) c word (some_client s) e

  host_fits : (h : ℕ) (word : Bytes) → host_in (host_count s) word ≡ Some h → h < host_count s
  host_fits h word e = named_below (byte "h") (host_count s) h word (omega arith) e

  counter_fits : (n : ℕ) (word : Bytes) → seq_in word ≡ Some n → IsCounter n
  counter_fits n word e = let within = number_within 1 (2 ^ 64 - 1) n word e in (within.0, omega (arith, within.1))

  place_fits : (n : ℕ) (word : Bytes) → place_in word ≡ Some n → IsPlace n
  place_fits n word e = let within = number_within 0 (2 ^ 63 - 1) n word e in omega (arith, within.1)

  position_fits : (n : ℕ) (word : Bytes) → place_from_1 word ≡ Some n → IsPosition n
  position_fits n word e = let within = number_within 1 (2 ^ 63 - 1) n word e in (within.0, omega (arith, within.1))

  ask_fits : (ws : List Bytes) (e : WorldEvent) → ask_of (client_count s) ws ≡ Some e → EventFits s e
  ask_fits (client ∷ operation ∷ []) e h =
      let c = bind_some (client_in (client_count s) client) _ e h in
      let op = bind_some (operation_of operation) _ e c.2 in
      subst (EventFits s) (some_is _ e op.2) (client_fits c.0 client c.1, operation_short operation op.0 op.1)
  ask_fits [] e h = absurd cc
  ask_fits (a ∷ []) e h = absurd cc
  ask_fits (a ∷ b ∷ c ∷ ws) e h = absurd cc

  give_fits : (ws : List Bytes) (e : WorldEvent) → give_of (host_count s) ws ≡ Some e → EventFits s e
  give_fits (message ∷ host ∷ []) e h =
      let m = bind_some (message_in message) _ e h in
      let host_is = bind_some (host_in (host_count s) host) _ e m.2 in
      subst (EventFits s) (some_is _ e host_is.2) (host_fits host_is.0 host host_is.1)
  give_fits [] e h = absurd cc
  give_fits (a ∷ []) e h = absurd cc
  give_fits (a ∷ b ∷ c ∷ ws) e h = absurd cc

  take_fits : (ws : List Bytes) (e : WorldEvent) → take_of (client_count s) ws ≡ Some e → EventFits s e
  take_fits (message ∷ client ∷ []) e h =
      let m = bind_some (message_in message) _ e h in
      let c = bind_some (client_in (client_count s) client) _ e m.2 in
      subst (EventFits s) (some_is _ e c.2) (client_fits c.0 client c.1)
  take_fits [] e h = absurd cc
  take_fits (a ∷ []) e h = absurd cc
  take_fits (a ∷ b ∷ c ∷ ws) e h = absurd cc

  raw_fits : (ws : List Bytes) (e : WorldEvent) → raw_of (host_count s) (client_count s) ws ≡ Some e → EventFits s e
  raw_fits (who ∷ word ∷ []) e h =
      let n = bind_some (name_in (host_count s) (client_count s) who) _ e h in
      let bytes = bind_some (bytes_of word) _ e n.2 in
      subst (EventFits s) (some_is _ e bytes.2) (name_fits s n.0 who n.1)
  raw_fits [] e h = absurd cc
  raw_fits (a ∷ []) e h = absurd cc
  raw_fits (a ∷ b ∷ c ∷ ws) e h = absurd cc

  patience_fits : (ws : List Bytes) (e : WorldEvent) → patience_of (host_count s) ws ≡ Some e → EventFits s e
  patience_fits (host ∷ []) e h =
      let host_is = bind_some (host_in (host_count s) host) _ e h in
      subst (EventFits s) (some_is _ e host_is.2) (host_fits host_is.0 host host_is.1)
  patience_fits [] e h = absurd cc
  patience_fits (a ∷ b ∷ ws) e h = absurd cc

  nudge_fits : (ws : List Bytes) (e : WorldEvent) → nudge_of (host_count s) ws ≡ Some e → EventFits s e
  nudge_fits (host ∷ []) e h =
      let host_is = bind_some (host_in (host_count s) host) _ e h in
      subst (EventFits s) (some_is _ e host_is.2) (host_fits host_is.0 host host_is.1)
  nudge_fits [] e h = absurd cc
  nudge_fits (a ∷ b ∷ ws) e h = absurd cc

  sign_fits : (ws : List Bytes) (e : WorldEvent) → sign_of (client_count s) ws ≡ Some e → EventFits s e
  sign_fits (client ∷ number ∷ operation ∷ []) e h =
      let c = bind_some (client_in (client_count s) client) _ e h in
      let seq = bind_some (seq_in number) _ e c.2 in
      let op = bind_some (operation_of operation) _ e seq.2 in
      subst (EventFits s) (some_is _ e op.2) (client_fits c.0 client c.1, (counter_fits seq.0 number seq.1, operation_short operation op.0 op.1))
  sign_fits [] e h = absurd cc
  sign_fits (a ∷ []) e h = absurd cc
  sign_fits (a ∷ b ∷ []) e h = absurd cc
  sign_fits (a ∷ b ∷ c ∷ d ∷ ws) e h = absurd cc

  -- ---- what a faulty host tags

  answer_fits : (host c seq : ℕ) (ws : List Bytes) (e : WorldEvent) → host < host_count s → c < client_count s → IsCounter seq → answer_of host c seq ws ≡ Some e → EventFits s e
  answer_fits host c seq (position ∷ text ∷ []) e lt client counter h =
      let pos = bind_some (place_in position) _ e h in
      let result = bind_some (operation_of text) _ e pos.2 in
      subst (EventFits s) (some_is _ e result.2) (lt, (client, (counter, (place_fits pos.0 position pos.1, operation_short text result.0 result.1))))
  answer_fits host c seq [] e lt client counter h = absurd cc
  answer_fits host c seq (x ∷ []) e lt client counter h = absurd cc
  answer_fits host c seq (x ∷ y ∷ z ∷ ws) e lt client counter h = absurd cc

  reply_fits : (host : ℕ) (ws : List Bytes) (e : WorldEvent) → host < host_count s → reply_of (client_count s) host ws ≡ Some e → EventFits s e
  reply_fits host (client ∷ number ∷ ws) e lt h =
      let c = bind_some (client_in (client_count s) client) _ e h in
      let seq = bind_some (seq_in number) _ e c.2 in
      answer_fits host c.0 seq.0 ws e lt (client_fits c.0 client c.1) (counter_fits seq.0 number seq.1) seq.2
  reply_fits host [] e lt h = absurd cc
  reply_fits host (a ∷ []) e lt h = absurd cc

  wish_fits : (host : ℕ) (ws : List Bytes) (e : WorldEvent) → host < host_count s → wish_of host ws ≡ Some e → EventFits s e
  wish_fits host (word ∷ []) e lt h =
      let view = bind_some (place_from_1 word) _ e h in
      subst (EventFits s) (some_is _ e view.2) (lt, position_fits view.0 word view.1)
  wish_fits host [] e lt h = absurd cc
  wish_fits host (a ∷ b ∷ ws) e lt h = absurd cc

  -- one of two forms, by its word
  either_fits : (b : Bool) (x y : Option WorldEvent) (e : WorldEvent) → cond b x y ≡ Some e → (x ≡ Some e → EventFits s e) → (y ≡ Some e → EventFits s e) → EventFits s e
  either_fits true x y e h first second = first h
  either_fits false x y e h first second = second h

  tag_fits : (ws : List Bytes) (e : WorldEvent) → tag_of (host_count s) (client_count s) ws ≡ Some e → EventFits s e
  tag_fits (host ∷ what ∷ ws) e h =
      let host_is = bind_some (host_in (host_count s) host) _ e h in
      let lt = host_fits host_is.0 host host_is.1 in
      either_fits (is "reply" what) _ _ e host_is.2 (reply_fits host_is.0 ws e lt)
      (λ more. either_fits (is "wish" what) _ _ e more (wish_fits host_is.0 ws e lt) (λ no. absurd (none_is_some e no)))
  tag_fits [] e h = absurd cc
  tag_fits (a ∷ []) e h = absurd cc

  -- ---- what a faulty host stamps

  messages_fit : (ws : List Bytes) (numbers : List ℕ) → messages_of ws ≡ Some numbers → (1 ≤ length numbers) × (length numbers ≤ batch_limit)
  messages_fit ws numbers e =
      let a = allowed (leb 1 (length ws) && leb (length ws) batch_limit) (numbers_of ws) numbers e in
      let b = both (leb 1 (length ws)) (leb (length ws) batch_limit) a.0 in
      let low = leb-true _ _ b.0 in
      let high = leb-true _ _ b.1 in
      let many = as_many message_in ws numbers a.1 in
      (omega (arith, low, many), omega (arith, high, many))

  prepare_fits : (host : ℕ) (ws : List Bytes) (e : WorldEvent) → host < host_count s → prepare_of host ws ≡ Some e → EventFits s e
  prepare_fits host (word ∷ position ∷ ws) e lt h =
      let view = bind_some (place_in word) _ e h in
      let pos = bind_some (place_from_1 position) _ e view.2 in
      let messages = bind_some (messages_of ws) _ e pos.2 in
      subst (EventFits s) (some_is _ e messages.2)
      (lt, (place_fits view.0 word view.1, (position_fits pos.0 position pos.1, messages_fit ws messages.0 messages.1)))
  prepare_fits host [] e lt h = absurd cc
  prepare_fits host (a ∷ []) e lt h = absurd cc

  commit_fits : (host : ℕ) (ws : List Bytes) (e : WorldEvent) → host < host_count s → commit_of host ws ≡ Some e → EventFits s e
  commit_fits host (message ∷ []) e lt h =
      let m = bind_some (message_in message) _ e h in
      subst (EventFits s) (some_is _ e m.2) lt
  commit_fits host [] e lt h = absurd cc
  commit_fits host (a ∷ b ∷ ws) e lt h = absurd cc

  checkpoint_fits : (host : ℕ) (ws : List Bytes) (e : WorldEvent) → host < host_count s → checkpoint_of host ws ≡ Some e → EventFits s e
  checkpoint_fits host (position ∷ word ∷ []) e lt h =
      let pos = bind_some (place_from_1 position) _ e h in
      let digest = bind_some (digest_of word) _ e pos.2 in
      subst (EventFits s) (some_is _ e digest.2) (lt, (position_fits pos.0 position pos.1, digest_fits word digest.0 digest.1))
  checkpoint_fits host [] e lt h = absurd cc
  checkpoint_fits host (a ∷ []) e lt h = absurd cc
  checkpoint_fits host (a ∷ b ∷ c ∷ ws) e lt h = absurd cc

  change_fits : (host : ℕ) (ws : List Bytes) (e : WorldEvent) → host < host_count s → change_of host ws ≡ Some e → EventFits s e
  change_fits host (word ∷ number ∷ []) e lt h =
      let view = bind_some (place_from_1 word) _ e h in
      let counter = bind_some (message_in number) _ e view.2 in
      let within = number_within 0 (2 ^ 64 - 1) counter.0 number counter.1 in
      subst (EventFits s) (some_is _ e counter.2) (lt, (position_fits view.0 word view.1, omega (arith, within.1)))
  change_fits host [] e lt h = absurd cc
  change_fits host (a ∷ []) e lt h = absurd cc
  change_fits host (a ∷ b ∷ c ∷ ws) e lt h = absurd cc

  as_fits : (host : ℕ) (ws : List Bytes) (e : WorldEvent) → host < host_count s → as_of host ws ≡ Some e → EventFits s e
  as_fits host (message ∷ []) e lt h =
      let m = bind_some (message_in message) _ e h in
      subst (EventFits s) (some_is _ e m.2) lt
  as_fits host [] e lt h = absurd cc
  as_fits host (a ∷ b ∷ ws) e lt h = absurd cc

  stamp_raw_fits : (host : ℕ) (ws : List Bytes) (e : WorldEvent) → host < host_count s → stamp_raw_of host ws ≡ Some e → EventFits s e
  stamp_raw_fits host (word ∷ []) e lt h =
      let bytes = bind_some (bytes_of word) _ e h in
      subst (EventFits s) (some_is _ e bytes.2) lt
  stamp_raw_fits host [] e lt h = absurd cc
  stamp_raw_fits host (a ∷ b ∷ ws) e lt h = absurd cc

  stamped_fits : (host : ℕ) (what : Bytes) (ws : List Bytes) (e : WorldEvent) → host < host_count s → stamped_of host what ws ≡ Some e → EventFits s e
  stamped_fits host what ws e lt h =
      either_fits (is "prepare" what) _ _ e h (prepare_fits host ws e lt)
      (λ h. either_fits (is "commit" what) _ _ e h (commit_fits host ws e lt)
      (λ h. either_fits (is "checkpoint" what) _ _ e h (checkpoint_fits host ws e lt)
      (λ h. either_fits (is "change" what) _ _ e h (change_fits host ws e lt)
      (λ h. either_fits (is "as" what) _ _ e h (as_fits host ws e lt)
      (λ h. either_fits (is "raw" what) _ _ e h (stamp_raw_fits host ws e lt) (λ h. absurd (none_is_some e h)))))))

  stamp_fits : (ws : List Bytes) (e : WorldEvent) → stamp_of (host_count s) ws ≡ Some e → EventFits s e
  stamp_fits (host ∷ what ∷ ws) e h =
      let host_is = bind_some (host_in (host_count s) host) _ e h in
      stamped_fits host_is.0 what ws e (host_fits host_is.0 host host_is.1) host_is.2
  stamp_fits [] e h = absurd cc
  stamp_fits (a ∷ []) e h = absurd cc

  -- ---- any line

  line_fits : (ws : List Bytes) (e : WorldEvent) → event_line (host_count s) (client_count s) ws ≡ Some e → EventFits s e
  unfolding event_line
  line_fits [] e h = absurd cc
  line_fits (verb ∷ ws) e h =
      either_fits (is "ask" verb) _ _ e h (ask_fits ws e)
      (λ h. either_fits (is "give" verb) _ _ e h (give_fits ws e)
      (λ h. either_fits (is "take" verb) _ _ e h (take_fits ws e)
      (λ h. either_fits (is "raw" verb) _ _ e h (raw_fits ws e)
      (λ h. either_fits (is "patience" verb) _ _ e h (patience_fits ws e)
      (λ h. either_fits (is "nudge" verb) _ _ e h (nudge_fits ws e)
      (λ h. either_fits (is "sign" verb) _ _ e h (sign_fits ws e)
      (λ h. either_fits (is "tag" verb) _ _ e h (tag_fits ws e)
      (λ h. either_fits (is "stamp" verb) _ _ e h (stamp_fits ws e) (λ h. absurd (none_is_some e h))))))))))

  -- ---- all lines

  pub record LinesFit (ls : List Bytes) (events : List WorldEvent) : Type 0 where
    pub count : length events ≡ length ls
    pub each : (k : ℕ) (e : WorldEvent) → slice_get events k ≡ Some e → EventFits s e

  each_of : (e : WorldEvent) (es : List WorldEvent) → EventFits s e → ((k : ℕ) (x : WorldEvent) → slice_get es k ≡ Some x → EventFits s x) → (k : ℕ) (x : WorldEvent) → slice_get (e ∷ es) k ≡ Some x → EventFits s x
  each_of e es one more zero x h = subst (EventFits s) (some_is e x h) one
  each_of e es one more (suc k) x h = more k x h

  lines_fit : (ended : Bool) (n : ℕ) (ls : List Bytes) (events : List WorldEvent) → events_from (host_count s) (client_count s) ended n ls ≡ Ok events → LinesFit ls events
  unfolding all_lines
  lines_fit true n [] events e = let same : [] ≡ events = ok_is [] events e in rw (← same) (record { count = refl; each = λ k x h. absurd cc })
  lines_fit false n [] events e = absurd cc
  lines_fit ended n (l ∷ ls) events e =
      let a = bind_ok (numbered n (event_line (host_count s) (client_count s) (words l))) (λ x. events_from (host_count s) (client_count s) ended (n + 1) ls >>= λ es. Ok (x ∷ es)) events e in
      let b = bind_ok (events_from (host_count s) (client_count s) ended (n + 1) ls) (λ es. Ok (a.0 ∷ es)) events a.2 in
      let one = line_fits (words l) a.0 (numbered_ok n _ a.0 a.1) in
      let more = lines_fit ended (n + 1) ls b.0 b.1 in
      subst (LinesFit (l ∷ ls)) (ok_is (a.0 ∷ b.0) events b.2) (record { count = ap suc more.count; each = λ k x h. each_of a.0 b.0 one more.each k x h })

-- ---- the header

-- a mark for each host and each client, and at most so many hosts are marked
pub record MarksFit (most hosts clients : ℕ) (marks : Marks) : Type 0 where
  pub as_hosts : length marks.hosts ≡ hosts
  pub as_clients : length marks.clients ≡ clients
  pub few : tally (mark_at marks.hosts) hosts ≤ most

mark_tested : (p : ℕ → Bool) (a n i h : ℕ) → i < n → h ≡ a + i → mark_at (map p (range_with_len a n)) i ≡ p h
mark_tested p a zero i h lt e = absurd (omega arith)
mark_tested p a (suc n) zero h lt e = let same : a ≡ h = omega arith in ap p same
mark_tested p a (suc n) (suc i) h lt e = mark_tested p (a + 1) n i h (omega arith) (omega arith)

tally-same : (p q : ℕ → Bool) (n : ℕ) → ((i : ℕ) → i < n → p i ≡ q i) → tally p n ≡ tally q n
tally-same p q zero same = refl
tally-same p q (suc n) same = rw (same n (omega arith), tally-same p q n (λ i lt. same i (omega (arith, lt)))) refl

marks_fit : (most hosts clients : ℕ) (names : List Name) → count_by is_host_name names ≤ most → MarksFit most hosts clients (marks_of hosts clients names)
marks_fit most hosts clients names few =
    let named : ℕ → Bool = λ h. list_any (is_host_of h) names in
    let same = tally-same (mark_at (map named (range_with_len 0 hosts))) named hosts (λ i lt. mark_tested named 0 hosts i i lt (omega arith)) in
    let some = few_marked names hosts in
    record {
      as_hosts = length-map-range_with_len named 0 hosts;
      as_clients = length-map-range_with_len (λ c. list_any (is_client_of c) names) 0 clients;
      few = omega (arith, same, some, few);
    }

and_then_some : {A B : Type 0} (o : Option A) (f : A → Option B) (y : B) → option_and_then f o ≡ Some y → (x : A) × (o ≡ Some x) × (f x ≡ Some y)
and_then_some None f y e = absurd cc
and_then_some (Some x) f y e = (x, refl, e)

named_fit : (most hosts clients : ℕ) (names : List Name) (marks : Marks) → faulty_named most hosts clients names ≡ Some marks → MarksFit most hosts clients marks
unfolding are_faulty
named_fit most hosts clients names marks e =
    let a = allowed (rise names && leb (count_by is_host_name names) most) (Some (marks_of hosts clients names)) marks e in
    let b = both (rise names) (leb (count_by is_host_name names) most) a.0 in
    subst (MarksFit most hosts clients) (some_is (marks_of hosts clients names) marks a.1) (marks_fit most hosts clients names (leb-true _ _ b.1))

faulty_words : (most hosts clients : ℕ) (ws : List Bytes) (marks : Marks) → faulty_by_name most hosts clients ws ≡ Some marks → MarksFit most hosts clients marks
faulty_words most hosts clients [] marks e = absurd cc
faulty_words most hosts clients (first ∷ ws) marks e =
    let a = allowed (is "faulty" first) (option_and_then (faulty_named most hosts clients) (all_of (name_in hosts clients) ws)) marks e in
    let names = and_then_some (all_of (name_in hosts clients) ws) (faulty_named most hosts clients) marks a.1 in
    named_fit most hosts clients names.0 marks names.2

header_fits : (title faults interval count key names : Option Bytes) (h : HeaderContents) → header_by title faults interval count key names ≡ Ok h → MarksFit h.f (2 * h.f + 1) h.clients h.faulty
unfolding header_by
header_fits title faults interval count key names h e =
    let t = bind_ok (read_line 1 (exact_line (codes "minbft schedule 2")) title) _ h e in
    let f = bind_ok (read_line 2 (keyword_line (codes "f") (number_in 1 most_faults)) faults) _ h t.2 in
    let k = bind_ok (read_line 3 (keyword_line (codes "k") (number_in least_interval most_interval)) interval) _ h f.2 in
    let clients = bind_ok (read_line 4 (keyword_line (codes "clients") (number_in 1 most_clients)) count) _ h k.2 in
    let secret = bind_ok (read_line 5 (keyword_line (codes "secret") digest_of) key) _ h clients.2 in
    let faulty = bind_ok (read_line 6 (faulty_line f.0 clients.0) names) _ h secret.2 in
    let text = read_ok 6 (faulty_line f.0 clients.0) names faulty.0 faulty.1 in
    subst (λ (x : HeaderContents). MarksFit x.f (2 * x.f + 1) x.clients x.faulty) (ok_is _ h faulty.2) (faulty_words f.0 (2 * f.0 + 1) clients.0 (words text.0) faulty.0 text.1)

-- ---- the whole text

lines_short : (text : Bytes) → length (lines text) ≤ length text
lines_short text =
    let parts = length-slice_split (λ b. eqb b (byte "\n")) text in
    let few = count_by-le-length (λ b. eqb b (byte "\n")) text in
    omega (arith, parts, few, length-take (length (pieces (byte "\n") text) - 1) (pieces (byte "\n") text))

same_read : (f g c d n : ℕ) (ended : Bool) (ls : List Bytes) (es fs : List WorldEvent) → f ≡ g → c ≡ d → es ≡ fs → events_from (2 * f + 1) c ended n ls ≡ Ok es → events_from (2 * g + 1) d ended n ls ≡ Ok fs
same_read f g c d n ended ls es fs e h k read = rw (← e, ← h, ← k) read

same_marks : (f g c d : ℕ) (marks : Marks) (hosts clients : List Bool) → f ≡ g → c ≡ d → marks.hosts ≡ hosts → marks.clients ≡ clients → MarksFit f (2 * f + 1) c marks
    → (length hosts ≡ 2 * g + 1) × (length clients ≡ d) × (tally (mark_at hosts) (2 * g + 1) ≤ g)
same_marks f g c d marks hosts clients e h i j fit = rw (← e, ← h, ← i, ← j) (fit.as_hosts, fit.as_clients, fit.few)

-- What a text says is a schedule.
pub schedule_fits : (text : Bytes) (s : Schedule) → IsScheduleText text s → IsSchedule s
unfolding schedule_of
schedule_fits text s h =
    let a = bind_ok (header_of (lines text)) (λ header. events_from (2 * header.f + 1) header.clients (is_ended text) (line_number 1) (drop 6 (lines text)) >>= λ events. Ok (with_events header events)) (contents s) h.1 in
    let b = bind_ok (events_from (2 * a.0.f + 1) a.0.clients (is_ended text) (line_number 1) (drop 6 (lines text))) (λ events. Ok (with_events a.0 events)) (contents s) a.2 in
    let same : with_events a.0 b.0 ≡ contents s = ok_is (with_events a.0 b.0) (contents s) b.2 in
    let f_is : a.0.f ≡ max_faults s.shape = ap (λ c. c.f) same in
    let clients_is : a.0.clients ≡ client_count s.shape = ap (λ c. c.clients) same in
    let events_is : b.0 ≡ s.events = ap (λ c. c.events) same in
    let hosts_are : a.0.faulty.hosts ≡ s.faulty_hosts = ap (λ c. c.faulty_hosts) same in
    let others_are : a.0.faulty.clients ≡ s.faulty_clients = ap (λ c. c.faulty_clients) same in
    let read : events_from (host_count s.shape) (client_count s.shape) (is_ended text) (line_number 1) (drop 6 (lines text)) ≡ Ok s.events =
    same_read a.0.f (max_faults s.shape) a.0.clients (client_count s.shape) (line_number 1) (is_ended text) (drop 6 (lines text)) b.0 s.events f_is clients_is events_is b.1 in
    let all = lines_fit s.shape (is_ended text) (line_number 1) (drop 6 (lines text)) s.events read in
    let ls = lines text in
    let marks = same_marks a.0.f (max_faults s.shape) a.0.clients (client_count s.shape) a.0.faulty s.faulty_hosts s.faulty_clients f_is clients_is hosts_are others_are
    (header_fits (slice_get ls 0) (slice_get ls 1) (slice_get ls 2) (slice_get ls 3) (slice_get ls 4) (slice_get ls 5) a.0 a.1) in
    record {
      hosts = marks.0;
      clients = marks.1;
      few = marks.2;
      events = all.each;
      count = omega (arith, all.count, length-drop 6 (lines text), lines_short text, h.0);
    }
