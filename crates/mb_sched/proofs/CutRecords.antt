-- A record that was cut off behind its head is read as far as it has whole pairs of lines.
use Rattle.std.proofs.Common.{◌≡◌, ℕ, ◌+◌, ◌<◌, ◌≤◌, Bool, true, false, List, [], ◌∷◌, ◌++◌, length, codes, Ok, refl, sym, ap, ◌∙◌, arith, append_assoc, length-append, inl, inr}
use Rattle.std.specs.List.{flat_map, AllByRecursion}
use Rattle.std.proofs.lemmas.Bool.{cases_lt}
use Rattle.std.proofs.lemmas.List.Concat.{flat_map-cons}
use Rattle.std.specs.Fmt.{decimal}
use Rattle.hex.specs.Hex.{encode_lower}
use Rattle.mb_base.specs.Shapes.{Bytes}
use Rattle.mb_msg.specs.declared.event.Event.{Event}
use Rattle.mb_msg.specs.declared.event.Event.TheVariants.{Given, Patience, Nudge}
use Rattle.mb_sched.specs.declared.configs.Config.{Config}
use Rattle.mb_sched.specs.declared.records.Entry.{Entry}
use Rattle.mb_sched.specs.Words.{pieces}
use Rattle.mb_sched.specs.Lines.{lines, is_ended}
use Rattle.mb_sched.specs.Printing.{hex_word}
use Rattle.mb_sched.specs.ScheduleText.{line_text}
use Rattle.mb_sched.specs.Records.{entries_from, record_of, event_words, entry_text, record_head, entries_text, EventFits, EntryFits, RecordFits, IsShort, ReadsWholePairs}
use Rattle.mb_sched.proofs.Pieces.{no_line}
use Rattle.mb_sched.proofs.PrintedHex.{IsWord-hex_word}
use Rattle.mb_sched.proofs.PrintedWords.{cut_line-piece}
use Rattle.mb_sched.proofs.PrintedRecords.{event_bytes, event_begins, event_again, no_end, sent_words, sent_bytes, sent_are, entries_again, tail_of, head_lines, head_is, by_parts}

-- ---- lists that begin alike

pub split_front : {A : Type 0} (part rest xs ys : List A) → part ++ rest ≡ xs ++ ys → length part ≤ length xs → (more : List A) × (part ++ more ≡ xs)
split_front [] rest xs ys e le = (xs, refl)
split_front (p ∷ part) rest [] ys e le = absurd (omega (arith, le))
split_front (p ∷ part) rest (x ∷ xs) ys e le =
    let same : p ≡ x = cc in
    let behind : part ++ rest ≡ xs ++ ys = cc in
    let s = split_front part rest xs ys behind (omega (arith, le)) in
    (s.0, rw same (ap (λ l. x ∷ l) s.1))

split_behind : {A : Type 0} (part rest xs ys : List A) → part ++ rest ≡ xs ++ ys → length xs ≤ length part → (more : List A) × ((part ≡ xs ++ more) × (more ++ rest ≡ ys))
split_behind part rest [] ys e le = (part, (refl, e))
split_behind [] rest (x ∷ xs) ys e le = absurd (omega (arith, le))
split_behind (p ∷ part) rest (x ∷ xs) ys e le =
    let same : p ≡ x = cc in
    let behind : part ++ rest ≡ xs ++ ys = cc in
    let s = split_behind part rest xs ys behind (omega (arith, le)) in
    (s.0, (rw same (ap (λ l. x ∷ l) s.1.0), s.1.1))

-- ---- an entry of which the second line is not whole

-- behind the last whole pair
abbrev ReadsNone : Bytes → Type 0
ReadsNone cut = (n : ℕ) → entries_from (is_ended cut) n (lines cut) ≡ Ok []

event_cut : (e : Event) (part rest : Bytes) → EventFits e → part ++ rest ≡ event_bytes e → pieces 10 part ≡ part ∷ []
event_cut (Given bytes) part rest fits parts = cut_line-piece (codes "given") (hex_word bytes ∷ []) part rest refl (IsWord-hex_word bytes fits, tt) parts
event_cut Patience part rest fits parts = cut_line-piece (codes "patience") [] part rest refl tt parts
event_cut Nudge part rest fits parts = cut_line-piece (codes "nudge") [] part rest refl tt parts

sent_cut : (e : Entry) (part rest : Bytes) → EntryFits e → part ++ rest ≡ sent_bytes e → pieces 10 part ≡ part ∷ []
sent_cut e part rest fits parts = cut_line-piece (codes "sent") (decimal e.count ∷ encode_lower e.digest ∷ []) part rest refl (sent_are e fits) parts

-- one piece
no_lines_read : (cut : Bytes) → pieces 10 cut ≡ cut ∷ [] → ReadsNone cut
unfolding entries_from
no_lines_read cut one n = rw (no_line cut one) refl

-- the event's line, and one piece
line_read : (e : Event) (cut behind : Bytes) → EventFits e → cut ≡ line_text (event_words e) ++ behind → pieces 10 behind ≡ behind ∷ [] → ReadsNone cut
unfolding entries_from
line_read e cut behind fits is one n =
    let begins = event_begins e behind fits in
    let found : lines cut ≡ event_bytes e ∷ [] = ap (λ (t : Bytes). lines t) is ∙ begins.first ∙ ap (λ (ls : List Bytes). event_bytes e ∷ ls) (no_line behind one) in
    rw (found, no_end e, event_again e fits) refl

-- the event's line, and what stands behind it
abbrev sent_line : Entry → Bytes
sent_line e = line_text (sent_words e)

entry_cut : (e : Entry) (part rest : Bytes) → EntryFits e → part ++ rest ≡ entry_text e → length part < length (entry_text e) → ReadsNone part
unfolding entry_text
entry_cut e part rest fits parts short = elim (cases_lt (length (event_bytes e.event)) (length part)) [
  | inr within ↦
      let joined : part ++ rest ≡ event_bytes e.event ++ (10 ∷ sent_line e) = parts ∙ append_assoc (event_bytes e.event) (10 ∷ []) (sent_line e) in
      let front = split_front part rest (event_bytes e.event) (10 ∷ sent_line e) joined within in
      no_lines_read part (event_cut e.event part front.0 fits.event front.1)
  | inl beyond ↦
      let len : length (line_text (event_words e.event)) ≡ length (event_bytes e.event) + 1 = length-append (event_bytes e.event) (10 ∷ []) in
      let behind = split_behind part rest (line_text (event_words e.event)) (sent_line e) parts (omega (arith, len, beyond)) in
      let all = ap length behind.1.0 in
      let most : length behind.0 ≤ length (sent_bytes e) =
      omega (arith, short, all, length-append (line_text (event_words e.event)) behind.0, length-append (line_text (event_words e.event)) (sent_line e), length-append (sent_bytes e) (10 ∷ [])) in
      let front = split_front behind.0 rest (sent_bytes e) (10 ∷ []) behind.1.1 most in
      line_read e.event part behind.0 fits.event behind.1.0 (sent_cut e behind.0 front.0 fits front.1)
]

-- ---- the line `end`

end_cut : (stopped : Bool) (part rest : Bytes) → part ++ rest ≡ tail_of stopped → ReadsNone part
unfolding entries_from
end_cut stopped [] rest e n = refl
end_cut false (a ∷ part) rest e n = absurd cc
end_cut true (a ∷ []) rest e n = let first : a ≡ 101 = cc in rw first refl
end_cut true (a ∷ b ∷ []) rest e n =
    let first : a ≡ 101 = cc in
    let second : b ≡ 110 = cc in
    rw (first, second) refl
end_cut true (a ∷ b ∷ c ∷ []) rest e n =
    let first : a ≡ 101 = cc in
    let second : b ≡ 110 = cc in
    let third : c ≡ 100 = cc in
    rw (first, second, third) refl
end_cut true (a ∷ b ∷ c ∷ d ∷ []) rest e n =
    let first : a ≡ 101 = cc in
    let second : b ≡ 110 = cc in
    let third : c ≡ 100 = cc in
    let fourth : d ≡ 10 = cc in
    rw (first, second, third, fourth) refl
end_cut true (a ∷ b ∷ c ∷ d ∷ x ∷ part) rest e n = absurd cc

-- ---- all entries

record CutAt (entries : List Entry) (part : Bytes) : Type 0 where
  whole : List Entry
  later : List Entry
  first : whole ++ later ≡ entries
  fit : AllByRecursion EntryFits whole
  cut : Bytes
  parts : part ≡ flat_map entry_text whole ++ cut
  short : IsShort cut later
  reads : ReadsNone cut

cut_at : (stopped : Bool) (entries : List Entry) → AllByRecursion EntryFits entries → (part rest : Bytes) → part ++ rest ≡ flat_map entry_text entries ++ tail_of stopped → CutAt entries part
cut_at stopped [] fit part rest is = record { whole = []; later = []; first = refl; fit = tt; cut = part; parts = refl; short = tt; reads = end_cut stopped part rest is }
cut_at stopped (e ∷ es) fit part rest is =
    let behind : Bytes = flat_map entry_text es ++ tail_of stopped in
    let all : part ++ rest ≡ entry_text e ++ behind = is ∙ ap (λ (t : Bytes). t ++ tail_of stopped) (flat_map-cons {X = Entry} entry_text e es) ∙ append_assoc (entry_text e) (flat_map entry_text es) (tail_of stopped) in
    elim (cases_lt (length part) (length (entry_text e))) [
      | inl short ↦
          let front = split_front part rest (entry_text e) behind all (omega (arith, short)) in
          record { whole = []; later = e ∷ es; first = refl; fit = tt; cut = part; parts = refl; short = short; reads = entry_cut e part front.0 fit.0 front.1 short }
      | inr long ↦
          let more = split_behind part rest (entry_text e) behind all long in
          let later = cut_at stopped es fit.1 more.0 rest more.1.1 in
          record {
            whole = e ∷ later.whole;
            later = later.later;
            first = ap (λ (l : List Entry). e ∷ l) later.first;
            fit = (fit.0, later.fit);
            cut = later.cut;
            parts =
                more.1.0 ∙ ap (λ (t : Bytes). entry_text e ++ t) later.parts ∙ sym (append_assoc (entry_text e) (flat_map entry_text later.whole) later.cut)
                ∙ ap (λ (t : Bytes). t ++ later.cut) (sym (flat_map-cons {X = Entry} entry_text e later.whole));
            short = later.short;
            reads = later.reads;
          }
    ]

-- ---- the record

tail_as : (stopped : Bool) (entries : List Entry) → entries_text stopped entries ≡ flat_map entry_text entries ++ tail_of stopped
tail_as true entries = refl
tail_as false entries = refl

whole_fit : (c : Config) (id : ℕ) (entries whole : List Entry) → RecordFits c id entries → AllByRecursion EntryFits whole → RecordFits c id whole
whole_fit c id entries whole fits fit = record { settings = fits.settings; host = fits.host; entries_fit = fit }

pub cut_record : (stopped : Bool) (c : Config) (id : ℕ) (entries : List Entry) (part rest : Bytes) → RecordFits c id entries → part ++ rest ≡ entries_text stopped entries → ReadsWholePairs c id entries part
cut_record stopped c id entries part rest fits is =
    let at = cut_at stopped entries fits.entries_fit part rest (is ∙ tail_as stopped entries) in
    let fit = whole_fit c id entries at.whole fits at.fit in
    let text : Bytes = flat_map entry_text at.whole ++ at.cut in
    let head = head_lines c id at.whole fit text in
    record {
      whole = at.whole;
      later = at.later;
      first = at.first;
      cut = at.cut;
      parts = at.parts;
      short = at.short;
      read =
          ap (λ (t : Bytes). record_of (record_head c id ++ t)) at.parts
          ∙ ap (λ (t : Bytes). record_of t) (head_is c id text)
          ∙ by_parts c id at.whole fit _ text head.0 head.1 (entries_again at.cut at.reads 8 at.whole at.fit);
    }
