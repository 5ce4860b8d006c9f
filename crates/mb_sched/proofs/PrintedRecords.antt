-- A record whose parts are printed is read again.
use Rattle.std.proofs.Common.{◌≡◌, ℕ, ◌+◌, ◌-◌, ◌*◌, ◌^◌, Bool, true, false, List, [], ◌∷◌, ◌++◌, codes, Option, Some, Ok, refl, ap, ◌∙◌, arith, append_assoc}
use Rattle.std.specs.Prelude.{option_map}
use Rattle.std.specs.Fmt.{decimal}
use Rattle.std.specs.List.{flat_map, join_with_byte, AllByRecursion}
use Rattle.std.proofs.lemmas.List.Concat.{flat_map-cons}
use Rattle.hex.specs.Hex.{encode_lower}
use Rattle.mb_base.specs.Shapes.{Bytes, max_faults}
use Rattle.mb_msg.specs.declared.event.Event.{Event}
use Rattle.mb_msg.specs.declared.event.Event.TheVariants.{Given, Patience, Nudge}
use Rattle.mb_sched.specs.declared.configs.Config.{Config}
use Rattle.mb_sched.specs.declared.records.Entry.{Entry}
use Rattle.mb_sched.specs.Words.{words, is, number_in, bytes_of}
use Rattle.mb_sched.specs.Lines.{lines, is_ended, read_line}
use Rattle.mb_sched.specs.Printing.{hex_word}
use Rattle.mb_sched.specs.ScheduleText.{line_text}
use Rattle.mb_sched.specs.Settings.{settings_text}
use Rattle.mb_sched.specs.Configs.{config_settings}
use Rattle.mb_sched.specs.Records.{event_said, entry_of, id_line, entries_from, record_of, with_entries, event_words, entry_text, record_head, record_text, EventFits, EntryFits, RecordFits}
use Rattle.mb_sched.proofs.PrintedHex.{bytes_of-hex_word, digest_of-encode_lower, IsWord-hex_word, IsWord-encode_lower}
use Rattle.mb_sched.proofs.PrintedNumbers.{number_in-decimal, IsWord-decimal}
use Rattle.mb_sched.proofs.PrintedWords.{IsWord, words-join}
use Rattle.mb_sched.proofs.PrintedLines.{Begins, line_begins, keyword_text, keyword_begins, keyword_again, then, settings_lines, settings_are, settings_again}
use Rattle.mb_sched.proofs.RecordParts.{all_read}

-- ---- an entry

abbrev pub event_bytes : Event → Bytes
event_bytes e = join_with_byte 32 (event_words e)

pub event_begins : (e : Event) (rest : Bytes) → EventFits e → Begins (event_bytes e) (line_text (event_words e) ++ rest) rest
event_begins (Given bytes) rest fits = keyword_begins (codes "given") (hex_word bytes) rest refl (IsWord-hex_word bytes fits)
event_begins Patience rest fits = line_begins (codes "patience") [] rest refl tt
event_begins Nudge rest fits = line_begins (codes "nudge") [] rest refl tt

pub event_again : (e : Event) → EventFits e → event_said (event_bytes e) ≡ Some e
event_again (Given bytes) fits =
    ap (λ (o : Option Bytes). option_map Given o) (keyword_again bytes_of (codes "given") (hex_word bytes) bytes refl refl (IsWord-hex_word bytes fits) (bytes_of-hex_word bytes fits))
event_again Patience fits = refl
event_again Nudge fits = refl

pub no_end : (e : Event) → is "end" (event_bytes e) ≡ false
no_end (Given bytes) = refl
no_end Patience = refl
no_end Nudge = refl

abbrev pub sent_words : Entry → List Bytes
sent_words e = codes "sent" ∷ decimal e.count ∷ encode_lower e.digest ∷ []

abbrev pub sent_bytes : Entry → Bytes
sent_bytes e = join_with_byte 32 (sent_words e)

pub sent_are : (e : Entry) → EntryFits e → AllByRecursion IsWord (decimal e.count ∷ encode_lower e.digest ∷ [])
sent_are e fits = let count = fits.count in (IsWord-decimal e.count (omega (arith, count)), (IsWord-encode_lower e.digest fits.digest_bytes, tt))

sent_again : (e : Entry) → EntryFits e → entry_of e.event (words (sent_bytes e)) ≡ Some e
sent_again e fits =
    let count = fits.count in
    rw (
      words-join (codes "sent") (decimal e.count ∷ encode_lower e.digest ∷ []) refl (sent_are e fits),
      number_in-decimal 0 (2 ^ 32 - 1) e.count (omega (arith, count)) (omega arith) (omega (arith, count)),
      digest_of-encode_lower e.digest fits.digest_bytes fits.digest_length,
    ) refl

entry_lines : (e : Entry) (rest : Bytes) → EntryFits e → (lines (entry_text e ++ rest) ≡ event_bytes e.event ∷ sent_bytes e ∷ lines rest) × (is_ended (entry_text e ++ rest) ≡ is_ended rest)
unfolding entry_text
entry_lines e rest fits =
    let first : Bytes = line_text (event_words e.event) in
    let second : Bytes = line_text (sent_words e) in
    let b1 = event_begins e.event (second ++ rest) fits.event in
    let b2 = line_begins (codes "sent") (decimal e.count ∷ encode_lower e.digest ∷ []) rest refl (sent_are e fits) in
    let e2 = then (sent_bytes e) (second ++ rest) rest [] rest b2 (refl, refl) in
    let e1 = then (event_bytes e.event) (first ++ (second ++ rest)) (second ++ rest) (sent_bytes e ∷ []) rest b1 e2 in
    let behind = append_assoc first second rest in
    (ap (λ (t : Bytes). lines t) behind ∙ e1.0, ap (λ (t : Bytes). is_ended t) behind ∙ e1.1)

-- ---- all entries

module _ (tail : Bytes) (right : (n : ℕ) → entries_from (is_ended tail) n (lines tail) ≡ Ok []) where
  pub entries_again : (n : ℕ) (es : List Entry) → AllByRecursion EntryFits es → entries_from (is_ended (flat_map entry_text es ++ tail)) n (lines (flat_map entry_text es ++ tail)) ≡ Ok es
  unfolding entries_from
  entries_again n [] fit = right n
  entries_again n (e ∷ es) fit =
      let rest : Bytes = flat_map entry_text es ++ tail in
      let two = entry_lines e rest fit.0 in
      let text : flat_map entry_text (e ∷ es) ++ tail ≡ entry_text e ++ rest = ap (λ (t : Bytes). t ++ tail) (flat_map-cons {X = Entry} entry_text e es) ∙ append_assoc (entry_text e) (flat_map entry_text es) tail in
      ap (λ (t : Bytes). entries_from (is_ended t) n (lines t)) text
      ∙ ap (λ (ended : Bool). entries_from ended n (lines (entry_text e ++ rest))) two.1
      ∙ ap (λ (ls : List Bytes). entries_from (is_ended rest) n ls) two.0
      ∙ rw (no_end e.event, event_again e.event fit.0.event, sent_again e fit.0, entries_again (n + 2) es fit.1) refl

abbrev pub tail_of : Bool → Bytes
tail_of true = codes "end\n"
tail_of false = []

right_tail : (stopped : Bool) (n : ℕ) → entries_from (is_ended (tail_of stopped)) n (lines (tail_of stopped)) ≡ Ok []
unfolding entries_from
right_tail true n = refl
right_tail false n = refl

-- ---- the record

module _ (c : Config) (id : ℕ) (entries : List Entry) (fits : RecordFits c id entries) where
  abbrev titled : Bytes
  titled = codes "minbft record 2\n"

  abbrev title : Bytes
  title = codes "minbft record 2"

  abbrev id_bytes : Bytes
  id_bytes = line_text (codes "id" ∷ decimal id ∷ [])

  -- all behind the head
  pub head_lines : (rest : Bytes) → (lines (titled ++ (settings_text c.shape c.secret c.port ++ (id_bytes ++ rest))) ≡ settings_lines title c.shape c.secret c.port ++ (keyword_text (codes "id") (decimal id) ∷ lines rest))
      × (is_ended (titled ++ (settings_text c.shape c.secret c.port ++ (id_bytes ++ rest))) ≡ is_ended rest)
  head_lines rest =
      let port = fits.settings.port in
      let host = fits.host in
      let is = settings_are title titled (λ behind. refl) refl c.shape c.secret c.port fits.settings.secret_bytes port.0 port.1 (id_bytes ++ rest) in
      let b = keyword_begins (codes "id") (decimal id) rest refl (IsWord-decimal id (omega (arith, host))) in
      (is.0 ∙ ap (λ (ls : List Bytes). settings_lines title c.shape c.secret c.port ++ ls) b.first, is.1 ∙ b.end)

  id_again : read_line 7 (id_line (max_faults c.shape)) (Some (keyword_text (codes "id") (decimal id))) ≡ Ok id
  id_again =
      let host = fits.host in
      rw (keyword_again (number_in 0 (2 * max_faults c.shape)) (codes "id") (decimal id) id refl refl (IsWord-decimal id (omega (arith, host))) (number_in-decimal 0 (2 * max_faults c.shape) id (omega (arith, host)) (omega arith) (omega (arith, host)))) refl

  pub by_parts : (text rest : Bytes) → lines text ≡ settings_lines title c.shape c.secret c.port ++ (keyword_text (codes "id") (decimal id) ∷ lines rest) → is_ended text ≡ is_ended rest
      → entries_from (is_ended rest) 8 (lines rest) ≡ Ok entries → record_of text ≡ Ok (with_entries (config_settings c) id entries)
  by_parts text rest is ended tail =
      let port = fits.settings.port in
      let head = settings_again title titled (λ behind. refl) refl c.shape c.secret c.port fits.settings.secret_bytes port.0 port.1 fits.settings.secret_length (keyword_text (codes "id") (decimal id) ∷ lines rest) in
      all_read text (config_settings c) (rw is head) id (rw is id_again) entries (rw (is, ended) tail)

pub head_is : (c : Config) (id : ℕ) (rest : Bytes) → record_head c id ++ rest ≡ codes "minbft record 2\n" ++ (settings_text c.shape c.secret c.port ++ (line_text (codes "id" ∷ decimal id ∷ []) ++ rest))
unfolding record_head
head_is c id rest =
    append_assoc (codes "minbft record 2\n") (settings_text c.shape c.secret c.port ++ line_text (codes "id" ∷ decimal id ∷ [])) rest
    ∙ ap (λ (t : Bytes). codes "minbft record 2\n" ++ t) (append_assoc (settings_text c.shape c.secret c.port) (line_text (codes "id" ∷ decimal id ∷ [])) rest)

tail_is : (stopped : Bool) (c : Config) (id : ℕ) (entries : List Entry) → record_text stopped c id entries ≡ record_head c id ++ (flat_map entry_text entries ++ tail_of stopped)
tail_is true c id entries = refl
tail_is false c id entries = refl

pub record_again : (stopped : Bool) (c : Config) (id : ℕ) (entries : List Entry) → RecordFits c id entries → record_of (record_text stopped c id entries) ≡ Ok (with_entries (config_settings c) id entries)
record_again stopped c id entries fits =
    let rest : Bytes = flat_map entry_text entries ++ tail_of stopped in
    let is = head_lines c id entries fits rest in
    ap (λ (t : Bytes). record_of t) (tail_is stopped c id entries ∙ head_is c id rest)
    ∙ by_parts c id entries fits _ rest is.0 is.1 (entries_again (tail_of stopped) (right_tail stopped) 8 entries fits.entries_fit)
