-- A schedule that is printed is read again.
use Rattle.std.proofs.Common.{◌≡◌, ℕ, suc, ◌+◌, ◌-◌, ◌*◌, ◌^◌, ◌<◌, ◌≤◌, leb, Bool, true, false, List, [], ◌∷◌, ◌++◌, length, map, drop, codes, Some, Result, Ok, refl, ap, ◌∙◌, arith}
use Rattle.std.specs.Prelude.{slice_get}
use Rattle.std.specs.Fmt.{decimal}
use Rattle.std.specs.List.{flat_map, join_with_byte, AllByRecursion, count_by}
use Rattle.std.proofs.lemmas.Bool.{and_from, le-leb}
use Rattle.std.proofs.lemmas.List.{length-map}
use Rattle.std.proofs.lemmas.List.Concat.{flat_map-cons}
use Rattle.hex.specs.Hex.{IsBytes, encode_lower}
use Rattle.mb_base.specs.Limits.{batch_limit, most_faults, least_interval, most_interval, most_clients}
use Rattle.mb_base.specs.Shapes.{Bytes, max_faults, interval, client_count, host_count, tally}
use Rattle.mb_base.specs.declared.shape.Shape.{Shape}
use Rattle.mb_parts.specs.Fits.{IsCounter, IsPlace, IsPosition}
use Rattle.mb_sched.specs.declared.header.Marks.{Marks}
use Rattle.mb_schedule.specs.declared.schedule.Name.{Name}
use Rattle.mb_schedule.specs.declared.schedule.Name.TheVariants as name
use Rattle.mb_schedule.specs.declared.schedule.Schedule.{Schedule}
use Rattle.mb_schedule.specs.declared.schedule.WorldEvent.{WorldEvent}
use Rattle.mb_schedule.specs.declared.schedule.WorldEvent.TheVariants.{Ask, Give, Take, Raw, Patience, Nudge, Sign, TagReply, TagWish, StampPrepare, StampCommit, StampCheckpoint, StampChange, StampAs, StampRaw}
use Rattle.mb_sched.specs.Words.{words, digest_of, host_in, client_in, name_in, all_of}
use Rattle.mb_sched.specs.Lines.{◌>>=◌, lines, is_ended, read_line}
use Rattle.mb_sched.specs.TextLines.{all_lines}
use Rattle.mb_sched.specs.Headers.{is_host_name, rise, are_faulty, marks_of, faulty_line, header_by, header_of, HeaderContents}
use Rattle.mb_sched.specs.EventLines.{message_in, seq_in, place_in, place_from_1, numbers_of, messages_of, event_line}
use Rattle.mb_sched.specs.Schedules.{Contents, with_events, events_from, schedule_of, contents}
use Rattle.mb_schedule.specs.Limits.{NameFits, EventFits, IsSchedule}
use Rattle.mb_sched.specs.Printing.{host_name, client_name}
use Rattle.mb_sched.specs.ScheduleText.{line_text, name_text, marked, event_words, event_text, schedule_text, IsPrintable, KeepsLimits}
use Rattle.mb_sched.proofs.FaultyMarks.{mark_at, marked_rise, hosts_named, host_marks, client_marks}
use Rattle.mb_sched.proofs.PrintedHex.{bytes_of-hex_word, operation_of-hex_word, digest_of-encode_lower, IsWord-encode_lower, IsWord-hex_word}
use Rattle.mb_sched.proofs.PrintedLines.{Begins, by_piece, line_begins, keyword_text, keyword_begins, keyword_again, number_again}
use Rattle.mb_sched.proofs.PrintedNumbers.{number_in-decimal, IsWord-decimal}
use Rattle.mb_sched.proofs.PrintedWords.{IsWord, words-join}
use Rattle.mb_sched.proofs.ReadWords.{all_of-append}

-- ---- lines

-- the first line of a text, and its words
pub record First (ws : List Bytes) (rest : Bytes) : Type 0 where
  pub words_are : words (join_with_byte 32 ws) ≡ ws
  pub begins : Begins (join_with_byte 32 ws) (line_text ws ++ rest) rest

first_of : (ws : List Bytes) (rest : Bytes) → 0 < length ws → AllByRecursion IsWord ws → First ws rest
first_of [] rest some are = absurd (omega arith)
first_of (word ∷ more) rest some are = record {
  words_are = words-join word more are.0 are.1;
  begins = line_begins word more rest are.0 are.1;
}

-- ---- events

host_in-host_name : (hosts host : ℕ) → hosts ≤ 2 ^ 64 → host < hosts → host_in hosts (host_name host) ≡ Some host
host_in-host_name hosts host few lt = number_in-decimal 0 (hosts - 1) host (omega arith) (omega arith) (omega arith)

client_in-client_name : (clients client : ℕ) → clients ≤ 2 ^ 64 → client < clients → client_in clients (client_name client) ≡ Some client
client_in-client_name clients client few lt = number_in-decimal 0 (clients - 1) client (omega arith) (omega arith) (omega arith)

numbers_again : (numbers : List ℕ) → AllByRecursion (λ m. m < 2 ^ 64) numbers → numbers_of (map decimal numbers) ≡ Some numbers
numbers_again [] fit = refl
numbers_again (m ∷ more) fit = rw (number_in-decimal 0 (2 ^ 64 - 1) m fit.0 (omega arith) (let lt = fit.0 in omega (arith, lt)), numbers_again more fit.1) refl

messages_again : (numbers : List ℕ) → AllByRecursion (λ m. m < 2 ^ 64) numbers → 1 ≤ length numbers → length numbers ≤ batch_limit → messages_of (map decimal numbers) ≡ Some numbers
messages_again numbers fit low high =
    rw (length-map numbers decimal, le-leb 1 (length numbers) low, le-leb (length numbers) batch_limit high) (numbers_again numbers fit)

words_of_numbers : (numbers : List ℕ) → AllByRecursion (λ m. m < 2 ^ 64) numbers → AllByRecursion IsWord (map decimal numbers)
words_of_numbers [] fit = tt
words_of_numbers (m ∷ more) fit = (IsWord-decimal m fit.0, words_of_numbers more fit.1)

message_again : (m : ℕ) → m < 2 ^ 64 → message_in (decimal m) ≡ Some m
message_again m lt = number_in-decimal 0 (2 ^ 64 - 1) m lt (omega arith) (omega arith)

seq_again : (m : ℕ) → IsCounter m → seq_in (decimal m) ≡ Some m
seq_again m fits = let low = fits.0 in let high = fits.1 in number_in-decimal 1 (2 ^ 64 - 1) m high low (omega arith)

place_again : (m : ℕ) → IsPlace m → place_in (decimal m) ≡ Some m
place_again m lt = number_in-decimal 0 (2 ^ 63 - 1) m (omega arith) (omega arith) (omega arith)

position_again : (m : ℕ) → IsPosition m → place_from_1 (decimal m) ≡ Some m
position_again m fits = let low = fits.0 in let high = fits.1 in number_in-decimal 1 (2 ^ 63 - 1) m (omega arith) low (omega arith)

place_is_word : (m : ℕ) → IsPlace m → IsWord (decimal m)
place_is_word m lt = IsWord-decimal m (omega arith)

position_is_word : (m : ℕ) → IsPosition m → IsWord (decimal m)
position_is_word m fits = place_is_word m fits.1

module _ (s : Shape) where
  abbrev hosts : ℕ
  hosts = host_count s

  abbrev clients : ℕ
  clients = client_count s

  host_again : (h : ℕ) → h < hosts → host_in hosts (host_name h) ≡ Some h
  host_again h lt = host_in-host_name hosts h (omega arith) lt

  client_again : (c : ℕ) → c < clients → client_in clients (client_name c) ≡ Some c
  client_again c lt = client_in-client_name clients c (omega arith) lt

  host_is_word : (h : ℕ) → h < hosts → IsWord (host_name h)
  host_is_word h lt = IsWord-decimal h (omega arith)

  client_is_word : (c : ℕ) → c < clients → IsWord (client_name c)
  client_is_word c lt = IsWord-decimal c (omega arith)

  name_again : (n : Name) → NameFits s n → name_in hosts clients (name_text n) ≡ Some n
  name_again (name.Host h) lt = rw (host_again h lt) refl
  name_again (name.Client c) lt = rw (client_again c lt) refl

  name_is_word : (n : Name) → NameFits s n → IsWord (name_text n)
  name_is_word (name.Host h) lt = host_is_word h lt
  name_is_word (name.Client c) lt = client_is_word c lt

  event_line-event_words : (e : WorldEvent) → EventFits s e → IsPrintable e → event_line hosts clients (event_words e) ≡ Some e
  unfolding event_line
  event_line-event_words (Ask client op) fits bytes = rw (client_again client fits.0, operation_of-hex_word op bytes fits.1) refl
  event_line-event_words (Give message host) fits lt = rw (message_again message lt, host_again host fits) refl
  event_line-event_words (Take message client) fits lt = rw (message_again message lt, client_again client fits) refl
  event_line-event_words (Raw who bytes) fits are = rw (name_again who fits, bytes_of-hex_word bytes are) refl
  event_line-event_words (Patience host) fits _ = rw (host_again host fits) refl
  event_line-event_words (Nudge host) fits _ = rw (host_again host fits) refl
  event_line-event_words (Sign client seq op) fits bytes = rw (client_again client fits.0, seq_again seq fits.1.0, operation_of-hex_word op bytes fits.1.1) refl
  event_line-event_words (TagReply host client seq pos result) fits bytes =
      rw (host_again host fits.0, client_again client fits.1.0, seq_again seq fits.1.1.0, place_again pos fits.1.1.1.0, operation_of-hex_word result bytes fits.1.1.1.1) refl
  event_line-event_words (TagWish host view) fits _ = rw (host_again host fits.0, position_again view fits.1) refl
  event_line-event_words (StampPrepare host view pos messages) fits lt =
      rw (host_again host fits.0, place_again view fits.1.0, position_again pos fits.1.1.0, messages_again messages lt fits.1.1.1.0 fits.1.1.1.1) refl
  event_line-event_words (StampCommit host message) fits lt = rw (host_again host fits, message_again message lt) refl
  event_line-event_words (StampCheckpoint host pos digest) fits bytes = rw (host_again host fits.0, position_again pos fits.1.0, digest_of-encode_lower digest bytes fits.1.1) refl
  event_line-event_words (StampChange host view counter) fits _ = rw (host_again host fits.0, position_again view fits.1.0, message_again counter fits.1.1) refl
  event_line-event_words (StampAs host message) fits lt = rw (host_again host fits, message_again message lt) refl
  event_line-event_words (StampRaw host bytes) fits are = rw (host_again host fits, bytes_of-hex_word bytes are) refl

  event_words-are : (e : WorldEvent) → EventFits s e → IsPrintable e → AllByRecursion IsWord (event_words e)
  event_words-are (Ask client op) fits bytes = (refl, (client_is_word client fits.0, (IsWord-hex_word op bytes, tt)))
  event_words-are (Give message host) fits lt = (refl, (IsWord-decimal message lt, (host_is_word host fits, tt)))
  event_words-are (Take message client) fits lt = (refl, (IsWord-decimal message lt, (client_is_word client fits, tt)))
  event_words-are (Raw who bytes) fits are = (refl, (name_is_word who fits, (IsWord-hex_word bytes are, tt)))
  event_words-are (Patience host) fits _ = (refl, (host_is_word host fits, tt))
  event_words-are (Nudge host) fits _ = (refl, (host_is_word host fits, tt))
  event_words-are (Sign client seq op) fits bytes = (refl, (client_is_word client fits.0, (IsWord-decimal seq fits.1.0.1, (IsWord-hex_word op bytes, tt))))
  event_words-are (TagReply host client seq pos result) fits bytes =
      (refl, (host_is_word host fits.0, (refl, (client_is_word client fits.1.0, (IsWord-decimal seq fits.1.1.0.1, (place_is_word pos fits.1.1.1.0, (IsWord-hex_word result bytes, tt)))))))
  event_words-are (TagWish host view) fits _ = (refl, (host_is_word host fits.0, (refl, (position_is_word view fits.1, tt))))
  event_words-are (StampPrepare host view pos messages) fits lt =
      (refl, (host_is_word host fits.0, (refl, (place_is_word view fits.1.0, (position_is_word pos fits.1.1.0, words_of_numbers messages lt)))))
  event_words-are (StampCommit host message) fits lt = (refl, (host_is_word host fits, (refl, (IsWord-decimal message lt, tt))))
  event_words-are (StampCheckpoint host pos digest) fits bytes = (refl, (host_is_word host fits.0, (refl, (position_is_word pos fits.1.0, (IsWord-encode_lower digest bytes, tt)))))
  event_words-are (StampChange host view counter) fits _ = (refl, (host_is_word host fits.0, (refl, (position_is_word view fits.1.0, (IsWord-decimal counter fits.1.1, tt)))))
  event_words-are (StampAs host message) fits lt = (refl, (host_is_word host fits, (refl, (IsWord-decimal message lt, tt))))
  event_words-are (StampRaw host bytes) fits are = (refl, (host_is_word host fits, (refl, (IsWord-hex_word bytes are, tt))))

  some_words : (e : WorldEvent) → 0 < length (event_words e)
  some_words (Ask client op) = omega arith
  some_words (Give message host) = omega arith
  some_words (Take message client) = omega arith
  some_words (Raw who bytes) = omega arith
  some_words (Patience host) = omega arith
  some_words (Nudge host) = omega arith
  some_words (Sign client seq op) = omega arith
  some_words (TagReply host client seq pos result) = omega arith
  some_words (TagWish host view) = omega arith
  some_words (StampPrepare host view pos messages) = omega arith
  some_words (StampCommit host message) = omega arith
  some_words (StampCheckpoint host pos digest) = omega arith
  some_words (StampChange host view counter) = omega arith
  some_words (StampAs host message) = omega arith
  some_words (StampRaw host bytes) = omega arith

  events_again : (n : ℕ) (events : List WorldEvent) → ((k : ℕ) (e : WorldEvent) → slice_get events k ≡ Some e → EventFits s e) → AllByRecursion IsPrintable events
      → events_from hosts clients (is_ended (flat_map event_text events)) n (lines (flat_map event_text events)) ≡ Ok events
  unfolding all_lines
  events_again n [] fit printable = refl
  events_again n (event ∷ events) fit printable =
      let rest : Bytes = flat_map event_text events in
      let first = first_of (event_words event) rest (some_words event) (event_words-are event (fit 0 event refl) printable.0) in
      ap (λ (text : Bytes). events_from hosts clients (is_ended text) n (lines text)) (flat_map-cons {X = WorldEvent} event_text event events)
      ∙ ap (λ (ended : Bool). events_from hosts clients ended n (lines (event_text event ++ rest))) first.begins.end
      ∙ ap (λ (ls : List Bytes). events_from hosts clients (is_ended rest) n ls) first.begins.first
      ∙ rw (first.words_are, event_line-event_words event (fit 0 event refl) printable.0, events_again (n + 1) events (λ k e at. fit (suc k) e at) printable.1) refl

-- ---- who is faulty

module _ (s : Shape) where
  hosts_again : (n : ℕ) (marks : List Bool) → n + length marks ≤ host_count s → all_of (name_in (host_count s) (client_count s)) (marked host_name n marks) ≡ Some (marked name.Host n marks)
  hosts_again n [] few = refl
  hosts_again n (true ∷ marks) few = rw (name_again s (name.Host n) (omega arith), hosts_again (n + 1) marks (omega arith)) refl
  hosts_again n (false ∷ marks) few = hosts_again (n + 1) marks (omega arith)

  clients_again : (m : ℕ) (marks : List Bool) → m + length marks ≤ client_count s → all_of (name_in (host_count s) (client_count s)) (marked client_name m marks) ≡ Some (marked name.Client m marks)
  clients_again m [] few = refl
  clients_again m (true ∷ marks) few = rw (name_again s (name.Client m) (omega arith), clients_again (m + 1) marks (omega arith)) refl
  clients_again m (false ∷ marks) few = clients_again (m + 1) marks (omega arith)

  hosts_are_words : (n : ℕ) (marks : List Bool) → n + length marks ≤ host_count s → AllByRecursion IsWord (marked host_name n marks)
  hosts_are_words n [] few = tt
  hosts_are_words n (true ∷ marks) few = (host_is_word s n (omega arith), hosts_are_words (n + 1) marks (omega arith))
  hosts_are_words n (false ∷ marks) few = hosts_are_words (n + 1) marks (omega arith)

  clients_are_words : (m : ℕ) (marks : List Bool) → m + length marks ≤ client_count s → AllByRecursion IsWord (marked client_name m marks)
  clients_are_words m [] few = tt
  clients_are_words m (true ∷ marks) few = (client_is_word s m (omega arith), clients_are_words (m + 1) marks (omega arith))
  clients_are_words m (false ∷ marks) few = clients_are_words (m + 1) marks (omega arith)

both_words : (vs ws : List Bytes) → AllByRecursion IsWord vs → AllByRecursion IsWord ws → AllByRecursion IsWord (vs ++ ws)
both_words [] ws first second = second
both_words (v ∷ vs) ws first second = (first.0, both_words vs ws first.1 second)

-- the names in the line of whom is faulty
abbrev faulty_words : Schedule → List Bytes
faulty_words s = marked host_name 0 s.faulty_hosts ++ marked client_name 0 s.faulty_clients

faulty_are_words : (s : Schedule) → IsSchedule s → AllByRecursion IsWord (faulty_words s)
faulty_are_words s fits =
    both_words (marked host_name 0 s.faulty_hosts) (marked client_name 0 s.faulty_clients)
    (hosts_are_words s.shape 0 s.faulty_hosts (let e = fits.hosts in omega (arith, e)))
    (clients_are_words s.shape 0 s.faulty_clients (let e = fits.clients in omega (arith, e)))

abbrev marks_in : Schedule → Marks
marks_in s = record { hosts = s.faulty_hosts; clients = s.faulty_clients }

abbrev faulty_names : Schedule → List Name
faulty_names s = marked name.Host 0 s.faulty_hosts ++ marked name.Client 0 s.faulty_clients

are_named : (s : Schedule) → IsSchedule s → are_faulty (max_faults s.shape) (faulty_names s) ≡ true
unfolding are_faulty
are_named s fits =
    let e = hosts_named 0 s.faulty_hosts s.faulty_clients in
    let many = fits.hosts in
    let few : tally (mark_at s.faulty_hosts) (length s.faulty_hosts) ≤ max_faults s.shape = rw many fits.few in
    and_from (rise (faulty_names s)) (leb (count_by is_host_name (faulty_names s)) (max_faults s.shape)) (marked_rise s.faulty_clients 0 s.faulty_hosts)
    (le-leb _ _ (omega (arith, e, few)))

marks_are : (s : Schedule) → IsSchedule s → marks_of (host_count s.shape) (client_count s.shape) (faulty_names s) ≡ marks_in s
marks_are s fits = rw (← fits.hosts, ← fits.clients, host_marks s.faulty_hosts s.faulty_clients, client_marks s.faulty_hosts s.faulty_clients) refl

faulty_again : (s : Schedule) → IsSchedule s
    → read_line 6 (faulty_line (max_faults s.shape) (client_count s.shape)) (Some (join_with_byte 32 (codes "faulty" ∷ faulty_words s))) ≡ Ok (marks_in s)
faulty_again s fits =
    let read = all_of-append (name_in (host_count s.shape) (client_count s.shape)) (marked host_name 0 s.faulty_hosts) (marked client_name 0 s.faulty_clients) (marked name.Host 0 s.faulty_hosts) (marked name.Client 0 s.faulty_clients)
    (hosts_again s.shape 0 s.faulty_hosts (let e = fits.hosts in omega (arith, e))) (clients_again s.shape 0 s.faulty_clients (let e = fits.clients in omega (arith, e))) in
    rw (words-join (codes "faulty") (faulty_words s) refl (faulty_are_words s fits), read, are_named s fits, marks_are s fits) refl

-- ---- the header

-- a text of a header and what stands behind it
abbrev text_of : ℕ → ℕ → ℕ → Bytes → List Bytes → Bytes → Bytes
text_of f k clients secret names rest =
    codes "minbft schedule 2\n"
    ++ (line_text (codes "f" ∷ decimal f ∷ [])
    ++ (line_text (codes "k" ∷ decimal k ∷ [])
    ++ (line_text (codes "clients" ∷ decimal clients ∷ [])
    ++ (line_text (codes "secret" ∷ encode_lower secret ∷ [])
    ++ (line_text (codes "faulty" ∷ names) ++ rest)))))

abbrev lines_of : ℕ → ℕ → ℕ → Bytes → List Bytes → List Bytes
lines_of f k clients secret names =
    codes "minbft schedule 2" ∷ keyword_text (codes "f") (decimal f) ∷ keyword_text (codes "k") (decimal k) ∷ keyword_text (codes "clients") (decimal clients)
    ∷ keyword_text (codes "secret") (encode_lower secret) ∷ join_with_byte 32 (codes "faulty" ∷ names) ∷ []

module _ (f k clients : ℕ) (secret : Bytes) (names : List Bytes) (rest : Bytes) (f_lt : f < 2 ^ 64) (k_lt : k < 2 ^ 64) (clients_lt : clients < 2 ^ 64) (fits : IsBytes secret) (are : AllByRecursion IsWord names) where
  header_lines : (lines (text_of f k clients secret names rest) ≡ lines_of f k clients secret names ++ lines rest) × (is_ended (text_of f k clients secret names rest) ≡ is_ended rest)
  header_lines =
      let l6 : Bytes = line_text (codes "faulty" ∷ names) ++ rest in
      let l5 : Bytes = line_text (codes "secret" ∷ encode_lower secret ∷ []) ++ l6 in
      let l4 : Bytes = line_text (codes "clients" ∷ decimal clients ∷ []) ++ l5 in
      let l3 : Bytes = line_text (codes "k" ∷ decimal k ∷ []) ++ l4 in
      let l2 : Bytes = line_text (codes "f" ∷ decimal f ∷ []) ++ l3 in
      let b1 = by_piece (codes "minbft schedule 2") (codes "minbft schedule 2\n" ++ l2) l2 refl in
      let b2 = keyword_begins (codes "f") (decimal f) l3 refl (IsWord-decimal f f_lt) in
      let b3 = keyword_begins (codes "k") (decimal k) l4 refl (IsWord-decimal k k_lt) in
      let b4 = keyword_begins (codes "clients") (decimal clients) l5 refl (IsWord-decimal clients clients_lt) in
      let b5 = keyword_begins (codes "secret") (encode_lower secret) l6 refl (IsWord-encode_lower secret fits) in
      let b6 = line_begins (codes "faulty") names rest refl are in (
        b1.first ∙ ap (λ (ls : List Bytes). codes "minbft schedule 2" ∷ ls) (b2.first ∙ ap (λ (ls : List Bytes). keyword_text (codes "f") (decimal f) ∷ ls)
            (b3.first ∙ ap (λ (ls : List Bytes). keyword_text (codes "k") (decimal k) ∷ ls) (b4.first ∙ ap (λ (ls : List Bytes). keyword_text (codes "clients") (decimal clients) ∷ ls)
            (b5.first ∙ ap (λ (ls : List Bytes). keyword_text (codes "secret") (encode_lower secret) ∷ ls) b6.first)))),
        b1.end ∙ b2.end ∙ b3.end ∙ b4.end ∙ b5.end ∙ b6.end,
      )

  header_again : (marks : Marks) → read_line 6 (faulty_line f clients) (Some (join_with_byte 32 (codes "faulty" ∷ names))) ≡ Ok marks
      → 1 ≤ f → f ≤ most_faults → least_interval ≤ k → k ≤ most_interval → 1 ≤ clients → clients ≤ most_clients → length secret ≡ 32
      → header_of (lines_of f k clients secret names ++ lines rest) ≡ Ok (record { f = f; k = k; clients = clients; secret = secret; faulty = marks })
  unfolding header_by
  header_again marks named f_low f_high k_low k_high c_low c_high len =
      rw (
        number_again 1 most_faults f (codes "f") refl refl f_lt f_low f_high,
        number_again least_interval most_interval k (codes "k") refl refl k_lt k_low k_high,
        number_again 1 most_clients clients (codes "clients") refl refl clients_lt c_low c_high,
        keyword_again digest_of (codes "secret") (encode_lower secret) secret refl refl (IsWord-encode_lower secret fits) (digest_of-encode_lower secret fits len),
        named,
      ) refl

-- what the lines of a text say, which is ended or not
abbrev read_lines : Bool → List Bytes → Result Contents ℕ
read_lines ended ls = header_of ls >>= λ header. events_from (2 * header.f + 1) header.clients ended 7 (drop 6 ls) >>= λ events. Ok (with_events header events)

by_lines : (text : Bytes) → schedule_of text ≡ read_lines (is_ended text) (lines text)
unfolding schedule_of
by_lines text = refl

lines_again : (f k clients : ℕ) (secret : Bytes) (names : List Bytes) (rest : Bytes) (events : List WorldEvent) (header : HeaderContents)
    → header_of (lines_of f k clients secret names ++ lines rest) ≡ Ok header
    → events_from (2 * header.f + 1) header.clients (is_ended rest) 7 (lines rest) ≡ Ok events → read_lines (is_ended rest) (lines_of f k clients secret names ++ lines rest) ≡ Ok (with_events header events)
lines_again f k clients secret names rest events header head tail = rw (head, tail) refl

pub schedule_again : (s : Schedule) → KeepsLimits s → schedule_of (schedule_text s) ≡ Ok (contents s)
unfolding schedule_text
schedule_again s keeps =
    let shape = s.shape in
    let f = max_faults shape in
    let k = interval shape in
    let clients = client_count shape in
    let names = faulty_words s in
    let are = faulty_are_words s keeps.fits in
    let rest : Bytes = flat_map event_text s.events in
    let text : Bytes = text_of f k clients s.secret names rest in
    let f_low : 1 ≤ f = omega arith in
    let f_high : f ≤ most_faults = omega arith in
    let k_low : least_interval ≤ k = omega arith in
    let k_high : k ≤ most_interval = omega arith in
    let c_low : 1 ≤ clients = omega arith in
    let c_high : clients ≤ most_clients = omega arith in
    let ls = header_lines f k clients s.secret names rest (omega arith) (omega arith) (omega arith) keeps.secret_bytes are in
    let header = header_again f k clients s.secret names rest (omega arith) (omega arith) (omega arith) keeps.secret_bytes are (marks_in s) (faulty_again s keeps.fits) f_low f_high k_low k_high c_low c_high keeps.secret_length in
    let events = events_again shape 7 s.events keeps.fits.events keeps.printable in
    by_lines text
    ∙ ap (λ (ended : Bool). read_lines ended (lines text)) ls.1
    ∙ ap (λ (found : List Bytes). read_lines (is_ended rest) found) ls.0
    ∙ lines_again f k clients s.secret names rest s.events (record { f = f; k = k; clients = clients; secret = s.secret; faulty = marks_in s }) header events
