-- A text is read as a record exactly where it spells it.
use Rattle.std.proofs.Common.{◌≡◌, ℕ, ◌+◌, ◌-◌, ◌^◌, Bool, true, false, cond, List, [], ◌∷◌, drop, codes, Option, Some, None, Ok, refl, sym, ap, ◌∙◌, subst, ◌⊎◌, inl, inr}
use Rattle.std.specs.Prelude.{slice_get}
use Rattle.std.proofs.lemmas.Slice.Eq.{bytes_eq-Decides}
use Rattle.mb_base.specs.Shapes.{Bytes}
use Rattle.mb_msg.specs.declared.event.Event.{Event}
use Rattle.mb_sched.specs.declared.records.Entry.{Entry}
use Rattle.mb_sched.specs.Words.{words, is, number_in, digest_of}
use Rattle.mb_sched.specs.Lines.{lines, is_ended, ◌>>=◌, numbered, read_line}
use Rattle.mb_sched.specs.Settings.{settings_of}
use Rattle.mb_sched.specs.Records.{RecordContents, with_entries, event_said, entry_with, entry_of, entry_by, end_by, entries_from, id_line, record_of}
use Rattle.mb_sched.specs.Spellings.{SpellEntries, SpellsRecord}
use Rattle.mb_sched.proofs.ReadSteps.{bind_ok, ok_is, numbered_ok, line_ok, ok_line, allowed}
use Rattle.mb_sched.proofs.ReadWords.{some_is}
use Rattle.mb_sched.proofs.RecordParts.{all_read}

-- ---- lines

is_true : (b : Bool) → (b ≡ true) ⊎ (b ≡ false)
is_true true = inl refl
is_true false = inr refl

-- the line `end` is no event
end_is : (line : Bytes) → is "end" line ≡ true → line ≡ codes "end"
end_is line e = (bytes_eq-Decides line (codes "end")).0 e

no_event : (line : Bytes) → is "end" line ≡ true → event_said line ≡ None
no_event line e = ap (λ (l : Bytes). event_said l) (end_is line e)

not_end : (line : Bytes) (event : Event) → event_said line ≡ Some event → is "end" line ≡ false
not_end line event said = elim (is_true (is "end" line)) [
  | inl same ↦ let none = no_event line same in absurd cc
  | inr other ↦ other
]

with_event : (event : Event) (count : Option ℕ) (digest : Option Bytes) (e : Entry) → entry_with event count digest ≡ Some e → event ≡ e.event
with_event event (Some count) (Some digest) e h = ap (λ (x : Entry). x.event) (some_is (record { event = event; count = count; digest = digest }) e h)
with_event event (Some count) None e h = absurd cc
with_event event None digest e h = absurd cc

-- an entry has the event of its first line
same_event : (event : Event) (ws : List Bytes) (e : Entry) → entry_of event ws ≡ Some e → event ≡ e.event
same_event event (verb ∷ count ∷ digest ∷ []) e h = with_event event (number_in 0 (2 ^ 32 - 1) count) (digest_of digest) e (allowed (is "sent" verb) (entry_with event (number_in 0 (2 ^ 32 - 1) count) (digest_of digest)) e h).1
same_event event [] e h = absurd cc
same_event event (a ∷ []) e h = absurd cc
same_event event (a ∷ b ∷ []) e h = absurd cc
same_event event (a ∷ b ∷ c ∷ d ∷ ws) e h = absurd cc

-- ---- entries

over : (ended last : Bool) (n : ℕ) (line : Bytes) (es : List Entry) → is "end" line ≡ last → cond last (end_by [] ended n) (numbered n (event_said line) >>= λ event. Ok []) ≡ Ok es
    → SpellEntries ended (line ∷ []) es
over true true n line es word e = rw (← ok_is [] es e) (inl (end_is line word, refl))
over false true n line es word e = absurd cc
over ended false n line es word e =
    let a = bind_ok (numbered n (event_said line)) (λ event. Ok []) es e in
    rw (← ok_is [] es a.2) (inr (a.0, numbered_ok n (event_said line) a.0 a.1))

pub entries_said : (ended : Bool) (n : ℕ) (ls : List Bytes) (es : List Entry) → entries_from ended n ls ≡ Ok es → SpellEntries ended ls es
unfolding entries_from
entries_said ended n [] es e = rw (← ok_is [] es e) tt
entries_said ended n (line ∷ []) es e = over ended (is "end" line) n line es refl e
entries_said ended n (first ∷ second ∷ more) es e = elim (is_true (is "end" first)) [
  | inl same ↦ let bad = rw same at e in absurd cc
  | inr other ↦
      let read = rw other at e in
      let a = bind_ok (entry_by n first second) (λ x. entries_from ended (n + 2) more >>= λ xs. Ok (x ∷ xs)) es read in
      let b = bind_ok (entries_from ended (n + 2) more) (λ xs. Ok (a.0 ∷ xs)) es a.2 in
      let c = bind_ok (numbered n (event_said first)) (λ event. numbered (n + 1) (entry_of event (words second))) a.0 a.1 in
      let event = numbered_ok n (event_said first) c.0 c.1 in
      let entry = numbered_ok (n + 1) (entry_of c.0 (words second)) a.0 c.2 in
      let same = same_event c.0 (words second) a.0 entry in
      rw (← ok_is (a.0 ∷ b.0) es b.2) (event ∙ ap Some same, subst (λ (x : Event). entry_of x (words second) ≡ Some a.0) same entry, entries_said ended (n + 2) more b.0 b.1)
]

pub entries_read : (ended : Bool) (n : ℕ) (ls : List Bytes) (es : List Entry) → SpellEntries ended ls es → entries_from ended n ls ≡ Ok es
unfolding entries_from
entries_read ended n [] [] spells = refl
entries_read ended n (line ∷ []) [] (inl end) = rw (end.0, end.1) refl
entries_read ended n (line ∷ []) [] (inr event) = rw (not_end line event.0 event.1, event.1) refl
entries_read ended n (first ∷ second ∷ more) [] spells = absurd spells
entries_read ended n [] (e ∷ es) spells = absurd spells
entries_read ended n (line ∷ []) (e ∷ es) spells = absurd spells
entries_read ended n (first ∷ second ∷ more) (e ∷ es) spells =
    rw (not_end first e.event spells.0, spells.0, spells.1, entries_read ended (n + 2) more es spells.2) refl

-- ---- the record

pub record_spelled : (text : Bytes) (r : RecordContents) → record_of text ≡ Ok r → SpellsRecord text r
unfolding record_of
record_spelled text r e =
    let a = bind_ok (settings_of (codes "minbft record 2") (lines text)) (λ s. read_line 7 (id_line s.f) (slice_get (lines text) 6) >>= λ id. entries_from (is_ended text) 8 (drop 7 (lines text)) >>= λ es. Ok (with_entries s id es)) r e in
    let b = bind_ok (read_line 7 (id_line a.0.f) (slice_get (lines text) 6)) (λ id. entries_from (is_ended text) 8 (drop 7 (lines text)) >>= λ es. Ok (with_entries a.0 id es)) r a.2 in
    let c = bind_ok (entries_from (is_ended text) 8 (drop 7 (lines text))) (λ es. Ok (with_entries a.0 b.0 es)) r b.2 in
    rw (← ok_is (with_entries a.0 b.0 c.0) r c.2) (record {
      settings = a.1;
      no_ops = refl;
      id = line_ok 7 (id_line a.0.f) (slice_get (lines text) 6) b.0 b.1;
      entries = entries_said (is_ended text) 8 (drop 7 (lines text)) c.0 c.1;
    })

pub record_read : (text : Bytes) (r : RecordContents) → SpellsRecord text r → record_of text ≡ Ok r
record_read text r spells =
    let s = r.config.settings in
    let read = all_read text s spells.settings r.id (ok_line 7 (id_line s.f) (slice_get (lines text) 6) r.id spells.id) r.entries (entries_read (is_ended text) 8 (drop 7 (lines text)) r.entries spells.entries) in
    read ∙ ap (λ (ops : List Bytes). Ok (record { config = record { settings = s; ops = ops }; id = r.id; entries = r.entries })) (sym spells.no_ops)
