-- Entries of a record that are the host's own, one after the other.
use Rattle.std.proofs.Common.{◌≡◌, ℕ, Bool, true, false, inl, inr, Err, ◌+◌, ◌<◌, ◌≤◌, zero, append_assoc, List, [], ◌∷◌, ◌++◌, length, map, reverse, take, drop, get_or, refl, sym, ap, ◌∙◌, arith, suc}
use Rattle.std.specs.Prelude.{◌==◌, ◌&&◌}
use Rattle.std.specs.Cmp.Lexicographic.{same_text, other_text}
use Rattle.std.proofs.lemmas.Bool.{and_parts, and_cases, eqb-true, eqb-false}
use Rattle.std.proofs.lemmas.List.{take_more, take-append-drop, map-append, reverse-append}
use Rattle.mb_base.specs.Shapes.{Bytes}
use Rattle.mb_msg.specs.declared.event.Step.{Step}
use Rattle.mb_usig.specs.Tags.{same_bytes}
use Rattle.mb_model.specs.Histories.{Identity, History}
use Rattle.mb_steps.specs.Arises.{IsWhole}
use Rattle.mb_sched.specs.declared.records.Entry.{Entry}
use Rattle.mb_core.specs.declared.replica.Replica.{Replica}
use Rattle.mb_core.specs.Represents.{Represents}
use Rattle.mb_node.specs.Events.{left_by}
use Rattle.mb_node.specs.Recording.{entry_at, entries_of, sent_digest}
use Rattle.mb_node.specs.declared.retracing.RetraceStop.{RetraceStop}
use Rattle.mb_node.specs.declared.retracing.RetraceStop.TheVariants as stop
use Rattle.mb_node.specs.Turns.{Steps}
use Rattle.mb_node.specs.Retracing.{AreOwn, events_in, IsOwn, IsOther, Differs, Compares, Retraces, own_entry}

-- the events with one more
events_more : (entries : List Entry) (e : Entry) → events_in (entries ++ e ∷ []) ≡ e.event ∷ events_in entries
events_more entries e = ap reverse (map-append (λ (x : Entry). x.event) entries (e ∷ [])) ∙ reverse-append (map (λ (x : Entry). x.event) entries) (e.event ∷ [])

module _ {V : Type 0} (me : Identity V) where
  -- These entries are own, and the host stands behind them.
  pub record IsRetraced (entries : List Entry) (r : Replica V) : Type 0 where
    pub own : AreOwn me entries
    pub represents : Represents me r (left_by me [] (events_in entries))
    pub whole : IsWhole (left_by me [] (events_in entries))

  pub retraced_none : (r : Replica V) → Represents me r [] → IsWhole [] → IsRetraced [] r
  unfolding left_by entries_of
  retraced_none r rep whole = record { own = refl; represents = rep; whole = whole }

  own_more : (entries : List Entry) (e : Entry) → AreOwn me entries → e ≡ own_entry me entries e.event → AreOwn me (entries ++ e ∷ [])
  unfolding entries_of
  own_more entries e own is = ap (λ (l : List Entry). l ++ e ∷ []) own ∙ ap (λ (x : Entry). entries_of me [] (events_in entries) ++ x ∷ []) is ∙ sym (ap (entries_of me []) (events_more entries e))

  left_more : (entries : List Entry) (e : Entry) → left_by me [] (events_in (entries ++ e ∷ [])) ≡ left_by me [] (e.event ∷ events_in entries)
  left_more entries e = ap (left_by me []) (events_more entries e)

  -- and one more
  pub retraced_more : (entries : List Entry) (e : Entry) (old now : Replica V) → IsRetraced entries old → IsOwn me (left_by me [] (events_in entries)) e now → IsRetraced (entries ++ e ∷ []) now
  unfolding left_by
  retraced_more entries e old now so_far is = record {
    own = own_more entries e so_far.own is.same;
    represents = rw (left_more entries e) is.represents;
    whole = rw (left_more entries e) is.whole;
  }

  -- one that isn't
  pub retraced_other : (entries : List Entry) (i : ℕ) (e : Entry) (old : Replica V) (event number : ℕ) (recorded found : Bytes) → i < length entries → e ≡ get_or entries i e → event ≡ i + 1 → IsRetraced (take i entries) old
      → IsOther me (left_by me [] (events_in (take i entries))) event e number recorded found → Differs me entries number recorded found
  retraced_other entries i e old event number recorded found lt at count so_far is = record {
    before = take i entries;
    entry = e;
    later = drop (i + 1) entries;
    place = sym (take-append-drop (i + 1) entries) ∙ ap (λ (l : List Entry). l ++ drop (i + 1) entries) (take_more entries i e lt ∙ ap (λ (x : Entry). take i entries ++ x ∷ []) (sym at)) ∙ append_assoc (take i entries) (e ∷ []) (drop (i + 1) entries);
    counted = is.number_is ∙ count ∙ ap (λ (n : ℕ). n + 1) (sym (length_within entries i (omega (arith, lt))));
    own = so_far.own;
    other = is.other;
    recorded_is = is.recorded_is;
    found_is = is.found_is;
  } where
    length_within : (l : List Entry) (k : ℕ) → k ≤ length l → length (take k l) ≡ k
    length_within l zero le = refl
    length_within [] (suc k) le = absurd (omega (arith, le))
    length_within (y ∷ l) (suc k) le = ap suc (length_within l k (omega (arith, le)))

-- ---- one entry against the host's own step

module _ {V : Type 0} (me : Identity V) (d : History) (entry : Entry) (s : Step) (r : Replica V) (is : Steps me d entry.event s r) (agree : Bool) (found : Bytes)
    (tells : agree ≡ ((length s.sent == entry.count) && same_bytes found entry.digest)) (found_is : found ≡ sent_digest s.sent) where
  own_count : (entry_at me d entry.event).count ≡ length s.sent
  own_count = ap length (sym is.step.sent)

  own_digest : (entry_at me d entry.event).digest ≡ sent_digest s.sent
  own_digest = ap sent_digest (sym is.step.sent)

  pub own_is : agree ≡ true → IsOwn me d entry r
  own_is agrees =
      let both = and_parts (length s.sent == entry.count) (same_bytes found entry.digest) (sym tells ∙ agrees) in
      let count : entry.count ≡ (entry_at me d entry.event).count = sym (eqb-true (length s.sent) entry.count both.0) ∙ sym own_count in
      let digest : entry.digest ≡ (entry_at me d entry.event).digest = sym (same_text found entry.digest (sym both.1)) ∙ found_is ∙ sym own_digest in
      record {
        same = ap (λ (n : ℕ). record { event = entry.event; count = n; digest = entry.digest }) count ∙ ap (λ (b : Bytes). record { event = entry.event; count = (entry_at me d entry.event).count; digest = b }) digest;
        represents = is.represents;
        whole = is.whole;
      }

  pub other_is : (event : ℕ) → agree ≡ false → IsOther me d event entry event entry.digest found
  other_is event disagrees = record {
    number_is = refl;
    other = λ same. elim (and_cases (length s.sent == entry.count) (same_bytes found entry.digest) (sym tells ∙ disagrees)) [
      | inl count ↦ absurd (eqb-false (length s.sent) entry.count count (sym own_count ∙ sym (ap (λ (e : Entry). e.count) same)))
      | inr digest ↦ absurd (other_text found entry.digest (sym digest) (found_is ∙ sym own_digest ∙ sym (ap (λ (e : Entry). e.digest) same)))
    ];
    recorded_is = refl;
    found_is = found_is ∙ sym own_digest;
  }

-- an entry at which retracing stopped
pub retraced_err : {V : Type 0} (me : Identity V) (entries : List Entry) (i : ℕ) (e : Entry) (old now : Replica V) (event : ℕ) (s : RetraceStop) → i < length entries → e ≡ get_or entries i e → event ≡ i + 1 → IsRetraced me (take i entries) old
    → Compares me (left_by me [] (events_in (take i entries))) event e now (Err s) → Retraces me entries (Err s)
retraced_err me entries i e old now event (stop.Differs number recorded found) lt at count so_far is = retraced_other me entries i e old event number recorded found lt at count so_far is
retraced_err me entries i e old now event stop.NoMemory lt at count so_far is = tt
