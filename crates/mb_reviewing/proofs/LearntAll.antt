-- Byte strings are learnt from, one after the other.
use Rattle.std.proofs.Common.{◌≡◌, ℕ, zero, suc, ◌+◌, ◌<◌, ◌≤◌, List, [], ◌∷◌, ◌++◌, length, take, take_all, drop, slice_get, Some, Ok, Err, refl, sym, ap, subst, ◌∙◌, inl, inr, arith, add-one, append_assoc, length-append}
use Rattle.std.specs.Prelude.{nat_lt, if◌then◌else◌, codes}
use Rattle.std.specs.List.{flat_map}
use Rattle.std.specs.Fmt.{decimal}
use Rattle.std.specs.Global.{Vec}
use Rattle.std.proofs.lemmas.Bool.{cases_lt, lt-ltb, le-ltb}
use Rattle.std.proofs.lemmas.List.{take-append-le}
use Rattle.std.proofs.lemmas.Option.{none-some, same_Some}
use Rattle.std.proofs.Math.Seq.{take-append_seam}
use Rattle.hex.specs.Hex.{encode_lower}
use Rattle.mb_base.specs.Shapes.{Bytes}
use Rattle.mb_kv.specs.Pairs.{Pairs}
use Rattle.mb_msg.specs.declared.event.Slot.{Slot}
use Rattle.mb_sched.specs.declared.records.Record.{Record}
use Rattle.mb_audit.specs.Stamps.{texts}
use Rattle.mb_learn.specs.declared.learner.Learner.{Learner}
use Rattle.mb_learn.specs.declared.learner.LearnStop.{LearnStop}
use Rattle.mb_learn.specs.declared.learner.LearnStop.TheVariants as stop
use Rattle.mb_learn.specs.Learners.{Represents, Answers}
use Rattle.mb_sched.specs.Report.{slot_lines}
use Rattle.mb_reviewing.specs.Learning.{machine, snapshots, Learns, Agrees, LearntInTurn, learnt_text, LearnsAll}

-- the byte strings up to a place, and those behind it
pub texts_next : (l : List (Vec ℕ)) (i : ℕ) (v : Vec ℕ) → slice_get l i ≡ Some v → texts (take (i + 1) l) ≡ texts (take i l) ++ v.items ∷ []
texts_next l i v at = rw (add-one i) (by l i at) where
  by : (l : List (Vec ℕ)) (i : ℕ) → slice_get l i ≡ Some v → texts (take (suc i) l) ≡ texts (take i l) ++ v.items ∷ []
  by [] i at = absurd (none-some v at)
  by (w ∷ l) zero at = ap (λ (x : Vec ℕ). x.items ∷ []) (same_Some w v at)
  by (w ∷ l) (suc i) at = ap (λ (x : List Bytes). w.items ∷ x) (by l i at)

pub texts_split : (l : List (Vec ℕ)) (i : ℕ) (v : Vec ℕ) → slice_get l i ≡ Some v → texts l ≡ texts (take i l) ++ v.items ∷ texts (drop (i + 1) l)
texts_split l i v at = rw (add-one i) (by l i at) where
  by : (l : List (Vec ℕ)) (i : ℕ) → slice_get l i ≡ Some v → texts l ≡ texts (take i l) ++ v.items ∷ texts (drop (suc i) l)
  by [] i at = absurd (none-some v at)
  by (w ∷ l) zero at = ap (λ (x : Vec ℕ). x.items ∷ texts l) (same_Some w v at)
  by (w ∷ l) (suc i) at = ap (λ (x : List Bytes). w.items ∷ x) (by l i at)

-- ---- the text

joined_text : (a n b lines st hex tail : Bytes) → ((((a ++ (n ++ b)) ++ lines) ++ st) ++ hex) ++ tail ≡ a ++ (n ++ (b ++ (lines ++ (st ++ (hex ++ tail)))))
joined_text a n b lines st hex tail = simp append_assoc

-- what is written, from its pieces
pub text_is : (items text hex : Bytes) (l slots : List Slot) (state : Bytes) → items ≡ (((text ++ flat_map slot_lines l) ++ codes "state ") ++ hex) ++ codes "\nend\n"
    → text ≡ codes "minbft learnt 1\nline " ++ (decimal (length l) ++ codes "\n") → l ≡ slots → hex ≡ encode_lower state → items ≡ learnt_text slots state
text_is items text hex l slots state whole head slots_are hex_is =
    whole
    ∙ (ap (λ (t : Bytes). (((t ++ flat_map slot_lines l) ++ codes "state ") ++ hex) ++ codes "\nend\n") head
    ∙ (ap (λ (x : List Slot). ((((codes "minbft learnt 1\nline " ++ (decimal (length x) ++ codes "\n")) ++ flat_map slot_lines x) ++ codes "state ") ++ hex) ++ codes "\nend\n") slots_are
    ∙ (ap (λ (h : Bytes). ((((codes "minbft learnt 1\nline " ++ (decimal (length slots) ++ codes "\n")) ++ flat_map slot_lines slots) ++ codes "state ") ++ h) ++ codes "\nend\n") hex_is
    ∙ joined_text (codes "minbft learnt 1\nline ") (decimal (length slots)) (codes "\n") (flat_map slot_lines slots) (codes "state ") (encode_lower state) (codes "\nend\n"))))

-- ---- one byte string after the other

module _ (r : Record) where
  -- a new learner, over the service of no keys
  pub made_empty : (service : Pairs) (learner : Learner Pairs) → service ≡ [] → Represents r.config.shape r.config.secret machine snapshots service [] [] learner → Represents r.config.shape r.config.secret machine snapshots [] [] [] learner
  made_empty service learner empty made = subst (λ (s : Pairs). Represents r.config.shape r.config.secret machine snapshots s [] [] learner) empty made

  -- The learner took these in turn, and stands for what is learnt from them.
  abbrev pub Took : List Bytes → Learner Pairs → Type 0
  Took given learner = (slots : List Slot) × LearntInTurn r given slots × Represents r.config.shape r.config.secret machine snapshots [] given slots learner

  -- nothing yet
  pub took_nothing : (learner : Learner Pairs) → Represents r.config.shape r.config.secret machine snapshots [] [] [] learner → Took [] learner
  took_nothing learner rep = (
    [],
    record {
      executed = λ n. 0;
      rises = λ m n le last. omega arith;
      learnt = λ n le. subst (λ (given : List Bytes). Learns r given []) (sym (take_all n [] (omega arith))) rep.learnt;
      agrees = λ n le. subst (λ (given : List Bytes). Agrees r given []) (sym (take_all n [] (omega arith))) rep.agrees;
      all = refl;
    },
    rep,
  )

  -- In turn, all of them are learnt from.
  pub learnt_whole : (given : List Bytes) (slots : List Slot) → LearntInTurn r given slots → Learns r given slots
  learnt_whole given slots t =
      let all = t.all in
      subst (λ (l : List Slot). Learns r given l) (take_all (t.executed (length given)) slots (omega (arith, all)))
      (subst (λ (g : List Bytes). Learns r g (take (t.executed (length given)) slots)) (take_all (length given) given (omega arith)) (t.learnt (length given) (omega arith)))

  module _ (before : List Bytes) (last : Bytes) (slots more : List Slot) (t : LearntInTurn r before slots) where
    -- so many slots are executed behind so many strings, now that there is one more
    abbrev now_executed : ℕ → ℕ
    now_executed n = if nat_lt (length before) n then length (slots ++ more) else t.executed n

    with_last : (n : ℕ) → length before < n → now_executed n ≡ length (slots ++ more)
    with_last n lt = rw (lt-ltb (length before) n lt) refl

    as_before : (n : ℕ) → n ≤ length before → now_executed n ≡ t.executed n
    as_before n le = rw (le-ltb (length before) n le) refl

    within : (n : ℕ) → n ≤ length before → t.executed n ≤ length slots
    within n le = let up = t.rises n (length before) le (omega arith) in let all = t.all in omega (arith, up, all)

    -- what holds behind each string before the last, and behind it
    behind_each : (P : List Bytes → List Slot → Type 0) → ((n : ℕ) → n ≤ length before → P (take n before) (take (t.executed n) slots)) → P (before ++ last ∷ []) (slots ++ more)
        → (n : ℕ) → n ≤ length (before ++ last ∷ []) → P (take n (before ++ last ∷ [])) (take (now_executed n) (slots ++ more))
    behind_each P old new n le = elim (cases_lt (length before) n) [
      | inl lt ↦
          let long = length-append before (last ∷ []) in
          subst (λ (k : ℕ). P (take n (before ++ last ∷ [])) (take k (slots ++ more))) (sym (with_last n lt))
          (subst (λ (g : List Bytes). P g (take (length (slots ++ more)) (slots ++ more))) (sym (take_all n (before ++ last ∷ []) (omega (arith, long, lt))))
          (subst (λ (l : List Slot). P (before ++ last ∷ []) l) (sym (take_all (length (slots ++ more)) (slots ++ more) (omega arith))) new))
      | inr le' ↦
          subst (λ (k : ℕ). P (take n (before ++ last ∷ [])) (take k (slots ++ more))) (sym (as_before n le'))
          (subst (λ (g : List Bytes). P g (take (t.executed n) (slots ++ more))) (sym (take-append-le n before (last ∷ []) le'))
          (subst (λ (l : List Slot). P (take n before) l) (sym (take-append-le (t.executed n) slots more (within n le'))) (old n le')))
    ]

    still_rises : (m n : ℕ) → m ≤ n → now_executed m ≤ now_executed n
    still_rises m n le = elim (cases_lt (length before) n) [
      | inr late ↦ rw (as_before n late, as_before m (omega (arith, le, late))) (t.rises m n le late)
      | inl lt ↦
          elim (cases_lt (length before) m) [
            | inl both ↦ rw (with_last n lt, with_last m both) (omega arith)
            | inr early ↦ let few = within m early in rw (with_last n lt, as_before m early) (omega (arith, few, length-append slots more))
          ]
    ]

    -- one more
    pub one_more : Learns r (before ++ last ∷ []) (slots ++ more) → Agrees r (before ++ last ∷ []) (slots ++ more) → LearntInTurn r (before ++ last ∷ []) (slots ++ more)
    one_more learnt agrees = record {
      executed = now_executed;
      rises = λ m n le all. still_rises m n le;
      learnt = behind_each (Learns r) t.learnt learnt;
      agrees = behind_each (Agrees r) t.agrees agrees;
      all = with_last (length (before ++ last ∷ [])) (omega (arith, length-append before (last ∷ [])));
    }

  pub took_next : (before : List Bytes) (last : Bytes) (old new : Learner Pairs) (t : Took before old) (executed : ℕ)
      → Answers r.config.shape r.config.secret machine snapshots [] (before ++ last ∷ []) t.0 (Ok executed) new → Took (before ++ last ∷ []) new
  took_next before last old new t executed a = (t.0 ++ a.more, one_more before last t.0 a.more t.1 a.represents.learnt a.represents.agrees, a.represents)

  -- the call stops
  pub stopped : (given before : List Bytes) (last : Bytes) (later : List Bytes) (old new : Learner Pairs) (t : Took before old) (e : LearnStop) → given ≡ before ++ last ∷ later
      → Answers r.config.shape r.config.secret machine snapshots [] (before ++ last ∷ []) t.0 (Err e) new → LearnsAll r given (Err e) new
  stopped given before last later old new t (stop.Differs position found certified) place a = (
    t.0 ++ a.more,
    record {
      before = before;
      last = last;
      later = later;
      place = place;
      executed = length t.0;
      took = subst (λ (l : List Slot). LearntInTurn r before l) (sym (take-append_seam t.0 a.more)) t.1;
      learnt = a.learnt;
      differs = a.differs;
      lowest = a.lowest;
    },
    a.found_is,
  )
  stopped given before last later old new t stop.Halted place a = a
  stopped given before last later old new t stop.NoMemory place a = tt
