-- Where the parts of a fetched state come from: each is part of a STATE that was accepted while the stable position was the same.
use Rattle.std.proofs.Common.{◌≡◌, ℕ, zero, suc, ◌+◌, ◌-◌, ◌≤◌, ◌<◌, Bool, false, ◌&&◌, not, List, [], ◌∷◌, ◌++◌, length, refl, sym, ap, subst, ◌∙◌, inl, inr, arith, Option, Some, None}
use Rattle.std.specs.Prelude.{◌==◌, nat_lt, nat_le, find, slice_get, unwrap_or, is_none, if◌then◌else◌}
use Rattle.std.specs.List.{range_with_len}
use Rattle.std.proofs.lemmas.Bool.{and_parts, cases_Bool, eqb-true, ltb-true, leb-true}
use Rattle.sha2.specs.Sha256.{sha256}
use Rattle.mb_base.specs.Limits.{part_count}
use Rattle.mb_base.specs.Shapes.{Bytes}
use Rattle.mb_usig.specs.Tags.{same_bytes}
use Rattle.mb_usig.proofs.Laws.{same_bytes-true}
use Rattle.mb_parts.specs.declared.certificates.StableCert.{StableCert}
use Rattle.mb_msg.specs.declared.message.Message.TheVariants as message
use Rattle.mb_msg.specs.declared.transfer.StateMsg.{StateMsg}
use Rattle.mb_model.specs.Histories.{Entry, Accepted, Installed, DroppedParts, History, Identity}
use Rattle.mb_model.specs.Stable.{further, learnt_in, stable_of, low_of}
use Rattle.mb_model.specs.Execution.{part_in, part_of, part_held, missing}
use Rattle.mb_model.specs.PlainChecks.{wrong_part, string_at}
use Rattle.mb_model.proofs.Options.{or_some, if_some}
use Rattle.mb_steps.proofs.StepPotential.{grown_low}
use Rattle.mb_host_laws.proofs.Cases.{not_false, slice_bound, some_none}
use Rattle.mb_host_laws.proofs.Moments.{IsPast}
use Rattle.mb_one_log.proofs.StepDone.{past_whole, past_more}

-- ---- lists

-- a search through a range that finds nothing passes over each of its numbers
pub none_in_range : (t : ℕ → Bool) (a n : ℕ) → find t (range_with_len a n) ≡ None → (i : ℕ) → i < n → t (a + i) ≡ false
none_in_range t a zero e i lt = absurd (omega arith)
none_in_range t a (suc n) e zero lt = elim (cases_Bool (t a)) [
  | inl here ↦ absurd (some_none a (rw here at e))
  | inr other ↦ let s : a + 0 ≡ a = omega arith in subst (λ (k : ℕ). t k ≡ false) (sym s) other
]
none_in_range t a (suc n) e (suc i) lt = elim (cases_Bool (t a)) [
  | inl here ↦ absurd (some_none a (rw here at e))
  | inr other ↦ let s : (a + 1) + i ≡ a + suc i = omega arith in subst (λ (k : ℕ). t k ≡ false) s (none_in_range t (a + 1) n (rw other at e) i (omega (arith, lt)))
]

-- A part of a STATE whose parts have the listed digests has its digest.
pub part_digest : (digests parts : List Bytes) (first i : ℕ) (b : Bytes) → wrong_part digests first parts ≡ None → first ≤ i → slice_get parts (i - first) ≡ Some b → sha256 b ≡ string_at digests i
unfolding wrong_part
part_digest digests parts first i b none le at =
    let short = slice_bound parts (i - first) b at in
    let place : first + (i - first) ≡ i = omega (arith, le) in
    let wrong : not (same_bytes (sha256 (string_at parts ((first + (i - first)) - first))) (string_at digests (first + (i - first)))) ≡ false =
    none_in_range (λ j. not (same_bytes (sha256 (string_at parts (j - first))) (string_at digests j))) first (length parts) none (i - first) short in
    let right : not (same_bytes (sha256 (string_at parts (i - first))) (string_at digests i)) ≡ false = subst (λ (k : ℕ). not (same_bytes (sha256 (string_at parts (k - first))) (string_at digests k)) ≡ false) place wrong in
    let here : string_at parts (i - first) ≡ b = ap (λ (o : Option Bytes). unwrap_or o []) at in
    ap sha256 (sym here) ∙ same_bytes-true (sha256 (string_at parts (i - first))) (string_at digests i) (not_false _ right)

-- ---- a host

module _ {S : Type 0} (self : Identity S) where
  pub record IsFromState (d : History) (pos i : ℕ) (b : Bytes) : Type 0 where
    pub said : StateMsg
    pub before : History
    pub past : IsPast (Accepted (message.State said) ∷ before) d
    pub place : said.pos ≡ pos
    pub low : low_of self before ≡ pos
    pub first : said.first ≤ i
    pub part : slice_get said.parts (i - said.first) ≡ Some b

  later : (e : Entry) (d : History) (pos i : ℕ) (b : Bytes) → IsFromState d pos i b → IsFromState (e ∷ d) pos i b
  later e d pos i b x = record { said = x.said; before = x.before; past = past_more e (Accepted (message.State x.said) ∷ x.before) d x.past; place = x.place; low = x.low; first = x.first; part = x.part }

  pub part_from : (d : History) (pos i : ℕ) (b : Bytes) → part_of self d pos i ≡ Some b → IsFromState d pos i b
  unfolding part_of
  part_from [] pos i b e = absurd cc
  part_from (Accepted (message.State m) ∷ d) pos i b e = elim (or_some (part_of self d pos i) (if m.pos == pos && low_of self d == pos then part_in m i else None) b e) [
    | inl before ↦ later (Accepted (message.State m)) d pos i b (part_from d pos i b before)
    | inr now ↦
        let t = if_some (m.pos == pos && low_of self d == pos) (part_in m i) b now in
        let a = and_parts (m.pos == pos) (low_of self d == pos) t.0 in
        let u = if_some (nat_le m.first i) (slice_get m.parts (i - m.first)) b t.1 in
        record { said = m; before = d; past = past_whole (Accepted (message.State m) ∷ d); place = eqb-true m.pos pos a.0; low = eqb-true (low_of self d) pos a.1; first = leb-true m.first i u.0; part = u.1 }
  ]
  part_from (DroppedParts ∷ d) pos i b e = absurd cc
  part_from (Installed p parts ∷ d) pos i b e = absurd cc
  part_from (x ∷ d) pos i b e = later x d pos i b (part_from d pos i b e)

  -- ---- the certificate of the stable position stays while the position does

  further_same : (old : StableCert) (x : Option StableCert) → (further old x).pos ≡ old.pos → further old x ≡ old
  further_same old None e = refl
  further_same old (Some c) e = elim (cases_Bool (nat_lt old.pos c.pos)) [
    | inl more ↦ let lt : old.pos < c.pos = ltb-true old.pos c.pos more in let same : c.pos ≡ old.pos = rw more at e in absurd (omega (arith, lt, same))
    | inr less ↦ rw less refl
  ]

  low_rises : (new d : History) → low_of self d ≤ low_of self (new ++ d)
  low_rises [] d = omega arith
  low_rises (e ∷ new) d = let r = low_rises new d in let s = grown_low self (new ++ d) e in omega (arith, r, s)

  pub stable_stays : (new d : History) → low_of self (new ++ d) ≡ low_of self d → stable_of self (new ++ d) ≡ stable_of self d
  unfolding stable_of
  stable_stays [] d e = refl
  stable_stays (x ∷ new) d e =
      let r = low_rises new d in
      let s = grown_low self (new ++ d) x in
      let between : low_of self (new ++ d) ≡ low_of self d = omega (arith, r, s, e) in
      let same : low_of self (x ∷ new ++ d) ≡ low_of self (new ++ d) = omega (arith, e, between) in
      further_same (stable_of self (new ++ d)) (learnt_in self (new ++ d) (stable_of self (new ++ d)).pos x) same ∙ stable_stays new d between

  some_there : (o : Option Bytes) → is_none o ≡ false → (b : Bytes) × (o ≡ Some b)
  some_there None e = absurd cc
  some_there (Some b) e = (b, refl)

  -- Where none is missing, each part is held.
  pub each_held : (d : History) → missing self d ≡ None → (i : ℕ) → i < part_count → (b : Bytes) × (part_held self d i ≡ Some b)
  each_held d none i lt = some_there (part_held self d i) (let s : 0 + i ≡ i = omega arith in subst (λ (k : ℕ). is_none (part_held self d k) ≡ false) s (none_in_range (λ j. is_none (part_held self d j)) 0 part_count none i lt))
