-- Where what hosts say of their states differs from what was executed.
use Rattle.std.proofs.Common.{◌≡◌, ℕ, zero, suc, ◌+◌, ◌-◌, ◌*◌, ◌/◌, ◌%◌, ◌<◌, ◌≤◌, ◌⊎◌, false, eqb, List, ◌++◌, length, slice_get, Some, None, refl, sym, ap, subst, ◌∙◌, inl, inr, arith}
use Rattle.std.specs.Prelude.{nat_le, ◌==◌, if◌then◌else◌, Contains}
use Rattle.std.proofs.lemmas.Bool.{cases_Bool, cases_lt, eqb-true, eqb-false, eq-eqb, ne_eqb, le-leb, leb-true}
use Rattle.std.proofs.lemmas.List.{take-append-le}
use Rattle.std.proofs.lemmas.Nat.{div-add-mod'}
use Rattle.std.proofs.lemmas.Option.{none-some, same_Some}
use Rattle.mb_base.specs.Shapes.{Bytes, interval, host_count, quorum, tally}
use Rattle.mb_base.specs.declared.shape.Shape.{Shape}
use Rattle.mb_usig.specs.Tags.{same_bytes}
use Rattle.mb_msg.specs.declared.event.Slot.{Slot}
use Rattle.mb_model.specs.Service.{Machine}
use Rattle.mb_model.specs.States.{Snapshots, parts_of, state_digest}
use Rattle.mb_audit.specs.Stamps.{claims_among}
use Rattle.mb_learn.specs.declared.difference.Difference.{Difference}
use Rattle.mb_learn.specs.declared.heard.Heard.{Heard}
use Rattle.mb_learn.specs.declared.line.Line.{Line}
use Rattle.mb_learn.specs.Differences.{IsDifference}
use Rattle.mb_learn.specs.Executed.{Executes, state_in}
use Rattle.mb_learn.specs.Hearing.{Says}
use Rattle.mb_learn.specs.Learners.{Agrees}
use Rattle.mb_learn.specs.Proved.{behind, DiffersAt, digest_behind, says_state}
use Rattle.mb_learn.specs.Tables.{said_at, says}
use Rattle.mb_learn.proofs.Tallies.{tally_below, tally_or}

-- ---- the digest at a multiple

-- the multiple of which it is the number
whole_number : (p k : ℕ) → 1 ≤ p → p % k ≡ 0 → (p / k - 1 + 1) * k ≡ p
whole_number p k one none = at (p / k) (div-add-mod' p k) where
  at : (q : ℕ) → q * k + p % k ≡ p → (q - 1 + 1) * k ≡ p
  at zero e = absurd (omega (arith, e, none, one))
  at (suc q) e =
      let same : suc q - 1 + 1 ≡ suc q = omega arith in
      ap (λ n. n * k) same ∙ omega (arith, e, none)

module _ {S : Type 0} (s : Shape) (m : Machine S) (initial : S) (snapshots : Snapshots S) (all : List Slot) (line : Line S) (executes : Executes s m initial snapshots all line) where
  at_multiple : (p : ℕ) → 1 ≤ p → p % interval s ≡ 0 → state_in line p ≡ slice_get line.states.items (p / interval s - 1)
  at_multiple p one none =
      ap (λ b. if b then None else (if p % interval line.shape == 0 then slice_get line.states.items (p / interval line.shape - 1) else None)) (ne_eqb p 0 (λ e. omega (arith, e, one)))
      ∙ ap (λ (x : Shape). if p % interval x == 0 then slice_get line.states.items (p / interval x - 1) else None) executes.shape
      ∙ ap (λ b. if b then slice_get line.states.items (p / interval s - 1) else None) (eq-eqb (p % interval s) 0 none)

  pub state_noted : (p : ℕ) → 1 ≤ p → p % interval s ≡ 0 → p ≤ length all → state_in line p ≡ Some (digest_behind s m initial snapshots all p)
  state_noted p one none le =
      at_multiple p one none ∙ executes.states (p / interval s - 1)
      ∙ ap (λ (n : ℕ). if nat_le n (length all) then Some (digest_behind s m initial snapshots all n) else None) (whole_number p (interval s) one none)
      ∙ ap (λ b. if b then Some (digest_behind s m initial snapshots all p) else None) (le-leb p (length all) le)

  pub record IsNoted (p : ℕ) (x : Bytes) : Type 0 where
    pub positive : 1 ≤ p
    pub multiple : p % interval s ≡ 0
    pub executed : p ≤ length all
    pub is : x ≡ digest_behind s m initial snapshots all p

  pub state_found : (p : ℕ) (x : Bytes) → state_in line p ≡ Some x → IsNoted p x
  state_found p x at = elim (cases_Bool (eqb p 0)) [
    | inl zero_there ↦ absurd (none-some x (sym (ap (λ b. if b then None else (if p % interval line.shape == 0 then slice_get line.states.items (p / interval line.shape - 1) else None)) zero_there) ∙ at))
    | inr positive ↦ elim (cases_Bool (eqb (p % interval s) 0)) [
      | inr other ↦ absurd (none-some x (sym (inside p positive ∙ ap (λ b. if b then slice_get line.states.items (p / interval s - 1) else None) other) ∙ at))
      | inl multiple ↦
          let one : 1 ≤ p = above p (eqb-false p 0 positive) in
          let none : p % interval s ≡ 0 = eqb-true (p % interval s) 0 multiple in
          by one none (cases_lt (length all) p)
    ]
  ] where
    above : (n : ℕ) → (n ≡ 0 → ⊥) → 1 ≤ n
    above zero ne = absurd (ne refl)
    above (suc n) ne = omega arith

    inside : (p : ℕ) → eqb p 0 ≡ false → state_in line p ≡ (if p % interval s == 0 then slice_get line.states.items (p / interval s - 1) else None)
    inside p positive =
        ap (λ b. if b then None else (if p % interval line.shape == 0 then slice_get line.states.items (p / interval line.shape - 1) else None)) positive
        ∙ ap (λ (x : Shape). if p % interval x == 0 then slice_get line.states.items (p / interval x - 1) else None) executes.shape

    by : 1 ≤ p → p % interval s ≡ 0 → (length all < p) ⊎ (p ≤ length all) → IsNoted p x
    by one none (inr le) = record { positive = one; multiple = none; executed = le; is = same_Some x (digest_behind s m initial snapshots all p) (sym at ∙ state_noted p one none le) }
    by one none (inl lt) =
        let past : state_in line p ≡ None =
        at_multiple p one none ∙ executes.states (p / interval s - 1)
        ∙ ap (λ (n : ℕ). if nat_le n (length all) then Some (digest_behind s m initial snapshots all n) else None) (whole_number p (interval s) one none)
        ∙ ap (λ b. if b then Some (digest_behind s m initial snapshots all p) else None) (not_below p (length all) lt) in
        absurd (none-some x (sym past ∙ at)) where
          not_below : (a b : ℕ) → b < a → nat_le a b ≡ false
          not_below a b lt = elim (cases_Bool (nat_le a b)) [
            | inl so ↦ let le = leb-true a b so in absurd (omega (arith, le, lt))
            | inr not_so ↦ not_so
          ]

  -- ---- what differs

  module _ (secret : Bytes) (taken : List Bytes) (t : Heard) (shape : t.shape ≡ s) (said : Says secret (claims_among s taken) t.checkpoints) where
    as_many : (p : ℕ) (c : Bytes) → tally (λ h. says (said_at t.checkpoints p) h c) (host_count s) ≡ tally (says_state secret (claims_among s taken) p c) (host_count s)
    as_many p c = tally_below (λ h. says (said_at t.checkpoints p) h c) (says_state secret (claims_among s taken) p c) (host_count s) (λ h lt. said p h c)

    pub differs_is : (p : ℕ) (c : Bytes) → DiffersAt s m initial snapshots secret taken all p c → IsDifference t line (record { pos = p; found = digest_behind s m initial snapshots all p; certified = c })
    differs_is p c d = record {
      noted = state_noted p d.positive d.multiple d.executed;
      said = subst (λ (x : Shape). quorum x ≤ tally (λ h. says (said_at t.checkpoints p) h c) (host_count x)) (sym shape) (subst (λ (n : ℕ). quorum s ≤ n) (sym (as_many p c)) d.said);
      other = d.other;
    }

    pub is_differs : (d : Difference) → IsDifference t line d → DiffersAt s m initial snapshots secret taken all d.pos d.certified × (d.found ≡ digest_behind s m initial snapshots all d.pos)
    is_differs d i =
        let noted = state_found d.pos d.found i.noted in (
          record {
            multiple = noted.multiple;
            positive = noted.positive;
            executed = noted.executed;
            said = subst (λ (n : ℕ). quorum s ≤ n) (as_many d.pos d.certified) (subst (λ (x : Shape). quorum x ≤ tally (λ h. says (said_at t.checkpoints d.pos) h d.certified) (host_count x)) shape i.said);
            other = subst (λ (x : Bytes). same_bytes d.certified x ≡ false) noted.is i.other;
          },
          noted.is,
        )

-- ---- with one byte string more

module _ {S : Type 0} (s : Shape) (secret : Bytes) (m : Machine S) (snapshots : Snapshots S) (initial : S) (taken after : List Bytes) (slots more : List Slot) (old new : Heard) where
  -- What differs now is at a position that is noted.
  pub is_noted : Agrees s secret m snapshots initial taken slots → Says secret (claims_among s taken) old.checkpoints → Says secret (claims_among s after) new.checkpoints
      → ((p h : ℕ) (state : Bytes) → (says (said_at new.checkpoints p) h state ≡ says (said_at old.checkpoints p) h state) ⊎ Contains new.newly_said.items p)
      → ((p : ℕ) → length slots + 1 ≤ p → p ≤ length (slots ++ more) → Contains new.newly_said.items p)
      → (p : ℕ) (c : Bytes) → DiffersAt s m initial snapshots secret after (slots ++ more) p c → Contains new.newly_said.items p
  is_noted agrees before now news executed p c d = by (cases_lt (length slots) p) where
    alike : (h : ℕ) → (says_state secret (claims_among s after) p c h ≡ says_state secret (claims_among s taken) p c h) ⊎ Contains new.newly_said.items p
    alike h = at (news p h c) where
      at : (says (said_at new.checkpoints p) h c ≡ says (said_at old.checkpoints p) h c) ⊎ Contains new.newly_said.items p
          → (says_state secret (claims_among s after) p c h ≡ says_state secret (claims_among s taken) p c h) ⊎ Contains new.newly_said.items p
      at (inl e) = inl (sym (now p h c) ∙ e ∙ before p h c)
      at (inr there) = inr there

    by : (length slots < p) ⊎ (p ≤ length slots) → Contains new.newly_said.items p
    by (inl lt) = executed p (omega (arith, lt)) d.executed
    by (inr le) = at (tally_or (says_state secret (claims_among s after) p c) (says_state secret (claims_among s taken) p c) (Contains new.newly_said.items p) alike (host_count s)) where
      at : (tally (says_state secret (claims_among s after) p c) (host_count s) ≡ tally (says_state secret (claims_among s taken) p c) (host_count s)) ⊎ Contains new.newly_said.items p → Contains new.newly_said.items p
      at (inr there) = there
      at (inl e) = absurd (agrees p c (record {
        multiple = d.multiple;
        positive = d.positive;
        executed = le;
        said = subst (λ (n : ℕ). quorum s ≤ n) e d.said;
        other = subst (λ (l : List Slot). same_bytes c (state_digest (parts_of snapshots (behind s m initial l)) p) ≡ false) (take-append-le p slots more le) d.other;
      }))
