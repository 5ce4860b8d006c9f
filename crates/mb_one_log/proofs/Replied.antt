-- Each REPLY that a correct host made is its stored reply of a moment; and nothing else is among what hosts tagged but REPLYs and wishes.
use Rattle.std.proofs.Common.{◌≡◌, ℕ, zero, suc, ◌⊎◌, Bool, true, false, List, [], ◌∷◌, refl, sym, subst, ◌∙◌, inl, inr, eqb}
use Rattle.std.specs.Prelude.{fold}
use Rattle.std.proofs.lemmas.Bool.{cases_Bool, eqb-true, eqb-false, eq-eqb, ne_eqb}
use Rattle.mb_msg.specs.declared.message.Message.{Message}
use Rattle.mb_model.specs.Histories.{History}
use Rattle.mb_model.specs.Sending.{Letter}
use Rattle.mb_model.specs.Given.{stored_reply}
use Rattle.mb_model.specs.HostStep.{transition}
use Rattle.mb_model.specs.Members.{In}
use Rattle.mb_model.proofs.Members.{all_in}
use Rattle.mb_schedule.specs.Limits.{IsSchedule}
use Rattle.mb_world_model.specs.WorldEvents.{IsCorrect}
use Rattle.mb_world_model.specs.World.{World, System, self_of, with_tagged, is_tagged_message}
use Rattle.mb_world_model.specs.WorldSteps.{world}
use Rattle.mb_host_laws.proofs.Moments.{IsPast, past_past}
use Rattle.mb_one_log.proofs.Walks.{is_reply}
use Rattle.mb_one_log.proofs.StepDone.{IsStored, IsDone, step_done}
use Rattle.mb_one_log.proofs.Moves.{IsStep, Moves, world_moves}

-- What is there with the letters was there before, or one of them says it.
from_letter : (t : List Message) (l : Letter) (m : Message) → In (with_tagged t l) m → In t m ⊎ ((l.says ≡ m) × (is_tagged_message m ≡ true))
from_letter t l m i = elim (cases_Bool (is_tagged_message l.says)) [
  | inr other ↦ inl (rw other at i)
  | inl yes_so ↦ first (rw yes_so at i) yes_so
] where
  first : In (l.says ∷ t) m → is_tagged_message l.says ≡ true → In t m ⊎ ((l.says ≡ m) × (is_tagged_message m ≡ true))
  first (inl is) k = inr (is, subst (λ (x : Message). is_tagged_message x ≡ true) is k)
  first (inr i) k = inl i

pub from_letters : (ls : List Letter) (t : List Message) (m : Message) → In (fold with_tagged t ls) m → In t m ⊎ ((l : Letter) × In ls l × (l.says ≡ m) × (is_tagged_message m ≡ true))
from_letters [] t m i = inl i
from_letters (l ∷ ls) t m i = elim (from_letters ls (with_tagged t l) m i) [
  | inr (k, j, is, kind) ↦ inr (k, inr j, is, kind)
  | inl before ↦ elim (from_letter t l m before) [
    | inl old ↦ inl old
    | inr (is, kind) ↦ inr (l, inl refl, is, kind)
  ]
]

module _ {S : Type 0} (system : System S) where
  -- The message is a correct host's stored reply of a moment.
  pub record IsReplied (w : World) (m : Message) : Type 0 where
    pub host : ℕ
    pub correct : IsCorrect system.schedule host
    pub client : ℕ
    pub moment : History
    pub past : IsPast moment (w.histories host)
    pub is : stored_reply (self_of system host) moment client ≡ m

  pub record IsTagged (w : World) (m : Message) : Type 0 where
    pub kind : is_tagged_message m ≡ true
    pub replied : is_reply m ≡ true → IsReplied w m

  abbrev pub AllTagged : World → Type 0
  AllTagged w = (m : Message) → In w.tagged m → IsTagged w m

  module _ (w v : World) (step : IsStep system w v) (before : AllTagged w) where
    abbrev h : ℕ
    h = step.host

    done : IsDone (self_of system h) (w.histories h) (transition (self_of system h) (w.histories h) step.seen).left
    done = step_done (self_of system h) (w.histories h) step.seen

    left_is : (transition (self_of system h) (w.histories h) step.seen).left.history ≡ v.histories h
    left_is = sym (step.histories h ∙ rw (eq-eqb h h refl) refl)

    past_stays : (g : ℕ) (d : History) → IsPast d (w.histories g) → IsPast d (v.histories g)
    past_stays g d p = elim (cases_Bool (eqb g h)) [
      | inl same ↦
          let e : g ≡ h = eqb-true g h same in
          let q : IsPast (w.histories h) (v.histories h) = record { later = done.new; is = done.is ∙ left_is } in
          subst (λ (i : ℕ). IsPast d (v.histories i)) (sym e) (past_past d (w.histories h) (v.histories h) (subst (λ (i : ℕ). IsPast d (w.histories i)) e p) q)
      | inr other ↦ subst (λ (y : History). IsPast d y) (sym (step.histories g ∙ rw (ne_eqb g h (eqb-false g h other)) refl)) p
    ]

    reply_stays : (m : Message) → IsReplied w m → IsReplied v m
    reply_stays m x = record { host = x.host; correct = x.correct; client = x.client; moment = x.moment; past = past_stays x.host x.moment x.past; is = x.is }

    from_stored : (m : Message) → IsStored (self_of system h) (transition (self_of system h) (w.histories h) step.seen).left.history m → is_reply m ≡ true → IsReplied v m
    from_stored m (inl other) k = absurd (no (is_reply m) other k) where
      no : (b : Bool) → b ≡ false → b ≡ true → ⊥
      no b e f = absurd cc
    from_stored m (inr (c, d, p, is)) k = record { host = h; correct = step.correct; client = c; moment = d; past = subst (λ (y : History). IsPast d y) left_is p; is = is }

    step_tagged : AllTagged v
    step_tagged m i = elim (from_letters (transition (self_of system h) (w.histories h) step.seen).left.sent w.tagged m (subst (λ (l : List Message). In l m) step.tagged i)) [
      | inl old ↦ let x = before m old in record { kind = x.kind; replied = λ k. reply_stays m (x.replied k) }
      | inr (l, j, is, kind) ↦
          let stored : IsStored (self_of system h) (transition (self_of system h) (w.histories h) step.seen).left.history l.says = all_in (λ (k : Letter). IsStored (self_of system h) (transition (self_of system h) (w.histories h) step.seen).left.history k.says) _ l done.replies j in
          record { kind = kind; replied = λ k. from_stored m (subst (λ (x : Message). IsStored (self_of system h) (transition (self_of system h) (w.histories h) step.seen).left.history x) is stored) k }
    ]

  tagged_on : (w v : World) → AllTagged w → Moves system w v → AllTagged v
  tagged_on w v before (inr step) m i = step_tagged w v step before m i
  tagged_on w v before (inl same) m i =
      let x = before m (subst (λ (l : List Message). In l m) same.tagged i) in
      record { kind = x.kind; replied = λ k. let y = x.replied k in record { host = y.host; correct = y.correct; client = y.client; moment = y.moment; past = subst (λ (d : History). IsPast y.moment d) (sym (same.histories y.host)) y.past; is = y.is } }

  pub all_tagged : IsSchedule system.schedule → (k : ℕ) → AllTagged (world system k)
  unfolding world
  all_tagged fits zero m i = absurd i
  all_tagged fits (suc k) m i = tagged_on (world system k) (world system (suc k)) (all_tagged fits k) (world_moves system fits k) m i
