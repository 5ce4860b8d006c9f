-- What a gate decides by its own numbers is what its list decides.
use Rattle.std.proofs.Common.{◌≡◌, ℕ, ◌+◌, ◌<◌, ◌≤◌, Bool, true, false, [], ◌∷◌, Option, None, Some, refl, sym, ap, ◌∙◌, arith}
use Rattle.std.specs.Prelude.{nat_lt, nat_le, if◌then◌else◌}
use Rattle.std.proofs.lemmas.Bool.{le-ltb, lt-leb, leb-false, ltb-false}
use Rattle.mb_parts.specs.declared.floor.Floor.{Floor}
use Rattle.mb_parts.specs.declared.floor.Mark.{Mark}
use Rattle.mb_parts.specs.Bares.{Bare}
use Rattle.mb_parts.specs.Ordered.{permits, floor_after}
use Rattle.mb_parts.proofs.OrderedParts.{ordered_cons}
use Rattle.mb_parts.proofs.Advance.{advance}
use Rattle.mb_gate.specs.declared.gate.Gate.{Gate}
use Rattle.mb_gate.specs.declared.kind.Kind.{Kind}
use Rattle.mb_gate.specs.declared.offer.Offer.{Offer}
use Rattle.mb_gate.specs.declared.offer.Offer.TheVariants.{Next, Stale, Ahead, Illegal}
use Rattle.mb_parts.specs.Rules.{rule_of, shut_before}
use Rattle.mb_gate.specs.Answers.{answer, next_of, convicted_or}
use Rattle.mb_gate.specs.Kinds.{kind_of, message_with}
use Rattle.mb_gate.specs.Marks.{IsMarkOf}
use Rattle.mb_gate.specs.Represents.{Represents}
use Rattle.mb_gate.specs.SenderLogs.{SenderLog, standing, may_stand, is_in_order}
use Rattle.mb_gate.proofs.InnerAside.{goes_on_whatever, permitted_whatever}
use Rattle.mb_gate.proofs.SameMarks.{same_rule, same_floor_behind}

-- the order in which a gate asks
abbrev first_of_these : Option ℕ → Bool → Bool → Bool → ℕ → ℕ → Offer
first_of_these shut stale ahead may next rule = convicted_or shut (if stale then Stale next else if ahead then Ahead next else if may then Next else Illegal rule)

-- It is Next where nothing else fits.
only_next : (shut : Option ℕ) (stale ahead may : Bool) (next rule : ℕ) → first_of_these shut stale ahead may next rule ≡ Next → (stale ≡ false) × (ahead ≡ false) × (may ≡ true)
only_next (Some x) stale ahead may next rule e = absurd cc
only_next None true ahead may next rule e = absurd cc
only_next None false true may next rule e = absurd cc
only_next None false false false next rule e = absurd cc
only_next None false false true next rule e = (refl, refl, refl)

module _ (gate : Gate) (log : SenderLog) (r : Represents gate log) where
  -- The rule is asked of the floor alone.
  may_here : (inner : Bool) (m : Bare) → may_stand log inner m ≡ permits gate.at gate.shape gate.sender (λ b. inner) [] m
  may_here inner m = rw (r.stands, r.shape_is, r.sender_is) (goes_on_whatever log.from log.shape log.sender (λ b. inner) log.taken m r.ordered)

  counter_here : gate.at.counter ≡ (standing log).counter
  counter_here = ap (λ (f : Floor). f.counter) r.stands

  module _ (mark : Mark) (m : Bare) (is : IsMarkOf mark m) (kind : Kind) (of : kind ≡ kind_of m) where
    -- and it is the same for each message with the mark
    rule_here : (inner : Bool) → permits gate.at gate.shape gate.sender (λ b. inner) [] (message_with kind mark) ≡ may_stand log inner m
    rule_here inner = rw of (same_rule gate.at gate.shape gate.sender inner mark m is) ∙ sym (may_here inner m)

    -- the answer at the next counter
    pub judged : (inner may : Bool) → shut_before gate.closed mark.counter ≡ None → gate.at.counter < mark.counter → mark.counter ≤ gate.at.counter + 1
        → may ≡ permits gate.at gate.shape gate.sender (λ b. inner) [] (message_with kind mark)
        → (if may then Next else Illegal (rule_of m)) ≡ answer log m mark.counter inner
    judged inner may not_shut above below says =
        let shut : shut_before log.closed mark.counter ≡ None = rw r.closes at not_shut in
        let stale : nat_le mark.counter (standing log).counter ≡ false = lt-leb _ _ (omega (arith, counter_here)) in
        let ahead : nat_lt ((standing log).counter + 1) mark.counter ≡ false = le-ltb _ _ (omega (arith, counter_here)) in
        rw (shut, stale, ahead, says, rule_here inner) refl

    -- what a message that is next tells
    pub record IsNext : Type 0 where
      pub counter : mark.counter ≡ gate.at.counter + 1
      pub may : may_stand log true m ≡ true

    is_next : (inner : Bool) → answer log m mark.counter inner ≡ Next → IsNext
    is_next inner e =
        let n = only_next (shut_before log.closed mark.counter) (nat_le mark.counter (standing log).counter) (nat_lt ((standing log).counter + 1) mark.counter) (may_stand log inner m) (next_of log) (rule_of m) e in
        record {
          counter = omega (arith, counter_here, leb-false _ _ n.0, ltb-false _ _ n.1);
          may = permitted_whatever log.from log.shape log.sender (λ b. inner) log.taken m n.2;
        }

    -- The list with the message in front is in order, and the gate stands where it leads.
    pub record Takes (at : Floor) : Type 0 where
      pub ordered : is_in_order (record log { taken = m ∷ log.taken }) ≡ true
      pub stands : at ≡ standing (record log { taken = m ∷ log.taken })

    pub takes : (inner : Bool) (at : Floor) → answer log m mark.counter inner ≡ Next
        → (permits gate.at gate.shape gate.sender (λ b. true) [] (message_with kind mark) ≡ true → mark.counter ≡ gate.at.counter + 1 → at ≡ floor_after gate.at (message_with kind mark ∷ []))
        → Takes at
    takes inner at e leads =
        let next = is_next inner e in
        let longer = ordered_cons log.from log.shape log.sender (λ b. true) m log.taken next.may r.ordered in
        record {
          ordered = longer;
          stands =
              leads (rule_here true ∙ next.may) next.counter
              ∙ ap (λ (k : Kind). floor_after gate.at (message_with k mark ∷ [])) of
              ∙ same_floor_behind gate.at mark m is
              ∙ ap (λ (f : Floor). floor_after f (m ∷ [])) r.stands
              ∙ advance log.from log.shape log.sender (λ b. true) m log.taken longer;
        }
