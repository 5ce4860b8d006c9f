-- Lists that go on from a floor, behind the list that leads to the floor.
--
-- Both laws go by the length of the list, one message at a time. A message is permitted behind the floor exactly where it is permitted behind
-- the hidden list and what came since: by `goes_on`, each of these is a question about one floor, and these floors are the same (`advance`).
use Rattle.std.proofs.Common.{◌≡◌, ℕ, Bool, true, List, [], ◌∷◌, ◌++◌, refl, sym, ap, ◌∙◌, arith}
use Rattle.std.proofs.lemmas.Bool.{eq-eqb}
use Rattle.mb_base.specs.declared.shape.Shape.{Shape}
use Rattle.mb_parts.specs.declared.floor.Floor.{Floor}
use Rattle.mb_parts.specs.declared.floor.Phase.{Phase}
use Rattle.mb_parts.specs.declared.floor.Phase.TheVariants as phase
use Rattle.mb_parts.specs.Bares.{Bare}
use Rattle.mb_parts.specs.Ordered.{current_view, is_opened, is_entered, last_position, top_position, last_checkpoint, permits, is_ordered, floor_after, phase_from, phase_is_open, phase_is_entered}
use Rattle.mb_parts.proofs.OrderedParts.{ordered_nil, ordered_cons, head, tail}
use Rattle.mb_parts.proofs.OrderedLaws.{goes_on}
use Rattle.mb_parts.proofs.Advance.{advance, same_floor}

phase_again : (h : Phase) → phase_from (phase_is_open h) (phase_is_entered h) ≡ h
phase_again phase.Open = refl
phase_again phase.Entered = refl
phase_again phase.Changing = refl

-- A list without messages leads to the floor that it goes on from.
pub floor_after_nil : (o : Floor) → floor_after o [] ≡ o
unfolding current_view is_opened is_entered last_position top_position last_checkpoint
floor_after_nil o =
    same_floor _ _ _ _ _ _ _ _ _ _ _ _ (omega arith) refl (rw (eq-eqb o.view o.view refl) (phase_again o.phase)) (rw (eq-eqb o.view o.view refl) refl) refl refl

module _ (o : Floor) (s : Shape) (host : ℕ) (inner : Bare → Bool) where
  -- The list goes on from the floor to which the hidden list leads, as it does behind that list.
  pub record GoesOn (hidden l : List Bare) : Type 0 where
    pub ordered : is_ordered (floor_after o hidden) s host inner l ≡ true
    pub leads : floor_after (floor_after o hidden) l ≡ floor_after o (l ++ hidden)

  -- a message is permitted behind the floor as it is behind the whole list
  pub same_permits : (hidden l : List Bare) (m : Bare) → is_ordered o s host inner (l ++ hidden) ≡ true → GoesOn hidden l
      → permits (floor_after o hidden) s host inner l m ≡ permits o s host inner (l ++ hidden) m
  same_permits hidden l m h c =
      goes_on (floor_after o hidden) s host inner l m c.ordered
      ∙ ap (λ (x : Floor). permits x s host inner [] m) c.leads
      ∙ sym (goes_on o s host inner (l ++ hidden) m h)

  leads_on : (hidden l : List Bare) (m : Bare) → is_ordered o s host inner (m ∷ l ++ hidden) ≡ true → is_ordered (floor_after o hidden) s host inner (m ∷ l) ≡ true
      → GoesOn hidden l → floor_after (floor_after o hidden) (m ∷ l) ≡ floor_after o (m ∷ l ++ hidden)
  leads_on hidden l m whole behind c =
      sym (advance (floor_after o hidden) s host inner m l behind)
      ∙ ap (λ (x : Floor). floor_after x (m ∷ [])) c.leads
      ∙ advance o s host inner m (l ++ hidden) whole

  -- what stands behind a beginning of an ordered list
  pub parts : (hidden l : List Bare) → is_ordered o s host inner (l ++ hidden) ≡ true → GoesOn hidden l
  parts hidden [] h = record { ordered = ordered_nil (floor_after o hidden) s host inner; leads = floor_after_nil (floor_after o hidden) }
  parts hidden (m ∷ l) h =
      let rest = tail o s host inner m (l ++ hidden) h in
      let c = parts hidden l rest in
      let allowed : permits (floor_after o hidden) s host inner l m ≡ true = same_permits hidden l m rest c ∙ head o s host inner m (l ++ hidden) h in
      let all = ordered_cons (floor_after o hidden) s host inner m l allowed c.ordered in
      record { ordered = all; leads = leads_on hidden l m h all c }

  -- what goes on from the floor of a hidden list, behind that list
  pub joins : (hidden l : List Bare) → is_ordered o s host inner hidden ≡ true → is_ordered (floor_after o hidden) s host inner l ≡ true
      → (is_ordered o s host inner (l ++ hidden) ≡ true) × GoesOn hidden l
  joins hidden [] h k = (h, record { ordered = k; leads = floor_after_nil (floor_after o hidden) })
  joins hidden (m ∷ l) h k =
      let before = joins hidden l h (tail (floor_after o hidden) s host inner m l k) in
      let allowed : permits o s host inner (l ++ hidden) m ≡ true = sym (same_permits hidden l m before.0 before.1) ∙ head (floor_after o hidden) s host inner m l k in
      let whole = ordered_cons o s host inner m (l ++ hidden) allowed before.0 in
      (whole, record { ordered = k; leads = leads_on hidden l m whole k before.1 })
