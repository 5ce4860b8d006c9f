-- A usable log, as the search over all logs reads it.
--
-- The run of votes that counts begins at the base of the last opening, or at the last position of the floor. The first is one of those that the
-- plan's base is the greatest of; the second is at most the greatest position that the floor hides, so at most the stable position, which is
-- another of those. So the run begins at or below the plan's base (`run_low`).
use Rattle.std.proofs.Common.{◌≡◌, ℕ, ◌≤◌, Bool, true, List, [], ◌∷◌, ◌++◌, sym, ap, ◌∙◌, inl, inr, arith, Option, Some, append_assoc}
use Rattle.std.specs.List.{AllByRecursion}
use Rattle.mb_base.specs.declared.shape.Shape.{Shape}
use Rattle.mb_base.specs.Shapes.{Bytes}
use Rattle.mb_parts.specs.Bares.{Bare, batch_digest}
use Rattle.mb_parts.specs.Bares as bare
use Rattle.mb_parts.specs.Ordered.{initial_floor, is_ordered, floor_after, current_view, top_position}
use Rattle.mb_parts.specs.Claims.{Claim}
use Rattle.mb_parts.specs.Certificates.{inner_valid}
use Rattle.mb_parts.specs.Counters.{IsBeginning}
use Rattle.mb_model.specs.UsableLogs.{bares}
use Rattle.mb_model.specs.Plans.{ShownLog, newest, opened_view, opened_from, highest_view, of_view, base_of, view_if_open}
use Rattle.mb_model.specs.Committed.{Plans}
use Rattle.mb_agreement.specs.Agreement.{IsConsistentRecord, IsUsableLog, IsKnownPlan}
use Rattle.mb_model.proofs.UsableLaws.{AreSound, HaveBodies}
use Rattle.mb_agreement.proofs.ShownPrefixes.{shown_prefix, ordered_once}
use Rattle.mb_agreement.proofs.WholeLists.{last_below_top}
use Rattle.mb_agreement.proofs.FoundVotes.{run_start}
use Rattle.mb_agreement.proofs.ShownOpenings.{run_base}
use Rattle.mb_model.specs.Members.{In}
use Rattle.mb_model.proofs.PlanLaws.{stable_below, opening_below, of_view_in}

module _ (s : Shape) (secret : Bytes) (plans : Plans) (issued : Claim → Bool) (prefix : ℕ → List Bare) (facts : IsConsistentRecord s secret plans issued prefix) where
  -- ---- a usable log, as the search reads it

  -- A usable log to a view, and all that the proof says of it: what its floor hides, that its entries and the VIEW_CHANGE stand behind that in its
  -- host's prefix, and what the search reads of it.
  pub record IsReady (w : ℕ) (log : ShownLog) : Type 0 where
    pub hidden : List Bare
    pub digest : Bytes
    pub once : IsBeginning (bare.ViewChange w digest ∷ (bares (newest log) ++ hidden)) (prefix log.host)
    pub ordered : is_ordered initial_floor s log.host (inner_valid s issued) (bares (newest log) ++ hidden) ≡ true
    pub changes : is_ordered initial_floor s log.host (inner_valid s issued) (bare.ViewChange w digest ∷ (bares (newest log) ++ hidden)) ≡ true
    pub entries : AreSound s secret issued log.host log.body.stable.pos (floor_after initial_floor hidden) (newest log)
    pub known : AllByRecursion (IsKnownPlan plans) (newest log)
    pub bodies : HaveBodies s secret issued log.host log.body.stable.pos (floor_after initial_floor hidden) (newest log)
    pub opened : opened_view log ≡ opened_from (view_if_open (Some (floor_after initial_floor hidden))) (newest log)
    pub low : top_position initial_floor hidden ≤ log.body.stable.pos
    pub hidden_ordered : is_ordered initial_floor s log.host (inner_valid s issued) hidden ≡ true

  pub drop_newest : (host : ℕ) (m : Bare) (l : List Bare) → IsBeginning (m ∷ l) (prefix host) → IsBeginning l (prefix host)
  drop_newest host m l once = record { later = once.later ++ m ∷ []; is = append_assoc once.later (m ∷ []) l ∙ once.is }

  pub ready : (w : ℕ) (log : ShownLog) → IsUsableLog s secret plans issued prefix w log → IsReady w log
  ready w log u =
      let p = shown_prefix s secret plans issued prefix facts w log u in
      let whole = drop_newest log.host _ (bares (newest log) ++ p.floor.hidden) p.once in
      record {
        hidden = p.floor.hidden;
        digest = p.digest;
        once = p.once;
        ordered = ordered_once s secret plans issued prefix facts log.host _ whole;
        changes = ordered_once s secret plans issued prefix facts log.host _ p.once;
        entries = rw p.floor.stands p.sound;
        known = u.known;
        bodies = rw p.floor.stands p.bodies;
        opened = ap (λ (x : Option ℕ). opened_from x (newest log)) (p.floor.opened ∙ ap (λ x. view_if_open (Some x)) (sym p.floor.stands));
        low = top_low (ap (λ x. x.top) p.floor.stands) p.floor.low p.low_floor;
        hidden_ordered = ordered_once s secret plans issued prefix facts log.host _ p.floor.once;
      } where
        top_low : {a b c d : ℕ} → a ≡ b → b ≤ c → c ≤ d → a ≤ d
        top_low x y z = omega arith

  -- the run of votes that counts begins at or below the base
  pub run_low : (w : ℕ) (log : ShownLog) (logs : List ShownLog) (u : ℕ) → In logs log → highest_view logs ≡ Some u → opened_view log ≡ Some u
      → (r : IsReady w log) → run_start r.hidden (newest log) ≤ (base_of logs).pos
  run_low w log logs u here high view r =
      elim (run_base s secret plans issued prefix facts log.host log.body.stable.pos r.hidden (newest log) r.entries r.bodies) [
        | inl (c, shown, at) ↦
            let among : In (of_view (highest_view logs) logs) log = rw high (of_view_in u log logs here view) in
            let below = opening_below c log logs among shown in
            omega arith
        | inr last ↦
            let stable = stable_below log logs here in
            let top = last_below_top s secret plans issued prefix facts log.host r.hidden (current_view initial_floor r.hidden) in
            let low = r.low in
            omega arith
      ]
