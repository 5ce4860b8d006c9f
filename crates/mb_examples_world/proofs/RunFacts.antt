-- What the promise gives in the whole run with a change of the view (`change_of_view`), where it has something to say (`Worlds`). Its premises are `WholeRun`'s.
use Rattle.std.proofs.Common.{◌≡◌, ◌<◌, inl, inr, sym, ◌∙◌, ℕ, true, List, [], ◌∷◌, refl, arith, ap, Option, Some}
use Rattle.std.specs.Prelude.{option_map, drop, slice_get}
use Rattle.mb_parts.specs.declared.certificates.Evidence.{Evidence}
use Rattle.mb_parts.specs.Certificates.{is_evidence}
use Rattle.mb_parts.specs.Bares.{batch_digest}
use Rattle.mb_msg.specs.declared.event.Slot.{Slot}
use Rattle.mb_model.specs.Committed.{planned}
use Rattle.mb_model.specs.Histories.{Entry, Executed, History}
use Rattle.mb_world_model.specs.WorldEvents.{IsCorrect}
use Rattle.mb_world_model.specs.WorldRecord.{plans, issued}
use Rattle.mb_promise.specs.Headline.{Promises}
use Rattle.mb_promise.specs.Safety.{IsLineSlot}
use Rattle.mb_promise.specs.Justification.{IsJustifiedSlot}
use Rattle.mb_examples_world.proofs.Worlds.{one_client, change_of_view, last_world, batch, slot, vote, evidence, numbers, it_leads_there, it_is_voted_again}

some_is : {A : Type 0} (x y : A) → Some x ≡ Some y → x ≡ y
some_is x y e = cc

-- ---- what the promise gives there

head_and_rest : (d : History) (e : Entry) → slice_get d 0 ≡ Some e → d ≡ e ∷ drop 1 d
head_and_rest [] e is = absurd cc
head_and_rest (x ∷ d) e is = ap (λ (y : Entry). y ∷ d) (some_is x e is)

correct_2 : IsCorrect change_of_view.schedule 2
correct_2 =
    let there : 2 < 3 = omega arith in
    (there, refl)

mapped : {A B : Type 0} (f : A → B) (o : Option A) (x : A) (y : B) → o ≡ Some x → option_map f o ≡ Some y → f x ≡ y
mapped f o x y is told = some_is (f x) y (ap (option_map f) (sym is) ∙ told)

-- The committed batch is in the plan of view 1, whose base is 0.
batch_stays : Promises change_of_view last_world → (e : Evidence) → evidence ≡ Some e → planned (plans change_of_view.schedule last_world e.plan) 1 ≡ Some (batch_digest batch)
batch_stays promise e is =
    let told : numbers e ≡ (1, 0, 1, 3) = mapped numbers evidence e (1, 0, 1, 3) is it_leads_there.evidence_is in
    let view : e.view ≡ 1 = ap (λ (x : ℕ × ℕ × ℕ × ℕ). x.0) told in
    let base : e.base ≡ 0 = ap (λ (x : ℕ × ℕ × ℕ × ℕ). x.1) told in
    let issued_is : is_evidence one_client (issued change_of_view.schedule last_world) e ≡ true = mapped (is_evidence one_client (issued change_of_view.schedule last_world)) evidence e true is it_is_voted_again.evidence_issued in
    let later : 0 < e.view = omega (arith, view) in
    elim (promise.agrees.committed_stays 0 1 vote e it_is_voted_again.committed_in_view_0 issued_is later) [
      | inl below ↦ absurd (omega (arith, base, below))
      | inr there ↦ there
    ]

-- The slot was asked for, has a right tag, and was executed by a correct host.
slot_is_right : Promises change_of_view last_world → IsLineSlot change_of_view last_world 0 slot
slot_is_right promise = promise.safe.line 0 slot (ap (λ (l : List Slot). slice_get l 0) it_leads_there.line_is)

-- Two hosts voted for it, as h2 was given and stamped.
execution_is_justified : Promises change_of_view last_world → IsJustifiedSlot change_of_view.schedule last_world 2 (drop 1 (last_world.histories 2)) slot
execution_is_justified promise = promise.justified.executed 2 [] (drop 1 (last_world.histories 2)) slot correct_2 (head_and_rest (last_world.histories 2) (Executed slot) it_leads_there.last_of_h2)
