-- Behind each execution of a multiple of the interval for which there was room stands its CHECKPOINT.
use Rattle.std.proofs.Common.{◌≡◌, ℕ, true, [], ◌∷◌, ◌++◌, refl, sym, ◌∙◌, ap, subst, inl, inr, ◌⊎◌}
use Rattle.std.specs.Prelude.{◌==◌, ◌%◌}
use Rattle.std.proofs.lemmas.Bool.{cases_Bool, eq-eqb}
use Rattle.mb_base.specs.Shapes.{interval}
use Rattle.mb_parts.specs.declared.batch.Batch.{Batch}
use Rattle.mb_msg.specs.declared.event.Slot.{Slot}
use Rattle.mb_msg.specs.declared.message.Message.TheVariants as message
use Rattle.mb_msg.specs.declared.stamped.Stamped.{Stamped as StampedMessage}
use Rattle.mb_msg.specs.declared.message.Body.TheVariants.{Whole}
use Rattle.mb_msg.specs.Stamps.{bare_of}
use Rattle.mb_model.specs.States.{state_digest}
use Rattle.mb_model.specs.Histories.{Entry, Accepted, Stamped, Served, Executed, History, Identity}
use Rattle.mb_model.specs.OwnLog.{has_room}
use Rattle.mb_model.specs.Sending.{Progress, signed, next_ui}
use Rattle.mb_model.specs.Making.{checkpoint, present_parts, floors_under}
use Rattle.mb_model.specs.CarriedOut.{serve_all, slot_for, close_slot, at_interval, execute}
use Rattle.mb_promise.specs.NothingLeft.{HasRoom, IsCheckpointed, StampsCheckpoints}
use Rattle.mb_host_laws.proofs.KeptByEvents.{is_plain, IsKept, served_keep, state_keeps}
use Rattle.mb_each_host.proofs.Words.{room_is}

-- An executed slot of a list is its first entry, or stands behind it.
split : (e : Entry) (d later before : History) (slot : Slot) → e ∷ d ≡ later ++ Executed slot ∷ before
    → ((later ≡ []) × (e ≡ Executed slot) × (d ≡ before)) ⊎ ((more : History) × (later ≡ e ∷ more) × (d ≡ more ++ Executed slot ∷ before))
split e d [] before slot is = inl (refl, cc, cc)
split e d (x ∷ more) before slot is = inr (more, cc, cc)

no_slot : (e : Entry) (slot : Slot) → is_plain e ≡ true → e ≡ Executed slot → ⊥
no_slot e slot plain is = let h : is_plain (Executed slot) ≡ true = subst (λ (x : Entry). is_plain x ≡ true) is plain in absurd cc

same_slot : (s slot : Slot) → Executed s ≡ Executed slot → s ≡ slot
same_slot s slot is = cc

module _ {S : Type 0} (self : Identity S) where
  -- one more entry in front
  further : (d : History) (e : Entry) (later before : History) (slot : Slot) → IsCheckpointed self d later before slot → IsCheckpointed self (e ∷ d) (e ∷ later) before slot
  further d e later before slot c = record { message = c.message; more = e ∷ c.more; follows = ap (λ (l : History). e ∷ l) c.follows; position = c.position; digest = c.digest; floors = c.floors }

  in_front : (e : Entry) (d : History) → ((slot : Slot) → e ≡ Executed slot → ⊥) → StampsCheckpoints self d → StampsCheckpoints self (e ∷ d)
  in_front e d none all later before slot is multiple room = elim (split e d later before slot is) [
    | inl (first, same, rest) ↦ absurd (none slot same)
    | inr (more, first, rest) ↦ subst (λ (l : History). IsCheckpointed self (e ∷ d) l before slot) (sym first) (further d e more before slot (all more before slot rest multiple room))
  ]

  -- An execution without a CHECKPOINT: between multiples, or without room.
  alone : (s : Slot) (d : History) → (s.pos % interval self.shape ≡ 0 → HasRoom self (Executed s ∷ d) → ⊥) → StampsCheckpoints self d → StampsCheckpoints self (Executed s ∷ d)
  alone s d none all later before slot is multiple room = elim (split (Executed s) d later before slot is) [
    | inl (first, same, rest) ↦
        let it : s ≡ slot = same_slot s slot same in
        absurd (none (subst (λ (x : Slot). x.pos % interval self.shape ≡ 0) (sym it) multiple)
        (subst (λ (x : Slot). HasRoom self (Executed x ∷ d)) (sym it) (subst (λ (l : History). HasRoom self (Executed slot ∷ l)) (sym rest) room)))
    | inr (more, first, rest) ↦ subst (λ (l : History). IsCheckpointed self (Executed s ∷ d) l before slot) (sym first) (further d (Executed s) more before slot (all more before slot rest multiple room))
  ]

  -- An execution with its CHECKPOINT.
  abbrev with_its : Slot → History → History
  with_its s d = Stamped (signed self (Executed s ∷ d) (checkpoint self (Executed s ∷ d) s.pos)) ∷ Executed s ∷ d

  stamped_here : (s : Slot) (d : History) → IsCheckpointed self (with_its s d) (Stamped (signed self (Executed s ∷ d) (checkpoint self (Executed s ∷ d) s.pos)) ∷ []) d s
  stamped_here s d = record {
    message = record {
      pos = s.pos;
      state = state_digest (present_parts self (Executed s ∷ d)) s.pos;
      body = Whole (record { floors = floors_under self (Executed s ∷ d) s.pos });
      ui = next_ui self (Executed s ∷ d) (bare_of (checkpoint self (Executed s ∷ d) s.pos));
    };
    more = [];
    follows = refl;
    position = refl;
    digest = refl;
    floors = refl;
  }

  accompanied : (s : Slot) (d : History) → StampsCheckpoints self d → StampsCheckpoints self (with_its s d)
  accompanied s d all later before slot is multiple room =
      let c : StampedMessage = signed self (Executed s ∷ d) (checkpoint self (Executed s ∷ d) s.pos) in
      elim (split (Stamped c) (Executed s ∷ d) later before slot is) [
        | inl (first, same, rest) ↦ let no : Stamped c ≡ Executed slot = same in absurd cc
        | inr (more, first, rest) ↦ subst (λ (l : History). IsCheckpointed self (with_its s d) l before slot) (sym first) (elim (split (Executed s) d more before slot rest) [
          | inl (none, same, behind) ↦
              subst (λ (l : History). IsCheckpointed self (with_its s d) (Stamped c ∷ l) before slot) (sym none)
              (subst (λ (x : Slot). IsCheckpointed self (with_its s d) (Stamped c ∷ []) before x) (same_slot s slot same)
              (subst (λ (l : History). IsCheckpointed self (with_its s d) (Stamped c ∷ []) l s) behind (stamped_here s d)))
          | inr (others, second, behind) ↦
              subst (λ (l : History). IsCheckpointed self (with_its s d) (Stamped c ∷ l) before slot) (sym second)
              (further (Executed s ∷ d) (Stamped c) (Executed s ∷ others) before slot (further d (Executed s) others before slot (all others before slot behind multiple room)))
        ])
      ]

  closed_checks : (pos : ℕ) (x : Progress) → StampsCheckpoints self x.history → StampsCheckpoints self (at_interval self pos (close_slot self pos x)).history
  closed_checks pos x all =
      let s : Slot = slot_for self x.history pos in
      elim (cases_Bool (pos % interval self.shape == 0)) [
        | inr between ↦ rw between (alone s x.history (λ multiple room. absurd (let is = eq-eqb (pos % interval self.shape) 0 multiple in let e = sym is ∙ between in cc)) all)
        | inl at ↦ rw at (elim (cases_Bool (has_room self (Executed s ∷ x.history))) [
          | inl room ↦ rw room (accompanied s x.history all)
          | inr full ↦ rw full (alone s x.history (λ multiple room. let is = room_is self (Executed s ∷ x.history) room in absurd cc) all)
        ])
      ]

  executed_checks : (pos : ℕ) (b : Batch) (x : Progress) → StampsCheckpoints self x.history → StampsCheckpoints self (execute self pos b x).history
  unfolding execute
  executed_checks pos b x all = closed_checks pos (serve_all self pos b.requests x)
      (served_keep self (λ d. StampsCheckpoints self d) (λ p placed d y. in_front (Served p placed) d (λ slot same. absurd cc) y) pos b.requests x all)

  pub begins_checkpointed : StampsCheckpoints self []
  begins_checkpointed [] before slot is multiple room = absurd cc
  begins_checkpointed (e ∷ later) before slot is multiple room = absurd cc

  pub checkpoints_kept : IsKept self (λ d. StampsCheckpoints self d)
  checkpoints_kept = record {
    plain = λ e d plain all. in_front e d (λ slot same. no_slot e slot plain same) all;
    normal = λ m d kind room all. in_front (Stamped m) d (λ slot same. absurd cc) all;
    change = λ m d kind room all. in_front (Stamped m) d (λ slot same. absurd cc) all;
    executed = executed_checks;
    state = λ m x all. state_keeps self (λ d. StampsCheckpoints self d) (λ m d y. in_front (Accepted (message.State m)) d (λ slot same. absurd cc) y)
        (λ e d plain y. in_front e d (λ slot same. no_slot e slot plain same) y) m x all;
  }
