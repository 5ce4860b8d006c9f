-- All certificates that a correct host holds for bases have members that it knows: those of its stable certificate, of the base of the plan that it
-- holds, and those that the VIEW_CHANGEs that it holds and its own stamps show (`all_known`). By one induction over its history.
use Rattle.std.proofs.Common.{◌≡◌, ℕ, [], ◌∷◌, ◌++◌, refl, subst, inl, inr, Option, Some, None}
use Rattle.std.specs.Prelude.{nat_le, nat_lt}
use Rattle.std.specs.List.{AllByRecursion}
use Rattle.std.proofs.lemmas.Bool.{cases_Bool}
use Rattle.mb_parts.specs.declared.certificates.StableCert.{StableCert}
use Rattle.mb_parts.specs.Claims.{stable_claims}
use Rattle.mb_msg.specs.declared.message.Message.TheVariants as message
use Rattle.mb_msg.specs.declared.stamped.Stamped.TheVariants as stamped
use Rattle.mb_model.specs.Histories.{Entry, Accepted, Stamped, History, Identity, stamped as all_stamped}
use Rattle.mb_model.specs.Held.{change_in, changes_of, plan_in, plan_held}
use Rattle.mb_model.specs.Stable.{stable_of, learnt_in, further, plan_base, agreed_above}
use Rattle.mb_model.proofs.Options.{or_some, if_some}
use Rattle.mb_steps.specs.Arises.{Arises, Adds}
use Rattle.mb_steps.proofs.StepHeldEvidence.{some_is}
use Rattle.mb_model.specs.Inside.{claims_in, stamped_claims, join_claims}
use Rattle.mb_parts.specs.Claims.{evidence_claims, floor_claims}
use Rattle.mb_world_model.specs.WorldEvents.{IsCorrect}
use Rattle.mb_world_model.specs.World.{World, System, self_of}
use Rattle.mb_world_laws.proofs.Facts.{Facts}
use Rattle.mb_host_laws.proofs.Moments.{IsPast, past_tail}
use Rattle.mb_views.proofs.KnownCerts.{IsKnownCert, above_known}
use Rattle.mb_views.proofs.KnownStable.{none_known, left, right, accepted_claims}
use Rattle.mb_model.specs.Compared.{inside_some}
use Rattle.mb_views.proofs.KnownHeld.{Entries, AllKnown, stamp_known, stored_known, arrived_known, brought_known}

module _ {S : Type 0} (system : System S) (w : World) (f : Facts system w) (h : ℕ) (correct : IsCorrect system.schedule h) where
  abbrev self : Identity S
  self = self_of system h

  abbrev Known : StableCert → Type 0
  Known c = IsKnownCert system w f h correct c

  learnt_known : (d : History) (x : Entry) → IsPast (x ∷ d) (w.histories h) → Adds self d x → AllKnown system w f h correct d → (low : ℕ) (c : StableCert) → learnt_in self d low x ≡ Some c → Known c
  unfolding claims_in stamped_claims
  learnt_known d (Accepted (message.Join m)) past a k low c e = subst Known (some_is m.stable c e)
      (right system w f h correct (inside_some (evidence_claims system.schedule.shape) m.evidence) (stable_claims m.stable)
      (left system w f h correct (join_claims system.schedule.shape m) _ (accepted_claims system w f h correct (message.Join m) d past)))
  learnt_known d (Accepted (message.Log m)) past a k low c e = subst Known (some_is m.stable c e)
      (right system w f h correct (inside_some floor_claims m.floor) (stable_claims m.stable)
      (left system w f h correct (inside_some floor_claims m.floor ++ stable_claims m.stable) _
      (left system w f h correct ((inside_some floor_claims m.floor ++ stable_claims m.stable) ++ inside_some (evidence_claims system.schedule.shape) m.evidence) _ (accepted_claims system w f h correct (message.Log m) d past))))
  learnt_known d (Accepted (message.Checkpoint m)) past a k low c e =
      above_known system w f h correct (Accepted (message.Checkpoint m) ∷ d) past low c (if_some (nat_le low m.pos) (agreed_above system.schedule.shape (Accepted (message.Checkpoint m) ∷ d) low) c e).1
  learnt_known d (Stamped (stamped.Checkpoint m)) past a k low c e =
      above_known system w f h correct (Stamped (stamped.Checkpoint m) ∷ d) past low c (if_some (nat_le low m.pos) (agreed_above system.schedule.shape (Stamped (stamped.Checkpoint m) ∷ d) low) c e).1
  learnt_known d x past a k low c e = go (plan_in self d (plan_held self d) x) refl e where
    go : (o : Option _) → plan_in self d (plan_held self d) x ≡ o → plan_base o ≡ Some c → Known c
    go None is e = absurd cc
    go (Some p) is e = subst Known (some_is p.1.base c e) (brought_known system w f h correct d x past a k p is)

  further_known : (old : StableCert) (x : Option StableCert) → Known old → ((c : StableCert) → x ≡ Some c → Known c) → Known (further old x)
  further_known old None o new = o
  further_known old (Some c) o new = elim (cases_Bool (nat_lt old.pos c.pos)) [
    | inl more ↦ rw more (new c refl)
    | inr less ↦ rw less o
  ]

  stamps_known : (d : History) (x : Entry) → Adds self d x → AllKnown system w f h correct d → AllByRecursion (λ m. Entries system w f h correct m) (all_stamped (x ∷ d))
  unfolding all_stamped
  stamps_known d (Stamped m) a k = (stamp_known system w f h correct d m a k, k.stamps)
  stamps_known d x a k = k.stamps

  pub all_known : (d : History) → IsPast d (w.histories h) → Arises self d → AllKnown system w f h correct d
  unfolding all_stamped changes_of stable_of plan_held
  all_known [] past a = record { stable = none_known system w f h correct; plan = λ p e. absurd cc; changes = tt; stamps = tt }
  all_known (x ∷ d) past a =
      let k = all_known d (past_tail x d (w.histories h) past) a.1 in
      record {
        stable = further_known (stable_of self d) (learnt_in self d (stable_of self d).pos x) k.stable (λ c e. learnt_known d x past a.0 k (stable_of self d).pos c e);
        plan = λ p e. elim (or_some (plan_in self d (plan_held self d) x) (plan_held self d) p e) [
          | inl now ↦ brought_known system w f h correct d x past a.0 k p now
          | inr before ↦ k.plan p before
        ];
        changes = arrived_known system w f h correct (change_in self d x) (changes_of self d) (λ m e. stored_known system w f h correct d x past a.0 k m e) k.changes;
        stamps = stamps_known d x a.0 k;
      }
