-- A JOIN is made of what its host holds: so its evidence is of its view, and valid as each that is held, and ends where its cause says.
use Rattle.std.proofs.Common.{◌≡◌, ◌≤◌, ◌<◌, true, ◌∷◌, refl, sym, ap, subst, ◌∙◌, inl, inr, arith, Option, Some, None}
use Rattle.std.proofs.lemmas.Bool.{eq-eqb, ne_eqb}
use Rattle.mb_parts.specs.declared.certificates.StableCert.{StableCert}
use Rattle.mb_parts.specs.declared.certificates.Evidence.{Evidence}
use Rattle.mb_parts.specs.Certificates.{is_stable}
use Rattle.mb_parts.specs.Ordered.{end_of}
use Rattle.mb_msg.specs.declared.change.Join.{Join}
use Rattle.mb_msg.specs.declared.stamped.Stamped.TheVariants as stamped
use Rattle.mb_msg.specs.Stamps.{bare_of}
use Rattle.mb_model.specs.Histories.{Stamped, History, Identity, here, view_of}
use Rattle.mb_model.specs.Held.{evidence_of}
use Rattle.mb_model.specs.Stable.{stable_of, low_of}
use Rattle.mb_model.specs.Sending.{next_ui}
use Rattle.mb_model.specs.Making.{join, join_evidence}
use Rattle.mb_model.specs.GateChecks.{valid}
use Rattle.mb_steps.specs.Arises.{Arises, Makes}
use Rattle.mb_steps.proofs.StepHeldEvidence.{evidence_checks}
use Rattle.mb_steps.proofs.StepHeldStable.{stable_checks}
use Rattle.mb_steps.proofs.StepOwnStamped.{steady}
use Rattle.mb_promise.specs.JoinsWithCause.{MayStampJoin}
use Rattle.mb_world_model.specs.World.{self_of}
use Rattle.mb_world_laws.proofs.KeptByWorlds.{world_arises}
use Rattle.mb_host_laws.proofs.Moments.{arises_by}
use Rattle.mb_obligations.proofs.JoinsWithCause.{hosts_join_with_cause}
use Rattle.mb_pins.specs.Joins.{IsShown, ShowsEvidence, HostsShowInJoins}

module _ {S : Type 0} (self : Identity S) (d : History) (arises : Arises self d) (m : Join) where
  made_evidence : Makes self d (stamped.Join m) → m.evidence ≡ join_evidence self d
  made_evidence (e, is) =
      let made : Join = record { view = view_of self d; evidence = join_evidence self d; stable = stable_of self d; ui = next_ui self d (bare_of (join self d)) } in
      ap (λ (x : Join). x.evidence) (sym (same made m is)) where
        same : (x y : Join) → stamped.Join x ≡ stamped.Join y → x ≡ y
        same x y e = cc

  module _ (may : MayStampJoin self d m) (shows : m.evidence ≡ join_evidence self d) where
    low_is : m.stable.pos ≡ low_of self d
    low_is = ap (λ (c : StableCert). c.pos) may.stable

    none_first : m.view ≡ 0 → m.evidence ≡ None
    none_first zero = shows ∙ rw (eq-eqb (view_of self d) 0 (sym may.view ∙ zero)) refl

    module _ (above : 0 < m.view) (e : Evidence) (held : evidence_of self d ≡ Some e) (same : e.view ≡ view_of self d) where
      some_view : view_of self d ≡ 0 → ⊥
      some_view zero = let view = may.view in omega (arith, above, view, zero)

      is_it : join_evidence self d ≡ Some e
      is_it = rw (held, ne_eqb (view_of self d) 0 some_view, eq-eqb e.view (view_of self d) same) refl

      ends_below : e.end ≤ low_of self d
      ends_below = elim may.cause [
        | inl fell ↦
            let last : e.end ≤ (here self d).last = subst (λ (o : Option Evidence). end_of o ≤ (here self d).last) is_it ((steady self d arises).ended fell.opened) in
            let lower = fell.last in
            omega (arith, last, lower)
        | inr past ↦ subst (λ (o : Option Evidence). end_of o ≤ low_of self d) held past.past
      ]

      is_shown : IsShown self d m e
      is_shown = record {
        shown = shows ∙ is_it;
        held = held;
        view = same ∙ sym may.view;
        checks = evidence_checks self d arises e held;
        end = omega (arith, ends_below, low_is);
      }

    shows_evidence : ShowsEvidence self d m
    shows_evidence = record {
      first = none_first;
      later = λ above. elim may.evident [
        | inl zero ↦ let view = may.view in absurd (omega (arith, above, view, zero))
        | inr (e, held, same) ↦ (e, is_shown above e held same)
      ];
      stable = subst (λ (c : StableCert). is_stable self.shape (valid self) c ≡ true) (sym may.stable) (stable_checks self d arises);
    }

pub hosts_show_in_joins : (S : Type 0) → HostsShowInJoins S
hosts_show_in_joins S system k h later before m is =
    let self : Identity S = self_of system h in
    let moment = arises_by self later (Stamped (stamped.Join m) ∷ before) (subst (λ (x : History). Arises self x) is (world_arises system k h)) in
    let may : MayStampJoin self before m = hosts_join_with_cause system k h later before m is in
    shows_evidence self before moment.1 m may (made_evidence self before moment.1 m moment.0)
