-- What a host shows of its own log in a VIEW_CHANGE is good: each entry is one of its stamps, in the form in which it is kept, and the certificates
-- beside are those of its floor and of its stable position.
use Rattle.std.proofs.Common.{◌≡◌, ℕ, ◌+◌, ◌-◌, ◌^◌, ◌<◌, List, [], ◌∷◌, length, arith, refl, subst, Option, Some, None}
use Rattle.std.specs.Prelude.{reverse}
use Rattle.std.specs.List.{AllByRecursion}
use Rattle.mb_base.specs.Shapes.{Bytes}
use Rattle.mb_parts.specs.declared.certificates.FloorCert.{FloorCert}
use Rattle.mb_parts.specs.declared.certificates.StableCert.{StableCert}
use Rattle.mb_parts.specs.declared.certificates.Evidence.{Evidence}
use Rattle.mb_parts.specs.Bares as bare
use Rattle.mb_parts.specs.Claims.{Claim, inner_claims, stable_claims, floor_claims, evidence_claims}
use Rattle.mb_msg.specs.declared.message.Body.{Body}
use Rattle.mb_msg.specs.declared.message.Body.TheVariants.{Whole, Bare as Short}
use Rattle.mb_msg.specs.declared.change.OpenBody.{OpenBody}
use Rattle.mb_msg.specs.declared.stamped.Shown.{Shown}
use Rattle.mb_msg.specs.declared.stamped.Stamped.{Stamped as StampedMessage}
use Rattle.mb_msg.specs.declared.stamped.Stamped.TheVariants as stamped
use Rattle.mb_msg.specs.Stamps.{bare_of_shown}
use Rattle.mb_model.specs.CarriedLogs.{claims_of_floor, claims_of_body, body_claims, entry_claims}
use Rattle.mb_model.specs.GateChecks.{stamp_claim}
use Rattle.mb_model.specs.Histories.{Stamped, History, Identity, counter_of, stamped as all_stamped}
use Rattle.mb_model.specs.OwnLog.{as_shown, behind_opening, behind_change, kept_forms, log_kept, log_start, proof_of}
use Rattle.mb_model.specs.Stable.{stable_of, log_floor}
use Rattle.mb_model.specs.UsableLogs.{entry_claim}
use Rattle.mb_steps.proofs.StepPlanBases.{all_append}
use Rattle.mb_host_laws.proofs.KeptForms.{mapped_keep}
use Rattle.mb_host_laws.proofs.Cases.{all_map, all_reverse, all_right, all_taken, all_flat}
use Rattle.mb_host_laws.specs.Rests.{Each}
use Rattle.mb_host_laws.proofs.PlanFits.{OfBody, OfEntry}
use Rattle.mb_host_laws.proofs.OwnKnown.{IsLowBody, IsLowEntry, AllGood, GoodStable, GoodChange, KnownStamp, Known}
use Rattle.mb_host_laws.proofs.HeldStable.{stable_good}
use Rattle.mb_host_laws.proofs.HeldFloors.{floor_good}

module _ {S : Type 0} (self : Identity S) (Good : Claim → Type 0) (Text : Bytes → Type 0) where
  -- an entry that is shown
  record GoodShown (e : Shown) : Type 0 where
    claim : Good (entry_claim self.host e)
    inner : AllGood self Good Text (inner_claims self.shape (bare_of_shown e))
    body : AllGood self Good Text (body_claims e)
    base : OfEntry (GoodStable self Good Text) e
    low : IsLowEntry e

  abbrev IsGoodForm : StampedMessage → Type 0
  IsGoodForm m = GoodShown (as_shown m)

  body_base : (b : Body OpenBody) → OfBody (GoodStable self Good Text) b → AllGood self Good Text (claims_of_body b)
  body_base (Whole b) g = g.claims
  body_base (Short d) g = tt

  joined_stable : (v : ℕ) (e : Option Evidence) (c : StableCert) → AllGood self Good Text (inner_claims self.shape (bare.Join v e c)) → AllGood self Good Text (stable_claims c)
  joined_stable v None c a = a
  joined_stable v (Some e) c a = all_right Good (evidence_claims self.shape e) (stable_claims c) a

  open_low : (e : Evidence) (b : Body OpenBody) → e.end < 2 ^ 63 → ((x : OpenBody) → b ≡ Whole x → e.base + length x.batches ≡ e.end) → IsLowBody e b
  open_low e (Whole x) lt ends = omega (arith, lt, ends x refl)
  open_low e (Short d) lt ends = tt

  own_claim : (m : StampedMessage) → KnownStamp self Good Text m → Good (record (stamp_claim m) { host = self.host })
  own_claim m k = subst (λ (h : ℕ). Good (record (stamp_claim m) { host = h })) k.mine k.claim

  -- a stamp as it was stamped
  whole_form : (m : StampedMessage) → KnownStamp self Good Text m → IsGoodForm m
  whole_form (stamped.Prepare m) k = record { claim = own_claim (stamped.Prepare m) k; inner = tt; body = tt; base = tt; low = k.bare.1.0.1 }
  whole_form (stamped.Commit m) k = record { claim = own_claim (stamped.Commit m) k; inner = k.inner; body = tt; base = tt; low = k.bare.1.0.1 }
  whole_form (stamped.Checkpoint m) k = record { claim = own_claim (stamped.Checkpoint m) k; inner = tt; body = tt; base = tt; low = tt }
  whole_form (stamped.ViewChange m) k = record { claim = own_claim (stamped.ViewChange m) k; inner = tt; body = tt; base = tt; low = tt }
  whole_form (stamped.NewView m) k = record { claim = own_claim (stamped.NewView m) k; inner = tt; body = tt; base = tt; low = tt }
  whole_form (stamped.Enter m) k = record { claim = own_claim (stamped.Enter m) k; inner = tt; body = tt; base = tt; low = tt }
  whole_form (stamped.Open m) k = record { claim = own_claim (stamped.Open m) k; inner = k.inner; body = body_base m.body k.body.0; base = k.body.0; low = open_low m.evidence m.body k.bare.0.end.1.1 k.body.1 }
  whole_form (stamped.Join m) k = record { claim = own_claim (stamped.Join m) k; inner = k.inner; body = tt; base = record { fits = k.bare.1.1.0; claims = joined_stable m.view m.evidence m.stable k.inner }; low = tt }

  -- without its body
  opening_form : (x : StampedMessage) → IsGoodForm x → IsGoodForm (behind_opening x)
  opening_form (stamped.Prepare m) g = record { claim = g.claim; inner = g.inner; body = g.body; base = tt; low = g.low }
  opening_form (stamped.Commit m) g = record { claim = g.claim; inner = g.inner; body = g.body; base = tt; low = g.low }
  opening_form (stamped.Open m) g = record { claim = g.claim; inner = g.inner; body = tt; base = tt; low = tt }
  opening_form x g = g

  change_form : (x : StampedMessage) → IsGoodForm x → IsGoodForm (behind_change x)
  change_form (stamped.ViewChange m) g = record { claim = g.claim; inner = g.inner; body = g.body; base = tt; low = tt }
  change_form (stamped.NewView m) g = record { claim = g.claim; inner = g.inner; body = g.body; base = tt; low = tt }
  change_form x g = g

  all_forms : (d : History) → Each (Known self Good Text) d → AllByRecursion IsGoodForm (kept_forms (all_stamped d))
  unfolding all_stamped kept_forms
  all_forms [] k = tt
  all_forms (Stamped m ∷ d) k = (whole_form m k.0, mapped_keep IsGoodForm opening_form change_form m (kept_forms (all_stamped d)) (all_forms d k.1))
  all_forms (x ∷ d) k = all_forms d k.1

  -- What the host shows of its log.
  pub shown_good : (d : History) → Each (Known self Good Text) d → GoodChange self Good Text (proof_of self d)
  shown_good d k =
      let forms : AllByRecursion IsGoodForm (log_kept self d) = all_taken IsGoodForm (counter_of d - log_start self d) (kept_forms (all_stamped d)) (all_forms d k) in
      let shown : AllByRecursion GoodShown (proof_of self d).entries = all_map IsGoodForm GoodShown as_shown (λ m g. g) (reverse (log_kept self d)) (all_reverse IsGoodForm (log_kept self d) forms) in
      let stable = stable_good self Good Text d k in
      record {
        floor = λ c e. floor_good self Good Text d k c e;
        stable = stable;
        entries = mapped (proof_of self d).entries shown;
        low = lows (proof_of self d).entries shown;
        claims = all_append Good (claims_of_floor (log_floor self d)) _ (of_floor (log_floor self d) (λ c e. (floor_good self Good Text d k c e).claims))
            (all_append Good (stable_claims (stable_of self d)) _ stable.claims (all_flat GoodShown Good (entry_claims self.shape self.host) one_claims (proof_of self d).entries shown));
      } where
        mapped : (l : List Shown) → AllByRecursion GoodShown l → AllByRecursion (OfEntry (GoodStable self Good Text)) l
        mapped [] a = tt
        mapped (e ∷ l) a = (a.0.base, mapped l a.1)

        lows : (l : List Shown) → AllByRecursion GoodShown l → AllByRecursion IsLowEntry l
        lows [] a = tt
        lows (e ∷ l) a = (a.0.low, lows l a.1)

        of_floor : (o : Option FloorCert) → ((c : FloorCert) → o ≡ Some c → AllGood self Good Text (floor_claims c)) → AllGood self Good Text (claims_of_floor o)
        of_floor None g = tt
        of_floor (Some c) g = g c refl

        one_claims : (e : Shown) → GoodShown e → AllGood self Good Text (entry_claims self.shape self.host e)
        one_claims e g = (g.claim, all_append Good (inner_claims self.shape (bare_of_shown e)) (body_claims e) g.inner g.body)
