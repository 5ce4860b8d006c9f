-- What holds of all certificates and requests in a stamped message holds of those in each form in which it is kept and shown.
use Rattle.std.proofs.Common.{◌+◌, ◌++◌, List, [], ◌∷◌}
use Rattle.std.specs.Prelude.{map}
use Rattle.std.specs.List.{AllByRecursion}
use Rattle.mb_base.specs.declared.shape.Shape.{Shape}
use Rattle.mb_parts.specs.declared.request.Request.{Request}
use Rattle.mb_parts.specs.Claims.{Claim, evidence_claims}
use Rattle.mb_msg.specs.declared.message.Message.{Message}
use Rattle.mb_msg.specs.declared.stamped.Shown.{Shown}
use Rattle.mb_msg.specs.declared.stamped.Stamped.{Stamped as StampedMessage}
use Rattle.mb_msg.specs.declared.stamped.Stamped.TheVariants as stamped
use Rattle.mb_msg.specs.Bodies.{inside_whole}
use Rattle.mb_msg.specs.Stamps.{as_message, bare_of, ui_of}
use Rattle.mb_model.specs.OwnLog.{behind_opening, behind_change, kept_forms, as_shown, first_packed}
use Rattle.mb_steps.proofs.StepPlanBases.{all_append}
use Rattle.mb_model.specs.Inside.{sender_claim, open_body_claims, open_claims, claims_in_stamped, shown_claims, stamped_claims, claims_in, shown_requests, stamped_requests, requests_in}
use Rattle.mb_host_laws.proofs.KeptForms.{forms_keep, first_keep}
use Rattle.mb_host_laws.proofs.Cases.{all_left, all_right}

module _ (s : Shape) (P : Claim → Type 0) (Q : Request → Type 0) where
  -- All certificates have the one property, and all requests the other.
  pub record OfMessage (m : Message) : Type 0 where
    pub claims : AllByRecursion P (claims_in s m)
    pub requests : AllByRecursion Q (requests_in m)

  pub record OfStamped (m : StampedMessage) : Type 0 where
    pub claims : AllByRecursion P (stamped_claims s m)
    pub requests : AllByRecursion Q (stamped_requests m)

  pub record OfShown (e : Shown) : Type 0 where
    pub claims : AllByRecursion P (shown_claims s e)
    pub requests : AllByRecursion Q (shown_requests e)

  -- ---- a stamped message by itself

  pub from_message : (m : StampedMessage) → OfMessage (as_message m) → OfStamped m
  unfolding claims_in requests_in
  from_message (stamped.Prepare m) a = record { claims = a.claims; requests = a.requests }
  from_message (stamped.Commit m) a = record { claims = a.claims; requests = a.requests }
  from_message (stamped.Checkpoint m) a = record { claims = a.claims; requests = a.requests }
  from_message (stamped.ViewChange m) a = record { claims = a.claims; requests = a.requests }
  from_message (stamped.NewView m) a = record { claims = a.claims; requests = a.requests }
  from_message (stamped.Enter m) a = record { claims = a.claims; requests = a.requests }
  from_message (stamped.Open m) a = record { claims = a.claims; requests = a.requests }
  from_message (stamped.Join m) a = record { claims = a.claims; requests = a.requests }

  pub as_whole : (m : StampedMessage) → OfStamped m → OfMessage (as_message m)
  unfolding claims_in requests_in
  as_whole (stamped.Prepare m) a = record { claims = a.claims; requests = a.requests }
  as_whole (stamped.Commit m) a = record { claims = a.claims; requests = a.requests }
  as_whole (stamped.Checkpoint m) a = record { claims = a.claims; requests = a.requests }
  as_whole (stamped.ViewChange m) a = record { claims = a.claims; requests = a.requests }
  as_whole (stamped.NewView m) a = record { claims = a.claims; requests = a.requests }
  as_whole (stamped.Enter m) a = record { claims = a.claims; requests = a.requests }
  as_whole (stamped.Open m) a = record { claims = a.claims; requests = a.requests }
  as_whole (stamped.Join m) a = record { claims = a.claims; requests = a.requests }

  -- ---- forms

  -- its own certificate alone
  own_only : (m : StampedMessage) → OfStamped m → AllByRecursion P (sender_claim (ui_of m) (bare_of m) ∷ [])
  unfolding stamped_claims
  own_only m a = all_right P (claims_in_stamped s m) (sender_claim (ui_of m) (bare_of m) ∷ []) a.claims

  opening_form : (x : StampedMessage) → OfStamped x → OfStamped (behind_opening x)
  unfolding stamped_claims
  opening_form (stamped.Prepare m) a = record { claims = a.claims; requests = tt }
  opening_form (stamped.Commit m) a = record { claims = a.claims; requests = tt }
  opening_form (stamped.Open m) a =
      let own : Claim = sender_claim m.ui (bare_of (stamped.Open m)) in
      let inner : AllByRecursion P (open_claims s m) = all_left P (open_claims s m) (own ∷ []) a.claims in
      let shown : AllByRecursion P (evidence_claims s m.evidence) = all_left P (evidence_claims s m.evidence) (inside_whole open_body_claims m.body) inner in
      record { claims = all_append P (evidence_claims s m.evidence ++ []) (own ∷ []) (all_append P (evidence_claims s m.evidence) [] shown tt) (own_only (stamped.Open m) a); requests = tt }
  opening_form x a = a

  change_form : (x : StampedMessage) → OfStamped x → OfStamped (behind_change x)
  unfolding stamped_claims
  change_form (stamped.ViewChange m) a = record { claims = own_only (stamped.ViewChange m) a; requests = tt }
  change_form (stamped.NewView m) a = record { claims = own_only (stamped.NewView m) a; requests = tt }
  change_form x a = a

  shown_form : (m : StampedMessage) → OfStamped m → OfShown (as_shown m)
  unfolding stamped_claims shown_claims
  shown_form (stamped.Prepare m) a = record { claims = a.claims; requests = a.requests }
  shown_form (stamped.Commit m) a = record { claims = a.claims; requests = a.requests }
  shown_form (stamped.Checkpoint m) a = record { claims = own_only (stamped.Checkpoint m) a; requests = tt }
  shown_form (stamped.ViewChange m) a = record { claims = own_only (stamped.ViewChange m) a; requests = tt }
  shown_form (stamped.NewView m) a = record { claims = own_only (stamped.NewView m) a; requests = tt }
  shown_form (stamped.Enter m) a = record { claims = a.claims; requests = tt }
  shown_form (stamped.Open m) a = record { claims = a.claims; requests = a.requests }
  shown_form (stamped.Join m) a = record { claims = a.claims; requests = tt }

  -- ---- lists of them

  pub all_kept : (l : List StampedMessage) → AllByRecursion OfStamped l → AllByRecursion OfStamped (kept_forms l)
  all_kept l a = forms_keep OfStamped opening_form change_form l a

  pub all_shown : (l : List StampedMessage) → AllByRecursion OfStamped l → AllByRecursion OfShown (map as_shown l)
  all_shown [] a = tt
  all_shown (x ∷ l) a = (shown_form x a.0, all_shown l a.1)

  pub all_packed : (l : List StampedMessage) → AllByRecursion OfStamped l → AllByRecursion OfStamped (first_packed l)
  all_packed l a = first_keep OfStamped l a
