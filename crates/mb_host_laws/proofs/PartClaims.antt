-- The certificates in a stamped message stand in the message, and those of what a host accepts in the given message of which it is a part.
use Rattle.std.proofs.Common.{[], ◌∷◌, ◌++◌, refl, sym, subst, inl, inr, Option, Some, None}
use Rattle.std.specs.List.{flat_map}
use Rattle.mb_base.specs.declared.shape.Shape.{Shape}
use Rattle.mb_parts.specs.Claims.{Claim, inner_claims, stable_claims, floor_claims, evidence_claims}
use Rattle.mb_msg.specs.declared.message.Message.{Message}
use Rattle.mb_msg.specs.declared.message.Message.TheVariants as message
use Rattle.mb_msg.specs.declared.stamped.Stamped.{Stamped as StampedMessage}
use Rattle.mb_msg.specs.declared.stamped.Stamped.TheVariants as stamped
use Rattle.mb_msg.specs.Stamps.{as_message, bare_of}
use Rattle.mb_model.specs.Histories.{Identity}
use Rattle.mb_model.specs.GateChecks.{stamp_claim}
use Rattle.mb_model.specs.Given.{named_prepare}
use Rattle.mb_model.specs.Members.{In}
use Rattle.mb_model.proofs.Members.{in_left, in_right}
use Rattle.mb_model.specs.Inside.{claims_in, claims_in_stamped, stamped_claims}
use Rattle.mb_host_laws.proofs.Cases.{flat_in}
use Rattle.mb_host_laws.specs.Rests.{IsPart, stamped_parts}
use Rattle.mb_model.specs.Compared.{inside_some}

module _ (s : Shape) where
  -- ---- claims of parts stand in the whole

  stamped_in_whole : (m : StampedMessage) (c : Claim) → In (claims_in s (as_message m)) c → In (stamped_claims s m) c
  unfolding claims_in
  stamped_in_whole (stamped.Prepare m) c i = i
  stamped_in_whole (stamped.Commit m) c i = i
  stamped_in_whole (stamped.Checkpoint m) c i = i
  stamped_in_whole (stamped.ViewChange m) c i = i
  stamped_in_whole (stamped.NewView m) c i = i
  stamped_in_whole (stamped.Enter m) c i = i
  stamped_in_whole (stamped.Open m) c i = i
  stamped_in_whole (stamped.Join m) c i = i

  whole_in_stamped : (m : StampedMessage) (c : Claim) → In (stamped_claims s m) c → In (claims_in s (as_message m)) c
  unfolding claims_in
  whole_in_stamped (stamped.Prepare m) c i = i
  whole_in_stamped (stamped.Commit m) c i = i
  whole_in_stamped (stamped.Checkpoint m) c i = i
  whole_in_stamped (stamped.ViewChange m) c i = i
  whole_in_stamped (stamped.NewView m) c i = i
  whole_in_stamped (stamped.Enter m) c i = i
  whole_in_stamped (stamped.Open m) c i = i
  whole_in_stamped (stamped.Join m) c i = i

  only : (y x : StampedMessage) (c : Claim) → In (y ∷ []) x → In (stamped_claims s x) c → In (stamped_claims s y) c
  only y x c (inl is) i = subst (λ z. In (stamped_claims s z) c) (sym is) i
  only y x c (inr e) i = absurd e

  -- of a stamped message that a given one brings
  brought_claims : (given : Message) (x : StampedMessage) → In (stamped_parts given) x → (c : Claim) → In (stamped_claims s x) c → In (claims_in s given) c
  unfolding claims_in
  brought_claims (message.Log m) x i c j = in_right (inside_some floor_claims m.floor ++ stable_claims m.stable ++ inside_some (evidence_claims s) m.evidence) (flat_map (stamped_claims s) m.entries) c (flat_in (stamped_claims s) m.entries x i c j)
  brought_claims (message.Prepare m) x i c j = only (stamped.Prepare m) x c i j
  brought_claims (message.Commit m) x i c j = only (stamped.Commit m) x c i j
  brought_claims (message.Checkpoint m) x i c j = only (stamped.Checkpoint m) x c i j
  brought_claims (message.ViewChange m) x i c j = only (stamped.ViewChange m) x c i j
  brought_claims (message.NewView m) x i c j = only (stamped.NewView m) x c i j
  brought_claims (message.Enter m) x i c j = only (stamped.Enter m) x c i j
  brought_claims (message.Open m) x i c j = only (stamped.Open m) x c i j
  brought_claims (message.Join m) x i c j = only (stamped.Join m) x c i j
  brought_claims _ x i c j = absurd i

  -- the claim that its sender stamped it
  pub own_claim_in : (m : StampedMessage) → In (claims_in s (as_message m)) (stamp_claim m)
  unfolding stamped_claims
  own_claim_in m = whole_in_stamped m (stamp_claim m) (in_right (claims_in_stamped s m) _ (stamp_claim m) (inl refl))

  -- the claims of the certificates in what it says
  pub inner_claim_in : (m : StampedMessage) (c : Claim) → In (inner_claims s (bare_of m)) c → In (claims_in s (as_message m)) c
  unfolding stamped_claims
  inner_claim_in m c i = whole_in_stamped m c (in_left (claims_in_stamped s m) _ c (go m i)) where
    go : (x : StampedMessage) → In (inner_claims s (bare_of x)) c → In (claims_in_stamped s x) c
    go (stamped.Prepare x) i = i
    go (stamped.Commit x) i = i
    go (stamped.Checkpoint x) i = i
    go (stamped.ViewChange x) i = absurd i
    go (stamped.NewView x) i = absurd i
    go (stamped.Enter x) i = i
    go (stamped.Open x) i = in_left (evidence_claims s x.evidence) _ c i
    go (stamped.Join x) i = joined x.evidence i where
      joined : (e : Option _) → In (inner_claims s (Rattle.mb_parts.specs.Bares.Join x.view e x.stable)) c → In (inside_some (evidence_claims s) e ++ stable_claims x.stable) c
      joined None i = i
      joined (Some e) i = i

module _ {S : Type 0} (self : Identity S) where
  -- the claims of an accepted message stand in the given one that it is part of
  pub part_claims : (given m : Message) → IsPart self given m → (c : Claim) → In (claims_in self.shape m) c → In (claims_in self.shape given) c
  unfolding claims_in stamped_claims
  part_claims given m (inl same) c i = subst (λ x. In (claims_in self.shape x) c) (sym same) i
  part_claims given m (inr (inl (x, brought, is))) c i = brought_claims self.shape given x brought c (stamped_in_whole self.shape x c (subst (λ y. In (claims_in self.shape y) c) (sym is) i))
  part_claims given m (inr (inr (x, brought, is))) c i = brought_claims self.shape given (stamped.Commit x) brought c (named (subst (λ y. In (claims_in self.shape y) c) (sym is) i)) where
    named : In (claims_in self.shape (message.Prepare (named_prepare self x))) c → In (stamped_claims self.shape (stamped.Commit x)) c
    named (inl same) = inl same
    named (inr none) = absurd none
