-- The certificates in what a host accepted were issued: they stand in a delivered message, which is clean.
use Rattle.std.proofs.Common.{◌≡◌, ℕ, true, List, [], ◌∷◌, refl, inl, inr}
use Rattle.mb_parts.specs.Claims.{Claim}
use Rattle.mb_parts.specs.CheckedCertificates.{Carries}
use Rattle.mb_msg.specs.declared.message.Message.{Message}
use Rattle.mb_model.specs.Verified.{verifies}
use Rattle.mb_model.specs.Histories.{Accepted, History}
use Rattle.mb_model.specs.Members.{In}
use Rattle.mb_model.specs.Inside.{claims_in}
use Rattle.mb_world_model.specs.World.{World, System, self_of}
use Rattle.mb_world_model.specs.WorldRecord.{issued}
use Rattle.mb_host_laws.specs.Rests.{Rests}
use Rattle.mb_world_laws.proofs.Grown.{IsGivenTo, IsHashed, HasStrings}
use Rattle.mb_world_laws.proofs.Standings.{Standing}
use Rattle.mb_host_laws.proofs.PartClaims.{part_claims}

module _ {S : Type 0} (system : System S) (w : World) (s : Standing system w) where
  -- What verifies in an accepted message was issued.
  pub accepted_issued : (h : ℕ) (m : Message) (d : History) → Rests (self_of system h) (IsGivenTo system.schedule w h) (IsHashed system.schedule w) (HasStrings system.schedule w) (Accepted m) d
      → (c : Claim) → In (claims_in system.schedule.shape m) c → verifies system.schedule.secret c ≡ true → issued system.schedule w c ≡ true
  accepted_issued h m d r c i v = (s.clean h r.0.0 r.0.1).issues c (part_claims (self_of system h) r.0.0 m r.0.2 c i) v

  -- So its certificates carry over.
  pub carried : (h : ℕ) (m : Message) (d : History) → Rests (self_of system h) (IsGivenTo system.schedule w h) (IsHashed system.schedule w) (HasStrings system.schedule w) (Accepted m) d
      → (claims : List Claim) → ((c : Claim) → In claims c → In (claims_in system.schedule.shape m) c) → Carries (verifies system.schedule.secret) (issued system.schedule w) claims
  carried h m d r [] f = tt
  carried h m d r (c ∷ claims) f = (λ v. accepted_issued h m d r c (f c (inl refl)) v, carried h m d r claims (λ x i. f x (inr i)))
