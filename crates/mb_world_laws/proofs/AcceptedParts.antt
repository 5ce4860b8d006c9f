-- What is accepted of a delivered message has the values of the grammar, and its whole bodies are hashed.
use Rattle.std.proofs.Common.{ℕ}
use Rattle.mb_base.specs.Shapes.{Bytes}
use Rattle.mb_msg.specs.declared.message.Message.{Message}
use Rattle.mb_msg.specs.Fits.{FitsFields}
use Rattle.mb_model.specs.Histories.{Accepted, History}
use Rattle.mb_model.specs.Members.{In}
use Rattle.mb_model.specs.Inside.{bodies_in, strings_in}
use Rattle.mb_world_model.specs.World.{World, System, self_of}
use Rattle.mb_host_laws.proofs.Cases.{all_at}
use Rattle.mb_host_laws.specs.Rests.{Rests}
use Rattle.mb_world_laws.proofs.Grown.{IsGivenTo, IsHashed, HasStrings}
use Rattle.mb_world_laws.proofs.Facts.{Facts}
use Rattle.mb_host_laws.proofs.Parts.{part_fits, part_bodies, body_string}

module _ {S : Type 0} (system : System S) (w : World) (f : Facts system w) where
  abbrev RestsHere : ℕ → Message → History → Type 0
  RestsHere h m d = Rests (self_of system h) (IsGivenTo system.schedule w h) (IsHashed system.schedule w) (HasStrings system.schedule w) (Accepted m) d

  pub accepted_fits : (h : ℕ) (m : Message) (d : History) → RestsHere h m d → FitsFields system.schedule.shape m
  accepted_fits h m d r = part_fits (self_of system h) r.0.0 m r.0.2 (f.read h r.0.0 r.0.1)

  -- Whole bodies in an accepted message are hashed.
  pub accepted_body_hashed : (h : ℕ) (m : Message) (d : History) → RestsHere h m d → (b : Bytes) → In (bodies_in m) b → In w.hashed b
  accepted_body_hashed h m d r b i = all_at (λ (x : Bytes). In w.hashed x) (strings_in system.schedule.shape r.0.0) (f.standing.clean h r.0.0 r.0.1).strings b
      (body_string system.schedule.shape r.0.0 b (part_bodies (self_of system h) r.0.0 m r.0.2 b i))
