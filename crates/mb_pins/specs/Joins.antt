-- What a JOIN shows: none in view 0, and above it valid evidence of its view, which the host held, and which ends at or below the stable position.
use Rattle.std.specs.Prelude.{◌≡◌, ℕ, ◌≤◌, ◌<◌, true, ◌∷◌, ◌++◌, Some, None}
use Rattle.mb_parts.specs.declared.certificates.Evidence.{Evidence}
use Rattle.mb_parts.specs.Certificates.{is_evidence, is_stable}
use Rattle.mb_msg.specs.declared.change.Join.{Join}
use Rattle.mb_msg.specs.declared.stamped.Stamped.TheVariants as stamped
use Rattle.mb_model.specs.Histories.{Stamped, History, Identity}
use Rattle.mb_model.specs.Held.{evidence_of}
use Rattle.mb_model.specs.GateChecks.{valid}
use Rattle.mb_world_model.specs.World.{System, self_of}
use Rattle.mb_world_model.specs.WorldSteps.{world}

module _ {S : Type 0} (self : Identity S) (before : History) where
  -- It is what the host holds, of the view of the JOIN and valid, and ends at or below the position of the JOIN.
  pub record IsShown (m : Join) (e : Evidence) : Type 0 where
    pub shown : m.evidence ≡ Some e
    pub held : evidence_of self before ≡ Some e
    pub view : e.view ≡ m.view
    pub checks : is_evidence self.shape (valid self) e ≡ true
    pub end : e.end ≤ m.stable.pos

  pub record ShowsEvidence (m : Join) : Type 0 where
    pub first : m.view ≡ 0 → m.evidence ≡ None
    pub later : 0 < m.view → (e : Evidence) × IsShown m e
    pub stable : is_stable self.shape (valid self) m.stable ≡ true

-- So it is of each JOIN that a host stamped, behind what stood before it.
abbrev pub ShowsInJoins : {S : Type 0} → Identity S → History → Type 0
ShowsInJoins self d = (later before : History) (m : Join) → d ≡ later ++ Stamped (stamped.Join m) ∷ before → ShowsEvidence self before m

-- after any events, whoever is faulty and whatever is forged
abbrev pub HostsShowInJoins : Type 0 → Type 0
HostsShowInJoins S = (system : System S) (k h : ℕ) → ShowsInJoins (self_of system h) ((world system k).histories h)
