-- Histories that arise and have no batch partly served. What holds of all that arise is shown entry by entry, without the transition.
use Rattle.std.proofs.Common.{◌≡◌, [], ◌∷◌, refl}
use Rattle.mb_model.specs.Histories.{Served, History, Identity}
use Rattle.mb_model.specs.CarriedOut.{just_served}
use Rattle.mb_model.specs.Sending.{Progress}
use Rattle.mb_steps.specs.Arises.{Arises, IsWhole}

pub none_served : (d : History) → IsWhole d → just_served d ≡ []
unfolding just_served
none_served [] w = refl
none_served (Served pos placed ∷ d) w = absurd w
none_served (e ∷ d) w = refl

module _ {S : Type 0} (self : Identity S) where
  abbrev pub ArisesWhole : History → Type 0
  ArisesWhole d = Arises self d × IsWhole d

  -- what a step has left so far arose so
  abbrev pub Arisen : Progress → Type 0
  Arisen x = ArisesWhole x.history
