-- Where a floor stands, apart from its counter.
use Rattle.mb_parts.specs.declared.floor.Floor.{Floor}
use Rattle.mb_parts.specs.Fits.{IsPlace}

-- Its view and its positions fit.
pub record IsPlaced (f : Floor) : Type 0 where
  pub view : IsPlace f.view
  pub last : IsPlace f.last
  pub top : IsPlace f.top
  pub point : IsPlace f.point
