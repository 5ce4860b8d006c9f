-- What a host holds of view changes.
use Rattle.std.specs.Prelude.{ℕ, List, [], replicate, slice_index_or, Option, None}
use Rattle.mb_base.specs.Shapes.{host_count}
use Rattle.mb_base.specs.declared.shape.Shape.{Shape}
use Rattle.mb_parts.specs.declared.certificates.Evidence.{Evidence}
use Rattle.mb_msg.specs.declared.change.ViewChange.{ViewChange}
use Rattle.mb_msg.specs.declared.change.NewView.{NewView}
use Rattle.mb_msg.specs.declared.change.Enter.{Enter}
use Rattle.mb_msg.specs.declared.change.Plan.{Plan}
use Rattle.mb_change.specs.declared.opened.Opened.{Opened}

pub record Table : Type 0 where
  pub shape : Shape
  pub host : ℕ
  pub wishes : List ℕ  -- by host
  pub changes : List ViewChange  -- in the order of arrival
  pub enters : List (Option Enter)  -- by host
  pub opens : List Opened  -- by host
  pub new_view : Option NewView
  pub evidence : Option Evidence
  pub plan : Option (ℕ × Plan)  -- with its view

-- what stands for no OPEN
abbrev pub none_opened : Opened
none_opened = record { view = 0; counter = 0; plan = replicate 32 0 }

abbrev pub empty_table : Shape → ℕ → Table
empty_table shape host = record {
  shape = shape;
  host = host;
  wishes = replicate (host_count shape) 0;
  changes = [];
  enters = replicate (host_count shape) None;
  opens = replicate (host_count shape) none_opened;
  new_view = None;
  evidence = None;
  plan = None;
}

-- ---- of a host

abbrev pub wish_at : Table → ℕ → ℕ
wish_at t h = slice_index_or t.wishes h 0

abbrev pub enter_at : Table → ℕ → Option Enter
enter_at t h = slice_index_or t.enters h None

abbrev pub opened_at : Table → ℕ → Opened
opened_at t h = slice_index_or t.opens h none_opened
