-- What the fields of a table, and of a NEW_VIEW and a plan that are held, are.
use Rattle.std.specs.Prelude.{ℕ, ◌≡◌, length, map, take, nat_eq}
use Rattle.std.specs.List.{AllByRecursion}
use Rattle.indexmap.specs.IndexMap.{values, IsUnique}
use Rattle.mb_base.specs.Shapes.{host_count}
use Rattle.mb_parts.specs.Bares.{batch_digest}
use Rattle.mb_msg.specs.Bodies.{body_digest}
use Rattle.mb_msg.specs.Spelling.{new_view_body_bytes}
use Rattle.mb_msg.specs.Plans.{CanHash, plan_digest}
use Rattle.mb_msg.specs.declared.change.NewView.{NewView}
use Rattle.mb_msg.specs.declared.change.Plan.{Plan}
use Rattle.mb_msg.specs.declared.change.ViewChange.{ViewChange}
use Rattle.mb_change.specs.declared.held_new_view.HeldNewView.TheInside.{Inside as NewViewInside}
use Rattle.mb_change.specs.declared.held_plan.HeldPlan.TheInside.{Inside as PlanInside}
use Rattle.mb_change.specs.declared.change.Change.TheInside.{Inside}
use Rattle.mb_change.specs.Tables.{Table}

abbrev pub new_view_seen : NewViewInside → NewView
new_view_seen h = h.message

abbrev pub IsNewView : NewViewInside → Type 0
IsNewView h = h.body ≡ body_digest new_view_body_bytes h.message.body

abbrev pub plan_seen : PlanInside → ℕ × Plan
plan_seen h = (h.view, h.plan)

pub record IsPlan (h : PlanInside) : Type 0 where
  pub hashed : CanHash h.plan
  pub digest : h.digest ≡ plan_digest h.plan
  pub batches : take (length h.plan.batches) h.batches ≡ map batch_digest h.plan.batches

abbrev pub seen : Inside → Table
seen c = record {
  shape = c.shape;
  host = c.host;
  wishes = c.wishes.items;
  changes = values c.changes;
  enters = c.enters.items;
  opens = c.opens.items;
  new_view = c.new_view;
  evidence = c.evidence;
  plan = c.plan;
}

-- The key of a VIEW_CHANGE is its host.
abbrev pub IsOfHost : ℕ × ViewChange → Type 0
IsOfHost e = e.0 ≡ e.1.ui.host

pub record IsTable (c : Inside) : Type 0 where
  pub wishes_len : length c.wishes.items ≡ host_count c.shape
  pub enters_len : length c.enters.items ≡ host_count c.shape
  pub opens_len : length c.opens.items ≡ host_count c.shape
  pub of_hosts : AllByRecursion IsOfHost c.changes.entries
  pub unique : IsUnique nat_eq c.changes
