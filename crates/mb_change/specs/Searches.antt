-- What a host's history says of view changes: searches in it, and what each call makes of them.
use Rattle.std.specs.Prelude.{ℕ, ◌==◌, not, List, [], ◌∷◌, ◌++◌, max, filter, Option, Some, None, if◌then◌else◌}
use Rattle.mb_parts.specs.declared.certificates.Evidence.{Evidence}
use Rattle.mb_msg.specs.declared.change.ViewChange.{ViewChange}
use Rattle.mb_msg.specs.declared.change.NewView.{NewView}
use Rattle.mb_msg.specs.declared.change.Enter.{Enter}
use Rattle.mb_msg.specs.declared.change.Plan.{Plan}
use Rattle.mb_change.specs.declared.opened.Opened.{Opened}
use Rattle.mb_change.specs.Tables.{Table, none_opened, wish_at, enter_at, opened_at}

pub record Searches : Type 0 where
  pub wish : ℕ → ℕ  -- the greatest view that a host asked for
  pub changes : List ViewChange  -- those stored, in the order of arrival
  pub enter : ℕ → Option Enter  -- the last of a host
  pub opened : ℕ → Opened  -- the last OPEN that was taken of a host
  pub new_view : Option NewView
  pub evidence : Option Evidence
  pub plan : Option (ℕ × Plan)  -- with its view

-- an OPEN's evidence, as a table keeps it
abbrev pub opened_in : Option Evidence → Opened
opened_in None = none_opened
opened_in (Some e) = record { view = e.view; counter = e.counter; plan = e.plan }

abbrev pub nothing_found : Searches
nothing_found = record { wish = λ h. 0; changes = []; enter = λ h. None; opened = λ h. none_opened; new_view = None; evidence = None; plan = None }

-- what stands in a table
abbrev pub found_in : Table → Searches
found_in t = record { wish = wish_at t; changes = t.changes; enter = enter_at t; opened = opened_at t; new_view = t.new_view; evidence = t.evidence; plan = t.plan }

-- ---- what each call makes of the searches: one of them changes, the others stay

-- a search that finds something else for one host
abbrev pub at_host : {A : Type 0} → ℕ → A → (ℕ → A) → ℕ → A
at_host host x search h = if h == host then x else search h

abbrev pub with_wish : ℕ → ℕ → Searches → Searches
with_wish host view s = record s { wish = at_host host (max (s.wish host) view) s.wish }

abbrev pub with_change : ViewChange → Searches → Searches
with_change m s = record s { changes = filter (λ c. not (c.ui.host == m.ui.host)) s.changes ++ m ∷ [] }

abbrev pub with_enter : Enter → Searches → Searches
with_enter m s = record s { enter = at_host m.ui.host (Some m) s.enter }

abbrev pub with_opened : ℕ → Opened → Searches → Searches
with_opened host o s = record s { opened = at_host host o s.opened }

abbrev pub with_new_view : NewView → Searches → Searches
with_new_view n s = record s { new_view = Some n }

abbrev pub with_evidence : Evidence → Searches → Searches
with_evidence e s = record s { evidence = Some e }

abbrev pub with_plan : ℕ → Plan → Searches → Searches
with_plan view plan s = record s { plan = Some (view, plan) }
