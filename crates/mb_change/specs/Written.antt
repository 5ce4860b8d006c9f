-- What a host writes into its table behind each entry of its history: of the searches before the entry it makes those behind it. Each write is
-- that of one call; where nothing is to be stored or held, the call is left out.
use Rattle.std.specs.Prelude.{ℕ, ◌+◌, Option, Some}
use Rattle.std.specs.Option.{option_or}
use Rattle.mb_parts.specs.declared.certificates.Evidence.{Evidence}
use Rattle.mb_msg.specs.declared.message.Message.TheVariants as message
use Rattle.mb_msg.specs.declared.change.ViewChange.{ViewChange}
use Rattle.mb_msg.specs.declared.change.NewView.{NewView}
use Rattle.mb_msg.specs.declared.change.Plan.{Plan}
use Rattle.mb_msg.specs.declared.stamped.Stamped.TheVariants as stamped
use Rattle.mb_model.specs.Histories.{Entry, Accepted, Stamped, LostPatience, History, Identity, view_of}
use Rattle.mb_model.specs.Held.{change_in, arrived, new_view_in, with_news, plan_in, plan_held}
use Rattle.mb_change.specs.Searches.{Searches, opened_in, with_wish, with_enter, with_opened, with_new_view, with_evidence}

-- `hold_new_view`, where there is one to be held
abbrev pub with_announced : Option NewView → Searches → Searches
with_announced n s = record s { new_view = option_or n s.new_view }

-- `hold_plan`, where there is one to be held
abbrev pub with_planned : Option (ℕ × Plan) → Searches → Searches
with_planned p s = record s { plan = option_or p s.plan }

module _ {S : Type 0} (self : Identity S) where
  -- `store`, where there is one to be stored
  abbrev pub with_stored : Option ViewChange → Searches → Searches
  with_stored m s = record s { changes = arrived self m s.changes }

  -- `hold_evidence`, where it is news
  abbrev pub with_shown : History → Option Evidence → Searches → Searches
  with_shown d e s = record s { evidence = with_news self d s.evidence e }

  -- the plan that an entry brings
  abbrev pub brought : History → Entry → Option (ℕ × Plan)
  brought d e = plan_in self d (plan_held self d) e

  abbrev pub written : History → Entry → Searches → Searches
  written d (Accepted (message.ReqViewChange m)) s = with_wish m.host m.view s
  written d (Accepted (message.ViewChange m)) s = with_stored (change_in self d (Accepted (message.ViewChange m))) (with_wish m.ui.host m.view s)
  written d (Accepted (message.NewView m)) s = with_planned (brought d (Accepted (message.NewView m))) (with_announced (new_view_in self d (Accepted (message.NewView m))) s)
  written d (Accepted (message.Enter m)) s = with_enter m s
  written d (Accepted (message.Open m)) s = with_planned (brought d (Accepted (message.Open m))) (with_shown d (Some m.evidence) (with_opened m.ui.host (opened_in (Some m.evidence)) s))
  written d (Accepted (message.Join m)) s = with_shown d m.evidence s
  written d (Accepted (message.Log m)) s = with_shown d m.evidence s
  written d (Stamped (stamped.ViewChange m)) s = with_stored (change_in self d (Stamped (stamped.ViewChange m))) (with_wish m.ui.host m.view s)
  written d (Stamped (stamped.NewView m)) s = with_planned (brought d (Stamped (stamped.NewView m))) (with_new_view m s)
  written d (Stamped (stamped.Enter m)) s = with_enter m s
  written d (Stamped (stamped.Open m)) s = with_evidence m.evidence s
  written d LostPatience s = with_wish self.host (view_of self d + 1) s
  written d _ s = s
