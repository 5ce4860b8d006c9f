-- What each rule does, and how they are carried out: the next one, again and again, until none is enabled.
use Rattle.std.specs.Prelude.{ℕ, zero, suc, ◌%◌, List, [], ◌∷◌, ◌++◌, Option, Some, None, if◌then◌else◌, ◌==◌, ◌&&◌}
use Rattle.mb_base.specs.Limits.{rule_limit}
use Rattle.mb_base.specs.Shapes.{Bytes, interval}
use Rattle.mb_parts.specs.declared.request.Request.{Request}
use Rattle.mb_parts.specs.declared.batch.Batch.{Batch}
use Rattle.mb_msg.specs.declared.event.Placed.{Placed}
use Rattle.mb_msg.specs.declared.event.Slot.{Slot}
use Rattle.mb_msg.specs.declared.stamped.Stamped.{Stamped as StampedMessage}
use Rattle.mb_msg.specs.declared.stamped.Stamped.TheVariants as stamped
use Rattle.mb_msg.specs.Plans.{plan_text}
use Rattle.mb_model.specs.Service.{is_fresh, reply_of}
use Rattle.mb_model.specs.States.{digest_string, part_digests}
use Rattle.mb_model.specs.Histories.{Served, Executed, History, Identity}
use Rattle.mb_model.specs.Held.{plan_from}
use Rattle.mb_model.specs.OwnLog.{has_room}
use Rattle.mb_model.specs.Execution.{state_of}
use Rattle.mb_model.specs.Sending.{Progress, write, send, note, stamp, signed, to_client}
use Rattle.mb_model.specs.Making.{prepare, commit, view_change, new_view, enter, opening, join, checkpoint, present_parts, reply}
use Rattle.mb_model.specs.Compared.{compared_in_change}
use Rattle.mb_model.specs.EnabledRules.{Rule, ChangeView, Announce, Enter, Open, Join, Commit, Execute, Prepare, next_rule}

-- the requests that were served since the last other entry, the first of them first
unfoldable pub just_served : History → List Placed
just_served (Served pos placed ∷ d) = just_served d ++ placed ∷ []
just_served _ = []

module _ {S : Type 0} (self : Identity S) where
  -- ---- executing the requests of a batch, one after the other

  abbrev pub placed_in : History → Request → Placed
  placed_in d r = record { request = r; fresh = is_fresh (state_of self d) r }

  -- A fresh request is answered to its client.
  abbrev pub with_reply : Placed → Progress → Progress
  with_reply p x = if p.fresh then send (to_client p.request.client (reply self p.request.client (reply_of (state_of self x.history) p.request.client))) x else x

  abbrev pub serve : ℕ → Request → Progress → Progress
  serve pos r x = with_reply (placed_in x.history r) (write (Served pos (placed_in x.history r)) x)

  unfoldable pub serve_all : ℕ → List Request → Progress → Progress
  serve_all pos [] x = x
  serve_all pos (r ∷ rs) x = serve_all pos rs (serve pos r x)

  -- ---- executing a batch

  abbrev pub slot_for : History → ℕ → Slot
  slot_for d pos = record { pos = pos; requests = just_served d }

  abbrev pub with_slot : Slot → Progress → Progress
  with_slot slot x = record x { history = Executed slot ∷ x.history; executed = x.executed ++ slot ∷ [] }

  -- What was served since the last batch is the slot.
  abbrev pub close_slot : ℕ → Progress → Progress
  close_slot pos x = with_slot (slot_for x.history pos) x

  -- the strings of the digest of the present state at a position: its parts, and the list of their digests
  abbrev pub state_strings : History → ℕ → List Bytes
  state_strings d pos = present_parts self d ++ digest_string (part_digests (present_parts self d)) pos ∷ []

  -- A CHECKPOINT is stamped where there is room for one at this moment, and else never.
  abbrev pub with_checkpoint : ℕ → Progress → Progress
  with_checkpoint pos x = if has_room self x.history then stamp self (checkpoint self x.history pos) x else x

  abbrev pub at_interval : ℕ → Progress → Progress
  at_interval pos x = if pos % interval self.shape == 0 then with_checkpoint pos (note (state_strings x.history pos) x) else x

  unfoldable pub execute : ℕ → Batch → Progress → Progress
  execute pos b x = at_interval pos (close_slot pos (serve_all pos b.requests x))

  -- ---- each rule

  -- Whether the own VIEW_CHANGE is stored is seen as of another's, and compares the plans that it shows.
  abbrev pub compared_in_own : StampedMessage → List Bytes
  compared_in_own (stamped.ViewChange m) = compared_in_change self m
  compared_in_own _ = []

  abbrev pub change_view : ℕ → Progress → Progress
  change_view view x = note (compared_in_own (signed self x.history (view_change self x.history view))) (stamp self (view_change self x.history view) x)

  unfoldable pub carry_out : Rule → Progress → Progress
  carry_out (ChangeView view) x = change_view view x
  carry_out (Announce changes) x = note (plan_text (plan_from self changes) ∷ []) (stamp self (new_view self x.history changes) x)
  carry_out (Enter n) x = stamp self (enter n) x
  carry_out (Open e plan) x = note (plan_text plan ∷ []) (stamp self (opening e plan) x)
  carry_out Join x = stamp self (join self x.history) x
  carry_out (Commit pos k b) x = stamp self (commit self x.history pos k b) x
  carry_out (Execute pos b) x = execute pos b x
  carry_out (Prepare pos b) x = stamp self (prepare self x.history pos b) x

  -- ---- again and again

  abbrev pub if_enabled : Option Rule → Progress → (Progress → Progress) → Progress
  if_enabled None x more = x
  if_enabled (Some rule) x more = more (carry_out rule x)

  -- so many rules at most
  unfoldable pub run_rules : ℕ → Progress → Progress
  run_rules zero x = x
  run_rules (suc n) x = if_enabled (next_rule self x.history) x (λ y. run_rules n y)

-- So many rounds leave no rule enabled in any history of a host: that is proved of every one.
unfoldable pub enough : ℕ
enough = rule_limit
