-- Which entries speak to which search: a test over entries for each. An entry that does not speak to a search leaves it as it was, where the
-- searches that it stands on stay, too.
use Rattle.std.specs.Prelude.{ℕ, Bool, true, false, ◌||◌, ◌==◌, Option, Some, None}
use Rattle.mb_msg.specs.declared.message.Message.TheVariants as message
use Rattle.mb_msg.specs.declared.stamped.Stamped.{Stamped as StampedMessage}
use Rattle.mb_msg.specs.declared.stamped.Stamped.TheVariants as stamped
use Rattle.mb_msg.specs.Stamps.{ui_of}
use Rattle.mb_model.specs.Histories.{Entry, Accepted, Stamped, Jumped, Closed, Served, Executed, Installed, DroppedParts, LostPatience, Nudged, stamped_in}

-- ---- gates, and what this host stamped

-- a message of a host
abbrev pub is_by : ℕ → Option StampedMessage → Bool
is_by h None = false
is_by h (Some m) = (ui_of m).host == h

-- to where the gate of a host stands, and where it goes on from
abbrev pub moves_gate : ℕ → Entry → Bool
moves_gate h (Jumped g floor) = g == h
moves_gate h e = is_by h (stamped_in e)

-- to whether it is closed
abbrev pub closes_gate : ℕ → Entry → Bool
closes_gate h (Closed g counter) = g == h
closes_gate h _ = false

-- to the gate of a host
abbrev pub speaks_of_gate : ℕ → Entry → Bool
speaks_of_gate h e = moves_gate h e || closes_gate h e

-- to the own list and its counter
abbrev pub is_stamp : Entry → Bool
is_stamp (Stamped m) = true
is_stamp _ = false

-- to this host's view
abbrev pub changes_view : Entry → Bool
changes_view (Stamped (stamped.ViewChange m)) = true
changes_view _ = false

-- ---- positions

abbrev pub speaks_of_slots : Entry → Bool
speaks_of_slots (Accepted (message.Prepare m)) = true
speaks_of_slots (Stamped (stamped.Prepare m)) = true
speaks_of_slots (Stamped (stamped.Open m)) = true
speaks_of_slots _ = false

-- Behind an OPEN or a NEW_VIEW of another host, a NEW_VIEW or a VIEW_CHANGE of this one, the votes of OPENs are counted.
abbrev pub speaks_of_votes : Entry → Bool
speaks_of_votes (Accepted (message.Prepare m)) = true
speaks_of_votes (Accepted (message.Commit m)) = true
speaks_of_votes (Accepted (message.Open m)) = true
speaks_of_votes (Accepted (message.NewView m)) = true
speaks_of_votes (Stamped (stamped.Prepare m)) = true
speaks_of_votes (Stamped (stamped.Commit m)) = true
speaks_of_votes (Stamped (stamped.Open m)) = true
speaks_of_votes (Stamped (stamped.NewView m)) = true
speaks_of_votes (Stamped (stamped.ViewChange m)) = true
speaks_of_votes _ = false

-- ---- what is stable, and the floor of the own log

abbrev pub speaks_of_checkpoints : Entry → Bool
speaks_of_checkpoints (Accepted (message.Checkpoint m)) = true
speaks_of_checkpoints (Stamped (stamped.Checkpoint m)) = true
speaks_of_checkpoints _ = false

-- to the stable position: a certificate is shown, made by CHECKPOINTs, or is that of the base of a plan
abbrev pub speaks_of_stable : Entry → Bool
speaks_of_stable (Accepted (message.Checkpoint m)) = true
speaks_of_stable (Accepted (message.NewView m)) = true
speaks_of_stable (Accepted (message.Open m)) = true
speaks_of_stable (Accepted (message.Join m)) = true
speaks_of_stable (Accepted (message.Log m)) = true
speaks_of_stable (Stamped (stamped.Checkpoint m)) = true
speaks_of_stable (Stamped (stamped.NewView m)) = true
speaks_of_stable _ = false

-- to what the own log holds: a stamp, or a CHECKPOINT that can cut it
abbrev pub speaks_of_log : Entry → Bool
speaks_of_log e = is_stamp e || speaks_of_checkpoints e

-- ---- view changes

abbrev pub speaks_of_wishes : Entry → Bool
speaks_of_wishes (Accepted (message.ReqViewChange m)) = true
speaks_of_wishes (Accepted (message.ViewChange m)) = true
speaks_of_wishes (Stamped (stamped.ViewChange m)) = true
speaks_of_wishes LostPatience = true
speaks_of_wishes _ = false

abbrev pub speaks_of_changes : Entry → Bool
speaks_of_changes (Accepted (message.ViewChange m)) = true
speaks_of_changes (Stamped (stamped.ViewChange m)) = true
speaks_of_changes _ = false

abbrev pub speaks_of_enters : Entry → Bool
speaks_of_enters (Accepted (message.Enter m)) = true
speaks_of_enters (Stamped (stamped.Enter m)) = true
speaks_of_enters _ = false

-- to the last OPEN that was accepted of a host
abbrev pub speaks_of_opened : Entry → Bool
speaks_of_opened (Accepted (message.Open m)) = true
speaks_of_opened _ = false

abbrev pub speaks_of_new_views : Entry → Bool
speaks_of_new_views (Accepted (message.NewView m)) = true
speaks_of_new_views (Stamped (stamped.NewView m)) = true
speaks_of_new_views _ = false

abbrev pub speaks_of_evidence : Entry → Bool
speaks_of_evidence (Accepted (message.Open m)) = true
speaks_of_evidence (Accepted (message.Join m)) = true
speaks_of_evidence (Accepted (message.Log m)) = true
speaks_of_evidence (Stamped (stamped.Open m)) = true
speaks_of_evidence _ = false

abbrev pub speaks_of_plans : Entry → Bool
speaks_of_plans (Accepted (message.NewView m)) = true
speaks_of_plans (Accepted (message.Open m)) = true
speaks_of_plans (Stamped (stamped.NewView m)) = true
speaks_of_plans _ = false

-- to one of the searches of view changes
abbrev pub speaks_of_change : Entry → Bool
speaks_of_change e = speaks_of_wishes e || (speaks_of_changes e || (speaks_of_enters e || (speaks_of_opened e || (speaks_of_new_views e || (speaks_of_evidence e || speaks_of_plans e)))))

-- ---- execution, and the parts of states

-- to the last executed position
abbrev pub speaks_of_executed : Entry → Bool
speaks_of_executed (Executed slot) = true
speaks_of_executed (Installed pos parts) = true
speaks_of_executed _ = false

-- to the state and the client table
abbrev pub speaks_of_state : Entry → Bool
speaks_of_state (Served pos placed) = true
speaks_of_state (Installed pos parts) = true
speaks_of_state _ = false

-- to the requests that wait
abbrev pub speaks_of_requests : Entry → Bool
speaks_of_requests (Accepted (message.Request r)) = true
speaks_of_requests (Served pos placed) = true
speaks_of_requests (Installed pos parts) = true
speaks_of_requests _ = false

-- to the parts that are kept of executed positions
abbrev pub speaks_of_snapshots : Entry → Bool
speaks_of_snapshots (Executed slot) = true
speaks_of_snapshots _ = false

-- to the fetched parts
abbrev pub speaks_of_parts : Entry → Bool
speaks_of_parts (Accepted (message.State m)) = true
speaks_of_parts (Installed pos parts) = true
speaks_of_parts DroppedParts = true
speaks_of_parts _ = false

-- to the host that is asked for state
abbrev pub is_nudge : Entry → Bool
is_nudge Nudged = true
is_nudge _ = false

-- to the requests that were just served
abbrev pub is_served : Entry → Bool
is_served (Served pos placed) = true
is_served _ = false

-- ---- to what is known of positions: the stable one, slots, votes, requests and CHECKPOINTs

abbrev pub speaks_of_positions : Entry → Bool
speaks_of_positions e = changes_view e || (speaks_of_stable e || (speaks_of_slots e || (speaks_of_votes e || (speaks_of_requests e || speaks_of_checkpoints e))))
