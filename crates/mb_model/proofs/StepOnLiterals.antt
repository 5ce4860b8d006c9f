-- What an answer unfolds to make whole steps of hosts on literals.
use Rattle.std.specs.Prelude.{⊤}
use Rattle.mb_usig.proofs.OnLiterals.{tags_on_literals}
use Rattle.mb_msg.proofs.OnLiterals.{messages_on_literals}
use Rattle.mb_model.proofs.OnRecords.{logs_on_literals}
use Rattle.mb_model.specs.Service.{served, served_each}
use Rattle.mb_model.specs.Batches.{fitting as fitting_batch}
use Rattle.mb_model.specs.States.{table_bytes, last_reply_at, table_of, parts_of, restored, digest_string}
use Rattle.mb_model.specs.Histories.{origin, taken_of, closed_at, gate_floors, stamped}
use Rattle.mb_model.specs.Held.{enter_of, opened_by, wish_of, quorum_wish, changes_of, new_view_of, evidence_of, plan_held}
use Rattle.mb_model.specs.Stable.{checkpoint_of, first_agreed, agreed_at, floor_at, stable_of, log_floor}
use Rattle.mb_model.specs.OwnLog.{kept_forms, packed, log_longest}
use Rattle.mb_model.specs.Positions.{exec_of, slot_in, vote_of}
use Rattle.mb_model.specs.Execution.{part_of, state_of, pending, parts_after, asked_host}
use Rattle.mb_model.specs.Making.{fitting}
use Rattle.mb_model.specs.GateChecks.{gate_refusal, identifier_refusal}
use Rattle.mb_model.specs.KindChecks.{vote_refusal, members_fault, new_view_fault, stamped_refusal}
use Rattle.mb_model.specs.PlainChecks.{wrong_part, number_refusal, request_refusal, wish_refusal, resend_refusal, log_refusal, state_refusal}
use Rattle.mb_model.specs.Compared.{compared_in_entries, compared_in_members, compared_in}
use Rattle.mb_model.specs.EnabledRules.{change_enabled, announce_enabled, enter_enabled, open_enabled, join_enabled, commit_enabled, execute_enabled, greatest, greatest_in_slots, unordered, prepare_enabled, next_rule}
use Rattle.mb_model.specs.CarriedOut.{just_served, serve_all, execute, carry_out, run_rules, enough}
use Rattle.mb_model.specs.Given.{offer_prepare, give_stamped, give_request, give_wish, give_resend, give_fetch, give_state, give_entries, give_log}
use Rattle.mb_model.specs.HostStep.{on_patience, on_nudge}

unfoldable pub host_on_literals : ⊤
unfolding tags_on_literals messages_on_literals logs_on_literals served served_each fitting_batch table_bytes last_reply_at table_of parts_of restored digest_string origin taken_of closed_at gate_floors stamped enter_of opened_by wish_of quorum_wish changes_of new_view_of evidence_of plan_held checkpoint_of first_agreed agreed_at floor_at stable_of log_floor kept_forms packed log_longest exec_of slot_in vote_of part_of state_of pending parts_after asked_host fitting gate_refusal identifier_refusal vote_refusal members_fault new_view_fault stamped_refusal wrong_part number_refusal request_refusal wish_refusal resend_refusal log_refusal state_refusal compared_in_entries compared_in_members compared_in change_enabled announce_enabled enter_enabled open_enabled join_enabled commit_enabled execute_enabled greatest greatest_in_slots unordered prepare_enabled next_rule just_served serve_all execute carry_out run_rules enough offer_prepare give_stamped give_request give_wish give_resend give_fetch give_state give_entries give_log on_patience on_nudge
host_on_literals = tt
