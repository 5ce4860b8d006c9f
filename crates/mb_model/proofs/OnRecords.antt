-- What an answer unfolds to compute certificates, logs and plans on literals.
use Rattle.std.specs.Prelude.{⊤}
use Rattle.mb_base.specs.Reading.{number_in, checked_at, multiple_in, number_without, optional_at, repeat_at, rising_at}
use Rattle.mb_parts.specs.Spelling.{request_bytes, batch_bytes, floor_bytes, stable_member_bytes, stable_bytes, evidence_member_bytes, evidence_bytes}
use Rattle.mb_parts.specs.Reading.{stable_member_at, held_at, stable_in, evidence_member_at, evidence_in}
use Rattle.mb_parts.specs.Bares.{bare_bytes}
use Rattle.mb_parts.specs.BareReading.{bare_prepare_at, bare_commit_at, bare_checkpoint_at, bare_view_change_at, bare_new_view_at, bare_enter_at, bare_open_at, bare_join_at, bare_at, bare_of_bytes, bares_of}
use Rattle.mb_parts.specs.Certificates.{is_stable, certified_floor, is_evidence, inner_valid}
use Rattle.mb_parts.specs.Ordered.{current_view, is_opened, is_entered, last_position, top_position, last_checkpoint, permits, is_ordered, ordered_prefix}
use Rattle.mb_parts.specs.Issued.{is_issued, stamped_prefix}
use Rattle.mb_msg.specs.Spelling.{open_body_bytes}
use Rattle.mb_msg.specs.Plans.{plan_string}
use Rattle.mb_model.specs.Committed.{vote_by, vote_in}
use Rattle.mb_model.specs.UsableLogs.{entry_fault, entries_fault, log_fault}
use Rattle.mb_model.specs.Plans.{by_host, batches_from, plan_in_order}

-- of lists of messages, certificates whose claims are tested otherwise, logs and plans
unfoldable pub logs_on_literals : ⊤
unfolding request_bytes batch_bytes floor_bytes stable_member_bytes stable_bytes evidence_member_bytes evidence_bytes bare_bytes is_stable certified_floor is_evidence inner_valid current_view is_opened is_entered last_position top_position last_checkpoint permits is_ordered ordered_prefix open_body_bytes plan_string vote_by vote_in entry_fault entries_fault log_fault by_host batches_from plan_in_order
logs_on_literals = tt

-- of stamped bytes
unfoldable pub readings_on_literals : ⊤
unfolding number_in checked_at multiple_in number_without optional_at repeat_at rising_at stable_member_at held_at stable_in evidence_member_at evidence_in bare_prepare_at bare_commit_at bare_checkpoint_at bare_view_change_at bare_new_view_at bare_enter_at bare_open_at bare_join_at bare_at bare_of_bytes bares_of is_issued stamped_prefix
readings_on_literals = tt
