-- What an answer unfolds to spell and to read messages on literals.
use Rattle.std.specs.Prelude.{⊤}
use Rattle.mb_base.specs.Spelling.{number}
use Rattle.mb_base.specs.Reading.{number_in, checked_at, multiple_in, number_without, text_in, optional_at, repeat_at, list_in, rising_at, bounded_at}
use Rattle.mb_parts.specs.Spelling.{ui_bytes, request_bytes, batch_bytes, floor_bytes, stable_member_bytes, stable_bytes, floor_member_bytes, floor_cert_bytes, evidence_member_bytes, evidence_bytes}
use Rattle.mb_parts.specs.Bares.{bare_bytes}
use Rattle.mb_parts.specs.Reading.{ui_from, request_at, batch_at, phase_at, floor_at, stable_member_at, held_at, stable_in, floor_member_at, floor_cert_at, evidence_member_at, evidence_in}
use Rattle.mb_msg.specs.Bodies.{body_at}
use Rattle.mb_msg.specs.Spelling.{prepare_bytes, commit_bytes, reply_bytes, checkpoint_bytes, bare_checkpoint_bytes, wish_bytes, bare_view_change_bytes, bare_new_view_bytes, enter_bytes, open_body_bytes, open_bytes, join_bytes, shown_bytes, change_body_bytes, view_change_bytes, member_bytes, new_view_body_bytes, new_view_bytes, stamped_bytes, resend_bytes, log_bytes, fetch_bytes, state_bytes, spelling}
use Rattle.mb_msg.specs.Reading.{prepare_at, commit_at, reply_at, floors_body_at, checkpoint_at, bare_checkpoint_at, wish_at, bare_view_change_at, bare_new_view_at, enter_at, open_body_at, open_at, join_at, behind_shown_kind_at, shown_at, change_body_at, view_change_from, member_at, new_view_body_at, new_view_at, behind_stamped_kind_at, stamped_at, resend_at, log_at, fetch_at, state_at, behind_kind_at, message_of}

unfoldable pub messages_on_literals : ⊤
unfolding number number_in checked_at multiple_in number_without text_in optional_at repeat_at list_in rising_at bounded_at ui_bytes request_bytes batch_bytes floor_bytes stable_member_bytes stable_bytes floor_member_bytes floor_cert_bytes evidence_member_bytes evidence_bytes bare_bytes ui_from request_at batch_at phase_at floor_at stable_member_at held_at stable_in floor_member_at floor_cert_at evidence_member_at evidence_in body_at prepare_bytes commit_bytes reply_bytes checkpoint_bytes bare_checkpoint_bytes wish_bytes bare_view_change_bytes bare_new_view_bytes enter_bytes open_body_bytes open_bytes join_bytes shown_bytes change_body_bytes view_change_bytes member_bytes new_view_body_bytes new_view_bytes stamped_bytes resend_bytes log_bytes fetch_bytes state_bytes spelling prepare_at commit_at reply_at floors_body_at checkpoint_at bare_checkpoint_at wish_at bare_view_change_at bare_new_view_at enter_at open_body_at open_at join_at behind_shown_kind_at shown_at change_body_at view_change_from member_at new_view_body_at new_view_at behind_stamped_kind_at stamped_at resend_at log_at fetch_at state_at behind_kind_at message_of
messages_on_literals = tt
