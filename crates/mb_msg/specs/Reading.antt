-- Reading a message from left to right, with the offset of the first field that is short or has a value that isn't allowed.
use Rattle.std.specs.Prelude.{ℕ, ◌-◌, Bool, ◌&&◌, not, length, nat_lt, ◌==◌, if◌then◌else◌, List, Option, None, Result, Ok, Err}
use Rattle.std.specs.Int.{w8, w16}
use Rattle.mb_base.specs.Limits.{message_limit, text_limit, entry_limit, part_count, table_part}
use Rattle.mb_base.specs.Shapes.{Bytes, host_count, quorum}
use Rattle.mb_base.specs.Reading.{Cursor, cursor, Reads, ◌>>=◌, number_in, checked_at, text16_at, pair_at, then_at, map_at, optional_at, repeat_at, list_in, rising_at}
use Rattle.mb_base.specs.declared.shape.Shape.{Shape}
use Rattle.mb_base.specs.declared.names.Ui.{Ui}
use Rattle.mb_parts.specs.declared.limits.TheConstants.{MAX_PLACE}
use Rattle.mb_parts.specs.declared.batch.Batch.{Batch}
use Rattle.mb_parts.specs.declared.floor.Floor.{Floor}
use Rattle.mb_parts.specs.declared.certificates.StableCert.{StableCert}
use Rattle.mb_parts.specs.declared.certificates.FloorCert.{FloorCert}
use Rattle.mb_parts.specs.declared.certificates.Evidence.{Evidence}
use Rattle.mb_parts.specs.Reading.{host_at, client_at, counter_at, place_at, position_at, base_at, point_at, end_at, digest_at, state_part_at, ui_from, ui_at, request_at, batch_at, floors_at, stable_in, stable_at, floor_cert_at, evidence_at, evidence_of_view}
use Rattle.mb_msg.specs.declared.message.Body.{Body}
use Rattle.mb_msg.specs.declared.normal.Prepare.{Prepare}
use Rattle.mb_msg.specs.declared.normal.Commit.{Commit}
use Rattle.mb_msg.specs.declared.normal.Reply.{Reply}
use Rattle.mb_msg.specs.declared.normal.Floors.{Floors}
use Rattle.mb_msg.specs.declared.normal.Checkpoint.{Checkpoint}
use Rattle.mb_msg.specs.declared.normal.BareCheckpoint.{BareCheckpoint}
use Rattle.mb_msg.specs.declared.normal.Stop.{Stop}
use Rattle.mb_msg.specs.declared.change.ReqViewChange.{ReqViewChange}
use Rattle.mb_msg.specs.declared.change.ChangeBody.{ChangeBody}
use Rattle.mb_msg.specs.declared.change.ViewChange.{ViewChange}
use Rattle.mb_msg.specs.declared.change.BareViewChange.{BareViewChange}
use Rattle.mb_msg.specs.declared.change.NewViewBody.{NewViewBody}
use Rattle.mb_msg.specs.declared.change.NewView.{NewView}
use Rattle.mb_msg.specs.declared.change.BareNewView.{BareNewView}
use Rattle.mb_msg.specs.declared.change.Enter.{Enter}
use Rattle.mb_msg.specs.declared.change.OpenBody.{OpenBody}
use Rattle.mb_msg.specs.declared.change.Open.{Open}
use Rattle.mb_msg.specs.declared.change.Join.{Join}
use Rattle.mb_msg.specs.declared.transfer.Resend.{Resend}
use Rattle.mb_msg.specs.declared.transfer.Log.{Log}
use Rattle.mb_msg.specs.declared.transfer.Fetch.{Fetch}
use Rattle.mb_msg.specs.declared.transfer.StateMsg.{StateMsg}
use Rattle.mb_msg.specs.declared.stamped.Shown.{Shown}
use Rattle.mb_msg.specs.declared.stamped.Shown.TheVariants as shown
use Rattle.mb_msg.specs.declared.stamped.Stamped.{Stamped}
use Rattle.mb_msg.specs.declared.stamped.Stamped.TheVariants as stamped
use Rattle.mb_msg.specs.declared.message.Message.{Message}
use Rattle.mb_msg.specs.declared.message.Message.TheVariants as message
use Rattle.mb_msg.specs.Bodies.{form_at, bare_form_at, body_at}
use Rattle.mb_msg.specs.Fits.{shown_limit}
use Rattle.mb_msg.specs.Stamps.{as_message}

-- ---- a view that goes its way; each kind behind its kind byte

abbrev pub prepare_of_fields : ℕ × (ℕ × (ℕ × (Body Batch × Ui))) → Prepare
prepare_of_fields p = record { view = p.1.0; pos = p.1.1.0; body = p.1.1.1.0; ui = p.1.1.1.1 }

unfoldable pub prepare_at : Shape → Cursor → Reads Prepare
prepare_at s = map_at prepare_of_fields (then_at form_at (λ form. pair_at place_at (pair_at position_at (pair_at (body_at (batch_at s) form) (ui_at s)))))

abbrev pub commit_of_fields : ℕ × (ℕ × (ℕ × (ℕ × (Bytes × (Body Batch × Ui))))) → Commit
commit_of_fields p = record { view = p.1.0; pos = p.1.1.0; counter = p.1.1.1.0; cert = p.1.1.1.1.0; body = p.1.1.1.1.1.0; ui = p.1.1.1.1.1.1 }

unfoldable pub commit_at : Shape → Cursor → Reads Commit
commit_at s = map_at commit_of_fields (then_at form_at (λ form. pair_at place_at (pair_at position_at (pair_at counter_at (pair_at digest_at (pair_at (body_at (batch_at s) form) (ui_at s)))))))

abbrev pub reply_of_fields : ℕ × (ℕ × (ℕ × (ℕ × (Bytes × Bytes)))) → Reply
reply_of_fields p = record { host = p.0; client = p.1.0; seq = p.1.1.0; pos = p.1.1.1.0; result = p.1.1.1.1.0; tag = p.1.1.1.1.1 }

unfoldable pub reply_at : Shape → Cursor → Reads Reply
reply_at s = map_at reply_of_fields (pair_at (host_at s) (pair_at (client_at s) (pair_at counter_at (pair_at place_at (pair_at (text16_at text_limit) digest_at)))))

abbrev pub floors_body_of : List (Option Floor) → Floors
floors_body_of floors = record { floors = floors }

unfoldable pub floors_body_at : Shape → Cursor → Reads Floors
floors_body_at s = map_at floors_body_of (floors_at s)

abbrev pub checkpoint_of_fields : ℕ × (ℕ × (Bytes × (Body Floors × Ui))) → Checkpoint
checkpoint_of_fields p = record { pos = p.1.0; state = p.1.1.0; body = p.1.1.1.0; ui = p.1.1.1.1 }

unfoldable pub checkpoint_at : Shape → Cursor → Reads Checkpoint
checkpoint_at s = map_at checkpoint_of_fields (then_at form_at (λ form. pair_at position_at (pair_at digest_at (pair_at (body_at (floors_body_at s) form) (ui_at s)))))

abbrev pub bare_checkpoint_of_fields : ℕ × (ℕ × (Bytes × (Bytes × Ui))) → BareCheckpoint
bare_checkpoint_of_fields p = record { pos = p.1.0; state = p.1.1.0; body = p.1.1.1.0; ui = p.1.1.1.1 }

unfoldable pub bare_checkpoint_at : Shape → Cursor → Reads BareCheckpoint
bare_checkpoint_at s = map_at bare_checkpoint_of_fields (pair_at bare_form_at (pair_at position_at (pair_at digest_at (pair_at digest_at (ui_at s)))))

-- ---- a change of the view

abbrev pub wish_of_fields : ℕ × (ℕ × Bytes) → ReqViewChange
wish_of_fields p = record { host = p.0; view = p.1.0; tag = p.1.1 }

unfoldable pub wish_at : Shape → Cursor → Reads ReqViewChange
wish_at s = map_at wish_of_fields (pair_at (host_at s) (pair_at position_at digest_at))

abbrev pub bare_view_change_of_fields : ℕ × (ℕ × (Bytes × Ui)) → BareViewChange
bare_view_change_of_fields p = record { view = p.1.0; body = p.1.1.0; ui = p.1.1.1 }

unfoldable pub bare_view_change_at : Shape → Cursor → Reads BareViewChange
bare_view_change_at s = map_at bare_view_change_of_fields (pair_at bare_form_at (pair_at position_at (pair_at digest_at (ui_at s))))

abbrev pub bare_new_view_of_fields : ℕ × (ℕ × (ℕ × (ℕ × (Bytes × (Bytes × Ui))))) → BareNewView
bare_new_view_of_fields p = record { view = p.1.0; base = p.1.1.0; end = p.1.1.1.0; plan = p.1.1.1.1.0; body = p.1.1.1.1.1.0; ui = p.1.1.1.1.1.1 }

unfoldable pub bare_new_view_at : Shape → Cursor → Reads BareNewView
bare_new_view_at s = map_at bare_new_view_of_fields (pair_at bare_form_at (pair_at position_at (then_at (base_at s) (λ base. pair_at (end_at s base) (pair_at digest_at (pair_at digest_at (ui_at s)))))))

abbrev pub enter_of_fields : ℕ × (ℕ × (ℕ × (Bytes × Ui))) → Enter
enter_of_fields p = record { view = p.1.0; counter = p.1.1.0; plan = p.1.1.1.0; ui = p.1.1.1.1 }

unfoldable pub enter_at : Shape → Cursor → Reads Enter
enter_at s = map_at enter_of_fields (pair_at bare_form_at (pair_at position_at (pair_at counter_at (pair_at digest_at (ui_at s)))))

abbrev pub open_body_of_fields : StableCert × List Batch → OpenBody
open_body_of_fields p = record { stable = p.0; batches = p.1 }

-- the base's certificate, and a batch for each position from there to the end
unfoldable pub open_body_at : Shape → Evidence → Cursor → Reads OpenBody
open_body_at s e = map_at open_body_of_fields (pair_at (stable_in s e.base e.base) (repeat_at (batch_at s) (e.end - e.base)))

abbrev pub open_of_fields : ℕ × (Evidence × (Body OpenBody × Ui)) → Open
open_of_fields p = record { evidence = p.1.0; body = p.1.1.0; ui = p.1.1.1 }

unfoldable pub open_at : Shape → Cursor → Reads Open
open_at s = map_at open_of_fields (then_at form_at (λ form. then_at (evidence_at s) (λ e. pair_at (body_at (open_body_at s e) form) (ui_at s))))

abbrev pub join_of_fields : ℕ × (ℕ × (Option Evidence × (StableCert × Ui))) → Join
join_of_fields p = record { view = p.1.0; evidence = p.1.1.0; stable = p.1.1.1.0; ui = p.1.1.1.1 }

unfoldable pub join_at : Shape → Cursor → Reads Join
join_at s = map_at join_of_fields (pair_at bare_form_at (then_at place_at (λ view. pair_at (evidence_of_view s view) (pair_at (stable_in s 1 MAX_PLACE) (ui_at s)))))

-- the kinds that are stamped: 2, 3, 5, and 7 to 11
abbrev pub is_stamped_kind : ℕ → Bool
is_stamped_kind kind = not (kind == 4) && not (kind == 6)

abbrev pub stamped_kind_at : Cursor → Reads ℕ
stamped_kind_at = checked_at is_stamped_kind (number_in w8 2 11)

-- an entry of a VIEW_CHANGE behind its kind: some kinds are shown by their digest alone
unfoldable pub behind_shown_kind_at : Shape → ℕ → Cursor → Reads Shown
behind_shown_kind_at s kind =
    if kind == 2 then map_at shown.Prepare (prepare_at s)
    else (if kind == 3 then map_at shown.Commit (commit_at s)
    else (if kind == 5 then map_at shown.Checkpoint (bare_checkpoint_at s)
    else (if kind == 7 then map_at shown.ViewChange (bare_view_change_at s)
    else (if kind == 8 then map_at shown.NewView (bare_new_view_at s)
    else (if kind == 9 then map_at shown.Enter (enter_at s)
    else (if kind == 10 then map_at shown.Open (open_at s)
    else map_at shown.Join (join_at s)))))))

-- behind what was read first
abbrev pub second : {A B : Type 0} → A × B → B
second p = p.1

unfoldable pub shown_at : Shape → Cursor → Reads Shown
shown_at s = map_at second (then_at stamped_kind_at (behind_shown_kind_at s))

abbrev pub change_body_of_fields : Option FloorCert × (StableCert × List Shown) → ChangeBody
change_body_of_fields p = record { floor = p.0; stable = p.1.0; entries = p.1.1 }

unfoldable pub change_body_at : Shape → Cursor → Reads ChangeBody
change_body_at s = map_at change_body_of_fields (pair_at (optional_at (floor_cert_at s)) (pair_at (stable_at s) (list_in w16 0 (shown_limit s) (shown_at s))))

abbrev pub view_change_of_fields : ℕ × (ℕ × (Body ChangeBody × Ui)) → ViewChange
view_change_of_fields p = record { view = p.1.0; body = p.1.1.0; ui = p.1.1.1 }

-- in a form that is at least this, of a host that is at least this
unfoldable pub view_change_from : Shape → ℕ → Option ℕ → ℕ → Cursor → Reads ViewChange
view_change_from s form left_out least = map_at view_change_of_fields (then_at (number_in w8 form 1) (λ form. pair_at position_at (pair_at (body_at (change_body_at s) form) (ui_from s left_out least))))

abbrev pub view_change_at : Shape → Cursor → Reads ViewChange
view_change_at s = view_change_from s 0 None 0

-- a whole VIEW_CHANGE in a NEW_VIEW
unfoldable pub member_at : Shape → Option ℕ → ℕ → Cursor → Reads ViewChange
member_at s left_out least = map_at second (pair_at (number_in w8 7 7) (view_change_from s 1 left_out least))

abbrev pub new_view_body_of : List ViewChange → NewViewBody
new_view_body_of changes = record { changes = changes }

unfoldable pub new_view_body_at : Shape → Cursor → Reads NewViewBody
new_view_body_at s = map_at new_view_body_of (rising_at (member_at s None) (λ m. m.ui.host) (quorum s) 0)

abbrev pub new_view_of_fields : ℕ × (ℕ × (ℕ × (ℕ × (Bytes × (Body NewViewBody × Ui))))) → NewView
new_view_of_fields p = record { view = p.1.0; base = p.1.1.0; end = p.1.1.1.0; plan = p.1.1.1.1.0; body = p.1.1.1.1.1.0; ui = p.1.1.1.1.1.1 }

unfoldable pub new_view_at : Shape → Cursor → Reads NewView
new_view_at s = map_at new_view_of_fields (then_at form_at (λ form. pair_at position_at (then_at (base_at s) (λ base. pair_at (end_at s base) (pair_at digest_at (pair_at (body_at (new_view_body_at s) form) (ui_at s)))))))

-- ---- stamped messages

-- behind the kind
unfoldable pub behind_stamped_kind_at : Shape → ℕ → Cursor → Reads Stamped
behind_stamped_kind_at s kind =
    if kind == 2 then map_at stamped.Prepare (prepare_at s)
    else (if kind == 3 then map_at stamped.Commit (commit_at s)
    else (if kind == 5 then map_at stamped.Checkpoint (checkpoint_at s)
    else (if kind == 7 then map_at stamped.ViewChange (view_change_at s)
    else (if kind == 8 then map_at stamped.NewView (new_view_at s)
    else (if kind == 9 then map_at stamped.Enter (enter_at s)
    else (if kind == 10 then map_at stamped.Open (open_at s)
    else map_at stamped.Join (join_at s)))))))

unfoldable pub stamped_at : Shape → Cursor → Reads Stamped
stamped_at s = map_at second (then_at stamped_kind_at (behind_stamped_kind_at s))

-- ---- a host that comes back

abbrev pub resend_of_fields : ℕ × (ℕ × List ℕ) → Resend
resend_of_fields p = record { host = p.0; low = p.1.0; nexts = p.1.1 }

unfoldable pub resend_at : Shape → Cursor → Reads Resend
resend_at s = map_at resend_of_fields (pair_at (host_at s) (pair_at place_at (repeat_at counter_at (host_count s))))

abbrev pub log_of_fields : ℕ × (Option FloorCert × (StableCert × (Option Evidence × List Stamped))) → Log
log_of_fields p = record { host = p.0; floor = p.1.0; stable = p.1.1.0; evidence = p.1.1.1.0; entries = p.1.1.1.1 }

unfoldable pub log_at : Shape → Cursor → Reads Log
log_at s = map_at log_of_fields (pair_at (host_at s) (pair_at (optional_at (floor_cert_at s)) (pair_at (stable_at s) (pair_at (optional_at (evidence_at s)) (list_in w16 0 entry_limit (stamped_at s))))))

abbrev pub fetch_of_fields : ℕ × (ℕ × (ℕ × ℕ)) → Fetch
fetch_of_fields p = record { host = p.0; of = p.1.0; pos = p.1.1.0; first = p.1.1.1 }

unfoldable pub fetch_at : Shape → Cursor → Reads Fetch
fetch_at s = map_at fetch_of_fields (pair_at (host_at s) (pair_at (host_at s) (pair_at (point_at s) (number_in w8 0 table_part))))

abbrev pub state_of_fields : ℕ × (ℕ × (List Bytes × (ℕ × List Bytes))) → StateMsg
state_of_fields p = record { host = p.0; pos = p.1.0; digests = p.1.1.0; first = p.1.1.1.0; parts = p.1.1.1.1 }

-- the first part's number, and at least one part
abbrev pub state_parts_at : Cursor → Reads (ℕ × List Bytes)
state_parts_at = then_at (number_in w8 0 table_part) (λ first. list_in w8 1 (part_count - first) state_part_at)

unfoldable pub state_at : Shape → Cursor → Reads StateMsg
state_at s = map_at state_of_fields (pair_at (host_at s) (pair_at (point_at s) (pair_at (repeat_at digest_at part_count) state_parts_at)))

abbrev pub stop_of : Bytes → Stop
stop_of tag = record { tag = tag }

-- ---- any message

-- behind the kind
unfoldable pub behind_kind_at : Shape → ℕ → Cursor → Reads Message
behind_kind_at s kind =
    if kind == 1 then map_at message.Request (request_at s)
    else (if kind == 4 then map_at message.Reply (reply_at s)
    else (if kind == 6 then map_at message.ReqViewChange (wish_at s)
    else (if kind == 12 then map_at message.Resend (resend_at s)
    else (if kind == 13 then map_at message.Log (log_at s)
    else (if kind == 14 then map_at message.Fetch (fetch_at s)
    else (if kind == 15 then map_at message.State (state_at s)
    else (if kind == 16 then map_at message.Stop (map_at stop_of digest_at)
    else map_at as_message (behind_stamped_kind_at s kind))))))))

-- all of the bytes: the offset of the first surplus byte, or the limit where the input is longer
unfoldable pub message_of : Shape → Bytes → Result Message ℕ
message_of s bytes = if nat_lt message_limit (length bytes) then Err message_limit else whole (cursor 0 bytes) where
  ended : Message × Cursor → Result Message ℕ
  ended m = if length m.1.rest == 0 then Ok m.0 else Err m.1.at

  whole : Cursor → Result Message ℕ
  whole c = do
    kind ← number_in w8 1 16 c
    m ← behind_kind_at s kind.0 kind.1
    ended m
