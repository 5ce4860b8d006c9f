-- What faulty hosts and clients make: tags for any reply, wish or request of their own, and stamps for any content.
use Rattle.std.specs.Prelude.{ℕ, ◌+◌, ◌-◌, Bool, false, ◌&&◌, List, [], ◌∷◌, ◌++◌, length, map, take, reverse, filter_map, replicate, nat_le, Option, Some, None, if◌then◌else◌, option_and_then, is_none}
use Rattle.mb_base.specs.Limits.{other_limit, message_limit}
use Rattle.mb_base.specs.Shapes.{Bytes}
use Rattle.mb_base.specs.declared.names.Ui.{Ui}
use Rattle.mb_usig.specs.Tags.{certificate, reply_tag, wish_tag}
use Rattle.mb_parts.specs.declared.request.Request.{Request}
use Rattle.mb_parts.specs.declared.batch.Batch.{Batch}
use Rattle.mb_parts.specs.Spelling.{ui_bytes, request_bytes}
use Rattle.mb_parts.specs.Bares.{bare_bytes}
use Rattle.mb_msg.specs.declared.message.Body.{Body}
use Rattle.mb_msg.specs.declared.message.Body.TheVariants.{Whole, Bare as Short}
use Rattle.mb_msg.specs.declared.message.Message.{Message}
use Rattle.mb_msg.specs.declared.message.Message.TheVariants as message
use Rattle.mb_msg.specs.declared.normal.Prepare.{Prepare}
use Rattle.mb_msg.specs.declared.change.ChangeBody.{ChangeBody}
use Rattle.mb_msg.specs.declared.stamped.Stamped.{Stamped as StampedMessage}
use Rattle.mb_msg.specs.declared.stamped.Stamped.TheVariants as stamped
use Rattle.mb_msg.specs.Spelling.{spelling}
use Rattle.mb_msg.specs.Stamps.{bare_of, with_ui, as_stamped, as_message}
use Rattle.mb_model.specs.Batches.{has_place}
use Rattle.mb_model.specs.UsableLogs.{normal_limit}
use Rattle.mb_model.specs.Plans.{no_base}
use Rattle.mb_model.specs.OwnLog.{kept_forms, as_shown}
use Rattle.mb_model.specs.Sending.{no_ui}
use Rattle.mb_schedule.specs.declared.schedule.Schedule.{Schedule}
use Rattle.mb_world_model.specs.World.{update, World, read, message_at, made}

-- ---- what an event has a faulty host stamp, before it has an identifier

-- the request of a REQUEST
abbrev pub request_in : Message → Option Request
request_in (message.Request r) = Some r
request_in m = None

-- the whole PREPARE of a batch at a position of a view
abbrev pub prepare_with : ℕ → ℕ → Batch → StampedMessage
prepare_with view pos b = stamped.Prepare (record { view = view; pos = pos; body = Whole b; ui = no_ui })

-- the COMMIT of a PREPARE, where its batch is there
abbrev pub commit_with : Prepare → Body Batch → Option StampedMessage
commit_with m (Whole b) = Some (stamped.Commit (record { view = m.view; pos = m.pos; counter = m.ui.counter; cert = m.ui.cert; body = Whole b; ui = no_ui }))
commit_with m (Short digest) = None

-- the whole COMMIT of a whole PREPARE
abbrev pub commit_for : Message → Option StampedMessage
commit_for (message.Prepare m) = commit_with m m.body
commit_for m = None

-- a whole CHECKPOINT without floors, of so many hosts
abbrev pub checkpoint_with : ℕ → ℕ → Bytes → StampedMessage
checkpoint_with hosts pos digest = stamped.Checkpoint (record { pos = pos; state = digest; body = Whole (record { floors = replicate hosts None }); ui = no_ui })

-- Where an event names a message of another kind, nothing is stamped.
abbrev pub stamp_some : (StampedMessage → World → World) → Option StampedMessage → World → World
stamp_some f None w = w
stamp_some f (Some m) w = f m w

module _ (s : Schedule) where
  -- ---- tags

  -- a reply with the host's right tag
  abbrev pub reply_of_host : ℕ → ℕ → ℕ → ℕ → Bytes → Message
  reply_of_host h c seq pos result = message.Reply (record { host = h; client = c; seq = seq; pos = pos; result = result; tag = reply_tag s.secret h c seq pos result })

  -- a wish with the host's right tag
  abbrev pub wish_of_host : ℕ → ℕ → Message
  wish_of_host h view = message.ReqViewChange (record { host = h; view = view; tag = wish_tag s.secret h view })

  -- ---- stamps

  -- the identifier of a faulty host's next stamp
  abbrev pub faulty_ui : World → ℕ → Bytes → Ui
  faulty_ui w h bare = record { host = h; counter = length (w.faulty_stamps h) + 1; cert = certificate s.secret h (length (w.faulty_stamps h) + 1) bare }

  -- These bytes are stamped, and this is the message.
  abbrev pub stamp_as : ℕ → Bytes → Bytes → World → World
  stamp_as h bare message w = made s message (record w { faulty_stamps = update w.faulty_stamps h (record { bare = bare; message = message } ∷ w.faulty_stamps h) })

  -- what a content says, as bytes
  abbrev pub bare_bytes_of : StampedMessage → Bytes
  bare_bytes_of m = bare_bytes (bare_of m)

  -- a content as a faulty host's next message
  abbrev pub faulty_message : World → ℕ → StampedMessage → Bytes
  faulty_message w h m = spelling (as_message (with_ui (faulty_ui w h (bare_bytes_of m)) m))

  -- A content is stamped.
  abbrev pub stamp_content : ℕ → StampedMessage → World → World
  stamp_content h m w = stamp_as h (bare_bytes_of m) (faulty_message w h m) w

  -- Any bytes can be stamped. The message is these bytes and the identifier.
  abbrev pub stamp_bytes : ℕ → Bytes → World → World
  stamp_bytes h bare w = stamp_as h bare (bare ++ ui_bytes (faulty_ui w h bare)) w

  -- the content that an event names: of the message of a number
  abbrev pub content : World → ℕ → (Message → Option StampedMessage) → Option StampedMessage
  content w n f = option_and_then f (message_at s w n)

  -- ---- a PREPARE of the requests of several messages

  -- the request that the message of a number is
  abbrev pub request_at : World → ℕ → Option Request
  request_at w n = option_and_then request_in (message_at s w n)

  -- It is there, and goes into a batch whose requests before it have so many bytes.
  abbrev pub goes_in : ℕ → Option Request → Bool
  goes_in used None = false
  goes_in used (Some r) = has_place used r

  -- how many bytes it has
  abbrev pub size_of : Option Request → ℕ
  size_of None = 0
  size_of (Some r) = length (request_bytes r)

  -- the number of the first of these messages that is no REQUEST, or with which the requests have too many bytes for a batch
  unfoldable pub misfit : World → ℕ → List ℕ → Option ℕ
  misfit w used [] = None
  misfit w used (n ∷ ns) = if goes_in used (request_at w n) then misfit w (used + size_of (request_at w n)) ns else Some n

  abbrev pub batch_from : World → List ℕ → Batch
  batch_from w ns = record { requests = filter_map (request_at w) ns }

  -- Where one of the messages does not fit, nothing is stamped.
  abbrev pub prepare_of : World → ℕ → ℕ → List ℕ → Option StampedMessage
  prepare_of w view pos ns = if is_none (misfit w 0 ns) then Some (prepare_with view pos (batch_from w ns)) else None

  -- ---- a VIEW_CHANGE without floor and stable certificate

  -- what a faulty host stamped after a counter, newest first, as far as it is messages of the grammar
  abbrev pub stamped_after : World → ℕ → ℕ → List StampedMessage
  stamped_after w h counter = filter_map (λ x. option_and_then as_stamped (read s x.message)) (take (length (w.faulty_stamps h) - counter) (w.faulty_stamps h))

  -- shown in the forms of a shown log, except that a body that is not there is not shown
  abbrev pub log_after : World → ℕ → ℕ → ChangeBody
  log_after w h counter = record { floor = None; stable = no_base; entries = map as_shown (reverse (kept_forms (stamped_after w h counter))) }

  -- the VIEW_CHANGE that shows it
  abbrev pub change_after : World → ℕ → ℕ → ℕ → StampedMessage
  change_after w h view counter = stamped.ViewChange (record { view = view; body = Whole (log_after w h counter); ui = no_ui })

  -- It has neither too many entries nor too many bytes.
  abbrev pub is_sendable_change : World → ℕ → ℕ → ℕ → Bool
  is_sendable_change w h view counter = nat_le (length (log_after w h counter).entries) (normal_limit s.shape + other_limit)
      && nat_le (length (faulty_message w h (change_after w h view counter))) message_limit
