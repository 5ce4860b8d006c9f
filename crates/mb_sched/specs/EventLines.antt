-- What an event line says.
use Rattle.std.specs.Prelude.{ℕ, ◌-◌, ◌^◌, ◌&&◌, nat_le, if◌then◌else◌, List, [], ◌∷◌, length, Option, Some, None}
use Rattle.mb_base.specs.Limits.{batch_limit}
use Rattle.mb_base.specs.Shapes.{Bytes}
use Rattle.mb_schedule.specs.declared.schedule.WorldEvent.{WorldEvent}
use Rattle.mb_schedule.specs.declared.schedule.WorldEvent.TheVariants.{Ask, Give, Take, Raw, Patience, Nudge, Sign, TagReply, TagWish, StampPrepare, StampCommit, StampCheckpoint, StampChange, StampAs, StampRaw}
use Rattle.mb_sched.specs.Words.{is, number_in, host_in, client_in, name_in, bytes_of, operation_of, digest_of, all_of, ◌>>=◌}

-- ---- numbers

-- a message's number, or a counter that may be 0
abbrev pub message_in : Bytes → Option ℕ
message_in word = number_in 0 (2 ^ 64 - 1) word

-- a request's number
abbrev pub seq_in : Bytes → Option ℕ
seq_in word = number_in 1 (2 ^ 64 - 1) word

-- a view or a position that may be 0
abbrev pub place_in : Bytes → Option ℕ
place_in word = number_in 0 (2 ^ 63 - 1) word

-- a view or a position from 1 on
abbrev pub place_from_1 : Bytes → Option ℕ
place_from_1 word = number_in 1 (2 ^ 63 - 1) word

-- ---- what comes to someone; each line behind its first word

-- `ask C HEX`
abbrev pub ask_of : ℕ → List Bytes → Option WorldEvent
ask_of clients (client ∷ operation ∷ []) = do
  c ← client_in clients client
  op ← operation_of operation
  Some (Ask c op)
ask_of clients _ = None

-- `give M H`
abbrev pub give_of : ℕ → List Bytes → Option WorldEvent
give_of hosts (message ∷ host ∷ []) = do
  m ← message_in message
  h ← host_in hosts host
  Some (Give m h)
give_of hosts _ = None

-- `take M C`
abbrev pub take_of : ℕ → List Bytes → Option WorldEvent
take_of clients (message ∷ client ∷ []) = do
  m ← message_in message
  c ← client_in clients client
  Some (Take m c)
take_of clients _ = None

-- `raw NAME HEX`
abbrev pub raw_of : ℕ → ℕ → List Bytes → Option WorldEvent
raw_of hosts clients (who ∷ word ∷ []) = do
  name ← name_in hosts clients who
  bytes ← bytes_of word
  Some (Raw name bytes)
raw_of hosts clients _ = None

-- `patience H`
abbrev pub patience_of : ℕ → List Bytes → Option WorldEvent
patience_of hosts (host ∷ []) = do
  h ← host_in hosts host
  Some (Patience h)
patience_of hosts _ = None

-- `nudge H`
abbrev pub nudge_of : ℕ → List Bytes → Option WorldEvent
nudge_of hosts (host ∷ []) = do
  h ← host_in hosts host
  Some (Nudge h)
nudge_of hosts _ = None

-- ---- what faulty clients and hosts make

-- `sign C SEQ HEX`
abbrev pub sign_of : ℕ → List Bytes → Option WorldEvent
sign_of clients (client ∷ number ∷ operation ∷ []) = do
  c ← client_in clients client
  seq ← seq_in number
  op ← operation_of operation
  Some (Sign c seq op)
sign_of clients _ = None

-- the position and the result of a reply
abbrev pub answer_of : ℕ → ℕ → ℕ → List Bytes → Option WorldEvent
answer_of h c seq (position ∷ text ∷ []) = do
  pos ← place_in position
  result ← operation_of text
  Some (TagReply h c seq pos result)
answer_of h c seq _ = None

-- `tag H reply C SEQ POS HEX`, behind `reply`
abbrev pub reply_of : ℕ → ℕ → List Bytes → Option WorldEvent
reply_of clients h (client ∷ number ∷ words) = do
  c ← client_in clients client
  seq ← seq_in number
  answer_of h c seq words
reply_of clients h _ = None

-- `tag H wish V`, behind `wish`
abbrev pub wish_of : ℕ → List Bytes → Option WorldEvent
wish_of h (word ∷ []) = do
  view ← place_from_1 word
  Some (TagWish h view)
wish_of h _ = None

abbrev pub tag_of : ℕ → ℕ → List Bytes → Option WorldEvent
tag_of hosts clients (host ∷ what ∷ words) = do
  h ← host_in hosts host
  if is "reply" what then reply_of clients h words else (if is "wish" what then wish_of h words else None)
tag_of hosts clients _ = None

-- the numbers of messages
abbrev pub numbers_of : List Bytes → Option (List ℕ)
numbers_of words = all_of message_in words

-- as many of them as a batch may have
abbrev pub messages_of : List Bytes → Option (List ℕ)
messages_of words = if nat_le 1 (length words) && nat_le (length words) batch_limit then numbers_of words else None

-- `stamp H prepare V P M..`, behind `prepare`
abbrev pub prepare_of : ℕ → List Bytes → Option WorldEvent
prepare_of h (word ∷ position ∷ words) = do
  view ← place_in word
  pos ← place_from_1 position
  messages ← messages_of words
  Some (StampPrepare h view pos messages)
prepare_of h _ = None

-- `stamp H commit M`, behind `commit`
abbrev pub commit_of : ℕ → List Bytes → Option WorldEvent
commit_of h (message ∷ []) = do
  m ← message_in message
  Some (StampCommit h m)
commit_of h _ = None

-- `stamp H checkpoint P DIGEST`, behind `checkpoint`
abbrev pub checkpoint_of : ℕ → List Bytes → Option WorldEvent
checkpoint_of h (position ∷ word ∷ []) = do
  pos ← place_from_1 position
  digest ← digest_of word
  Some (StampCheckpoint h pos digest)
checkpoint_of h _ = None

-- `stamp H change V C`, behind `change`
abbrev pub change_of : ℕ → List Bytes → Option WorldEvent
change_of h (word ∷ number ∷ []) = do
  view ← place_from_1 word
  counter ← message_in number
  Some (StampChange h view counter)
change_of h _ = None

-- `stamp H as M`, behind `as`
abbrev pub as_of : ℕ → List Bytes → Option WorldEvent
as_of h (message ∷ []) = do
  m ← message_in message
  Some (StampAs h m)
as_of h _ = None

-- `stamp H raw HEX`, behind `raw`
abbrev pub stamp_raw_of : ℕ → List Bytes → Option WorldEvent
stamp_raw_of h (word ∷ []) = do
  bytes ← bytes_of word
  Some (StampRaw h bytes)
stamp_raw_of h _ = None

abbrev pub stamped_of : ℕ → Bytes → List Bytes → Option WorldEvent
stamped_of h what words =
    if is "prepare" what then prepare_of h words
    else (if is "commit" what then commit_of h words
    else (if is "checkpoint" what then checkpoint_of h words
    else (if is "change" what then change_of h words
    else (if is "as" what then as_of h words
    else (if is "raw" what then stamp_raw_of h words
    else None)))))

abbrev pub stamp_of : ℕ → List Bytes → Option WorldEvent
stamp_of hosts (host ∷ what ∷ words) = do
  h ← host_in hosts host
  stamped_of h what words
stamp_of hosts _ = None

-- ---- any line

-- what a line says by its first word and those behind it
abbrev pub event_by : ℕ → ℕ → Bytes → List Bytes → Option WorldEvent
event_by hosts clients verb words =
    if is "ask" verb then ask_of clients words
    else (if is "give" verb then give_of hosts words
    else (if is "take" verb then take_of clients words
    else (if is "raw" verb then raw_of hosts clients words
    else (if is "patience" verb then patience_of hosts words
    else (if is "nudge" verb then nudge_of hosts words
    else (if is "sign" verb then sign_of clients words
    else (if is "tag" verb then tag_of hosts clients words
    else (if is "stamp" verb then stamp_of hosts words
    else None))))))))

-- what the words of an event line say, in a system of so many hosts and clients
unfoldable pub event_line : ℕ → ℕ → List Bytes → Option WorldEvent
event_line hosts clients [] = None
event_line hosts clients (verb ∷ words) = event_by hosts clients verb words
