-- The limits of the system, each once. Definitions, proofs and clauses cite it by its name; that the constants of the code are the same numbers is said by the
-- contracts that cite both, and by the laws `limits_are_those_defined` of `mb_parts` and `service_limits_are_those_defined` of `mb_service`. What limits one
-- format or one table alone (a datagram's piece and their number, the store's keys and values, the longest text, the positions of kept CHECKPOINTs) is a
-- constant of that crate, or a word of its definitions, which is cited by its name. `mb_pins` says the numbers once more.
use Rattle.std.specs.Prelude.{ℕ, ◌+◌, ◌*◌}

-- ---- how large a system is

-- the most hosts that may be faulty: there are 3, 5 or 7 hosts
abbrev pub most_faults : ℕ
most_faults = 3

-- the most hosts
abbrev pub most_hosts : ℕ
most_hosts = 2 * most_faults + 1

-- the greatest number of a host
abbrev pub last_host : ℕ
last_host = 2 * most_faults

-- the fewest positions from one checkpoint to the next
abbrev pub least_interval : ℕ
least_interval = 4

-- The most of them. The longest message, a NEW_VIEW of seven hosts, grows with it, and could pass `message_limit` with 33.
abbrev pub most_interval : ℕ
most_interval = 32

-- the most clients
abbrev pub most_clients : ℕ
most_clients = 64

-- ---- what goes into a message

-- The most bytes of a message: 128 datagrams with 32,768 bytes each. The longest one, a NEW_VIEW of seven hosts, has less.
abbrev pub message_limit : ℕ
message_limit = 4194304

-- the most bytes of an operation, and of a result: a request and a REPLY go into one datagram
abbrev pub text_limit : ℕ
text_limit = 1024

-- ---- what goes into a batch

-- The most requests of a batch. One has at least 43 bytes, so that 47 would go into `batch_bytes_limit`; a byte holds their count.
abbrev pub batch_limit : ℕ
batch_limit = 16

-- The most bytes that they have together, without their count. The longest request, of 1,067 bytes, has room. A log shows a batch for each of its votes,
-- so the longest message grows with it.
abbrev pub batch_bytes_limit : ℕ
batch_bytes_limit = 2048

-- how many positions a primary orders ahead of what it executed: what comes meanwhile waits, and goes into one batch
abbrev pub ahead_limit : ℕ
ahead_limit = 4

-- The most batches of a plan, two intervals of positions: no usable log has a vote above them.
abbrev pub plan_limit : ℕ
plan_limit = 2 * most_interval

-- ---- what a host keeps of its own messages, and what it sends of them

-- For how many intervals of PREPAREs, COMMITs and CHECKPOINTs a log has room. A VIEW_CHANGE shows all of them, so the longest message grows with it.
abbrev pub log_intervals : ℕ
log_intervals = 6

-- For how many other messages a log has room: those of 256 views that are left one after the other, three of each.
abbrev pub other_limit : ℕ
other_limit = 768

-- the most messages of a LOG
abbrev pub entry_limit : ℕ
entry_limit = 64

-- The most bytes that they have together, where there are several.
abbrev pub entry_bytes_limit : ℕ
entry_bytes_limit = 800000

-- ---- the parts of a state, each with a digest of its own, so that it is fetched by itself

-- those of the service
abbrev pub service_parts : ℕ
service_parts = 64

-- with the client table
abbrev pub part_count : ℕ
part_count = service_parts + 1

-- the number of the client table's part
abbrev pub table_part : ℕ
table_part = service_parts

-- the most bytes of one
abbrev pub part_limit : ℕ
part_limit = 4000000

-- how many snapshots of all parts a host holds: that of its stable checkpoint, and of the two intervals above it
abbrev pub snapshot_limit : ℕ
snapshot_limit = 3

-- The most bytes of the parts of a STATE, where there are several.
abbrev pub part_bytes_limit : ℕ
part_bytes_limit = 65536

-- ---- what a command does at most

-- the most events of a soak
abbrev pub soak_limit : ℕ
soak_limit = 100000

-- the most receives of a node, and of a cluster's clients
abbrev pub receive_limit : ℕ
receive_limit = 1000000

-- how often a cluster asks its nodes to stop
abbrev pub stop_limit : ℕ
stop_limit = 3

-- The most rules that a host carries out behind one event. It is never reached.
abbrev pub rule_limit : ℕ
rule_limit = 1000000
