-- What the words of a command ask for.
use Rattle.std.specs.Prelude.{◌≡◌, ◌-◌, ◌^◌, ◌≤◌, List, [], ◌∷◌, map, Option, Some, None, if◌then◌else◌, String, string_bytes}
use Rattle.mb_base.specs.Limits.{last_host, soak_limit, receive_limit}
use Rattle.mb_base.specs.Shapes.{Bytes}
use Rattle.mb_sched.specs.Words.{◌>>=◌, is, number_in}
use Rattle.mb_top.specs.declared.command.Command.{Command}
use Rattle.mb_top.specs.declared.command.Command.TheVariants.{Replay, Soak, Node, KeptNode, Journal, Retrace, Cluster, Audit, Learn}

-- `soak SEED N`
abbrev pub soak_of : Bytes → Bytes → Option Command
soak_of seed events = do
  s ← number_in 0 (2 ^ 64 - 1) seed
  n ← number_in 1 soak_limit events
  Some (Soak s n)

-- `node ID EVENTS`
abbrev pub node_of : Bytes → Bytes → Option Command
node_of host events = do
  h ← number_in 0 (2 ^ 64 - 1) host
  n ← number_in 1 receive_limit events
  Some (Node h n)

-- `node ID EVENTS PATH`
abbrev pub kept_node_of : Bytes → Bytes → Option Command
kept_node_of host events = do
  h ← number_in 0 (2 ^ 64 - 1) host
  n ← number_in 1 receive_limit events
  Some (KeptNode h n)

-- `journal ID PATH`
abbrev pub journal_of : Bytes → Option Command
journal_of host = do
  h ← number_in 0 (2 ^ 64 - 1) host
  Some (Journal h)

-- `cluster TURNS`
abbrev pub cluster_of : Bytes → Option Command
cluster_of turns = do
  n ← number_in 1 receive_limit turns
  Some (Cluster n)

-- `audit H`
abbrev pub audit_of : Bytes → Option Command
audit_of host = do
  h ← number_in 0 last_host host
  Some (Audit h)

-- a word with three more, of which the last is the path of a journal and may be any
abbrev pub with_path_of : Bytes → Bytes → Bytes → Option Command
with_path_of name host events = if is "node" name then kept_node_of host events else None

abbrev pub command_of : List Bytes → Option Command
command_of (name ∷ []) = if is "replay" name then Some Replay else (if is "retrace" name then Some Retrace else (if is "learn" name then Some Learn else None))
command_of (name ∷ number ∷ []) = if is "cluster" name then cluster_of number else (if is "audit" name then audit_of number else None)
command_of (name ∷ first ∷ second ∷ []) = if is "soak" name then soak_of first second else (if is "node" name then node_of first second else (if is "journal" name then journal_of first else None))
command_of (name ∷ host ∷ events ∷ path ∷ []) = with_path_of name host events
command_of _ = None

-- what the program's words ask for
abbrev pub asked : {Z : Type 0} → List (String Z) → Option Command
asked words = command_of (map string_bytes words)

-- They ask for this.
abbrev pub Asks : {Z : Type 0} → List (String Z) → Command → Type 0
Asks words command = asked words ≡ Some command

-- Its numbers are within their limits.
abbrev pub IsWithin : Command → Type 0
IsWithin Replay = Unit {0}
IsWithin (Soak seed n) = (1 ≤ n) × (n ≤ soak_limit)
IsWithin (Node h n) = (1 ≤ n) × (n ≤ receive_limit)
IsWithin (KeptNode h n) = (1 ≤ n) × (n ≤ receive_limit)
IsWithin (Journal h) = Unit {0}
IsWithin Retrace = Unit {0}
IsWithin (Cluster n) = (1 ≤ n) × (n ≤ receive_limit)
IsWithin (Audit h) = h ≤ last_host
IsWithin Learn = Unit {0}
