-- The histories of h0 and h1, by the number of the position: what each message adds to the history before it.
use Rattle.std.specs.Prelude.{ℕ, zero, suc, Bool, ◌%◌, ◌==◌, if◌then◌else◌, [], ◌∷◌}
use Rattle.mb_msg.specs.declared.message.Message.TheVariants as message
use Rattle.mb_msg.specs.declared.stamped.Stamped.TheVariants as stamped
use Rattle.mb_model.specs.Histories.{Accepted, Stamped, Served, Executed, History}
use Rattle.mb_examples_course.proofs.Messages.{request, placed, slot, prepare, commit, checkpoint}

-- Behind each fourth position a host stamps a CHECKPOINT, and is given that of the other.
abbrev pub is_point : ℕ → Bool
is_point k = k % 4 == 0

-- ---- what host h adds

abbrev with_point : ℕ → ℕ → History → History
with_point h k d = if is_point k then Stamped (stamped.Checkpoint (checkpoint h k)) ∷ d else d

abbrev executed : ℕ → ℕ → History → History
executed h k d = with_point h k (Executed (slot k) ∷ Served k (placed k) ∷ d)

abbrev hears_point : ℕ → ℕ → History → History
hears_point other k d = if is_point k then Accepted (message.Checkpoint (checkpoint other k)) ∷ d else d

-- ---- h0: it orders position k, executes it with the COMMIT of h1, and is given the CHECKPOINT of h1

abbrev ordered_behind : ℕ → History → History
ordered_behind k d = Stamped (stamped.Prepare (prepare k)) ∷ Accepted (message.Request (request k)) ∷ d

abbrev done_behind : ℕ → History → History
done_behind k d = executed 0 k (Accepted (message.Commit (commit k)) ∷ ordered_behind k d)

-- behind position k
abbrev pub settled_0 : ℕ → History
settled_0 zero = []
settled_0 (suc k) = hears_point 1 (suc k) (done_behind (suc k) (settled_0 k))

-- where position k is ordered, and where it is executed
abbrev pub ordered_0 : ℕ → History
ordered_0 zero = []
ordered_0 (suc k) = ordered_behind (suc k) (settled_0 k)

abbrev pub done_0 : ℕ → History
done_0 zero = []
done_0 (suc k) = done_behind (suc k) (settled_0 k)

-- ---- h1: it commits and executes position k with the PREPARE of h0, and is given the CHECKPOINT of h0

abbrev committed_behind : ℕ → History → History
committed_behind k d = executed 1 k (Stamped (stamped.Commit (commit k)) ∷ Accepted (message.Prepare (prepare k)) ∷ d)

-- behind position k
abbrev pub settled_1 : ℕ → History
settled_1 zero = []
settled_1 (suc k) = hears_point 0 (suc k) (committed_behind (suc k) (settled_1 k))

-- where position k is executed
abbrev pub done_1 : ℕ → History
done_1 zero = []
done_1 (suc k) = committed_behind (suc k) (settled_1 k)
