-- The events of the run with what each makes: a request of the client, or what a host answers to a message.
use Rattle.std.specs.Prelude.{ℕ, ◌+◌, ◌-◌, ◌*◌, ◌==◌, if◌then◌else◌, List, [], ◌∷◌, ◌++◌, None}
use Rattle.std.specs.List.{flat_map}
use Rattle.mb_base.specs.Shapes.{Bytes}
use Rattle.mb_parts.specs.declared.request.Request.{Request}
use Rattle.mb_msg.specs.declared.event.Outcome.TheVariants.{Took}
use Rattle.mb_msg.specs.declared.event.Slot.{Slot}
use Rattle.mb_msg.specs.declared.message.Message.{Message}
use Rattle.mb_msg.specs.declared.message.Message.TheVariants as message
use Rattle.mb_model.specs.Histories.{History}
use Rattle.mb_model.specs.Sending.{Letter, to_all, to_client}
use Rattle.mb_model.specs.Given.{Answer}
use Rattle.mb_examples_course.proofs.Messages.{request, slot, points_before, prepare, commit, reply, parts, list, checkpoint}
use Rattle.mb_examples_course.proofs.Histories.{is_point, settled_0, ordered_0, done_0, settled_1, done_1}

-- the message of a number comes to a host with this history, which answers this
pub record Delivery : Type 0 where
  pub number : ℕ
  pub host : ℕ
  pub before : History
  pub says : Message
  pub answer : Answer

pub data Deed : Type 0 where
  Asks : Request → Deed
  Gives : Delivery → Deed

-- It took the message: its history, what it sent, what it executed, and the strings whose digests it made.
abbrev took : History → List Letter → List Slot → List Bytes → Answer
took d sent slots hashed = record { outcome = Took; left = record { history = d; sent = sent; executed = slots; installed = None; hashed = hashed } }

-- Host h executed position k: it replies, and stamps a CHECKPOINT at each fourth, of the digest of its state.
abbrev told : ℕ → ℕ → List Letter
told h k = to_client 0 (message.Reply (reply h k)) ∷ (if is_point k then to_all (message.Checkpoint (checkpoint h k)) ∷ [] else [])

abbrev digested : ℕ → List Bytes
digested k = if is_point k then parts k ++ list k ∷ [] else []

-- how many messages were made before request k: a PUT makes five, and two CHECKPOINTs at each fourth position
abbrev made_before : ℕ → ℕ
made_before k = 5 * (k - 1) + 2 * points_before k

-- ---- what is given for position k

abbrev orders : ℕ → Deed
orders k = Gives (record {
  number = made_before k + 1;
  host = 0;
  before = settled_0 (k - 1);
  says = message.Request (request k);
  answer = took (ordered_0 k) (to_all (message.Prepare (prepare k)) ∷ []) [] [];
})

abbrev commits : ℕ → Deed
commits k = Gives (record {
  number = made_before k + 2;
  host = 1;
  before = settled_1 (k - 1);
  says = message.Prepare (prepare k);
  answer = took (done_1 k) (to_all (message.Commit (commit k)) ∷ told 1 k) (slot k ∷ []) (digested k);
})

abbrev executes : ℕ → Deed
executes k = Gives (record {
  number = made_before k + 3;
  host = 0;
  before = ordered_0 k;
  says = message.Commit (commit k);
  answer = took (done_0 k) (told 0 k) (slot k ∷ []) (digested k);
})

-- The CHECKPOINTs come to h1 and to h0.
abbrev are_exchanged : ℕ → List Deed
are_exchanged k =
    Gives (record { number = made_before k + 7; host = 1; before = done_1 k; says = message.Checkpoint (checkpoint 0 k); answer = took (settled_1 k) [] [] [] }) ∷
    Gives (record { number = made_before k + 5; host = 0; before = done_0 k; says = message.Checkpoint (checkpoint 1 k); answer = took (settled_0 k) [] [] [] }) ∷
    []

abbrev pub begun : ℕ → List Deed
begun k = Asks (request k) ∷ orders k ∷ []

abbrev pub committed : ℕ → List Deed
committed k = commits k ∷ []

-- The ninth PUT is executed by h1 alone.
abbrev pub executed : ℕ → List Deed
executed k = if k == 9 then [] else executes k ∷ []

abbrev pub exchanged : ℕ → List Deed
exchanged k = if is_point k then are_exchanged k else []

abbrev pub round : ℕ → List Deed
round k = begun k ++ committed k ++ executed k ++ exchanged k

abbrev pub rounds : List ℕ → List Deed
rounds numbers = flat_map round numbers

abbrev pub deeds : List Deed
deeds = rounds (1 ∷ 2 ∷ 3 ∷ 4 ∷ 5 ∷ 6 ∷ 7 ∷ 8 ∷ 9 ∷ [])
