-- The normal case. Of a statement that says what no host leaves undone there is a history in which all its premises hold, as it stands in the middle of a
-- step: a host that stopped there would break the promise. Of the others: what the statement gives somewhere, and that it is so.
use Rattle.std.proofs.Common.{inl, inr, ◌⊎◌, ap, sym, ◌≡◌, ◌≤◌, ◌<◌, ℕ, Bool, true, false, List, [], ◌∷◌, ◌++◌, refl, arith, Some, None}
use Rattle.std.specs.Prelude.{if◌then◌else◌, ◌^◌, ◌-◌, Contains}
use Rattle.mb_base.specs.Limits.{batch_limit, batch_bytes_limit}
use Rattle.mb_parts.specs.declared.request.Request.{Request}
use Rattle.mb_parts.specs.declared.batch.Batch.{Batch}
use Rattle.mb_parts.specs.Bares.{batch_digest}
use Rattle.mb_msg.specs.declared.message.Body.TheVariants.{Whole}
use Rattle.mb_msg.specs.declared.message.Message.TheVariants as message
use Rattle.mb_msg.specs.declared.stamped.Stamped.TheVariants as stamped
use Rattle.mb_msg.specs.Spelling.{spelling}
use Rattle.mb_msg.specs.declared.message.Message.{Message}
use Rattle.mb_msg.specs.declared.event.Event.TheVariants as event
use Rattle.mb_model.specs.declared.known.KnownSlot.{KnownSlot}
use Rattle.mb_model.specs.declared.known.Vote.{Vote}
use Rattle.mb_model.specs.Histories.{Accepted, Stamped, Executed, Served, History}
use Rattle.mb_model.specs.Positions.{slot_in, vote_of}
use Rattle.mb_model.specs.EnabledRules.{unordered}
use Rattle.mb_model.specs.HostStep.{transition}
use Rattle.mb_model.proofs.StepOnLiterals.{host_on_literals}
use Rattle.mb_promise.specs.NothingLeft.{OrdersRequests, IsUnordered, OrdersAllThatFit, IsFull, CommitsNext, ExecutesAtQuorum, StampsCheckpoints, IsCheckpointed, KeepsSlots, CountsPrepares, CountsCommits, CommitCompletes, PrepareCompletes, BothComplete, ExecutesWithCommit, ExecutesWithPrepare, ExecutesWithBoth, Executes}
use Rattle.mb_agreement.proofs.ViewChangeData.{asked_0, asked_1, asked, prepare_cert}
use Rattle.mb_premises_met.proofs.Data.{host, prepare_1, commit_1, slot_1, slot_4, placed}

-- ---- what no host leaves undone

-- The primary took a request, and nothing is ordered.
abbrev one_waits : History
one_waits = Accepted (message.Request asked_0) ∷ []

never : {A : Type 0} (b : Bool) (k : A) → (if b then None else None) ≡ Some k → ⊥
never true k e = absurd cc
never false k e = absurd cc

none_is_ordered : IsUnordered (host 0) one_waits 0 1
unfolding host_on_literals
none_is_ordered p k b there = absurd (never _ k there.0.1)

a_request_is_ordered : OrdersRequests (host 0) one_waits → ⊥
unfolding host_on_literals
a_request_is_ordered orders =
    let few : 0 < 24 = omega arith in
    let left : 0 < 2 ^ 64 - 1 = omega arith in
    let some : 0 < 1 = omega arith in
    orders 0 asked_0 refl refl (record { place = few; counter = left }) (record { above = omega arith; near = omega arith; allowed = omega arith }) (omega arith) (omega arith) refl refl none_is_ordered

-- A backup took the PREPARE of its next position, and did not answer it.
abbrev ordered : History
ordered = Accepted (message.Prepare prepare_1) ∷ []

-- the slot that it makes
abbrev pub slot_of_1 : KnownSlot
slot_of_1 = record { counter = 1; cert = prepare_cert; digest = batch_digest asked; batch = Some asked }

a_batch_is_committed : CommitsNext (host 1) ordered → ⊥
unfolding host_on_literals
a_batch_is_committed commits =
    let few : 0 < 24 = omega arith in
    let left : 0 < 2 ^ 64 - 1 = omega arith in
    commits slot_of_1 asked refl refl (record { place = few; counter = left }) ((record { above = omega arith; near = omega arith; allowed = omega arith }, refl), refl)

-- It stamped its COMMIT, so two of three hosts have the vote, and it did not execute the batch.
abbrev pub committed : History
committed = Stamped (stamped.Commit commit_1) ∷ ordered

a_committed_batch_is_executed : ExecutesAtQuorum (host 1) committed → ⊥
unfolding host_on_literals
a_committed_batch_is_executed executes =
    let two : 2 ≤ 2 = omega arith in
    executes slot_of_1 asked refl ((record { above = omega arith; near = omega arith; allowed = omega arith }, refl), refl) two

-- Position 4, a multiple of the interval, was executed, and no CHECKPOINT stands behind it.
abbrev executed_4 : History
executed_4 = Executed slot_4 ∷ []

behind_nothing : {A : Type 0} (more : List A) (x : A) → [] ≡ more ++ x ∷ [] → ⊥
behind_nothing [] x e = absurd cc
behind_nothing (y ∷ more) x e = absurd cc

a_checkpoint_is_stamped : StampsCheckpoints (host 1) executed_4 → ⊥
unfolding host_on_literals
a_checkpoint_is_stamped stamps =
    let few : 0 < 24 = omega arith in
    let left : 0 < 2 ^ 64 - 1 = omega arith in
    let it : IsCheckpointed (host 1) executed_4 [] [] slot_4 = stamps [] [] slot_4 refl refl (record { place = few; counter = left }) in
    behind_nothing it.more (Stamped (stamped.Checkpoint it.message)) it.follows

-- ---- what goes into a batch

-- Two clients wait, and one PREPARE orders both: nothing is left out.
abbrev pub two_wait : History
two_wait = Accepted (message.Request asked_1) ∷ Accepted (message.Request asked_0) ∷ []

both_are_in : (OrdersAllThatFit (host 0) (Stamped (stamped.Prepare prepare_1) ∷ two_wait) → IsFull (unordered (host 0) two_wait) asked) × (unordered (host 0) two_wait ≡ asked.requests)
unfolding host_on_literals
both_are_in = (λ fills. fills [] two_wait prepare_1 asked refl refl, refl)

-- A PREPARE of one of them alone is refused: there was a place for the other.
abbrev first_alone : Batch
first_alone = record { requests = asked_0 ∷ [] }

abbrev of_one : History
of_one = Stamped (stamped.Prepare (record prepare_1 { body = Whole first_alone })) ∷ two_wait

behind_first : List Request → List Request
behind_first [] = []
behind_first (r ∷ l) = l

too_few : (n bytes : ℕ) → (n ≡ batch_limit) ⊎ (batch_bytes_limit < bytes) → n < batch_limit → bytes ≤ batch_bytes_limit → ⊥
too_few n bytes (inl many) few short = absurd (omega (arith, many, few))
too_few n bytes (inr long) few short = absurd (omega (arith, long, short))

one_alone_is_not_full : OrdersAllThatFit (host 0) of_one → ⊥
unfolding host_on_literals behind_first
one_alone_is_not_full fills =
    let it : IsFull (unordered (host 0) two_wait) first_alone = fills [] two_wait (record prepare_1 { body = Whole first_alone }) first_alone refl refl in
    let rest : asked_1 ∷ [] ≡ it.rest = ap behind_first it.begins in
    let few : 1 < batch_limit = omega arith in
    let short : 95 ≤ batch_bytes_limit = omega arith in
    too_few 1 95 (it.full asked_1 [] (sym rest)) few short

-- ---- what was taken is a slot and a vote

-- A PREPARE makes the slot, which stays behind the host's own COMMIT, and is its primary's vote; a COMMIT of h1 is the vote of h1 at h2.
a_slot_is_kept : (KeepsSlots (host 1) committed → slot_in (host 1) committed 0 1 ≡ Some slot_of_1) × (slot_in (host 1) committed 0 1 ≡ Some slot_of_1)
unfolding host_on_literals
a_slot_is_kept = (λ keeps. keeps (Stamped (stamped.Commit commit_1) ∷ []) [] prepare_1 refl refl (record { above = omega arith; near = omega arith; allowed = omega arith }) refl, refl)

abbrev pub vote_1 : Vote
vote_1 = record { counter = 1; request = batch_digest asked }

a_prepare_counts : (CountsPrepares (host 1) committed → vote_of (host 1) committed 0 0 1 ≡ Some vote_1) × (vote_of (host 1) committed 0 0 1 ≡ Some vote_1)
unfolding host_on_literals
a_prepare_counts = (λ counts. counts (Stamped (stamped.Commit commit_1) ∷ []) [] prepare_1 refl refl (record { above = omega arith; near = omega arith; allowed = omega arith }) refl, refl)

abbrev commit_came : History
commit_came = Accepted (message.Commit commit_1) ∷ []

a_commit_counts : (CountsCommits (host 2) commit_came → vote_of (host 2) commit_came 1 0 1 ≡ Some vote_1) × (vote_of (host 2) commit_came 1 0 1 ≡ Some vote_1)
unfolding host_on_literals
a_commit_counts = (λ counts. counts [] [] commit_1 refl refl (record { above = omega arith; near = omega arith; allowed = omega arith }) refl, refl)

-- ---- the vote that completes f+1 executes

-- what a message leaves at a host
abbrev pub left_by : ℕ → History → Message → History
left_by h d m = (transition (host h) d (event.Given (spelling m))).left.history

-- The primary stamped the PREPARE, and the COMMIT of h1 comes.
abbrev stamped_1 : History
stamped_1 = Stamped (stamped.Prepare prepare_1) ∷ two_wait

a_commit_completes : CommitCompletes (host 0) stamped_1 (spelling (message.Commit commit_1)) commit_1 slot_of_1 asked asked
unfolding host_on_literals
a_commit_completes =
    let one : 1 ≤ 1 = omega arith in
    record {
      is = refl;
      sent = record { certified = refl; other = λ e. let is : 1 ≡ 0 = e in absurd (omega (arith, is)); free = refl; next = refl; permitted = refl };
      next = record { opened = refl; current = refl; next = refl; within = record { above = omega arith; near = omega arith; allowed = omega arith } };
      body = refl;
      tagged = (refl, (refl, tt));
      slot = ((record { above = omega arith; near = omega arith; allowed = omega arith }, refl), refl);
      counter = refl;
      digest = refl;
      lacks = record { first = refl; others = one };
    }

a_commit_executes : (ExecutesWithCommit (host 0) stamped_1 → Executes (host 0) stamped_1 (spelling (message.Commit commit_1)) 1 asked)
    × (left_by 0 stamped_1 (message.Commit commit_1) ≡ Executed slot_1 ∷ Served 1 (placed asked_1) ∷ Served 1 (placed asked_0) ∷ Accepted (message.Commit commit_1) ∷ stamped_1)
unfolding host_on_literals transition
a_commit_executes = (λ executes. executes (spelling (message.Commit commit_1)) commit_1 slot_of_1 asked asked a_commit_completes, refl)

-- h2 was given the COMMIT of h1 without its PREPARE, and the PREPARE comes.
a_prepare_completes : PrepareCompletes (host 2) commit_came (spelling (message.Prepare prepare_1)) prepare_1 asked
unfolding host_on_literals
a_prepare_completes =
    let one : 1 ≤ 1 = omega arith in
    record {
      is = refl;
      sent = record { certified = refl; other = λ e. let is : 0 ≡ 2 = e in absurd (omega (arith, is)); free = refl; next = refl; permitted = refl };
      next = record { opened = refl; current = refl; next = refl; within = record { above = omega arith; near = omega arith; allowed = omega arith } };
      body = refl;
      tagged = (refl, (refl, tt));
      no_slot = refl;
      lacks = record { first = refl; others = one };
    }

a_prepare_executes : (ExecutesWithPrepare (host 2) commit_came → Executes (host 2) commit_came (spelling (message.Prepare prepare_1)) 1 asked)
    × Contains (left_by 2 commit_came (message.Prepare prepare_1)) (Executed slot_1)
unfolding host_on_literals transition
a_prepare_executes = (
  λ executes. executes (spelling (message.Prepare prepare_1)) prepare_1 asked a_prepare_completes,
  let some : 0 < 6 = omega arith in (0, some, refl),
)

-- h2 was given nothing, and the COMMIT of h1 brings the PREPARE.
pub both_complete : BothComplete (host 2) [] (spelling (message.Commit commit_1)) commit_1 asked
unfolding host_on_literals
both_complete =
    let one : 1 ≤ 1 = omega arith in
    record {
      is = refl;
      sent = record { certified = refl; other = λ e. let is : 1 ≡ 2 = e in absurd (omega (arith, is)); free = refl; next = refl; permitted = refl };
      ordered = record { certified = refl; other = λ e. let is : 0 ≡ 2 = e in absurd (omega (arith, is)); free = refl; next = refl; permitted = refl };
      next = record { opened = refl; current = refl; next = refl; within = record { above = omega arith; near = omega arith; allowed = omega arith } };
      body = refl;
      tagged = (refl, (refl, tt));
      no_slot = refl;
      lack = record { first = refl; second = refl; others = one };
    }

both_execute : (ExecutesWithBoth (host 2) [] → Executes (host 2) [] (spelling (message.Commit commit_1)) 1 asked)
    × Contains (left_by 2 [] (message.Commit commit_1)) (Executed slot_1)
unfolding host_on_literals transition
both_execute = (
  λ executes. executes (spelling (message.Commit commit_1)) commit_1 asked both_complete,
  let some : 0 < 6 = omega arith in (0, some, refl),
)
