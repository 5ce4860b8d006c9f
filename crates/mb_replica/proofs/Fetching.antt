-- A STATE that is wanted: what it is refused for, and what a replica stands for behind it.
use Rattle.std.proofs.Common.{◌≡◌, ◌<◌, ◌∙◌, ℕ, Bool, true, false, ◌∷◌, refl, ap, sym, arith, length, Option, Some, None, Ok, Err, is_some, is_none}
use Rattle.std.proofs.Math.Path.{fun_ext}
use Rattle.std.specs.Prelude.{◌==◌, not, if◌then◌else◌}
use Rattle.std.specs.Bool.{then_some}
use Rattle.std.specs.List.{range_with_len, list_all}
use Rattle.std.specs.Option.{option_or}
use Rattle.std.proofs.lemmas.Bool.{eq-eqb, eqb-true}
use Rattle.mb_base.specs.Limits.{part_count}
use Rattle.mb_base.specs.declared.shape.Shape.{Shape}
use Rattle.mb_base.specs.Shapes.{Bytes, client_count}
use Rattle.mb_usig.specs.Tags.{same_bytes}
use Rattle.mb_parts.specs.declared.certificates.StableCert.{StableCert}
use Rattle.mb_msg.specs.declared.event.Outcome.{Outcome}
use Rattle.mb_msg.specs.declared.event.Outcome.TheVariants as outcome
use Rattle.mb_msg.specs.declared.message.Message.TheVariants as message
use Rattle.mb_msg.specs.declared.transfer.StateMsg.{StateMsg}
use Rattle.mb_msg.specs.Fits.{FitsState}
use Rattle.mb_model.specs.Service.{Served as ServedState}
use Rattle.mb_model.specs.States.{Snapshots, restored}
use Rattle.mb_model.specs.Histories.{Entry, Accepted, DroppedParts, History, Identity}
use Rattle.mb_model.specs.Stable.{low_of, stable_of}
use Rattle.mb_model.specs.Positions.{is_behind}
use Rattle.mb_model.specs.Execution.{state_from, part_held, parts_held, missing, part_in}
use Rattle.mb_model.specs.PlainChecks.{wrong_part, wrong_digest, is_wanted, are_all_held, bad_state, state_refusal}
use Rattle.mb_model.specs.Sending.{Progress, write}
use Rattle.mb_model.specs.HostStep.{is_taken as step_taken}
use Rattle.mb_model.specs.Given.{Answer, answer, answer_state, install, install_where_all, give_state}
use Rattle.mb_history_laws.proofs.Executing.{parts_held_more}
use Rattle.mb_fetch.specs.Fetched.{Fetched}
use Rattle.mb_fetch.specs.Checks.{HasParts, list_digest, first_wrong}
use Rattle.mb_fetch.specs.Parts.{joined, first_missing, all_found}
use Rattle.mb_executor.specs.Keeping.{found, AreOf}
use Rattle.mb_executor.specs.Taking.{are_held}
use Rattle.mb_executor.specs.Taking as keeper
use Rattle.mb_refinement.specs.Stands.{HeldStand}
use Rattle.mb_replica.specs.declared.state.ReplicaState.{ReplicaState}
use Rattle.mb_replica.specs.declared.given.Reaction.{Reaction as GivenAnswer}
use Rattle.mb_replica.specs.Answers.{is_taken}
use Rattle.mb_replica.specs.Represents.{Represents, Answers}
use Rattle.mb_replica.proofs.Asking.{clients_known}
use Rattle.mb_replica.proofs.Letters.{behind_is, behind_here}
use Rattle.mb_replica.proofs.Answering.{same_taken}

-- ---- what a STATE has

pub has_parts : (s : Shape) (m : StateMsg) → FitsState s m → HasParts m
has_parts s m f = record { digest_count = f.digest_count; some = f.count.0; within = let first = f.first in let most = f.count.1 in let least = f.count.0 in omega (arith, first, most, least) }

-- the list of digests, and then the parts
list_first : (b : Bool) (o : Option ℕ) (more : Option Outcome) → option_or (then_some (not b) (outcome.WrongDigest part_count)) (option_or (wrong_digest o) more) ≡ option_or (wrong_digest (if b then o else Some part_count)) more
list_first true o more = refl
list_first false o more = refl

module _ {V : Type 0} (me : Identity V) where
  -- ---- the parts that are held

  pub held_search : (held : Option Fetched) (d : History) → HeldStand me held d → found held ≡ part_held me d
  held_search None d none = fun_ext (λ i. sym (none i))
  held_search (Some t) d st = fun_ext st.finds

  pub held_of : (held : Option Fetched) (d : History) (pos : ℕ) (digest : Bytes) → HeldStand me held d → pos ≡ low_of me d → digest ≡ (stable_of me d).state → AreOf held pos digest
  held_of None d pos digest none at is = tt
  held_of (Some t) d pos digest st at is = (st.pos_is ∙ sym at, st.digest_is ∙ sym is)

  pub held_stand : (held : Option Fetched) (d : History) (pos : ℕ) (digest : Bytes) → AreOf held pos digest → pos ≡ low_of me d → digest ≡ (stable_of me d).state → ((i : ℕ) → found held i ≡ part_held me d i) → HeldStand me held d
  held_stand None d pos digest are at is finds = λ i. sym (finds i)
  held_stand (Some t) d pos digest are at is finds = record { pos_is = are.0 ∙ at; digest_is = are.1 ∙ is; finds = finds }

  -- the first missing part
  pub missing_is : (held : Option Fetched) (d : History) → HeldStand me held d → first_missing (found held) ≡ missing me d
  missing_is held d st = ap first_missing (held_search held d st)

  -- ---- what a STATE is wanted for

  pub wanted_here : (pos : ℕ) (d : History) → is_wanted me d pos ≡ true → (pos ≡ low_of me d) × (is_behind me d ≡ true)
  wanted_here pos d wanted = by_test (pos == low_of me d) refl wanted where
    by_test : (b : Bool) → (pos == low_of me d) ≡ b → (if b then is_behind me d else false) ≡ true → (pos ≡ low_of me d) × (is_behind me d ≡ true)
    by_test true same w = (eqb-true pos (low_of me d) same, w)
    by_test false other w = absurd cc

  pub wanted_is : (r : ReplicaState V) (d : History) (pos : ℕ) → Represents me r d → pos ≡ r.protocol.stable.pos → r.protocol.exec < r.protocol.stable.pos → is_wanted me d pos ≡ true
  wanted_is r d pos rep at behind =
      let low : pos ≡ low_of me d = at ∙ ap (λ (c : StableCert). c.pos) rep.tables.stable in
      rw (eq-eqb pos (low_of me d) low) (behind_is me r d rep behind)

  -- So the tables say it.
  pub wanted_stable : (r : ReplicaState V) (d : History) (pos : ℕ) → Represents me r d → is_wanted me d pos ≡ true → pos ≡ r.protocol.stable.pos
  wanted_stable r d pos rep wanted = (wanted_here pos d wanted).0 ∙ sym (ap (λ (c : StableCert). c.pos) rep.tables.stable)

  pub wanted_behind : (r : ReplicaState V) (d : History) (pos : ℕ) → Represents me r d → is_wanted me d pos ≡ true → r.protocol.exec < r.protocol.stable.pos
  wanted_behind r d pos rep wanted = behind_here me r d rep (wanted_here pos d wanted).1

  -- ---- what follows a STATE

  pub answers : (m : StateMsg) (a : GivenAnswer) (o : Outcome) (is : Answer) → a ≡ record { outcome = o; rules_follow = is_taken o; asks = true } → o ≡ is.outcome → Answers me (message.State m) a is
  answers m a o is says same = record {
    outcome = ap (λ (y : GivenAnswer). y.outcome) says ∙ same;
    follow = ap (λ (y : GivenAnswer). y.rules_follow) says ∙ (same_taken me o ∙ ap (step_taken me) same);
    asks = ap (λ (y : GivenAnswer). y.asks) says;
  }

  pub not_wanted : (m : StateMsg) (x : Progress) → is_wanted me x.history m.pos ≡ false → answer outcome.Idle x ≡ give_state me m x
  unfolding give_state state_refusal
  not_wanted m x other = rw other refl

  -- ---- one that is wanted

  module _ (r : ReplicaState V) (x : Progress) (rep : Represents me r x.history) (m : StateMsg) (wanted : is_wanted me x.history m.pos ≡ true) where
    abbrev taken_now : Entry
    taken_now = Accepted (message.State m)

    abbrev search : ℕ → Option Bytes
    search = found r.keeper.fetched

    pub at_low : m.pos ≡ low_of me x.history
    at_low = (wanted_here m.pos x.history wanted).0

    pub digest_is : r.protocol.stable.state ≡ (stable_of me x.history).state
    digest_is = ap (λ (c : StableCert). c.state) rep.tables.stable

    search_is : found r.keeper.fetched ≡ part_held me x.history
    search_is = held_search r.keeper.fetched x.history rep.tables.parts

    -- behind it
    pub held_now : (i : ℕ) → joined search m i ≡ part_held me (taken_now ∷ x.history) i
    held_now i = ap (λ (f : ℕ → Option Bytes). option_or (f i) (part_in m i)) search_is ∙ sym (parts_held_more me m x.history i at_low)

    search_now : joined search m ≡ part_held me (taken_now ∷ x.history)
    search_now = fun_ext held_now

    pub missing_now : first_missing (joined search m) ≡ missing me (taken_now ∷ x.history)
    missing_now = ap first_missing search_now

    pub found_now : all_found (joined search m) ≡ parts_held me (taken_now ∷ x.history)
    found_now = ap all_found search_now

    -- ---- what it is refused for

    refused : state_refusal me x.history m ≡ option_or (wrong_digest (first_wrong r.protocol.stable.state m)) (option_or (then_some (are_held search m) outcome.Idle) (bad_state me (taken_now ∷ x.history)))
    unfolding state_refusal
    refused =
        let more : Option Outcome = option_or (then_some (are_all_held me x.history m) outcome.Idle) (bad_state me (taken_now ∷ x.history)) in
        let idle : are_all_held me x.history m ≡ are_held search m = ap (λ (f : ℕ → Option Bytes). list_all (λ i. is_some (f i)) (range_with_len m.first (length m.parts))) (sym search_is) in
        rw wanted (ap (λ (digest : Bytes). option_or (then_some (not (same_bytes (list_digest m) digest)) (outcome.WrongDigest part_count)) (option_or (wrong_digest (wrong_part m.digests m.first m.parts)) more)) (sym digest_is)
        ∙ (list_first (same_bytes (list_digest m) r.protocol.stable.state) (wrong_part m.digests m.first m.parts) more
        ∙ ap (λ (b : Bool). option_or (wrong_digest (first_wrong r.protocol.stable.state m)) (option_or (then_some b outcome.Idle) (bad_state me (taken_now ∷ x.history)))) idle))

    given_by : (o : Option Outcome) → state_refusal me x.history m ≡ o → answer_state me o m x ≡ give_state me m x
    unfolding give_state
    given_by o is = ap (λ (p : Option Outcome). answer_state me p m x) (sym is)

    pub wrong_given : (part : ℕ) → first_wrong r.protocol.stable.state m ≡ Some part → answer (outcome.WrongDigest part) x ≡ give_state me m x
    wrong_given part wrong = given_by (Some (outcome.WrongDigest part)) (refused ∙ rw wrong refl)

    module _ (right : first_wrong r.protocol.stable.state m ≡ None) where
      pub held_given : are_held search m ≡ true → answer outcome.Idle x ≡ give_state me m x
      held_given all = given_by (Some outcome.Idle) (refused ∙ rw (right, all) refl)

      module _ (more : are_held search m ≡ false) where
        pub by_state : state_refusal me x.history m ≡ bad_state me (taken_now ∷ x.history)
        by_state = refused ∙ rw (right, more) refl

        module _ (some : is_some (first_missing (joined search m)) ≡ true) where
          some_missing : is_none (missing me (taken_now ∷ x.history)) ≡ false
          some_missing = ap is_none (sym missing_now) ∙ is_there (first_missing (joined search m)) some where
            is_there : (o : Option ℕ) → is_some o ≡ true → is_none o ≡ false
            is_there None e = absurd cc
            is_there (Some i) e = refl

          pub parts_pass : state_refusal me x.history m ≡ None
          parts_pass = by_state ∙ rw some_missing refl

          pub parts_given : answer outcome.Took (write taken_now x) ≡ give_state me m x
          parts_given = left ∙ given_by None parts_pass where
            left : answer outcome.Took (write taken_now x) ≡ answer outcome.Took (install_where_all me (write taken_now x))
            left = rw some_missing refl

        module _ (all : first_missing (joined search m) ≡ None) where
          pub none_missing : missing me (taken_now ∷ x.history) ≡ None
          none_missing = sym missing_now ∙ all

          module _ (snapshots : Snapshots V) (same : me.snapshots ≡ snapshots) where
            pub from_parts : state_from me (parts_held me (taken_now ∷ x.history)) ≡ keeper.state_from snapshots r.keeper (all_found (joined search m))
            from_parts =
                let count : client_count me.shape ≡ length r.keeper.served.table = ap client_count rep.who.shape ∙ sym (clients_known me r x.history rep) in
                ap (λ (y : Snapshots V). restored y (client_count me.shape) (parts_held me (taken_now ∷ x.history))) same
                ∙ (ap (λ (n : ℕ). restored snapshots n (parts_held me (taken_now ∷ x.history))) count ∙ ap (restored snapshots (length r.keeper.served.table)) (sym found_now))

            pub state_pass : (y : ServedState V) → keeper.state_from snapshots r.keeper (all_found (joined search m)) ≡ Ok y → state_refusal me x.history m ≡ None
            state_pass y is = by_state ∙ rw (none_missing, from_parts, is) refl

            pub state_given : (y : ServedState V) → keeper.state_from snapshots r.keeper (all_found (joined search m)) ≡ Ok y → answer outcome.Took (install me (write taken_now x)) ≡ give_state me m x
            state_given y is = left ∙ given_by None (state_pass y is) where
              left : answer outcome.Took (install me (write taken_now x)) ≡ answer outcome.Took (install_where_all me (write taken_now x))
              left = rw none_missing refl

            pub bad_given : (part at : ℕ) → keeper.state_from snapshots r.keeper (all_found (joined search m)) ≡ Err (part, at) → answer (outcome.BadState part at) (write DroppedParts x) ≡ give_state me m x
            bad_given part at is = given_by (Some (outcome.BadState part at)) (by_state ∙ rw (none_missing, from_parts, is) refl)
