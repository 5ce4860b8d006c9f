-- The entries of a LOG, given one after the other: how far it came.
use Rattle.std.proofs.Common.{◌≡◌, ℕ, zero, suc, ◌+◌, ◌<◌, ◌≤◌, Bool, true, false, List, [], ◌∷◌, drop, length, get_or, refl, sym, ap, subst, ◌∙◌, arith, add-one, drop-cons, Option, Some, None, not, is_none}
use Rattle.std.specs.Prelude.{◌==◌}
use Rattle.std.specs.Bool.{then_some}
use Rattle.std.specs.Option.{option_or}
use Rattle.std.proofs.lemmas.Option.{same_Some}
use Rattle.mb_parts.specs.Certificates.{is_stable}
use Rattle.mb_msg.specs.declared.message.Message.TheVariants as message
use Rattle.mb_model.specs.GateChecks.{valid}
use Rattle.mb_model.specs.PlainChecks.{log_refusal, is_certified_floor, is_certified_evidence}
use Rattle.mb_replica.specs.declared.given.Reaction.{Reaction as GivenAnswer}
use Rattle.std.specs.List.{AllByRecursion}
use Rattle.mb_msg.specs.declared.event.Outcome.{Outcome}
use Rattle.mb_msg.specs.declared.event.Outcome.TheVariants as outcome
use Rattle.mb_msg.specs.declared.stamped.Stamped.{Stamped as StampedMessage}
use Rattle.mb_msg.specs.declared.transfer.Log.{Log}
use Rattle.mb_model.specs.Histories.{Accepted, Identity}
use Rattle.mb_model.specs.Given.{Answer, answer, go_on, give_stamped, give_entries, give_log, jump, floor_shown}
use Rattle.mb_model.specs.Sending.{Progress, write}
use Rattle.mb_replica.specs.declared.state.ReplicaState.{ReplicaState}
use Rattle.mb_replica.specs.declared.sending.StepOutput.{StepOutput}
use Rattle.mb_replica.specs.Represents.{StandsAt, HasHistory, Answers}
use Rattle.mb_replica.specs.Holding.{IsStepping}
use Rattle.mb_replica.specs.Answers.{goes_on, is_taken}

dropped_all : {A : Type 0} (l : List A) (n : ℕ) → length l ≤ n → drop n l ≡ []
dropped_all [] zero le = refl
dropped_all [] (suc n) le = refl
dropped_all (x ∷ l) zero le = absurd (omega (arith, le))
dropped_all (x ∷ l) (suc n) le = dropped_all l n (omega (arith, le))

dropped_one : {A : Type 0} (l : List A) (n : ℕ) (x : A) → n < length l → x ≡ get_or l n x → drop n l ≡ x ∷ drop (n + 1) l
dropped_one l n x lt is = drop-cons l n x lt ∙ ap (λ y. y ∷ drop (suc n) l) (sym is) ∙ ap (λ k. x ∷ drop k l) (sym (add-one n))

-- one of those that fit fits
pub one_fits : {A : Type 0} (P : A → Type 0) (l : List A) (n : ℕ) (x : A) → AllByRecursion P l → n < length l → x ≡ get_or l n x → P x
one_fits P [] n x all lt is = absurd (omega (arith, lt))
one_fits P (y ∷ l) zero x all lt is = subst P (sym is) all.0
one_fits P (y ∷ l) (suc n) x all lt is = one_fits P l n x all.1 (omega (arith, lt)) is

module _ {S : Type 0} (me : Identity S) where
  goes : (o : Outcome) (x : Progress) (f : Progress → Answer) → goes_on o ≡ true → go_on me o x f ≡ f x
  goes outcome.Took x f e = refl
  goes (outcome.Stale n) x f e = refl
  goes outcome.Idle x f e = refl
  goes o x f e = absurd cc

  ends : (o : Outcome) (x : Progress) (f : Progress → Answer) → goes_on o ≡ false → go_on me o x f ≡ answer o x
  ends outcome.Took x f e = absurd cc
  ends (outcome.Stale n) x f e = absurd cc
  ends outcome.Idle x f e = absurd cc
  ends o x f e = refl

  none_left : (x : Progress) → give_entries me [] x ≡ answer outcome.Took x
  unfolding give_entries
  none_left x = refl

  one_given : (m : StampedMessage) (ms : List StampedMessage) (x : Progress) → give_entries me (m ∷ ms) x ≡ go_on me (give_stamped me m x).outcome (give_stamped me m x).left (λ y. give_entries me ms y)
  unfolding give_entries
  one_given m ms x = refl

module _ {V : Type 0} where
  -- The entries before this one were given: what the others do is left.
  pub record EntriesGiven (me : Identity V) (entries : List StampedMessage) (x : Progress) (done : StepOutput) (n : ℕ) (r : ReplicaState V) : Type 0 where
    pub left : Progress
    pub stands : StandsAt me r done left
    pub rest : give_entries me entries x ≡ give_entries me (drop n entries) left

  -- So it is whatever the history was.
  abbrev pub GivenSoFar : ReplicaState V → List StampedMessage → ℕ → ReplicaState V → Type 0
  GivenSoFar first entries n now = (me : Identity V) (x : Progress) (done : StepOutput) → StandsAt me first done x → EntriesGiven me entries x done n now

  pub none_given : (r : ReplicaState V) (entries : List StampedMessage) → GivenSoFar r entries 0 r
  none_given r entries me x done st = record { left = x; stands = st; rest = refl }

  -- what giving a stamped message says
  abbrev pub Gives : StampedMessage → Outcome → ReplicaState V → ReplicaState V → Type 0
  Gives m o old new = (me : Identity V) (x : Progress) (done : StepOutput) → StandsAt me old done x → (o ≡ (give_stamped me m x).outcome) × StandsAt me new done (give_stamped me m x).left

  module _ (first old new : ReplicaState V) (entries : List StampedMessage) (n : ℕ) (m : StampedMessage) (o : Outcome) (lt : n < length entries) (is : m ≡ get_or entries n m) (so_far : GivenSoFar first entries n old) (gives : Gives m o old new) where
    next_given : (me : Identity V) (x : Progress) (done : StepOutput) (st : StandsAt me first done x) (e : EntriesGiven me entries x done n old)
        → give_entries me entries x ≡ go_on me o (give_stamped me m e.left).left (λ y. give_entries me (drop (n + 1) entries) y)
    next_given me x done st e =
        e.rest ∙ ap (λ (l : List StampedMessage). give_entries me l e.left) (dropped_one entries n m lt is) ∙ one_given me m (drop (n + 1) entries) e.left
        ∙ ap (λ (p : Outcome). go_on me p (give_stamped me m e.left).left (λ y. give_entries me (drop (n + 1) entries) y)) (sym (gives me e.left done e.stands).0)

    pub given_more : (next : ℕ) → next ≡ n + 1 → goes_on o ≡ true → GivenSoFar first entries next new
    given_more next at more me x done st =
        let e : EntriesGiven me entries x done n old = so_far me x done st in
        record {
          left = (give_stamped me m e.left).left;
          stands = (gives me e.left done e.stands).1;
          rest = next_given me x done st e ∙ goes me o (give_stamped me m e.left).left (λ y. give_entries me (drop (n + 1) entries) y) more
              ∙ ap (λ (k : ℕ). give_entries me (drop k entries) (give_stamped me m e.left).left) (sym at);
        }

    -- Another outcome than those that go on ends it.
    pub given_ends : goes_on o ≡ false → (me : Identity V) (x : Progress) (done : StepOutput) → StandsAt me first done x → (o ≡ (give_entries me entries x).outcome) × StandsAt me new done (give_entries me entries x).left
    given_ends stop me x done st =
        let e : EntriesGiven me entries x done n old = so_far me x done st in
        subst (λ (a : Answer). (o ≡ a.outcome) × StandsAt me new done a.left) (sym (next_given me x done st e ∙ ends me o (give_stamped me m e.left).left (λ y. give_entries me (drop (n + 1) entries) y) stop)) (refl, (gives me e.left done e.stands).1)

  -- Behind the last it is taken.
  pub given_all : (first now : ReplicaState V) (entries : List StampedMessage) (n : ℕ) → length entries ≤ n → GivenSoFar first entries n now
      → (me : Identity V) (x : Progress) (done : StepOutput) → StandsAt me first done x → (outcome.Took ≡ (give_entries me entries x).outcome) × StandsAt me now done (give_entries me entries x).left
  given_all first now entries n most so_far me x done st =
      let e : EntriesGiven me entries x done n now = so_far me x done st in
      subst (λ (a : Answer). (outcome.Took ≡ a.outcome) × StandsAt me now done a.left) (sym (e.rest ∙ ap (λ (l : List StampedMessage). give_entries me l e.left) (dropped_all entries n most) ∙ none_left me e.left)) (refl, e.stands)

  -- ---- what is always so in between

  pub stepping_on : (first now : ReplicaState V) (entries : List StampedMessage) (n : ℕ) → IsStepping first → GivenSoFar first entries n now → IsStepping now
  stepping_on first now entries n s so_far = let e : EntriesGiven s.me entries s.left s.done n now = so_far s.me s.left s.done s.stands in record { me = s.me; done = s.done; left = e.left; stands = e.stands }

  pub has_history : (r : ReplicaState V) → IsStepping r → HasHistory r
  has_history r s = record { me = s.me; history = s.left.history; represents = s.stands.represents }

  -- The shape is the same.
  pub shape_on : (first now : ReplicaState V) (entries : List StampedMessage) (n : ℕ) → IsStepping first → GivenSoFar first entries n now → first.protocol.shape ≡ now.protocol.shape
  shape_on first now entries n s so_far =
      let e : EntriesGiven s.me entries s.left s.done n now = so_far s.me s.left s.done s.stands in
      sym s.stands.represents.who.shape ∙ e.stands.represents.who.shape

-- ---- the LOG as a whole

module _ {S : Type 0} (me : Identity S) (m : Log) where
  -- A refusal of one is not that it was taken.
  refusal_is : (o : Outcome) (floor stable evidence own : Bool) → option_or (then_some floor (outcome.Unusable 0 1)) (option_or (then_some stable (outcome.Unusable 0 2)) (option_or (then_some evidence (outcome.Unusable 0 12)) (then_some own outcome.Idle))) ≡ Some o
      → is_taken o ≡ false
  refusal_is o true stable evidence own e = subst (λ (p : Outcome). is_taken p ≡ false) (same_Some (outcome.Unusable 0 1) o e) refl
  refusal_is o false true evidence own e = subst (λ (p : Outcome). is_taken p ≡ false) (same_Some (outcome.Unusable 0 2) o e) refl
  refusal_is o false false true own e = subst (λ (p : Outcome). is_taken p ≡ false) (same_Some (outcome.Unusable 0 12) o e) refl
  refusal_is o false false false true e = subst (λ (p : Outcome). is_taken p ≡ false) (same_Some outcome.Idle o e) refl
  refusal_is o false false false false e = absurd cc

  not_taken : (o : Outcome) → Some o ≡ log_refusal me m → is_taken o ≡ false
  unfolding log_refusal
  not_taken o is = refusal_is o (not (is_certified_floor me m.host m.floor)) (not (is_stable me.shape (valid me) m.stable)) (not (is_certified_evidence me m.evidence)) (m.host == me.host) (sym is)

  log_refused : (x : Progress) (o : Outcome) → Some o ≡ log_refusal me m → give_log me m x ≡ answer o x
  unfolding give_log
  log_refused x o is = rw (sym is) refl

  log_given : (x : Progress) → None ≡ log_refusal me m → give_log me m x ≡ give_entries me m.entries (write (Accepted (message.Log m)) (jump me m.host (floor_shown me m.host m.floor) x))
  unfolding give_log
  log_given x is = rw (sym is) refl

module _ {V : Type 0} (me : Identity V) (m : Log) (x : Progress) (done : StepOutput) where
  pub refusal_answered : (old : ReplicaState V) (o : Outcome) (a : GivenAnswer) → StandsAt me old done x → Some o ≡ log_refusal me m → a ≡ record { outcome = o; rules_follow = is_taken o; asks = false }
      → Answers me (message.Log m) a (give_log me m x) × StandsAt me old done (give_log me m x).left
  refusal_answered old o a st is of =
      subst (λ (y : Answer). Answers me (message.Log m) a y × StandsAt me old done y.left) (sym (log_refused me m x o is)) (
        subst (λ (b : GivenAnswer). Answers me (message.Log m) b (answer o x)) (sym of) (record {
          outcome = refl;
          follow = not_taken me m o is ∙ ap (λ (r : Option Outcome). is_none r) is;
          asks = refl;
        }),
        st,
      )

  pub entries_answered : (new : ReplicaState V) (o : Outcome) (a : GivenAnswer) → None ≡ log_refusal me m → a ≡ record { outcome = o; rules_follow = true; asks = false } → (entries : List StampedMessage) → entries ≡ m.entries
      → ((y : Progress) → y ≡ write (Accepted (message.Log m)) (jump me m.host (floor_shown me m.host m.floor) x) → (o ≡ (give_entries me entries y).outcome) × StandsAt me new done (give_entries me entries y).left)
      → Answers me (message.Log m) a (give_log me m x) × StandsAt me new done (give_log me m x).left
  entries_answered new o a is of entries are given =
      let y : Progress = write (Accepted (message.Log m)) (jump me m.host (floor_shown me m.host m.floor) x) in
      let whole : give_entries me entries y ≡ give_log me m x = ap (λ (l : List StampedMessage). give_entries me l y) are ∙ sym (log_given me m x is) in
      subst (λ (z : Answer). Answers me (message.Log m) a z × StandsAt me new done z.left) whole (
        subst (λ (b : GivenAnswer). Answers me (message.Log m) b (give_entries me entries y)) (sym of) (record {
          outcome = (given y refl).0;
          follow = ap (λ (r : Option Outcome). is_none r) is;
          asks = refl;
        }),
        (given y refl).1,
      )
