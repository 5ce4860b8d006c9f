-- What an audit finds against a host is right.
--
-- A certificate that verifies in what a correct host was given was issued, so no host has two messages at one counter (`one_message`). What a correct
-- host's messages are found to be is a beginning of its own list (`is_beginning`), in which each message may stand behind those before it.
use Rattle.std.proofs.Common.{◌≡◌, ℕ, ◌+◌, ◌<◌, Bool, true, List, [], ◌∷◌, ◌++◌, length, map, refl, sym, ap, subst, ◌∙◌, inl, inr, arith, length-append, eqb, Option, Some, None}
use Rattle.std.specs.Prelude.{reverse, option_and_then}
use Rattle.std.specs.List.{flat_map, AllByRecursion}
use Rattle.std.proofs.lemmas.Bool.{cases_Bool}
use Rattle.std.proofs.lemmas.List.{reverse-append, length-map}
use Rattle.std.proofs.lemmas.Option.{none-some}
use Rattle.mb_base.specs.Shapes.{Bytes, IsShape, host_count}
use Rattle.mb_base.specs.declared.shape.Shape.{Shape}
use Rattle.mb_parts.specs.Bares.{Bare, bare_bytes}
use Rattle.mb_parts.specs.BareReading.{bare_of_bytes}
use Rattle.mb_parts.specs.Certificates.{inner_valid}
use Rattle.mb_parts.specs.Claims.{Claim}
use Rattle.mb_parts.specs.Counters.{at_counter, IsBeginning}
use Rattle.mb_parts.specs.Fits.{FitsBare}
use Rattle.mb_parts.specs.Ordered.{initial_floor, is_ordered}
use Rattle.mb_parts.proofs.BareLaws.{bare_again}
use Rattle.mb_parts.proofs.Counters.{StandsAt, at_split}
use Rattle.mb_parts.proofs.IssuedLaws.{says}
use Rattle.mb_parts.proofs.OrderedParts.{head, ordered_before}
use Rattle.mb_msg.specs.declared.message.Message.{Message}
use Rattle.mb_model.specs.Members.{In}
use Rattle.mb_model.proofs.Members.{in_contained}
use Rattle.mb_model.specs.Compared.{inside_some}
use Rattle.mb_model.specs.Histories.{said}
use Rattle.mb_model.specs.Verified.{verifies}
use Rattle.mb_steps.proofs.StepOwnStamped.{steady}
use Rattle.mb_schedule.specs.Limits.{is_faulty}
use Rattle.mb_model.specs.Inside.{claims_in}
use Rattle.mb_world_model.specs.World.{World, System, self_of, read, stamps}
use Rattle.mb_world_model.specs.WorldEvents.{IsCorrect}
use Rattle.mb_world_model.specs.WorldRecord.{issued}
use Rattle.mb_world_model.specs.WorldSteps.{world}
use Rattle.mb_host_laws.proofs.Cases.{not_both, some_is}
use Rattle.mb_world_laws.proofs.Grown.{IsGivenTo}
use Rattle.mb_world_laws.proofs.OwnStamps.{own_fits}
use Rattle.mb_unforged.proofs.Ready.{IsReady, ready, given_fits}
use Rattle.mb_audit.specs.Stamps.{claims_of, IsStamp}
use Rattle.mb_audit.specs.declared.auditing.Verdict.TheVariants.{Double, Illegal}
use Rattle.mb_audit.specs.Verdicts.{IsVerdict, AreTaken, may_follow}
use Rattle.mb_audit.proofs.Keeping.{in_either}
use Rattle.mb_audited.specs.Blame.{given_to, AccusesRightly, AuditsAccuseRightly}

-- ---- members

pub in_turned : {A : Type 0} (l : List A) (x : A) → In (reverse l) x → In l x
in_turned [] x i = i
in_turned {A} (y ∷ l) x i = elim (in_either (reverse l) (y ∷ []) x (subst (λ (z : List A). In z x) (reverse-append (y ∷ []) l) i)) [
  | inl before ↦ inr (in_turned l x before)
  | inr (inl is) ↦ inl is
  | inr (inr none) ↦ absurd none
]

pub from_flat : {A B : Type 0} (f : A → List B) (l : List A) (y : B) → In (flat_map f l) y → (x : A) × (In l x) × (In (f x) y)
from_flat f [] y i = absurd i
from_flat f (x ∷ l) y i = elim (in_either (f x) (flat_map f l) y i) [
  | inl here ↦ (x, inl refl, here)
  | inr later ↦ let r = from_flat f l y later in (r.0, inr r.1, r.2)
]

-- ---- lists that end alike

pub same_end : {A : Type 0} (a b x y : List A) → a ++ x ≡ b ++ y → length x ≡ length y → x ≡ y
same_end [] [] x y e l = e
same_end [] (c ∷ b) x y e l = absurd (omega (arith, ap length e, length-append b y, l))
same_end (c ∷ a) [] x y e l = absurd (omega (arith, ap length e, length-append a x, l))
same_end {A} (c ∷ a) (d ∷ b) x y e l = same_end a b x y (rest c d (a ++ x) (b ++ y) e) l where
  rest : (c d : A) (u v : List A) → c ∷ u ≡ d ∷ v → u ≡ v
  rest c d u v e = cc

-- ---- what is read of the bytes that were stamped

-- What is read at a counter stands there, where all of the list has the values of the grammar.
read_said : (s : Shape) → IsShape s → (l : List Bare) → AllByRecursion (FitsBare s) l → (n : ℕ) (m : Bare) → option_and_then (bare_of_bytes s) (at_counter (map bare_bytes l) n) ≡ Some m → at_counter l n ≡ Some m
read_said s shape [] fits n m e = absurd (none-some m e)
read_said s shape (b ∷ l) fits n m e = elim (cases_Bool (eqb n (length l + 1))) [
  | inl same ↦
      let read : bare_of_bytes s (bare_bytes b) ≡ Some m = rw (length-map l bare_bytes, same) at e in
      rw same (sym (bare_again s shape b fits.0) ∙ read)
  | inr other ↦ rw other (read_said s shape l fits.1 n m (rw (length-map l bare_bytes, other) at e))
]

module _ {S : Type 0} (system : System S) (w : World) (r : IsReady system w) (id : ℕ) where
  -- that the host stamped this at this counter, as was shown
  abbrev claim : ℕ → ℕ → Bare → Bytes → Claim
  claim host counter m cert = record { host = host; counter = counter; says = m; cert = cert }

  abbrev Shown : ℕ → ℕ → Bare → Type 0
  Shown = IsStamp system.schedule.shape system.schedule.secret (given_to system w id)

  abbrev Taken : ℕ → List Bare → Type 0
  Taken = AreTaken system.schedule.shape system.schedule.secret (given_to system w id)

  -- What verifies in what was given was issued.
  stamp_issued : (host counter : ℕ) (m : Bare) (s : Shown host counter m) → issued system.schedule w (claim host counter m s.cert) ≡ true
  stamp_issued host counter m s =
      let c : Claim = claim host counter m s.cert in
      let at = from_flat (claims_of system.schedule.shape) (given_to system w id) c (in_contained _ c s.among) in
      by at.0 (in_turned (w.given id) at.0 at.1) (read system.schedule at.0) refl at.2 where
        by : (bytes : Bytes) → In (w.given id) bytes → (o : Option Message) → read system.schedule bytes ≡ o → In (inside_some (claims_in system.schedule.shape) o) (claim host counter m s.cert)
            → issued system.schedule w (claim host counter m s.cert) ≡ true
        by bytes given None is i = absurd i
        by bytes given (Some x) is i =
            let there : IsGivenTo system.schedule w id x = record { bytes = bytes; delivered = given; reads = is } in
            (r.standing.clean id x there).issues (claim host counter m s.cert) i s.certified

  -- So no host has two messages at one counter.
  one_message : (host counter : ℕ) (a b : Bare) → Shown host counter a → Shown host counter b → a ≡ b
  one_message host counter a b s t =
      some_is a b (sym (says system.schedule.shape (stamps system.schedule w) (claim host counter a s.cert) (stamp_issued host counter a s))
      ∙ says system.schedule.shape (stamps system.schedule w) (claim host counter b t.cert) (stamp_issued host counter b t))

  -- ---- of a correct host

  module _ (host : ℕ) (correct : IsCorrect system.schedule host) where
    abbrev own : List Bare
    own = said (w.histories host)

    fits : AllByRecursion (FitsBare system.schedule.shape) own
    fits = own_fits system w r.shape r.standing r.numbered (given_fits system w) r.low r.arises host correct

    stands : (counter : ℕ) (m : Bare) → Shown host counter m → at_counter own counter ≡ Some m
    stands counter m s =
        let told : option_and_then (bare_of_bytes system.schedule.shape) (at_counter (stamps system.schedule w host) counter) ≡ Some m =
        says system.schedule.shape (stamps system.schedule w) (claim host counter m s.cert) (stamp_issued host counter m s) in
        read_said system.schedule.shape r.shape own fits counter m (rw correct.1 at told)

    -- the next one behind a beginning
    goes_on : (l : List Bare) (m : Bare) → IsBeginning l own → at_counter own (length l + 1) ≡ Some m → IsBeginning (m ∷ l) own
    goes_on l m b at =
        let s : StandsAt own (length l + 1) m = at_split own (length l + 1) m at in
        let same : s.before ≡ l = same_end (s.later ++ m ∷ []) b.later s.before l (joined s.later s.before ∙ s.is ∙ sym b.is) (let n = s.counter in omega arith) in
        record { later = s.later; is = ap (λ (x : List Bare). s.later ++ m ∷ x) (sym same) ∙ s.is } where
          joined : (a b : List Bare) → (a ++ m ∷ []) ++ b ≡ a ++ m ∷ b
          joined [] b = refl
          joined (y ∷ a) b = ap (λ (z : List Bare). y ∷ z) (joined a b)

    is_beginning : (l : List Bare) → Taken host l → IsBeginning l own
    is_beginning [] t = record { later = own; is = none own } where
      none : (l : List Bare) → l ++ [] ≡ l
      none [] = refl
      none (x ∷ l) = ap (λ (z : List Bare). x ∷ z) (none l)
    is_beginning (m ∷ l) t = goes_on l m (is_beginning l t.2) (stands (length l + 1) m t.0.stamped)

    -- Each message may stand there.
    may_stand : (l : List Bare) (m : Bare) → Taken host l → Shown host (length l + 1) m → may_follow system.schedule.shape system.schedule.secret (given_to system w id) host l m ≡ true
    may_stand l m t s =
        let inner : Bare → Bool = inner_valid system.schedule.shape (verifies system.schedule.secret) in
        let b : IsBeginning (m ∷ l) own = goes_on l m (is_beginning l t) (stands (length l + 1) m s) in
        let ordered : is_ordered initial_floor system.schedule.shape host inner own ≡ true = (steady (self_of system host) (w.histories host) (r.arises host)).list.ordered in
        head initial_floor system.schedule.shape host inner m l (ordered_before initial_floor system.schedule.shape host inner b.later (m ∷ l)
        (subst (λ (x : List Bare). is_ordered initial_floor system.schedule.shape host inner x ≡ true) (sym b.is) ordered))

  pub accuses_rightly : AccusesRightly system w id
  accuses_rightly = record { single = single; guilty = guilty } where
    single : (host counter : ℕ) → IsVerdict system.schedule.shape system.schedule.secret (given_to system w id) host (Double counter) → ⊥
    single host counter v =
        let t = v.next.1 in
        t.4 (ap bare_bytes (one_message host counter t.0 t.1 t.2 t.3))

    guilty : (host counter rule : ℕ) → host < host_count system.schedule.shape → IsVerdict system.schedule.shape system.schedule.secret (given_to system w id) host (Illegal counter rule)
        → is_faulty system.schedule host ≡ true
    guilty host counter rule there v = elim (cases_Bool (is_faulty system.schedule host)) [
      | inl faulty ↦ faulty
      | inr honest ↦
          let t = v.next.1 in
          absurd (not_both _ (may_stand host (there, honest) v.before t.0 v.taken (subst (λ c. Shown host c t.0) v.next.0 t.1.stamped)) t.2)
    ]

pub audits_accuse_rightly : (S : Type 0) → AuditsAccuseRightly S
audits_accuse_rightly S system k none id correct = accuses_rightly system (world system k) (ready system k none) id
