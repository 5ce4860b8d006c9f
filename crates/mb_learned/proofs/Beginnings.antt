-- The list that byte strings show of a host is a beginning of its ordered prefix in the world.
--
-- What is first at a counter was issued. So behind a beginning it stands where the prefix goes on; and right behind the whole prefix nothing may stand
-- that was issued.
use Rattle.std.proofs.Common.{◌≡◌, ℕ, ◌+◌, ◌<◌, ◌≤◌, ◌⊎◌, true, List, [], ◌∷◌, ◌++◌, length, find, Option, Some, None, option_map, refl, sym, ap, subst, ◌∙◌, inl, inr, arith, length-append}
use Rattle.std.specs.Prelude.{◌==◌}
use Rattle.std.proofs.lemmas.Bool.{and_parts, eqb-true, cases_lt}
use Rattle.mb_base.specs.Shapes.{Bytes}
use Rattle.mb_parts.specs.Bares.{Bare}
use Rattle.mb_parts.specs.CheckedCertificates.{Carries}
use Rattle.mb_parts.specs.Certificates.{inner_valid}
use Rattle.mb_parts.specs.Claims.{Claim, inner_claims}
use Rattle.mb_parts.specs.Counters.{at_counter, IsBeginning}
use Rattle.mb_parts.specs.Ordered.{initial_floor, permits}
use Rattle.mb_parts.proofs.CertificateLaws.{permits_more, inner_more}
use Rattle.mb_parts.proofs.Counters.{StandsAt, at_split}
use Rattle.mb_msg.specs.declared.message.Message.{Message}
use Rattle.mb_model.specs.Compared.{inside_some}
use Rattle.mb_model.specs.Verified.{verifies}
use Rattle.mb_model.specs.Members.{In}
use Rattle.mb_model.proofs.Members.{in_contained, contained}
use Rattle.mb_model.specs.Inside.{claims_in}
use Rattle.mb_world_model.specs.World.{World, System, read}
use Rattle.mb_world_model.specs.WorldRecord.{issued, prefix, IsConsistent}
use Rattle.mb_world_laws.proofs.Facts.{Facts}
use Rattle.mb_world_laws.proofs.Grown.{IsGivenTo}
use Rattle.mb_audit.specs.Stamps.{claims_of, claims_among}
use Rattle.mb_audited.specs.Blame.{given_to}
use Rattle.mb_audited.proofs.Blame.{in_turned, from_flat, same_end}
use Rattle.mb_learn.specs.Lists.{is_at, first_of, first_among, AreInOrder, IsList}
use Rattle.mb_learned.specs.Learned.{WereGiven}
use Rattle.mb_learn.proofs.Finds.{found_there}
use Rattle.mb_learned.proofs.GivenClaims.{among_closed, carried_over}

-- what is first is what a certificate says that verifies
pub record IsFirst (secret : Bytes) (l : List Claim) (host counter : ℕ) (m : Bare) : Type 0 where
  pub claim : Claim
  pub among : In l claim
  pub host_is : claim.host ≡ host
  pub counter_is : claim.counter ≡ counter
  pub says_is : claim.says ≡ m
  pub certified : verifies secret claim ≡ true

pub is_first : (secret : Bytes) (l : List Claim) (host counter : ℕ) (m : Bare) → first_of secret l host counter ≡ Some m → IsFirst secret l host counter m
is_first secret l host counter m e = by (find (is_at secret l host counter) l) refl e where
  by : (o : Option Claim) → find (is_at secret l host counter) l ≡ o → option_map (λ (c : Claim). c.says) o ≡ Some m → IsFirst secret l host counter m
  by None none e = absurd cc
  by (Some c) found e =
      let there = found_there (is_at secret l host counter) l c found in
      let a = and_parts (c.host == host) _ there.1 in
      let b = and_parts (c.counter == counter) (verifies secret c) a.1 in
      record { claim = c; among = there.0; host_is = eqb-true c.host host a.0; counter_is = eqb-true c.counter counter b.0; says_is = some_is c.says m e; certified = b.1 } where
        some_is : (x y : Bare) → Some x ≡ Some y → x ≡ y
        some_is x y e = cc

pub joined : {A : Type 0} (a : List A) (m : A) (b : List A) → (a ++ m ∷ []) ++ b ≡ a ++ m ∷ b
joined [] m b = refl
joined (y ∷ a) m b = ap (λ z. y ∷ z) (joined a m b)

none_behind : {A : Type 0} (l : List A) → l ++ [] ≡ l
none_behind [] = refl
none_behind (x ∷ l) = ap (λ z. x ∷ z) (none_behind l)

-- the next one behind a beginning
goes_on : (whole l : List Bare) (m : Bare) → IsBeginning l whole → at_counter whole (length l + 1) ≡ Some m → IsBeginning (m ∷ l) whole
goes_on whole l m b at =
    let s : StandsAt whole (length l + 1) m = at_split whole (length l + 1) m at in
    let same : s.before ≡ l = same_end (s.later ++ m ∷ []) b.later s.before l (joined s.later m s.before ∙ s.is ∙ sym b.is) (let n = s.counter in omega arith) in
    record { later = s.later; is = ap (λ (x : List Bare). s.later ++ m ∷ x) (sym same) ∙ s.is }

-- a beginning that is as long as the whole
whole_is : (l whole : List Bare) → IsBeginning l whole → length whole ≤ length l → l ≡ whole
whole_is l whole b le = by b.later b.is where
  by : (later : List Bare) → later ++ l ≡ whole → l ≡ whole
  by [] is = is
  by (x ∷ later) is = let n = ap (λ (y : List Bare). length y) is in let long = length-append later l in absurd (omega (arith, n, long, le))

module _ {S : Type 0} (system : System S) (w : World) (f : Facts system w) (facts : IsConsistent system.schedule w) (id : ℕ) (taken : List Bytes) (were : WereGiven system w id taken) where
  -- What verifies in it was issued.
  pub claim_issued : (c : Claim) → In (claims_among system.schedule.shape taken) c → verifies system.schedule.secret c ≡ true → issued system.schedule w c ≡ true
  claim_issued c i so =
      let at = from_flat (claims_of system.schedule.shape) taken c i in
      let there = in_turned (w.given id) at.0 (in_contained (given_to system w id) at.0 (were at.0 (contained taken at.0 at.1))) in
      by at.0 there (read system.schedule at.0) refl at.2 where
        by : (bytes : Bytes) → In (w.given id) bytes → (o : Option Message) → read system.schedule bytes ≡ o → In (inside_some (claims_in system.schedule.shape) o) c → issued system.schedule w c ≡ true
        by bytes given None is j = absurd j
        by bytes given (Some x) is j =
            let given_it : IsGivenTo system.schedule w id x = record { bytes = bytes; delivered = given; reads = is } in
            (f.standing.clean id x given_it).issues c j so

  module _ (host : ℕ) where
    -- The next message stands there in the prefix.
    stands : (l : List Bare) (m : Bare) → IsBeginning l (prefix system.schedule w host) → first_among system.schedule.shape system.schedule.secret taken host (length l + 1) ≡ Some m
        → permits initial_floor system.schedule.shape host (inner_valid system.schedule.shape (verifies system.schedule.secret)) l m ≡ true → at_counter (prefix system.schedule w host) (length l + 1) ≡ Some m
    stands l m b is may =
        let x = is_first system.schedule.secret (claims_among system.schedule.shape taken) host (length l + 1) m is in
        let made = claim_issued x.claim x.among x.certified in
        by x made (cases_lt (length l) (length (prefix system.schedule w host))) where
          by : (x : IsFirst system.schedule.secret (claims_among system.schedule.shape taken) host (length l + 1) m) → issued system.schedule w x.claim ≡ true → (length l < length (prefix system.schedule w host)) ⊎ (length (prefix system.schedule w host) ≤ length l)
              → at_counter (prefix system.schedule w host) (length l + 1) ≡ Some m
          by x made (inl lt) =
              let at = x.counter_is in
              let short : x.claim.counter ≤ length (prefix system.schedule w x.claim.host) = subst (λ (h : ℕ). x.claim.counter ≤ length (prefix system.schedule w h)) (sym x.host_is) (omega (arith, at, lt)) in
              let there : at_counter (prefix system.schedule w x.claim.host) x.claim.counter ≡ Some x.claim.says = facts.stands x.claim made short in
              ap (λ (h : ℕ). at_counter (prefix system.schedule w h) (length l + 1)) (sym x.host_is) ∙ (ap (at_counter (prefix system.schedule w x.claim.host)) (sym x.counter_is) ∙ (there ∙ ap (λ (y : Bare). Some y) x.says_is))
          by x made (inr le) =
              let same : l ≡ prefix system.schedule w host = whole_is l (prefix system.schedule w host) b le in
              let inner : Carries (verifies system.schedule.secret) (issued system.schedule w) (inner_claims system.schedule.shape m) =
              subst (λ (y : Bare). Carries (verifies system.schedule.secret) (issued system.schedule w) (inner_claims system.schedule.shape y)) x.says_is
              (carried_over system.schedule.shape (verifies system.schedule.secret) (issued system.schedule w) (claims_among system.schedule.shape taken) (among_closed system.schedule.shape taken) claim_issued x.claim x.among) in
              let may_issued : permits initial_floor system.schedule.shape host (inner_valid system.schedule.shape (issued system.schedule w)) l m ≡ true =
              permits_more initial_floor system.schedule.shape host (inner_valid system.schedule.shape (verifies system.schedule.secret)) (inner_valid system.schedule.shape (issued system.schedule w)) l m
              (inner_more system.schedule.shape (verifies system.schedule.secret) (issued system.schedule w) m inner) may in
              absurd (facts.maximal x.claim made (x.counter_is ∙ (ap (λ (y : List Bare). length y + 1) same ∙ ap (λ (h : ℕ). length (prefix system.schedule w h) + 1) (sym x.host_is)))
              (subst (λ (h : ℕ). permits initial_floor system.schedule.shape h (inner_valid system.schedule.shape (issued system.schedule w)) (prefix system.schedule w h) x.claim.says ≡ true) (sym x.host_is)
              (subst (λ (y : Bare). permits initial_floor system.schedule.shape host (inner_valid system.schedule.shape (issued system.schedule w)) (prefix system.schedule w host) y ≡ true) (sym x.says_is)
              (subst (λ (y : List Bare). permits initial_floor system.schedule.shape host (inner_valid system.schedule.shape (issued system.schedule w)) y m ≡ true) same may_issued))))

    in_order_begins : (l : List Bare) → AreInOrder system.schedule.shape system.schedule.secret host (first_among system.schedule.shape system.schedule.secret taken host) l → IsBeginning l (prefix system.schedule w host)
    in_order_begins [] o = record { later = prefix system.schedule w host; is = none_behind (prefix system.schedule w host) }
    in_order_begins (m ∷ l) o = let b = in_order_begins l o.2 in goes_on (prefix system.schedule w host) l m b (stands l m b o.0 o.1)

    -- So the list begins there.
    pub list_begins : (l : List Bare) → IsList system.schedule.shape system.schedule.secret host (first_among system.schedule.shape system.schedule.secret taken host) l → IsBeginning l (prefix system.schedule w host)
    list_begins l is = in_order_begins l is.in_order
