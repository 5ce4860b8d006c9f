-- A certificate is valid exactly where it has as many members as asked for, and none of them fails.
use Rattle.std.proofs.Common.{◌≡◌, ℕ, zero, suc, ◌<◌, ◌≤◌, Bool, true, false, ◌&&◌, ◌||◌, not, List, [], ◌∷◌, length, map, Option, Some, None, refl, sym, ap, ◌∙◌, inl, inr, arith}
use Rattle.std.specs.Prelude.{nat_lt, is_some, ◌==◌, if◌then◌else◌}
use Rattle.std.specs.List.{list_all}
use Rattle.std.proofs.Math.Nat.{eq-zero-or-pos}
use Rattle.std.proofs.lemmas.Bool.{and_parts, eq-eqb, ne_eqb, eqb-true, lt-ltb, le-ltb}
use Rattle.sha2.specs.Sha256.{sha256}
use Rattle.mb_base.specs.Shapes.{quorum, max_faults, primary}
use Rattle.mb_base.specs.declared.shape.Shape.{Shape}
use Rattle.mb_parts.specs.declared.floor.Floor.{Floor}
use Rattle.mb_parts.specs.declared.certificates.StableCert.{StableCert}
use Rattle.mb_parts.specs.declared.certificates.FloorCert.{FloorCert}
use Rattle.mb_parts.specs.declared.certificates.FloorMember.{FloorMember}
use Rattle.mb_parts.specs.Spelling.{floors_bytes}
use Rattle.mb_parts.specs.Bares as bare
use Rattle.mb_parts.specs.declared.certificates.EvidenceMember.{EvidenceMember}
use Rattle.mb_parts.specs.declared.certificates.Evidence.{Evidence}
use Rattle.mb_parts.specs.Claims.{Claim, are_rising, stable_claims, floor_claims, new_view_claim, evidence_claims}
use Rattle.mb_parts.specs.Certificates.{is_stable, floor_for, first_floor, same_floor, certified_floor, agree_on_floor, is_evidence}
use Rattle.mb_cert.specs.declared.fault.Why.{Why}
use Rattle.mb_cert.specs.declared.fault.CertFault.{CertFault}
use Rattle.mb_cert.specs.Faults.{rises_at, passes_at, IsFirstOf}
use Rattle.mb_cert.specs.Checks.{members_at, stable_reason, floor_reason, evidence_reason}
use Rattle.mb_cert.proofs.Firsts.{all_pass, each_passes, all_hosts_rise, each_host_rises, all_mapped_pass, where_none, where_none-three, isnt, none-some}

-- no member fails
abbrev pub NoneFails : ℕ → (ℕ → Option Why) → Type 0
NoneFails count reason = (i : ℕ) → i < count → reason i ≡ None

-- Where one fails, it isn't so that none does.
pub one_fails : (count : ℕ) (reason : ℕ → Option Why) (fault : CertFault) → IsFirstOf count reason fault → NoneFails count reason → ⊥
one_fails count reason fault first none = none-some fault.why (sym (none fault.index first.within) ∙ first.fails)

-- ---- stable certificates, by what is asked of them

by_position : (pos count q : ℕ) (rise all : Bool) → count ≡ (if pos == 0 then 0 else q) → rise ≡ true → all ≡ true
    → ((pos == 0 && count == 0) || (nat_lt 0 pos && (count == q && (rise && all)))) ≡ true
by_position zero count q rise all same r a = rw same refl
by_position (suc pos) count q rise all same r a =
    let other : (suc pos == 0) ≡ false = ne_eqb (suc pos) 0 (λ e. absurd (omega (arith, e))) in
    let is : count ≡ q = same ∙ ap (λ b. if b then 0 else q) other in
    rw (other, lt-ltb 0 (suc pos) (omega arith), eq-eqb count q is, r, a) refl

-- what a valid one has
pub record AsAsked (pos count q : ℕ) (rise all : Bool) : Type 0 where
  pub count_is : count ≡ (if pos == 0 then 0 else q)
  pub members : 0 < count → (rise ≡ true) × (all ≡ true)

only_first : (b : Bool) → (b || false) ≡ true → b ≡ true
only_first true e = refl
only_first false e = e

asked_for : (pos count q : ℕ) (rise all : Bool) → ((pos == 0 && count == 0) || (nat_lt 0 pos && (count == q && (rise && all)))) ≡ true → AsAsked pos count q rise all
asked_for zero count q rise all valid =
    let none : count ≡ 0 = eqb-true count 0 (only_first (count == 0) valid) in
    record { count_is = none; members = λ some. absurd (omega (arith, some, none)) }
asked_for (suc pos) count q rise all valid =
    let other : (suc pos == 0) ≡ false = ne_eqb (suc pos) 0 (λ e. absurd (omega (arith, e))) in
    let all_of : (nat_lt 0 (suc pos) && (count == q && (rise && all))) ≡ true = rw other at valid in
    let rest = and_parts _ _ (and_parts _ _ all_of).1 in
    record {
      count_is = rw other (eqb-true count q rest.0);
      members = λ some. and_parts _ _ rest.1;
    }

module _ (s : Shape) (valid : Claim → Bool) (c : StableCert) where
  abbrev rise : Bool
  rise = are_rising (map (λ m. m.host) c.members)

  abbrev all : Bool
  all = list_all valid (stable_claims c)

  pub stable_holds : length c.members ≡ members_at s c.pos → NoneFails (length c.members) (stable_reason valid c) → is_stable s valid c ≡ true
  unfolding is_stable
  stable_holds same none =
      by_position c.pos (length c.members) (quorum s) rise all same
      (all_hosts_rise c.members (λ m. m.host) (λ i lt. (where_none (rises_at (map (λ m. m.host) c.members) i) (passes_at valid (stable_claims c) i) _ _ (none i lt)).0))
      (all_mapped_pass c.members _ valid (λ i lt. (where_none (rises_at (map (λ m. m.host) c.members) i) (passes_at valid (stable_claims c) i) _ _ (none i lt)).1))

  asked : is_stable s valid c ≡ true → AsAsked c.pos (length c.members) (quorum s) rise all
  unfolding is_stable
  asked is = asked_for c.pos (length c.members) (quorum s) rise all is

  -- a valid one is as asked for
  pub stable_count : is_stable s valid c ≡ true → length c.members ≡ members_at s c.pos
  stable_count is = (asked is).count_is

  pub stable_none : is_stable s valid c ≡ true → NoneFails (length c.members) (stable_reason valid c)
  stable_none is i lt =
      let m = (asked is).members (omega (arith, lt)) in
      rw (each_host_rises c.members (λ m. m.host) m.0 i lt, each_passes valid (stable_claims c) m.1 i) refl

-- ---- floor certificates

-- the floor that is there, where all agree on it
some_floor : (o : Option Floor) → same_floor o o ≡ true → is_some o ≡ true
some_floor (Some f) e = refl
some_floor None e = e

where_some : {A : Type 0} (b : Bool) (o : Option A) (x : A) → (if b then o else None) ≡ Some x → b ≡ true
where_some true o x e = refl
where_some false o x e = absurd cc

first_agrees : (owner : ℕ) (ms : List FloorMember) → 0 < length ms → passes_at (λ m. same_floor (first_floor owner ms) (floor_for owner m)) ms 0 ≡ true → is_some (first_floor owner ms) ≡ true
first_agrees owner [] there e = absurd (omega (arith, there))
first_agrees owner (m ∷ ms) there e = some_floor (floor_for owner m) e

module _ (s : Shape) (valid : Claim → Bool) (owner : ℕ) (c : FloorCert) where
  abbrev floors_rise : ℕ → Bool
  floors_rise i = rises_at (map (λ m. m.host) c.members) i

  abbrev floor_passes : ℕ → Bool
  floor_passes i = passes_at valid (floor_claims c) i

  abbrev same_as_first : FloorMember → Bool
  same_as_first m = same_floor (first_floor owner c.members) (floor_for owner m)

  parts_of : NoneFails (length c.members) (floor_reason valid owner c) → (i : ℕ) → i < length c.members → (floors_rise i ≡ true) × (floor_passes i ≡ true) × (passes_at same_as_first c.members i ≡ true)
  parts_of none i lt = where_none-three (floors_rise i) (floor_passes i) (passes_at same_as_first c.members i) _ _ _ (none i lt)

  agrees : length c.members ≡ quorum s → NoneFails (length c.members) (floor_reason valid owner c) → agree_on_floor s valid owner c ≡ true
  agrees same none =
      let rise = all_hosts_rise c.members (λ m. m.host) (λ i lt. (parts_of none i lt).0) in
      let claims : list_all valid (floor_claims c) ≡ true = all_mapped_pass c.members _ valid (λ i lt. (parts_of none i lt).1) in
      let floors = all_pass same_as_first c.members (λ i lt. (parts_of none i lt).2) in
      rw (eq-eqb (length c.members) (quorum s) same, rise, claims, floors) refl

  pub floor_holds : length c.members ≡ quorum s → NoneFails (length c.members) (floor_reason valid owner c) → certified_floor s valid owner c ≡ first_floor owner c.members
  unfolding certified_floor
  floor_holds same none = rw (agrees same none) refl

  -- what agreeing means, by its parts
  pub record AgreesBy : Type 0 where
    pub count : length c.members ≡ quorum s
    pub rise : are_rising (map (λ m. m.host) c.members) ≡ true
    pub claims : list_all valid (floor_claims c) ≡ true
    pub floors : list_all same_as_first c.members ≡ true

  agreed : (f : Floor) → certified_floor s valid owner c ≡ Some f → AgreesBy
  unfolding certified_floor
  agreed f is =
      let all = where_some (agree_on_floor s valid owner c) (first_floor owner c.members) f is in
      let one = and_parts (length c.members == quorum s) _ all in
      let two = and_parts (are_rising (map (λ m. m.host) c.members)) _ one.1 in
      let three = and_parts (list_all valid (floor_claims c)) (list_all same_as_first c.members) two.1 in
      record { count = eqb-true (length c.members) (quorum s) one.0; rise = two.0; claims = three.0; floors = three.1 }

  pub floor_count : (f : Floor) → certified_floor s valid owner c ≡ Some f → length c.members ≡ quorum s
  floor_count f is = (agreed f is).count

  pub floor_none : (f : Floor) → certified_floor s valid owner c ≡ Some f → NoneFails (length c.members) (floor_reason valid owner c)
  floor_none f is i lt =
      let by = agreed f is in
      rw (each_host_rises c.members (λ m. m.host) by.rise i lt, each_passes valid (floor_claims c) by.claims i, each_passes same_as_first c.members by.floors i) refl

  -- With f+1 members that agree, the first has a floor.
  pub floor_there : length c.members ≡ quorum s → NoneFails (length c.members) (floor_reason valid owner c) → is_some (first_floor owner c.members) ≡ true
  floor_there same none =
      let here : 0 < length c.members = omega (arith, same) in
      first_agrees owner c.members here (parts_of none 0 here).2

  pub floor_is : (f : Floor) → length c.members ≡ quorum s → NoneFails (length c.members) (floor_reason valid owner c) → first_floor owner c.members ≡ Some f → certified_floor s valid owner c ≡ Some f
  floor_is f same none is = floor_holds same none ∙ is

-- ---- evidence

module _ (s : Shape) (valid : Claim → Bool) (e : Evidence) where
  abbrev is_backup : EvidenceMember → Bool
  is_backup m = not (m.host == primary s e.view)

  abbrev enter_claim : EvidenceMember → Claim
  enter_claim m = record { host = m.host; counter = m.counter; says = bare.Enter e.view e.counter e.plan; cert = m.cert }

  abbrev member_passes : ℕ → Bool
  member_passes i = passes_at valid (map enter_claim e.members) i

  abbrev rises_as_backup : ℕ → Bool
  rises_as_backup i = rises_at (map (λ m. m.host) e.members) i && passes_at is_backup e.members i

  parts : NoneFails (length e.members) (evidence_reason s valid e) → (i : ℕ) → i < length e.members → (rises_as_backup i ≡ true) × (member_passes i ≡ true)
  parts none i lt = where_none (rises_as_backup i) (member_passes i) _ _ (none i lt)

  pub evidence_holds : valid (new_view_claim s e) ≡ true → length e.members ≡ max_faults s → NoneFails (length e.members) (evidence_reason s valid e) → is_evidence s valid e ≡ true
  unfolding is_evidence
  evidence_holds announced same none =
      let rise = all_hosts_rise e.members (λ m. m.host) (λ i lt. (and_parts (rises_at (map (λ m. m.host) e.members) i) _ (parts none i lt).0).0) in
      let back = all_pass is_backup e.members (λ i lt. (and_parts _ (passes_at is_backup e.members i) (parts none i lt).0).1) in
      let claims = all_mapped_pass e.members enter_claim valid (λ i lt. (parts none i lt).1) in
      rw (eq-eqb (length e.members) (max_faults s) same, rise, back, announced, claims) refl

  -- what valid evidence has
  pub record EvidencedBy : Type 0 where
    pub count : length e.members ≡ max_faults s
    pub rise : are_rising (map (λ m. m.host) e.members) ≡ true
    pub back : list_all is_backup e.members ≡ true
    pub announced : valid (new_view_claim s e) ≡ true
    pub claims : list_all valid (map enter_claim e.members) ≡ true

  pub evidenced : is_evidence s valid e ≡ true → EvidencedBy
  unfolding is_evidence
  evidenced is =
      let one = and_parts (length e.members == max_faults s) _ is in
      let two = and_parts (are_rising (map (λ m. m.host) e.members)) _ one.1 in
      let three = and_parts (list_all is_backup e.members) (list_all valid (evidence_claims s e)) two.1 in
      let four = and_parts (valid (new_view_claim s e)) (list_all valid (map enter_claim e.members)) three.1 in
      record { count = eqb-true (length e.members) (max_faults s) one.0; rise = two.0; back = three.0; announced = four.0; claims = four.1 }

  pub evidence_none : is_evidence s valid e ≡ true → NoneFails (length e.members) (evidence_reason s valid e)
  evidence_none is i lt =
      let by = evidenced is in
      rw (each_host_rises e.members (λ m. m.host) by.rise i lt, each_passes is_backup e.members by.back i, each_passes valid (map enter_claim e.members) by.claims i) refl
