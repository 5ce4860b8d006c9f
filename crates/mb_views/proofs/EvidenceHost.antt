-- Issued evidence names a correct host: the primary, which stamped the NEW_VIEW, or a backup, which stamped an ENTER that answers it.
use Rattle.std.proofs.Common.{◌≡◌, ℕ, ◌<◌, Bool, true, false, ◌||◌, List, [], ◌∷◌, length, refl, sym, subst, ◌∙◌, inl, inr, ◌⊎◌, eqb, arith, mod-lt}
use Rattle.std.specs.Prelude.{map, not, ◌==◌}
use Rattle.std.specs.List.{AllByRecursion, list_all}
use Rattle.std.proofs.lemmas.Bool.{and_parts, cases_Bool, eqb-true, eqb-false, cases_lt}
use Rattle.mb_base.specs.Shapes.{host_count, primary, HasQuorum, max_faults}
use Rattle.mb_parts.specs.declared.certificates.Evidence.{Evidence}
use Rattle.mb_parts.specs.declared.certificates.EvidenceMember.{EvidenceMember}
use Rattle.mb_parts.specs.Bares.{Bare}
use Rattle.mb_parts.specs.Bares as bare
use Rattle.mb_parts.specs.Claims.{Claim, are_rising, new_view_claim, evidence_claims}
use Rattle.mb_parts.specs.Certificates.{is_evidence}
use Rattle.mb_parts.specs.Issued.{is_issued}
use Rattle.mb_model.specs.Members.{In}
use Rattle.mb_model.proofs.Members.{any_in, in_map}
use Rattle.mb_model.proofs.Quorums.{quorum_has_correct}
use Rattle.mb_schedule.specs.Limits.{is_faulty}
use Rattle.mb_world_model.specs.WorldEvents.{IsCorrect}
use Rattle.mb_world_model.specs.World.{World, System, stamps}
use Rattle.mb_world_model.specs.WorldRecord.{issued}
use Rattle.mb_host_laws.proofs.Cases.{all_holds, not_true}
use Rattle.mb_world_laws.proofs.Facts.{Facts}
use Rattle.mb_model.proofs.PlanLaws.{one_more}
use Rattle.mb_views.proofs.CorrectOne.{has_host, as_many}

module _ {S : Type 0} (system : System S) (w : World) (f : Facts system w) where
  unissued : (c : Claim) → stamps system.schedule w c.host ≡ [] → issued system.schedule w c ≡ true → ⊥
  unfolding is_issued
  unissued c none e = absurd (no (rw none at e)) where
    no : false ≡ true → ⊥
    no e = absurd cc

  -- What is issued is of a host that is there.
  pub issued_host : (c : Claim) → issued system.schedule w c ≡ true → c.host < host_count system.schedule.shape
  issued_host c e = elim (cases_lt c.host (host_count system.schedule.shape)) [
    | inl lt ↦ lt
    | inr ge ↦ absurd (unissued c (f.nobody c.host ge) e)
  ]

  -- The correct host: the primary, or a member with its ENTER.
  pub record IsBackup (e : Evidence) : Type 0 where
    pub member : EvidenceMember
    pub correct : IsCorrect system.schedule member.host
    pub other : member.host ≡ primary system.schedule.shape e.view → ⊥
    pub entered : issued system.schedule w (record { host = member.host; counter = member.counter; says = bare.Enter e.view e.counter e.plan; cert = member.cert }) ≡ true

  pub record HasHost (e : Evidence) : Type 0 where
    pub announced : issued system.schedule w (new_view_claim system.schedule.shape e) ≡ true
    pub one : IsCorrect system.schedule (primary system.schedule.shape e.view) ⊎ IsBackup e

  member_hosts : (e : Evidence) (l : List EvidenceMember) → ((m : EvidenceMember) → In l m → m.host < host_count system.schedule.shape) → AllByRecursion (λ (m : EvidenceMember). m.host < host_count system.schedule.shape) l
  member_hosts e [] g = tt
  member_hosts e (m ∷ l) g = (g m (inl refl), member_hosts e l (λ x i. g x (inr i)))

  none_of : (p : ℕ) (l : List EvidenceMember) → list_all (λ m. not (m.host == p)) l ≡ true → has_host (λ (m : EvidenceMember). m.host) l p ≡ false
  none_of p [] e = refl
  none_of p (m ∷ l) e =
      let a = and_parts (not (m.host == p)) (list_all (λ x. not (x.host == p)) l) e in
      rw (not_true (m.host == p) a.0) (none_of p l a.1)

  pub evidence_host : (e : Evidence) → is_evidence system.schedule.shape (issued system.schedule w) e ≡ true → HasHost e
  unfolding is_evidence
  evidence_host e h =
      let p : ℕ = primary system.schedule.shape e.view in
      let n : ℕ = host_count system.schedule.shape in
      let a = and_parts (length e.members == max_faults system.schedule.shape) _ h in
      let b = and_parts (are_rising (map (λ m. m.host) e.members)) _ a.1 in
      let c = and_parts (list_all (λ m. not (m.host == p)) e.members) (list_all (issued system.schedule w) (evidence_claims system.schedule.shape e)) b.1 in
      let enter : EvidenceMember → Claim = λ m. record { host = m.host; counter = m.counter; says = bare.Enter e.view e.counter e.plan; cert = m.cert } in
      let claims = and_parts (issued system.schedule w (new_view_claim system.schedule.shape e)) (list_all (issued system.schedule w) (map enter e.members)) c.1 in
      let entered : (m : EvidenceMember) → In e.members m → issued system.schedule w (enter m) ≡ true = λ m i. all_holds (issued system.schedule w) (map enter e.members) claims.1 (enter m) (in_map enter e.members m i) in
      let hosts = member_hosts e e.members (λ m i. issued_host (enter m) (entered m i)) in
      let there : ℕ → Bool = has_host (λ (m : EvidenceMember). m.host) e.members in
      let more = one_more there p n (none_of p e.members c.0) (mod-lt e.view {m = n} (omega arith)) in
      let count = as_many (λ (m : EvidenceMember). m.host) n e.members b.0 hosts in
      let q : HasQuorum system.schedule.shape (λ i. (p == i) || there i) = omega (arith, more, count, eqb-true (length e.members) (max_faults system.schedule.shape) a.0) in
      let found = quorum_has_correct system.schedule.shape (λ i. (p == i) || there i) (is_faulty system.schedule) q f.few in
      record {
        announced = claims.0;
        one = elim (cases_Bool (eqb p found.0)) [
          | inl same ↦ inl (subst (λ (i : ℕ). IsCorrect system.schedule i) (sym (eqb-true p found.0 same)) (found.1, not_true (is_faulty system.schedule found.0) found.3))
          | inr others ↦
              let m = any_in (λ x. x.host == found.0) e.members (rw others at found.2) in
              let is : m.0.host ≡ found.0 = eqb-true m.0.host found.0 m.2 in
              inr (record {
                member = m.0;
                correct = subst (λ (i : ℕ). IsCorrect system.schedule i) (sym is) (found.1, not_true (is_faulty system.schedule found.0) found.3);
                other = λ same. eqb-false p found.0 others (sym same ∙ is);
                entered = entered m.0 m.1;
              })
        ];
      }
