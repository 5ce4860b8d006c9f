-- What a gate of a correct host for another has taken was given to the host, message by message, from the start or from a certified floor on, in order.
--
-- An accepted message stands in a delivered one with its certificate, which verifies (`takes_given`); it was permitted, where certificates verify, and
-- those were issued. A floor to which a gate jumped stands with its certificate in a delivered LOG.
use Rattle.std.proofs.Common.{◌≡◌, ℕ, ◌+◌, ◌⊎◌, true, false, List, [], ◌∷◌, length, refl, sym, ap, subst, ◌∙◌, inl, inr, eqb, Some, None}
use Rattle.std.specs.Prelude.{◌==◌, if◌then◌else◌}
use Rattle.std.proofs.lemmas.Bool.{cases_Bool, eqb-true, ne_eqb}
use Rattle.mb_base.specs.declared.names.Ui.{Ui}
use Rattle.mb_parts.specs.declared.floor.Floor.{Floor}
use Rattle.mb_parts.specs.Bares.{Bare}
use Rattle.mb_parts.specs.Claims.{Claim}
use Rattle.mb_parts.specs.Certificates.{inner_valid}
use Rattle.mb_parts.specs.Ordered.{initial_floor, is_ordered, permits}
use Rattle.mb_parts.proofs.CertificateLaws.{permits_more}
use Rattle.mb_parts.proofs.OrderedParts.{ordered_cons}
use Rattle.mb_msg.specs.declared.message.Message.{Message}
use Rattle.mb_msg.specs.declared.message.Message.TheVariants as message
use Rattle.mb_msg.specs.declared.stamped.Stamped.{Stamped as StampedMessage}
use Rattle.mb_msg.specs.declared.stamped.Stamped.TheVariants as stamped
use Rattle.mb_msg.specs.Stamps.{ui_of, bare_of, as_message}
use Rattle.mb_model.specs.Verified.{verifies}
use Rattle.mb_model.specs.Histories.{Accepted, Stamped, Jumped, History, onto, origin, taken_of, gate, stamped as all_stamped}
use Rattle.mb_model.specs.GateChecks.{stamp_claim}
use Rattle.mb_model.specs.Passed.{PassesGate}
use Rattle.mb_steps.specs.OwnLists.{AreNumbered}
use Rattle.mb_model.specs.Members.{In}
use Rattle.mb_model.proofs.Members.{contained}
use Rattle.mb_steps.specs.Arises.{Arises}
use Rattle.mb_model.specs.Inside.{claims_in, floors_in}
use Rattle.mb_world_model.specs.World.{World, System, self_of}
use Rattle.mb_world_model.specs.WorldRecord.{issued}
use Rattle.mb_promise.specs.Justification.{is_sound, IsGiven, IsGivenFloor, AreKnown}
use Rattle.mb_host_laws.specs.Rests.{Rests}
use Rattle.mb_world_laws.proofs.Grown.{IsGivenTo, IsHashed, HasStrings, RestsIn}
use Rattle.mb_host_laws.proofs.PartClaims.{own_claim_in, inner_claim_in, part_claims}
use Rattle.mb_world_laws.proofs.Knows.{carried}
use Rattle.mb_world_laws.proofs.Facts.{Facts}
use Rattle.mb_views.proofs.Prefixes.{valid_checked}

module _ {S : Type 0} (system : System S) (w : World) (f : Facts system w) where
  -- A claim that stands in an accepted message, and verifies, was given.
  pub claim_given : (h : ℕ) (m : Message) (d : History) → Rests (self_of system h) (IsGivenTo system.schedule w h) (IsHashed system.schedule w) (HasStrings system.schedule w) (Accepted m) d
      → (c : Claim) → In (claims_in system.schedule.shape m) c → verifies system.schedule.secret c ≡ true → IsGiven system.schedule w h c
  claim_given h m d r c i v = record {
    bytes = r.0.1.bytes;
    message = r.0.0;
    delivered = contained (w.given h) r.0.1.bytes r.0.1.delivered;
    reads = r.0.1.reads;
    holds = contained (claims_in system.schedule.shape r.0.0) c (part_claims (self_of system h) r.0.0 m r.0.2 c i);
    verifies = v;
  }

  pub record IsGateGiven (h g : ℕ) (o : Floor) (l : List Bare) : Type 0 where
    pub from : (o ≡ initial_floor) ⊎ IsGivenFloor system.schedule w h g o
    pub all : AreKnown system.schedule w h g o.counter l
    pub ordered : is_ordered o system.schedule.shape g (is_sound system.schedule w) l ≡ true

  -- One more is taken.
  pub takes_given : (h g : ℕ) (m : StampedMessage) (d : History) → Rests (self_of system h) (IsGivenTo system.schedule w h) (IsHashed system.schedule w) (HasStrings system.schedule w) (Accepted (as_message m)) d
      → PassesGate (self_of system h) d m → (ui_of m).host ≡ g → IsGateGiven h g (origin d g) (taken_of d g) → IsGateGiven h g (origin d g) (bare_of m ∷ taken_of d g)
  takes_given h g m d r p same x =
      let carries = carried system w f.standing h (as_message m) d r _ (inner_claim_in system.schedule.shape m) in
      let allowed : permits (origin d g) system.schedule.shape g (is_sound system.schedule w) (taken_of d g) (bare_of m) ≡ true =
      subst (λ (k : ℕ). permits (origin d k) system.schedule.shape k (is_sound system.schedule w) (taken_of d k) (bare_of m) ≡ true) same
      (permits_more (origin d (ui_of m).host) system.schedule.shape (ui_of m).host (inner_valid system.schedule.shape (verifies system.schedule.secret)) (is_sound system.schedule w) (taken_of d (ui_of m).host) (bare_of m)
      (valid_checked system.schedule.shape (verifies system.schedule.secret) (issued system.schedule w) (bare_of m) carries) p.permitted) in
      let given : IsGiven system.schedule w h (stamp_claim m) = claim_given h (as_message m) d r (stamp_claim m) (own_claim_in system.schedule.shape m) p.certified in
      let count : (ui_of m).counter ≡ (origin d g).counter + length (taken_of d g) + 1 = p.next ∙ ap (λ (k : ℕ). (gate d k).counter + 1) same in
      record {
        from = x.from;
        all = (inr ((ui_of m).cert, named (ui_of m).host g (ui_of m).counter _ same count given), x.all);
        ordered = ordered_cons (origin d g) system.schedule.shape g (is_sound system.schedule w) (bare_of m) (taken_of d g) allowed x.ordered;
      } where
        named : (a b n k : ℕ) → a ≡ b → n ≡ k → IsGiven system.schedule w h (record { host = a; counter = n; says = bare_of m; cert = (ui_of m).cert })
            → IsGiven system.schedule w h (record { host = b; counter = k; says = bare_of m; cert = (ui_of m).cert })
        named a b n k e c y = rw (← e, ← c) y

  same_host : (h g : ℕ) (o : Floor) (l : List Bare) (u : Ui) (m : Bare) → ((u.host ≡ g) → IsGateGiven h g o (m ∷ l)) → IsGateGiven h g o l → IsGateGiven h g o (onto (if u.host == g then Some m else None) l)
  same_host h g o l u m new old = elim (cases_Bool (eqb u.host g)) [
    | inl same ↦ rw same (new (eqb-true u.host g same))
    | inr other ↦ rw other old
  ]

  jump_given : (h g : ℕ) (o : Floor) (d : History) → Rests (self_of system h) (IsGivenTo system.schedule w h) (IsHashed system.schedule w) (HasStrings system.schedule w) (Jumped g o) d → IsGateGiven h g o []
  unfolding floors_in is_ordered
  jump_given h g o d r = record {
    from = inr (record {
      bytes = r.2.bytes;
      message = message.Log r.0;
      cert = r.1;
      delivered = contained (w.given h) r.2.bytes r.2.delivered;
      reads = r.2.reads;
      holds = contained (floors_in (message.Log r.0)) r.1 (there r.4);
      certifies = r.5;
    });
    all = tt;
    ordered = refl;
  } where
    there : r.0.floor ≡ Some r.1 → In (floors_in (message.Log r.0)) r.1
    there e = rw e (inl refl)

  -- What a gate for another host has taken was given.
  pub gate_given : (h g : ℕ) → (g ≡ h → ⊥) → (d : History) → RestsIn system w h d → Arises (self_of system h) d → AreNumbered (self_of system h) (all_stamped d) → IsGateGiven h g (origin d g) (taken_of d g)
  unfolding origin taken_of all_stamped is_ordered
  gate_given h g other [] r a n = record { from = inl refl; all = tt; ordered = refl }
  gate_given h g other (Accepted (message.Prepare m) ∷ d) r a n = let before = gate_given h g other d r.1 a.1 n in same_host h g (origin d g) (taken_of d g) m.ui (bare_of (stamped.Prepare m)) (λ same. takes_given h g (stamped.Prepare m) d r.0 a.0.gate same before) before
  gate_given h g other (Accepted (message.Commit m) ∷ d) r a n = let before = gate_given h g other d r.1 a.1 n in same_host h g (origin d g) (taken_of d g) m.ui (bare_of (stamped.Commit m)) (λ same. takes_given h g (stamped.Commit m) d r.0 a.0.gate same before) before
  gate_given h g other (Accepted (message.Checkpoint m) ∷ d) r a n = let before = gate_given h g other d r.1 a.1 n in same_host h g (origin d g) (taken_of d g) m.ui (bare_of (stamped.Checkpoint m)) (λ same. takes_given h g (stamped.Checkpoint m) d r.0 a.0.gate same before) before
  gate_given h g other (Accepted (message.ViewChange m) ∷ d) r a n = let before = gate_given h g other d r.1 a.1 n in same_host h g (origin d g) (taken_of d g) m.ui (bare_of (stamped.ViewChange m)) (λ same. takes_given h g (stamped.ViewChange m) d r.0 a.0.gate same before) before
  gate_given h g other (Accepted (message.NewView m) ∷ d) r a n = let before = gate_given h g other d r.1 a.1 n in same_host h g (origin d g) (taken_of d g) m.ui (bare_of (stamped.NewView m)) (λ same. takes_given h g (stamped.NewView m) d r.0 a.0.gate same before) before
  gate_given h g other (Accepted (message.Enter m) ∷ d) r a n = let before = gate_given h g other d r.1 a.1 n in same_host h g (origin d g) (taken_of d g) m.ui (bare_of (stamped.Enter m)) (λ same. takes_given h g (stamped.Enter m) d r.0 a.0.gate same before) before
  gate_given h g other (Accepted (message.Open m) ∷ d) r a n = let before = gate_given h g other d r.1 a.1 n in same_host h g (origin d g) (taken_of d g) m.ui (bare_of (stamped.Open m)) (λ same. takes_given h g (stamped.Open m) d r.0 a.0.gate same before) before
  gate_given h g other (Accepted (message.Join m) ∷ d) r a n = let before = gate_given h g other d r.1 a.1 n in same_host h g (origin d g) (taken_of d g) m.ui (bare_of (stamped.Join m)) (λ same. takes_given h g (stamped.Join m) d r.0 a.0.gate same before) before
  gate_given h g other (Jumped k o ∷ d) r a n = elim (cases_Bool (eqb k g)) [
    | inl same ↦ rw same (jump_given h g o d (subst (λ (i : ℕ). Rests (self_of system h) (IsGivenTo system.schedule w h) (IsHashed system.schedule w) (HasStrings system.schedule w) (Jumped i o) d) (eqb-true k g same) r.0))
    | inr others ↦ rw others (gate_given h g other d r.1 a.1 n)
  ]
  gate_given h g other (Stamped m ∷ d) r a n =
      let mine : eqb (ui_of m).host g ≡ false = ne_eqb (ui_of m).host g (λ e. other (sym e ∙ ap (λ (u : Ui). u.host) n.0)) in
      rw mine (gate_given h g other d r.1 a.1 n.1)
  gate_given h g other (e ∷ d) r a n = gate_given h g other d r.1 a.1 n
