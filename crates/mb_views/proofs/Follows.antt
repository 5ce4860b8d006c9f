-- What a gate has taken of its sender is a beginning of the sender's ordered prefix, behind what the floor hides to which the gate jumped last.
--
-- A message that is issued right behind a beginning of the prefix, and may stand there, goes on in the prefix (`goes_on_in`): within the prefix what is
-- issued stands there, and right behind it nothing issued may stand. A gate takes each message right behind what it took, checks that it may stand
-- there with certificates that verify, and those are issued. So each accepted message goes on (`follows`).
use Rattle.std.proofs.Common.{◌≡◌, ℕ, ◌+◌, ◌≤◌, Bool, true, false, List, [], ◌∷◌, ◌++◌, length, refl, sym, ap, subst, ◌∙◌, inl, inr, eqb, arith, length-append, Some, None}
use Rattle.std.specs.Prelude.{◌==◌, if◌then◌else◌}
use Rattle.std.proofs.lemmas.Bool.{cases_Bool, eqb-true, ne_eqb}
use Rattle.std.proofs.lemmas.List.{append-nil}
use Rattle.mb_base.specs.Shapes.{Bytes}
use Rattle.mb_base.specs.declared.names.Ui.{Ui}
use Rattle.mb_parts.specs.declared.floor.Floor.{Floor}
use Rattle.mb_parts.specs.Bares.{Bare}
use Rattle.mb_parts.specs.Certificates.{inner_valid}
use Rattle.mb_parts.specs.Counters.{at_counter, IsBeginning}
use Rattle.mb_parts.specs.Issued.{ArePrefixes}
use Rattle.mb_parts.specs.Ordered.{initial_floor, is_ordered, permits, floor_after}
use Rattle.mb_parts.proofs.Counters.{at_here}
use Rattle.mb_parts.proofs.CertificateLaws.{permits_more, inner_more}
use Rattle.mb_parts.proofs.OrderedParts.{ordered_before}
use Rattle.mb_parts.proofs.Joined.{parts, same_permits, floor_after_nil, GoesOn}
use Rattle.mb_parts.proofs.IssuedLaws.{are_prefixes}
use Rattle.mb_msg.specs.declared.message.Message.TheVariants as message
use Rattle.mb_msg.specs.declared.stamped.Stamped.{Stamped as StampedMessage}
use Rattle.mb_msg.specs.declared.stamped.Stamped.TheVariants as stamped
use Rattle.mb_msg.specs.Stamps.{ui_of, bare_of, as_message}
use Rattle.mb_model.specs.Verified.{verifies}
use Rattle.mb_model.specs.Histories.{Entry, Accepted, Stamped, Jumped, History, onto, origin, taken_of, gate, stamped as all_stamped}
use Rattle.mb_model.specs.GateChecks.{stamp_claim}
use Rattle.mb_model.specs.Passed.{PassesGate}
use Rattle.mb_steps.specs.OwnLists.{AreNumbered}
use Rattle.mb_steps.specs.Arises.{Arises}
use Rattle.mb_world_model.specs.World.{World, System, self_of, stamps}
use Rattle.mb_world_model.specs.WorldRecord.{issued, prefix}
use Rattle.mb_host_laws.proofs.Cases.{some_is}
use Rattle.mb_host_laws.specs.Rests.{Each, Rests}
use Rattle.mb_world_laws.proofs.Grown.{IsGivenTo, IsHashed, HasStrings, RestsIn}
use Rattle.mb_host_laws.proofs.PartClaims.{own_claim_in, inner_claim_in}
use Rattle.mb_world_laws.proofs.Knows.{accepted_issued, carried}
use Rattle.mb_world_laws.proofs.Facts.{Facts}

-- ---- lists that go on by one

pub nonempty_goes_on : {A : Type 0} (later l : List A) (m : A) → at_counter (later ++ l) (length l + 1) ≡ Some m → (later ≡ [] → ⊥) → IsBeginning (m ∷ l) (later ++ l)
nonempty_goes_on [] l m at some = absurd (some refl)
nonempty_goes_on {A} (x ∷ []) l m at some =
    let here : at_counter (x ∷ l) (length l + 1) ≡ Some x = at_here [] x l in
    let same : x ≡ m = some_is x m (sym here ∙ at) in
    record { later = []; is = ap (λ (y : A). y ∷ l) (sym same) }
nonempty_goes_on {A} (x ∷ y ∷ later) l m at some =
    let other : eqb (length l + 1) (length (y ∷ later ++ l) + 1) ≡ false = ne_eqb _ _ (λ e. omega (arith, length-append later l)) in
    let b = nonempty_goes_on (y ∷ later) l m (rw other at at) (λ e. absurd cc) in
    record { later = x ∷ b.later; is = ap (λ (z : List A). x ∷ z) b.is }

module _ {S : Type 0} (system : System S) (w : World) (f : Facts system w) where
  abbrev inner : Bare → Bool
  inner = inner_valid system.schedule.shape (issued system.schedule w)

  abbrev laws : ArePrefixes system.schedule.shape (stamps system.schedule w)
  laws = are_prefixes system.schedule.shape (stamps system.schedule w)

  -- What is issued right behind a beginning of the prefix, and may stand there, goes on in it.
  pub goes_on_in : (g n : ℕ) (m : Bare) (cert : Bytes) (l : List Bare) → IsBeginning l (prefix system.schedule w g) → issued system.schedule w (record { host = g; counter = n; says = m; cert = cert }) ≡ true
      → n ≡ length l + 1 → permits initial_floor system.schedule.shape g inner l m ≡ true → IsBeginning (m ∷ l) (prefix system.schedule w g)
  goes_on_in g n m cert l b i next p = go b.later b.is where
    go : (later : List Bare) → later ++ l ≡ prefix system.schedule w g → IsBeginning (m ∷ l) (prefix system.schedule w g)
    go [] is = absurd (laws.maximal (record { host = g; counter = n; says = m; cert = cert }) i (next ∙ ap (λ (x : List Bare). length x + 1) is) (subst (λ (x : List Bare). permits initial_floor system.schedule.shape g inner x m ≡ true) is p))
    go (x ∷ later) is =
        let long : n ≤ length (prefix system.schedule w g) = omega (arith, next, ap length is, length-append later l) in
        let at : at_counter (prefix system.schedule w g) n ≡ Some m = laws.stands (record { host = g; counter = n; says = m; cert = cert }) i long in
        subst (λ (y : List Bare). IsBeginning (m ∷ l) y) is (nonempty_goes_on (x ∷ later) l m (subst (λ (y : List Bare). at_counter y (length l + 1) ≡ Some m) (sym is) (subst (λ (k : ℕ). at_counter (prefix system.schedule w g) k ≡ Some m) next at)) (λ e. absurd cc))

  -- ---- floors and gates

  -- The prefix led there once.
  pub record IsLed (g : ℕ) (o : Floor) : Type 0 where
    pub hidden : List Bare
    pub begins : IsBeginning hidden (prefix system.schedule w g)
    pub leads : floor_after initial_floor hidden ≡ o

  -- A list from a floor on is a part of the prefix.
  pub record IsFollowing (g : ℕ) (o : Floor) (l : List Bare) : Type 0 where
    pub hidden : List Bare
    pub begins : IsBeginning (l ++ hidden) (prefix system.schedule w g)
    pub leads : floor_after initial_floor hidden ≡ o

  beginning_ordered : (g : ℕ) (l : List Bare) → IsBeginning l (prefix system.schedule w g) → is_ordered initial_floor system.schedule.shape g inner l ≡ true
  beginning_ordered g l b = ordered_before initial_floor system.schedule.shape g inner b.later l (subst (λ (x : List Bare). is_ordered initial_floor system.schedule.shape g inner x ≡ true) (sym b.is) (laws.ordered g))

  -- where such a list leads, the prefix led once
  pub following_led : (g : ℕ) (o : Floor) (l : List Bare) → IsFollowing g o l → IsLed g (floor_after o l)
  following_led g o l x =
      let whole = beginning_ordered g (l ++ x.hidden) x.begins in
      let p : GoesOn initial_floor system.schedule.shape g inner x.hidden l = parts initial_floor system.schedule.shape g inner x.hidden l whole in
      record { hidden = l ++ x.hidden; begins = x.begins; leads = sym p.leads ∙ ap (λ (y : Floor). floor_after y l) x.leads }

  -- A gate takes one message more.
  pub takes_one : (h g : ℕ) (m : StampedMessage) (d : History) → Rests (self_of system h) (IsGivenTo system.schedule w h) (IsHashed system.schedule w) (HasStrings system.schedule w) (Accepted (as_message m)) d
      → PassesGate (self_of system h) d m → (ui_of m).host ≡ g → IsFollowing g (origin d g) (taken_of d g) → IsFollowing g (origin d g) (bare_of m ∷ taken_of d g)
  takes_one h g m d r p same x =
      let whole = beginning_ordered g (taken_of d g ++ x.hidden) x.begins in
      let issues : issued system.schedule w (stamp_claim m) ≡ true = accepted_issued system w f.standing h (as_message m) d r (stamp_claim m) (own_claim_in system.schedule.shape m) p.certified in
      let carry : inner_valid system.schedule.shape (verifies system.schedule.secret) (bare_of m) ≡ true → inner (bare_of m) ≡ true =
      inner_more system.schedule.shape (verifies system.schedule.secret) (issued system.schedule w) (bare_of m) (carried system w f.standing h (as_message m) d r _ (inner_claim_in system.schedule.shape m)) in
      let allowed : permits (origin d g) system.schedule.shape g inner (taken_of d g) (bare_of m) ≡ true =
      subst (λ (k : ℕ). permits (origin d k) system.schedule.shape k inner (taken_of d k) (bare_of m) ≡ true) same
      (permits_more (origin d (ui_of m).host) system.schedule.shape (ui_of m).host _ inner (taken_of d (ui_of m).host) (bare_of m) carry p.permitted) in
      let from : permits (floor_after initial_floor x.hidden) system.schedule.shape g inner (taken_of d g) (bare_of m) ≡ true =
      subst (λ (o : Floor). permits o system.schedule.shape g inner (taken_of d g) (bare_of m) ≡ true) (sym x.leads) allowed in
      let c : GoesOn initial_floor system.schedule.shape g inner x.hidden (taken_of d g) = parts initial_floor system.schedule.shape g inner x.hidden (taken_of d g) whole in
      let behind : permits initial_floor system.schedule.shape g inner (taken_of d g ++ x.hidden) (bare_of m) ≡ true =
      sym (same_permits initial_floor system.schedule.shape g inner x.hidden (taken_of d g) (bare_of m) whole c) ∙ from in
      let count : (origin d g).counter ≡ length x.hidden = ap (λ (o : Floor). o.counter) (sym x.leads) ∙ omega arith in
      let next : (ui_of m).counter ≡ length (taken_of d g ++ x.hidden) + 1 =
      p.next ∙ ap (λ (k : ℕ). (gate d k).counter + 1) same ∙ omega (arith, count, length-append (taken_of d g) x.hidden) in
      record {
        hidden = x.hidden;
        begins = goes_on_in g (ui_of m).counter (bare_of m) (ui_of m).cert (taken_of d g ++ x.hidden) x.begins
            (subst (λ (k : ℕ). issued system.schedule w (record { host = k; counter = (ui_of m).counter; says = bare_of m; cert = (ui_of m).cert }) ≡ true) same issues) next behind;
        leads = x.leads;
      }

  -- ---- the gate of another host

  -- The floors to which gates jumped are sound.
  abbrev pub JumpsLed : Entry → History → Type 0
  JumpsLed (Jumped g o) d = IsLed g o
  JumpsLed e d = Unit {0}

  -- What was stamped has this host's number.
  abbrev pub RestsHere : ℕ → Entry → History → Type 0
  RestsHere h e d = Rests (self_of system h) (IsGivenTo system.schedule w h) (IsHashed system.schedule w) (HasStrings system.schedule w) e d

  same_host : (h g : ℕ) (o : Floor) (l : List Bare) (u : Ui) (m : Bare) → ((u.host ≡ g) → IsFollowing g o (m ∷ l)) → IsFollowing g o l → IsFollowing g o (onto (if u.host == g then Some m else None) l)
  same_host h g o l u m new old = elim (cases_Bool (eqb u.host g)) [
    | inl same ↦ rw same (new (eqb-true u.host g same))
    | inr other ↦ rw other old
  ]

  -- What a gate for another host has taken is a part of that one's prefix.
  pub follows : (h g : ℕ) → (g ≡ h → ⊥) → (d : History) → RestsIn system w h d → Arises (self_of system h) d → AreNumbered (self_of system h) (all_stamped d) → Each JumpsLed d → IsFollowing g (origin d g) (taken_of d g)
  unfolding origin taken_of all_stamped
  follows h g other [] r a n j = record { hidden = []; begins = record { later = prefix system.schedule w g; is = append-nil (prefix system.schedule w g) }; leads = floor_after_nil initial_floor }
  follows h g other (Accepted (message.Prepare m) ∷ d) r a n j = let before = follows h g other d r.1 a.1 n j.1 in same_host h g (origin d g) (taken_of d g) m.ui (bare_of (stamped.Prepare m)) (λ same. takes_one h g (stamped.Prepare m) d r.0 a.0.gate same before) before
  follows h g other (Accepted (message.Commit m) ∷ d) r a n j = let before = follows h g other d r.1 a.1 n j.1 in same_host h g (origin d g) (taken_of d g) m.ui (bare_of (stamped.Commit m)) (λ same. takes_one h g (stamped.Commit m) d r.0 a.0.gate same before) before
  follows h g other (Accepted (message.Checkpoint m) ∷ d) r a n j = let before = follows h g other d r.1 a.1 n j.1 in same_host h g (origin d g) (taken_of d g) m.ui (bare_of (stamped.Checkpoint m)) (λ same. takes_one h g (stamped.Checkpoint m) d r.0 a.0.gate same before) before
  follows h g other (Accepted (message.ViewChange m) ∷ d) r a n j = let before = follows h g other d r.1 a.1 n j.1 in same_host h g (origin d g) (taken_of d g) m.ui (bare_of (stamped.ViewChange m)) (λ same. takes_one h g (stamped.ViewChange m) d r.0 a.0.gate same before) before
  follows h g other (Accepted (message.NewView m) ∷ d) r a n j = let before = follows h g other d r.1 a.1 n j.1 in same_host h g (origin d g) (taken_of d g) m.ui (bare_of (stamped.NewView m)) (λ same. takes_one h g (stamped.NewView m) d r.0 a.0.gate same before) before
  follows h g other (Accepted (message.Enter m) ∷ d) r a n j = let before = follows h g other d r.1 a.1 n j.1 in same_host h g (origin d g) (taken_of d g) m.ui (bare_of (stamped.Enter m)) (λ same. takes_one h g (stamped.Enter m) d r.0 a.0.gate same before) before
  follows h g other (Accepted (message.Open m) ∷ d) r a n j = let before = follows h g other d r.1 a.1 n j.1 in same_host h g (origin d g) (taken_of d g) m.ui (bare_of (stamped.Open m)) (λ same. takes_one h g (stamped.Open m) d r.0 a.0.gate same before) before
  follows h g other (Accepted (message.Join m) ∷ d) r a n j = let before = follows h g other d r.1 a.1 n j.1 in same_host h g (origin d g) (taken_of d g) m.ui (bare_of (stamped.Join m)) (λ same. takes_one h g (stamped.Join m) d r.0 a.0.gate same before) before
  follows h g other (Jumped k o ∷ d) r a n j = elim (cases_Bool (eqb k g)) [
    | inl same ↦ rw same (let l : IsLed g o = subst (λ (i : ℕ). IsLed i o) (eqb-true k g same) j.0 in record { hidden = l.hidden; begins = l.begins; leads = l.leads })
    | inr others ↦ rw others (follows h g other d r.1 a.1 n j.1)
  ]
  follows h g other (Stamped m ∷ d) r a n j =
      let mine : eqb (ui_of m).host g ≡ false = ne_eqb (ui_of m).host g (λ e. other (sym e ∙ ap (λ (u : Ui). u.host) n.0)) in
      rw mine (follows h g other d r.1 a.1 n.1 j.1)
  follows h g other (e ∷ d) r a n j = follows h g other d r.1 a.1 n j.1
