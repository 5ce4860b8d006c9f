-- No correct host's gate is closed for a correct host.
--
-- A gate is closed at the message that came next of its sender and might not stand there (`IsConvicting`). Its certificate verifies, so a correct sender
-- stamped it at that counter. What the gate took is a part of the sender's own list (`gate_follows`), so this message stands there right behind it
-- (`stands_next`), and in the own list each message may stand (`steady`). A gate asks the same question behind the floor to which it jumped
-- (`same_permits`), so it was permitted (`not_convicting`).
use Rattle.std.proofs.Common.{◌≡◌, ℕ, ◌+◌, Bool, true, false, List, [], ◌∷◌, ◌++◌, length, refl, sym, ap, subst, ◌∙◌, inl, inr, eqb, arith, length-append, Option, Some, None}
use Rattle.std.proofs.lemmas.Bool.{cases_Bool, eqb-true, eqb-false}
use Rattle.std.proofs.lemmas.List.{append-nil}
use Rattle.mb_parts.specs.declared.floor.Floor.{Floor}
use Rattle.mb_parts.specs.Bares.{Bare}
use Rattle.mb_parts.specs.Certificates.{inner_valid}
use Rattle.mb_parts.specs.Counters.{at_counter, IsBeginning}
use Rattle.mb_parts.specs.Ordered.{initial_floor, is_ordered, permits}
use Rattle.mb_parts.proofs.Counters.{StandsAt, at_split}
use Rattle.mb_parts.proofs.OrderedParts.{head, tail, ordered_before}
use Rattle.mb_parts.proofs.Joined.{parts, same_permits, floor_after_nil, GoesOn}
use Rattle.mb_msg.specs.declared.stamped.Stamped.{Stamped as StampedMessage}
use Rattle.mb_msg.specs.Stamps.{ui_of, bare_of, as_message}
use Rattle.mb_model.specs.Verified.{verifies}
use Rattle.mb_model.specs.Histories.{Closed, History, origin, taken_of, gate, closed_at, said, stamped as all_stamped}
use Rattle.mb_model.specs.GateChecks.{stamp_claim}
use Rattle.mb_steps.specs.OwnLists.{AreNumbered}
use Rattle.mb_steps.proofs.StepOwnStamped.{steady}
use Rattle.mb_world_model.specs.WorldEvents.{IsCorrect}
use Rattle.mb_world_model.specs.World.{World, System, self_of}
use Rattle.mb_world_model.specs.WorldRecord.{issued}
use Rattle.mb_host_laws.proofs.Cases.{not_both, some_is}
use Rattle.mb_host_laws.specs.Rests.{Each, IsConvicting, IsPart}
use Rattle.mb_world_laws.proofs.Grown.{IsGivenTo}
use Rattle.mb_host_laws.proofs.PartClaims.{own_claim_in, part_claims}
use Rattle.mb_world_laws.proofs.Facts.{Facts}
use Rattle.mb_views.proofs.Prefixes.{prefix_said}
use Rattle.mb_views.proofs.Follows.{IsFollowing, JumpsLed, follows}
use Rattle.mb_views.proofs.CorrectOne.{issued_said}
use Rattle.mb_host_laws.proofs.Moments.{IsPast, each_at, past_tail, past_said, past_numbered}
use Rattle.mb_views.proofs.Floors.{arises_then}

-- ---- lists that end alike

pub same_end : {A : Type 0} (a b x y : List A) → a ++ x ≡ b ++ y → length x ≡ length y → x ≡ y
same_end [] [] x y e l = e
same_end [] (c ∷ b) x y e l = absurd (omega (arith, ap length e, length-append b y, l))
same_end (c ∷ a) [] x y e l = absurd (omega (arith, ap length e, length-append a x, l))
same_end {A} (c ∷ a) (d ∷ b) x y e l = same_end a b x y (rest c d (a ++ x) (b ++ y) e) l where
  rest : (c d : A) (u v : List A) → c ∷ u ≡ d ∷ v → u ≡ v
  rest c d u v e = cc

-- ---- the moment at which a gate was closed

pub record WasClosed (d : History) (h n : ℕ) : Type 0 where
  pub before : History
  pub past : IsPast (Closed h n ∷ before) d

was_closed : (d : History) (h n : ℕ) → closed_at d h ≡ Some n → WasClosed d h n
unfolding closed_at
was_closed [] h n e = absurd cc
was_closed (Closed g k ∷ d) h n e = elim (cases_Bool (eqb g h)) [
  | inl same ↦
      let count : k ≡ n = some_is k n (rw same at e) in
      record { before = d; past = record { later = []; is = rw (← eqb-true g h same, ← count) refl } }
  | inr other ↦
      let x = was_closed d h n (rw other at e) in record { before = x.before; past = record { later = Closed g k ∷ x.past.later; is = ap (λ (y : History). Closed g k ∷ y) x.past.is } }
]
was_closed (z ∷ d) h n e = let x = was_closed d h n e in record { before = x.before; past = record { later = z ∷ x.past.later; is = ap (λ (y : History). z ∷ y) x.past.is } }

module _ {S : Type 0} (system : System S) (w : World) (f : Facts system w) (jumps : (h : ℕ) → IsCorrect system.schedule h → Each (JumpsLed system w f) (w.histories h)) where
  -- What a gate of a correct host has taken, that for itself too, is a part of the sender's prefix.
  pub gate_follows : (g h : ℕ) (d : History) → IsCorrect system.schedule g → IsPast d (w.histories g) → IsFollowing system w f h (origin d h) (taken_of d h)
  gate_follows g h d correct p = elim (cases_Bool (eqb h g)) [
    | inl same ↦ subst (λ (i : ℕ). IsFollowing system w f i (origin d i) (taken_of d i)) (sym (eqb-true h g same)) own
    | inr other ↦ follows system w f g h (eqb-false h g other) d (each_at _ d (w.histories g) p (f.standing.rests g)) (arises_then system w f g correct (jumps g correct) d p)
        (past_numbered (self_of system g) p.later d (subst (λ (x : History). AreNumbered (self_of system g) (all_stamped x)) (sym p.is) (f.numbered g)))
        (each_at _ d (w.histories g) p (jumps g correct))
  ] where
    own : IsFollowing system w f g (origin d g) (taken_of d g)
    own =
        let o = (steady (self_of system g) d (arises_then system w f g correct (jumps g correct) d p)).list.own in
        let b = past_said p.later d in
        record {
          hidden = [];
          begins = rw (o.all, append-nil (said d)) (subst (λ (x : List Bare). IsBeginning (said d) x) (ap said p.is ∙ sym (prefix_said system w f g correct)) b);
          leads = floor_after_nil initial_floor ∙ sym o.from;
        }

  -- What is issued of a correct host, next behind a part of its list, may stand there.
  pub stands_next : (h : ℕ) (o : Floor) (l : List Bare) (m : Bare) → IsCorrect system.schedule h → (x : IsFollowing system w f h o l)
      → at_counter (said (w.histories h)) (length (l ++ x.hidden) + 1) ≡ Some m → permits o system.schedule.shape h (inner_valid system.schedule.shape (verifies system.schedule.secret)) l m ≡ true
  stands_next h o l m correct x at =
      let inner : Bare → Bool = inner_valid system.schedule.shape (verifies system.schedule.secret) in
      let s : StandsAt (said (w.histories h)) (length (l ++ x.hidden) + 1) m = at_split (said (w.histories h)) _ m at in
      let whole : List Bare = l ++ x.hidden in
      let is : x.begins.later ++ whole ≡ said (w.histories h) = x.begins.is ∙ prefix_said system w f h correct in
      let same : m ∷ s.before ≡ m ∷ whole = ap (λ (y : List Bare). m ∷ y) (same_end (s.later ++ m ∷ []) x.begins.later s.before whole (joined s.later s.before ∙ s.is ∙ sym is) (omega (arith, s.counter))) in
      let ordered : is_ordered initial_floor system.schedule.shape h inner (m ∷ whole) ≡ true =
      ordered_before initial_floor system.schedule.shape h inner s.later (m ∷ whole)
      (subst (λ (y : List Bare). is_ordered initial_floor system.schedule.shape h inner (s.later ++ y) ≡ true) same
      (subst (λ (y : List Bare). is_ordered initial_floor system.schedule.shape h inner y ≡ true) (sym s.is) (steady (self_of system h) (w.histories h) (f.arises h)).list.ordered)) in
      let rest = tail initial_floor system.schedule.shape h inner m whole ordered in
      let c : GoesOn initial_floor system.schedule.shape h inner x.hidden l = parts initial_floor system.schedule.shape h inner x.hidden l rest in
      subst (λ (y : Floor). permits y system.schedule.shape h inner l m ≡ true) x.leads
      (same_permits initial_floor system.schedule.shape h inner x.hidden l m rest c ∙ head initial_floor system.schedule.shape h inner m whole ordered) where
        joined : (a b : List Bare) → (a ++ m ∷ []) ++ b ≡ a ++ m ∷ b
        joined [] b = refl
        joined (y ∷ a) b = ap (λ (z : List Bare). y ∷ z) (joined a b)

  -- So no given message of a correct host convicts it.
  pub not_convicting : (g h n : ℕ) (d : History) (m : StampedMessage) → IsCorrect system.schedule g → IsCorrect system.schedule h → IsPast d (w.histories g)
      → (from : Rattle.mb_msg.specs.declared.message.Message.Message) → IsGivenTo system.schedule w g from → IsPart (self_of system g) from (as_message m) → IsConvicting (self_of system g) d h n m → ⊥
  not_convicting g h n d m correct honest past from given part c =
      let issues : issued system.schedule w (stamp_claim m) ≡ true =
      (f.standing.clean g from given).issues (stamp_claim m) (part_claims (self_of system g) from (as_message m) part (stamp_claim m) (own_claim_in system.schedule.shape m)) c.certified in
      let x : IsFollowing system w f h (origin d h) (taken_of d h) = gate_follows g h d correct past in
      let count : (origin d h).counter ≡ length x.hidden = ap (λ (o : Floor). o.counter) (sym x.leads) ∙ omega arith in
      let next : (ui_of m).counter ≡ length (taken_of d h ++ x.hidden) + 1 = c.next ∙ ap (λ (k : ℕ). (gate d k).counter + 1) c.sender ∙ omega (arith, count, length-append (taken_of d h) x.hidden) in
      let there : at_counter (said (w.histories h)) (ui_of m).counter ≡ Some (bare_of m) =
      subst (λ (k : ℕ). at_counter (said (w.histories k)) (ui_of m).counter ≡ Some (bare_of m)) c.sender
      (issued_said system w f (stamp_claim m) (subst (λ (k : ℕ). IsCorrect system.schedule k) (sym c.sender) honest) issues) in
      let allowed : permits (origin d h) system.schedule.shape h (inner_valid system.schedule.shape (verifies system.schedule.secret)) (taken_of d h) (bare_of m) ≡ true =
      stands_next h (origin d h) (taken_of d h) (bare_of m) honest x (subst (λ (k : ℕ). at_counter (said (w.histories h)) k ≡ Some (bare_of m)) next there) in
      let refused : permits (origin d h) system.schedule.shape h (inner_valid system.schedule.shape (verifies system.schedule.secret)) (taken_of d h) (bare_of m) ≡ false =
      subst (λ (k : ℕ). permits (origin d k) system.schedule.shape k (inner_valid system.schedule.shape (verifies system.schedule.secret)) (taken_of d k) (bare_of m) ≡ false) c.sender c.refused in
      not_both _ allowed refused

  -- So no gate is closed for it.
  pub never_closed : (g h : ℕ) → IsCorrect system.schedule g → IsCorrect system.schedule h → closed_at (w.histories g) h ≡ None
  never_closed g h correct honest = go (closed_at (w.histories g) h) refl where
    go : (o : Option ℕ) → closed_at (w.histories g) h ≡ o → o ≡ None
    go None e = refl
    go (Some n) e =
        let x : WasClosed (w.histories g) h n = was_closed (w.histories g) h n e in
        let r = (each_at _ (Closed h n ∷ x.before) (w.histories g) x.past (f.standing.rests g)).0 in
        let tail_past = past_tail (Closed h n) x.before (w.histories g) x.past in
        absurd (not_convicting g h n x.before r.1 correct honest tail_past r.0 r.2 r.3 r.4)
