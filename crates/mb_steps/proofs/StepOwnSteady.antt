-- What goes with the order of the own list, entry by entry: the evidence of an open view is held and ends at or below the last position, a slot
-- has the certificate of its PREPARE or lies behind, and no CHECKPOINT is ahead of what was executed.
use Rattle.std.proofs.Common.{◌≡◌, ℕ, ◌≤◌, ◌<◌, Bool, true, false, ◌&&◌, List, [], ◌∷◌, map, refl, sym, ap, subst, ◌∙◌, inl, inr, ◌⊎◌, arith, eqb, Option, Some, None}
use Rattle.std.specs.Prelude.{◌==◌, if◌then◌else◌}
use Rattle.std.proofs.lemmas.Bool.{and_parts, cases_Bool, cases_lt, eqb-true, ne_eqb, ltb-true}
use Rattle.mb_base.specs.Shapes.{primary}
use Rattle.mb_parts.specs.declared.floor.Floor.{Floor}
use Rattle.mb_parts.specs.declared.certificates.Evidence.{Evidence}
use Rattle.mb_parts.specs.Bares.{Bare}
use Rattle.mb_parts.specs.Claims.{prepare_claim}
use Rattle.mb_parts.specs.Ordered.{initial_floor, is_ordered, current_view, last_position, last_checkpoint, floor_after, phase_is_open, end_of}
use Rattle.mb_parts.proofs.Advance.{advance}
use Rattle.mb_msg.specs.declared.message.Message.TheVariants as message
use Rattle.mb_msg.specs.declared.normal.Prepare.{Prepare as PrepareMessage}
use Rattle.mb_msg.specs.declared.stamped.Stamped.{Stamped as StampedMessage}
use Rattle.mb_msg.specs.declared.stamped.Stamped.TheVariants as stamped
use Rattle.mb_msg.specs.Stamps.{bare_of}
use Rattle.mb_msg.specs.Bodies.{body_digest, whole_body}
use Rattle.mb_parts.specs.Spelling.{batch_bytes}
use Rattle.mb_model.specs.declared.known.KnownSlot.{KnownSlot}
use Rattle.mb_model.specs.Histories.{Entry, Accepted, Stamped, Jumped, Executed, Installed, History, Identity, origin, taken_of, said, stamped as all_stamped, here, view_of, is_open}
use Rattle.mb_model.specs.Held.{evidence_of, evidence_view, evidence_shown, evidence_in, is_current, is_news, with_news}
use Rattle.mb_model.specs.Positions.{exec_of, slot_by, slot_of_prepare, slot_in, counts_at, if_counts_at}
use Rattle.mb_model.specs.Sending.{signed, next_ui}
use Rattle.mb_model.specs.Making.{join_evidence}
use Rattle.mb_model.specs.GateChecks.{valid, stamp_claim}
use Rattle.mb_steps.specs.OwnLists.{inner, IsOwn, IsOwnList}
use Rattle.mb_model.proofs.Options.{or_some, if_some}
use Rattle.mb_steps.proofs.StepRounds.{bare_under}
use Rattle.mb_steps.specs.Arises.{Adds, JustExecuted}
use Rattle.mb_steps.proofs.StepOwnList.{IsPermitted, stands_here, stamped_own, own_passed}
use Rattle.mb_steps.proofs.StepOwnFloor.{LeadsTo}
use Rattle.mb_steps.proofs.StepHeldEvidence.{some_is, prepare_by_primary}

-- the end of the evidence that a JOIN of a view shows
abbrev pub shown_end : ℕ → Option Evidence → ℕ
shown_end v x = end_of (if v == 0 then None else evidence_in v x)

pub shown_below : (v : ℕ) (e : Evidence) → shown_end v (Some e) ≤ e.end
shown_below v e = elim (cases_Bool (v == 0)) [
  | inl zero ↦ rw zero (omega arith)
  | inr some ↦ rw some (elim (cases_Bool (e.view == v)) [
    | inl same ↦ rw same (omega arith)
    | inr other ↦ rw other (omega arith)
  ])
]

pub shown_within : (v : ℕ) (x : Option Evidence) → shown_end v x ≤ end_of x
shown_within v None = elim (cases_Bool (v == 0)) [
  | inl zero ↦ rw zero (omega arith)
  | inr some ↦ rw some (omega arith)
]
shown_within v (Some e) = shown_below v e

shown_none : (v : ℕ) (e : Evidence) → eqb e.view v ≡ false → shown_end v (Some e) ≡ 0
shown_none v e other = elim (cases_Bool (v == 0)) [
  | inl zero ↦ rw zero refl
  | inr some ↦ rw (some, other) refl
]

module _ {S : Type 0} (self : Identity S) where
  -- Behind a host that stands at this floor: in an earlier view, or in its view, which is open, at or below its last position.
  abbrev pub IsBehind : Floor → ℕ → ℕ → Type 0
  IsBehind f v p = (v < f.view) ⊎ ((v ≡ f.view) × (phase_is_open f.phase ≡ true) × (p ≤ f.last))

  -- A slot has the certificate of its PREPARE, or lies behind.
  abbrev pub IsSlot : Floor → ℕ → ℕ → KnownSlot → Type 0
  IsSlot f v p k = (valid self (prepare_claim self.shape v p k.counter k.cert k.digest) ≡ true) ⊎ IsBehind f v p

  pub record IsSteady (d : History) : Type 0 where
    pub list : IsOwnList self d
    -- Where the view is open, evidence of it is held, or it is view 0.
    pub opened : is_open self d ≡ true → view_of self d ≤ evidence_view (evidence_of self d)
    -- The evidence of an open view ends at or below the last position.
    pub ended : is_open self d ≡ true → end_of (join_evidence self d) ≤ (here self d).last
    pub slots : (v p : ℕ) (k : KnownSlot) → slot_in self d v p ≡ Some k → IsSlot (here self d) v p k
    -- The last CHECKPOINT is not ahead of what was executed, and below a position that was just executed.
    pub point : (here self d).point ≤ exec_of d
    pub due : (p : ℕ) → JustExecuted self d p → (here self d).point < p

  pub empty_steady : IsSteady []
  unfolding origin taken_of all_stamped is_ordered current_view last_position last_checkpoint evidence_of slot_in exec_of
  empty_steady = record {
    list = record { own = record { from = refl; all = refl }; ordered = refl };
    opened = λ o. omega arith;
    ended = λ o. omega arith;
    slots = λ v p k e. absurd cc;
    point = omega arith;
    due = λ p j. absurd j;
  }

  -- ---- entries that this host did not stamp

  abbrev pub IsOther : Entry → Type 0
  IsOther (Stamped m) = ⊥
  IsOther e = Unit {0}

  record SameGate (d e : History) : Type 0 where
    pub from : origin e self.host ≡ origin d self.host
    pub taken : taken_of e self.host ≡ taken_of d self.host
    pub stamped : all_stamped e ≡ all_stamped d

  other_gate : (d : History) (x : Entry) → IsOther x → IsOwn self d → Adds self d x → SameGate d (x ∷ d)
  unfolding origin taken_of all_stamped
  other_gate d (Stamped m) o own a = absurd o
  other_gate d (Accepted (message.Prepare m)) o own a = record { from = refl; taken = rw (own_passed self d (stamped.Prepare m) own a.gate) refl; stamped = refl }
  other_gate d (Accepted (message.Commit m)) o own a = record { from = refl; taken = rw (own_passed self d (stamped.Commit m) own a.gate) refl; stamped = refl }
  other_gate d (Accepted (message.Checkpoint m)) o own a = record { from = refl; taken = rw (own_passed self d (stamped.Checkpoint m) own a.gate) refl; stamped = refl }
  other_gate d (Accepted (message.ViewChange m)) o own a = record { from = refl; taken = rw (own_passed self d (stamped.ViewChange m) own a.gate) refl; stamped = refl }
  other_gate d (Accepted (message.NewView m)) o own a = record { from = refl; taken = rw (own_passed self d (stamped.NewView m) own a.gate) refl; stamped = refl }
  other_gate d (Accepted (message.Enter m)) o own a = record { from = refl; taken = rw (own_passed self d (stamped.Enter m) own a.gate) refl; stamped = refl }
  other_gate d (Accepted (message.Open m)) o own a = record { from = refl; taken = rw (own_passed self d (stamped.Open m) own a.gate) refl; stamped = refl }
  other_gate d (Accepted (message.Join m)) o own a = record { from = refl; taken = rw (own_passed self d (stamped.Join m) own a.gate) refl; stamped = refl }
  other_gate d (Jumped h f) o own a = record { from = rw a refl; taken = rw a refl; stamped = refl }
  other_gate d x o own a = record { from = refl; taken = refl; stamped = refl }

  other_evidence : (d : History) (x : Entry) → IsOther x → evidence_of self (x ∷ d) ≡ with_news self d (evidence_of self d) (evidence_shown x)
  unfolding evidence_of
  other_evidence d (Stamped m) o = absurd o
  other_evidence d x o = refl

  other_exec : (d : History) (x : Entry) → Adds self d x → exec_of d ≤ exec_of (x ∷ d)
  unfolding exec_of
  other_exec d (Executed slot) a = omega (arith, a.place)
  other_exec d (Installed pos parts) a = omega (arith, a.1)
  other_exec d x a = omega arith

  other_due : (d : History) (x : Entry) → Adds self d x → (p : ℕ) → JustExecuted self (x ∷ d) p → exec_of d < p
  other_due d (Executed slot) a p j = omega (arith, a.place, j)
  other_due d x a p j = absurd j

  -- evidence that comes to be held for an open view is of a later one
  news_kept : (d : History) (v last : ℕ) (held shown : Option Evidence) → v ≤ evidence_view held → shown_end v held ≤ last
      → (v ≤ evidence_view (with_news self d held shown)) × (shown_end v (with_news self d held shown) ≤ last)
  news_kept d v last held None o n = (o, n)
  news_kept d v last held (Some e) o n = elim (cases_Bool (is_news self d held e)) [
    | inl news ↦
        let more : evidence_view held < e.view = ltb-true (evidence_view held) e.view (and_parts (is_current self d e.view) _ news).1 in
        let other : eqb e.view v ≡ false = ne_eqb e.view v (λ same. omega (arith, more, o, same)) in
        rw news (omega (arith, more, o), omega (arith, shown_none v e other))
    | inr old ↦ rw old (o, n)
  ]

  -- the slot that a PREPARE makes has its certificate
  pub prepare_slot : (m : PrepareMessage) → m.ui.host ≡ primary self.shape m.view → valid self (stamp_claim (stamped.Prepare m)) ≡ true
      → (v p : ℕ) (k : KnownSlot) → slot_of_prepare m v p ≡ Some k → valid self (prepare_claim self.shape v p k.counter k.cert k.digest) ≡ true
  prepare_slot m leads claim v p k e =
      let made : KnownSlot = record { counter = m.ui.counter; cert = m.ui.cert; digest = body_digest batch_bytes m.body; batch = whole_body m.body } in
      let t = if_some (m.view == v && m.pos == p) (Some made) k e in
      let a = and_parts (m.view == v) (m.pos == p) t.0 in
      let view : m.view ≡ v = eqb-true m.view v a.0 in
      let pos : m.pos ≡ p = eqb-true m.pos p a.1 in
      let first : valid self (prepare_claim self.shape m.view m.pos made.counter made.cert made.digest) ≡ true = subst (λ (h : ℕ). valid self (record (stamp_claim (stamped.Prepare m)) { host = h }) ≡ true) leads claim in
      subst (λ (y : KnownSlot). valid self (prepare_claim self.shape v p y.counter y.cert y.digest) ≡ true) (some_is made k t.1)
      (subst (λ (w : ℕ). valid self (prepare_claim self.shape w p made.counter made.cert made.digest) ≡ true) view
      (subst (λ (q : ℕ). valid self (prepare_claim self.shape m.view q made.counter made.cert made.digest) ≡ true) pos first))

  other_slot : (d : History) (x : Entry) → IsOther x → Adds self d x → (v p : ℕ) (k : KnownSlot) → slot_by x v p ≡ Some k → valid self (prepare_claim self.shape v p k.counter k.cert k.digest) ≡ true
  other_slot d (Stamped m) o a v p k e = absurd o
  other_slot d (Accepted (message.Prepare m)) o a v p k e =
      prepare_slot m (prepare_by_primary (origin d m.ui.host) self.shape m.ui.host _ (taken_of d m.ui.host) m.view m.pos _ a.gate.permitted) a.gate.certified v p k e
  other_slot d x o a v p k e = absurd cc

  pub found_slot : (d : History) (x : Entry) (v p : ℕ) (k : KnownSlot) → slot_in self (x ∷ d) v p ≡ Some k → (slot_in self d v p ≡ Some k) ⊎ (slot_by x v p ≡ Some k)
  unfolding slot_in
  found_slot d x v p k e = elim (or_some (slot_in self d v p) (if_counts_at self (x ∷ d) v p (slot_by x v p)) k e) [
    | inl before ↦ inl before
    | inr new ↦ inr (if_some (counts_at self (x ∷ d) v p) (slot_by x v p) k new).1
  ]

  pub other_steady : (d : History) (x : Entry) → IsOther x → Adds self d x → IsSteady d → IsSteady (x ∷ d)
  other_steady d x o a k =
      let g = other_gate d x o k.list.own a in
      let same : here self (x ∷ d) ≡ here self d = rw (g.from, g.taken) refl in
      let open_before : is_open self (x ∷ d) ≡ true → is_open self d ≡ true = λ e. ap (λ (f : Floor). phase_is_open f.phase) (sym same) ∙ e in
      let news : is_open self (x ∷ d) ≡ true → (view_of self d ≤ evidence_view (with_news self d (evidence_of self d) (evidence_shown x))) × (shown_end (view_of self d) (with_news self d (evidence_of self d) (evidence_shown x)) ≤ (here self d).last) =
      λ e. news_kept d (view_of self d) (here self d).last (evidence_of self d) (evidence_shown x) (k.opened (open_before e)) (k.ended (open_before e)) in
      record {
        list = record {
          own = record { from = g.from ∙ k.list.own.from; all = g.taken ∙ k.list.own.all ∙ ap (λ l. map bare_of l) (sym g.stamped) };
          ordered = rw g.stamped k.list.ordered;
        };
        opened = λ e. subst (λ (f : Floor). f.view ≤ evidence_view (evidence_of self (x ∷ d))) (sym same) (subst (λ (y : Option Evidence). view_of self d ≤ evidence_view y) (sym (other_evidence d x o)) (news e).0);
        ended = λ e. subst (λ (f : Floor). shown_end f.view (evidence_of self (x ∷ d)) ≤ f.last) (sym same) (subst (λ (y : Option Evidence). shown_end (view_of self d) y ≤ (here self d).last) (sym (other_evidence d x o)) (news e).1);
        slots = λ v p s e. subst (λ (f : Floor). IsSlot f v p s) (sym same) (elim (found_slot d x v p s e) [
          | inl before ↦ k.slots v p s before
          | inr new ↦ inl (other_slot d x o a v p s new)
        ]);
        point = omega (arith, ap (λ (f : Floor). f.point) same, k.point, other_exec d x a);
        due = λ p j. omega (arith, ap (λ (f : Floor). f.point) same, k.point, other_due d x a p j);
      }

  -- ---- what this host stamped

  -- what a message that is stamped has to bring
  pub record IsKept (d : History) (x : StampedMessage) (view : ℕ) (opened : Bool) (last point : ℕ) : Type 0 where
    pub permitted : IsPermitted self d (bare_of x)
    pub leads : LeadsTo (here self d) (bare_of x) view opened last point
    pub evidence : opened ≡ true → view ≤ evidence_view (evidence_of self (Stamped (signed self d x) ∷ d))
    pub end : opened ≡ true → shown_end view (evidence_of self (Stamped (signed self d x) ∷ d)) ≤ last
    pub onward : view_of self d ≤ view
    pub within : view ≡ view_of self d → is_open self d ≡ true → (opened ≡ true) × ((here self d).last ≤ last)
    pub slots : (v p : ℕ) (k : KnownSlot) → slot_by (Stamped (signed self d x)) v p ≡ Some k
        → (valid self (prepare_claim self.shape v p k.counter k.cert k.digest) ≡ true) ⊎ ((v ≡ view) × (opened ≡ true) × (p ≤ last))
    pub checkpoint : point ≤ exec_of d

  said_more : (d : History) (x : StampedMessage) → said (Stamped (signed self d x) ∷ d) ≡ bare_of x ∷ said d
  unfolding all_stamped
  said_more d x = rw (bare_under (next_ui self d (bare_of x)) x) refl

  -- where it leads this host
  leads_here : (d : History) (x : StampedMessage) → IsOwnList self d → IsPermitted self d (bare_of x) → here self (Stamped (signed self d x) ∷ d) ≡ floor_after (here self d) (bare_of x ∷ [])
  leads_here d x own p =
      let next : IsOwnList self (Stamped (signed self d x) ∷ d) = stamped_own self d x own p in
      let more : said (Stamped (signed self d x) ∷ d) ≡ bare_of x ∷ said d = said_more d x in
      let ordered : is_ordered initial_floor self.shape self.host (inner self) (bare_of x ∷ said d) ≡ true = subst (λ (l : List Bare). is_ordered initial_floor self.shape self.host (inner self) l ≡ true) more next.ordered in
      stands_here self (Stamped (signed self d x) ∷ d) next.own
      ∙ ap (λ (l : List Bare). floor_after initial_floor l) more
      ∙ sym (advance initial_floor self.shape self.host (inner self) (bare_of x) (said d) ordered)
      ∙ ap (λ (f : Floor). floor_after f (bare_of x ∷ [])) (sym (stands_here self d own.own))

  -- what lies behind stays behind
  behind_stays : (f g : Floor) → f.view ≤ g.view → (g.view ≡ f.view → phase_is_open f.phase ≡ true → (phase_is_open g.phase ≡ true) × (f.last ≤ g.last)) → (v p : ℕ) → IsBehind f v p → IsBehind g v p
  behind_stays f g onward within v p (inl lower) = inl (omega (arith, onward, lower))
  behind_stays f g onward within v p (inr (here, opened, low)) = elim (cases_lt f.view g.view) [
    | inl more ↦ inl (omega (arith, more, here))
    | inr same ↦
        let equal : g.view ≡ f.view = omega (arith, onward, same) in
        let w = within equal opened in
        let last : f.last ≤ g.last = w.1 in
        inr (here ∙ sym equal, w.0, omega (arith, low, last))
  ]

  slot_stays : (f g : Floor) → f.view ≤ g.view → (g.view ≡ f.view → phase_is_open f.phase ≡ true → (phase_is_open g.phase ≡ true) × (f.last ≤ g.last)) → (v p : ℕ) (k : KnownSlot) → IsSlot f v p k → IsSlot g v p k
  slot_stays f g onward within v p k (inl checks) = inl checks
  slot_stays f g onward within v p k (inr behind) = inr (behind_stays f g onward within v p behind)

  pub stamped_steady : (d : History) (x : StampedMessage) (view : ℕ) (opened : Bool) (last point : ℕ) → IsKept d x view opened last point → IsSteady d → IsSteady (Stamped (signed self d x) ∷ d)
  unfolding exec_of
  stamped_steady d x view opened last point m k =
      let e : History = Stamped (signed self d x) ∷ d in
      let h : here self e ≡ floor_after (here self d) (bare_of x ∷ []) = leads_here d x k.list m.permitted in
      let view_is : (here self e).view ≡ view = ap (λ (f : Floor). f.view) h ∙ m.leads.view_is in
      let open_is : is_open self e ≡ opened = ap (λ (f : Floor). phase_is_open f.phase) h ∙ m.leads.open_is in
      let last_is : (here self e).last ≡ last = ap (λ (f : Floor). f.last) h ∙ m.leads.last_is in
      let point_is : (here self e).point ≡ point = ap (λ (f : Floor). f.point) h ∙ m.leads.point_is in
      record {
        list = stamped_own self d x k.list m.permitted;
        opened = λ o. subst (λ (v : ℕ). v ≤ evidence_view (evidence_of self e)) (sym view_is) (m.evidence (sym open_is ∙ o));
        ended = λ o. subst (λ (v : ℕ). shown_end v (evidence_of self e) ≤ (here self e).last) (sym view_is) (subst (λ (n : ℕ). shown_end view (evidence_of self e) ≤ n) (sym last_is) (m.end (sym open_is ∙ o)));
        slots = λ v p s found. elim (found_slot d (Stamped (signed self d x)) v p s found) [
          | inl before ↦ slot_stays (here self d) (here self e) (omega (arith, view_is, m.onward))
              (λ same o. let w = m.within (sym view_is ∙ same) o in let le : (here self d).last ≤ last = w.1 in (open_is ∙ w.0, omega (arith, le, last_is))) v p s (k.slots v p s before)
          | inr new ↦ new_slot (here self e) view_is open_is last_is v p s (m.slots v p s new)
        ];
        point = omega (arith, point_is, m.checkpoint);
        due = λ p j. absurd j;
      } where
        new_slot : (f : Floor) → f.view ≡ view → phase_is_open f.phase ≡ opened → f.last ≡ last → (v p : ℕ) (s : KnownSlot)
            → (valid self (prepare_claim self.shape v p s.counter s.cert s.digest) ≡ true) ⊎ ((v ≡ view) × (opened ≡ true) × (p ≤ last)) → IsSlot f v p s
        new_slot f a b c v p s (inl checks) = inl checks
        new_slot f a b c v p s (inr (same, o, low)) = inr (inr (same ∙ sym a, b ∙ o, omega (arith, c, low)))
