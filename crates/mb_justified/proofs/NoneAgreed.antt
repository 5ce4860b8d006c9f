-- Above the stable position of a correct host no f+1 hosts agree in the CHECKPOINTs that it keeps. So the floor of its own log has a certificate that is not
-- above its stable one.
--
-- A kept CHECKPOINT above the stable position is one or two intervals above (`placed`, `next_multiple`), where each new one is looked whether it completes
-- a certificate, which is then learnt (`none_above`). A floor certificate of a position needs f+1 that agree there (`agreed_if_floor`).
use Rattle.std.proofs.Common.{◌≡◌, ℕ, ◌+◌, ◌≤◌, ◌<◌, ◌⊎◌, Bool, true, false, ◌&&◌, List, [], ◌∷◌, refl, sym, ap, subst, ◌∙◌, inl, inr, eqb, arith, Option, Some, None}
use Rattle.std.specs.Prelude.{◌==◌, filter_map, nat_lt, nat_le, option_and_then, if◌then◌else◌}
use Rattle.std.specs.Option.{option_or}
use Rattle.std.specs.List.{range_with_len}
use Rattle.std.proofs.lemmas.Bool.{cases_Bool, eqb-true, le-leb}
use Rattle.mb_base.specs.Shapes.{interval, span, quorum, host_count}
use Rattle.mb_parts.specs.declared.floor.Floor.{Floor}
use Rattle.mb_parts.specs.Certificates.{certified_floor}
use Rattle.mb_model.specs.GateChecks.{valid}
use Rattle.mb_parts.specs.declared.certificates.StableCert.{StableCert}
use Rattle.mb_parts.specs.declared.certificates.FloorCert.{FloorCert}
use Rattle.mb_msg.specs.declared.message.Message.TheVariants as message
use Rattle.mb_msg.specs.declared.normal.Checkpoint.{Checkpoint}
use Rattle.mb_msg.specs.declared.stamped.Stamped.TheVariants as stamped
use Rattle.mb_model.specs.Histories.{Entry, Accepted, Stamped, History, Identity, counter_of}
use Rattle.mb_model.specs.Stable.{checkpoint_in, checkpoint_by, checkpoint_of, first_agreed, same_state, stable_cert, agreed_at, agreed_above, floor_at, floor_from, is_kept, stable_of, low_of, learnt_in, further, cut_by, log_floor, floor_counter}
use Rattle.mb_model.proofs.Options.{or_some, option_cases}
use Rattle.mb_steps.specs.Arises.{Arises, Adds}
use Rattle.mb_steps.proofs.StepHeldEvidence.{some_is}
use Rattle.mb_steps.proofs.StepPotential.{further_both, grown_low}
use Rattle.mb_world_model.specs.WorldEvents.{IsCorrect}
use Rattle.mb_world_model.specs.World.{World, System, self_of}
use Rattle.mb_world_laws.proofs.Facts.{Facts}
use Rattle.mb_host_laws.proofs.Moments.{IsPast, past_tail, arises_by, past_past}
use Rattle.mb_views.proofs.PlanMoments.{low_since}
use Rattle.mb_host_laws.proofs.FloorCerts.{floor_certifies}
use Rattle.mb_justified.proofs.LowMultiples.{IsPlaced, placed, next_multiple, low_multiple, agreed_place}
use Rattle.mb_justified.proofs.AgreedFloors.{agreed_if_floor}

same_found : {A B : Type 0} (g k : A → Option B) → ((x : A) → g x ≡ k x) → (l : List A) → filter_map g l ≡ filter_map k l
same_found g k same [] = refl
same_found g k same (x ∷ l) = elim (option_cases (k x)) [
  | inl none ↦ rw (same x ∙ none, none) (same_found g k same l)
  | inr (y, some) ↦ rw (same x ∙ some, some) (ap (λ t. y ∷ t) (same_found g k same l))
]

module _ {S : Type 0} (system : System S) (w : World) (f : Facts system w) (h : ℕ) (correct : IsCorrect system.schedule h) where
  abbrev self : Identity S
  self = self_of system h

  abbrev NoneAt : History → ℕ → Type 0
  NoneAt d p = (c : StableCert) → agreed_at system.schedule.shape d p ≡ Some c → ⊥

  -- ---- another CHECKPOINT

  other_place : (g p : ℕ) (x : Option Checkpoint) → ((m : Checkpoint) → x ≡ Some m → eqb m.pos p ≡ false) → checkpoint_by g p x ≡ None
  other_place g p None e = refl
  other_place g p (Some m) e = shut (m.ui.host == g) (m.pos == p) (e m refl) where
    shut : (a b : Bool) → b ≡ false → (if a && b then Some m else None) ≡ None
    shut true b e = rw e refl
    shut false b e = refl

  or_none_left : {A : Type 0} (x y : Option A) → x ≡ None → option_or x y ≡ y
  or_none_left x y e = rw e refl

  same_at : (x : Entry) (d : History) (p : ℕ) → ((m : Checkpoint) → checkpoint_in x ≡ Some m → eqb m.pos p ≡ false) → agreed_at system.schedule.shape (x ∷ d) p ≡ agreed_at system.schedule.shape d p
  unfolding agreed_at checkpoint_of
  same_at x d p other = ap (λ (l : List Checkpoint). option_and_then (stable_cert system.schedule.shape p) (first_agreed (same_state system.schedule.shape) (quorum system.schedule.shape) l l))
      (same_found (λ g. option_or (checkpoint_by g p (checkpoint_in x)) (checkpoint_of d g p)) (λ g. checkpoint_of d g p) (λ g. or_none_left (checkpoint_by g p (checkpoint_in x)) (checkpoint_of d g p) (other_place g p (checkpoint_in x) other)) (range_with_len 0 (host_count system.schedule.shape)))

  -- ---- a new one at this place

  -- what an entry with a CHECKPOINT above the stable position brings
  learnt_new : (x : Entry) (d : History) (m : Checkpoint) (low : ℕ) → checkpoint_in x ≡ Some m → low ≤ m.pos → learnt_in self d low x ≡ agreed_above system.schedule.shape (x ∷ d) low
  learnt_new (Accepted (message.Checkpoint n)) d m low e le = let le' : low ≤ n.pos = subst (λ (y : Checkpoint). low ≤ y.pos) (sym (some_is n m e)) le in rw (le-leb low n.pos le') refl
  learnt_new (Stamped (stamped.Checkpoint n)) d m low e le = let le' : low ≤ n.pos = subst (λ (y : Checkpoint). low ≤ y.pos) (sym (some_is n m e)) le in rw (le-leb low n.pos le') refl
  learnt_new x d m low e le = absurd cc

  above_first : (d : History) (low : ℕ) (c : StableCert) → agreed_at system.schedule.shape d (low + span system.schedule.shape) ≡ Some c → agreed_above system.schedule.shape d low ≡ Some c
  above_first d low c e = rw e refl

  above_second : (d : History) (low : ℕ) (c : StableCert) → agreed_at system.schedule.shape d (low + interval system.schedule.shape) ≡ Some c → (y : StableCert) × (agreed_above system.schedule.shape d low ≡ Some y) × (low + interval system.schedule.shape ≤ y.pos)
  above_second d low c e = elim (option_cases (agreed_at system.schedule.shape d (low + span system.schedule.shape))) [
    | inl none ↦ (c, rw none e, omega (arith, agreed_place system w f h correct d (low + interval system.schedule.shape) c e))
    | inr (y, some) ↦ (y, rw some refl, omega (arith, agreed_place system w f h correct d (low + span system.schedule.shape) y some))
  ]

  raised : (d : History) (x : Entry) (c : StableCert) → learnt_in self d (stable_of self d).pos x ≡ Some c → c.pos ≤ low_of self (x ∷ d)
  unfolding stable_of
  raised d x c e = subst (λ (o : Option StableCert). c.pos ≤ (further (stable_of self d) o).pos) (sym e) (further_both (stable_of self d) c).1

  new_none : (x : Entry) (d : History) (m : Checkpoint) → IsPast (x ∷ d) (w.histories h) → Adds self d x → checkpoint_in x ≡ Some m → low_of self (x ∷ d) < m.pos → NoneAt (x ∷ d) m.pos
  new_none x d m past a is above c e =
      let p : IsPlaced system w f h correct d m = placed system w f h correct d x past a m is in
      let low : ℕ = low_of self d in
      let grown = grown_low self d x in
      let learnt : learnt_in self d low x ≡ agreed_above system.schedule.shape (x ∷ d) low = learnt_new x d m low is (omega (arith, above, grown)) in
      let positive = f.shape.intervals.0 in
      elim (next_multiple (interval system.schedule.shape) low m.pos (omega (arith, positive)) (low_multiple system w f h correct d (past_tail x d (w.histories h) past)) p.multiple (omega (arith, above, grown)) p.within) [
        | inl far ↦
            let brings = learnt ∙ above_first (x ∷ d) low c (subst (λ (q : ℕ). agreed_at system.schedule.shape (x ∷ d) q ≡ Some c) far e) in
            let high = raised d x c brings in
            omega (arith, high, above, agreed_place system w f h correct (x ∷ d) m.pos c e)
        | inr near ↦
            let y = above_second (x ∷ d) low c (subst (λ (q : ℕ). agreed_at system.schedule.shape (x ∷ d) q ≡ Some c) near e) in
            let high = raised d x y.0 (learnt ∙ y.1) in
            omega (arith, high, above, y.2, near)
      ]

  -- Above the stable position no f+1 agree.
  pub none_above : (d : History) → IsPast d (w.histories h) → Arises self d → (p : ℕ) → low_of self d < p → NoneAt d p
  unfolding agreed_at checkpoint_of first_agreed
  none_above [] past a p above c e = nothing (filter_map {X = ℕ} (λ g. None) (range_with_len 0 (host_count system.schedule.shape))) (none_found (range_with_len 0 (host_count system.schedule.shape))) e where
    none_found : (l : List ℕ) → filter_map {X = ℕ} {Y = Checkpoint} (λ g. None) l ≡ []
    none_found [] = refl
    none_found (x ∷ l) = none_found l

    nothing : (l : List Checkpoint) → l ≡ [] → option_and_then (stable_cert system.schedule.shape p) (first_agreed (same_state system.schedule.shape) (quorum system.schedule.shape) l l) ≡ Some c → ⊥
    nothing [] is e = absurd cc
    nothing (m ∷ l) is e = absurd cc
  none_above (x ∷ d) past a p above c e = go (λ e. none_above d (past_tail x d (w.histories h) past) a.1 p (omega (arith, above, grown_low self d x)) c e) (checkpoint_in x) refl where
    none_some : (m : Checkpoint) → None ≡ Some m → ⊥
    none_some m e = cc

    go : (agreed_at system.schedule.shape d p ≡ Some c → ⊥) → (o : Option Checkpoint) → checkpoint_in x ≡ o → ⊥
    go before None is = before (sym (same_at x d p (λ m there. absurd (none_some m (sym is ∙ there)))) ∙ e)
    go before (Some m) is = elim (cases_Bool (eqb m.pos p)) [
      | inl here ↦
          let same : m.pos ≡ p = eqb-true m.pos p here in
          new_none x d m past a.0 is (omega (arith, above, same)) c (subst (λ (q : ℕ). agreed_at system.schedule.shape (x ∷ d) q ≡ Some c) (sym same) e)
      | inr other ↦ before (sym (same_at x d p (λ n there. subst (λ (y : Checkpoint). eqb y.pos p ≡ false) (some_is m n (sym is ∙ there)) other)) ∙ e)
    ]

  -- ---- the floor of the own log

  pub record WasCut (d : History) (c : FloorCert) : Type 0 where
    pub entry : Entry
    pub before : History
    pub past : IsPast (entry ∷ before) d
    pub made : floor_from system.schedule.shape (entry ∷ before) h (low_of self (entry ∷ before)) ≡ Some c

  cut_is : (n : ℕ) (old new : Option FloorCert) (c : FloorCert) → cut_by self n old new ≡ Some c → (old ≡ Some c) ⊎ (new ≡ Some c)
  cut_is n old None c e = inl e
  cut_is n old (Some y) c e = elim (cases_Bool (nat_lt (floor_counter self old) (floor_counter self (Some y)) && nat_le (floor_counter self (Some y)) n)) [
    | inl does ↦ inr (rw does at e)
    | inr not_so ↦ inl (rw not_so at e)
  ]

  pub was_cut : (d : History) (c : FloorCert) → log_floor self d ≡ Some c → WasCut d c
  unfolding log_floor
  was_cut [] c e = absurd cc
  was_cut (x ∷ d) c e = elim (cases_Bool (is_kept (low_of self d) (checkpoint_in x))) [
    | inl kept ↦ elim (cut_is (counter_of (x ∷ d)) (log_floor self d) (floor_from system.schedule.shape (x ∷ d) h (low_of self (x ∷ d))) c (rw kept at e)) [
      | inl before ↦ longer (was_cut d c before)
      | inr now ↦ record { entry = x; before = d; past = record { later = []; is = refl }; made = now }
    ]
    | inr other ↦ longer (was_cut d c (rw other at e))
  ] where
    longer : WasCut d c → WasCut (x ∷ d) c
    longer r = record { entry = r.entry; before = r.before; past = record { later = x ∷ r.past.later; is = ap (λ (y : History). x ∷ y) r.past.is }; made = r.made }

  -- It certifies a floor, and is not above the stable certificate.
  pub record IsLowFloor (d : History) (c : FloorCert) : Type 0 where
    pub floor : Floor
    pub certified : certified_floor system.schedule.shape (valid self) h c ≡ Some floor
    pub low : c.pos ≤ low_of self d

  pub low_floor : (d : History) (c : FloorCert) → IsPast d (w.histories h) → log_floor self d ≡ Some c → IsLowFloor d c
  low_floor d c past e =
      let r : WasCut d c = was_cut d c e in
      let e' : History = r.entry ∷ r.before in
      let back : IsPast e' (w.histories h) = past_past e' d (w.histories h) r.past past in
      let a : Arises self e' = arises_by self back.later e' (subst (λ (y : History). Arises self y) (sym back.is) (f.arises h)) in
      let low : ℕ = low_of self e' in
      let grown = low_since self e' d r.past in
      let positive = f.shape.intervals.0 in
      let above : (p : ℕ) → low < p → floor_at system.schedule.shape e' h p ≡ Some c → ⊥ = λ p lt made. let g = agreed_if_floor self e' h p c made in none_above e' back a p lt g.0 g.1 in
      elim (or_some (floor_at system.schedule.shape e' h (low + span system.schedule.shape)) _ c r.made) [
        | inl far ↦ absurd (above (low + span system.schedule.shape) (omega (arith, positive)) far)
        | inr rest ↦ elim (or_some (floor_at system.schedule.shape e' h (low + interval system.schedule.shape)) (floor_at system.schedule.shape e' h low) c rest) [
          | inl near ↦ absurd (above (low + interval system.schedule.shape) (omega (arith, positive)) near)
          | inr here ↦ let k = floor_certifies self h e' a low c here in record { floor = k.0; certified = k.1; low = omega (arith, k.2, grown) }
        ]
      ]
