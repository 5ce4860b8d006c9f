-- The base of a plan that follows from usable logs is a stable certificate that is valid: it is one that a log shows, or that of position 0.
use Rattle.std.proofs.Common.{◌≡◌, ℕ, Bool, true, not, List, [], ◌∷◌, ◌++◌, refl, subst, inl, inr, Option, Some, None}
use Rattle.std.specs.Prelude.{◌==◌, map, filter, filter_map, unwrap_or, option_and_then}
use Rattle.std.specs.List.{AllByRecursion, range_with_len}
use Rattle.std.proofs.lemmas.Bool.{and_parts, or_parts, cases_Bool, not-false}
use Rattle.mb_base.specs.Shapes.{Bytes, host_count}
use Rattle.mb_base.specs.declared.shape.Shape.{Shape}
use Rattle.mb_parts.specs.declared.floor.Floor.{Floor}
use Rattle.mb_parts.specs.declared.certificates.StableCert.{StableCert}
use Rattle.mb_parts.specs.Claims.{Claim}
use Rattle.mb_parts.specs.Certificates.{is_stable, inner_valid}
use Rattle.mb_msg.specs.declared.message.Body.{Body}
use Rattle.mb_msg.specs.declared.message.Body.TheVariants.{Whole, Bare as Short}
use Rattle.mb_msg.specs.declared.change.OpenBody.{OpenBody}
use Rattle.mb_msg.specs.declared.change.ChangeBody.{ChangeBody}
use Rattle.mb_msg.specs.declared.change.ViewChange.{ViewChange}
use Rattle.mb_msg.specs.declared.stamped.Shown.{Shown}
use Rattle.mb_msg.specs.declared.stamped.Shown.TheVariants as shown
use Rattle.mb_model.specs.UsableLogs.{bares, newest_first, floor_of, fault_from, is_comparable_body, is_sound_plan, log_fault}
use Rattle.mb_model.specs.Plans.{ShownLog, newest, body_base, base_shown, log_of, by_host, of_view, highest_view, stable_of, opening_bases, greatest_position, cert_at, no_base, all_bases, base_of, plan_in_order, plan_of, opened_view, same_view}
use Rattle.mb_model.specs.Histories.{Identity}
use Rattle.mb_model.specs.Held.{change_fault, shown_log, logs_of, plan_from}
use Rattle.mb_msg.specs.Bodies.{whole_body}
use Rattle.mb_model.specs.GateChecks.{valid}
use Rattle.mb_model.proofs.Options.{option_cases, or_none, then_none, map_some}
use Rattle.mb_model.proofs.UsableLaws.{AreSound, all_sound}
use Rattle.mb_steps.proofs.StepHeldEvidence.{some_is, join_inside, join_stable_valid}

-- ---- what holds of all members of a list

pub all_filter : {A : Type 0} (P : A → Type 0) (t : A → Bool) (l : List A) → AllByRecursion P l → AllByRecursion P (filter t l)
all_filter P t [] a = tt
all_filter P t (x ∷ l) a = elim (cases_Bool (t x)) [
  | inl stays ↦ rw stays (a.0, all_filter P t l a.1)
  | inr goes ↦ rw goes (all_filter P t l a.1)
]

pub all_append : {A : Type 0} (P : A → Type 0) (l m : List A) → AllByRecursion P l → AllByRecursion P m → AllByRecursion P (l ++ m)
all_append P [] m a b = b
all_append P (x ∷ l) m a b = (a.0, all_append P l m a.1 b)

all_map : {A B : Type 0} (P : A → Type 0) (Q : B → Type 0) (f : A → B) → ((x : A) → P x → Q (f x)) → (l : List A) → AllByRecursion P l → AllByRecursion Q (map f l)
all_map P Q f so [] a = tt
all_map P Q f so (x ∷ l) a = (so x a.0, all_map P Q f so l a.1)

pub all_found : {A B : Type 0} (P : A → Type 0) (Q : B → Type 0) (f : A → Option B) → ((x : A) (y : B) → P x → f x ≡ Some y → Q y) → (l : List A) → AllByRecursion P l → AllByRecursion Q (filter_map f l)
all_found P Q f so [] a = tt
all_found P Q f so (x ∷ l) a = elim (option_cases (f x)) [
  | inl none ↦ rw none (all_found P Q f so l a.1)
  | inr (y, some) ↦ rw some (so x y a.0 some, all_found P Q f so l a.1)
]

pub all_any : {A : Type 0} (l : List A) → AllByRecursion (λ (x : A). Unit {0}) l
all_any [] = tt
all_any (x ∷ l) = (tt, all_any l)

module _ (s : Shape) (secret : Bytes) (f : Claim → Bool) where
  abbrev IsStable : StableCert → Type 0
  IsStable c = is_stable s f c ≡ true

  -- ---- what one log shows

  base_stable : (b : Body OpenBody) (base end : ℕ) (plan : Bytes) → is_sound_plan s secret f base end plan b ≡ true → (c : StableCert) → body_base b ≡ Some c → IsStable c
  base_stable (Whole b) base end plan sound c e = subst (λ (x : StableCert). IsStable x) (some_is b.stable c e) (and_parts (is_stable s f b.stable) _ (and_parts (is_comparable_body s secret f base end b) _ sound).0).0
  base_stable (Short digest) base end plan sound c e = absurd cc

  shown_stable : (host stable : ℕ) (o : Floor) (l : List Shown) → AreSound s secret f host stable o l → (c : StableCert) → base_shown l ≡ Some c → IsStable c
  shown_stable host stable o [] a c e = absurd cc
  shown_stable host stable o (shown.Open m ∷ l) a c e = base_stable m.body m.evidence.base m.evidence.end m.evidence.plan a.0.body c e
  shown_stable host stable o (shown.Join m ∷ l) a c e = subst (λ (x : StableCert). IsStable x) (some_is m.stable c e)
      (join_stable_valid s f m.view m.evidence m.stable (join_inside o s host (inner_valid s f) (bares l) m.view m.evidence m.stable a.0.permitted))
  shown_stable host stable o (_ ∷ l) a c e = shown_stable host stable o l a.1 c e

  -- The certificates that a log shows for bases are valid.
  pub record IsBased (log : ShownLog) : Type 0 where
    pub stable : IsStable log.body.stable
    pub base : (c : StableCert) → base_shown (newest log) ≡ Some c → IsStable c

  pub usable_based : (host view counter : ℕ) (b : ChangeBody) → log_fault s secret f host view counter b ≡ None → IsBased (record { host = host; body = b })
  unfolding log_fault
  usable_based host view counter b e = go (floor_of s f host b.floor) e where
    go : (o : Option Floor) → fault_from s secret f host view counter b o ≡ None → IsBased (record { host = host; body = b })
    go None e = absurd cc
    go (Some o) e =
        let a = or_none _ _ e in
        let c = or_none _ _ a.1 in
        let g = or_none _ _ c.1 in
        record {
          stable = not-false _ (or_parts (not (is_stable s f b.stable)) _ (then_none _ _ a.0)).0;
          base = shown_stable host b.stable.pos o (newest_first [] b.entries) (all_sound s secret f host b.stable.pos o [] b.entries g.0 tt);
        }

  -- ---- all the logs

  cert_stable : (p : ℕ) (l : List StableCert) → AllByRecursion IsStable l → (c : StableCert) → cert_at p l ≡ Some c → IsStable c
  cert_stable p [] a c e = absurd cc
  cert_stable p (x ∷ l) a c e = elim (cases_Bool (x.pos == p)) [
    | inl here ↦ subst (λ (y : StableCert). IsStable y) (some_is x c (rw here at e)) a.0
    | inr other ↦ cert_stable p l a.1 c (rw other at e)
  ]

  none_stable : IsStable no_base
  unfolding is_stable
  none_stable = refl

  all_stable : (logs : List ShownLog) → AllByRecursion IsBased logs → AllByRecursion IsStable (all_bases logs)
  all_stable logs a = all_append IsStable (map stable_of logs) (opening_bases (of_view (highest_view logs) logs))
      (all_map IsBased IsStable stable_of (λ log b. b.stable) logs a)
      (all_found IsBased IsStable (λ log. base_shown (newest log)) (λ log c b e. b.base c e) (of_view (highest_view logs) logs) (all_filter IsBased (λ log. same_view (opened_view log) (highest_view logs)) logs a))

  greatest_stable : (logs : List ShownLog) → AllByRecursion IsBased logs → IsStable (base_of logs)
  greatest_stable logs a = go (cert_at (greatest_position (all_bases logs)) (all_bases logs)) refl where
    go : (x : Option StableCert) → cert_at (greatest_position (all_bases logs)) (all_bases logs) ≡ x → IsStable (unwrap_or x no_base)
    go None e = none_stable
    go (Some c) e = cert_stable (greatest_position (all_bases logs)) (all_bases logs) (all_stable logs a) c e

  log_based : (logs : List ShownLog) → AllByRecursion IsBased logs → (h : ℕ) (log : ShownLog) → log_of logs h ≡ Some log → IsBased log
  log_based [] a h log e = absurd cc
  log_based (x ∷ logs) a h log e = elim (cases_Bool (x.host == h)) [
    | inl here ↦ subst (λ (y : ShownLog). IsBased y) (some_is x log (rw here at e)) a.0
    | inr other ↦ log_based logs a.1 h log (rw other at e)
  ]

  -- the base of the plan of such logs
  pub plan_based : (logs : List ShownLog) → AllByRecursion IsBased logs → IsStable (plan_of s logs).base
  unfolding plan_in_order by_host
  plan_based logs a = greatest_stable (filter_map (λ h. log_of logs h) (range_with_len 0 (host_count s)))
      (all_found (λ (h : ℕ). Unit {0}) IsBased (λ h. log_of logs h) (λ h log u e. log_based logs a h log e) (range_with_len 0 (host_count s)) (all_any (range_with_len 0 (host_count s))))

module _ {S : Type 0} (self : Identity S) where
  -- It is usable, or shows nothing.
  abbrev pub IsUsable : ViewChange → Type 0
  IsUsable m = change_fault self m ≡ None

  log_shown : (m : ViewChange) (log : ShownLog) → IsUsable m → shown_log m ≡ Some log → IsBased self.shape self.secret (valid self) log
  log_shown m log u e =
      let b = map_some (λ (b : ChangeBody). record { host = m.ui.host; body = b }) (whole_body m.body) log e in
      subst (λ (y : ShownLog). IsBased self.shape self.secret (valid self) y) b.2 (usable_based self.shape self.secret (valid self) m.ui.host m.view m.ui.counter b.0 (shows (whole_body m.body) b.0 b.1 u)) where
        shows : (x : Option ChangeBody) (b : ChangeBody) → x ≡ Some b → option_and_then (log_fault self.shape self.secret (valid self) m.ui.host m.view m.ui.counter) x ≡ None
            → log_fault self.shape self.secret (valid self) m.ui.host m.view m.ui.counter b ≡ None
        shows x b is u = rw is at u

  -- A plan of usable VIEW_CHANGEs has a stable base.
  pub changes_based : (changes : List ViewChange) → AllByRecursion IsUsable changes → is_stable self.shape (valid self) (plan_from self changes).base ≡ true
  changes_based changes a = plan_based self.shape self.secret (valid self) (logs_of changes) (all_found IsUsable (IsBased self.shape self.secret (valid self)) shown_log log_shown changes a)
