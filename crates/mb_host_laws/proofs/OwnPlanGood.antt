-- The base of the plan of the VIEW_CHANGEs that a host holds is good, and the plan ends within two checkpoint intervals behind it.
use Rattle.std.proofs.Common.{◌≡◌, ℕ, zero, suc, ◌+◌, ◌-◌, ◌^◌, ◌<◌, ◌≤◌, ◌&&◌, List, [], ◌∷◌, length, refl, subst, inl, inr, arith, Option, Some, None}
use Rattle.std.specs.Prelude.{◌==◌, not, take, find, filter, nat_lt, nat_le, is_none, option_map, slice_get}
use Rattle.std.specs.List.{AllByRecursion, range_with_len}
use Rattle.std.proofs.lemmas.Bool.{cases_Bool, eqb-true, ltb-true}
use Rattle.std.proofs.lemmas.Option.{slice_get_within}
use Rattle.mb_base.specs.Shapes.{Bytes, quorum, host_count, span}
use Rattle.mb_parts.specs.declared.batch.Batch.{Batch}
use Rattle.mb_parts.specs.declared.certificates.Evidence.{Evidence}
use Rattle.mb_parts.specs.Claims.{Claim}
use Rattle.mb_parts.specs.Fits.{FitsEvidence}
use Rattle.mb_msg.specs.declared.message.Body.{Body}
use Rattle.mb_msg.specs.declared.message.Body.TheVariants.{Whole, Bare as Short}
use Rattle.mb_msg.specs.declared.message.Message.TheVariants as message
use Rattle.mb_msg.specs.declared.change.ChangeBody.{ChangeBody}
use Rattle.mb_msg.specs.declared.change.ViewChange.{ViewChange}
use Rattle.mb_msg.specs.declared.change.OpenBody.{OpenBody}
use Rattle.mb_msg.specs.declared.stamped.Shown.{Shown}
use Rattle.mb_msg.specs.declared.stamped.Shown.TheVariants as shown
use Rattle.mb_msg.specs.declared.stamped.Stamped.TheVariants as stamped
use Rattle.mb_msg.specs.Bodies.{FitsBody, whole_body, inside_whole}
use Rattle.mb_msg.specs.Fits.{FitsViewChange, FitsChangeBody, FitsShown, FitsOpenBody}
use Rattle.mb_msg.specs.Plans.{plan_end}
use Rattle.mb_msg.specs.Stamps.{bare_of}
use Rattle.mb_model.specs.Held.{is_current, change_fault, change_in, arrived, changes_of, by_rising_host, chosen, shown_log, logs_of, plan_from}
use Rattle.mb_model.specs.Histories.{Entry, Accepted, Stamped, History, Identity}
use Rattle.mb_model.specs.Plans.{ShownLog, ShownVote, newest, opened_view, plan_vote, vote_since, lower_vote, log_of, same_view, lowest_vote, if_voted, batches_from, by_host, of_view, highest_view, base_of, plan_in_order}
use Rattle.mb_model.specs.UsableLogs.{is_whole}
use Rattle.mb_model.specs.Members.{In}
use Rattle.mb_model.proofs.Members.{in_left}
use Rattle.mb_model.proofs.Options.{if_some, map_some}
use Rattle.mb_steps.proofs.StepPlanBases.{all_append, all_filter, all_found, all_any}
use Rattle.mb_model.specs.Inside.{claims_in, change_claims, sender_claim, stamped_claims}
use Rattle.mb_host_laws.proofs.Cases.{all_taken, some_is, whole_is}
use Rattle.mb_host_laws.proofs.Found.{all_newest}
use Rattle.mb_host_laws.specs.Rests.{Each}
use Rattle.mb_host_laws.proofs.PlanFits.{HasBases, log_has, plan_has}
use Rattle.mb_host_laws.proofs.OwnKnown.{IsLowBody, IsLowEntry, GoodStable, GoodChange, Known}
use Rattle.mb_host_laws.proofs.HeldStable.{none_good, change_good}

module _ {S : Type 0} (self : Identity S) (Good : Claim → Type 0) (Text : Bytes → Type 0) where
  abbrev AllKnown : History → Type 0
  AllKnown d = Each (Known self Good Text) d

  abbrev Bases : ShownLog → Type 0
  Bases log = HasBases self.shape (GoodStable self Good Text) (none_good self Good Text) log

  abbrev LowBases : ShownLog → Type 0
  LowBases log = Bases log × AllByRecursion IsLowEntry log.body.entries

  body_low : (e : Evidence) (b : Body OpenBody) → FitsEvidence self.shape e → FitsBody (FitsOpenBody self.shape e) b → IsLowBody e b
  body_low e (Whole b) f x = omega (arith, f.end.0, f.end.1.1, x.1.1)
  body_low e (Short d) f x = tt

  entry_low : (e : Shown) → FitsShown self.shape e → IsLowEntry e
  entry_low (shown.Prepare m) f = f.pos.1
  entry_low (shown.Commit m) f = f.pos.1
  entry_low (shown.Open m) f = body_low m.evidence m.body f.evidence f.body
  entry_low (shown.Checkpoint m) f = tt
  entry_low (shown.ViewChange m) f = tt
  entry_low (shown.NewView m) f = tt
  entry_low (shown.Enter m) f = tt
  entry_low (shown.Join m) f = tt

  entries_low : (l : List Shown) → AllByRecursion (FitsShown self.shape) l → AllByRecursion IsLowEntry l
  entries_low [] a = tt
  entries_low (e ∷ l) a = (entry_low e a.0, entries_low l a.1)

  -- what a VIEW_CHANGE that is held shows
  abbrev HasLog : ViewChange → Type 0
  HasLog m = (log : ShownLog) → shown_log m ≡ Some log → Bases log × AllByRecursion IsLowEntry log.body.entries

  claims_inside : (m : ViewChange) (b : ChangeBody) → m.body ≡ Whole b → (c : Claim) → In (change_claims self.shape b) c → In (claims_in self.shape (message.ViewChange m)) c
  unfolding claims_in stamped_claims
  claims_inside m b is c i = in_left (inside_whole (change_claims self.shape) m.body) (sender_claim m.ui (bare_of (stamped.ViewChange m)) ∷ []) c (rw is i)

  entry_log : (d : History) (e : Entry) → Known self Good Text e d → (m : ViewChange) → change_in self d e ≡ Some m → HasLog m
  entry_log d (Accepted (message.ViewChange n)) k m e =
      let t = if_some (is_whole n.body && is_current self d n.view) (Some n) m e in
      subst HasLog (some_is n m t.1) (λ log s.
      let b = map_some (λ (b : ChangeBody). record { host = n.ui.host; body = b }) (whole_body n.body) log s in
      let is : n.body ≡ Whole b.0 = whole_is n.body b.0 b.1 in
      let f : FitsViewChange self.shape n = k.fits in
      let fits : FitsChangeBody self.shape b.0 = subst (λ (x : Body ChangeBody). FitsBody (FitsChangeBody self.shape) x) is f.body in
      subst LowBases b.2 (change_good self Good Text n.ui.host b.0 fits (λ c i. k.claims c (claims_inside n b.0 is c i)), entries_low b.0.entries fits.entries))
  entry_log d (Stamped (stamped.ViewChange n)) k m e =
      let t = if_some (is_whole n.body && is_none (change_fault self n)) (Some n) m e in
      subst HasLog (some_is n m t.1) (λ log s.
      let b = map_some (λ (b : ChangeBody). record { host = n.ui.host; body = b }) (whole_body n.body) log s in
      let g : GoodChange self Good Text b.0 = k.body b.0 (whole_is n.body b.0 b.1) in
      subst LowBases b.2 (log_has self.shape (GoodStable self Good Text) (none_good self Good Text) (record { host = n.ui.host; body = b.0 }) g.stable g.entries, g.low))
  entry_log d e k m is = absurd cc

  arrived_log : (x : Option ViewChange) (l : List ViewChange) → ((m : ViewChange) → x ≡ Some m → HasLog m) → AllByRecursion HasLog l → AllByRecursion HasLog (arrived self x l)
  arrived_log None l new a = a
  arrived_log (Some m) l new a = all_append HasLog (filter (λ c. not (c.ui.host == m.ui.host)) l) (m ∷ []) (all_filter HasLog _ l a) (new m refl, tt)

  held_logs : (d : History) → AllKnown d → AllByRecursion HasLog (changes_of self d)
  unfolding changes_of
  held_logs [] k = tt
  held_logs (e ∷ d) k = arrived_log (change_in self d e) (changes_of self d) (λ m is. entry_log d e k.0 m is) (held_logs d k.1)

  find_all : (P : ViewChange → Type 0) (h : ℕ) (l : List ViewChange) → AllByRecursion P l → (m : ViewChange) → find (λ c. c.ui.host == h) l ≡ Some m → P m
  find_all P h [] a m e = absurd cc
  find_all P h (x ∷ l) a m e = elim (cases_Bool (x.ui.host == h)) [
    | inl here ↦ subst P (some_is x m (rw here at e)) a.0
    | inr other ↦ find_all P h l a.1 m (rw other at e)
  ]

  chosen_logs : (d : History) → AllKnown d → (v : ℕ) (changes : List ViewChange) → chosen self d v ≡ Some changes → AllByRecursion HasLog changes
  chosen_logs d k v changes e =
      let l : List ViewChange = filter (λ c. c.view == v) (changes_of self d) in
      let t = if_some (nat_le (quorum self.shape) (length l)) (Some (by_rising_host self (take (quorum self.shape) l))) changes e in
      let first : List ViewChange = take (quorum self.shape) l in
      let is : by_rising_host self first ≡ changes = cc t.1 in
      let all : AllByRecursion HasLog first = all_taken HasLog (quorum self.shape) l (all_filter HasLog (λ c. c.view == v) (changes_of self d) (held_logs d k)) in
      subst (AllByRecursion HasLog) is (all_found (λ (h : ℕ). Unit {0}) HasLog (λ h. find (λ c. c.ui.host == h) first) (λ h m u f. find_all HasLog h first all m f) (range_with_len 0 (host_count self.shape)) (all_any (range_with_len 0 (host_count self.shape))))

  -- The base is good.
  pub chosen_base : (d : History) → AllKnown d → (v : ℕ) (changes : List ViewChange) → chosen self d v ≡ Some changes → GoodStable self Good Text (plan_from self changes).base
  chosen_base d k v changes e = plan_has self.shape (GoodStable self Good Text) (none_good self Good Text) (logs_of changes) (all_found HasLog Bases shown_log (λ m log h s. (h log s).0) changes (chosen_logs d k v changes e))

  -- A plan is no longer than the window.
  voted_short : (x : Option ShownVote) (more : List Batch) (n : ℕ) → length more ≤ n → length (if_voted x more) ≤ suc n
  voted_short None more n le = omega arith
  voted_short (Some v) more n le = omega (arith, le)

  batches_short : (logs : List ShownLog) (p n : ℕ) → length (batches_from logs p n) ≤ n
  unfolding batches_from
  batches_short logs p zero = omega arith
  batches_short logs p (suc n) = voted_short (lowest_vote p logs) (batches_from logs (p + 1) n) n (batches_short logs (p + 1) n)

  pub plan_short : (changes : List ViewChange) → plan_end (plan_from self changes) ≤ (plan_from self changes).base.pos + span self.shape
  unfolding plan_in_order by_host
  plan_short changes =
      let logs : List ShownLog = by_host self.shape (logs_of changes) in
      let short = batches_short (of_view (highest_view logs) logs) ((base_of logs).pos + 1) (span self.shape) in
      omega (arith, short)

  -- ---- it ends at a position: each of them has a vote in a log

  vote_low : (p : ℕ) (l : List Shown) → AllByRecursion IsLowEntry l → (v : ShownVote) → vote_since p l ≡ Some v → p < 2 ^ 63
  vote_low p [] a v e = absurd cc
  vote_low p (shown.Prepare m ∷ l) a v e = elim (cases_Bool (m.pos == p)) [
    | inl here ↦ subst (λ (q : ℕ). q < 2 ^ 63) (eqb-true m.pos p here) a.0
    | inr other ↦ vote_low p l a.1 v (rw other at e)
  ]
  vote_low p (shown.Commit m ∷ l) a v e = elim (cases_Bool (m.pos == p)) [
    | inl here ↦ subst (λ (q : ℕ). q < 2 ^ 63) (eqb-true m.pos p here) a.0
    | inr other ↦ vote_low p l a.1 v (rw other at e)
  ]
  vote_low p (shown.Open m ∷ l) a v e = in_plan m.evidence m.body a.0 v e where
    in_plan : (c : Evidence) (b : Body OpenBody) → IsLowBody c b → (v : ShownVote) → plan_vote c.base c.counter p b ≡ Some v → p < 2 ^ 63
    in_plan c (Whole b) low v e =
        let t = if_some (nat_lt c.base p) (option_map (λ (r : Batch). (c.counter, r)) (slice_get b.batches (p - c.base - 1))) v e in
        let r = map_some (λ (r : Batch). (c.counter, r)) (slice_get b.batches (p - c.base - 1)) v t.1 in
        omega (arith, low, ltb-true c.base p t.0, slice_get_within b.batches (p - c.base - 1) r.0 r.1)
    in_plan c (Short d) low v e = absurd cc
  vote_low p (shown.Join m ∷ l) a v e = absurd cc
  vote_low p (shown.Checkpoint m ∷ l) a v e = vote_low p l a.1 v e
  vote_low p (shown.ViewChange m ∷ l) a v e = vote_low p l a.1 v e
  vote_low p (shown.NewView m ∷ l) a v e = vote_low p l a.1 v e
  vote_low p (shown.Enter m ∷ l) a v e = vote_low p l a.1 v e

  abbrev IsLowLog : ShownLog → Type 0
  IsLowLog log = AllByRecursion IsLowEntry log.body.entries

  either_low : (p : ℕ) (x y : Option ShownVote) → ((v : ShownVote) → x ≡ Some v → p < 2 ^ 63) → ((v : ShownVote) → y ≡ Some v → p < 2 ^ 63) → (v : ShownVote) → lower_vote x y ≡ Some v → p < 2 ^ 63
  either_low p (Some a) y f g v e = f a refl
  either_low p None y f g v e = g v e

  lowest_low : (p : ℕ) (logs : List ShownLog) → AllByRecursion IsLowLog logs → (v : ShownVote) → lowest_vote p logs ≡ Some v → p < 2 ^ 63
  lowest_low p [] a v e = absurd cc
  lowest_low p (log ∷ logs) a v e = either_low p (vote_since p (newest log)) (lowest_vote p logs) (λ v e. vote_low p (newest log) (all_newest IsLowEntry [] log.body.entries tt a.0) v e) (λ v e. lowest_low p logs a.1 v e) v e

  voted_low : (p n : ℕ) (x : Option ShownVote) (more : List Batch) → ((v : ShownVote) → x ≡ Some v → p < 2 ^ 63) → (p < 2 ^ 63 → p + 1 + length more ≤ 2 ^ 63) → p ≤ 2 ^ 63 → p + length (if_voted x more) ≤ 2 ^ 63
  voted_low p n None more f g le = omega (arith, le)
  voted_low p n (Some v) more f g le = omega (arith, g (f v refl))

  batches_low : (logs : List ShownLog) → AllByRecursion IsLowLog logs → (p n : ℕ) → p ≤ 2 ^ 63 → p + length (batches_from logs p n) ≤ 2 ^ 63
  unfolding batches_from
  batches_low logs a p zero le = omega (arith, le)
  batches_low logs a p (suc n) le = voted_low p n (lowest_vote p logs) (batches_from logs (p + 1) n) (λ v e. lowest_low p logs a v e) (λ lt. batches_low logs a (p + 1) n (omega (arith, lt))) le

  one_low : (logs : List ShownLog) → AllByRecursion IsLowLog logs → (h : ℕ) (log : ShownLog) → log_of logs h ≡ Some log → IsLowLog log
  one_low [] a h log e = absurd cc
  one_low (x ∷ logs) a h log e = elim (cases_Bool (x.host == h)) [
    | inl here ↦ subst IsLowLog (some_is x log (rw here at e)) a.0
    | inr other ↦ one_low logs a.1 h log (rw other at e)
  ]

  pub plan_low : (d : History) → AllKnown d → (v : ℕ) (changes : List ViewChange) → chosen self d v ≡ Some changes → plan_end (plan_from self changes) < 2 ^ 63
  unfolding plan_in_order by_host
  plan_low d k v changes e =
      let given : AllByRecursion IsLowLog (logs_of changes) = all_found HasLog IsLowLog shown_log (λ m log h s. (h log s).1) changes (chosen_logs d k v changes e) in
      let logs : List ShownLog = by_host self.shape (logs_of changes) in
      let all : AllByRecursion IsLowLog logs = all_found (λ (h : ℕ). Unit {0}) IsLowLog (λ h. log_of (logs_of changes) h) (λ h log u e. one_low (logs_of changes) given h log e) (range_with_len 0 (host_count self.shape)) (all_any (range_with_len 0 (host_count self.shape))) in
      let base = (chosen_base d k v changes e).fits.pos.0 in
      let low = batches_low (of_view (highest_view logs) logs) (all_filter IsLowLog (λ log. same_view (opened_view log) (highest_view logs)) logs all) ((base_of logs).pos + 1) (span self.shape) (omega (arith, base)) in
      omega (arith, low)
