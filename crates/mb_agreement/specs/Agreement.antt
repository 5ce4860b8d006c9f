-- What all hosts stamped, and what it decides: the agreement across views. Nothing of hosts' code, events or messages on their way is in it.
use Rattle.std.specs.Prelude.{◌≡◌, ℕ, ◌+◌, ◌≤◌, ◌<◌, ◌⊎◌, Bool, true, List, length, map, Some, None, IsTrue, Contains}
use Rattle.std.specs.List.{AllByRecursion}
use Rattle.mb_base.specs.Shapes.{Bytes, primary, quorum, host_count}
use Rattle.mb_base.specs.declared.shape.Shape.{Shape}
use Rattle.mb_parts.specs.declared.floor.Floor.{Floor}
use Rattle.mb_parts.specs.declared.certificates.FloorCert.{FloorCert}
use Rattle.mb_parts.specs.declared.certificates.Evidence.{Evidence}
use Rattle.mb_parts.specs.Bares.{Bare, batch_digest}
use Rattle.mb_parts.specs.Bares as bare
use Rattle.mb_parts.specs.Counters.{at_counter, first}
use Rattle.mb_parts.specs.Claims.{Claim, are_rising}
use Rattle.mb_parts.specs.Certificates.{certified_floor, is_evidence, inner_valid}
use Rattle.mb_parts.specs.Ordered.{initial_floor, is_ordered, permits, floor_after}
use Rattle.mb_msg.specs.declared.message.Body.{Body}
use Rattle.mb_msg.specs.declared.message.Body.TheVariants.{Whole, Bare as Short}
use Rattle.mb_msg.specs.declared.change.OpenBody.{OpenBody}
use Rattle.mb_msg.specs.declared.change.Plan.{Plan}
use Rattle.mb_msg.specs.declared.stamped.Shown.{Shown}
use Rattle.mb_msg.specs.declared.stamped.Shown.TheVariants as shown
use Rattle.mb_msg.specs.Plans.{plan_end}
use Rattle.mb_model.specs.declared.known.Vote.{Vote}
use Rattle.mb_model.specs.UsableLogs.{log_fault}
use Rattle.mb_model.specs.Plans.{ShownLog, newest, plan_of}
use Rattle.mb_model.specs.Committed.{Plans, PlanText, planned, IsCommitted}

-- ---- the parts of the record of what hosts stamped

-- what a plan's digest stands for
abbrev pub text_of : Plan → PlanText
text_of p = record { base = p.base.pos; digests = map batch_digest p.batches }

-- The digest of the plan that an OPEN shows whole stands for that plan.
abbrev pub IsKnownBody : Plans → ℕ → Bytes → Body OpenBody → Type 0
IsKnownBody plans base plan (Whole b) = plans plan ≡ Some (record { base = base; digests = map batch_digest b.batches })
IsKnownBody plans base plan (Short digest) = Unit {0}

-- of an entry: only an OPEN shows a plan
abbrev pub IsKnownPlan : Plans → Shown → Type 0
IsKnownPlan plans (shown.Open m) = IsKnownBody plans m.evidence.base m.evidence.plan m.body
IsKnownPlan plans _ = Unit {0}

-- A floor is where the ordered prefix of its host's list led at that counter, and hides nothing above its position.
pub record IsSoundFloor (prefix : ℕ → List Bare) (host position : ℕ) (f : Floor) : Type 0 where
  pub short : f.counter ≤ length (prefix host)
  pub stands : floor_after initial_floor (first f.counter (prefix host)) ≡ f
  pub low : f.top ≤ position

-- A usable log to a view, which its host stamped. Its floor is sound and the plans that it shows are known: both come of the digests in it,
-- where each stands for one string.
pub record IsUsableLog (s : Shape) (secret : Bytes) (plans : Plans) (issued : Claim → Bool) (prefix : ℕ → List Bare) (view : ℕ) (log : ShownLog) : Type 0 where
  pub counter : ℕ
  pub digest : Bytes
  pub cert : Bytes
  pub stamped : IsTrue (issued (record { host = log.host; counter = counter; says = bare.ViewChange view digest; cert = cert }))
  pub usable : log_fault s secret issued log.host view counter log.body ≡ None
  pub floor : (c : FloorCert) (f : Floor) → log.body.floor ≡ Some c → certified_floor s issued log.host c ≡ Some f → IsSoundFloor prefix log.host c.pos f
  pub known : AllByRecursion (IsKnownPlan plans) (newest log)

-- Evidence is of the plan of f+1 usable logs, of different hosts, to its view.
pub record IsMadeOf (s : Shape) (secret : Bytes) (plans : Plans) (issued : Claim → Bool) (prefix : ℕ → List Bare) (e : Evidence) (logs : List ShownLog) : Type 0 where
  pub many : length logs ≡ quorum s
  pub rising : are_rising (map (λ l. l.host) logs) ≡ true
  pub usable : AllByRecursion (λ l. (l.host < host_count s) × IsUsableLog s secret plans issued prefix e.view l) logs
  pub base : e.base ≡ (plan_of s logs).base.pos
  pub end : e.end ≡ plan_end (plan_of s logs)
  pub plan : plans e.plan ≡ Some (text_of (plan_of s logs))

-- The record of what hosts stamped is consistent. `prefix h` is the longest ordered prefix of what host h stamped, newest first; `issued`
-- says of a claim that its host stamped that message at that counter.
pub record IsConsistentRecord (s : Shape) (secret : Bytes) (plans : Plans) (issued : Claim → Bool) (prefix : ℕ → List Bare) : Type 0 where
  -- The prefixes are ordered.
  pub ordered : (h : ℕ) → is_ordered initial_floor s h (inner_valid s issued) (prefix h) ≡ true
  -- What is issued and not behind a prefix stands in it.
  pub stands : (c : Claim) → issued c ≡ true → c.counter ≤ length (prefix c.host) → at_counter (prefix c.host) c.counter ≡ Some c.says
  -- What is issued right behind a prefix may not stand there.
  pub maximal : (c : Claim) → issued c ≡ true → c.counter ≡ length (prefix c.host) + 1 → permits initial_floor s c.host (inner_valid s issued) (prefix c.host) c.says ≡ true → ⊥
  -- Issued evidence is of a plan that follows from usable logs: one of its hosts is correct, and made the plan or checked it.
  pub evidences : (e : Evidence) → is_evidence s issued e ≡ true → (logs : List ShownLog) × IsMadeOf s secret plans issued prefix e logs
  -- The NEW_VIEW of issued evidence is in its primary's prefix: that correct host stamped it, or took it in order.
  pub new_views : (e : Evidence) → is_evidence s issued e ≡ true → at_counter (prefix (primary s e.view)) e.counter ≡ Some (bare.NewView e.view e.base e.end e.plan e.body)

-- ---- what it decides

module _ (s : Shape) (secret : Bytes) (plans : Plans) (issued : Claim → Bool) (prefix : ℕ → List Bare) where
  -- Two evidences of one view are of one NEW_VIEW.
  abbrev pub OneEvidence : Type 0
  OneEvidence = (d e : Evidence) → is_evidence s issued d ≡ true → is_evidence s issued e ≡ true → d.view ≡ e.view
      → (d.counter ≡ e.counter) × (d.base ≡ e.base) × (d.end ≡ e.end) × (d.plan ≡ e.plan)

  -- At most one NEW_VIEW of a view is in its primary's prefix.
  abbrev pub OneNewView : Type 0
  OneNewView = (v c c' base end base' end' : ℕ) (plan digest plan' digest' : Bytes)
      → at_counter (prefix (primary s v)) c ≡ Some (bare.NewView v base end plan digest)
      → at_counter (prefix (primary s v)) c' ≡ Some (bare.NewView v base' end' plan' digest') → c ≡ c'

  -- What is committed in a view is in the plan of each later view, or at or below its base.
  abbrev pub CommittedStays : Type 0
  CommittedStays = (v p : ℕ) (x : Vote) (e : Evidence) → IsCommitted plans s prefix v p x → is_evidence s issued e ≡ true → v < e.view
      → (p ≤ e.base) ⊎ (planned (plans e.plan) p ≡ Some x.request)

  -- One position of one view has one committed vote.
  abbrev pub OneVote : Type 0
  OneVote = (v p : ℕ) (x y : Vote) → IsCommitted plans s prefix v p x → IsCommitted plans s prefix v p y → x ≡ y

  -- What is committed in a view above 0 is behind the base of that view's plan, and within the plan it is what the plan has there.
  abbrev pub CommittedInPlan : Type 0
  CommittedInPlan = (v p : ℕ) (x : Vote) (e : Evidence) → IsCommitted plans s prefix v p x → is_evidence s issued e ≡ true → e.view ≡ v → 0 < v
      → (e.base < p) × (p ≤ e.end → planned (plans e.plan) p ≡ Some x.request)

  -- One position has one committed batch, whatever the views.
  abbrev pub OneBatch : Type 0
  OneBatch = (v w p : ℕ) (x y : Vote) → IsCommitted plans s prefix v p x → IsCommitted plans s prefix w p y → x.request ≡ y.request

  -- all of this, of one record
  pub record Agrees : Type 0 where
    pub one_evidence : OneEvidence
    pub one_new_view : OneNewView
    pub one_vote : OneVote
    pub committed_stays : CommittedStays
    pub committed_in_plan : CommittedInPlan
    pub one_batch : OneBatch

-- Whatever hosts stamped, and whatever logs the faulty ones showed.
abbrev pub RecordsAgree : Type 0
RecordsAgree = (s : Shape) (secret : Bytes) (plans : Plans) (issued : Claim → Bool) (prefix : ℕ → List Bare)
    → IsConsistentRecord s secret plans issued prefix → Agrees s secret plans issued prefix
