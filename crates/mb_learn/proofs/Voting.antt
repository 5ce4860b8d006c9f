-- What is held of one vote more.
use Rattle.std.proofs.Common.{◌≡◌, ℕ, ◌⊎◌, Bool, true, false, [], ◌∷◌, Option, Some, None, IsSome, is_some, is_none, refl, sym, ap, subst, ◌∙◌, inl, inr}
use Rattle.std.specs.Prelude.{◌||◌, option_copied}
use denote.Ref.{Bor}
use Rattle.std.proofs.lemmas.Bool.{or_cases, or_parts}
use Rattle.mb_base.specs.Shapes.{Bytes, primary}
use Rattle.mb_base.specs.declared.shape.Shape.{Shape}
use Rattle.mb_usig.specs.Tags.{is_certified}
use Rattle.mb_parts.specs.declared.batch.Batch.{Batch}
use Rattle.mb_parts.specs.Bares.{batch_digest, bare_bytes}
use Rattle.mb_parts.specs.Bares as bare
use Rattle.mb_parts.specs.Spelling.{batch_bytes}
use Rattle.mb_msg.specs.declared.message.Body.{Body}
use Rattle.mb_msg.specs.declared.message.Body.TheVariants.{Whole}
use Rattle.mb_msg.specs.declared.normal.Prepare.{Prepare}
use Rattle.mb_msg.specs.declared.normal.Commit.{Commit}
use Rattle.mb_msg.specs.declared.change.Open.{Open}
use Rattle.mb_msg.specs.Bodies.{body_digest}
use Rattle.mb_msg.specs.declared.stamped.Shown.{Shown}
use Rattle.mb_msg.specs.declared.stamped.Shown.TheVariants as shown
use Rattle.mb_model.specs.Verified.{verifies}
use Rattle.mb_model.specs.Inside.{named_claim}
use Rattle.mb_learn.specs.declared.heard.Heard.{Heard}
use Rattle.mb_learn.specs.Held.{is_stamped, shows_plan, ShowsBatch}
use Rattle.mb_learn.specs.Hearing.{IsReady, Holds}
use Rattle.mb_learn.specs.Tables.{batch_at}
use Rattle.mb_learn.proofs.HeldMore.{holds_nothing}
use Rattle.mb_learn.proofs.Showing.{plan_same}
use Rattle.mb_learn.proofs.Tests.{true_false}

pub same_whole : (m : Body Batch) (b x : Batch) → m ≡ Whole b → m ≡ Whole x → x ≡ b
same_whole m b x is also = inside (sym also ∙ is) where
  inside : Whole x ≡ Whole b → x ≡ b
  inside e = cc

module _ (t : Heard) (e : Shown) (ready : IsReady t) (no_plan : (s : Shape) (secret : Bytes) (d : Bytes) → shows_plan s secret d e ≡ false) where
  -- It shows no batch.
  pub shows_none : ((s : Shape) (secret : Bytes) → s ≡ t.shape → secret ≡ t.usig.secret → (b : Batch) → ShowsBatch s secret e b → ⊥) → Holds (e ∷ []) t t
  shows_none none =
      holds_nothing t e ready (λ s secret all shape key shows d. plan_same s secret all e d (no_plan s secret d)) (λ s secret shape key b shows tags. absurd (none s secret shape key b shows))

  -- What it shows is held.
  pub shows_held : (b : Batch) → ((s : Shape) (secret : Bytes) (x : Batch) → ShowsBatch s secret e x → x ≡ b) → IsSome (batch_at t.batches (batch_digest b)) → Holds (e ∷ []) t t
  shows_held b only there =
      holds_nothing t e ready (λ s secret all shape key shows d. plan_same s secret all e d (no_plan s secret d))
      (λ s secret shape key x shows tags. subst (λ (y : Batch). IsSome (batch_at t.batches (batch_digest y))) (sym (only s secret x shows)) there)

-- ---- what else an entry of a log is

-- It shows no plan and no batch.
pub shows_other : (t : Heard) (e : Shown) → IsReady t → ((m : Prepare) → e ≡ shown.Prepare m → ⊥) → ((m : Commit) → e ≡ shown.Commit m → ⊥) → ((m : Open) → e ≡ shown.Open m → ⊥) → Holds (e ∷ []) t t
shows_other t (shown.Prepare m) ready np nc not_so = absurd (np m refl)
shows_other t (shown.Commit m) ready np nc not_so = absurd (nc m refl)
shows_other t (shown.Open m) ready np nc not_so = absurd (not_so m refl)
shows_other t (shown.Checkpoint m) ready np nc not_so = shows_none t (shown.Checkpoint m) ready (λ s secret d. refl) (λ s secret shape key b shows. shows)
shows_other t (shown.ViewChange m) ready np nc not_so = shows_none t (shown.ViewChange m) ready (λ s secret d. refl) (λ s secret shape key b shows. shows)
shows_other t (shown.NewView m) ready np nc not_so = shows_none t (shown.NewView m) ready (λ s secret d. refl) (λ s secret shape key b shows. shows)
shows_other t (shown.Enter m) ready np nc not_so = shows_none t (shown.Enter m) ready (λ s secret d. refl) (λ s secret shape key b shows. shows)
shows_other t (shown.Join m) ready np nc not_so = shows_none t (shown.Join m) ready (λ s secret d. refl) (λ s secret shape key b shows. shows)

-- ---- what a vote shows

-- its own whole body alone
pub prepare_only : (m : Prepare) (b : Batch) → m.body ≡ Whole b → (s : Shape) (secret : Bytes) (x : Batch) → ShowsBatch s secret (shown.Prepare m) x → x ≡ b
prepare_only m b is s secret x shows = same_whole m.body b x is shows.0

pub commit_only : (m : Commit) (b : Batch) → m.body ≡ Whole b → (s : Shape) (secret : Bytes) (x : Batch) → ShowsBatch s secret (shown.Commit m) x → x ≡ b
commit_only m b is s secret x shows = same_whole m.body b x is shows.0

-- nothing, where its host didn't stamp it
pub prepare_unstamped : (m : Prepare) (key : Bytes) (shape : Shape) → is_stamped shape key (shown.Prepare m) ≡ false → (s : Shape) (secret : Bytes) → s ≡ shape → secret ≡ key → (b : Batch) → ShowsBatch s secret (shown.Prepare m) b → ⊥
prepare_unstamped m key shape not_so s secret is_shape is_key b shows = true_false (sym shows.1 ∙ ap (λ (k : Bytes). is_stamped s k (shown.Prepare m)) is_key ∙ not_so)

abbrev pub is_commit_right : Shape → Bytes → Commit → Bool
is_commit_right s secret m = is_stamped s secret (shown.Commit m) || verifies secret (named_claim s m)

pub commit_unstamped : (m : Commit) (key : Bytes) (shape : Shape) → is_commit_right shape key m ≡ false → (s : Shape) (secret : Bytes) → s ≡ shape → secret ≡ key → (b : Batch) → ShowsBatch s secret (shown.Commit m) b → ⊥
commit_unstamped m key shape not_so s secret is_shape is_key b shows = by shows.1 where
  parts : (is_stamped s secret (shown.Commit m) ≡ false) × (verifies secret (named_claim s m) ≡ false)
  parts = or_parts (is_stamped s secret (shown.Commit m)) (verifies secret (named_claim s m)) (ap (λ (z : Shape). is_commit_right z secret m) is_shape ∙ ap (λ (k : Bytes). is_commit_right shape k m) is_key ∙ not_so)

  by : (is_stamped s secret (shown.Commit m) ≡ true) ⊎ (verifies secret (named_claim s m) ≡ true) → ⊥
  by (inl own) = true_false (sym own ∙ parts.0)
  by (inr named) = true_false (sym named ∙ parts.1)

-- its whole body, where its host stamped it
pub prepare_shows : (m : Prepare) (b : Batch) (key : Bytes) (shape : Shape) → m.body ≡ Whole b → is_stamped shape key (shown.Prepare m) ≡ true → (s : Shape) (secret : Bytes) → s ≡ shape → secret ≡ key → ShowsBatch s secret (shown.Prepare m) b
prepare_shows m b key shape is so s secret is_shape is_key = (is, ap (λ (k : Bytes). is_stamped s k (shown.Prepare m)) is_key ∙ so)

pub commit_shows : (m : Commit) (b : Batch) (key : Bytes) (shape : Shape) → m.body ≡ Whole b → is_commit_right shape key m ≡ true → (s : Shape) (secret : Bytes) → s ≡ shape → secret ≡ key → ShowsBatch s secret (shown.Commit m) b
commit_shows m b key shape is so s secret is_shape is_key =
    (is, or_cases (is_stamped s secret (shown.Commit m)) (verifies secret (named_claim s m)) (ap (λ (z : Shape). is_commit_right z secret m) is_shape ∙ ap (λ (k : Bytes). is_commit_right shape k m) is_key ∙ so))

-- ---- the certificates of a COMMIT, by their bytes

module _ (s : Shape) (secret : Bytes) (m : Commit) (digest : Bytes) (is : digest ≡ body_digest batch_bytes m.body) where
  -- its own
  own_told : (text : Bytes) (r : Bool) → text ≡ bare_bytes (bare.Commit m.view m.pos m.counter m.cert digest) → r ≡ is_certified secret m.ui.host m.ui.counter text m.ui.cert → r ≡ is_stamped s secret (shown.Commit m)
  own_told text r says told = told ∙ ap (λ (b : Bytes). is_certified secret m.ui.host m.ui.counter b m.ui.cert) (says ∙ ap (λ (d : Bytes). bare_bytes (bare.Commit m.view m.pos m.counter m.cert d)) is)

  pub commit_told : (text : Bytes) (r : Bool) → text ≡ bare_bytes (bare.Commit m.view m.pos m.counter m.cert digest) → r ≡ is_certified secret m.ui.host m.ui.counter text m.ui.cert → r ≡ true → true ≡ is_commit_right s secret m
  commit_told text r says told so = sym (ap (λ b. b || verifies secret (named_claim s m)) (sym (own_told text r says told) ∙ so))

  -- that of the PREPARE that it names
  pub commit_named : (text named : Bytes) (r n : Bool) (host : ℕ) → text ≡ bare_bytes (bare.Commit m.view m.pos m.counter m.cert digest) → r ≡ is_certified secret m.ui.host m.ui.counter text m.ui.cert → r ≡ false
      → named ≡ bare_bytes (bare.Prepare m.view m.pos digest) → host ≡ primary s m.view → n ≡ is_certified secret host m.counter named m.cert → n ≡ is_commit_right s secret m
  commit_named text named r n host says told not_so named_is host_is answered =
      answered ∙ ap (λ (b : Bytes). is_certified secret host m.counter b m.cert) (named_is ∙ ap (λ (d : Bytes). bare_bytes (bare.Prepare m.view m.pos d)) is)
      ∙ ap (λ (i : ℕ). is_certified secret i m.counter (bare_bytes (bare.Prepare m.view m.pos (body_digest batch_bytes m.body))) m.cert) host_is
      ∙ sym (ap (λ b. b || verifies secret (named_claim s m)) (sym (own_told text r says told) ∙ not_so))

-- ---- the certificate of a PREPARE, by its bytes

pub prepare_told : (s : Shape) (secret : Bytes) (m : Prepare) (b : Batch) → m.body ≡ Whole b → (digest : Bytes) → digest ≡ batch_digest b → (text : Bytes) (r : Bool) → text ≡ bare_bytes (bare.Prepare m.view m.pos digest)
    → r ≡ is_certified secret m.ui.host m.ui.counter text m.ui.cert → r ≡ is_stamped s secret (shown.Prepare m)
prepare_told s secret m b whole digest is text r says told =
    told ∙ ap (λ (x : Bytes). is_certified secret m.ui.host m.ui.counter x m.ui.cert) (says ∙ ap (λ (d : Bytes). bare_bytes (bare.Prepare m.view m.pos d)) (is ∙ sym (ap (body_digest batch_bytes) whole)))

-- ---- what a table gives

pub found_some : {A : Type 0} (r : Option (Bor A)) (o : Option A) → option_copied r ≡ o → is_some r ≡ true → IsSome o
found_some (Some x) o is so = ap is_some (sym is)
found_some None o is so = true_false (sym so)

pub found_known : {A : Type 0} (r : Option (Bor A)) (o : Option A) → option_copied r ≡ o → is_none r ≡ false → IsSome o
found_known (Some x) o is not_so = ap is_some (sym is)
found_known None o is not_so = true_false not_so

pub found_none : {A : Type 0} (r : Option (Bor A)) (o : Option A) → option_copied r ≡ o → is_some r ≡ false → o ≡ None
found_none (Some x) o is not_so = true_false not_so
found_none None o is not_so = sym is
