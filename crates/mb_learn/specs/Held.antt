-- Which plans are known, and which batches are held, by votes and OPENs that are shown.
use Rattle.std.specs.Prelude.{◌≡◌, ◌⊎◌, Bool, true, false, ◌&&◌, List, map, find, Option, Some, None, Contains}
use Rattle.mb_base.specs.Shapes.{Bytes}
use Rattle.mb_base.specs.declared.shape.Shape.{Shape}
use Rattle.mb_usig.specs.Tags.{same_bytes}
use Rattle.mb_parts.specs.declared.batch.Batch.{Batch}
use Rattle.mb_parts.specs.Bares.{batch_digest}
use Rattle.mb_msg.specs.declared.message.Body.{Body}
use Rattle.mb_msg.specs.declared.message.Body.TheVariants.{Whole, Bare as Short}
use Rattle.mb_msg.specs.declared.change.Open.{Open}
use Rattle.mb_msg.specs.declared.change.OpenBody.{OpenBody}
use Rattle.mb_msg.specs.declared.stamped.Shown.{Shown}
use Rattle.mb_msg.specs.declared.stamped.Shown.TheVariants as shown
use Rattle.mb_msg.specs.Stamps.{bare_of_shown, ui_of_shown}
use Rattle.mb_model.specs.Committed.{Plans, PlanText}
use Rattle.mb_model.specs.UsableLogs.{is_plan_body}
use Rattle.mb_model.specs.Verified.{verifies, are_rightly_tagged}
use Rattle.mb_model.specs.Inside.{sender_claim, named_claim}

module _ (s : Shape) (secret : Bytes) where
  -- Its own certificate verifies.
  abbrev pub is_stamped : Shown → Bool
  is_stamped e = verifies secret (sender_claim (ui_of_shown e) (bare_of_shown e))

  -- ---- plans

  -- The body of an OPEN is whole, and that of the plan which the OPEN names.
  abbrev pub is_body_of_plan : Open → Body OpenBody → Bool
  is_body_of_plan m (Whole b) = is_plan_body s secret (verifies secret) m.evidence.base m.evidence.end m.evidence.plan b
  is_body_of_plan m (Short digest) = false

  -- A stamped OPEN that shows the plan of this digest.
  abbrev pub shows_plan : Bytes → Shown → Bool
  shows_plan digest (shown.Open m) = same_bytes m.evidence.plan digest && (is_stamped (shown.Open m) && is_body_of_plan m m.body)
  shows_plan digest _ = false

  -- the base and the batches of a body, by their digests
  abbrev pub plan_text : Body OpenBody → Option PlanText
  plan_text (Whole b) = Some (record { base = b.stable.pos; digests = map batch_digest b.batches })
  plan_text (Short digest) = None

  abbrev pub plan_shown : Shown → Option PlanText
  plan_shown (shown.Open m) = plan_text m.body
  plan_shown _ = None

  abbrev pub plan_of_first : Option Shown → Option PlanText
  plan_of_first (Some e) = plan_shown e
  plan_of_first None = None

  -- For each digest the plan that the first of these shows.
  abbrev pub known_plans : List Shown → Plans
  known_plans shown digest = plan_of_first (find (shows_plan digest) shown)

  -- ---- batches

  -- a whole body is this batch
  abbrev pub IsBatch : Body Batch → Batch → Type 0
  IsBatch body b = body ≡ Whole b

  -- The body is whole, and has this batch among those of the plan.
  abbrev pub HasBatch : Body OpenBody → Batch → Type 0
  HasBatch (Whole body) b = Contains body.batches b
  HasBatch (Short digest) b = ⊥

  -- A batch is shown by a PREPARE that its sender stamped, by a COMMIT that its sender stamped or of which the primary stamped the PREPARE, and by an OPEN
  -- that shows a plan with it.
  abbrev pub ShowsBatch : Shown → Batch → Type 0
  ShowsBatch (shown.Prepare m) b = IsBatch m.body b × (is_stamped (shown.Prepare m) ≡ true)
  ShowsBatch (shown.Commit m) b = IsBatch m.body b × ((is_stamped (shown.Commit m) ≡ true) ⊎ (verifies secret (named_claim s m) ≡ true))
  ShowsBatch (shown.Open m) b = HasBatch m.body b × (shows_plan m.evidence.plan (shown.Open m) ≡ true)
  ShowsBatch _ b = ⊥

  -- One of these shows it, and the tags of all its requests verify.
  pub record IsHeld (shown : List Shown) (b : Batch) : Type 0 where
    pub by : Shown
    pub among : Contains shown by
    pub shows : ShowsBatch by b
    pub tags : are_rightly_tagged secret b ≡ true
