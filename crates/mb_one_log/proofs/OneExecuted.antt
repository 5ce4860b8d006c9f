-- Two correct hosts execute one batch at one position: both are committed, committed batches of one position have one digest, and both strings are hashed.
use Rattle.std.proofs.Common.{◌≡◌, ℕ, ◌∷◌, sym, subst}
use Rattle.mb_parts.specs.declared.request.Request.{Request}
use Rattle.mb_parts.specs.Spelling.{batch_bytes}
use Rattle.mb_parts.specs.Bares.{batch_digest}
use Rattle.mb_parts.specs.Fits.{FitsRequest}
use Rattle.mb_msg.specs.declared.event.Slot.{Slot}
use Rattle.mb_msg.proofs.Injective.{batch_injective}
use Rattle.mb_model.specs.Committed.{IsCommitted}
use Rattle.mb_model.specs.Histories.{Executed, History}
use Rattle.mb_model.specs.Members.{In}
use Rattle.mb_model.proofs.Members.{contained}
use Rattle.mb_world_model.specs.WorldEvents.{IsCorrect}
use Rattle.mb_world_model.specs.World.{World, System}
use Rattle.mb_world_model.specs.WorldRecord.{prefix, plans, IsConsistent}
use Rattle.mb_host_laws.specs.Rests.{Each}
use Rattle.mb_world_laws.proofs.Facts.{Facts}
use Rattle.mb_views.proofs.Follows.{JumpsLed}
use Rattle.mb_host_laws.proofs.Moments.{IsPast}
use Rattle.mb_views.proofs.Agreed.{consistent, views_agree_in}
use Rattle.mb_one_log.proofs.Committed.{executed_committed}
use Rattle.mb_one_log.proofs.SoundBatches.{IsSoundBatch}
use Rattle.mb_one_log.proofs.ExecutedSound.{executed_sound}
use Rattle.mb_model.specs.Service.{batch_of}
use Rattle.mb_parts.specs.declared.batch.Batch.{Batch}

module _ {S : Type 0} (system : System S) (w : World) (f : Facts system w) (jumps : (h : ℕ) → IsCorrect system.schedule h → Each (JumpsLed system w f) (w.histories h))
    (asked_fits : (r : Request) → In w.asked r → FitsRequest system.schedule.shape r) where
  abbrev pub IsSound : Batch → Type 0
  IsSound b = IsSoundBatch system w f jumps asked_fits b

  pub executed_batch : (h : ℕ) (slot : Slot) (d : History) → IsCorrect system.schedule h → IsPast (Executed slot ∷ d) (w.histories h) → IsSound (batch_of slot)
  executed_batch h slot d correct past = executed_sound system w f jumps asked_fits h correct slot d past

  pub one_executed : (h g : ℕ) (x y : Slot) (d e : History) → IsCorrect system.schedule h → IsCorrect system.schedule g → IsPast (Executed x ∷ d) (w.histories h) → IsPast (Executed y ∷ e) (w.histories g)
      → x.pos ≡ y.pos → batch_of x ≡ batch_of y
  one_executed h g x y d e ch cg p q same =
      let facts : IsConsistent system.schedule w = consistent system w f jumps in
      let a = executed_committed system w f jumps facts h ch x d p in
      let b = executed_committed system w f jumps facts g cg y e q in
      let moved : IsCommitted (plans system.schedule w) system.schedule.shape (prefix system.schedule w) b.view x.pos (record { counter = b.counter; request = batch_digest (batch_of y) }) =
      subst (λ (n : ℕ). IsCommitted (plans system.schedule w) system.schedule.shape (prefix system.schedule w) b.view n (record { counter = b.counter; request = batch_digest (batch_of y) })) (sym same) b.committed in
      let digest : batch_digest (batch_of x) ≡ batch_digest (batch_of y) = (views_agree_in system w f jumps).one_batch a.view b.view x.pos _ _ a.committed moved in
      let r = executed_batch h x d ch p in
      let s = executed_batch g y e cg q in
      batch_injective system.schedule.shape f.shape (batch_of x) (batch_of y) r.fits s.fits (f.apart (batch_bytes (batch_of x)) (batch_bytes (batch_of y)) (contained w.hashed _ r.hashed) (contained w.hashed _ s.hashed) digest)
