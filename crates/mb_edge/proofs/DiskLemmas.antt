-- One call more of a disk in memory.
use Rattle.std.proofs.Common.{◌≡◌, inl, inr, ℕ, List, [], ◌∷◌, ◌++◌, length, Some, Ok, Err, refl, ◌∙◌, ap}
use Rattle.std.specs.Prelude.{Result, OnOk, OnErr}
use Rattle.mb_base.specs.Shapes.{Bytes}
use Rattle.mb_edge.specs.declared.memory_disk.Done.{Done}
use Rattle.mb_edge.specs.declared.memory_disk.Done.TheVariants.{Written, Synced}
use Rattle.mb_edge.specs.declared.outside.Failed.TheVariants.{Device}
use Rattle.mb_edge.specs.Disks.{Range, Moments, settled, after_write, next, Writes}
use Rattle.mb_edge.specs.DiskLaws.{torn_reads}
use Rattle.mb_edge.specs.MemoryDisks.{after_done, moments_after, first_moment, DiskState, moments_of, with_done, IsTornWrite}

moments_after-push : (moments : Moments) (done : List Done) (last : Done) → moments_after moments (done ++ last ∷ []) ≡ next (moments_after moments done) (after_done (moments_after moments done).now last)
moments_after-push moments [] last = refl
moments_after-push moments (first ∷ done) last = moments_after-push (next moments (after_done moments.now first)) done last

pub synced_moments : (moments : Moments) (old new : List Done) → new ≡ old ++ Synced ∷ []
    → moments_after moments new ≡ next (moments_after moments old) (settled (moments_after moments old).now.reads)
synced_moments moments old new is = ap (moments_after moments) is ∙ moments_after-push moments old Synced

pub written_moments : (moments : Moments) (old new : List Done) (at : ℕ) (bytes from : Bytes) → new ≡ old ++ Written at bytes ∷ [] → bytes ≡ from
    → moments_after moments new ≡ next (moments_after moments old) (after_write at from (moments_after moments old).now)
written_moments moments old new at bytes from is same =
    ap (moments_after moments) is ∙ moments_after-push moments old (Written at bytes) ∙ ap (λ (l : Bytes). next (moments_after moments old) (after_write at l (moments_after moments old).now)) same

-- bytes that were put
pub put_told : (old new : DiskState) (at : ℕ) (bytes : Bytes) (m : Moments) → new ≡ with_done old (Written at bytes) → moments_of old ≡ m → moments_of new ≡ next m (after_write at bytes m.now)
put_told old new at bytes m is same =
    ap moments_of is ∙ moments_after-push (first_moment old.first) old.done (Written at bytes) ∙ ap (λ (n : Moments). next n (after_write at bytes n.now)) same

abbrev ranged : ℕ → List Range → ℕ → List Range
ranged at more count = record { at = at; count = count } ∷ more

-- a write that failed
pub torn_told : {E : Type 0} (r : Result (Unit {0}) E) (old new : DiskState) (at : ℕ) (from : Bytes) (m : Moments) → OnOk r (IsTornWrite at (length from) old new) → OnErr r (new ≡ old) → moments_of old ≡ m
    → Writes {T = Unit {0}} at from (Err Device) m (Some (moments_of new))
torn_told (Ok done) old new at from m torn stays same =
    inr (
      after_write at torn.bytes m.now,
      record {
        synced = refl;
        written = ap (ranged at m.now.written) torn.length_is;
        reads = torn_reads at (length from) torn.bytes m.now.reads torn.length_is;
      },
      ap Some (put_told old new at torn.bytes m torn.is same),
    )
torn_told (Err e) old new at from m torn stays same = inl (ap Some (ap moments_of stays ∙ same))
