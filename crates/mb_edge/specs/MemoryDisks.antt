-- What a disk in memory tells: its calls are done one after the other.
use Rattle.std.specs.Prelude.{◌≡◌, ℕ, List, [], ◌∷◌, ◌++◌, length}
use Rattle.mb_base.specs.Shapes.{Bytes}
use Rattle.mb_edge.specs.declared.memory_disk.Done.{Done}
use Rattle.mb_edge.specs.declared.memory_disk.Done.TheVariants.{Written, Synced}
use Rattle.mb_edge.specs.Calls.{CallsSoFar, no_calls}
use Rattle.mb_edge.specs.Disks.{Content, Moments, settled, after_write, next}

-- what stands on the disk after a call
abbrev pub after_done : Content → Done → Content
after_done content (Written at bytes) = after_write at bytes content
after_done content Synced = settled content.reads

-- the moments after these calls, the first of them first
abbrev pub moments_after : Moments → List Done → Moments
moments_after moments [] = moments
moments_after moments (done ∷ more) = moments_after (next moments (after_done moments.now done)) more

-- before the first call
abbrev pub first_moment : Bytes → Moments
first_moment bytes = record { now = settled bytes; before = [] }

-- the bytes at first, what was done since, the first call first, and the calls
pub record DiskState : Type 0 where
  pub first : Bytes
  pub done : List Done
  pub calls : CallsSoFar

-- what stood on the disk
abbrev pub moments_of : DiskState → Moments
moments_of disk = moments_after (first_moment disk.first) disk.done

-- before the first call
abbrev pub new_disk : Bytes → List ℕ → DiskState
new_disk bytes failing = record { first = bytes; done = []; calls = no_calls failing }

-- after a call that changed what stands there
abbrev pub with_done : DiskState → Done → DiskState
with_done disk last = record disk { done = disk.done ++ last ∷ [] }

-- Some bytes were written, as many as were to be.
pub record IsTornWrite (at count : ℕ) (old new : DiskState) : Type 0 where
  pub bytes : Bytes
  pub length_is : length bytes ≡ count
  pub is : new ≡ with_done old (Written at bytes)
