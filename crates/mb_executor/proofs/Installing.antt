-- The state of all parts takes the place of the present one.
use Rattle.std.proofs.Common.{◌≡◌, ℕ, List, [], length, take, Option, None, Result, Ok, Err, refl, sym, ap, ◌∙◌, slice_get, unwrap_or}
use Rattle.mb_base.specs.Limits.{table_part, service_parts}
use Rattle.mb_base.specs.Shapes.{Bytes}
use Rattle.mb_base.specs.declared.writing.NoMemory.{NoMemory}
use Rattle.mb_service.specs.declared.restore.Restore.{Restore}
use Rattle.mb_service.specs.declared.restore.Restore.TheVariants as restore
use Rattle.mb_service.specs.Parts as service
use Rattle.mb_model.specs.declared.known.LastReply.{LastReply}
use Rattle.mb_model.specs.States.{Snapshots, table_of, restored}
use Rattle.mb_fetch.specs.Fetched.{Fetched as FetchedParts, part_at}
use Rattle.mb_fetch.specs.Parts.{Represents, first_missing, all_found}
use Rattle.mb_fetch.specs.Snapshots.{Snapshot}
use Rattle.mb_fetch.proofs.Whole.{missing_stands}
use Rattle.mb_cache.specs.Answers as cache
use Rattle.mb_cache.specs.Represents.{joined}
use Rattle.mb_executor.specs.declared.fetching.Fetched.{Fetched}
use Rattle.mb_executor.specs.declared.fetching.Fetched.TheVariants.{WrongDigest, Nothing, Parts, State, BadState}
use Rattle.mb_executor.specs.Keeping.{Keeping}
use Rattle.mb_executor.specs.Taking.{state_from, Installs, InstallsAll, Completes}

-- the bytes of the client table
abbrev pub table_in : List Bytes → Bytes
table_in parts = unwrap_or (slice_get parts table_part) []

module _ {S : Type 0} (snapshots : Snapshots S) (parts : List Bytes) (old : Keeping S) where
  -- ---- one after the other: the table, then the service

  pub table_refused : (table left : List LastReply) (bytes : Bytes) (e : Restore) → length old.served.table ≡ length table → bytes ≡ table_in parts
      → cache.Restores {U = Unit {0}} bytes (Err e) table left → Installs snapshots {U = Unit {0}} parts old old (Err e)
  unfolding restored
  table_refused table left bytes (restore.BadSnapshot part at) clients is h = (rw (clients, ← is, h.1, h.0) refl, refl)
  table_refused table left bytes restore.NoMemory clients is h = refl

  module _ (t : List LastReply) (read : table_of (length old.served.table) (table_in parts) ≡ Ok t) where
    pub state_refused : (x y : S) (new : Keeping S) (first : List Bytes) (e : Restore) → first ≡ take service_parts parts → service.Restores {U = Unit {0}} snapshots.restored first (Err e) x y → (y ≡ x → new ≡ old)
        → Installs snapshots {U = Unit {0}} parts old new (Err e)
    unfolding restored
    state_refused x y new first (restore.BadSnapshot part at) is h same = (rw (read, ← is, h.0) refl, same h.1)
    state_refused x y new first restore.NoMemory is h same = same h

    pub state_taken : (y : S) (first : List Bytes) → first ≡ take service_parts parts → snapshots.restored first ≡ Ok y → state_from snapshots old parts ≡ Ok (record { state = y; table = t })
    unfolding restored
    state_taken y first is h = rw (read, ← is, h) refl

-- the same state, where the service stayed
pub stays : {S : Type 0} (k : Keeping S) (table : List LastReply) (shelf : List Snapshot) (parts : Option FetchedParts) (x y : S) → record { served = joined x table; snapshots = shelf; fetched = parts } ≡ k
    → y ≡ x → record { served = joined y table; snapshots = shelf; fetched = parts } ≡ k
stays k table shelf parts x y is same = rw same is

-- ---- where all parts are held

module _ {S : Type 0} (snapshots : Snapshots S) (t : FetchedParts) (parts : List Bytes) (old new : Keeping S) (out : old.fetched ≡ None) (pos : ℕ) (digest : Bytes) (search : ℕ → Option Bytes) (st : Represents t pos digest search) where
  pub all_installed : first_missing (part_at t) ≡ None → parts ≡ all_found search → (r : Result Fetched NoMemory) → InstallsAll snapshots parts old new r → Completes snapshots pos digest search old new r
  all_installed none is (Ok State) h =
      (sym (missing_stands t pos digest search st) ∙ none, (ap (state_from snapshots old) (sym is) ∙ h.0, h.1 ∙ ap (λ (f : Option FetchedParts). record { served = new.served; snapshots = old.snapshots; fetched = f }) out))
  all_installed none is (Ok (BadState part at)) h =
      (sym (missing_stands t pos digest search st) ∙ none, (ap (state_from snapshots old) (sym is) ∙ h.0, h.1 ∙ ap (λ (f : Option FetchedParts). record { served = old.served; snapshots = old.snapshots; fetched = f }) out))
  all_installed none is (Ok Parts) h = absurd h
  all_installed none is (Ok Nothing) h = absurd h
  all_installed none is (Ok (WrongDigest part)) h = absurd h
  all_installed none is (Err e) h = h ∙ ap (λ (f : Option FetchedParts). record { served = old.served; snapshots = old.snapshots; fetched = f }) out
