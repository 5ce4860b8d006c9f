-- Which batches byte strings prove at a position, and the history that is learnt from them.
use Rattle.std.specs.Prelude.{◌≡◌, ℕ, ◌+◌, ◌%◌, ◌≤◌, Bool, false, ◌&&◌, List, length, take, map, slice_get, ◌==◌, Some, IsTrue}
use Rattle.std.specs.List.{list_any, range_with_len}
use Rattle.mb_base.specs.Shapes.{Bytes, interval, primary, client_count, HasQuorum}
use Rattle.mb_base.specs.declared.shape.Shape.{Shape}
use Rattle.mb_usig.specs.Tags.{same_bytes}
use Rattle.mb_parts.specs.declared.batch.Batch.{Batch}
use Rattle.mb_parts.specs.Bares.{Bare, batch_digest}
use Rattle.mb_parts.specs.Bares as bare
use Rattle.mb_parts.specs.Claims.{Claim}
use Rattle.mb_parts.specs.Counters.{at_counter}
use Rattle.mb_msg.specs.declared.event.Placed.{Placed}
use Rattle.mb_msg.specs.declared.event.Slot.{Slot}
use Rattle.mb_model.specs.declared.known.Vote.{Vote}
use Rattle.mb_model.specs.Committed.{leads}
use Rattle.mb_model.specs.Service.{Machine, Served, start, served_all, served_each, is_fresh, batch_of}
use Rattle.mb_model.specs.States.{Snapshots, parts_of, state_digest}
use Rattle.mb_model.specs.Verified.{verifies}
use Rattle.mb_audit.specs.Stamps.{claims_among}
use Rattle.mb_learn.specs.Held.{known_plans, IsHeld}
use Rattle.mb_learn.specs.Lists.{AreLists, has_vote}
use Rattle.mb_learn.specs.Shown.{shown_among}

-- ---- what hosts say of their states

-- It says that the state at a position has this digest.
abbrev pub is_checkpoint : ℕ → Bytes → Bare → Bool
is_checkpoint position state (bare.Checkpoint pos digest body) = pos == position && same_bytes digest state
is_checkpoint position state _ = false

-- A host says so in one of these certificates, and it verifies.
abbrev pub says_state : Bytes → List Claim → ℕ → Bytes → ℕ → Bool
says_state secret claims position state host = list_any (λ c. c.host == host && (is_checkpoint position state c.says && verifies secret c)) claims

-- ---- what is proved

module _ (s : Shape) (secret : Bytes) (taken : List Bytes) where
  -- f+1 hosts vote in their lists for the batch at a position of a view, the primary ordered that at the counter which they name, and the batch is held.
  pub record IsProvedBy (position : ℕ) (batch : Batch) (view : ℕ) (vote : Vote) : Type 0 where
    pub lists : ℕ → List Bare
    pub are : AreLists s secret taken lists
    pub voted : HasQuorum s (λ h. has_vote (known_plans s secret (shown_among s taken)) (lists h) view position vote)
    pub led : IsTrue (leads view (at_counter (lists (primary s view)) vote.counter))
    pub held : IsHeld s secret (shown_among s taken) batch
    pub digest : vote.request ≡ batch_digest batch

  abbrev pub IsProved : ℕ → Batch → Type 0
  IsProved position batch = (view : ℕ) × (vote : Vote) × IsProvedBy position batch view vote

  -- f+1 hosts say so.
  abbrev pub IsCertified : ℕ → Bytes → Type 0
  IsCertified position state = HasQuorum s (says_state secret (claims_among s taken) position state)

-- ---- the history that is learnt

module _ {S : Type 0} (s : Shape) (m : Machine S) (initial : S) where
  -- the sequential service behind these slots
  abbrev pub behind : List Slot → Served S
  behind slots = served_all m (start m initial (client_count s)) slots

  -- A request of a slot is marked as fresh where it is behind all that stand before it.
  abbrev pub AreMarked : List Slot → Type 0
  AreMarked slots = (q i : ℕ) (slot : Slot) (p : Placed) → slice_get slots q ≡ Some slot → slice_get slot.requests i ≡ Some p
      → p.fresh ≡ is_fresh (served_each m (behind (take q slots)) slot.pos (take i slot.requests)) p.request

  -- The slots stand at the positions 1, 2, 3 and so on, each proved there, and no batch is proved behind the last.
  pub record IsLearnt (secret : Bytes) (taken : List Bytes) (slots : List Slot) : Type 0 where
    pub places : map (λ slot. slot.pos) slots ≡ range_with_len 1 (length slots)
    pub proved : (q : ℕ) (slot : Slot) → slice_get slots q ≡ Some slot → IsProved s secret taken (q + 1) (batch_of slot)
    pub marks : AreMarked slots
    pub all : (b : Batch) → IsProved s secret taken (length slots + 1) b → ⊥

  -- the digest of the state behind so many slots
  abbrev pub digest_behind : Snapshots S → List Slot → ℕ → Bytes
  digest_behind snapshots slots position = state_digest (parts_of snapshots (behind (take position slots))) position

  -- At an executed multiple of the interval f+1 hosts say another digest.
  pub record DiffersAt (snapshots : Snapshots S) (secret : Bytes) (taken : List Bytes) (slots : List Slot) (position : ℕ) (certified : Bytes) : Type 0 where
    pub multiple : position % interval s ≡ 0
    pub positive : 1 ≤ position
    pub executed : position ≤ length slots
    pub said : IsCertified s secret taken position certified
    pub other : same_bytes certified (digest_behind snapshots slots position) ≡ false
