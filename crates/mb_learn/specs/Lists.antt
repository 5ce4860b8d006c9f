-- What a host stamped, as far as byte strings show it in order from counter 1 on; and how it votes there.
use Rattle.std.specs.Prelude.{◌≡◌, ℕ, ◌+◌, ◌<◌, ⊤, Bool, true, false, ◌&&◌, ◌||◌, List, [], ◌∷◌, length, find, ◌==◌, Option, Some, option_map, IfSome}
use Rattle.mb_base.specs.Shapes.{Bytes, host_count}
use Rattle.mb_base.specs.declared.shape.Shape.{Shape}
use Rattle.mb_parts.specs.Bares.{Bare}
use Rattle.mb_parts.specs.Certificates.{inner_valid}
use Rattle.mb_parts.specs.Claims.{Claim}
use Rattle.mb_parts.specs.Ordered.{initial_floor, permits}
use Rattle.mb_model.specs.declared.known.Vote.{Vote}
use Rattle.mb_model.specs.Committed.{Plans, vote_by}
use Rattle.mb_model.specs.Verified.{verifies}
use Rattle.mb_model.specs.Votes.{is_vote}
use Rattle.mb_audit.specs.Stamps.{claims_among}

module _ (secret : Bytes) (claims : List Claim) (host : ℕ) where
  -- A certificate that verifies says that the host stamped something at this counter.
  abbrev pub is_at : ℕ → Claim → Bool
  is_at counter c = c.host == host && (c.counter == counter && verifies secret c)

  -- What the first of these certificates says that the host stamped at a counter.
  abbrev pub first_of : ℕ → Option Bare
  first_of counter = option_map (λ c. c.says) (find (is_at counter) claims)

module _ (s : Shape) (secret : Bytes) (host : ℕ) where
  -- It may stand behind these, newest first, which begin at counter 1.
  abbrev pub may_follow : List Bare → Bare → Bool
  may_follow = permits initial_floor s host (inner_valid s (verifies secret))

  module _ (first : ℕ → Option Bare) where
    -- Each of these, newest first, is the first at its counter, and may stand behind those before it.
    abbrev pub AreInOrder : List Bare → Type 0
    AreInOrder [] = ⊤
    AreInOrder (m ∷ l) = (first (length l + 1) ≡ Some m) × (may_follow l m ≡ true) × AreInOrder l

    -- The list of the host is the longest such: at the next counter nothing is shown, or what may not stand there.
    pub record IsList (l : List Bare) : Type 0 where
      pub in_order : AreInOrder l
      pub ends : IfSome (first (length l + 1)) (λ m. may_follow l m ≡ false)

-- What byte strings show first at a counter of a host: the first of them with such a certificate, and the first certificate in it.
abbrev pub first_among : Shape → Bytes → List Bytes → ℕ → ℕ → Option Bare
first_among s secret taken = first_of secret (claims_among s taken)

-- the lists of all hosts, by what byte strings show
abbrev pub AreLists : Shape → Bytes → List Bytes → (ℕ → List Bare) → Type 0
AreLists s secret taken lists = (h : ℕ) → h < host_count s → IsList s secret h (first_among s secret taken h) (lists h)

-- Some message of these, newest first, votes so for a position of a view.
unfoldable pub has_vote : Plans → List Bare → ℕ → ℕ → Vote → Bool
has_vote plans [] v p vote = false
has_vote plans (m ∷ l) v p vote = is_vote (vote_by plans (length l + 1) m v p) vote || has_vote plans l v p vote
