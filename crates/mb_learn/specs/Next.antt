-- Which batch is proved next, by what is heard.
use Rattle.std.specs.Prelude.{◌≡◌, ℕ, ◌+◌, ◌<◌, ◌^◌, List, IsSome, IsTrue}
use Rattle.std.specs.Ordering.{nat_cmp}
use Rattle.std.specs.BTreeMap.{get}
use Rattle.mb_base.specs.Shapes.{Bytes, primary, HasQuorum}
use Rattle.mb_base.specs.declared.shape.Shape.{Shape}
use Rattle.mb_parts.specs.declared.batch.Batch.{Batch}
use Rattle.mb_parts.specs.Bares.{Bare, batch_digest}
use Rattle.mb_parts.specs.Counters.{at_counter}
use Rattle.mb_msg.specs.declared.stamped.Shown.{Shown}
use Rattle.mb_model.specs.declared.known.Vote.{Vote}
use Rattle.mb_model.specs.Committed.{Plans, leads}
use Rattle.mb_learn.specs.declared.votes.Votes.{Votes}
use Rattle.mb_learn.specs.Held.{known_plans, IsHeld}
use Rattle.mb_learn.specs.Lists.{has_vote}

-- f+1 hosts have this vote at a position of a view in these lists, and the primary ordered what it is for.
pub record IsAgreed (s : Shape) (plans : Plans) (lists : ℕ → List Bare) (position view : ℕ) (vote : Vote) : Type 0 where
  pub voted : HasQuorum s (λ h. has_vote plans (lists h) view position vote)
  pub led : IsTrue (leads view (at_counter (lists (primary s view)) vote.counter))

module _ (s : Shape) (secret : Bytes) (shown : List Shown) (lists : ℕ → List Bare) (position : ℕ) where
  -- The batch is held, and the votes for its digest agree.
  pub record IsNextBy (view : ℕ) (vote : Vote) (b : Batch) : Type 0 where
    pub agreed : IsAgreed s (known_plans s secret shown) lists position view vote
    pub held : IsHeld s secret shown b
    pub digest : vote.request ≡ batch_digest b

  abbrev pub IsNext : Batch → Type 0
  IsNext b = (view : ℕ) × (vote : Vote) × IsNextBy view vote b

-- There are votes for the next position.
pub record HasNext (t : Votes) : Type 0 where
  pub low : t.executed + 1 < 2 ^ 63
  pub there : IsSome (get nat_cmp t.by_position (t.executed + 1))
