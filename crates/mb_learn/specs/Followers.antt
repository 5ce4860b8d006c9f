-- What a follower of a host stands for: its list, and what waits behind it.
use Rattle.std.specs.Prelude.{◌≡◌, ℕ, ◌+◌, ◌<◌, Bool, true, false, List, ◌∷◌, length, map, reverse, Option, Some, None, option_map, IfSome, Result, IfOk, OnOk, IsTrue, if◌then◌else◌, ◌==◌}
use Rattle.std.specs.Option.{option_or}
use Rattle.std.specs.Ordering.{nat_cmp}
use Rattle.std.specs.BTreeMap.{get}
use Rattle.mb_base.specs.Shapes.{Bytes}
use Rattle.mb_base.specs.declared.shape.Shape.{Shape}
use Rattle.mb_parts.specs.Bares.{Bare}
use Rattle.mb_parts.specs.Bares as bare
use Rattle.mb_gate.specs.Represents.{Represents}
use Rattle.mb_msg.specs.declared.stamped.Stamped.{Stamped}
use Rattle.mb_msg.specs.Stamps.{ui_of, bare_of}
use Rattle.mb_certified.specs.Certified.{IsBareStamp}
use Rattle.mb_audit.specs.Walks.{log_of}
use Rattle.mb_learn.specs.declared.follower.Follower.{Follower}
use Rattle.mb_learn.specs.Lists.{may_follow, AreInOrder, IsList}

-- the view that a message leads: a PREPARE or NEW_VIEW of it
abbrev pub led_by : Bare → Option ℕ
led_by (bare.Prepare view pos digest) = Some view
led_by (bare.NewView view base end plan digest) = Some view
led_by _ = None

-- what is shown first, with one certificate more
abbrev pub shown_too : (ℕ → Option Bare) → ℕ → Bare → ℕ → Option Bare
shown_too first counter m c = option_or (first c) (if counter == c then Some m else None)

-- a message of the host at this counter
pub record IsKeptAt (host counter : ℕ) (m : Stamped) : Type 0 where
  pub by : (ui_of m).host ≡ host
  pub at : (ui_of m).counter ≡ counter

-- It is for messages of this shape, and what waits is bare.
pub record IsFollowing (s : Shape) (f : Follower) : Type 0 where
  pub shape : f.shape ≡ s
  pub bare : (c : ℕ) → IfSome (get nat_cmp f.waiting c) (IsBareStamp s)

module _ (s : Shape) (secret : Bytes) (host : ℕ) where
  -- The follower has this list, by what is shown first at each counter.
  pub record Follows (first : ℕ → Option Bare) (f : Follower) (l : List Bare) : Type 0 where
    pub shape : f.shape ≡ s
    pub in_order : AreInOrder s secret host first l
    pub led : f.led.items ≡ reverse (map led_by l)
    pub gate : f.ended ≡ false → Represents f.gate (log_of s host l)
    pub waiting : f.ended ≡ false → (c : ℕ) → length l < c → option_map bare_of (get nat_cmp f.waiting c) ≡ first c
    pub kept : (c : ℕ) → IfSome (get nat_cmp f.waiting c) (IsKeptAt host c)
    pub ended : f.ended ≡ true → (m : Bare) × (first (length l + 1) ≡ Some m) × (may_follow s secret host l m ≡ false)

  -- What is shown at a counter comes behind the list, and is the first there.
  pub record IsAwaited (first : ℕ → Option Bare) (f : Follower) (l : List Bare) (counter : ℕ) : Type 0 where
    pub goes_on : f.ended ≡ false
    pub behind : length l < counter
    pub none : first counter ≡ None

  -- One message more comes into the list, or the list ends.
  abbrev pub Advances : (ℕ → Option Bare) → List Bare → Option Stamped → Follower → Type 0
  Advances first l None new = Follows first new l × IsList s secret host first l
  Advances first l (Some m) new = Follows first new (bare_of m ∷ l) × IsKeptAt host (length l + 1) m

-- ---- whatever is followed

-- What is shown at a counter that is not awaited changes nothing.
abbrev pub StaysShown : Follower → ℕ → Bool → Type 0
StaysShown f counter awaited = (s : Shape) (secret : Bytes) (host : ℕ) (first : ℕ → Option Bare) (l : List Bare) (m : Bare) → Follows s secret host first f l → awaited ≡ false
    → Follows s secret host (shown_too first counter m) f l × (IsList s secret host first l → IsList s secret host (shown_too first counter m) l)

-- A stamp at one that is awaited is kept.
abbrev pub KeepsShown : {X E : Type 0} → Follower → Stamped → Result X E → Follower → Type 0
KeepsShown old stamp result new = (s : Shape) (secret : Bytes) (host : ℕ) (first : ℕ → Option Bare) (l : List Bare) → Follows s secret host first old l
    → IsAwaited s secret host first old l (ui_of stamp).counter → (ui_of stamp).host ≡ host → OnOk result (Follows s secret host (shown_too first (ui_of stamp).counter (bare_of stamp)) new l)

-- The gate takes what may follow the list, and stands behind it then.
abbrev pub OffersNext : {E : Type 0} → Follower → Bytes → Stamped → Result Bool E → Follower → Type 0
OffersNext old secret stamp result new = (s : Shape) (host : ℕ) (l : List Bare) → s ≡ old.shape → Represents old.gate (log_of s host l) → (ui_of stamp).counter ≡ length l + 1
    → IfOk result (λ taken. (taken ≡ may_follow s secret host l (bare_of stamp)) × (IsTrue taken → Represents new.gate (log_of s host (bare_of stamp ∷ l))))
