-- The next message of a host comes into its list, or the list ends at it.
use Rattle.std.proofs.Common.{◌≡◌, ℕ, ◌+◌, Bool, true, false, cond, BTreeMap, List, [], ◌∷◌, ◌++◌, length, Option, Some, None, IfSome, sym, ap, subst, ◌∙◌}
use Rattle.std.specs.Prelude.{IsTrue}
use Rattle.std.specs.Ordering.{is_eq, nat_cmp}
use Rattle.std.specs.BTreeMap.{get}
use Rattle.std.specs.Global.{Vec}
use Rattle.mb_base.specs.Shapes.{Bytes}
use Rattle.mb_base.specs.declared.shape.Shape.{Shape}
use Rattle.mb_parts.specs.Bares.{Bare}
use Rattle.mb_gate.specs.Represents.{Represents}
use Rattle.mb_msg.specs.declared.stamped.Stamped.{Stamped}
use Rattle.mb_msg.specs.Stamps.{ui_of, bare_of}
use Rattle.mb_certified.specs.Certified.{IsBareStamp}
use Rattle.mb_audit.specs.Walks.{log_of}
use Rattle.mb_learn.specs.declared.follower.Follower.{Follower}
use Rattle.mb_learn.specs.Followers.{led_by, IsKeptAt, IsFollowing, Follows}
use Rattle.mb_learn.specs.Lists.{may_follow, IsList}
use Rattle.mb_learn.proofs.Followed.{put_fits, kept_there, takes_next, refuses_next}

-- a map without the entry of a number
abbrev pub TakesOut : BTreeMap ℕ Stamped → ℕ → BTreeMap ℕ Stamped → Type 0
TakesOut old n new = (q : ℕ) → get nat_cmp new q ≡ cond (is_eq (nat_cmp n q)) None (get nat_cmp old q)

-- what waits is for messages of the same shape
pub still_following : (f g : Follower) (waiting : BTreeMap ℕ Stamped) (next : ℕ) → TakesOut f.waiting next waiting → g.shape ≡ f.shape → g.waiting ≡ waiting → IsFollowing f.shape f → IsFollowing f.shape g
still_following f g waiting next out shape waits ready = record {
  shape = shape;
  bare = subst (λ (w : BTreeMap ℕ Stamped). (c : ℕ) → IfSome (get nat_cmp w c) (IsBareStamp f.shape)) (sym waits) (put_fits f.waiting waiting next None out (IsBareStamp f.shape) ready.bare tt);
}

-- A gate answers whether a message may stand behind a list, and if so stands for the longer one.
abbrev pub Offers : Bytes → Follower → Stamped → Bool → Follower → Type 0
Offers secret old m taken new = (s : Shape) (host : ℕ) (l : List Bare) → s ≡ old.shape → Represents old.gate (log_of s host l) → (ui_of m).counter ≡ length l + 1
    → (taken ≡ may_follow s secret host l (bare_of m)) × (IsTrue taken → Represents new.gate (log_of s host (bare_of m ∷ l)))

module _ (f g : Follower) (waiting : BTreeMap ℕ Stamped) (shape : g.shape ≡ f.shape) (ended : g.ended ≡ f.ended) (waits : g.waiting ≡ waiting) (led : g.led ≡ f.led) where
  -- the follower, with what its gate became
  same_taken : (longer : Vec (Option ℕ)) → record f { gate = g.gate; waiting = waiting; led = longer } ≡ record g { led = longer }
  same_taken longer =
      ap (λ (z : Shape). record { shape = z; gate = g.gate; ended = f.ended; waiting = waiting; led = longer }) (sym shape)
      ∙ ap (λ (b : Bool). record { shape = g.shape; gate = g.gate; ended = b; waiting = waiting; led = longer }) (sym ended)
      ∙ ap (λ (w : BTreeMap ℕ Stamped). record { shape = g.shape; gate = g.gate; ended = g.ended; waiting = w; led = longer }) (sym waits)

  same_ended : record f { gate = g.gate; waiting = waiting; ended = true } ≡ record g { ended = true }
  same_ended =
      ap (λ (z : Shape). record { shape = z; gate = g.gate; ended = true; waiting = waiting; led = f.led }) (sym shape)
      ∙ ap (λ (w : BTreeMap ℕ Stamped). record { shape = g.shape; gate = g.gate; ended = true; waiting = w; led = f.led }) (sym waits)
      ∙ ap (λ (v : Vec (Option ℕ)). record { shape = g.shape; gate = g.gate; ended = true; waiting = g.waiting; led = v }) (sym led)

  module _ (m : Stamped) (next : ℕ) (there : get nat_cmp f.waiting next ≡ Some m) (out : TakesOut f.waiting next waiting) (on : f.ended ≡ false) (secret : Bytes) (taken : Bool) (offers : Offers secret f m taken g) where
    module _ (s : Shape) (host : ℕ) (first : ℕ → Option Bare) (l : List Bare) (fo : Follows s secret host first f l) (is : next ≡ length l + 1) where
      kept : IsKeptAt host (length l + 1) m
      kept = kept_there s secret host first f l fo waiting next is on out m there g.gate

      told : (taken ≡ may_follow s secret host l (bare_of m)) × (IsTrue taken → Represents g.gate (log_of s host (bare_of m ∷ l)))
      told = offers s host l (sym fo.shape) (fo.gate on) kept.at

      pub takes_it : taken ≡ true → (longer : Vec (Option ℕ)) → longer.items ≡ f.led.items ++ led_by (bare_of m) ∷ [] → Follows s secret host first (record g { led = longer }) (bare_of m ∷ l) × IsKeptAt host (length l + 1) m
      takes_it so longer longer_is = (
        subst (λ (x : Follower). Follows s secret host first x (bare_of m ∷ l)) (same_taken longer)
            (takes_next s secret host first f l fo waiting next is on out m there g.gate longer longer_is (sym told.0 ∙ so) (told.1 so)),
        kept,
      )

      pub refuses_it : taken ≡ false → Follows s secret host first (record g { ended = true }) l × IsList s secret host first l
      refuses_it not_so =
          let r = refuses_next s secret host first f l fo waiting next is on out m there g.gate (sym told.0 ∙ not_so) in
          (subst (λ (x : Follower). Follows s secret host first x l) same_ended r.0, r.1)
