-- What the words of what is due say of the tests of the rules.
use Rattle.std.proofs.Common.{◌≡◌, ◌+◌, ◌-◌, ◌^◌, ℕ, true, ◌&&◌, not, refl, arith}
use Rattle.std.specs.Prelude.{nat_lt, nat_le, count_by}
use Rattle.std.proofs.lemmas.Bool.{and_parts, ltb-true, lt-ltb, leb-true, le-leb}
use Rattle.mb_base.specs.Limits.{other_limit}
use Rattle.mb_base.specs.Shapes.{span}
use Rattle.mb_model.specs.UsableLogs.{normal_limit}
use Rattle.mb_model.specs.Histories.{History, Identity, counter_of}
use Rattle.mb_model.specs.Stable.{low_of}
use Rattle.mb_model.specs.OwnLog.{own_log, is_normal, has_room, has_other_room}
use Rattle.mb_model.specs.Positions.{position_limit, in_window}
use Rattle.mb_promise.specs.NothingLeft.{HasRoom, HasOtherRoom, IsInWindow}

module _ {S : Type 0} (self : Identity S) (d : History) where
  pub room_is : HasRoom self d → has_room self d ≡ true
  room_is x = rw (lt-ltb (count_by is_normal (own_log self d)) (normal_limit self.shape) (omega (arith, x.place)), lt-ltb (counter_of d) (2 ^ 64 - 1) x.counter) refl

  pub other_room_is : HasOtherRoom self d → has_other_room self d ≡ true
  other_room_is x = rw (lt-ltb (count_by (λ m. not (is_normal m)) (own_log self d)) other_limit (omega (arith, x.place)), lt-ltb (counter_of d) (2 ^ 64 - 1) x.counter) refl

  pub window_is : (p : ℕ) → IsInWindow self d p → in_window self d p ≡ true
  window_is p x = rw (lt-ltb (low_of self d) p x.above, le-leb p (low_of self d + span self.shape) x.near, le-leb p position_limit (omega (arith, x.allowed))) refl

  pub window_says : (p : ℕ) → in_window self d p ≡ true → IsInWindow self d p
  window_says p e =
      let a = and_parts (nat_lt (low_of self d) p) (nat_le p (low_of self d + span self.shape) && nat_le p position_limit) e in
      let b = and_parts (nat_le p (low_of self d + span self.shape)) (nat_le p position_limit) a.1 in
      record { above = ltb-true _ _ a.0; near = leb-true _ _ b.0; allowed = let le = leb-true p position_limit b.1 in omega (arith, le) }
