use Rattle.std.proofs.Common.{◌≡◌, ℕ, ◌-◌, set, length, Some, sym, ap, subst, ◌∙◌, arith}
use Rattle.std.specs.Prelude.{slice_get}
use Rattle.std.proofs.lemmas.Option.{slice_get_within}
use Rattle.mb_window.specs.Places.{Places, places, item_at}
use Rattle.mb_window.proofs.Lending.{lent_alike, set_same, item_within, index_is}
use Rattle.mb_window.proofs.window.Window.get_mut.Goals as goal

pub returns : goal.returns
returns g c =
    let w = c.self.inside in
    let pos = c.args.pos in
    let i = c.index_of-index.result in
    let slot = c.in_ok-self-inside.field-0.now in
    let got : slice_get w.ring.items i ≡ Some slot = sym c.in_ok-self-inside.ensures.value in
    let at = index_is pos w.low i (length w.ring.items) c.index_of-index.ensures (slice_get_within w.ring.items i slot got) (omega (arith, c.self.invariant.top)) in
    let there : slice_get w.ring.items (pos - w.low - 1) ≡ Some slot = subst (λ (k : ℕ). slice_get w.ring.items k ≡ Some slot) at.1 got in
    let same = set_same w.ring.items i slot got in (
      lent_alike c.as_mut.result _ _ _ _
          (ap (λ (k : ℕ). λ x. places w.low (set w.ring.items k (Some x))) at.1
          ∙ ap (λ (t : Places _). λ x. places t.low (set t.items (pos - t.low - 1) (Some x))) c.self.view_is)
          (λ _. ap (λ xs. places w.low xs) same ∙ c.self.view_is),
      record {
        writes_back = tt;
        value = c.as_mut.ensures.value ∙ (sym (item_within (places w.low w.ring.items) pos slot at.0 there) ∙ ap (λ t. item_at t pos) c.self.view_is);
      },
    )
