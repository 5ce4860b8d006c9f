use Rattle.std.proofs.Common.{◌≡◌, ℕ, ◌<◌, List, ◌++◌, ◌∷◌, [], Some, length, slice_get, refl, sym, ap, subst, ◌∙◌, arith}
use Rattle.std.specs.Prelude.{OnOk}
use Rattle.std.proofs.lemmas.Option.{slice_get_read}
use Rattle.mb_base.specs.Shapes.{host_count}
use Rattle.mb_base.specs.declared.names.Ui.{Ui}
use Rattle.mb_base.specs.declared.shape.Shape.{Shape}
use Rattle.mb_parts.specs.Bares.{Bare}
use Rattle.mb_msg.specs.Stamps.{ui_of, bare_of}
use Rattle.mb_model.specs.GateChecks.{stamp_claim}
use Rattle.mb_learn.specs.Followers.{IsFollowing, IsAwaited}
use Rattle.mb_learn.specs.Hearing.{Hears, with_list}
use Rattle.mb_learn.specs.Lists.{first_of, IsList}
use Rattle.mb_learn.proofs.Certified.{host_within, stays_at, not_awaited}
use Rattle.mb_learn.proofs.Going.{keeps_same}
use Rattle.mb_learn.proofs.Keeping.{of_shape, own_shape, own_bare, kept_now, keeps_mid, keeps_last, follows_last}
use Rattle.mb_learn.proofs.Stamping.{hears_set}
use Rattle.mb_learn.proofs.heard.Heard.keep.Goals as goal

pub returns-then-not-awaits : goal.returns-then-not-awaits
returns-then-not-awaits c =
    let t = c.args.self.now in
    let m = c.args.stamp.now in
    let f = c.index.result.now in
    let in_system = host_within t.shape m c.requires.bare.0 in
    let here : c.from.result ≡ (ui_of m).host = c.from.ensures ∙ ap (λ (u : Ui). u.host) c.ui-ui.ensures in
    let there : slice_get t.followers.items (ui_of m).host ≡ Some f = ap (slice_get t.followers.items) (sym here) ∙ slice_get_read t.followers.items _ c.from.result f refl (omega (arith, here, in_system, c.requires.ready.count)) c.index.ensures in
    record {
      follows = λ right s secret claims said shown lists h whole.
          let fw = not_awaited secret claims (stamp_claim m) s lists t.followers.items f there
          (λ fo. stays_at s secret (ui_of m).host (first_of secret claims (ui_of m).host) f (lists (ui_of m).host) (bare_of m) c.ui-ui.result (ui_of m) c.ui-ui.ensures
          (c.awaits.ensures.no s secret (ui_of m).host (first_of secret claims (ui_of m).host) (lists (ui_of m).host) (bare_of m) fo c.if-not-awaits.true))
          (subst (λ (z : Shape). (ui_of m).host < host_count z) h.shape in_system) (record { follows_all = h.follows; are_whole = whole }) in
          (lists, hears_set s secret claims (claims ++ stamp_claim m ∷ []) said shown lists t t.followers h fw.follows_all, fw.are_whole);
      keeps = keeps_same t c.requires.ready;
    }

pub keep-requires : goal.keep-requires
keep-requires c =
    let t = c.args.self.now in
    let m = c.args.stamp.now in
    let was = c.index_mut.result.now in
    let in_system = host_within t.shape m c.requires.bare.0 in
    let at : c.from-2.result ≡ (ui_of m).host = c.from-2.ensures ∙ ap (λ (u : Ui). u.host) c.ui-ui.ensures in
    let lt : c.from-2.result < length t.followers.items = omega (arith, at, in_system, c.requires.ready.count) in
    let there : slice_get t.followers.items c.from-2.result ≡ Some was = slice_get_read t.followers.items _ c.from-2.result was refl lt c.index_mut.ensures.value in
    let following = of_shape t c.from-2.result was c.requires.ready there in
    record { bare = own_bare t was m c.in_ok-duplicate.field-0 c.in_ok-duplicate.ensures following c.requires.bare; ready = own_shape t was following }

pub follow-requires : goal.follow-requires
follow-requires c =
    let t = c.args.self.now in
    let m = c.args.stamp.now in
    let was = c.index_mut.result.now in
    let in_system = host_within t.shape m c.requires.bare.0 in
    let at : c.from-2.result ≡ (ui_of m).host = c.from-2.ensures ∙ ap (λ (u : Ui). u.host) c.ui-ui.ensures in
    let lt : c.from-2.result < length t.followers.items = omega (arith, at, in_system, c.requires.ready.count) in
    let there : slice_get t.followers.items c.from-2.result ≡ Some was = slice_get_read t.followers.items _ c.from-2.result was refl lt c.index_mut.ensures.value in
    let following = of_shape t c.from-2.result was c.requires.ready there in
    let now : IsFollowing t.shape c.keep.new.self = subst (λ (z : Shape). IsFollowing z c.keep.new.self) following.shape c.in_ok-keep.ensures.ready in
    record {
      within = subst (λ (n : ℕ). n < host_count t.shape) (sym (ap (λ (u : Ui). u.host) c.ui-ui.ensures)) in_system;
      ready = (keeps_mid t m c.from-2.result at was c.keep.new.self _ there refl lt now c.requires.ready).ready;
    }

pub returns : goal.returns
returns c =
    let t = c.args.self.now in
    let m = c.args.stamp.now in
    let f = c.index.result.now in
    let was = c.index_mut.result.now in
    let new = c.keep.new.self in
    let in_system = host_within t.shape m c.requires.bare.0 in
    let at : c.from-2.result ≡ (ui_of m).host = c.from-2.ensures ∙ ap (λ (u : Ui). u.host) c.ui-ui.ensures in
    let lt : c.from-2.result < length t.followers.items = omega (arith, at, in_system, c.requires.ready.count) in
    let here : slice_get t.followers.items c.from.result ≡ Some f = slice_get_read t.followers.items _ c.from.result f refl (omega (arith, lt, c.from.ensures, c.from-2.ensures)) c.index.ensures in
    let there : slice_get t.followers.items c.from-2.result ≡ Some was = slice_get_read t.followers.items _ c.from-2.result was refl lt c.index_mut.ensures.value in
    let following = of_shape t c.from-2.result was c.requires.ready there in
    let now : IsFollowing t.shape new = subst (λ (z : Shape). IsFollowing z new) following.shape c.in_ok-keep.ensures.ready in
    let looked : slice_get t.followers.items c.from-2.result ≡ Some f = ap (slice_get t.followers.items) (c.from-2.ensures ∙ sym c.from.ensures) ∙ here in
    record {
      follows = λ right s secret claims said shown lists h whole.
          follows_last t m c.from-2.result at was new _ there refl lt s secret claims said shown lists right h c.follow.result c.follow.new.self f looked
          (λ first l fo. subst (λ (u : Ui). IsAwaited s secret (ui_of m).host first f l u.counter) c.ui-ui.ensures (c.awaits.ensures.yes s secret (ui_of m).host first l fo c.if-not-awaits.false))
          (λ first l fo awaited. kept_now s secret (ui_of m).host first was new l m c.in_ok-duplicate.field-0 c.in_ok-duplicate.ensures awaited (λ a e. c.in_ok-keep.ensures.follows s secret (ui_of m).host first l fo a e) refl)
          (λ hears. subst (λ (i : ℕ). OnOk c.follow.result ((l : List Bare) × Hears s secret (claims ++ stamp_claim m ∷ []) said shown (with_list lists i l) c.follow.new.self × IsList s secret i (first_of secret (claims ++ stamp_claim m ∷ []) i) l)) (sym c.from-2.ensures)
          (c.follow.ensures.follows s secret (claims ++ stamp_claim m ∷ []) said shown lists hears)) whole;
      keeps = keeps_last t m c.from-2.result at was new _ there refl lt c.follow.result c.follow.new.self now c.requires.ready c.follow.ensures.keeps;
    }
