use Rattle.std.proofs.Common.{◌≡◌, ◌<◌, Some, slice_get, refl, sym, ap, subst, ◌∙◌, arith}
use Rattle.std.proofs.lemmas.Option.{slice_get_read}
use Rattle.mb_base.specs.Shapes.{host_count}
use Rattle.mb_base.specs.declared.names.Ui.{Ui}
use Rattle.mb_msg.specs.Stamps.{ui_of, bare_of}
use Rattle.mb_model.specs.GateChecks.{stamp_claim}
use Rattle.mb_learn.specs.Lists.{first_of}
use Rattle.mb_learn.proofs.Certified.{host_within, stays_at, not_awaited}
use Rattle.mb_learn.proofs.heard.Heard.awaits.Goals as goal

pub returns : goal.returns
returns c not_so s secret claims lists is fw =
    let t = c.args.self.now in
    let m = c.args.stamp.now in
    let f = c.index.result.now in
    let in_system = host_within t.shape m c.requires.bare.0 in
    let here : c.from.result ≡ (ui_of m).host = c.from.ensures ∙ ap (λ (u : Ui). u.host) c.ui-ui.ensures in
    let there : slice_get t.followers.items (ui_of m).host ≡ Some f = ap (slice_get t.followers.items) (sym here) ∙ slice_get_read t.followers.items _ c.from.result f refl (omega (arith, here, in_system, c.requires.ready.count)) c.index.ensures in
    not_awaited secret claims (stamp_claim m) s lists t.followers.items f there
    (λ fo. stays_at s secret (ui_of m).host (first_of secret claims (ui_of m).host) f (lists (ui_of m).host) (bare_of m) c.ui-ui.result (ui_of m) c.ui-ui.ensures
    (c.awaits.ensures.no s secret (ui_of m).host (first_of secret claims (ui_of m).host) (lists (ui_of m).host) (bare_of m) fo not_so))
    (subst (λ z. (ui_of m).host < host_count z) (sym is) in_system) fw
