use Rattle.std.proofs.Common.{rules, ◌<◌, length, ◌∙◌}
use Rattle.mb_model.specs.OwnLog.{behind}
use Rattle.mb_log.proofs.Keeping.{map_step}
use Rattle.mb_log.proofs.log.shorten_behind.Goals as goal

pub loop-index-preserved : goal.loop-index-preserved
loop-index-preserved c =
    let l = c.loop-index in
    let items = c.args.entries.now.items in
    let within : l.index < length items = search rules in
    record {
      items = map_step (behind c.args.message.now) items l.entries.items c.shorten_at.new.entries.items l.index within l.invariant.items (λ x e. c.shorten_at.ensures.items x e);
      capacity = c.shorten_at.ensures.capacity ∙ l.invariant.capacity;
    }
