use Rattle.std.proofs.Common.{◌∙◌, sym, ap}
use Rattle.mb_parts.specs.Bares.{batch_digest}
use Rattle.mb_plan.proofs.planning.push_copy.Goals as goal

pub with_digest-requires : goal.with_digest-requires
with_digest-requires c =
    let are = c.requires.0 in
    c.digest_at-digest.ensures are.shape are.secret are.found ∙ sym (ap batch_digest c.in_ok-copy.ensures)
