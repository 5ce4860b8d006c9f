use Rattle.std.proofs.Common.{refl, ap, ◌∙◌, append_assoc}
use Rattle.mb_top.proofs.soak.told.Goals as goal

pub returns : goal.returns
returns c = (refl, ap (λ v. v.items) c.into_bytes.ensures.value ∙ (c.in_ok-text.ensures.ok ∙ simp append_assoc refl))
