use Rattle.std.proofs.Common.{ℕ, ◌%◌, List, [], ◌∷◌, ap, ◌∙◌}
use Rattle.std.specs.Prelude.{slice_index_or}
use Rattle.mb_make.proofs.DrawLaws.{asked}
use Rattle.mb_make.proofs.maker.Maker.ask.Goals as goal

pub returns : goal.returns
returns c = λ g r.
    let spelled = ap (λ (l : List ℕ). 1 ∷ 1 ∷ c.detail-detail.result % 256 ∷ 0 ∷ 2 ∷ slice_index_or l 0 0 ∷ slice_index_or l 1 0 ∷ []) c.to_be_bytes.ensures in
    (asked g c.args.self.now c.detail-detail.result c.from_vec.result r c.detail-detail.ensures.value (c.from_vec.ensures ∙ c.in_ok-from_slice.ensures.items ∙ c.as_slice.ensures ∙ spelled), r)
