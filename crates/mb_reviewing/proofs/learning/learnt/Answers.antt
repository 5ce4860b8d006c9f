use Rattle.std.proofs.Common.{rules, ◌≡◌, [], ◌++◌, length, refl, sym, ap, subst, ◌∙◌}
use Rattle.std.specs.Prelude.{codes, string_bytes}
use Rattle.std.specs.List.{flat_map}
use Rattle.std.specs.Fmt.{decimal}
use Rattle.hex.specs.Hex.{encode_lower}
use Rattle.mb_kv.specs.Pairs.{Pairs}
use Rattle.mb_sched.specs.Report.{slot_lines}
use Rattle.mb_learn.specs.declared.learner.Learner.{Learner}
use Rattle.mb_learn.specs.Learners.{Represents}
use Rattle.mb_reviewing.specs.Learning.{machine, snapshots, state_behind}
use Rattle.mb_reviewing.proofs.LearntAll.{text_is}
use Rattle.mb_reviewing.proofs.learning.learnt.Goals as goal

pub returns : goal.returns
returns c r given slots rep =
    let same = subst (λ (x : Learner Pairs). Represents r.config.shape r.config.secret machine snapshots [] given slots x) (sym c.state.ensures.kept) rep in
    let l = c.line-slots.result.now in
    let slots_are : l ≡ slots = c.line-slots.ensures r.config.shape r.config.secret [] given slots same in
    let head : string_bytes c.in_ok-text.text ≡ codes "minbft learnt 1\nline " ++ (decimal (length l) ++ codes "\n") = search rules in
    let whole : c.into_bytes.result.items ≡ (((string_bytes c.in_ok-text.text ++ flat_map slot_lines l) ++ codes "state ") ++ string_bytes c.in_ok-state-2.state) ++ codes "\nend\n" = search rules in
    let hex : string_bytes c.in_ok-state-2.state ≡ encode_lower (state_behind r slots (length slots)) =
    c.in_ok-state-2.ensures ∙ ap encode_lower (c.as_slice.ensures ∙ c.in_ok-state.ensures.digest r.config.shape r.config.secret [] given slots rep) in
    (refl, text_is c.into_bytes.result.items (string_bytes c.in_ok-text.text) (string_bytes c.in_ok-state-2.state) l slots (state_behind r slots (length slots)) whole head slots_are hex)
