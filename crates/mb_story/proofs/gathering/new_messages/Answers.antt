use Rattle.std.proofs.Common.{◌≡◌, ℕ, ◌+◌, ◌-◌, List, ◌∷◌, ◌++◌, [], length, map, ap, sym, ◌∙◌, arith}
use Rattle.std.specs.List.{range_with_len}
use Rattle.std.proofs.lemmas.List.FromFn.{map-range_with_len_more}
use Rattle.mb_story.specs.declared.telling.NewMessage.{NewMessage}
use Rattle.mb_story.specs.Telling.{new_message}
use Rattle.mb_story.proofs.gathering.new_messages.Goals as goal

pub loop-index-preserved : goal.loop-index-preserved
loop-index-preserved g c = λ y x h.
    let n = c.loop-index.index in
    let f : ℕ → NewMessage = λ i. new_message y.schedule x (c.args.before + i + 1) in
    c.in_ok-push.ensures.ok
    ∙ ap (λ (l : List NewMessage). l ++ c.new_message.result ∷ []) (c.loop-index.invariant y x h)
    ∙ ap (λ (z : NewMessage). map f (range_with_len 0 n) ++ z ∷ []) (c.new_message.ensures y x h)
    ∙ sym (map-range_with_len_more f 0 n n (omega arith))

pub returns : goal.returns
returns g c = λ y x h.
    let end : c.loop-index.index ≡ length x.pool - c.args.before = omega (arith, c.pool.ensures.count y x h, c.saturating_sub-count.ensures) in
    c.loop-index.invariant y x h ∙ ap (λ (n : ℕ). map (λ i. new_message y.schedule x (c.args.before + i + 1)) (range_with_len 0 n)) end
