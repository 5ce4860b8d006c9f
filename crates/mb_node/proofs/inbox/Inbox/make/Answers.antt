use Rattle.std.proofs.Common.{◌≡◌, ◌++◌, ◌∷◌, [], ◌∙◌, ℕ, List, map, ap, sym, arith}
use Rattle.std.specs.List.{range_with_len}
use Rattle.std.proofs.lemmas.List.FromFn.{map-range_with_len_more}
use Rattle.mb_base.specs.Shapes.{host_count}
use Rattle.mb_frag.specs.Held.{Held}
use Rattle.mb_node.specs.Receives.{held_of}
use Rattle.mb_node.proofs.inbox.Inbox.make.Goals as goal

pub loop-preserved : goal.loop-preserved
unfolding held_of
loop-preserved c =
    c.in_ok-push.ensures.items ∙ ap (λ (l : List Held). l ++ c.in_ok-make.field-0 ∷ []) c.loop.invariant ∙ ap (λ (x : Held). map (λ h. held_of h []) (range_with_len 0 c.loop.counter) ++ x ∷ []) c.in_ok-make.ensures
    ∙ sym (map-range_with_len_more (λ h. held_of h []) 0 c.loop.counter c.loop.counter (omega arith))

pub returns : goal.returns
unfolding held_of
returns c =
    let all : c.loop.counter ≡ host_count c.args.shape = omega (arith, c.loop-test.false, c.loop.auto.counter-end, c.n-end.ensures) in
    record {
      hosts = c.loop.invariant ∙ ap (λ (n : ℕ). map (λ h. held_of h []) (range_with_len 0 n)) all;
      client = c.in_ok-make-2.ensures;
    }
