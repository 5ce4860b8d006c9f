use Rattle.std.proofs.Common.{◌≡◌, ℕ, ◌++◌, ◌∷◌, [], Bool, List, ap, sym, ◌∙◌, arith, rules}
use Rattle.std.specs.List.{list_any}
use Rattle.std.proofs.lemmas.List.FromFn.{map-range_with_len_more}
use Rattle.mb_sched.specs.Headers.{is_client_of}
use Rattle.mb_sched.proofs.header.marked_clients.Goals as goal

pub loop-client-preserved : goal.loop-client-preserved
loop-client-preserved c =
    let n = c.loop-client.client in
    let named : ℕ → Bool = λ n. list_any (is_client_of n) c.args.names.now in
    let items : c.push.new.self ≡ c.loop-client.marks ++ named n ∷ [] = search rules in
    items ∙ ap (λ (l : List Bool). l ++ named n ∷ []) c.loop-client.invariant ∙ sym (map-range_with_len_more named 0 n n (omega arith))
