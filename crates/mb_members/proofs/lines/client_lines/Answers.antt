use Rattle.std.proofs.Common.{ℕ, ◌≡◌, ◌++◌, ◌∷◌, [], List, length, map, refl, ap, sym, ◌∙◌, arith}
use Rattle.std.specs.List.{range_with_len}
use Rattle.std.proofs.lemmas.Option.{slice_get_read}
use Rattle.std.proofs.lemmas.List.FromFn.{map-range_with_len_more}
use Rattle.mb_schedule.specs.declared.report.ClientLine.{ClientLine}
use Rattle.mb_members.specs.Lines.{client_line}
use Rattle.mb_members.proofs.lines.client_lines.Goals as goal

pub loop-client-preserved : goal.loop-client-preserved
loop-client-preserved c = λ s x all.
    let n = c.loop-client.client in
    let askers = c.args.askers.now in
    let at = slice_get_read askers (length askers) n c.index-askers-client.result refl c.loop-client-test.true c.index-askers-client.is in
    c.in_ok-push.ensures.ok
    ∙ ap (λ (l : List ClientLine). l ++ c.in_ok-client_line.field-0 ∷ []) (c.loop-client.invariant s x all)
    ∙ ap (λ (z : ClientLine). map (client_line x) (range_with_len 0 n) ++ z ∷ []) (c.in_ok-client_line.ensures s.shape s.secret x (all n _ at))
    ∙ sym (map-range_with_len_more (client_line x) 0 n n (omega arith))

pub returns : goal.returns
returns c = λ s x all.
    let end : c.loop-client.client ≡ length c.args.askers.now = omega arith in
    c.loop-client.invariant s x all ∙ ap (λ (n : ℕ). map (client_line x) (range_with_len 0 n)) end
