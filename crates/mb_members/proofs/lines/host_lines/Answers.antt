use Rattle.std.proofs.Common.{ℕ, ◌≡◌, ◌++◌, ◌∷◌, [], List, length, map, refl, ap, sym, ◌∙◌, arith}
use Rattle.std.specs.List.{range_with_len}
use Rattle.std.proofs.lemmas.Option.{slice_get_read}
use Rattle.std.proofs.lemmas.List.FromFn.{map-range_with_len_more}
use Rattle.mb_schedule.specs.declared.report.HostLine.{HostLine}
use Rattle.mb_members.specs.Lines.{host_line}
use Rattle.mb_members.proofs.lines.host_lines.Goals as goal

pub loop-host-preserved : goal.loop-host-preserved
loop-host-preserved g c = λ y x all.
    let n = c.loop-host.host in
    let members = c.args.members.now in
    let at = slice_get_read members (length members) n c.index-members-host.result refl c.loop-host-test.true c.index-members-host.is in
    c.in_ok-push.ensures.ok
    ∙ ap (λ (l : List HostLine). l ++ c.host_line.result ∷ []) (c.loop-host.invariant y x all)
    ∙ ap (λ (z : HostLine). map (host_line y x) (range_with_len 0 n) ++ z ∷ []) (c.host_line.ensures y x (all n _ at))
    ∙ sym (map-range_with_len_more (host_line y x) 0 n n (omega arith))

pub returns : goal.returns
returns g c = λ y x all.
    let end : c.loop-host.host ≡ length c.args.members.now = omega arith in
    c.loop-host.invariant y x all ∙ ap (λ (n : ℕ). map (host_line y x) (range_with_len 0 n)) end
