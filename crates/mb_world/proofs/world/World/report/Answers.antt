use Rattle.std.proofs.Common.{◌≡◌, ◌∙◌, length, arith}
use Rattle.mb_world.proofs.ReportLaws.{report_is}
use Rattle.mb_world.proofs.world.World.report.Goals as goal

pub returns : goal.returns
returns g c = λ y x h.
    let w = c.args.self.now in
    let messages : c.len.result ≡ length w.pool.items = omega (arith, c.len.ensures) in
    let line = c.from_vec.ensures ∙ (c.in_ok-duplicate_all.ensures ∙ c.as_slice.ensures.value) in
    let refused = c.in_ok-refused_lines.ensures ∙ c.as_slice-2.ensures.value in
    let hosts = rw c.as_slice-3.ensures.value at (c.in_ok-host_lines.ensures y x) in
    let clients = rw c.as_slice-4.ensures.value at (c.in_ok-client_lines.ensures y.schedule x) in
    report_is y w x h w.members_len w.askers_len _ _ _ _ _ messages line refused (hosts h.members) (clients h.rest.askers)
