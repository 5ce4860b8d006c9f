use Rattle.std.proofs.Common.{◌∙◌}
use Rattle.mb_cache.specs.Represents.{snapshots_of}
use Rattle.mb_executor.proofs.Installing.{all_installed}
use Rattle.mb_executor.proofs.keeper.Keeper.install_where_all.Goals as goal

pub returns-in-Ok : goal.returns-in-Ok
returns-in-Ok g c = λ pos digest search st.
    let whole = c.in-Ok.ensures in
    let snapshots = snapshots_of g.V.Service.machine in
    all_installed snapshots c.args.parts c.as_slice.result.now c.args.self.now c.install_all.new.self c.requires.out pos digest search st whole.0 (c.as_slice.ensures.value ∙ whole.1.stands pos digest search st) c.install_all.result c.install_all.ensures
