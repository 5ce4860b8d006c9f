use Rattle.std.proofs.Common.{◌≡◌, ℕ, ◌+◌, ◌*◌, ◌/◌, ◌<◌, ◌≤◌, ap, sym, ◌∙◌, refl, subst, arith, length}
use Rattle.mb_base.specs.Limits.{least_interval, most_hosts}
use Rattle.mb_base.specs.Shapes.{interval, host_count}
use Rattle.mb_window.specs.Represents.{StandsWith}
use Rattle.mb_window.proofs.Searches.{put_stands}
use Rattle.mb_checkpoints.specs.declared.checkpoints.KeptCheckpoint.{KeptCheckpoint}
use Rattle.mb_checkpoints.specs.Kept.{place_of}
use Rattle.mb_checkpoints.proofs.Places.{keeps, number_is}
use Rattle.mb_checkpoints.proofs.checkpoints.Checkpoints.keep.Goals as goal

pub returns : goal.returns
returns c = record {
  stands = λ s low search st.
      let t = c.args.self.now in
      let m = c.args.checkpoint in
      let more = c.requires.place.0 in
      let number : ℕ = t.first + more in
      let k_is : c.from.result ≡ interval t.shape = c.from.ensures ∙ c.k.ensures in
      let some : least_interval ≤ interval t.shape = t.shape.interval_in.0 in
      let hosts : host_count t.shape ≤ most_hosts = let most = t.shape.faults_in.1 in omega (arith, most) in
      let host : m.ui.host < most_hosts = let below = c.requires.host in omega (arith, below, hosts) in
      let divided : m.pos / c.from.result ≡ number = ap (λ k. m.pos / k) k_is ∙ ap (λ p. p / interval t.shape) c.requires.place.2 ∙ number_is (interval t.shape) number some in
      let place : m.pos / c.from.result * most_hosts + c.from-2.result + 1 ≡ place_of number m.ui.host = let h = c.from-2.ensures in omega (arith, h, divided) in
      let low_is = t.low_is in
      let width = t.width in
      let few = c.requires.place.1 in
      let above : t.window.low < place_of number m.ui.host = omega (arith, low_is) in
      let within : place_of number m.ui.host ≤ t.window.low + length t.window.items = omega (arith, low_is, width, few, host) in
      let kept : KeptCheckpoint = record { message = m; floors = c.floors_digest-floors.result; floors_are = c.write-arg-2-1.given.0 } in
      let window = put_stands t.window c.write.new.window (m.pos / c.from.result * most_hosts + c.from-2.result + 1) kept c.write.ensures (subst (λ q. t.window.low < q) (sym place) above) (subst (λ q. q ≤ t.window.low + length t.window.items) (sym place) within) in
      keeps t _ m kept number refl c.requires.place.2 (omega arith) host some hosts refl refl (subst (λ q. StandsWith t.window q kept c.write.new.window) place window) s low search st;
}
