use Rattle.std.proofs.Common.{◌≡◌, ◌*◌, ◌/◌, ◌≤◌, ap, sym, ◌∙◌, refl, subst, arith}
use Rattle.mb_base.specs.Limits.{least_interval, most_hosts}
use Rattle.mb_base.specs.Shapes.{interval}
use Rattle.mb_window.specs.Represents.{StandsAbove}
use Rattle.mb_checkpoints.proofs.Places.{keeps_above, number_is}
use Rattle.mb_checkpoints.proofs.checkpoints.Checkpoints.raise.Goals as goal

pub returns : goal.returns
returns c = record {
  stands = λ s low search st.
      let t = c.args.self.now in
      let number = c.requires.multiple.0 in
      let k_is : c.from.result ≡ interval t.shape = c.from.ensures ∙ c.k.ensures in
      let some : least_interval ≤ interval t.shape = t.shape.interval_in.0 in
      let divided : c.args.low / c.from.result ≡ number = ap (λ k. c.args.low / k) k_is ∙ ap (λ p. p / interval t.shape) c.requires.multiple.1 ∙ number_is (interval t.shape) number some in
      keeps_above t _ number c.args.low c.requires.multiple.1 some c.requires.above refl divided
      (subst (λ q. StandsAbove t.window (q * most_hosts) c.raise.new.self) divided c.raise.ensures.stands) s low search st;
}

pub invariant_of-self-clause-low_in : goal.invariant_of-self-clause-low_in
invariant_of-self-clause-low_in c =
    let t = c.args.self.now in
    let number = c.requires.multiple.0 in
    let k_is : c.from.result ≡ interval t.shape = c.from.ensures ∙ c.k.ensures in
    let some : least_interval ≤ interval t.shape = t.shape.interval_in.0 in
    let divided : c.args.low / c.from.result ≡ number = ap (λ k. c.args.low / k) k_is ∙ ap (λ p. p / interval t.shape) c.requires.multiple.1 ∙ number_is (interval t.shape) number some in
    let product : c.args.low / c.from.result * interval t.shape ≡ c.args.low = ap (λ n. n * interval t.shape) divided ∙ sym c.requires.multiple.1 in
    let most = c.requires.most in
    omega (arith, product, most)
