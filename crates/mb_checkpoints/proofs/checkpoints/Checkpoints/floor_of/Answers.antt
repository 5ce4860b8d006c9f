use Rattle.std.proofs.Common.{◌≡◌, ℕ, ◌+◌, ◌*◌, refl, ap, sym, ◌∙◌, subst, arith}
use Rattle.std.specs.Prelude.{IfOk}
use Rattle.std.specs.Option.{option_or}
use Rattle.mb_base.specs.Shapes.{span}
use Rattle.mb_checkpoints.specs.Certificates.{lower_floor}
use Rattle.mb_checkpoints.proofs.Found.{floor_is}
use Rattle.mb_checkpoints.proofs.checkpoints.Checkpoints.floor_of.Goals as goal

one_interval : (low k : ℕ) → low + k ≡ low + 1 * k
one_interval low k = omega arith

no_interval : (low k : ℕ) → low ≡ low + 0 * k
no_interval low k = omega arith

pub returns-in-Some : goal.returns-in-Some
returns-in-Some c = λ s low search st.
    let t = c.args.self.now in
    sym (ap (λ o. option_or o (lower_floor s search c.args.owner low)) (sym (floor_is s t low search st 2 (low + span s) (refl) c.args.owner) ∙ sym c.in_ok-cert.ensures ∙ c.in-Some.is))

pub returns : goal.returns
returns c = λ s low search st.
    let t = c.args.self.now in
    let nothing = sym (floor_is s t low search st 2 (low + span s) (refl) c.args.owner) ∙ sym c.in_ok-cert.ensures ∙ c.in_default.is in
    subst (λ x. IfOk c.lower_floor_of.result (λ r. r ≡ x)) (sym (ap (λ o. option_or o (lower_floor s search c.args.owner low)) nothing)) (c.lower_floor_of.ensures s low search st)
