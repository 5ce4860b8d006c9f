use Rattle.std.proofs.Common.{◌≡◌, ℕ, ◌+◌, ◌*◌, refl, ap, sym, ◌∙◌, subst, arith}
use Rattle.std.specs.Prelude.{IfOk}
use Rattle.std.specs.Option.{option_or}
use Rattle.mb_base.specs.Shapes.{interval, span}
use Rattle.mb_checkpoints.specs.Certificates.{agreed_at}
use Rattle.mb_checkpoints.proofs.Found.{stable_is}
use Rattle.mb_checkpoints.proofs.checkpoints.Checkpoints.stable.Goals as goal

one_interval : (low k : ℕ) → low + k ≡ low + 1 * k
one_interval low k = omega arith

no_interval : (low k : ℕ) → low ≡ low + 0 * k
no_interval low k = omega arith

pub returns-in-Some : goal.returns-in-Some
returns-in-Some c = λ s low search st.
    let t = c.args.self.now in
    sym (ap (λ o. option_or o (agreed_at s search (low + interval s))) (sym (stable_is s t low search st 2 (low + span s) (refl)) ∙ sym c.in_ok-cert.ensures ∙ c.in-Some.is))

pub returns : goal.returns
returns c = λ s low search st.
    let t = c.args.self.now in
    let nothing = sym (stable_is s t low search st 2 (low + span s) (refl)) ∙ sym c.in_ok-cert.ensures ∙ c.in_default.is in
    subst (λ x. IfOk c.stable_at-2.result (λ r. r ≡ x)) (stable_is s t low search st 1 (low + interval s) (one_interval low (interval s)) ∙ sym (ap (λ o. option_or o (agreed_at s search (low + interval s))) nothing)) c.stable_at-2.ensures
