use Rattle.std.proofs.Common.{◌≡◌, ℕ, ◌+◌, ◌*◌, filter_map, ap, sym, ◌∙◌, subst, arith}
use Rattle.std.specs.Prelude.{IfOk}
use Rattle.std.specs.Option.{option_or}
use Rattle.mb_base.specs.Shapes.{interval}
use Rattle.mb_model.specs.Stable.{kept_floor}
use Rattle.mb_checkpoints.specs.Certificates.{floor_at, floor_of_these, whole_row}
use Rattle.mb_checkpoints.proofs.Found.{floor_is}
use Rattle.mb_checkpoints.proofs.checkpoints.Checkpoints.lower_floor_of.Goals as goal

one_interval : (low k : ℕ) → low + k ≡ low + 1 * k
one_interval low k = omega arith

no_interval : (low k : ℕ) → low ≡ low + 0 * k
no_interval low k = omega arith

pub returns-in-Some : goal.returns-in-Some
returns-in-Some c = λ s low search st.
    let t = c.args.self.now in
    sym (ap (λ o. option_or o (floor_at s search c.args.owner low)) (sym (floor_is s t low search st 1 (low + interval s) (one_interval low (interval s)) c.args.owner) ∙ sym c.in_ok-cert.ensures ∙ c.in-Some.is))

pub returns : goal.returns
returns c = λ s low search st.
    let t = c.args.self.now in
    let nothing = sym (floor_is s t low search st 1 (low + interval s) (one_interval low (interval s)) c.args.owner) ∙ sym c.in_ok-cert.ensures ∙ c.in_default.is in
    subst (λ x. IfOk c.floor_at-2.result (λ r. r ≡ x)) (ap (λ n. floor_of_these t.shape (n * interval t.shape) (filter_map (kept_floor c.args.owner) (whole_row t n))) (let z : t.first ≡ t.first + 0 = omega arith in z) ∙ floor_is s t low search st 0 low (no_interval low (interval s)) c.args.owner ∙ sym (ap (λ o. option_or o (floor_at s search c.args.owner low)) nothing)) c.floor_at-2.ensures
