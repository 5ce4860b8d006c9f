use Rattle.std.proofs.Common.{rules, ◌≡◌, None, refl, sym}
use Rattle.mb_learn.proofs.Lowest.{no_state, none_other}
use Rattle.mb_learn.proofs.learner.Learner.difference_at.Goals as goal

pub returns-in_err-found : goal.returns-in_err-found
returns-in_err-found g c =
    let failed : c.from_residual.result ≡ None = search rules in
    record {
      some = rw failed tt;
      none = rw failed (λ d at is. no_state c.args.self.now.heard c.args.self.now.line c.args.pos d (sym c.in_err-found.ensures) at is);
    }

pub returns-in_err-certified : goal.returns-in_err-certified
returns-in_err-certified g c =
    let failed : c.from_residual-in_err-certified.result ≡ None = search rules in
    record {
      some = rw failed tt;
      none = rw failed (λ d at is. none_other c.args.self.now.heard c.args.self.now.line c.args.pos d c.in_ok-found.found.now (sym c.in_ok-found.ensures) c.in_err-certified.ensures.none at is);
    }

pub returns : goal.returns
returns g c = record {
  some = (refl, record { noted = sym c.in_ok-found.ensures; said = c.in_ok-certified.ensures.some.0; other = c.in_ok-certified.ensures.some.1 });
  none = tt;
}
