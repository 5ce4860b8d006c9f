use Rattle.mb_parts.specs.Fits.{FitsBatch}
use Rattle.mb_learn.proofs.NextProved.{next_found, none_found, found_all}
use Rattle.mb_learn.proofs.heard.Heard.proved_by.Goals as goal

pub returns-then-not-is_agreed : goal.returns-then-not-is_agreed
returns-then-not-is_agreed c = record {
  some = λ s secret claims said shown lists h. tt;
  none = λ s secret claims said shown lists h b next. c.is_agreed.ensures.no s secret claims said shown lists h c.if-not-is_agreed.true next.agreed;
  fits = tt;
}

pub returns : goal.returns
returns c = record {
  some = λ s secret claims said shown lists h. next_found s secret claims said shown lists c.args.self.now h c.args.cast.now.view c.args.cast.now.vote (c.is_agreed.ensures.yes s secret claims said shown lists h c.if-not-is_agreed.false) c.get.result c.get.ensures;
  none = λ s secret claims said shown lists h. none_found s secret claims said shown lists c.args.self.now h c.args.cast.now.view c.args.cast.now.vote c.get.result c.get.ensures;
  fits = found_all (FitsBatch c.args.self.now.shape) c.get.result _ c.get.ensures (c.requires.batches c.args.cast.now.vote.request);
}
