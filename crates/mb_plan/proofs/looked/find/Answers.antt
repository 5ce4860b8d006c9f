use Rattle.mb_plan.proofs.looked.find.Goals as goal

pub returns-clause-found : goal.returns-clause-found
returns-clause-found c = c.in_ok-found.ensures

pub returns-clause-places : goal.returns-clause-places
returns-clause-places c = c.keep.ensures c.args.usig.now.shape c.args.usig.now.secret c.requires.1 c.in_ok-found.ensures
