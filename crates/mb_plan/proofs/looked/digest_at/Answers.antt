use Rattle.mb_plan.proofs.looked.digest_at.Goals as goal

pub returns-in-Some : goal.returns-in-Some
returns-in-Some c = λ s secret are. (c.in-Some.ensures s secret are).0
