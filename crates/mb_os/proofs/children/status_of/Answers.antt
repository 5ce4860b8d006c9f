use Rattle.std.proofs.Common.{sym, ◌∙◌, rules, SFits, w32, to_z-of_z}
use Rattle.mb_os.proofs.StatusLemmas.{code_told}
use Rattle.mb_os.proofs.children.status_of.Goals as goal

pub returns-in-Some-clause-code : goal.returns-in-Some-clause-code
returns-in-Some-clause-code c = λ n is.
    let code = c.in-Some.code in
    let fits : SFits w32 code = search rules in
    rw c.unwrap_or.ensures (code_told c.args.status code _ c.try_from.result n (sym c.code.ensures ∙ c.in-Some.is) (to_z-of_z fits) c.try_from.ensures is)
