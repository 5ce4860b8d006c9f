use Rattle.std.proofs.Common.{◌≡◌, false, not, is_none, List, ap, subst, ◌∙◌}
use Rattle.std.specs.Prelude.{IsSome}
use Rattle.std.specs.List.{AllByRecursion}
use Rattle.std.proofs.lemmas.Bool.{not-false}
use Rattle.mb_parts.specs.declared.batch.Batch.{Batch}
use Rattle.mb_parts.specs.Bares.{batch_digest}
use Rattle.mb_learn.specs.Tables.{batch_at}
use Rattle.mb_learn.proofs.Opening.{open_bare, open_known}
use Rattle.mb_learn.proofs.Voting.{found_known}
use Rattle.mb_learn.proofs.heard.Heard.lacks_some.Goals as goal

pub returns-else-is_none : goal.returns-else-is_none
returns-else-is_none c not_so =
    let known : is_none c.get.result ≡ false = ap not (c.is_none.ensures ∙ ap not c.if-is_none.false) in
    open_known c.args.self.now c.args.m.now c.requires.ready c.in-Whole.body c.in-Whole.is (found_known c.get.result _ c.get.ensures known)
    (subst (λ (l : List Batch). AllByRecursion (λ b. IsSome (batch_at c.args.self.now.batches (batch_digest b))) l) c.as_slice.ensures (c.has_all.ensures (not-false c.has_all.result not_so)))

pub returns-in-Bare : goal.returns-in-Bare
returns-in-Bare c not_so = open_bare c.args.self.now c.args.m.now c.requires.ready c.in-Bare.field-0 c.in-Bare.is
