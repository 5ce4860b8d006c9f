use Rattle.std.proofs.Common.{inl, inr, true}
use Rattle.mb_gate.specs.declared.kind.Kind.TheVariants as kind
use Rattle.mb_gate.proofs.Behind.{leads}
use Rattle.mb_gate.proofs.rules.behind.Goals as goal

pub returns-in-ViewChange : goal.returns-in-ViewChange
returns-in-ViewChange c = λ s host. leads c.args.at.now s host (λ b. true) c.args.mark.now c.args.kind kind.ViewChange c.in-ViewChange.is

pub returns-in-NewView : goal.returns-in-NewView
returns-in-NewView c = λ s host. elim c.in-NewView.is [
  | inl new_view ↦ leads c.args.at.now s host (λ b. true) c.args.mark.now c.args.kind kind.NewView new_view
  | inr enter ↦ leads c.args.at.now s host (λ b. true) c.args.mark.now c.args.kind kind.Enter enter
]

pub returns-in-Open : goal.returns-in-Open
returns-in-Open c = λ s host. rw c.at_position.ensures (leads c.args.at.now s host (λ b. true) c.args.mark.now c.args.kind kind.Open c.in-Open.is)

pub returns-in-Join : goal.returns-in-Join
returns-in-Join c = λ s host. rw c.at_position-in-Join.ensures elim c.in-Join.is [
  | inl join ↦ leads c.args.at.now s host (λ b. true) c.args.mark.now c.args.kind kind.Join join
  | inr vote ↦ elim vote [
    | inl prepare ↦ leads c.args.at.now s host (λ b. true) c.args.mark.now c.args.kind kind.Prepare prepare
    | inr commit ↦ leads c.args.at.now s host (λ b. true) c.args.mark.now c.args.kind kind.Commit commit
  ]
]

pub returns-in-Checkpoint : goal.returns-in-Checkpoint
returns-in-Checkpoint c = λ s host. leads c.args.at.now s host (λ b. true) c.args.mark.now c.args.kind kind.Checkpoint c.in-Checkpoint.is
