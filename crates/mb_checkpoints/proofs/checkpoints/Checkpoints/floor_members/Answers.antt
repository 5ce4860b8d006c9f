use Rattle.std.proofs.Common.{◌≡◌, ℕ, ◌++◌, [], Bool, true, Option, Some, None, length, refl, ap, sym, ◌∙◌, arith}
use Rattle.std.specs.List.{cons_option}
use Rattle.std.specs.Prelude.{option_map}
use Rattle.mb_base.specs.Shapes.{quorum, host_count}
use Rattle.mb_parts.specs.declared.certificates.FloorMember.{FloorMember}
use Rattle.mb_msg.specs.declared.normal.Checkpoint.{Checkpoint}
use Rattle.mb_base.specs.declared.shape.Shape.{Shape}
use Rattle.mb_model.specs.Stable.{kept_floor, floor_member}
use Rattle.mb_checkpoints.specs.declared.agreement.Said.{Said}
use Rattle.mb_checkpoints.proofs.Agreed.{saying_floor}
use Rattle.mb_checkpoints.specs.Agreement.{says}
use Rattle.mb_checkpoints.specs.Certificates.{message_at}
use Rattle.mb_checkpoints.proofs.Rows.{gathered, gather_more, gather_all}
use Rattle.mb_checkpoints.proofs.checkpoints.Checkpoints.floor_members.Goals as goal

no_floor : {A B : Type 0} (f : A → B) (o : Option A) → option_map f o ≡ None → o ≡ None
no_floor f None e = refl
no_floor f (Some x) e = absurd cc

full : (s : Shape) (owner : ℕ) (said : Said) (x : Checkpoint) → says (Some owner) said x ≡ true → option_map (floor_member s) (kept_floor owner x) ≡ None → ⊥
full s owner said x it_says none = saying_floor owner said x it_says (no_floor (floor_member s) (kept_floor owner x) none)

pub returns-then-len-from : goal.returns-then-len-from
returns-then-len-from c =
    let t = c.args.self.now in
    let p : Checkpoint → Bool = says (Some c.args.owner) c.args.said.now in
    let g : Checkpoint → Option FloorMember = λ m. option_map (floor_member t.shape) (kept_floor c.args.owner m) in
    let q : ℕ = quorum t.shape in
    let many : c.from.result ≡ q = c.from.ensures ∙ c.quorum.ensures in
    let have : c.len.result ≡ length (gathered p g (full t.shape c.args.owner c.args.said.now) q (message_at t c.args.number) c.loop-host.host) = c.len.ensures ∙ ap length c.loop-host.invariant in
    let enough = c.if-len-from.true in
    let below = c.loop-host-test.true in
    let hosts : c.n-host-end.result ≡ host_count t.shape = c.n-host-end.ensures in
    c.loop-host.invariant ∙ sym (gather_all p g (full t.shape c.args.owner c.args.said.now) q (message_at t c.args.number) c.loop-host.host (host_count t.shape) (omega (arith, below, hosts)) (omega (arith, many, have, enough)))

pub loop-host-preserved : goal.loop-host-preserved
loop-host-preserved c =
    let t = c.args.self.now in
    let p : Checkpoint → Bool = says (Some c.args.owner) c.args.said.now in
    let g : Checkpoint → Option FloorMember = λ m. option_map (floor_member t.shape) (kept_floor c.args.owner m) in
    let q : ℕ = quorum t.shape in
    let many : c.from.result ≡ q = c.from.ensures ∙ c.quorum.ensures in
    let have : c.len.result ≡ length (gathered p g (full t.shape c.args.owner c.args.said.now) q (message_at t c.args.number) c.loop-host.host) = c.len.ensures ∙ ap length c.loop-host.invariant in
    let fewer = c.if-len-from.false in
    c.in_ok-push_some.ensures
    ∙ ap (λ l. l ++ cons_option c.in_ok-member.member []) c.loop-host.invariant
    ∙ sym (gather_more p g (full t.shape c.args.owner c.args.said.now) q (message_at t c.args.number) c.loop-host.host c.in_ok-member.member c.in_ok-member.ensures (omega (arith, many, have, fewer)))
