-- Batches that the test finds equal are the same.
use Rattle.std.proofs.Common.{◌≡◌, ℕ, true, nat_eq, List, ◌&&◌, refl, ap, subst}
use Rattle.std.specs.Cmp.Lexicographic.{pointwise, pointwise_decides, bytes_decides}
use Rattle.std.proofs.lemmas.Bool.{and_parts, eqb-true, eq-eqb}
use Rattle.mb_base.specs.Shapes.{Bytes}
use Rattle.mb_parts.specs.declared.request.Request.{Request}
use Rattle.mb_parts.specs.declared.batch.Batch.{Batch}
use Rattle.mb_parts.specs.SameRequest.{same_request}
use Rattle.mb_parts.specs.contracts.batch.BatchPartialEq.TheImpl as batches

made : ℕ → ℕ → Bytes → Bytes → Request
made c n o t = record { client = c; seq = n; op = o; tag = t }

made_same : (c c' n n' : ℕ) (o o' t t' : Bytes) → c ≡ c' → n ≡ n' → o ≡ o' → t ≡ t' → made c n o t ≡ made c' n' o' t'
made_same c c' n n' o o' t t' e1 e2 e3 e4 = cc

request_is : (a b : Request) → same_request a b ≡ true → a ≡ b
unfolding made
request_is a b h =
    let x = and_parts (nat_eq a.client b.client) _ h in
    let y = and_parts (nat_eq a.seq b.seq) _ x.1 in
    let z = and_parts (pointwise nat_eq a.op b.op) _ y.1 in
    made_same a.client b.client a.seq b.seq a.op b.op a.tag b.tag (eqb-true _ _ x.0) (eqb-true _ _ y.0) ((bytes_decides _ _).0 z.0) ((bytes_decides _ _).0 z.1)

request_own : (a : Request) → same_request a a ≡ true
request_own a = rw (eq-eqb a.client a.client refl, eq-eqb a.seq a.seq refl, (bytes_decides a.op a.op).1 refl, (bytes_decides a.tag a.tag).1 refl) refl

requests_decide : (l r : List Request) → (pointwise same_request l r ≡ true → l ≡ r) × (l ≡ r → pointwise same_request l r ≡ true)
requests_decide = pointwise_decides (λ x y. (request_is x y, λ e. subst (λ (z : Request). same_request x z ≡ true) e (request_own x)))

batch_of : List Request → Batch
batch_of rs = record { requests = rs }

pub same_batch : (a b : Batch) → batches.ghosts.eq a b ≡ true → a ≡ b
unfolding batch_of
same_batch a b h = ap batch_of ((requests_decide a.requests b.requests).0 h)
