use Rattle.std.proofs.Common.{◌≡◌, ◌∙◌, ◌+◌, ◌<◌, ℕ, List, length, get_or, Some, sym, ap, arith}
use Rattle.sha2.specs.Sha256.{sha256}
use Rattle.mb_base.specs.Shapes.{Bytes}
use Rattle.mb_fetch.proofs.WrongParts.{wrong_start, wrong_step, wrong_found, test_is, found_part}
use Rattle.mb_fetch.proofs.checking.check_parts.Goals as goal

pub loop-index-init : goal.loop-index-init
loop-index-init c = wrong_start c.args.state.now

pub returns-then-ne : goal.returns-then-ne
returns-then-ne c =
    let m = c.args.state.now in
    let n = c.loop-index.index in
    let place = c.from.result + n in
    let part = c.index-as_slice-index.result in
    let at : place ≡ m.first + n = ap (λ (x : ℕ). x + n) c.from.ensures in
    let counted = c.len-index-end.ensures in
    let test = c.loop-index-test.true in
    let lt : n < length m.parts = omega (arith, counted, test) in
    let is : part ≡ get_or m.parts n part = c.index-as_slice-index.is ∙ ap (λ (l : List Bytes). get_or l n part) c.as_slice.ensures in
    let hash = c.digest-found.ensures ∙ ap sha256 c.as_slice-in-loop-index.ensures in
    let wrong = sym (test_is m c.requires n place part c.digest-found.result at lt is hash _ _ c.ne.result c.as_slice-in-loop-index-2.ensures c.ne.ensures) ∙ c.if-ne.true in (
      sym c.loop-index.invariant ∙ (wrong_found m n lt wrong ∙ ap (λ (x : ℕ). Some x) (sym at)),
      found_part m c.requires n place part c.digest-found.result at lt is hash,
    )

pub loop-index-preserved : goal.loop-index-preserved
loop-index-preserved c =
    let m = c.args.state.now in
    let n = c.loop-index.index in
    let place = c.from.result + n in
    let part = c.index-as_slice-index.result in
    let at : place ≡ m.first + n = ap (λ (x : ℕ). x + n) c.from.ensures in
    let counted = c.len-index-end.ensures in
    let test = c.loop-index-test.true in
    let lt : n < length m.parts = omega (arith, counted, test) in
    let is : part ≡ get_or m.parts n part = c.index-as_slice-index.is ∙ ap (λ (l : List Bytes). get_or l n part) c.as_slice.ensures in
    let hash = c.digest-found.ensures ∙ ap sha256 c.as_slice-in-loop-index.ensures in
    let right = sym (test_is m c.requires n place part c.digest-found.result at lt is hash _ _ c.ne.result c.as_slice-in-loop-index-2.ensures c.ne.ensures) ∙ c.if-ne.false in
    wrong_step m n lt right ∙ c.loop-index.invariant
