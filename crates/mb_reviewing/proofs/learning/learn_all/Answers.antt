use Rattle.std.proofs.Common.{rules, ◌≡◌, ℕ, ◌+◌, List, [], ◌∷◌, ◌++◌, take, drop, take_all, Some, Err, slice_get, sym, ap, subst, ◌∙◌}
use Rattle.std.specs.Global.{Vec}
use Rattle.std.proofs.lemmas.Option.{slice_get-get_or}
use Rattle.mb_base.specs.Shapes.{Bytes}
use Rattle.mb_audit.specs.Stamps.{texts}
use Rattle.mb_reviewing.proofs.LearntAll.{Took, texts_next, texts_split, took_nothing, took_next, stopped}
use Rattle.mb_reviewing.proofs.learning.learn_all.Goals as goal

pub loop-bytes-init : goal.loop-bytes-init
loop-bytes-init c r rep = took_nothing r c.args.learner.now rep

pub loop-bytes-preserved : goal.loop-bytes-preserved
loop-bytes-preserved c r rep =
    let v : Vec ℕ = c.bytes-item.result in
    let i = c.loop-bytes.bytes-index in
    let there : slice_get c.args.given.now i ≡ Some v = slice_get-get_or _ _ v c.loop-bytes-test.true ∙ ap (λ x. Some x) (sym c.bytes-item.is) in
    let t = c.loop-bytes.invariant r rep in
    subst (λ (l : List Bytes). Took r l c.learn.new.self) (ap (λ (b : Bytes). texts (take i c.args.given.now) ++ b ∷ []) c.as_slice.ensures.value ∙ sym (texts_next c.args.given.now i v there))
    (took_next r (texts (take i c.args.given.now)) c.as_slice.result.now c.loop-bytes.learner c.learn.new.self t _ (c.in_ok-_executed.ensures.answers _ _ [] (texts (take i c.args.given.now)) t.0 t.2))

pub returns : goal.returns
returns c r rep = subst (λ (l : List (Vec ℕ)). Took r (texts l) c.loop-bytes.learner) (take_all c.loop-bytes.bytes-index c.args.given.now c.loop-bytes-test.false) (c.loop-bytes.invariant r rep)

pub returns-in_err-_executed : goal.returns-in_err-_executed
returns-in_err-_executed c r rep =
    let failed : c.from_residual.result ≡ Err c.in_err-_executed.field-0.0 = search rules in
    let v : Vec ℕ = c.bytes-item.result in
    let i = c.loop-bytes.bytes-index in
    let there : slice_get c.args.given.now i ≡ Some v = slice_get-get_or _ _ v c.loop-bytes-test.true ∙ ap (λ x. Some x) (sym c.bytes-item.is) in
    let t = c.loop-bytes.invariant r rep in
    rw failed
    (stopped r (texts c.args.given.now) (texts (take i c.args.given.now)) c.as_slice.result.now (texts (drop (i + 1) c.args.given.now)) c.loop-bytes.learner c.learn.new.self t c.in_err-_executed.field-0.0
    (texts_split c.args.given.now i v there ∙ ap (λ (b : Bytes). texts (take i c.args.given.now) ++ b ∷ texts (drop (i + 1) c.args.given.now)) (sym c.as_slice.ensures.value))
    (c.in_err-_executed.ensures.answers _ _ [] (texts (take i c.args.given.now)) t.0 t.2))
