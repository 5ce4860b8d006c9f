use Rattle.std.proofs.Common.{◌≡◌, ◌∙◌, [], ◌∷◌, ◌++◌, ℕ, List, length, refl, append_assoc, arith, rules}
use Rattle.std.specs.Int.{w8, w64}
use Rattle.mb_base.specs.Spelling.{number}
use Rattle.mb_parts.specs.Bares.{bare_bytes, NewView}
use Rattle.mb_cert.proofs.Written.{follows, whole, eight}
use Rattle.mb_cert.proofs.bare.new_view_bare.Goals as goal

-- the pieces, in the order in which they are written
joined : (view_ base_ end_ : ℕ) (letter view base end plan body : List ℕ) → letter ≡ number w8 8 → view ≡ number w64 view_ → base ≡ number w64 base_ → end ≡ number w64 end_
    → ((((letter ++ view) ++ base) ++ end) ++ plan) ++ body ≡ bare_bytes (NewView view_ base_ end_ plan body)
unfolding bare_bytes
joined view_ base_ end_ letter view base end plan body a b c d = rw (a, b, c, d) (simp append_assoc)

pub returns : goal.returns
unfolding number
returns c =
    let view : length c.to_be_bytes.result ≡ 8 = eight c.args.view c.to_be_bytes.result c.to_be_bytes.ensures in
    let base : length c.to_be_bytes-2.result ≡ 8 = eight c.args.base c.to_be_bytes-2.result c.to_be_bytes-2.ensures in
    let end : length c.to_be_bytes-3.result ≡ 8 = eight c.args.end c.to_be_bytes-3.result c.to_be_bytes-3.ensures in
    let plan : length c.args.plan.now ≡ 32 = search rules in
    let body : length c.args.body.now ≡ 32 = search rules in
    let at1 = c.write.ensures.front [] refl in
    let at2 = follows 1 9 (8 ∷ []) c.to_be_bytes.result c.write-2.new.bare (omega (arith, view)) (c.write-2.ensures.front (8 ∷ []) at1) in
    let at3 = follows 9 17 ((8 ∷ []) ++ c.to_be_bytes.result) c.to_be_bytes-2.result c.write-3.new.bare (omega (arith, base)) (c.write-3.ensures.front ((8 ∷ []) ++ c.to_be_bytes.result) at2) in
    let at4 = follows 17 25 (((8 ∷ []) ++ c.to_be_bytes.result) ++ c.to_be_bytes-2.result) c.to_be_bytes-3.result c.write-4.new.bare (omega (arith, end)) (c.write-4.ensures.front (((8 ∷ []) ++ c.to_be_bytes.result) ++ c.to_be_bytes-2.result) at3) in
    let at5 = follows 25 57 ((((8 ∷ []) ++ c.to_be_bytes.result) ++ c.to_be_bytes-2.result) ++ c.to_be_bytes-3.result) c.args.plan.now c.write-5.new.bare (omega (arith, plan)) (c.write-5.ensures.front ((((8 ∷ []) ++ c.to_be_bytes.result) ++ c.to_be_bytes-2.result) ++ c.to_be_bytes-3.result) at4) in
    let at6 = follows 57 89 (((((8 ∷ []) ++ c.to_be_bytes.result) ++ c.to_be_bytes-2.result) ++ c.to_be_bytes-3.result) ++ c.args.plan.now) c.args.body.now c.write-6.new.bare (omega (arith, body)) (c.write-6.ensures.front (((((8 ∷ []) ++ c.to_be_bytes.result) ++ c.to_be_bytes-2.result) ++ c.to_be_bytes-3.result) ++ c.args.plan.now) at5) in
    whole 89 c.write-6.new.bare _ (omega (arith, c.write.ensures.length, c.write-2.ensures.length, c.write-3.ensures.length, c.write-4.ensures.length, c.write-5.ensures.length, c.write-6.ensures.length)) at6 ∙ joined c.args.view c.args.base c.args.end (8 ∷ []) c.to_be_bytes.result c.to_be_bytes-2.result c.to_be_bytes-3.result c.args.plan.now c.args.body.now refl c.to_be_bytes.ensures c.to_be_bytes-2.ensures c.to_be_bytes-3.ensures
