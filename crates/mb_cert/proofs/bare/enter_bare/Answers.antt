use Rattle.std.proofs.Common.{◌≡◌, ◌∙◌, [], ◌∷◌, ◌++◌, ℕ, List, length, refl, append_assoc, arith, rules}
use Rattle.std.specs.Int.{w8, w64}
use Rattle.mb_base.specs.Spelling.{number}
use Rattle.mb_parts.specs.Bares.{bare_bytes, Enter}
use Rattle.mb_cert.proofs.Written.{follows, whole, eight}
use Rattle.mb_cert.proofs.bare.enter_bare.Goals as goal

-- the pieces, in the order in which they are written
joined : (view_ counter_ : ℕ) (letter view counter plan : List ℕ) → letter ≡ number w8 9 → view ≡ number w64 view_ → counter ≡ number w64 counter_
    → ((letter ++ view) ++ counter) ++ plan ≡ bare_bytes (Enter view_ counter_ plan)
unfolding bare_bytes
joined view_ counter_ letter view counter plan a b c = rw (a, b, c) (simp append_assoc)

pub returns : goal.returns
unfolding number
returns c =
    let view : length c.to_be_bytes.result ≡ 8 = eight c.args.view c.to_be_bytes.result c.to_be_bytes.ensures in
    let counter : length c.to_be_bytes-2.result ≡ 8 = eight c.args.counter c.to_be_bytes-2.result c.to_be_bytes-2.ensures in
    let plan : length c.args.plan.now ≡ 32 = search rules in
    let at1 = c.write.ensures.front [] refl in
    let at2 = follows 1 9 (9 ∷ []) c.to_be_bytes.result c.write-2.new.bare (omega (arith, view)) (c.write-2.ensures.front (9 ∷ []) at1) in
    let at3 = follows 9 17 ((9 ∷ []) ++ c.to_be_bytes.result) c.to_be_bytes-2.result c.write-3.new.bare (omega (arith, counter)) (c.write-3.ensures.front ((9 ∷ []) ++ c.to_be_bytes.result) at2) in
    let at4 = follows 17 49 (((9 ∷ []) ++ c.to_be_bytes.result) ++ c.to_be_bytes-2.result) c.args.plan.now c.write-4.new.bare (omega (arith, plan)) (c.write-4.ensures.front (((9 ∷ []) ++ c.to_be_bytes.result) ++ c.to_be_bytes-2.result) at3) in
    whole 49 c.write-4.new.bare _ (omega (arith, c.write.ensures.length, c.write-2.ensures.length, c.write-3.ensures.length, c.write-4.ensures.length)) at4 ∙ joined c.args.view c.args.counter (9 ∷ []) c.to_be_bytes.result c.to_be_bytes-2.result c.args.plan.now refl c.to_be_bytes.ensures c.to_be_bytes-2.ensures
