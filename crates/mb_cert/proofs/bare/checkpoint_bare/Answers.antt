use Rattle.std.proofs.Common.{◌≡◌, ◌∙◌, [], ◌∷◌, ◌++◌, ℕ, List, length, refl, append_assoc, arith, rules}
use Rattle.std.specs.Int.{w8, w64}
use Rattle.mb_base.specs.Spelling.{number}
use Rattle.mb_parts.specs.Bares.{bare_bytes, Checkpoint}
use Rattle.mb_cert.proofs.Written.{follows, whole, eight}
use Rattle.mb_cert.proofs.bare.checkpoint_bare.Goals as goal

-- the pieces, in the order in which they are written
joined : (pos_ : ℕ) (letter pos state floors : List ℕ) → letter ≡ number w8 5 → pos ≡ number w64 pos_
    → ((letter ++ pos) ++ state) ++ floors ≡ bare_bytes (Checkpoint pos_ state floors)
unfolding bare_bytes
joined pos_ letter pos state floors a b = rw (a, b) (simp append_assoc)

pub returns : goal.returns
unfolding number
returns c =
    let pos : length c.to_be_bytes.result ≡ 8 = eight c.args.pos c.to_be_bytes.result c.to_be_bytes.ensures in
    let state : length c.args.state.now ≡ 32 = search rules in
    let floors : length c.args.floors.now ≡ 32 = search rules in
    let at1 = c.write.ensures.front [] refl in
    let at2 = follows 1 9 (5 ∷ []) c.to_be_bytes.result c.write-2.new.bare (omega (arith, pos)) (c.write-2.ensures.front (5 ∷ []) at1) in
    let at3 = follows 9 41 ((5 ∷ []) ++ c.to_be_bytes.result) c.args.state.now c.write-3.new.bare (omega (arith, state)) (c.write-3.ensures.front ((5 ∷ []) ++ c.to_be_bytes.result) at2) in
    let at4 = follows 41 73 (((5 ∷ []) ++ c.to_be_bytes.result) ++ c.args.state.now) c.args.floors.now c.write-4.new.bare (omega (arith, floors)) (c.write-4.ensures.front (((5 ∷ []) ++ c.to_be_bytes.result) ++ c.args.state.now) at3) in
    whole 73 c.write-4.new.bare _ (omega (arith, c.write.ensures.length, c.write-2.ensures.length, c.write-3.ensures.length, c.write-4.ensures.length)) at4 ∙ joined c.args.pos (5 ∷ []) c.to_be_bytes.result c.args.state.now c.args.floors.now refl c.to_be_bytes.ensures
