use Rattle.std.proofs.Common.{ℕ, ◌-◌, ◌<◌, ◌≡◌, length, replicate, get_or, bit_xor, arith}
use Rattle.std.proofs.lemmas.List.{length-append, length-replicate, get_or_default}
use Rattle.std.proofs.lemmas.List.Edits.{map_over_more}
use Rattle.mb_usig.specs.Hmac.{key_block}
use Rattle.mb_usig.proofs.keyed_hash.pad_of.Goals as goal

pub loop-byte-preserved : goal.loop-byte-preserved
loop-byte-preserved c =
    let key = c.args.key.now in
    let i = c.loop-byte.byte-index in
    let ys = c.loop-byte.byte-items in
    let len : length (key_block key) ≡ 64 = omega (arith, length-append key (replicate (64 - length key) 0), length-replicate {A = ℕ} (64 - length key) 0) in
    let lt : i < length (key_block key) = omega arith in
    let lt' : i < length ys = omega arith in
    map_over_more (λ b. bit_xor b c.args.pad) (key_block key) ys i (get_or ys i 0) lt c.loop-byte.invariant (get_or_default ys i 0 (get_or ys i 0) lt')
