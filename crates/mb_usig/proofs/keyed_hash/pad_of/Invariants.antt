use Rattle.std.proofs.Common.{◌≡◌, ◌++◌, map, take, drop, bit_xor}
use Rattle.mb_usig.specs.Hmac.{key_block}
use Rattle.mb_usig.proofs.keyed_hash.pad_of.Given as goal

abbrev pub invariant-loop-byte : goal.invariant-loop-byte
invariant-loop-byte l =
    l.byte-items ≡ map (λ b. bit_xor b l.pad) (take l.byte-index (key_block l.key)) ++ drop l.byte-index (key_block l.key)
