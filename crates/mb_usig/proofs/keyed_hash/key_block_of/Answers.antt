use Rattle.std.proofs.Common.{ℕ, List, ◌++◌, length, ap}
use Rattle.std.proofs.lemmas.List.{drop-replicate}
use Rattle.mb_usig.proofs.keyed_hash.key_block_of.Goals as goal

pub returns : goal.returns
returns c = rw c.copy_from_slice.ensures.after (ap (λ (t : List ℕ). c.args.key.now ++ t) (drop-replicate (length c.args.key.now) 64 0))
