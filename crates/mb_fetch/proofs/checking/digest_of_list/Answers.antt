use Rattle.std.proofs.Common.{◌≡◌, ◌++◌, ◌∙◌, ℕ, List, [], ap}
use Rattle.std.specs.Int.{w64}
use Rattle.std.specs.List.{flat_map}
use Rattle.sha2.specs.Sha256.{sha256}
use Rattle.mb_base.specs.Shapes.{Bytes}
use Rattle.mb_base.specs.Spelling.{number}
use Rattle.mb_model.specs.States.{digest_string}
use Rattle.mb_fetch.proofs.checking.digest_of_list.Goals as goal

joined : (digests : List Bytes) (pos : ℕ) (place : Bytes) → place ≡ number w64 pos → flat_map (λ (d : Bytes). d) digests ++ place ≡ digest_string digests pos
unfolding digest_string
joined digests pos place e = ap (λ (l : Bytes). flat_map (λ (d : Bytes). d) digests ++ l) e

pub returns : goal.returns
unfolding number
returns c =
    let one = c.hash_all.ensures [] c.new-hasher.ensures in
    let two = c.update.ensures _ one in
    c.finalize.ensures _ two ∙ ap sha256 (joined c.args.digests.now c.args.pos c.to_be_bytes.result c.to_be_bytes.ensures)
