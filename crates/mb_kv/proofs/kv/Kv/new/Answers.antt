use Rattle.std.proofs.Common.{◌≡◌, [], replicate, rules}
use Rattle.mb_base.specs.Limits.{service_parts}
use Rattle.mb_kv.proofs.KeptParts.{made_all, none_is, none_are_kept}
use Rattle.mb_kv.proofs.kv.Kv.new.Goals as goal

pub invariant_of-result : goal.invariant_of-result
invariant_of-result c =
    let empty : c.from_fn.result ≡ replicate service_parts [] = made_all _ [] (λ p q i y called. search rules) _ c.from_fn.result service_parts c.from_fn.ensures.items.long c.from_fn.ensures.items.each in
    none_are_kept c.from_fn.result empty

pub returns : goal.returns
returns c =
    let empty : c.from_fn.result ≡ replicate service_parts [] = made_all _ [] (λ p q i y called. search rules) _ c.from_fn.result service_parts c.from_fn.ensures.items.long c.from_fn.ensures.items.each in
    none_is c.from_fn.result empty
