use Rattle.std.proofs.Common.{rules, refl, ◌≡◌, ◌<◌, arith}
use Rattle.std.proofs.lemmas.Option.{slice_get_within}
use Rattle.mb_base.specs.Limits.{most_clients}
use Rattle.mb_usig.specs.KeyedHash.{IsReady}
use Rattle.mb_usig.specs.Tags.{client_key}
use Rattle.mb_usig.proofs.ReadyKeys.{made_each}
use Rattle.mb_usig.proofs.keys.client_keys_of.Goals as goal

pub returns : goal.returns
returns c =
    let secret = c.args.secret.now in
    let made = c.from_fn.ensures.items in
    record {
      long = made.long;
      each = λ client k is.
          let lt : client < most_clients = omega (arith, slice_get_within c.from_fn.result client k is, made.long) in
          made_each _ (λ f. f.0.now ≡ secret) (λ i y. i < 256 → IsReady y (client_key secret i)) (λ p q i y kept called. (search rules, λ small. search rules)) c.from_fn.result _ 0 most_clients refl made.each client (omega arith) lt k is (omega arith);
    }
