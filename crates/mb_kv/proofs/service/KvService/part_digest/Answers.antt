use Rattle.std.proofs.Common.{◌≡◌, ◌<◌, ◌∙◌, ap, arith}
use Rattle.std.specs.Prelude.{slice_index_or}
use Rattle.std.proofs.lemmas.Result.{IfOk-weaker}
use Rattle.sha2.specs.Sha256.{sha256}
use Rattle.mb_base.specs.Limits.{service_parts}
use Rattle.mb_kv.specs.Pairs.{Pairs}
use Rattle.mb_kv.specs.Snapshots.{part_text, part_of}
use Rattle.mb_kv.proofs.KeptParts.{part_fits, part_text_is}
use Rattle.mb_kv.proofs.service.KvService.part_digest.Goals as goal

pub digest-requires : goal.digest-requires
digest-requires c =
    let pss = c.self.inside.parts in
    let lt : c.from.result < service_parts = omega (arith, c.from.ensures, c.requires) in
    part_fits pss c.self.inside.count c.self.invariant c.from.result lt c.index-self-from.result

pub returns-clause-digest : goal.returns-clause-digest
returns-clause-digest c =
    let pss = c.self.inside.parts in
    let lt : c.from.result < service_parts = omega (arith, c.from.ensures, c.requires) in
    let there : Pairs = slice_index_or pss c.from.result c.index-self-from.result in
    let same : part_text there ≡ part_of c.args.self.now c.args.part =
    part_text_is pss c.self.inside.count c.self.invariant c.from.result lt c.index-self-from.result ∙ ap (λ (ps : Pairs). part_of ps c.from.result) c.self.view_is ∙ ap (part_of c.args.self.now) c.from.ensures in
    IfOk-weaker c.digest.result (λ d. d ≡ sha256 (part_text there)) (λ d. d ≡ sha256 (part_of c.args.self.now c.args.part)) (λ d is. is ∙ ap sha256 same) c.digest.ensures.digest
