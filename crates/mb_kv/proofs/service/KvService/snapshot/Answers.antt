use Rattle.std.proofs.Common.{◌≡◌, ◌<◌, ◌≤◌, ◌∙◌, length, sym, ap, subst, arith}
use Rattle.std.specs.Prelude.{slice_index_or}
use Rattle.std.proofs.lemmas.Result.{IfOk-weaker}
use Rattle.mb_base.specs.Limits.{service_parts}
use Rattle.mb_base.specs.Shapes.{Bytes}
use Rattle.mb_service.specs.declared.service.TheConstants.{MAX_PART}
use Rattle.mb_kv.specs.Pairs.{Pairs}
use Rattle.mb_kv.specs.Snapshots.{part_text, part_of}
use Rattle.mb_kv.specs.States.{IsState}
use Rattle.mb_kv.proofs.KeptParts.{kept_is_state, part_fits, part_text_is}
use Rattle.mb_kv.proofs.PartLaws.{part_is_short}
use Rattle.mb_kv.proofs.service.KvService.snapshot.Goals as goal

pub text-requires : goal.text-requires
text-requires c =
    let pss = c.self.inside.parts in
    let lt : c.from.result < service_parts = omega (arith, c.from.ensures, c.requires) in
    part_fits pss c.self.inside.count c.self.invariant c.from.result lt c.index-self-from.result

pub returns-clause-part : goal.returns-clause-part
returns-clause-part c =
    let pss = c.self.inside.parts in
    let lt : c.from.result < service_parts = omega (arith, c.from.ensures, c.requires) in
    let there : Pairs = slice_index_or pss c.from.result c.index-self-from.result in
    let same : part_text there ≡ part_of c.args.self.now c.args.part =
    part_text_is pss c.self.inside.count c.self.invariant c.from.result lt c.index-self-from.result ∙ ap (λ (ps : Pairs). part_of ps c.from.result) c.self.view_is ∙ ap (part_of c.args.self.now) c.from.ensures in
    IfOk-weaker c.text.result (λ t. t ≡ part_text there) (λ t. t ≡ part_of c.args.self.now c.args.part) (λ t is. is ∙ same) c.text.ensures

pub returns-clause-short : goal.returns-clause-short
returns-clause-short c =
    let s = c.args.self.now in
    let state : IsState s = subst IsState c.self.view_is (kept_is_state c.self.inside.parts c.self.inside.count c.self.invariant) in
    let short = part_is_short c.args.part s state.fits state.few in
    IfOk-weaker c.text.result (λ t. t ≡ part_of s c.args.part) (λ t. length t ≤ MAX_PART) (λ t is. subst (λ (u : Bytes). length u ≤ MAX_PART) (sym is) short) (returns-clause-part c)
