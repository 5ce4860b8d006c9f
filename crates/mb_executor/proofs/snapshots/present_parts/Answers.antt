use Rattle.std.proofs.Common.{◌≡◌, ◌≤◌, ◌∙◌, List, [], ◌∷◌, ◌++◌, length, sym, ap, subst, arith}
use Rattle.std.proofs.lemmas.List.{map_push}
use Rattle.mb_base.specs.Limits.{service_parts, part_limit}
use Rattle.mb_base.specs.Shapes.{Bytes}
use Rattle.mb_steps.proofs.StepPlanBases.{all_append}
use Rattle.mb_cache.specs.Represents.{joined, snapshots_of}
use Rattle.mb_fetch.specs.declared.shelved.HashedPart.{HashedPart}
use Rattle.mb_fetch.specs.Shelves.{bytes_of}
use Rattle.mb_executor.specs.Keeping.{AreShort}
use Rattle.mb_executor.proofs.Shelved.{part_more, with_table}
use Rattle.mb_executor.proofs.snapshots.present_parts.Goals as goal

-- the bytes of one part more
bytes_more : (before after : List HashedPart) (p : HashedPart) → after ≡ before ++ p ∷ [] → bytes_of after ≡ bytes_of before ++ p.bytes ∷ []
bytes_more before after p is = ap (λ (l : List HashedPart). bytes_of l) is ∙ map_push (λ (x : HashedPart). x.bytes) before p

pub loop-part-preserved : goal.loop-part-preserved
loop-part-preserved g c =
    let before = c.loop-part.parts.items in
    let more = bytes_more before c.push.new.self.items c.in_ok-present_part.field-0 c.in_ok-push.ensures.items in
    let kept = c.loop-part.invariant.kept in
    let is = c.in_ok-present_part.ensures.part ∙ ap (λ s. g.V.Service.machine.part_of s c.loop-part.part) kept in
    record {
      parts = more ∙ part_more (g.V.Service.machine.part_of c.args.service.now) (bytes_of before) c.loop-part.part _ c.loop-part.invariant.parts is;
      short = subst AreShort (sym more) (all_append (λ (p : Bytes). length p ≤ part_limit) (bytes_of before) (_ ∷ []) c.loop-part.invariant.short (c.in_ok-present_part.ensures.short, tt));
      kept = c.present_part.ensures.kept ∙ kept;
    }

pub returns-clause-parts : goal.returns-clause-parts
returns-clause-parts g c =
    let before = c.loop-part.parts.items in
    let more = bytes_more before c.push-2.new.self.items c.of.result c.in_ok-push-2.ensures.items in
    let at_most = c.loop-part.auto.part-end in
    let at_least = c.loop-part-test.false in
    let all : c.loop-part.part ≡ service_parts = omega (arith, at_most, at_least) in
    more
    ∙ with_table (snapshots_of g.V.Service.machine) (joined c.args.service.now c.args.table.now) (bytes_of before) c.loop-part.part c.of.result.bytes c.loop-part.invariant.parts all (c.of.ensures ∙ c.in_ok-part.ensures.part)

pub returns-clause-short : goal.returns-clause-short
returns-clause-short g c =
    let before = c.loop-part.parts.items in
    let more = bytes_more before c.push-2.new.self.items c.of.result c.in_ok-push-2.ensures.items in
    let fits : length c.of.result.bytes ≤ part_limit = subst (λ (p : Bytes). length p ≤ part_limit) (sym c.of.ensures) c.in_ok-part.ensures.short in
    subst AreShort (sym more) (all_append (λ (p : Bytes). length p ≤ part_limit) (bytes_of before) (c.of.result.bytes ∷ []) c.loop-part.invariant.short (fits, tt))
