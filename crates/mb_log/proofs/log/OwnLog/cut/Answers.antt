use Rattle.std.proofs.Common.{◌≡◌, ◌-◌, drop, Some, sym, ap, ◌∙◌, subst, arith}
use Rattle.std.specs.Prelude.{count_by, not}
use Rattle.std.specs.List.{AllByRecursion}
use Rattle.mb_msg.specs.Fits.{FitsStamped}
use Rattle.mb_model.specs.OwnLog.{is_normal}
use Rattle.mb_log.specs.Logs.{floor_counter, cut_at}
use Rattle.mb_log.proofs.Keeping.{count_split, all_fit_dropped}
use Rattle.mb_log.proofs.Histories.{log_with, cut_stands}
use Rattle.mb_log.proofs.log.OwnLog.cut.Goals as goal

pub invariant_of-self : goal.invariant_of-self
invariant_of-self c =
    let w = c.self.inside in
    let i = c.self.invariant in
    let xs = w.entries.items in
    let n = c.counter_for-counter.result - w.start in
    let items = c.drop_first.ensures.items in
    let split = count_split is_normal n xs in
    let left = ap (count_by is_normal) items in
    let others_split = count_split (λ m. not (is_normal m)) n xs in
    let others_left = ap (count_by (λ m. not (is_normal m))) items in
    let counted = i.normal in
    let gone = c.drop_first.ensures.value in
    let within = i.within in
    let others_within = i.others_within in
    let small = i.small in
    let capacity = c.drop_first.ensures.capacity in
    record {
      capacity = capacity ∙ i.capacity;
      small = omega (arith, small, capacity);
      start = c.counter_for-counter.ensures;
      normal = omega (arith, counted, gone, split, left);
      within = omega (arith, within, split, left);
      others_within = omega (arith, others_within, others_split, others_left);
      fit = subst (AllByRecursion (FitsStamped w.shape)) (sym items) (all_fit_dropped w.shape n xs i.fit);
    }

pub returns-clause-stands : goal.returns-clause-stands
returns-clause-stands c =
    let w = c.self.inside in
    let start = c.self.invariant.start in
    let counter = c.counter_for-counter.ensures in
    let gone : c.counter_for-counter.result - w.start ≡ floor_counter w.host (Some c.args.floor) - floor_counter w.host w.floor = omega (arith, start, counter) in
    let is =
    ap (λ xs. log_with w.shape w.host (Some c.args.floor) xs w.longest) (c.drop_first.ensures.items ∙ ap (λ n. drop n w.entries.items) gone)
    ∙ ap (cut_at c.args.floor) c.self.view_is in
    cut_stands c.args.self.now _ c.args.floor is c.requires.forward c.requires.stamped
