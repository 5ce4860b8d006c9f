use Rattle.std.proofs.Common.{rules, ◌≡◌, ◌++◌, ◌≤◌, ◌+◌, [], ◌∷◌, List, true, false, length, drop, slice_get, Some, sym, subst, arith}
use Rattle.std.proofs.lemmas.List.{length-append}
use Rattle.mb_base.specs.Limits.{entry_limit}
use Rattle.mb_parts.specs.Counted.{counted}
use Rattle.mb_msg.specs.declared.stamped.Stamped.{Stamped as StampedMessage}
use Rattle.mb_msg.specs.Spelling.{stamped_bytes}
use Rattle.mb_model.specs.OwnLog.{first_packed}
use Rattle.mb_log.specs.Packing.{is_too_much}
use Rattle.mb_log.proofs.Packing.{more, stops, goes_on, all_sent}
use Rattle.mb_log.proofs.log.sent_from.Goals as goal

pub returns-then-is_too_much : goal.returns-then-is_too_much
returns-then-is_too_much c =
    let l = c.loop-index in
    let items = c.args.entries.now.items in
    let m = c.message-message.result.now in
    let at : slice_get items l.index ≡ Some m = search rules in
    let e : is_too_much (length l.sent) (counted l.bytes (stamped_bytes m)) ≡ true = search rules in
    stops items l.index m at l.sent (first_packed (drop c.args.first items)) l.bytes l.invariant.sent e

pub loop-index-preserved : goal.loop-index-preserved
loop-index-preserved c =
    let l = c.loop-index in
    let items = c.args.entries.now.items in
    let whole = first_packed (drop c.args.first items) in
    let m = c.message-message.result.now in
    let at : slice_get items l.index ≡ Some m = search rules in
    let e : is_too_much (length l.sent) (counted l.bytes (stamped_bytes m)) ≡ false = search rules in
    let step = goes_on items l.index m at l.sent whole l.bytes l.invariant.sent l.invariant.start e in
    let new : c.push.new.self ≡ l.sent ++ m ∷ [] = search rules in
    let used : c.count-with_message.result ≡ counted l.bytes (stamped_bytes m) = search rules in
    let long = length-append l.sent (m ∷ []) in
    record {
      few = subst (λ (s : List StampedMessage). length s ≤ entry_limit) (sym new) step.0;
      start = subst (λ (s : List StampedMessage). length s ≡ 0 → c.count-with_message.result ≡ 0) (sym new) (λ z. absurd (omega (arith, z, long)));
      sent = subst (λ (s : List StampedMessage). s ++ more s c.count-with_message.result (drop (l.index + 1) items) ≡ whole) (sym new)
          (subst (λ n. (l.sent ++ m ∷ []) ++ more (l.sent ++ m ∷ []) n (drop (l.index + 1) items) ≡ whole) (sym used) step.1);
    }

pub returns : goal.returns
returns c =
    let l = c.loop-index in
    let items = c.args.entries.now.items in
    all_sent items l.sent (first_packed (drop c.args.first items)) l.index l.bytes (omega arith) l.invariant.sent
