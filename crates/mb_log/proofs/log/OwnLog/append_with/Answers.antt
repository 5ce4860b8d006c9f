use Rattle.std.proofs.Common.{◌≡◌, ◌+◌, ◌++◌, [], ◌∷◌, length, map, max, true, sym, ap, ◌∙◌, subst, arith}
use Rattle.std.proofs.lemmas.List.{length-append, length-map}
use Rattle.mb_msg.specs.Spelling.{stamped_kind}
use Rattle.mb_model.specs.OwnLog.{behind}
use Rattle.mb_log.specs.Logs.{Log, has_room_for, appended}
use Rattle.mb_log.specs.Inside.{seen}
use Rattle.mb_log.proofs.Keeping.{has_place}
use Rattle.mb_log.proofs.Histories.{log_with, with_stands}
use Rattle.mb_log.proofs.log.OwnLog.append_with.Goals as goal

pub push-requires-clause-room : goal.push-requires-clause-room
push-requires-clause-room c =
    let w = c.self.inside in
    let i = c.self.invariant in
    let room : has_room_for (seen w) (stamped_kind c.args.message) ≡ true = subst (λ (t : Log). has_room_for t (stamped_kind c.args.message) ≡ true) (sym c.self.view_is) c.requires.room in
    let place = (has_place w.shape c.args.message w.entries.items i.within i.others_within room).0 in
    let long = ap length c.shorten_behind.ensures.items ∙ length-map w.entries.items (behind c.args.message) in
    let capacity = c.shorten_behind.ensures.capacity in
    let whole = i.capacity in
    omega (arith, place, long, capacity, whole)

pub returns-clause-stands : goal.returns-clause-stands
returns-clause-stands c =
    let w = c.self.inside in
    let m = c.args.message in
    let es : c.push.new.entries.items ≡ map (behind m) w.entries.items ++ m ∷ [] = c.push.ensures.items ∙ ap (λ xs. xs ++ m ∷ []) c.shorten_behind.ensures.items in
    let held = c.len.ensures.len ∙ ap length es in
    let pushed = length-append (map (behind m) w.entries.items) (m ∷ []) in
    let mapped = length-map w.entries.items (behind m) in
    let top = c.max-self-inside.ensures in
    let longest : c.max-self-inside.result ≡ max w.longest (length w.entries.items + 1) = omega (arith, held, pushed, mapped, top) in
    let is =
    ap (λ xs. log_with w.shape w.host w.floor xs c.max-self-inside.result) es
    ∙ (ap (log_with w.shape w.host w.floor (map (behind m) w.entries.items ++ m ∷ [])) longest
    ∙ ap (appended m) c.self.view_is) in
    with_stands c.args.self.now _ m is
