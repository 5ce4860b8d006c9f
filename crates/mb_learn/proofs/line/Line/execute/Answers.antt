use Rattle.std.proofs.Common.{◌+◌, List, length, ap, ◌∙◌, arith}
use Rattle.std.specs.Global.{Vec}
use Rattle.std.proofs.lemmas.List.{length_push}
use Rattle.std.proofs.lemmas.Result.{on_ok_weaker}
use Rattle.mb_parts.specs.declared.request.Request.{Request}
use Rattle.mb_cache.specs.Represents.{machine_of, snapshots_of, joined}
use Rattle.mb_learn.specs.Executed.{placed_all}
use Rattle.mb_msg.specs.declared.event.Slot.{Slot}
use Rattle.mb_model.specs.declared.known.LastReply.{LastReply}
use Rattle.mb_learn.proofs.Executing.{executes_more}
use Rattle.mb_learn.proofs.line.Line.execute.Goals as goal

pub returns : goal.returns
returns g c = record {
  executes = λ s initial slots ex.
      on_ok_weaker c.note_state.result
      (λ notes. executes_more s (machine_of g.V.Service.machine) initial (snapshots_of g.V.Service.machine) slots c.args.self.now c.place_all.new.self c.note_state.new.self c.args.batch.now (c.executed-pos.result + 1) c.in_ok-requests.requests c.push.new.self
      ex (let wide = s.interval_in.0 in omega (arith, wide)) (ap (λ n. n + 1) c.executed-pos.ensures) (c.in_ok-requests.ensures.placed ∙ ap (λ (l : List Request). placed_all (machine_of g.V.Service.machine) (joined c.args.self.now.service c.args.self.now.table) (c.executed-pos.result + 1) l) c.as_slice.ensures) c.in_ok-requests.ensures.served c.in_ok-requests.ensures.rest c.in_ok-push.ensures.items notes) c.note_state.ensures;
  rest = on_ok_weaker c.note_state.result
      (λ notes. let kept = c.in_ok-requests.ensures.rest in (
        notes.shape ∙ kept.shape,
        ap (λ (t : List LastReply). length t) notes.table ∙ kept.clients,
        ap (λ (v : Vec Slot). length v.items) notes.slots
            ∙ (ap (λ (l : List Slot). length l) c.in_ok-push.ensures.items ∙ (length_push c.place_all.new.self.slots.items _ ∙ ap (λ (v : Vec Slot). length v.items + 1) kept.slots)),
      )) c.note_state.ensures;
}
