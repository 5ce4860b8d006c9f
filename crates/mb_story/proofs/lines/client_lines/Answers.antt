use Rattle.std.proofs.Common.{ℕ, ◌∷◌, [], Option, option_map, ap, sym, ◌∙◌}
use Rattle.std.specs.Option.{option_to_list}
use Rattle.std.proofs.lemmas.Result.{IfOk-weaker}
use Rattle.mb_schedule.specs.declared.report.ClientLine.{ClientLine}
use Rattle.mb_members.specs.Lines.{client_line}
use Rattle.mb_story.proofs.ArrivalLaws.{client_fits}
use Rattle.mb_story.proofs.lines.client_lines.Goals as goal

pub client-requires : goal.client-requires
client-requires g c = client_fits c.args.world.now.shape c.args.event.now c.in-Some.client c.requires (sym c.in-Some.ensures)

pub returns-in_ok-client_line-in-Some : goal.returns-in_ok-client_line-in-Some
returns-in_ok-client_line-in-Some g c = λ y x h.
    let line = c.in_ok-client_line-in-Some.ensures y.schedule.shape y.schedule.secret x (c.client.ensures y x h) in
    IfOk-weaker c.one.result _ _ (λ l is. is ∙ ap (λ (line : ClientLine). line ∷ []) line ∙ ap (λ (o : Option ℕ). option_to_list (option_map (client_line x) o)) c.in-Some.ensures) c.one.ensures

pub returns-in-None : goal.returns-in-None
returns-in-None g c = λ y x h. c.new.ensures ∙ ap (λ (o : Option ℕ). option_to_list (option_map (client_line x) o)) c.in-None.ensures
