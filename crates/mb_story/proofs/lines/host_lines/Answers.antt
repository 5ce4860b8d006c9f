use Rattle.std.proofs.Common.{ℕ, ◌∷◌, [], Option, option_map, ap, sym, ◌∙◌}
use Rattle.std.specs.Option.{option_to_list}
use Rattle.std.proofs.lemmas.Result.{IfOk-weaker}
use Rattle.mb_schedule.specs.declared.report.HostLine.{HostLine}
use Rattle.mb_members.specs.Lines.{host_line}
use Rattle.mb_story.proofs.ArrivalLaws.{host_fits}
use Rattle.mb_story.proofs.lines.host_lines.Goals as goal

pub host_line-requires : goal.host_line-requires
host_line-requires g c = host_fits c.args.world.now.shape c.args.event.now c.in-Some.host c.requires (sym c.in-Some.ensures)

pub returns-in-Some : goal.returns-in-Some
returns-in-Some g c = λ y x h.
    IfOk-weaker c.one.result _ _ (λ l is. is ∙ ap (λ (line : HostLine). line ∷ []) (c.host_line.ensures y x h) ∙ ap (λ (o : Option ℕ). option_to_list (option_map (host_line y x) o)) c.in-Some.ensures) c.one.ensures

pub returns-in-None : goal.returns-in-None
returns-in-None g c = λ y x h. c.new.ensures ∙ ap (λ (o : Option ℕ). option_to_list (option_map (host_line y x) o)) c.in-None.ensures
