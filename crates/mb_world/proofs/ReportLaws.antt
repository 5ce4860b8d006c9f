-- The report of a world, of its lines.
use Rattle.std.proofs.Common.{◌≡◌, ℕ, List, length, map, refl, ap, ◌∙◌}
use Rattle.std.specs.List.{range_with_len}
use Rattle.mb_base.specs.Shapes.{host_count, client_count}
use Rattle.mb_msg.specs.declared.event.Slot.{Slot}
use Rattle.mb_schedule.specs.declared.report.RefusedLine.{RefusedLine}
use Rattle.mb_schedule.specs.declared.report.HostLine.{HostLine}
use Rattle.mb_schedule.specs.declared.report.ClientLine.{ClientLine}
use Rattle.mb_world_model.specs.World.{World as WorldState, System}
use Rattle.mb_service.specs.declared.service.Service.{Ghosts}
use Rattle.mb_members.specs.Lines.{host_line, client_line}
use Rattle.mb_world.specs.declared.world.World.{World}
use Rattle.mb_world.specs.Reports.{report_of}
use Rattle.mb_world.specs.Tables.{RepresentsWorld}

pub report_is : {V : Type 0} {g : Ghosts V} (y : System V) (w : World V g) (x : WorldState) → RepresentsWorld y w x → length w.members.items ≡ host_count w.shape → length w.askers.items ≡ client_count w.shape
    → (messages : ℕ) (line : List Slot) (refused : List RefusedLine) (hosts : List HostLine) (clients : List ClientLine)
    → messages ≡ length w.pool.items → line ≡ w.line.items → refused ≡ w.refused.items
    → hosts ≡ map (host_line y x) (range_with_len 0 (length w.members.items)) → clients ≡ map (client_line x) (range_with_len 0 (length w.askers.items))
    → record { events = w.events; messages = messages; line = line; refused = refused; hosts = hosts; clients = clients } ≡ report_of y x
unfolding report_of
report_is y w x h hosts_len clients_len messages line refused hosts clients is_messages is_line is_refused is_hosts is_clients =
    let n : length w.members.items ≡ host_count y.schedule.shape = hosts_len ∙ ap host_count h.rest.shape in
    let m : length w.askers.items ≡ client_count y.schedule.shape = clients_len ∙ ap client_count h.rest.shape in
    rw (is_messages, is_line, is_refused, is_hosts, is_clients, n, m, h.rest.events, h.rest.pool, h.rest.line, h.rest.refused) refl
