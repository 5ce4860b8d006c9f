-- What an answer unfolds to make whole worlds on literals.
use Rattle.std.specs.Prelude.{⊤}
use Rattle.mb_model.proofs.OnRecords.{readings_on_literals}
use Rattle.mb_model.proofs.StepOnLiterals.{host_on_literals}
use Rattle.mb_model.specs.Service.{served_each, served_all}
use Rattle.mb_model.specs.HostStep.{transition}
use Rattle.mb_model.specs.Clients.{most_agreeing, taken, takes}
use Rattle.mb_model.specs.Inside.{shown_claims, stamped_claims, claims_in, requests_in, bodies_in, floors_in, strings_in}
use Rattle.mb_world_model.specs.World.{give_client, give_host, signal}
use Rattle.mb_world_model.specs.WorldSteps.{happens, world}
use Rattle.mb_world_model.specs.WorldRecord.{plan_text_at, plan_text_of, plans_of}
use Rattle.mb_world_model.specs.Forged.{forged_claim, has_forged_tag}
use Rattle.mb_world_model.specs.Stops.{stop_of}
use Rattle.mb_world_model.specs.Refusals.{refusals}
use Rattle.mb_world_model.specs.FaultyHosts.{misfit}

unfoldable pub worlds_on_literals : ⊤
unfolding host_on_literals readings_on_literals served_each served_all transition most_agreeing taken takes shown_claims stamped_claims claims_in requests_in bodies_in floors_in strings_in give_client give_host signal happens world plan_text_at plan_text_of plans_of forged_claim has_forged_tag stop_of refusals misfit
worlds_on_literals = tt
