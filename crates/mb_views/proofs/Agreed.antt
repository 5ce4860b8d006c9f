-- The record of what all hosts stamped in a world is consistent, so views agree.
use Rattle.std.proofs.Common.{ℕ}
use Rattle.mb_parts.proofs.IssuedLaws.{are_prefixes}
use Rattle.mb_agreement.proofs.Agree.{agrees}
use Rattle.mb_world_model.specs.WorldEvents.{IsCorrect}
use Rattle.mb_world_model.specs.World.{World, System, stamps}
use Rattle.mb_world_model.specs.WorldRecord.{issued, prefix, plans, IsConsistent, ViewsAgree}
use Rattle.mb_host_laws.specs.Rests.{Each}
use Rattle.mb_world_laws.proofs.Facts.{Facts}
use Rattle.mb_views.proofs.Follows.{JumpsLed}
use Rattle.mb_views.proofs.Evidenced.{evidence_made, new_view_stands}

module _ {S : Type 0} (system : System S) (w : World) (f : Facts system w) (jumps : (h : ℕ) → IsCorrect system.schedule h → Each (JumpsLed system w f) (w.histories h)) where
  pub consistent : IsConsistent system.schedule w
  consistent =
      let p = are_prefixes system.schedule.shape (stamps system.schedule w) in
      record { ordered = p.ordered; stands = p.stands; maximal = p.maximal; evidences = evidence_made system w f jumps; new_views = new_view_stands system w f jumps }

  pub views_agree_in : ViewsAgree system.schedule w
  views_agree_in = agrees system.schedule.shape system.schedule.secret (plans system.schedule w) (issued system.schedule w) (prefix system.schedule w) consistent
