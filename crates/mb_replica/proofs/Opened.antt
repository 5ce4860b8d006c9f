-- OPENs that were accepted are of hosts that there are, and of views above the first, since they have the values of the grammar.
use Rattle.std.proofs.Common.{[], ◌∷◌, refl}
use Rattle.mb_msg.specs.declared.message.Message.TheVariants as message
use Rattle.mb_model.specs.Histories.{Accepted, History, Identity}
use Rattle.mb_host_laws.specs.Rests.{Each}
use Rattle.mb_encodable.specs.Fitting.{HasValues}
use Rattle.mb_refinement.specs.Positions.{AreOpens}
use Rattle.mb_refinement.proofs.PositionsOpens.{opens_begin, opens_stay, opens_more}

pub opens_are : {S : Type 0} (me : Identity S) (d : History) → Each (HasValues me) d → AreOpens me.shape d
opens_are me [] a = opens_begin me.shape
opens_are me (Accepted (message.Open m) ∷ d) a = opens_more me.shape m d a.0.ui.host a.0.evidence.view.0 (opens_are me d a.1)
opens_are me (e ∷ d) a = opens_stay me.shape e d refl (opens_are me d a.1)
