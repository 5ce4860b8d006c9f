-- A primary orders all that fits, in each world, whoever is faulty: what waits has the values of the grammar, so the first of it has place.
use Rattle.std.proofs.Common.{◌≡◌, ℕ, ◌∷◌, sym, ap, subst, ◌∙◌, Some}
use Rattle.mb_parts.specs.declared.batch.Batch.{Batch}
use Rattle.mb_msg.specs.declared.message.Body.TheVariants.{Whole}
use Rattle.mb_msg.specs.declared.stamped.Stamped.TheVariants as stamped
use Rattle.mb_model.specs.Histories.{Stamped, History, Identity}
use Rattle.mb_model.specs.EnabledRules.{unordered}
use Rattle.mb_steps.specs.Arises.{Arises, Makes}
use Rattle.mb_world_model.specs.World.{System, self_of}
use Rattle.mb_world_model.specs.WorldSteps.{world}
use Rattle.mb_promise.specs.NothingLeft.{OrdersAllThatFit}
use Rattle.mb_world_laws.proofs.KeptByWorlds.{world_arises}
use Rattle.mb_host_laws.specs.Rests.{Each}
use Rattle.mb_host_laws.proofs.Moments.{each_past, arises_by}
use Rattle.mb_views.proofs.OwnSeen.{seen_prepare}
use Rattle.mb_obligations.proofs.AcceptedFits.{HasValues, unordered_fits, values_in_worlds}
use Rattle.mb_obligations.proofs.FullBatches.{first_full}

module _ {S : Type 0} (self : Identity S) where
  orders_all : (d : History) → Arises self d → Each (HasValues self) d → OrdersAllThatFit self d
  orders_all d arises values later before m b is whole =
      let now : History = Stamped (stamped.Prepare m) ∷ before in
      let makes : Makes self before (stamped.Prepare m) = (arises_by self later now (subst (λ (x : History). Arises self x) is arises)).0 in
      let then : Each (HasValues self) before = (each_past (HasValues self) later now (subst (λ (x : History). Each (HasValues self) x) is values)).1 in
      let seen = seen_prepare self before m makes in
      let same : seen.batch ≡ b = same_whole seen.batch b (sym seen.body ∙ whole) in
      first_full self.shape (unordered self before) b (unordered_fits self before then) (seen.first ∙ ap (λ (x : Batch). Some x) same) where
        same_whole : (x y : Batch) → Whole x ≡ Whole y → x ≡ y
        same_whole x y e = cc

pub orders_all_that_fit : {S : Type 0} (system : System S) (k h : ℕ) → OrdersAllThatFit (self_of system h) ((world system k).histories h)
orders_all_that_fit system k h = orders_all (self_of system h) ((world system k).histories h) (world_arises system k h) (values_in_worlds system k h)
