-- What a host makes of its own messages of view changes before they are sent: the VIEW_CHANGE is stored, and the plan of the OPEN is carried on.
use Rattle.std.specs.Prelude.{◌≡◌, ℕ, ◌+◌, true, Some, is_none, if◌then◌else◌}
use Rattle.mb_parts.specs.declared.certificates.Evidence.{Evidence}
use Rattle.mb_msg.specs.declared.change.Open.{Open}
use Rattle.mb_msg.specs.declared.change.Plan.{Plan}
use Rattle.mb_msg.specs.declared.change.ViewChange.{ViewChange}
use Rattle.mb_msg.specs.Bodies.{whole_body}
use Rattle.mb_model.specs.Histories.{History, Identity, view_of}
use Rattle.mb_model.specs.Held.{change_fault, plan_of_view}
use Rattle.mb_normal.specs.Searches.{searches_in}
use Rattle.mb_normal.specs.Tables.{Represents as NormalRepresents}
use Rattle.mb_change.specs.Searches.{with_change}
use Rattle.mb_change.specs.Represents.{StandsWith}
use Rattle.mb_refinement.specs.Positions.{carrying, open_slots, up_to}
use Rattle.mb_replica.specs.declared.state.ReplicaState.{ReplicaState}
use Rattle.mb_replica.specs.Represents.{IsHost}

-- The OPEN shows this evidence and this plan.
pub record Shows (m : Open) (e : Evidence) (plan : Plan) : Type 0 where
  pub evidence : m.evidence ≡ e
  pub body : whole_body m.body ≡ Some (record { stable = plan.base; batches = plan.batches })

module _ {V : Type 0} where
  -- The own VIEW_CHANGE is stored where it is usable.
  abbrev pub StoresOwn : Identity V → ViewChange → ReplicaState V → ReplicaState V → Type 0
  StoresOwn me m old new = StandsWith old.protocol.change (λ s. if is_none (change_fault me m) then with_change m s else s) new.protocol.change

  -- A host whose view is that of the evidence holds the plan that its OPEN shows.
  pub record Opens (me : Identity V) (d : History) (m : Open) (view : ℕ) (e : Evidence) (r : ReplicaState V) : Type 0 where
    pub plan : Plan
    pub who : IsHost me r
    pub held : plan_of_view view r.protocol.change.plan ≡ Some plan
    pub shows : Shows m e plan
    pub view_is : e.view ≡ view_of me d

  -- The slots and own votes of the positions up to one were carried on.
  abbrev pub StandsCarrying : Identity V → History → Open → ℕ → ReplicaState V → Type 0
  StandsCarrying me d m last r = NormalRepresents me.shape me.host r.protocol.normal (carrying me.host (searches_in me d) (open_slots me m d) (up_to last))

  -- Those of one position more were, that of the batch with this index.
  abbrev pub CarriesMore : ℕ → Evidence → ℕ → ReplicaState V → ReplicaState V → Type 0
  CarriesMore view e index old new = (me : Identity V) (d : History) (m : Open) → Opens me d m view e old → StandsCarrying me d m (e.base + index) old → StandsCarrying me d m (e.base + index + 1) new

  -- Those of all positions were, of none before.
  abbrev pub CarriesOn : ℕ → Evidence → ReplicaState V → ReplicaState V → Type 0
  CarriesOn view e old new = (me : Identity V) (d : History) (m : Open) → Opens me d m view e old → NormalRepresents me.shape me.host old.protocol.normal (searches_in me d)
      → NormalRepresents me.shape me.host new.protocol.normal (carrying me.host (searches_in me d) (open_slots me m d) (λ p. true))
