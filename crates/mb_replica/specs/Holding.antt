-- What a given message of a view change makes a host hold: what it writes into the table of view changes, and the certificate that it learns; then the
-- votes of OPENs, which are counted again where a plan, an OPEN or another view came.
use Rattle.std.specs.Prelude.{◌≡◌, ℕ, ◌+◌, ◌≤◌, Bool, true, false, nat_lt, length, Option, Some, None, IfSome, option_map, if◌then◌else◌}
use Rattle.mb_base.specs.Limits.{plan_limit}
use Rattle.mb_base.specs.declared.shape.Shape.{Shape}
use Rattle.mb_base.specs.Shapes.{host_count}
use Rattle.mb_parts.specs.declared.certificates.StableCert.{StableCert}
use Rattle.mb_msg.specs.declared.change.OpenBody.{OpenBody}
use Rattle.mb_msg.specs.declared.change.Plan.{Plan}
use Rattle.mb_msg.specs.declared.message.Body.{Body}
use Rattle.mb_msg.specs.declared.stamped.Stamped.{Stamped as StampedMessage}
use Rattle.mb_msg.specs.declared.stamped.Stamped.TheVariants as stamped
use Rattle.mb_msg.specs.Bodies.{whole_body}
use Rattle.mb_msg.specs.Fits.{FitsOpenParts}
use Rattle.mb_msg.specs.Plans.{CanHash}
use Rattle.mb_parts.specs.Fits.{FitsStable}
use Rattle.mb_model.specs.Sending.{Progress}
use Rattle.mb_model.specs.Histories.{Entry, History, Identity, view_of}
use Rattle.mb_model.specs.Held.{is_current, plan_from, opened_by}
use Rattle.mb_model.specs.Stable.{low_of, further, plan_base}
use Rattle.mb_change.specs.declared.opened.Opened.{Opened}
use Rattle.mb_change.specs.Searches.{Searches as ChangeSearches, opened_in}
use Rattle.mb_change.specs.Represents.{StandsWith}
use Rattle.mb_change.specs.Written.{with_planned, brought, written}
use Rattle.mb_executor.specs.Keeping.{Keeping, raised}
use Rattle.mb_normal.specs.Searches.{Searches}
use Rattle.mb_normal.specs.Tables.{Represents as NormalRepresents}
use Rattle.mb_refinement.specs.Positions.{Learns, AreOpens, counting, hosts_below, positions_to, open_votes, is_open_of}
use Rattle.mb_refinement.specs.Stands.{ChangeStands}
use Rattle.mb_replica.specs.declared.state.ReplicaState.{ReplicaState}
use Rattle.mb_replica.specs.declared.sending.StepOutput.{StepOutput}
use Rattle.mb_replica.specs.Represents.{Represents, tables_of, StandsAt}
use Rattle.mb_replica.specs.Between.{IsSame}

-- what is left of snapshots and parts where a certificate is learnt, if any
abbrev pub kept_behind : {V : Type 0} → StableCert → Option StableCert → Keeping V → Keeping V
kept_behind stable None k = k
kept_behind stable (Some c) k = if nat_lt stable.pos c.pos then raised c.pos k else k

module _ {V : Type 0} where
  -- There is a step that it is in.
  pub record IsStepping (r : ReplicaState V) : Type 0 where
    pub me : Identity V
    pub done : StepOutput
    pub left : Progress
    pub stands : StandsAt me r done left

  -- ---- what is held

  -- The table of view changes was written so, and a certificate learnt, where there was one.
  pub record Holds (f : ChangeSearches → ChangeSearches) (learnt : Option StableCert) (old new : ReplicaState V) : Type 0 where
    pub same : IsSame old new
    pub stands : StandsWith old.protocol.change f new.protocol.change
    pub learns : Learns old.protocol.stable learnt old.protocol.normal new.protocol.normal
    pub keeper : new.keeper ≡ kept_behind old.protocol.stable learnt old.keeper
    pub tables : tables_of new ≡ record (tables_of old) {
      normal = new.protocol.normal;
      change = new.protocol.change;
      stable = further old.protocol.stable learnt;
      shelf = new.keeper.snapshots;
      parts = new.keeper.fetched;
    }

  -- All that an entry writes there is written, and the base of the plan that it brings is learnt.
  abbrev pub HoldsEntry : Identity V → History → Entry → ReplicaState V → ReplicaState V → Type 0
  HoldsEntry me d e = Holds (written me d e) (plan_base (brought me d e))

-- ---- the plan that a given message announces

-- that of the members of a NEW_VIEW that is current and came whole
abbrev pub announced : {S : Type 0} → Identity S → History → StampedMessage → Option Plan
announced me d (stamped.NewView m) = if is_current me d m.view then option_map (λ b. plan_from me b.changes) (whole_body m.body) else None
announced me d m = None

-- It is this plan, which may be held.
pub record Announces {V : Type 0} (r : ReplicaState V) (m : StampedMessage) (plan : Option Plan) : Type 0 where
  pub hashed : IfSome plan CanHash
  pub base : IfSome plan (λ p. FitsStable r.protocol.shape p.base)
  pub is : (me : Identity V) (d : History) → Represents me r d → plan ≡ announced me d m

-- ---- the body of an OPEN

-- Its plan may be held.
abbrev pub CanHold : Shape → OpenBody → Type 0
CanHold s b = FitsOpenParts s b × (length b.batches ≤ plan_limit)

-- with the view of its evidence
abbrev pub plan_in_body : ℕ → Body OpenBody → Option (ℕ × Plan)
plan_in_body view body = option_map (λ b. (view, record { base = b.stable; batches = b.batches })) (whole_body body)

-- ---- what is read of a plan, where one is held

abbrev pub base_in : Option Plan → ℕ
base_in None = 0
base_in (Some plan) = plan.base.pos

abbrev pub length_in : Option Plan → ℕ
length_in None = 0
length_in (Some plan) = length plan.batches

-- The OPEN of which a table says this is a vote for the plan.
abbrev pub is_for_plan : ℕ → Option Plan → Opened → Bool
is_for_plan view None o = false
is_for_plan view (Some plan) o = is_open_of view plan o

module _ {V : Type 0} where
  -- Its plan is held, where it came whole.
  abbrev pub HoldsBody : ℕ → Body OpenBody → ReplicaState V → ReplicaState V → Type 0
  HoldsBody view body = Holds (with_planned (plan_in_body view body)) (plan_base (plan_in_body view body))

  -- ---- the votes of OPENs

  -- They are those of this history: the table of view changes stands for it, the host's view in it is this one, and its stable position is that of
  -- what was known before.
  pub record Counts (me : Identity V) (d : History) (x : Searches) (view : ℕ) (r : ReplicaState V) : Type 0 where
    pub change : ChangeStands me r.protocol.change d
    pub view_is : view ≡ view_of me d
    pub opens : AreOpens me.shape d
    pub low : x.low ≡ low_of me d

  -- The tables stand for what was known before and the votes that were counted.
  abbrev pub StandsCounting : Identity V → History → Searches → (ℕ → ℕ → Bool) → ReplicaState V → Type 0
  StandsCounting me d x counted r = NormalRepresents me.shape me.host r.protocol.normal (counting x (open_votes me d) counted)

  -- More of them were counted.
  abbrev pub CountsMore : (ℕ → ℕ → Bool) → (ℕ → ℕ → Bool) → ℕ → ReplicaState V → ReplicaState V → Type 0
  CountsMore before behind view old new = (me : Identity V) (d : History) (x : Searches) → Counts me d x view old → StandsCounting me d x before old → StandsCounting me d x behind new

  -- Those of the hosts below a number were counted, of none before.
  abbrev pub CountsBelow : ℕ → ℕ → ReplicaState V → ReplicaState V → Type 0
  CountsBelow host view old new = (me : Identity V) (d : History) (x : Searches) → Counts me d x view old → NormalRepresents me.shape me.host old.protocol.normal x → StandsCounting me d x (hosts_below host) new

  -- Those of all hosts were.
  abbrev pub CountsOpens : ℕ → ReplicaState V → ReplicaState V → Type 0
  CountsOpens view old new = CountsBelow (host_count old.protocol.shape) view old new

  -- The vote of a host for the position behind this one was counted, where its last OPEN, of this counter, is for the plan.
  abbrev pub CountsVoteOf : Plan → ℕ → ℕ → ℕ → ℕ → ReplicaState V → ReplicaState V → Type 0
  CountsVoteOf plan host counter last view old new = (me : Identity V) (d : History) (x : Searches) → Counts me d x view old → counter ≡ (opened_in (opened_by d host)).counter
      → is_open_of view plan (opened_in (opened_by d host)) ≡ true → StandsCounting me d x (positions_to host last) old → StandsCounting me d x (positions_to host (last + 1)) new
