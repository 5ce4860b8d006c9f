-- One entry more at a host, where nothing is stamped: what a replica stands for behind it.
use Rattle.std.proofs.Common.{◌≡◌, ◌<◌, ◌∙◌, ℕ, false, ◌∷◌, sym, subst}
use Rattle.mb_base.specs.declared.shape.Shape.{Shape}
use Rattle.mb_base.specs.Shapes.{host_count}
use Rattle.mb_msg.specs.declared.event.Outcome.{Outcome}
use Rattle.mb_model.specs.Histories.{Entry, History, Identity}
use Rattle.mb_model.specs.Sending.{Progress, write}
use Rattle.mb_model.specs.Given.{Answer}
use Rattle.mb_steps.specs.Arises.{Adds}
use Rattle.mb_history_laws.specs.Gates.{MovesGate}
use Rattle.mb_history_laws.specs.Speaks.{is_stamp, is_served}
use Rattle.mb_history_laws.proofs.Executing.{served_ends}
use Rattle.mb_encodable.specs.Fitting.{ComesOfRead}
use Rattle.mb_encodable.proofs.Fit.{unstamped_fit}
use Rattle.mb_refinement.specs.Stands.{Stand}
use Rattle.mb_refinement.proofs.Together.{EachStands, stands_behind}
use Rattle.mb_replica.specs.declared.state.ReplicaState.{ReplicaState}
use Rattle.mb_replica.specs.declared.sending.StepOutput.{StepOutput}
use Rattle.mb_replica.specs.Represents.{tables_of, IsHost, Represents, StandsAt}
use Rattle.mb_replica.specs.Between.{IsSame}

module _ {V : Type 0} (me : Identity V) where
  -- ---- the same host

  pub hosted : (old new : ReplicaState V) → IsSame old new → IsHost me old → IsHost me new
  hosted old new same who = record {
    shape = who.shape ∙ sym same.shape;
    host = who.host ∙ sym same.host;
    secret = who.secret ∙ sym same.secret;
  }

  pub is_there : (r : ReplicaState V) → IsHost me r → me.host < host_count me.shape
  is_there r who =
      let here : me.host < host_count r.protocol.shape = subst (λ (h : ℕ). h < host_count r.protocol.shape) (sym who.host) r.protocol.host_in in
      subst (λ (s : Shape). me.host < host_count s) (sym who.shape) here

  -- ---- one entry more

  pub one_more : (old new : ReplicaState V) (e : Entry) (d : History) → Represents me old d → IsSame old new → is_stamp e ≡ false → Adds me d e → MovesGate me e d → ComesOfRead me e d
      → EachStands me (tables_of new) (e ∷ d) → Represents me new (e ∷ d)
  one_more old new e d rep same none adds moves comes each = record {
    who = hosted old new same rep.who;
    tables = stands_behind me (tables_of old) (tables_of new) e d rep.tables adds moves each;
    fit = unstamped_fit me (is_there old rep.who) e d none adds comes rep.tables.sound rep.fit;
  }

  -- that leaves all tables
  pub one_left : (r : ReplicaState V) (e : Entry) (d : History) → Represents me r d → is_stamp e ≡ false → Adds me d e → ComesOfRead me e d → Stand me (tables_of r) (e ∷ d) → Represents me r (e ∷ d)
  one_left r e d rep none adds comes tables = record {
    who = rep.who;
    tables = tables;
    fit = unstamped_fit me (is_there r rep.who) e d none adds comes rep.tables.sound rep.fit;
  }

  -- ---- in a step

  pub written : (old new : ReplicaState V) (done : StepOutput) (e : Entry) (x : Progress) → is_served e ≡ false → Represents me new (e ∷ x.history) → StandsAt me old done x → StandsAt me new done (write e x)
  written old new done e x none rep s = record {
    represents = rep;
    serving = served_ends e x.history none;
    sent = s.sent;
    executed = s.executed;
    installed = s.installed;
  }

  -- the outcome of a message, and where the step stands then
  abbrev pub Gives : ReplicaState V → StepOutput → Outcome → Answer → Type 0
  Gives r done o a = (o ≡ a.outcome) × StandsAt me r done a.left

  pub gives_as : (r : ReplicaState V) (done : StepOutput) (o : Outcome) (a b : Answer) → a ≡ b → Gives r done o a → Gives r done o b
  gives_as r done o a b same g = subst (Gives r done o) same g
