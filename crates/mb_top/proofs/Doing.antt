-- What a command does, by its words.
use Rattle.std.proofs.Common.{◌≡◌, ℕ, ◌≤◌, List, Option, Some, None, IfSome, refl, sym, subst, arith}
use Rattle.std.specs.Prelude.{Contains}
use Rattle.std.specs.Io.KnownBytes.{IsAtEnd}
use Rattle.mb_base.specs.Limits.{soak_limit}
use Rattle.mb_base.specs.Shapes.{Bytes}
use Rattle.mb_top.specs.declared.command.Command.{Command}
use Rattle.mb_top.specs.declared.command.Command.TheVariants.{Replay, Soak, Node, Retrace, Cluster, Audit, Learn}
use Rattle.mb_answer.specs.Clusters.{StayIdle, Clusters}
use Rattle.mb_edge.specs.Seen.{Device, LinkState, DiskState}
use Rattle.mb_answer.specs.Devices.{Devices, Says}
use Rattle.mb_top.specs.Responses.{Replays, Soaks, summed_up, exhausted}
use Rattle.mb_top.specs.Soaks.{soak_text}
use Rattle.mb_answer.proofs.Statuses.{said_is}
use Rattle.mb_serving.specs.Records.{Retraces}
use Rattle.mb_top.specs.Doings.{DoesWith, DoesWithRecord, Does, DoesAtDisk, statuses}
use Rattle.mb_serving.specs.Nodes.{Nodes}
use Rattle.mb_reviewing.specs.Audits.{Audits, audit_findings}
use Rattle.mb_reviewing.specs.Learning.{LearnsFrom, learn_findings}
use Rattle.mb_answer.specs.Texts.{usage_text}

module _ (o : Option Command) (status : ℕ) (old new : Devices) (does : Does o status old new) where
  does_as : (p : Option Command) → o ≡ p → Does p status old new
  does_as p is = subst (λ (q : Option Command). Does q status old new) is does

  pub replays : o ≡ Some Replay → IfSome old.source.bytes (λ text. Replays text status old.source new.source old.sink new.sink)
  replays is = (does_as (Some Replay) is).0.told

  pub replay_ends : o ≡ Some Replay → status ≡ 0 → IsAtEnd new.source.bytes
  replay_ends is = (does_as (Some Replay) is).0.ended

  pub soaks : (seed n : ℕ) → o ≡ Some (Soak seed n) → Soaks seed n status old.sink new.sink
  soaks seed n is = (does_as (Some (Soak seed n)) is).0

  pub soaks_few : (seed n : ℕ) → o ≡ Some (Soak seed n) → n ≤ soak_limit
  soaks_few seed n is = (does_as (Some (Soak seed n)) is).1.0

  pub nodes : (host n : ℕ) → o ≡ Some (Node host n) → IfSome old.source.bytes (λ text. Nodes text host n status old.source new.source old.sink new.sink old.link new.link)
  nodes host n is = (does_as (Some (Node host n)) is).0.told

  pub retraces : o ≡ Some Retrace → IfSome old.source.bytes (λ text. Retraces text status old.source new.source old.sink new.sink)
  retraces is = (does_as (Some Retrace) is).0.told

  pub clusters : (n : ℕ) → o ≡ Some (Cluster n) → IfSome old.source.bytes (λ text. Clusters text n status old new)
  clusters n is = (does_as (Some (Cluster n)) is).told

  pub audits : (host : ℕ) → o ≡ Some (Audit host) → IfSome old.source.bytes (λ text. Audits text host status old.source new.source old.sink new.sink)
  audits host is = (does_as (Some (Audit host)) is).0.told

  pub learns : o ≡ Some Learn → IfSome old.source.bytes (λ text. LearnsFrom text status old.source new.source old.sink new.sink)
  learns is = (does_as (Some Learn) is).0.told

-- ---- the disk

pub at_disk_as : (o p : Option Command) (status : ℕ) (source source' sink sink' : Device) (link link' : LinkState) (disk disk' : DiskState) → o ≡ p
    → DoesAtDisk o status source source' sink sink' link link' disk disk' → DoesAtDisk p status source source' sink sink' link link' disk disk'
at_disk_as o p status source source' sink sink' link link' disk disk' is does = subst (λ (q : Option Command). DoesAtDisk q status source source' sink sink' link link' disk disk') is does

-- what a source tells of two things
pub told_both : {X : Type 0} (o : Option X) (P Q : X → Type 0) → IfSome o P → IfSome o Q → IfSome o (λ x. P x × Q x)
told_both None P Q p q = tt
told_both (Some x) P Q p q = (p, q)

-- ---- what each command does, from its pieces

module _ (status : ℕ) (old new : Devices) where
  -- Link and spawner stayed.
  stay : old.link ≡ new.link → old.spawner ≡ new.spawner → StayIdle old new
  stay link spawner = record { link = link; spawner = spawner }

  with_text : (does : Bytes → Type 0) → IfSome old.source.bytes does → (status ≡ 0 → IsAtEnd new.source.bytes) → DoesWith does status old.source new.source
  with_text does told ended = record { told = told; ended = ended }

  with_record : (does : Bytes → Type 0) (findings : List ℕ) → IfSome old.source.bytes does → (Contains findings status → IsAtEnd new.source.bytes) → DoesWithRecord does findings status old.source new.source
  with_record does findings told ended = record { told = told; ended = ended }

  pub does_replay : IfSome old.source.bytes (λ text. Replays text status old.source new.source old.sink new.sink) → (status ≡ 0 → IsAtEnd new.source.bytes) → old.link ≡ new.link → old.spawner ≡ new.spawner
      → Does (Some Replay) status old new
  does_replay told ended link spawner = (with_text (λ text. Replays text status old.source new.source old.sink new.sink) told ended, stay link spawner)

  pub does_soak : (seed n : ℕ) → Soaks seed n status old.sink new.sink → n ≤ soak_limit → old.link ≡ new.link → old.spawner ≡ new.spawner → Does (Some (Soak seed n)) status old new
  does_soak seed n told few link spawner = (told, (few, stay link spawner))

  pub does_node : (host n : ℕ) → IfSome old.source.bytes (λ text. Nodes text host n status old.source new.source old.sink new.sink old.link new.link) → (status ≡ 0 → IsAtEnd new.source.bytes) → old.spawner ≡ new.spawner
      → Does (Some (Node host n)) status old new
  does_node host n told ended spawner = (with_text (λ text. Nodes text host n status old.source new.source old.sink new.sink old.link new.link) told ended, spawner)

  pub does_retrace : IfSome old.source.bytes (λ text. Retraces text status old.source new.source old.sink new.sink) → (status ≡ 0 → IsAtEnd new.source.bytes) → old.link ≡ new.link → old.spawner ≡ new.spawner
      → Does (Some Retrace) status old new
  does_retrace told ended link spawner = (with_text (λ text. Retraces text status old.source new.source old.sink new.sink) told ended, stay link spawner)

  pub does_cluster : (n : ℕ) → IfSome old.source.bytes (λ text. Clusters text n status old new) → (status ≡ 0 → IsAtEnd new.source.bytes) → Does (Some (Cluster n)) status old new
  does_cluster n told ended = with_text (λ text. Clusters text n status old new) told ended

  pub does_audit : (host : ℕ) → IfSome old.source.bytes (λ text. Audits text host status old.source new.source old.sink new.sink) → (Contains audit_findings status → IsAtEnd new.source.bytes)
      → old.link ≡ new.link → old.spawner ≡ new.spawner → Does (Some (Audit host)) status old new
  does_audit host told ended link spawner = (with_record (λ text. Audits text host status old.source new.source old.sink new.sink) audit_findings told ended, stay link spawner)

  pub does_learn : IfSome old.source.bytes (λ text. LearnsFrom text status old.source new.source old.sink new.sink) → (Contains learn_findings status → IsAtEnd new.source.bytes)
      → old.link ≡ new.link → old.spawner ≡ new.spawner → Does (Some Learn) status old new
  does_learn told ended link spawner = (with_record (λ text. LearnsFrom text status old.source new.source old.sink new.sink) learn_findings told ended, stay link spawner)

  pub does_usage : Says 1 usage_text status old.sink new.sink → old.link ≡ new.link → old.spawner ≡ new.spawner → Does None status old new
  does_usage told link spawner = (told, stay link spawner)

  -- ... by the name under which it was asked
  pub does_asked : (o p : Option Command) → o ≡ p → Does p status old new → Does o status old new
  does_asked o p is does = subst (λ (q : Option Command). Does q status old new) (sym is) does

-- ---- statuses

pub statuses_asked : (o p : Option Command) (status : ℕ) → o ≡ p → Contains (statuses p) status → Contains (statuses o) status
statuses_asked o p status is known = subst (λ (q : Option Command). Contains (statuses q) status) (sym is) known

pub soak_known : (seed n status : ℕ) (sink sink' : Device) → Soaks seed n status sink sink' → Contains (statuses (Some (Soak seed n))) status
soak_known seed n status sink sink' (summed_up says) = said_is (Contains (statuses (Some (Soak seed n)))) (1, omega arith, refl) (2, omega arith, refl) 0 (soak_text seed n) status sink sink' (0, omega arith, refl) says
soak_known seed n status sink sink' (exhausted is same) = subst (Contains (statuses (Some (Soak seed n)))) (sym is) (1, omega arith, refl)

pub usage_known : (status : ℕ) (sink sink' : Device) → Says 1 usage_text status sink sink' → Contains (statuses None) status
usage_known status sink sink' says = said_is (Contains (statuses None)) (1, omega arith, refl) (2, omega arith, refl) 1 usage_text status sink sink' (0, omega arith, refl) says
