-- What is known of faults over several calls.
use Rattle.std.proofs.Common.{◌≡◌, ℕ, ◌≤◌, ◌∙◌, refl, arith, Err}
use Rattle.std.specs.Prelude.{Result, IsErrOf}
use Rattle.mb_edge.specs.declared.outside.Failed.{Failed}
use Rattle.mb_edge.specs.declared.outside.Failed.TheVariants as failed
use Rattle.mb_edge.specs.declared.writing.WriteStop.{WriteStop}
use Rattle.mb_edge.specs.declared.writing.WriteStop.TheVariants as writing
use Rattle.mb_edge.specs.Faults.{HasCause, HasNoFault, Rose, TellsFaults}
use Rattle.mb_node.specs.declared.stops.ServeStop.{ServeStop}
use Rattle.mb_node.specs.declared.stops.ServeStop.TheVariants.{LinkFault, SinkFault, Budget}
use Rattle.mb_node.specs.declared.stops.ServeStop.TheVariants as stop
use Rattle.mb_node.specs.Stops.{link_stop, sink_stop, IsOfDisk, IsOfKeeping}

-- The count never fell, and stayed at a device that is known not to fail.
pub record Calm (before now : ℕ) (safe_before safe_now : Type 0) : Type 0 where
  pub later : before ≤ now
  pub sound : safe_before → safe_now
  pub kept : safe_before → now ≡ before

pub calm_none : (n : ℕ) (S : Type 0) → Calm n n S S
calm_none n S = record { later = omega arith; sound = λ s. s; kept = λ s. refl }

pub calm_both : (a b c : ℕ) (R S T : Type 0) → Calm a b R S → Calm b c S T → Calm a c R T
calm_both a b c R S T x y = record {
  later = let p : a ≤ b = x.later in let q : b ≤ c = y.later in omega arith;
  sound = λ r. y.sound (x.sound r);
  kept = λ r. y.kept (x.sound r) ∙ x.kept r;
}

-- any call of a device
pub call_calm : {X : Type 0} (b c : ℕ) (S T : Type 0) (r : Result X Failed) → HasCause b c r → (S → T) → (S → HasNoFault b c (IsErrOf r failed.Device)) → Calm b c S T
call_calm b c S T r cause sound quiet = record { later = cause.later; sound = sound; kept = λ s. (quiet s).kept }

pub calm_of : (b c : ℕ) (S T told : Type 0) → TellsFaults S T b c told → Calm b c S T
calm_of b c S T told x = record { later = x.later; sound = x.sound; kept = λ s. (x.quiet s).kept }

-- no fault is told
pub counts_none : (a c : ℕ) (R T told : Type 0) → Calm a c R T → (told → ⊥) → TellsFaults R T a c told
counts_none a c R T told x never = record {
  rose = λ t. absurd (never t);
  later = x.later;
  sound = x.sound;
  quiet = λ r. record { kept = x.kept r; none = never };
}

-- the last of some calls
pub counts_after : (a b c : ℕ) (R S T told : Type 0) → Calm a b R S → TellsFaults S T b c told → TellsFaults R T a c told
counts_after a b c R S T told x y = record {
  rose = λ t. let p : a ≤ b = x.later in let q : Rose b c = y.rose t in omega arith;
  later = let p : a ≤ b = x.later in let q : b ≤ c = y.later in omega arith;
  sound = λ r. y.sound (x.sound r);
  quiet = λ r. record { kept = (y.quiet (x.sound r)).kept ∙ x.kept r; none = (y.quiet (x.sound r)).none };
}

pub counts_as : (a c : ℕ) (R T told other : Type 0) → TellsFaults R T a c told → (other → told) → TellsFaults R T a c other
counts_as a c R T told other x f = record {
  rose = λ t. x.rose (f t);
  later = x.later;
  sound = x.sound;
  quiet = λ r. record { kept = (x.quiet r).kept; none = λ t. (x.quiet r).none (f t) };
}

link_fault : (cause : Failed) → link_stop cause ≡ LinkFault → cause ≡ failed.Device
link_fault failed.Device is = refl
link_fault failed.NoMemory is = absurd cc

sink_fault : (cause : WriteStop) → sink_stop cause ≡ SinkFault → cause ≡ writing.Fault
sink_fault writing.Fault is = refl
sink_fault writing.NoMemory is = absurd cc

-- a call that failed is no budget
pub link_no_budget : (cause : Failed) (n : ℕ) → link_stop cause ≡ Budget n → ⊥
link_no_budget failed.Device n is = absurd cc
link_no_budget failed.NoMemory n is = absurd cc

pub sink_no_budget : (cause : WriteStop) (n : ℕ) → sink_stop cause ≡ Budget n → ⊥
sink_no_budget writing.Fault n is = absurd cc
sink_no_budget writing.NoMemory n is = absurd cc

-- calls of a link that failed, as a stop
pub link_told : {X Y : Type 0} (cause : Failed) (e : ServeStop) (r : Result Y ServeStop) → r ≡ Err e → e ≡ link_stop cause → IsErrOf r LinkFault → IsErrOf {T = X} (Err cause) failed.Device
link_told {X = X} {Y = Y} cause e r made is told = let same : e ≡ LinkFault = cc in let d : cause ≡ failed.Device = link_fault cause (cc (is, same)) in cc

-- writing that failed, as a stop
pub sink_told : {X Y : Type 0} (cause : WriteStop) (e : ServeStop) (r : Result Y ServeStop) → r ≡ Err e → e ≡ sink_stop cause → IsErrOf r SinkFault → IsErrOf {T = X} (Err cause) writing.Fault
sink_told {X = X} {Y = Y} cause e r made is told = let same : e ≡ SinkFault = cc in let d : cause ≡ writing.Fault = sink_fault cause (cc (is, same)) in cc

-- a fault of the one isn't one of the other
pub link_no_sink : {Y : Type 0} (cause : Failed) (e : ServeStop) (r : Result Y ServeStop) → r ≡ Err e → e ≡ link_stop cause → IsErrOf r SinkFault → ⊥
link_no_sink failed.Device e r made is told = let same : e ≡ SinkFault = cc in absurd cc
link_no_sink failed.NoMemory e r made is told = let same : e ≡ SinkFault = cc in absurd cc

pub sink_no_link : {Y : Type 0} (cause : WriteStop) (e : ServeStop) (r : Result Y ServeStop) → r ≡ Err e → e ≡ sink_stop cause → IsErrOf r LinkFault → ⊥
sink_no_link writing.Fault e r made is told = let same : e ≡ LinkFault = cc in absurd cc
sink_no_link writing.NoMemory e r made is told = let same : e ≡ LinkFault = cc in absurd cc

-- keeping an event makes no receives
pub keeping_no_budget : (e : ServeStop) (n : ℕ) → IsOfKeeping e → e ≡ Budget n → ⊥
keeping_no_budget stop.LinkFault n of is = absurd of
keeping_no_budget stop.SinkFault n of is = absurd of
keeping_no_budget stop.DiskFault n of is = absurd cc
keeping_no_budget (stop.Budget k) n of is = absurd of
keeping_no_budget (stop.Full length) n of is = absurd cc
keeping_no_budget stop.NoMemory n of is = absurd cc

-- no stop of the link or the sink is one of the disk
pub link_alone : (cause : Failed) → ¬ IsOfDisk (link_stop cause)
link_alone failed.Device = λ of. of
link_alone failed.NoMemory = λ of. of

pub sink_alone : (cause : WriteStop) → ¬ IsOfDisk (sink_stop cause)
sink_alone writing.Fault = λ of. of
sink_alone writing.NoMemory = λ of. of

-- no stop of the link is one of the sink
pub link_unwritten : (cause : Failed) → ¬ (link_stop cause ≡ SinkFault)
link_unwritten failed.Device = λ is. absurd cc
link_unwritten failed.NoMemory = λ is. absurd cc
