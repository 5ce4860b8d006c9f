-- Which member of a certificate is the first that fails, and why.
use Rattle.std.specs.Prelude.{◌≡◌, ℕ, zero, suc, ◌<◌, Bool, true, false, List, nat_lt, get_or, Option, Some, None, slice_get, ◌==◌}
use Rattle.mb_cert.specs.declared.fault.Why.{Why}
use Rattle.mb_cert.specs.declared.fault.Why.TheVariants.{Few}
use Rattle.mb_cert.specs.declared.fault.CertFault.{CertFault}

-- The host at an index is above the one before it.
abbrev pub rises_at : List ℕ → ℕ → Bool
rises_at hosts zero = true
rises_at hosts (suc i) = nat_lt (get_or hosts i 0) (get_or hosts (suc i) 0)

-- What stands there, if something does, passes the test.
abbrev pub passes : {A : Type 0} → (A → Bool) → Option A → Bool
passes p None = true
passes p (Some x) = p x

-- The item at an index passes the test.
abbrev pub passes_at : {A : Type 0} → (A → Bool) → List A → ℕ → Bool
passes_at p l i = passes p (slice_get l i)

-- The member at this index, which is below the count, fails for this reason, and none before it fails.
pub record IsFirstOf (count : ℕ) (reason : ℕ → Option Why) (fault : CertFault) : Type 0 where
  pub within : fault.index < count
  pub fails : reason fault.index ≡ Some fault.why
  pub before : (i : ℕ) → i < fault.index → reason i ≡ None

-- Where there are as many members as asked for, it is the first of them that fails; else it tells how many there are.
abbrev pub IsFaultWhere : Bool → ℕ → (ℕ → Option Why) → CertFault → Type 0
IsFaultWhere true count reason fault = IsFirstOf count reason fault
IsFaultWhere false count reason fault = fault ≡ record { index = count; why = Few }

-- of so many members, where so many are asked for
abbrev pub IsFaultOf : ℕ → ℕ → (ℕ → Option Why) → CertFault → Type 0
IsFaultOf asked count reason fault = IsFaultWhere (count == asked) count reason fault
