-- The own log between the appending of a stamp and the cut that it brings.
use Rattle.std.specs.Prelude.{◌≡◌, ℕ, true, false, ◌&&◌, ◌∷◌, nat_lt, nat_le, Option, Some, None}
use Rattle.mb_parts.specs.declared.certificates.FloorCert.{FloorCert}
use Rattle.mb_model.specs.Histories.{Entry, History, Identity, stamped}
use Rattle.mb_model.specs.Stable.{floor_counter, log_floor}
use Rattle.mb_model.specs.OwnLog.{log_longest}
use Rattle.mb_log.specs.Logs.{Log, cut_at}
use Rattle.mb_log.specs.Represents.{Represents}

module _ {S : Type 0} (self : Identity S) where
  -- The log holds all that was stamped, and goes on from the floor before the entry.
  pub record IsUncut (log : Log) (e : Entry) (d : History) : Type 0 where
    pub shape : log.shape ≡ self.shape
    pub host : log.host ≡ self.host
    pub represents : Represents log (log_floor self d) (stamped (e ∷ d)) (log_longest self (e ∷ d))

  -- It is cut by a certificate where that goes forward from the floor, and not beyond the counter; else it stays.
  abbrev pub CutsTo : ℕ → Log → Option FloorCert → Option FloorCert → Log → Type 0
  CutsTo counter old floor None new = new ≡ old
  CutsTo counter old floor (Some c) new =
      ((nat_lt (floor_counter self floor) (floor_counter self (Some c)) && nat_le (floor_counter self (Some c)) counter) ≡ true → new ≡ cut_at c old)
      × ((nat_lt (floor_counter self floor) (floor_counter self (Some c)) && nat_le (floor_counter self (Some c)) counter) ≡ false → new ≡ old)
