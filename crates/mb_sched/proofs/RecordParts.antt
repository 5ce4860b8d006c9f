-- A record is read part by part: its settings, the line of the host, and its entries.
use Rattle.std.proofs.Common.{◌≡◌, ℕ, zero, suc, List, [], ◌∷◌, drop, codes, Result, Ok, refl}
use Rattle.std.specs.Prelude.{slice_get}
use Rattle.mb_base.specs.Shapes.{Bytes}
use Rattle.mb_sched.specs.declared.bad_text.BadText.{BadText}
use Rattle.mb_sched.specs.declared.bad_text.BadText.TheVariants as text
use Rattle.mb_sched.specs.declared.records.Entry.{Entry}
use Rattle.mb_sched.specs.Lines.{lines, is_ended, ◌>>=◌, read_line, Faults}
use Rattle.mb_sched.specs.Settings.{SettingsContents, settings_of}
use Rattle.mb_sched.specs.Records.{with_entries, id_line, entries_from, record_of}

-- the first line behind some
pub first_behind : (k : ℕ) (ls : List Bytes) → slice_get (drop k ls) 0 ≡ slice_get ls k
first_behind zero ls = refl
first_behind (suc k) [] = refl
first_behind (suc k) (l ∷ ls) = first_behind k ls

pub one_more : (k : ℕ) (ls : List Bytes) → drop 1 (drop k ls) ≡ drop (suc k) ls
one_more zero ls = refl
one_more (suc k) [] = refl
one_more (suc k) (l ∷ ls) = one_more k ls

-- an error of a part is one of the whole
bad : {A B : Type 0} (e : BadText) (part : Result A ℕ) (f : A → Result B ℕ) → Faults e part → Faults e (part >>= f)
bad text.TooLong part f is = is
bad (text.BadLine n) part f is = rw is refl
bad text.NoMemory part f is = tt

module _ (bytes : Bytes) where
  pub settings_fail : (e : BadText) → Faults e (settings_of (codes "minbft record 2") (lines bytes)) → Faults e (record_of bytes)
  unfolding record_of
  settings_fail e is = bad e (settings_of (codes "minbft record 2") (lines bytes)) _ is

  module _ (settings : SettingsContents) (read : settings_of (codes "minbft record 2") (lines bytes) ≡ Ok settings) where
    pub id_fails : (e : BadText) → Faults e (read_line 7 (id_line settings.f) (slice_get (lines bytes) 6)) → Faults e (record_of bytes)
    unfolding record_of
    id_fails e is = rw read (bad e (read_line 7 (id_line settings.f) (slice_get (lines bytes) 6)) _ is)

    module _ (id : ℕ) (host : read_line 7 (id_line settings.f) (slice_get (lines bytes) 6) ≡ Ok id) where
      pub entries_fail : (e : BadText) → Faults e (entries_from (is_ended bytes) 8 (drop 7 (lines bytes))) → Faults e (record_of bytes)
      unfolding record_of
      entries_fail e is = rw (read, host) (bad e (entries_from (is_ended bytes) 8 (drop 7 (lines bytes))) _ is)

      pub all_read : (entries : List Entry) → entries_from (is_ended bytes) 8 (drop 7 (lines bytes)) ≡ Ok entries → record_of bytes ≡ Ok (with_entries settings id entries)
      unfolding record_of
      all_read entries is = rw (read, host, is) refl
