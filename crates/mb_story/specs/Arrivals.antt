-- To whom an event comes.
use Rattle.std.specs.Prelude.{ℕ, Option, Some, None}
use Rattle.mb_schedule.specs.declared.schedule.Name.{Name}
use Rattle.mb_schedule.specs.declared.schedule.Name.TheVariants as name
use Rattle.mb_schedule.specs.declared.schedule.WorldEvent.{WorldEvent}
use Rattle.mb_schedule.specs.declared.schedule.WorldEvent.TheVariants.{Ask, Give, Take, Raw, Patience, Nudge}

abbrev pub host_named : Name → Option ℕ
host_named (name.Host h) = Some h
host_named (name.Client c) = None

-- the host to which it comes
abbrev pub host_of : WorldEvent → Option ℕ
host_of (Give m h) = Some h
host_of (Raw who bytes) = host_named who
host_of (Patience h) = Some h
host_of (Nudge h) = Some h
host_of e = None

abbrev pub client_named : Name → Option ℕ
client_named (name.Host h) = None
client_named (name.Client c) = Some c

-- the client to which it comes, or who asks in it
abbrev pub client_of : WorldEvent → Option ℕ
client_of (Ask c op) = Some c
client_of (Take m c) = Some c
client_of (Raw who bytes) = client_named who
client_of e = None
