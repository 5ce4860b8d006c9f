-- The definitions of a schedule's text, run on small texts.
use Rattle.std.proofs.Common.{◌≡◌, ◌∷◌, ◌++◌, [], true, false, Ok, Err, codes, refl, replicate}
use Rattle.hex.proofs.OnLiterals.{hex_on_literals}
use Rattle.mb_base.specs.Shapes.{Bytes}
use Rattle.mb_schedule.specs.declared.schedule.Name.TheVariants as name
use Rattle.mb_schedule.specs.declared.schedule.WorldEvent.TheVariants.{Ask, Give, Raw, StampPrepare}
use Rattle.mb_sched.specs.Headers.{header_by, are_faulty}
use Rattle.mb_sched.specs.EventLines.{event_line}
use Rattle.mb_sched.specs.Schedules.{schedule_of}
use Rattle.mb_sched.specs.TextLines.{all_lines}

-- a header of three hosts and two clients
abbrev header : Bytes
header = codes "minbft schedule 2\nf 1\nk 4\nclients 2\nsecret 00000000000000000000000000000000000000000000000000000000000000fF\nfaulty h2 c1\n"

-- one request, its message given to host 2, bytes given to a client, and a PREPARE of two messages
reads_events : schedule_of (header ++ codes "ask c1 01ff\ngive 1 h2\nraw c0 -\nstamp h2 prepare 0 1 1 2\n") ≡ Ok (record {
  f = 1;
  k = 4;
  clients = 2;
  secret = replicate 31 0 ++ 255 ∷ [];
  faulty_hosts = false ∷ false ∷ true ∷ [];
  faulty_clients = false ∷ true ∷ [];
  events = Ask 1 (1 ∷ 255 ∷ []) ∷ Give 1 2 ∷ Raw (name.Client 0) [] ∷ StampPrepare 2 0 1 (1 ∷ 2 ∷ []) ∷ [];
})
unfolding hex_on_literals schedule_of all_lines header_by are_faulty event_line
reads_events = refl

-- there is no host 3
finds_a_bad_line : schedule_of (header ++ codes "ask c1 -\ngive 1 h3\nnudge h9\n") ≡ Err 8
unfolding hex_on_literals schedule_of all_lines header_by are_faulty event_line
finds_a_bad_line = refl
