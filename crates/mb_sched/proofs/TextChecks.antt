-- The text of whole reports, computed.
use Rattle.std.proofs.Common.{◌≡◌, ℕ, ◌-◌, ◌^◌, Bool, true, false, [], ◌∷◌, Some, None, refl, replicate}
use Rattle.std.specs.Prelude.{codes}
use Rattle.std.specs.List.{flat_map}
use Rattle.std.specs.Fmt.{digits}
use Rattle.hex.specs.Hex.{encode_with}
use Rattle.mb_base.specs.Shapes.{Bytes}
use Rattle.mb_msg.specs.declared.event.Placed.{Placed}
use Rattle.mb_parts.specs.declared.floor.Phase.TheVariants.{Changing, Entered, Open}
use Rattle.mb_schedule.specs.declared.report.HostLine.{HostLine}
use Rattle.mb_schedule.specs.declared.report.Report.{Report}
use Rattle.mb_schedule.specs.declared.report.Word.TheVariants.{BadUi, Stale, NeedBody}
use Rattle.mb_sched.specs.Report.{report_text}

-- a host that executed one request in view 0
abbrev host_after_one : ℕ → HostLine
host_after_one host = record { host = host; state = Some (record { view = 0; phase = Open; exec = 1; low = 0; log = 1; longest = 1 }) }

-- a request of a slot
abbrev placed : ℕ → ℕ → Bytes → Bool → Placed
placed client seq op fresh = record { request = record { client = client; seq = seq; op = op; tag = replicate 32 0 }; fresh = fresh }

-- one PUT at three correct hosts
abbrev one_put : Report
one_put = record {
  events = 5;
  messages = 7;
  line = record { pos = 1; requests = placed 0 1 (1 ∷ 1 ∷ 97 ∷ 0 ∷ 1 ∷ 49 ∷ []) true ∷ [] } ∷ [];
  refused = [];
  hosts = host_after_one 0 ∷ host_after_one 1 ∷ host_after_one 2 ∷ [];
  clients = record { client = 0; asked = 1; accepted = 0; last = None } ∷ [];
}

one_put_text : report_text one_put ≡ flat_map codes (
    "minbft report 2\n"
    ∷ "events 5 messages 7\n"
    ∷ "line 1\n"
    ∷ "slot 1 0 c0 1 fresh 010161000131\n"
    ∷ "host h0 view 0 open exec 1 low 0 log 1 longest 1\n"
    ∷ "host h1 view 0 open exec 1 low 0 log 1 longest 1\n"
    ∷ "host h2 view 0 open exec 1 low 0 log 1 longest 1\n"
    ∷ "client c0 asked 1 accepted 0\n"
    ∷ "end\n"
    ∷ [])
unfolding report_text digits encode_with
one_put_text = refl

-- a slot of two requests, of which one changed nothing, refused events, a faulty host, and accepted results
abbrev mixed : Report
mixed = record {
  events = 10;
  messages = 2 ^ 64 - 1;
  line = record { pos = 1; requests = placed 0 1 (0 ∷ 255 ∷ []) true ∷ [] }
      ∷ record { pos = 2; requests = placed 0 2 (7 ∷ []) true ∷ placed 13 1 [] false ∷ [] }
      ∷ [];
  refused = record { event = 2; name = BadUi; numbers = [] }
      ∷ record { event = 5; name = Stale; numbers = 2 ∷ [] }
      ∷ record { event = 7; name = NeedBody; numbers = 1 ∷ 5 ∷ [] }
      ∷ [];
  hosts = record { host = 0; state = None }
      ∷ record { host = 1; state = Some (record { view = 3; phase = Changing; exec = 2; low = 0; log = 14; longest = 15 }) }
      ∷ record { host = 2; state = Some (record { view = 3; phase = Entered; exec = 2; low = 0; log = 14; longest = 15 }) }
      ∷ [];
  clients = record { client = 0; asked = 2; accepted = 1; last = Some (record { seq = 1; pos = 1; result = 0 ∷ [] }) }
      ∷ record { client = 13; asked = 1; accepted = 1; last = Some (record { seq = 1; pos = 2; result = [] }) }
      ∷ [];
}

mixed_text : report_text mixed ≡ flat_map codes (
    "minbft report 2\n"
    ∷ "events 10 messages 18446744073709551615\n"
    ∷ "line 2\n"
    ∷ "slot 1 0 c0 1 fresh 00ff\n"
    ∷ "slot 2 0 c0 2 fresh 07\n"
    ∷ "slot 2 1 c13 1 again -\n"
    ∷ "refused 2 badui\n"
    ∷ "refused 5 stale 2\n"
    ∷ "refused 7 needbody 1 5\n"
    ∷ "host h0 faulty\n"
    ∷ "host h1 view 3 changing exec 2 low 0 log 14 longest 15\n"
    ∷ "host h2 view 3 entered exec 2 low 0 log 14 longest 15\n"
    ∷ "client c0 asked 2 accepted 1\n"
    ∷ "result c0 1 1 00\n"
    ∷ "client c13 asked 1 accepted 1\n"
    ∷ "result c13 1 2 -\n"
    ∷ "end\n"
    ∷ [])
unfolding report_text digits encode_with
mixed_text = refl
