-- The text of a report.
use Rattle.std.specs.Prelude.{ℕ, ◌+◌, Bool, true, false, List, [], ◌∷◌, ◌++◌, length, map, codes, Option, Some, None}
use Rattle.std.specs.List.{flat_map}
use Rattle.std.specs.Fmt.{decimal}
use Rattle.mb_base.specs.Shapes.{Bytes}
use Rattle.mb_msg.specs.declared.event.Placed.{Placed}
use Rattle.mb_msg.specs.declared.event.Slot.{Slot}
use Rattle.mb_parts.specs.declared.floor.Phase.{Phase}
use Rattle.mb_parts.specs.declared.floor.Phase.TheVariants.{Changing, Entered, Open}
use Rattle.mb_schedule.specs.declared.report.ClientLine.{ClientLine}
use Rattle.mb_schedule.specs.declared.report.HostLine.{HostLine}
use Rattle.mb_schedule.specs.declared.report.HostState.{HostState}
use Rattle.mb_schedule.specs.declared.report.LastResult.{LastResult}
use Rattle.mb_schedule.specs.declared.report.RefusedLine.{RefusedLine}
use Rattle.mb_schedule.specs.declared.report.Report.{Report}
use Rattle.mb_schedule.specs.declared.report.Word.{Word}
use Rattle.mb_schedule.specs.declared.report.Word.TheVariants.{Malformed, BadUi, BadTag, Stale, Ahead, Illegal, Convicted, NeedBody, LaterView, BeyondWindow, Unusable, WrongDigest, BadState, Old, OtherSeq}
use Rattle.mb_sched.specs.Printing.{client_name, host_name, line_of, hex_word}

-- whether a request changed the state
abbrev pub fresh_name : Bool → Bytes
fresh_name true = codes "fresh"
fresh_name false = codes "again"

-- an outcome in lower case
abbrev pub word_name : Word → Bytes
word_name Malformed = codes "malformed"
word_name BadUi = codes "badui"
word_name BadTag = codes "badtag"
word_name Stale = codes "stale"
word_name Ahead = codes "ahead"
word_name Illegal = codes "illegal"
word_name Convicted = codes "convicted"
word_name NeedBody = codes "needbody"
word_name LaterView = codes "laterview"
word_name BeyondWindow = codes "beyondwindow"
word_name Unusable = codes "unusable"
word_name WrongDigest = codes "wrongdigest"
word_name BadState = codes "badstate"
word_name Old = codes "old"
word_name OtherSeq = codes "otherseq"

-- a phase in lower case
abbrev pub phase_name : Phase → Bytes
phase_name Changing = codes "changing"
phase_name Entered = codes "entered"
phase_name Open = codes "open"

-- a request of a slot: the position, its place in the batch from 0, the client, the number, and the operation
abbrev pub placed_line : ℕ → ℕ → Placed → Bytes
placed_line pos i p = line_of (codes "slot" ∷ decimal pos ∷ decimal i ∷ client_name p.request.client ∷ decimal p.request.seq ∷ fresh_name p.fresh ∷ hex_word p.request.op ∷ [])

-- the requests of a slot, of which the first has this place
abbrev pub placed_lines : ℕ → ℕ → List Placed → Bytes
placed_lines pos i [] = []
placed_lines pos i (p ∷ ps) = placed_line pos i p ++ placed_lines pos (i + 1) ps

-- a slot: one line for each request
abbrev pub slot_lines : Slot → Bytes
slot_lines s = placed_lines s.pos 0 s.requests

-- a refused event: its number, the outcome, and the numbers of the outcome
abbrev pub refused_line : RefusedLine → Bytes
refused_line r = line_of (codes "refused" ∷ decimal r.event ∷ word_name r.name ∷ map decimal r.numbers)

-- where a host stands; a faulty one has no state
abbrev pub state_words : Option HostState → List Bytes
state_words None = codes "faulty" ∷ []
state_words (Some s) = codes "view" ∷ decimal s.view ∷ phase_name s.phase ∷ codes "exec" ∷ decimal s.exec ∷ codes "low" ∷ decimal s.low ∷ codes "log" ∷ decimal s.log ∷ codes "longest" ∷ decimal s.longest ∷ []

-- a host, and where it stands
abbrev pub host_line : HostLine → Bytes
host_line h = line_of (codes "host" ∷ host_name h.host ∷ state_words h.state)

-- the last accepted result of a client, if there is one: the number of the request, its position, and the result
abbrev pub result_line : ℕ → Option LastResult → Bytes
result_line client None = []
result_line client (Some r) = line_of (codes "result" ∷ client_name client ∷ decimal r.seq ∷ decimal r.pos ∷ hex_word r.result ∷ [])

-- a client: how many requests it asked, how many results it accepted, and the last of these on a line of its own
abbrev pub client_lines : ClientLine → Bytes
client_lines c = line_of (codes "client" ∷ client_name c.client ∷ codes "asked" ∷ decimal c.asked ∷ codes "accepted" ∷ decimal c.accepted ∷ []) ++ result_line c.client c.last

-- a report: its head, the slots, the refused events, the hosts, the clients, and its end
unfoldable pub report_text : Report → Bytes
report_text r =
    line_of (codes "minbft" ∷ codes "report" ∷ codes "2" ∷ [])
    ++ (line_of (codes "events" ∷ decimal r.events ∷ codes "messages" ∷ decimal r.messages ∷ [])
    ++ (line_of (codes "line" ∷ decimal (length r.line) ∷ [])
    ++ (flat_map slot_lines r.line
    ++ (flat_map refused_line r.refused
    ++ (flat_map host_line r.hosts
    ++ (flat_map client_lines r.clients
    ++ line_of (codes "end" ∷ [])))))))
