-- What was written and sent.
use Rattle.std.specs.Prelude.{◌≡◌, ◌≢◌, List, [], ◌++◌, Option, Result, Ok, Err}
use Rattle.std.specs.Io.KnownBytes.{Appends}
use Rattle.mb_base.specs.Shapes.{Bytes}
use Rattle.mb_edge.specs.Seen.{Device, LinkState}
use Rattle.mb_edge.specs.Told.{with_more}
use Rattle.mb_node.specs.Sends.{Sends}

-- what was written and sent so far, where sink and link tell it
pub record Outside : Type 0 where
  pub written : Option Bytes
  pub sent : Option Sends

-- by a sink and a link
abbrev pub outside : Device → LinkState → Outside
outside sink link = record { written = sink.bytes; sent = link.sent }

-- these bytes more, and these datagrams
pub record Adds (before now : Outside) (text : Bytes) (datagrams : Sends) : Type 0 where
  pub written : Appends before.written now.written text
  pub sent : now.sent ≡ with_more before.sent datagrams

-- a first part of a list
pub record IsFirstPart {A : Type 0} (part whole : List A) : Type 0 where
  pub rest : List A
  pub joined : part ++ rest ≡ whole

-- A first part of some datagrams was sent.
pub record SendsPart (datagrams : Sends) (before now : Option Sends) : Type 0 where
  pub part : Sends
  pub first : IsFirstPart part datagrams
  pub sent : now ≡ with_more before part

-- They were sent where the call succeeded, and else a first part of them.
abbrev pub Delivers : {E : Type 0} → Sends → Option Sends → Option Sends → Result (Unit {0}) E → Type 0
Delivers datagrams before now (Ok _) = now ≡ with_more before datagrams
Delivers datagrams before now (Err e) = SendsPart datagrams before now

-- first parts of lines and of datagrams: all lines where some datagram was sent
pub record IsPartOf (lines : Bytes) (all : Sends) (text : Bytes) (datagrams : Sends) : Type 0 where
  pub some_lines : IsFirstPart text lines
  pub some_sent : IsFirstPart datagrams all
  pub lines_first : datagrams ≢ [] → text ≡ lines
