-- The client table: by client, the last executed request.
use Rattle.std.specs.Prelude.{◌≡◌, true, ℕ, ◌<◌, ◌≤◌, ◌^◌, ◌++◌, List, length, slice_get, unwrap_or}
use Rattle.std.specs.List.{AllByRecursion}
use Rattle.std.specs.Int.{w64}
use Rattle.mb_base.specs.Limits.{most_clients}
use Rattle.mb_base.specs.Shapes.{Bytes}
use Rattle.mb_base.specs.Spelling.{number, text16}
use Rattle.mb_model.specs.declared.known.LastReply.{LastReply}
use Rattle.mb_model.specs.Service.{no_reply}
use Rattle.mb_model.specs.States.{is_place_of, is_size_of}

-- the last executed request of a client
abbrev pub last_of : List LastReply → ℕ → LastReply
last_of table client = unwrap_or (slice_get table client) no_reply

-- Its number, position and result fit into their bytes and into a REPLY; behind the number 0 there is nothing.
pub record IsLast (a : LastReply) : Type 0 where
  pub seq : a.seq < 2 ^ 64
  pub place : is_place_of a.seq a.pos ≡ true
  pub size : is_size_of a.seq (length a.result) ≡ true

-- a table of as many clients as a system may have
pub record IsTable (table : List LastReply) : Type 0 where
  pub each : AllByRecursion IsLast table
  pub few : length table ≤ most_clients

-- the bytes of one client
abbrev pub last_text : LastReply → Bytes
last_text a = number w64 a.seq ++ (number w64 a.pos ++ text16 a.result)
