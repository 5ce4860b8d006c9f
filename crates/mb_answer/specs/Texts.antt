-- What is written with a status.
use Rattle.std.specs.Prelude.{ℕ, ◌++◌, codes}
use Rattle.std.specs.Fmt.{decimal}
use Rattle.mb_base.specs.Shapes.{Bytes}

abbrev pub usage_text : Bytes
usage_text = codes "usage: minbft replay | soak SEED N | node ID EVENTS [PATH] | retrace | cluster TURNS | audit H | learn | journal ID PATH\n"

abbrev pub too_long_text : Bytes
too_long_text = codes "too long\n"

-- a line by its number
abbrev pub bad_line_text : ℕ → Bytes
bad_line_text line = codes "bad line " ++ (decimal line ++ codes "\n")

-- how many bytes a file has
abbrev pub exists_text : ℕ → Bytes
exists_text length = codes "exists " ++ (decimal length ++ codes "\n")

-- the offset of a fault in a file
abbrev pub bad_journal_text : ℕ → Bytes
bad_journal_text at = codes "bad journal at " ++ (decimal at ++ codes "\n")

-- an event by its number, and the first forged certificate in what it delivers, by its host and counter
abbrev pub forged_text : ℕ → ℕ → ℕ → Bytes
forged_text event host counter = codes "forged event " ++ (decimal event ++ (codes " h" ++ (decimal host ++ (codes " " ++ (decimal counter ++ codes "\n")))))

-- an event by its number
abbrev pub forged_tag_text : ℕ → Bytes
forged_tag_text event = codes "forged event " ++ (decimal event ++ codes " tag\n")
