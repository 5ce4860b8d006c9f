-- What the fields of a type are.
use Rattle.mb_fetch.specs.declared.parts.Parts.TheInside.{Inside}
use Rattle.mb_fetch.specs.Fetched.{Fetched}

abbrev pub seen : Inside → Fetched
seen p = record { pos = p.pos; digest = p.digest; parts = p.parts.items; held = p.is_held }
