use Rattle.std.specs.Io.KnownBytes.{Keeps}
use Rattle.mb_os.proofs.streams.read_again.Given as goal

abbrev pub invariant-loop : goal.invariant-loop
invariant-loop g l = let reader = g.R.Read in Keeps (reader.remaining l.fn.reader) (reader.remaining l.reader)
