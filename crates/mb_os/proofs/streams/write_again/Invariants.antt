use Rattle.std.specs.Io.KnownBytes.{Keeps}
use Rattle.mb_os.proofs.streams.write_again.Given as goal

abbrev pub invariant-loop : goal.invariant-loop
invariant-loop g l = let writer = g.W.Write in Keeps (writer.contents l.fn.writer) (writer.contents l.writer)
