-- The writes that were interrupted took nothing.
use Rattle.std.specs.Io.KnownBytes.{Keeps}
use Rattle.star_io.proofs.again.write_again.Given as goal

abbrev pub invariant-tries : goal.invariant-tries
invariant-tries g l = Keeps (g.W.Write.contents l.fn.writer) (g.W.Write.contents l.writer)
