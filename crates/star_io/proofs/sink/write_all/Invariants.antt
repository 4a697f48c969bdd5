-- All of the text but the rest was appended, no write failed so far, and the reading side is left.
use Rattle.std.proofs.Common.{◌≡◌, length}
use Rattle.star_io.proofs.BytesLemmas.{Written}
use Rattle.star_io.proofs.sink.write_all.Given as goal

abbrev pub invariant-pieces : goal.invariant-pieces
invariant-pieces g l = record {
  written : Written (g.K.Sink.writing l.initial.sink).taken (g.K.Sink.writing l.sink).taken l.text l.rest;
  same_faults : (g.K.Sink.writing l.sink).faults ≡ (g.K.Sink.writing l.initial.sink).faults;
  same_reading : g.K.Sink.reading_side l.sink ≡ g.K.Sink.reading_side l.initial.sink;
}

abbrev pub decreases-pieces : goal.decreases-pieces
decreases-pieces g l = length l.rest
