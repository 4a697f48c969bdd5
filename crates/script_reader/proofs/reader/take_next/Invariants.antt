use Rattle.std.proofs.Common.{length}
use Rattle.script_reader.proofs.OpenLemmas.{GoesOn}
use Rattle.script_reader.proofs.reader.take_next.Given as goal

-- the reader went on behind lines that end no statement
abbrev pub invariant-lines : goal.invariant-lines
invariant-lines l = record { way : GoesOn l.initial.load l.initial.pending l.load l.pending l.ended }

abbrev pub decreases-lines : goal.decreases-lines
decreases-lines l = length l.pending
