-- Each write moves bytes from the rest to what is written; one that fails leaves a proper front.
use Rattle.std.proofs.Common.{refl, rules}
use Rattle.star_io.proofs.BytesLemmas.{Written-none, Written-piece, Written-front}
use Rattle.star_io.proofs.sink.write_all.Goals as goal

pub pieces-init : goal.pieces-init
pieces-init g c = record { written = Written-none _ _; same_faults = search rules; same_reading = refl }

pub pieces-preserved : goal.pieces-preserved
pieces-preserved g c = record {
  written = Written-piece _ c.in-Ok.n c.pieces.invariant.written c.in-Ok.ensures.takes.bytes;
  same_faults = search rules;
  same_reading = search rules;
}

pub returns-in_default-clause-err : goal.returns-in_default-clause-err
returns-in_default-clause-err g c =
    Written-front _ c.pieces.invariant.written (search rules) c.in_default.ensures.takes.bytes
