use Rattle.std.proofs.Common.{ap}
use Rattle.std.proofs.lemmas.Result.{err_from_is_err_and}
use Rattle.script_reader.proofs.OpenLemmas.{leaves_open}
use Rattle.script_reader.proofs.open_load.take_block_line.Goals as goal

pub returns-in_err-extend_from_slice-clause-err : goal.returns-in_err-extend_from_slice-clause-err
returns-in_err-extend_from_slice-clause-err c =
    let failed = err_from_is_err_and c.from_residual-in_err-extend_from_slice.result c.from_residual-in_err-extend_from_slice.ensures.1 in
    let same = ap (λ block. record { line = c.args.load.now.line; block = block }) c.in_err-extend_from_slice.ensures.err in
    rw failed.1 (same, leaves_open c.args.load.now c.args.line.now c.requires.load)
