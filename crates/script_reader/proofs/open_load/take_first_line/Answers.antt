use Rattle.std.proofs.Common.{ap, sym, ◌∙◌}
use Rattle.std.proofs.lemmas.Result.{err_from_is_err_and}
use Rattle.script_reader.proofs.OpenLemmas.{leaves_load}
use Rattle.script_reader.proofs.open_load.take_first_line.Goals as goal

pub returns-in_err-extend_from_slice-clause-err : goal.returns-in_err-extend_from_slice-clause-err
returns-in_err-extend_from_slice-clause-err c =
    let failed = err_from_is_err_and c.from_residual.result c.from_residual.ensures.1 in
    let same = ap (λ line. record { line = line; block = c.args.load.now.block }) c.in_err-extend_from_slice.ensures.err ∙ c.requires.none in
    let begins = rw c.line_text-text.ensures at (sym c.if-is_no_statement.ensures) in
    let block = rw c.line_text-text.ensures at (sym c.if-has_block.ensures) in
    rw failed.1 (same, leaves_load c.args.line.now begins block)
