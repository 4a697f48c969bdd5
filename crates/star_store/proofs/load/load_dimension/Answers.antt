use Rattle.std.proofs.Common.{refl}
use Rattle.std.proofs.lemmas.Result.{err_from_is_err_and}
use Rattle.star_store.proofs.CommitLemmas.{commits_told, committed_rows}
use Rattle.star_store.proofs.load.load_dimension.Goals as goal

pub returns-in_err-rows-clause-commits : goal.returns-in_err-rows-clause-commits
returns-in_err-rows-clause-commits c = λ facts.
    let failed = err_from_is_err_and c.from_residual.result c.from_residual.ensures.1 in
    rw (failed.1, failed.2) (commits_told _ _ _ _ (c.in_err-rows.ensures.tells facts c.args.commits.now) refl)

pub returns-clause-commits : goal.returns-clause-commits
returns-clause-commits c = λ facts.
    committed_rows c.args.schema.now c.args.dims.now c.commit_rows.new.dims facts c.args.commits.now c.commit_rows.new.commits c.args.number c.in_ok-rows.rows
    _ c.in_ok-commit_rows.field-0 (c.in_ok-rows.ensures.rows facts c.args.commits.now)
    c.in_ok-commit_rows.ensures.rows c.in_ok-commit_rows.ensures.commits c.in_ok-commit_rows.ensures.done
