use Rattle.std.proofs.Common.{◌+◌, ◌++◌, ◌∙◌, ap, refl, slice_index_or}
use Rattle.query_meaning.specs.History.{rows_by}
use Rattle.star_store.proofs.LoadLemmas.{lent_grown, lent_same, on_err}
use Rattle.star_store.proofs.load.commit_rows.Goals as goal

pub returns-in_err-grow-clause-err : goal.returns-in_err-grow-clause-err
returns-in_err-grow-clause-err c =
    on_err _ c.from_residual.result (
      lent_same c.args.dims.now c.as_mut_slice.result.now c.args.number c.index-as_mut_slice-number.result c.grow.new.dimension
          c.as_mut_slice.ensures.members c.requires.there c.in_err-grow.ensures.err,
      refl,
    )

pub returns-clause-rows : goal.returns-clause-rows
returns-clause-rows c =
    let read = slice_index_or c.as_mut_slice.result.now c.args.number c.index-as_mut_slice-number.result in
    lent_grown c.args.dims.now c.as_mut_slice.result.now c.args.number c.index-as_mut_slice-number.result c.grow.new.dimension
    (rows_by (c.args.commits.now + 1) c.args.rows)
    c.as_mut_slice.ensures.members c.requires.there
    (c.in_ok-grow.ensures.ok ∙ ap (λ commit. read.items ++ rows_by commit c.args.rows) c.in-Some.ensures.1)
