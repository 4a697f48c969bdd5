use Rattle.std.proofs.Common.{◌∙◌}
use Rattle.csv_load.proofs.MarkLemmas.{mark_taken, no_mark}
use Rattle.csv_load.proofs.marks.without_marks.Goals as goal

pub marks-preserved : goal.marks-preserved
marks-preserved c =
    let found = c.in-Some.ensures.cases in
    rw (found.1, mark_taken c.marks.rest.now found.0) c.marks.invariant

pub returns : goal.returns
returns c = no_mark c.marks.rest.now c.in_default.ensures.cases ∙ c.marks.invariant
