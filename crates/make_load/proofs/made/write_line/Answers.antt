use Rattle.make_load.proofs.RunLemmas.{faults_of, writes-some}
use Rattle.make_load.proofs.made.write_line.Goals as goal

pub returns-in-Ok-clause-writes : goal.returns-in-Ok-clause-writes
returns-in-Ok-clause-writes g c =
    rw (c.in-Ok.is, c.end_behind.ensures)
    (writes-some c.in-Ok.summed.line c.as_bytes.result.now c.in-Ok.summed.refused _ _ c.write_all-written.result c.as_bytes.ensures
    c.write_all-written.ensures.ok c.write_all-written.ensures.err)

pub returns-in-Ok-clause-faults : goal.returns-in-Ok-clause-faults
returns-in-Ok-clause-faults g c =
    rw c.end_behind.ensures
    (faults_of c.in-Ok.summed.refused _ _ c.write_all-written.result c.write_all-written.ensures.faults
    c.write_all-written.ensures.last)
