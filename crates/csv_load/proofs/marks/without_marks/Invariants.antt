use Rattle.std.proofs.Common.{◌≡◌, length}
use Rattle.csv_load.specs.Records.{without_marks}
use Rattle.csv_load.proofs.marks.without_marks.Given as goal

-- the block and what is left of it are the same without their marks
abbrev pub invariant-marks : goal.invariant-marks
invariant-marks l = without_marks l.rest ≡ without_marks l.block

abbrev pub decreases-marks : goal.decreases-marks
decreases-marks l = length l.rest
