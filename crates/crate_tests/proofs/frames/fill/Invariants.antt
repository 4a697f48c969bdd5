use Rattle.std.specs.Prelude.{◌≡◌, length}
use Rattle.crate_tests.proofs.frames.fill.Given as goal

abbrev pub invariant-loop-place : goal.invariant-loop-place
invariant-loop-place l = length l.frame ≡ length l.initial.frame
