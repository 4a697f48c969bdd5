-- Versions and the commits that come later.
use Rattle.std.proofs.Common.{◌≡◌, ℕ, ◌<◌, false, arith}
use Rattle.std.proofs.lemmas.Bool.Decides.{nat_tests}
use Rattle.fact_versions.specs.Visible.{is_visible}

-- an end that comes later is none yet
pub visible-ended_later : (begin commit snapshot : ℕ) → snapshot < commit
    → is_visible begin 0 snapshot ≡ is_visible begin commit snapshot
visible-ended_later begin commit snapshot later = grind (arith, nat_tests)

-- what begins later is not seen
pub visible-begun_later : (begin end snapshot : ℕ) → snapshot < begin → is_visible begin end snapshot ≡ false
visible-begun_later begin end snapshot later = grind (arith, nat_tests)
