-- When the work that is left falls, in plain numbers.
use Rattle.core_driver.proofs.Words.{}
use Rattle.std.proofs.Common.{◌⊎◌, ℕ, ◌<◌, ◌≤◌, ◌+◌, ◌-◌, ◌*◌, ⊎_elim, arith}
use Rattle.std.proofs.Math.Nat.{mul-le-mul_right}

-- the work of so many positions to be cut of a table with so many versions, and so many steps until queries run, slots are
-- free and batches are distributed
abbrev pub work_of : (cut versions position run free flights : ℕ) → ℕ
work_of cut versions position run free flights =
    2 * (cut * (versions + 1) + (versions - position)) + (run + (free + flights))

-- where no more is to be cut, and the scan stays, it is the steps that count
pub work-falls : (cut less versions position run free flights runs frees flies : ℕ) → less ≤ cut
    → runs + (frees + flies) < run + (free + flights)
    → work_of less versions position runs frees flies < work_of cut versions position run free flights
work-falls cut less versions position run free flights runs frees flies no_more fewer =
    let part = mul-le-mul_right (versions + 1) no_more in
    omega (arith, part)

-- a cut that leaves less to be cut, or lets the scan come nearer to the last version, leaves less work with the batch that
-- it makes
pub cut-falls : (cut less versions position end run free flights : ℕ) → position ≤ versions → end ≤ versions → 0 < end
    → (less < cut) ⊎ ((less ≤ cut) × (position < end))
    → work_of less versions end run free (flights + 1) < work_of cut versions position run free flights
cut-falls cut less versions position end run free flights stands last some = ⊎_elim
    (λ fewer.
    let more : less + 1 ≤ cut = omega arith in
    let part = mul-le-mul_right (versions + 1) more in
    omega (arith, part))
    (λ nearer.
    let part = mul-le-mul_right (versions + 1) nearer.0 in
    let on = nearer.1 in
    omega (arith, part))
