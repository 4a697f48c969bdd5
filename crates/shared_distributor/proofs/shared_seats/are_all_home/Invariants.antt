use Rattle.std.proofs.Common.{◌≡◌, ℕ, ◌<◌, get_or, map}
use Rattle.std.specs.Prelude.{None}
use Rattle.shared_distributor.specs.Seats.{lending_in}
use Rattle.shared_distributor.proofs.shared_seats.are_all_home.Given as goal

abbrev pub invariant-loop-k : goal.invariant-loop-k
invariant-loop-k l = (j : ℕ) → j < l.k → get_or (map lending_in l.seats) j None ≡ None
