-- What a worker holds while the core goes on without it.
use Rattle.std.specs.Prelude.{◌≡◌}
use Rattle.core_state.specs.State.{Flight}

-- a batch in flight stands for one that a worker took: it has the same positions and the same
-- roster, whatever its keys and bits, the filters that it passed, and the hand that it is in
pub record StandsFor (taken present : Flight) : Type 0 where
  pub first : present.rows.first ≡ taken.rows.first
  pub count : present.rows.count ≡ taken.rows.count
  pub roster : present.roster ≡ taken.roster
