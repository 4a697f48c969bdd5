use Rattle.core_state.proofs.PointLemmas.{points-own, points-rise, points-stand}
use Rattle.core_state.proofs.laws_of_points.points_rise.Goals as goal

pub returns-clause-rise : goal.returns-clause-rise
returns-clause-rise c = points-rise

pub returns-clause-own : goal.returns-clause-own
returns-clause-own c = points-own

pub returns-clause-stand : goal.returns-clause-stand
returns-clause-stand c = points-stand
