-- A new core has two seats, and no batch.
use Rattle.std.proofs.Common.{◌<◌, ap, arith, subst, sym}
use Rattle.core_state.specs.Found.{held_by}
use Rattle.core_state.specs.State.{State}
use Rattle.crate_tests.proofs.lent.replies_anew.Goals as goal

pub replies-requires : goal.replies-requires
replies-requires c = record {
  seat = subst (λ (state : State). 1 < state.settings.seats) (sym c.in_ok-core.ensures.state) (omega arith);
  empty = ap (λ (state : State). held_by state.scan.flights 1) c.in_ok-core.ensures.state;
}
