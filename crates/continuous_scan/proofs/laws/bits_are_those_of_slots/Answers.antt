use Rattle.std.proofs.Common.{refl}
use Rattle.std.specs.Prelude.{is_some}
use Rattle.continuous_scan.specs.Stamped.{takes_version}
use Rattle.continuous_scan.proofs.BitLemmas.{slots-members}
use Rattle.continuous_scan.proofs.laws.bits_are_those_of_slots.Goals as goal

pub returns-clause-roster : goal.returns-clause-roster
returns-clause-roster c = λ running slot. slots-members c.numbers_go_in_and_out.ensures.put_in is_some refl running slot

pub returns-clause-bits : goal.returns-clause-bits
returns-clause-bits c = λ running version slot.
    slots-members c.numbers_go_in_and_out.ensures.put_in (takes_version version) refl running slot
