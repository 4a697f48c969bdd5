use Rattle.std.proofs.Common.{refl, arith}
use Rattle.std.specs.Prelude.{None, Some}
use Rattle.pipeline_manager.specs.declared.life.Life.TheVariants.{Abandoned, Spoiled}
use Rattle.core_state.proofs.CutRosterLemmas.{holds-slot}
use Rattle.core_state.proofs.ScannedOverLemmas.{scanned-abandon, scanned-at, scanned-distribute}
use Rattle.core_state.proofs.laws_of_parts.a_scan_stops_what_the_core_stops.Goals as goal

pub returns : goal.returns
returns c = record {
  may = λ state scan query slot same place.
      let low = (holds-slot state.lives query slot place).1 in let many = same.count in omega arith;
  spoiled = λ state scan query slot sound same place. scanned-at state scan query (Some slot) Spoiled sound same place refl;
  abandoned = λ state scan query slot sound same place. scanned-at state scan query (Some slot) Abandoned sound same place refl;
  unheld = λ state scan query sound same place.
      (scanned-at state scan query None Spoiled sound same place refl, scanned-at state scan query None Abandoned sound same place refl);
  abandoning = scanned-abandon;
  distributing = scanned-distribute;
}
