-- Queries that may still be answered.
use Rattle.std.proofs.Common.{false, Option, Some, None, refl}
use Rattle.std.specs.Bool.{IsTrue}
use Rattle.std.specs.Option.{option_map_or}
use Rattle.pipeline_manager.specs.declared.life.Life.{Life}
use Rattle.pipeline_manager.specs.declared.life.Life.TheVariants.{Building, Running, Ending}
use Rattle.pipeline_manager.specs.Conditions.{is_begun, is_open}

-- what has begun may still be answered
pub begun-open : (life : Option Life) → IsTrue (option_map_or is_begun life false) → IsTrue (option_map_or is_open life false)
begun-open None begun = cc
begun-open (Some Building) begun = refl
begun-open (Some (Running start left)) begun = refl
begun-open (Some Ending) begun = refl
begun-open (Some other) begun = cc
