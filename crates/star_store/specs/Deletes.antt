-- The versions that a delete ends, or the reason that refuses it.
use Rattle.std.specs.Prelude.{ℕ, Bool, false, ◌&&◌, ◌==◌, List, filter, length, slice_get, Option, Result, Ok, Err, is_none, if◌then◌else◌}
use Rattle.std.specs.List.{range_with_len}
use Rattle.std.specs.Option.{option_map_or}
use Rattle.star_values.specs.declared.refusal.Refusal.{Refusal}
use Rattle.star_values.specs.declared.refusal.Refusal.TheVariants.{OutOfOrder}
use Rattle.star_plan.specs.Test.{Test}
use Rattle.star_plan.specs.Truth.{passes}
use Rattle.query_meaning.specs.History.{Change, Ended}
use Rattle.query_meaning.specs.Store.{PlainVersion, Store}

-- whether a delete ends a version: no commit ended it, and the condition, if there
-- is one, holds on its row
abbrev pub is_ended_by : Option Test → PlainVersion → Bool
is_ended_by condition version = (version.end == 0) && passes condition version.row

-- the positions of the versions that a delete ends, ascending
abbrev pub positions_of : Option Test → List PlainVersion → List ℕ
positions_of condition versions =
    filter (λ position. option_map_or (is_ended_by condition) (slice_get versions position) false)
    (range_with_len 0 (length versions))

-- the change of a delete, or the reason that refuses it
abbrev pub delete_change : Store → Option Test → Result Change Refusal
delete_change store condition =
    if is_none store.schema.fact then Err OutOfOrder
    else Ok (Ended (positions_of condition store.versions))
