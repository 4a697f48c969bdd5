-- What is seen of a batch that is lent, whose rows may not be written yet.
use Rattle.std.specs.Prelude.{List, Option}
use Rattle.batch_flow.specs.Rows.{Rows}
use Rattle.fact_versions.specs.declared.version.Version.{Version}
use Rattle.continuous_scan.specs.Blanks.{Unwritten}
use Rattle.continuous_scan.specs.Scanning.{Running}
use Rattle.continuous_scan.specs.Stamped.{batch_over}
use Rattle.core_parts.specs.declared.lent.Seen.{Seen}
use Rattle.core_parts.specs.declared.lent.Seen.TheVariants as seen

-- the batch that is to be written, for the queries that run in these slots, of these versions
abbrev pub written : Unwritten → List (Option Running) → List Version → Rows
written blank running versions =
    batch_over blank.first blank.end blank.number blank.room running versions

-- the batch
abbrev pub seen_of : Seen → Rows
seen_of (seen.Written batch) = batch.value
seen_of (seen.Unwritten blank scan facts) = written blank.value scan.value.running facts.value.items
