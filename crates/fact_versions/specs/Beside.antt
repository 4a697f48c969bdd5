-- What is kept beside versions, so that a scan need not read them.
use Rattle.std.specs.Prelude.{ℕ, ℤ, ◌+◌, ◌*◌, ◌≤◌, List, length, map}
use Rattle.fact_versions.specs.declared.version_blocks.TheConstants.{VERSIONS_IN_A_BLOCK}
use Rattle.star_values.specs.Roomy.{Roomy}
use Rattle.star_values.specs.declared.value.Value.{Value}
use Rattle.star_values.specs.First.{AreIntegerColumns}
use Rattle.fact_versions.specs.Blocks.{AreBlocks}
use Rattle.fact_versions.specs.Keys.{AreKeyColumns, HaveRoomForKeys}
use Rattle.fact_versions.specs.declared.version_blocks.VersionBlock.{VersionBlock}
use Rattle.fact_versions.specs.declared.version.Version.{Version}
use Rattle.fact_versions.specs.declared.version.TheConstants.{MAX_VERSIONS}

-- the rows of versions
abbrev pub version_rows : List Version → List (List Value)
version_rows versions = map (λ version. version.row) versions

-- versions that are not too many have these beside them: integers and keys,
-- column by column, and blocks
pub record AreBeside (versions : List Version) (integers : List (List ℤ)) (keys : List (Roomy ℕ))
    (blocks : List VersionBlock) : Type 0 where
  pub few : length versions ≤ MAX_VERSIONS
  pub whole_integers : AreIntegerColumns (version_rows versions) integers
  pub whole_keys : AreKeyColumns versions keys
  pub whole_blocks : AreBlocks versions blocks

-- so many more versions have room, and so do their keys and their blocks
pub record HaveRoomFor (more : ℕ) (versions : Roomy Version) (keys : List (Roomy ℕ))
    (blocks : Roomy VersionBlock) : Type 0 where
  pub of_versions : more ≤ versions.room
  pub of_keys : HaveRoomForKeys more keys
  pub of_blocks : length versions.items + more
      ≤ (length blocks.items + blocks.room) * VERSIONS_IN_A_BLOCK
