-- What is known of versions by blocks.
use Rattle.std.specs.Prelude.{◌≡◌, ℕ, ◌+◌, ◌*◌, ◌<◌, ◌≤◌, Bool, false, ◌||◌, not, ◌==◌, max, List, [], ◌∷◌, length, take, drop, All, slice_index_or}
use Rattle.fact_versions.specs.declared.version_blocks.TheConstants.{VERSIONS_IN_A_BLOCK}
use Rattle.fact_versions.specs.declared.version.Version.{Version}
use Rattle.fact_versions.specs.declared.version_blocks.VersionBlock.{VersionBlock}

-- a version was ended
abbrev pub is_end : (end : ℕ) → Bool
is_end end = not (end == 0)

-- a block with one version more
abbrev pub with_version : VersionBlock → Version → VersionBlock
with_version block version =
    record { begin = max block.begin version.begin; ended = block.ended || is_end version.end }

-- a block of which a commit ended one version more
abbrev pub with_end_by : VersionBlock → (commit : ℕ) → VersionBlock
with_end_by block commit = record block { ended = block.ended || is_end commit }

-- what is known of versions together: the greatest of their begins, and
-- whether one of them was ended
abbrev pub block_of : List Version → VersionBlock
block_of [] = record { begin = 0; ended = false }
block_of (version ∷ versions) = with_version (block_of versions) version

-- the versions of a block, from 0
abbrev pub versions_in : (number : ℕ) → List Version → List Version
versions_in number versions =
    take VERSIONS_IN_A_BLOCK (drop (number * VERSIONS_IN_A_BLOCK) versions)

-- so many blocks have room for so many versions, and no block is left empty
pub record HaveBlocks (versions blocks : ℕ) : Type 0 where
  pub few : versions ≤ blocks * VERSIONS_IN_A_BLOCK
  pub last : blocks * VERSIONS_IN_A_BLOCK < versions + VERSIONS_IN_A_BLOCK

-- blocks are those of versions, each of its own
pub record AreBlocks (versions : List Version) (blocks : List VersionBlock) : Type 0 where
  pub counted : HaveBlocks (length versions) (length blocks)
  pub each : (number : ℕ) (otherwise : VersionBlock) → number < length blocks
      → slice_index_or blocks number otherwise ≡ block_of (versions_in number versions)

-- no version of blocks came by a commit after this one, and none was ended
abbrev pub AreSeen : (commit : ℕ) → List VersionBlock → Type 0
AreSeen commit blocks = All (λ block. (block.begin ≤ commit) × (block.ended ≡ false)) blocks
