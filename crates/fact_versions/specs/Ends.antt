-- What becomes of the versions when a commit deletes one.
use Rattle.std.specs.Prelude.{ℕ, zero, suc, List, [], ◌∷◌}
use Rattle.fact_versions.specs.declared.version.Version.{Version}

-- the version with this end
abbrev pub ended_by : (commit : ℕ) → Version → Version
ended_by commit version = record version { end = commit }

-- the versions with this end written into the one at a position, from 0
abbrev pub with_end : List Version → (position commit : ℕ) → List Version
with_end [] position commit = []
with_end (version ∷ versions) zero commit = ended_by commit version ∷ versions
with_end (version ∷ versions) (suc position) commit = version ∷ with_end versions position commit
