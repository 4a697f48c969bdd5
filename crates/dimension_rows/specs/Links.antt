-- Places that are found by their hash: from the newest place of a hash, link by link, to the
-- oldest.
use Rattle.std.specs.Prelude.{◌≡◌, ◌≢◌, ℕ, suc, ◌<◌, ◌≤◌, List, length, slice_index, slice_index_or, IfSome, Option, Some, None}

-- how many places there are up to a link, its own included
abbrev pub link_end : Option ℕ → ℕ
link_end None = 0
link_end (Some place) = suc place

-- of the first places, so many, the link leads to the last with this hash, or there
-- is none where none has it
pub record IsLast (hashes : List ℕ) (count hash : ℕ) (link : Option ℕ) : Type 0 where
  pub within : link_end link ≤ count
  pub there : IfSome link (λ place. slice_index hashes place ≡ hash)
  pub past : (place : ℕ) → link_end link ≤ place → place < count → slice_index hashes place ≢ hash

-- each place has a link to the last place before it that has the same hash
pub record AreLinked (hashes : List ℕ) (older : List (Option ℕ)) : Type 0 where
  pub count : length older ≡ length hashes
  pub each : (place : ℕ) → place < length hashes
      → IsLast hashes place (slice_index hashes place) (slice_index_or older place None)

-- each hash has a link to the last place of all that has it
abbrev pub AreNewest : List ℕ → (ℕ → Option ℕ) → Type 0
AreNewest hashes newest = (hash : ℕ) → IsLast hashes (length hashes) hash (newest hash)
