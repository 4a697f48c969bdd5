-- Which records stand in a block.
use Rattle.std.specs.Prelude.{ℕ, Bool, List, [], ◌∷◌, drop, if◌then◌else◌}
use Rattle.csv.specs.Reading.{default_config, is_bom, records}

-- the block without the byte order marks at its front, as often as they stand there
unfoldable pub without_marks : List ℕ → List ℕ
without_marks [] = []
without_marks (a ∷ []) = a ∷ []
without_marks (a ∷ b ∷ []) = a ∷ b ∷ []
without_marks (a ∷ b ∷ c ∷ rest) = if is_bom a b c then without_marks rest else a ∷ b ∷ c ∷ rest

-- the records of bytes, each a list of fields, as csv reads them with its defaults
abbrev pub records_of : List ℕ → List (List (List ℕ))
records_of bytes = records default_config bytes

-- the records of a block, without the first where that is a header
abbrev pub records_in : (header : Bool) → List ℕ → List (List (List ℕ))
records_in header block =
    let all = records_of (without_marks block) in
    if header then drop 1 all else all
