-- What was put into a list that has no bytes.
use Rattle.std.specs.Prelude.{List, [], ◌∷◌, ◌++◌}
use Rattle.star_values.specs.declared.trail.Past.{Past}
use Rattle.star_values.specs.declared.trail.Past.TheVariants.{Nothing, After}

-- the entries, in order
abbrev pub entries_of : {T : Type 0} → Past T → List T
entries_of Nothing = []
entries_of (After before entry) = before ++ entry ∷ []
