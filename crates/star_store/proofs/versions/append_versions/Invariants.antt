use Rattle.std.proofs.Common.{◌≡◌, ◌≤◌, ◌++◌, length}
use Rattle.std.specs.Vec.Iter.{into_iter_items}
use Rattle.star_store.proofs.versions.append_versions.Given as goal

-- what was appended and what is left are all, and there is room for what is left
abbrev pub invariant-versions : goal.invariant-versions
invariant-versions l =
    (l.facts.items ++ into_iter_items l.version-iterator ≡ l.fn.facts.items ++ l.fn.versions.items)
    × (length (into_iter_items l.version-iterator) ≤ l.facts.room)
