use Rattle.std.proofs.Common.{◌≡◌, ◌∷◌, ◌++◌, drop}
use Rattle.std.specs.Prelude.{flat_map}
use Rattle.star_values.specs.Value.{quoted_byte}
use Rattle.star_values.proofs.cell.quote.Given as goal

-- what is written, and what is still to be written, are the quote and all bytes
abbrev pub invariant-loop-byte : goal.invariant-loop-byte
invariant-loop-byte l =
    l.cell.items ++ flat_map quoted_byte (drop l.byte-index l.text) ≡ 39 ∷ flat_map quoted_byte l.text
