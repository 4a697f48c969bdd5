-- The length of a text as it is found byte by byte. The clause of a private function cites it.
use Rattle.std.specs.Prelude.{ℕ, ◌+◌, Bool, not, ◌&&◌, ◌==◌, nat_lt, List, [], ◌∷◌, Option, Some, None, option_map, if◌then◌else◌}

-- how many bytes there are up to the quote that ends a text, where the byte in front
-- may be that quote or not
abbrev pub scan_len : Bool → List ℕ → Option ℕ
scan_len quoted [] = if quoted then Some 0 else None
scan_len quoted (byte ∷ bytes) =
    if quoted && not (byte == 39) then Some 0
    else (if not quoted && nat_lt byte 32 then None
    else option_map (λ len. 1 + len) (scan_len (not quoted && byte == 39) bytes))
