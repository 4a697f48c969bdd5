use Rattle.std.proofs.Common.{◌≡◌, ◌+◌, false, drop, option_map}
use Rattle.star_lexer.specs.Scan.{scan_len}
use Rattle.star_lexer.proofs.lexeme.scan_text.Given as goal

-- what was passed and the length of the text in the rest are the length of the text
abbrev pub invariant-bytes : goal.invariant-bytes
invariant-bytes l =
    (option_map (λ len. l.byte-index + len) (scan_len l.quoted (drop l.byte-index l.bytes)) ≡ scan_len false l.bytes)
    × (l.passed ≡ l.byte-index)
