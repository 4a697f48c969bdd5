use Rattle.std.proofs.Common.{◌≡◌, ◌++◌, false, drop}
use Rattle.star_lexer.specs.Read.{content_from}
use Rattle.star_lexer.proofs.reading.scan_content.Given as goal

-- the text so far and the content of the rest are the content
abbrev pub invariant-bytes : goal.invariant-bytes
invariant-bytes l =
    l.text.items ++ content_from l.after_quote (drop l.byte-index l.quoted) ≡ content_from false l.quoted
