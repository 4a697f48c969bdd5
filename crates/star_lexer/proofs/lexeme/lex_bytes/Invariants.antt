use Rattle.std.proofs.Common.{◌≡◌, ◌+◌, length}
use Rattle.star_lexer.specs.Line.{lexed, lexed_in}
use Rattle.star_lexer.specs.Next.{put_all}
use Rattle.star_lexer.proofs.SpacedLemmas.{SpacesOn}
use Rattle.star_lexer.proofs.lexeme.lex_bytes.Given as goal

-- the tokens so far, in front of those of the rest, are those of the line
abbrev pub invariant-tokens : goal.invariant-tokens
invariant-tokens l = (put_all l.tokens.items (lexed_in l.place 0 l.rest) ≡ lexed l.line) × (l.place + length l.rest ≡ length l.line)
    × SpacesOn l.line l.tokens.items l.place l.rest

abbrev pub decreases-tokens : goal.decreases-tokens
decreases-tokens l = length l.rest
