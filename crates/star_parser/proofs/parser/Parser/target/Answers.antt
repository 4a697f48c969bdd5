use Rattle.std.proofs.Common.{Some, None, ◌∙◌}
use Rattle.star_lexer.specs.declared.keyword.Keyword.TheVariants as key
use Rattle.star_parser.specs.Reader.{gives, is_word, name_at, ◌>>=◌}
use Rattle.star_parser.specs.Reading.{target_at}
use Rattle.star_parser.proofs.StepLemmas.{on_then, on_else, bind_ok}
use Rattle.star_parser.proofs.parser.Parser.target.Goals as goal

pub returns-in_ok-name : goal.returns-in_ok-name
unfolding target_at
returns-in_ok-name c =
    on_then (is_word key.References) (name_at >>= λ dimension. gives (Some dimension)) (gives None) c.args.self.now.rest.now c.skip_keyword.new.self.rest.now
    c.if-skip_keyword.ensures.skipped c.skip_keyword.ensures.rest
    ∙ bind_ok (λ dimension. gives (Some dimension)) c.in_ok-name.field-0 c.name.new.self.rest.now c.in_ok-name.ensures

pub returns-else-skip_keyword : goal.returns-else-skip_keyword
unfolding target_at
returns-else-skip_keyword c =
    on_else (is_word key.References) (name_at >>= λ dimension. gives (Some dimension)) (gives None) c.args.self.now.rest.now c.skip_keyword.new.self.rest.now
    c.if-skip_keyword.ensures.skipped c.skip_keyword.ensures.rest
