use Rattle.std.proofs.Common.{Some, None, ◌∙◌}
use Rattle.star_lexer.specs.declared.sign.Sign.TheVariants as mark
use Rattle.star_parser.specs.Reader.{gives, is_sign, name_at, ◌>>=◌}
use Rattle.star_parser.proofs.StepLemmas.{on_then, on_else, bind_ok}
use Rattle.star_parser.proofs.parser.Parser.dotted.Goals as goal

pub returns-in_ok-name : goal.returns-in_ok-name
returns-in_ok-name c =
    on_then (is_sign mark.Dot) (name_at >>= λ second. gives (Some second)) (gives None) c.args.self.now.rest.now c.skip_sign.new.self.rest.now
    c.if-skip_sign.ensures.skipped c.skip_sign.ensures.rest
    ∙ bind_ok (λ second. gives (Some second)) c.in_ok-name.field-0 c.name.new.self.rest.now c.in_ok-name.ensures

pub returns-else-skip_sign : goal.returns-else-skip_sign
returns-else-skip_sign c =
    on_else (is_sign mark.Dot) (name_at >>= λ second. gives (Some second)) (gives None) c.args.self.now.rest.now c.skip_sign.new.self.rest.now
    c.if-skip_sign.ensures.skipped c.skip_sign.ensures.rest
