use Rattle.std.proofs.Common.{◌++◌, sym, subst, ap, ◌∙◌}
use Rattle.std.specs.Prelude.{IsUtf8}
use Rattle.star_lexer.specs.Written.{line_of}
use Rattle.star_parser.specs.Statement.{statement_of}
use Rattle.star_parser.specs.Parsed.{parsed_of}
use Rattle.star_parser.specs.Printed.{statement_symbols}
use Rattle.star_parser.proofs.ParsedLemmas.{if_ok_map, printed_parsed}
use Rattle.star_parser.proofs.printing.print.Goals as goal

pub returns-clause-text : goal.returns-clause-text
returns-clause-text c = λ formed.
    let written = c.as_slice.ensures.value ∙ c.in_ok-add_statement.ensures ∙ ap (λ z. z ++ statement_symbols (statement_of c.args.ast.now)) c.new-symbols.ensures.items in
    if_ok_map c.write_symbols.result
    (λ text is. subst IsUtf8 (sym (is ∙ ap line_of written)) (c.written_symbols_read_back.ensures.text (statement_symbols (statement_of c.args.ast.now)) formed.writable))
    c.write_symbols.ensures

pub returns-clause-reads_back : goal.returns-clause-reads_back
returns-clause-reads_back c = λ formed.
    let written = c.as_slice.ensures.value ∙ c.in_ok-add_statement.ensures ∙ ap (λ z. z ++ statement_symbols (statement_of c.args.ast.now)) c.new-symbols.ensures.items in
    if_ok_map c.write_symbols.result
    (λ text is. ap parsed_of (is ∙ ap line_of written)
    ∙ printed_parsed c.limits_are_tested.ensures c.written_symbols_read_back.ensures.symbols c.written_symbols_read_back.ensures.whole (statement_of c.args.ast.now) formed)
    c.write_symbols.ensures
