use Rattle.star_store.proofs.TextLemmas.{refused_not_utf8, refused_limit, refused_syntax, means}
use Rattle.star_store.proofs.laws_of_statements.texts_are_refused_for_the_first_reason.Goals as goal

pub returns-clause-utf8 : goal.returns-clause-utf8
returns-clause-utf8 c = refused_not_utf8

pub returns-clause-limit : goal.returns-clause-limit
returns-clause-limit c = λ statement.
    let says = c.lines_are_what_the_grammar_says.ensures in
    refused_limit statement (record { over = says.over statement.line; means = says.means statement.line; stopped = says.stopped statement.line })

pub returns-clause-syntax : goal.returns-clause-syntax
returns-clause-syntax c = λ statement.
    let says = c.lines_are_what_the_grammar_says.ensures in
    refused_syntax statement (record { over = says.over statement.line; means = says.means statement.line; stopped = says.stopped statement.line })

pub returns-clause-passed : goal.returns-clause-passed
returns-clause-passed c = λ statement.
    let says = c.lines_are_what_the_grammar_says.ensures in
    means statement (record { over = says.over statement.line; means = says.means statement.line; stopped = says.stopped statement.line })
