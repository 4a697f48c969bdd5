use Rattle.event_core.proofs.Words.{◌∙◌, ap, Lives, with_filters_for}
use Rattle.event_core.proofs.EventsSubmitLemmas.{filters-first}
use Rattle.event_core.proofs.statements.log_change.Goals as goal

pub returns-in-DeclaresFact-clause-queries : goal.returns-in-DeclaresFact-clause-queries
returns-in-DeclaresFact-clause-queries c = ap (λ (lives : Lives). lives.queries) c.set_filters.ensures

pub returns-in-DeclaresFact-clause-parts : goal.returns-in-DeclaresFact-clause-parts
returns-in-DeclaresFact-clause-parts c = λ parts schema lives filters version.
    ap (λ kind. with_filters_for kind parts) c.in-DeclaresFact.is
    ∙ filters-first parts c.args.schema.now c.args.manager.now c.set_filters.new.self c.referenced.result c.dimensions.result c.count.result
    schema lives c.referenced.ensures c.dimensions.ensures c.set_filters.ensures c.count.ensures
