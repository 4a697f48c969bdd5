use Rattle.std.proofs.Common.{ap, find, option_map, ◌∙◌}
use Rattle.pipeline_manager.specs.declared.life.QueryLife.{QueryLife}
use Rattle.pipeline_manager.specs.Lives.{is_waiting}
use Rattle.pipeline_manager.proofs.GoneLemmas.{waiting-behind}
use Rattle.pipeline_manager.proofs.query_lives.QueryLives.oldest_waiting.Goals as goal

pub returns : goal.returns
returns c =
    let numbered = option_map (λ (entry : QueryLife). entry.query) in
    let first = find (λ (entry : QueryLife). is_waiting entry.life) in
    c.oldest_waiting.ensures
    ∙ ap (λ list. numbered (first list)) c.as_slice.ensures
    ∙ ap numbered (waiting-behind c.self.inside.gone.queries c.self.inside.rest c.self.invariant.over)
    ∙ ap (λ list. numbered (first list)) c.self.view_is
