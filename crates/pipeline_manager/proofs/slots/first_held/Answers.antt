use Rattle.std.proofs.Common.{ap, ◌∙◌, position}
use Rattle.pipeline_manager.specs.Lives.{is_held_by}
use Rattle.pipeline_manager.proofs.UsedLemmas.{position-used}
use Rattle.pipeline_manager.proofs.slots.first_held.Goals as goal

pub returns-clause-first : goal.returns-clause-first
returns-clause-first c =
    c.place_held.ensures.first ∙ ap (position (is_held_by c.args.query)) c.in_front.ensures
    ∙ position-used c.args.query c.args.used c.args.slots.now c.requires
