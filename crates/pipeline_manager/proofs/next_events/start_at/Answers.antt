use Rattle.std.proofs.Common.{ap, subst, sym, ◌∙◌}
use Rattle.std.proofs.lemmas.Bool.{false≢true}
use Rattle.bit_words.specs.Sets.{Has}
use Rattle.pipeline_manager.specs.Lives.{built_of, life_of}
use Rattle.pipeline_manager.proofs.next_events.start_at.Goals as goal

pub returns-in_err-holder-clause-none : goal.returns-in_err-holder-clause-none
returns-in_err-holder-clause-none c = λ none query first can. c.in_err-holder.ensures.only query first

pub returns-then-not-is_within-clause-none : goal.returns-then-not-is_within-clause-none
returns-then-not-is_within-clause-none c = λ none query first can.
    let lives = c.args.manager.now in
    let same = c.in_ok-holder.ensures.only query first in
    false≢true (c.if-not-is_within.ensures.1 (λ dimension its.
    subst (λ set. Has set dimension) c.in_ok-holder.ensures.some
    (subst (λ own. Has (built_of lives own) dimension) (sym same)
    (can.all_built dimension (subst (λ set. Has set dimension) c.filters.ensures its)))))

pub returns-then-not-is_building-clause-none : goal.returns-then-not-is_building-clause-none
returns-then-not-is_building-clause-none c = λ none query first can.
    let same = c.in_ok-holder.ensures.only query first in
    false≢true (c.if-not-is_building.ensures.1 (ap (life_of c.args.manager.now) same ∙ can.building))
