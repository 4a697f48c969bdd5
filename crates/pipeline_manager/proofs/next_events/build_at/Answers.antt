use Rattle.std.proofs.Common.{ap, refl, subst, sym, ◌∙◌}
use Rattle.std.proofs.lemmas.Bool.{false≢true}
use Rattle.bit_words.specs.Sets.{Has}
use Rattle.pipeline_manager.specs.Lives.{built_of, life_of}
use Rattle.pipeline_manager.proofs.next_events.build_at.Goals as goal

pub returns-in_err-holder-clause-none : goal.returns-in_err-holder-clause-none
returns-in_err-holder-clause-none c = λ none query dimension first can. c.in_err-holder.ensures.only query first

pub returns-in_err-dimension-clause-none : goal.returns-in_err-dimension-clause-none
returns-in_err-dimension-clause-none c = λ none query dimension first can.
    let lives = c.args.manager.now in
    let all = c.in_err-dimension.ensures.none refl dimension (subst (λ set. Has set dimension) (sym c.filters.ensures) can.filters) in
    let built = subst (λ set. Has set dimension) (sym c.in_ok-holder.ensures.some) all in
    can.not_built (subst (λ own. Has (built_of lives own) dimension) (c.in_ok-holder.ensures.only query first) built)

pub returns-then-not-is_building-clause-none : goal.returns-then-not-is_building-clause-none
returns-then-not-is_building-clause-none c = λ none query dimension first can.
    let same = c.in_ok-holder.ensures.only query first in
    false≢true (c.if-not-is_building.ensures.1 (ap (life_of c.args.manager.now) same ∙ can.building))
