use Rattle.std.proofs.Common.{rules, tests}
use Rattle.std.proofs.lemmas.Iterator.Search.{any_from_yields_List}
use Rattle.std.proofs.lemmas.Iterator.Splits.{YieldsList-from_slice_split}
use Rattle.star_cases.specs.Judge.{is_refusal}
use Rattle.star_cases.proofs.judge.has_refusal.Goals as goal

-- the lines are those of the cut at line feeds, and a line is tested as the definition says
pub returns : goal.returns
returns c =
    any_from_yields_List is_refusal _ _ c.any.result c.any.ensures.ran
    (YieldsList-from_slice_split _ _ c.args.replies.now c.split.ensures.rest c.split.ensures.done
    c.split.ensures.closure (λ x b q k. search (rules, tests)))
    (λ x b q k. search rules)
