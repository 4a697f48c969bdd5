use Rattle.std.proofs.Common.{map, sym, ◌∙◌}
use Rattle.star_values.specs.Value.{kind_of}
use Rattle.star_plan.proofs.TruthLemmas.{fits-is_Both, fits-is_Either}
use Rattle.star_plan.proofs.fitting.+fitting.Goals as goal

pub fits-returns-in-Both : goal.fits-returns-in-Both
fits-returns-in-Both t c =
    c.all_fit.ensures ∙ sym (fits-is_Both c.args.predicate.now c.in-Both.list c.as_slice.result.now (map kind_of c.args.row.now) c.in-Both.is c.as_slice.ensures)

pub fits-returns-in-Either : goal.fits-returns-in-Either
fits-returns-in-Either t c =
    c.all_fit-in-Either.ensures
    ∙ sym (fits-is_Either c.args.predicate.now c.in-Either.list c.as_slice-in-Either.result.now (map kind_of c.args.row.now) c.in-Either.is c.as_slice-in-Either.ensures)
