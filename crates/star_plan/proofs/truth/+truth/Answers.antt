use Rattle.std.proofs.Common.{rules, map, sym, ◌∙◌}
use Rattle.star_values.specs.Value.{kind_of}
use Rattle.star_plan.specs.declared.predicate.Predicate.TheViews.{the_lemmas}
use Rattle.star_plan.proofs.TruthLemmas.{fits-is_Both, fits-is_Either, holds-is_Both, holds-is_Either}
use Rattle.star_plan.proofs.truth.+truth.Goals as goal

pub holds-all_hold-requires : goal.holds-all_hold-requires
holds-all_hold-requires t c = (
  search (rules, the_lemmas),
  sym (fits-is_Both c.args.predicate.now c.in-Both.list c.as_slice.result.now (map kind_of c.args.row.now) c.in-Both.is c.as_slice.ensures) ∙ c.requires,
)

pub holds-some_holds-requires : goal.holds-some_holds-requires
holds-some_holds-requires t c = (
  search (rules, the_lemmas),
  sym (fits-is_Either c.args.predicate.now c.in-Either.list c.as_slice-in-Either.result.now (map kind_of c.args.row.now) c.in-Either.is c.as_slice-in-Either.ensures) ∙ c.requires,
)

pub holds-returns-in-Both : goal.holds-returns-in-Both
holds-returns-in-Both t c =
    c.all_hold.ensures ∙ sym (holds-is_Both c.args.predicate.now c.in-Both.list c.as_slice.result.now c.args.row.now c.in-Both.is c.as_slice.ensures)

pub holds-returns-in-Either : goal.holds-returns-in-Either
holds-returns-in-Either t c =
    c.some_holds.ensures
    ∙ sym (holds-is_Either c.args.predicate.now c.in-Either.list c.as_slice-in-Either.result.now c.args.row.now c.in-Either.is c.as_slice-in-Either.ensures)
