use Rattle.std.proofs.Common.{ap, map, not, subst, sym}
use Rattle.std.specs.Prelude.{All, option_map}
use Rattle.star_plan.specs.Test.{test_of}
use Rattle.query_meaning.specs.Keyed.{HasKeyNumbers, plain_version}
use Rattle.star_store.specs.Deletes.{positions_of}
use Rattle.star_store.proofs.ChangeLemmas.{committed_ends, keyed_ended}
use Rattle.star_store.proofs.delete.delete.Goals as goal

pub returns-clause-commits : goal.returns-clause-commits
returns-clause-commits c = λ dims.
    committed_ends c.args.schema.now dims c.args.facts.now c.end_versions-rows.new.facts c.args.commits.now c.in-Some.commit c.end_versions-rows.result
    (option_map (λ p. test_of p.now) c.args.condition) (ap not c.if-is_none.ensures)
    c.end_versions-rows.ensures.versions c.in-Some.ensures.1 c.end_versions-rows.ensures.count

pub returns-clause-keyed : goal.returns-clause-keyed
returns-clause-keyed c = λ dimensions keyed.
    subst (All (HasKeyNumbers c.args.schema.now dimensions)) (sym c.end_versions-rows.ensures.versions)
    (keyed_ended c.args.schema.now dimensions c.in-Some.commit c.args.facts.now.items
    (positions_of (option_map (λ p. test_of p.now) c.args.condition) (map plain_version c.args.facts.now.items)) keyed)
