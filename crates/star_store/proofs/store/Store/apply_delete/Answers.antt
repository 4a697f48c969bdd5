use Rattle.std.proofs.Common.{subst}
use Rattle.std.specs.Prelude.{option_map}
use Rattle.star_plan.specs.Test.{test_of}
use Rattle.query_meaning.specs.Keyed.{plain}
use Rattle.star_store.specs.Deletes.{delete_change}
use Rattle.star_store.specs.Done.{Commits}
use Rattle.query_meaning.specs.KeptTables.{rows_of_all, tables_of}
use Rattle.star_store.proofs.SoundLemmas.{settled_by, versions_fit}
use Rattle.star_store.proofs.store.Store.apply_delete.Goals as goal

pub delete-requires-clause-fit : goal.delete-requires-clause-fit
delete-requires-clause-fit c = versions_fit c.self.inside.schema.fact c.self.inside.facts.items c.self.invariant.0.versions.fit

pub invariant_of-self : goal.invariant_of-self
invariant_of-self c =
    let old = tables_of c.self.inside.schema c.self.inside.dims c.self.inside.facts c.self.inside.commits in
    let condition = option_map (λ p. test_of p.now) c.args.predicate in (
      settled_by c.accepted_histories_are_settled.ensures.next (delete_change (plain old) condition) old
          (tables_of c.self.inside.schema c.self.inside.dims c.delete.new.facts c.delete.new.commits) c.delete.result
          (λ change found. c.changes_of_statements_are_taken.ensures.delete (plain old) condition change found)
          c.self.invariant.0 (c.delete.ensures.commits c.self.inside.dims),
      c.delete.ensures.keyed (rows_of_all c.self.inside.dims) c.self.invariant.1,
    )

pub returns-clause-commits : goal.returns-clause-commits
returns-clause-commits c =
    let condition = option_map (λ p. test_of p.now) c.args.predicate in
    subst (λ old. Commits (delete_change (plain old) condition) old (tables_of c.self.inside.schema c.self.inside.dims c.delete.new.facts c.delete.new.commits) c.delete.result)
    c.self.view_is (c.delete.ensures.commits c.self.inside.dims)
