use Rattle.std.proofs.Common.{option_map, ap, subst, ◌∙◌}
use Rattle.star_parser.specs.Statement.{statement_of}
use Rattle.star_plan.specs.Test.{test_of}
use Rattle.query_meaning.specs.Keyed.{plain}
use Rattle.star_store.specs.Deletes.{delete_change}
use Rattle.star_store.specs.Done.{Commits}
use Rattle.star_store.proofs.ApplyLemmas.{delete_bound, delete_kind, follows_committed, tests_lent}
use Rattle.star_store.specs.declared.applied.ChangeKind.TheVariants.{Ends}
use Rattle.star_store.proofs.applying.delete.Goals as goal

pub returns-in-Ok : goal.returns-in-Ok
returns-in-Ok c = λ block.
    let store = c.args.store.now in
    let binds = rw c.schema-2.ensures.schema at c.in-Ok.ensures.binds in
    let there = rw c.schema.ensures.schema at c.if-is_none.ensures in
    let same = tests_lent c.as_ref.result ∙ ap (option_map test_of) c.as_ref.ensures.value in
    let commits = subst (λ condition. Commits (delete_change (plain store) condition) store c.apply_delete.new.self c.apply_delete.result) same
    c.apply_delete.ensures.commits in
    let is = delete_bound (plain store) block (statement_of c.args.ast.now) c.in-Ok.condition c.requires there binds in
    rw is (follows_committed Ends store c.apply_delete.new.self (delete_change (plain store) (option_map test_of c.in-Ok.condition)) c.apply_delete.result
    c.committed.result (delete_kind (plain store) (option_map test_of c.in-Ok.condition)) commits c.committed.ensures)
