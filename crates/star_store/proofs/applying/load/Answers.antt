use Rattle.std.proofs.Common.{ap, not, refl, subst, sym, ◌∙◌, ◌≡◌}
use Rattle.star_values.specs.declared.refusal.Refusal.TheVariants.{OutOfOrder, UnknownName}
use Rattle.query_meaning.specs.Keyed.{plain}
use Rattle.script_reader.specs.declared.statement.Statement.{Statement}
use Rattle.star_store.specs.Done.{Commits}
use Rattle.star_store.specs.Loads.{load_change}
use Rattle.star_store.proofs.ChangeLemmas.{load_change-early, load_change-unknown}
use Rattle.star_store.specs.Outcome.{block_bytes}
use Rattle.star_store.specs.declared.applied.ChangeKind.TheVariants.{Loads}
use Rattle.star_store.proofs.ApplyLemmas.{follows_committed, follows_reason}
use Rattle.star_store.proofs.LoadKindLemmas.{load_kind}
use Rattle.star_store.proofs.applying.load.Goals as goal

pub find_table-requires : goal.find_table-requires
find_table-requires c = rw c.schema-2.ensures.schema c.schema-2.ensures.settled.declared.limits

pub returns-then-is_none-clause-follows : goal.returns-then-is_none-clause-follows
returns-then-is_none-clause-follows c =
    let store = c.args.store.now in
    let none = ap not (rw c.schema.ensures.schema at c.if-is_none.ensures) in
    rw c.refused.ensures (follows_reason store store _ OutOfOrder (load_change-early (plain store) c.args.name.now c.args.header (block_bytes c.args.statement.now.block) none) refl)

pub returns-in_default-clause-follows : goal.returns-in_default-clause-follows
returns-in_default-clause-follows c =
    let store = c.args.store.now in
    let declared = ap not (rw c.schema.ensures.schema at c.if-is_none.ensures) in
    let unknown = rw c.schema-2.ensures.schema at (sym c.find_table.ensures ∙ c.in_default.is) in
    rw c.refused-in_default.ensures (follows_reason store store _ UnknownName
    (load_change-unknown (plain store) c.args.name.now c.args.header (block_bytes c.args.statement.now.block) declared unknown) refl)

pub returns-clause-follows : goal.returns-clause-follows
returns-clause-follows c =
    let store = c.args.store.now in
    let declared = ap not (rw c.schema.ensures.schema at c.if-is_none.ensures) in
    let named = rw c.schema-2.ensures.schema at (sym c.find_table.ensures ∙ c.in-Some.is) in
    let block : c.block_bytes-block.result.now ≡ block_bytes c.args.statement.now.block =
    c.block_bytes-block.ensures ∙ ap (λ (statement : Statement). block_bytes statement.block) c.statement.ensures in
    let commits = subst (λ bytes. Commits (load_change (plain store) c.args.name.now c.args.header bytes) store c.apply_load-done.new.self
    c.apply_load-done.result) block c.apply_load-done.ensures.commits in
    follows_committed (Loads c.in-Some.table) store c.apply_load-done.new.self (load_change (plain store) c.args.name.now c.args.header (block_bytes c.args.statement.now.block))
    c.apply_load-done.result c.committed.result
    (load_kind (plain store) c.args.name.now c.args.header (block_bytes c.args.statement.now.block) c.in-Some.table declared named) commits c.committed.ensures
