use Rattle.std.proofs.Common.{◌∙◌, ap, not, refl, subst, sym, Some}
use Rattle.std.proofs.lemmas.List.{length-map}
use Rattle.star_plan.specs.declared.table.Table.TheVariants.{Fact, Dimension}
use Rattle.query_meaning.specs.Keyed.{plain}
use Rattle.star_store.specs.Done.{Commits}
use Rattle.star_store.specs.Loads.{loaded_records}
use Rattle.query_meaning.specs.KeptTables.{tables_of}
use Rattle.star_store.proofs.ChangeLemmas.{keyed_after, load_change-early, load_change-found, load_change-unknown, loaded_in}
use Rattle.csv_load.specs.Records.{records_in}
use Rattle.star_store.proofs.LoadLemmas.{over_every_table}
use Rattle.star_store.proofs.load.load.Goals as goal

pub returns-then-is_none-clause-commits : goal.returns-then-is_none-clause-commits
returns-then-is_none-clause-commits c = (
  load_change-early (plain (tables_of c.args.schema.now c.args.dims.now c.args.facts.now c.args.commits.now)) c.args.load.name.now c.args.load.header c.args.load.block.now
      (ap not c.if-is_none.ensures),
  refl,
)

pub returns-in_default-clause-commits : goal.returns-in_default-clause-commits
returns-in_default-clause-commits c = (
  load_change-unknown (plain (tables_of c.args.schema.now c.args.dims.now c.args.facts.now c.args.commits.now)) c.args.load.name.now c.args.load.header c.args.load.block.now
      (ap not c.if-is_none.ensures) (sym c.find_table.ensures ∙ c.in_default.is),
  refl,
)

pub returns-then-over-clause-commits : goal.returns-then-over-clause-commits
returns-then-over-clause-commits c =
    let old = plain (tables_of c.args.schema.now c.args.dims.now c.args.facts.now c.args.commits.now) in (
      load_change-found old c.args.load.name.now c.args.load.header c.args.load.block.now c.in-Some.table
          (ap not c.if-is_none.ensures) (sym c.find_table.ensures ∙ c.in-Some.is)
          ∙ over_every_table old c.in-Some.table (records_in c.args.load.header c.args.load.block.now) (c.in_ok-over.ensures c.if-over.true),
      refl,
    )

pub load_facts-requires-clause-rows : goal.load_facts-requires-clause-rows
load_facts-requires-clause-rows c = record {
  declared = c.requires.sound.0.declared;
  count = sym (length-map c.args.dims.now (λ dimension. dimension.items)) ∙ c.requires.sound.0.count;
  loaded = loaded_in (plain (tables_of c.args.schema.now c.args.dims.now c.args.facts.now c.args.commits.now)) c.requires.sound.0;
}

pub returns-in-Fact-clause-commits : goal.returns-in-Fact-clause-commits
returns-in-Fact-clause-commits c =
    let old = tables_of c.args.schema.now c.args.dims.now c.args.facts.now c.args.commits.now in
    let found = load_change-found (plain old) c.args.load.name.now c.args.load.header c.args.load.block.now Fact
    (ap not c.if-is_none.ensures) (sym c.find_table.ensures ∙ c.in-Some.is ∙ ap Some c.in-Fact.is) in
    subst (λ change. Commits change old (tables_of c.args.schema.now c.args.dims.now c.load_facts.new.facts c.load_facts.new.commits) c.load_facts.result)
    (sym found)
    (subst (λ records. Commits (loaded_records (plain old) Fact records) old
    (tables_of c.args.schema.now c.args.dims.now c.load_facts.new.facts c.load_facts.new.commits) c.load_facts.result)
    c.in_ok-read.ensures.records c.load_facts.ensures.commits)

pub returns-in-Dimension-clause-commits : goal.returns-in-Dimension-clause-commits
returns-in-Dimension-clause-commits c =
    let old = tables_of c.args.schema.now c.args.dims.now c.args.facts.now c.args.commits.now in
    let found = load_change-found (plain old) c.args.load.name.now c.args.load.header c.args.load.block.now (Dimension c.in-Dimension.number)
    (ap not c.if-is_none.ensures) (sym c.find_table.ensures ∙ c.in-Some.is ∙ ap Some c.in-Dimension.is) in
    subst (λ change. Commits change old (tables_of c.args.schema.now c.load_dimension.new.dims c.args.facts.now c.load_dimension.new.commits) c.load_dimension.result)
    (sym found)
    (subst (λ records. Commits (loaded_records (plain old) (Dimension c.in-Dimension.number) records) old
    (tables_of c.args.schema.now c.load_dimension.new.dims c.args.facts.now c.load_dimension.new.commits) c.load_dimension.result)
    c.in_ok-read.ensures.records (c.load_dimension.ensures.commits c.args.facts.now))

pub returns-in-Dimension-clause-keyed : goal.returns-in-Dimension-clause-keyed
returns-in-Dimension-clause-keyed c =
    keyed_after c.later_rows_move_no_key_number.ensures c.args.schema.now c.args.dims.now c.load_dimension.new.dims c.args.facts.now
    c.args.commits.now c.load_dimension.new.commits c.in-Dimension.number _ c.load_dimension.result
    (c.load_dimension.ensures.commits c.args.facts.now) c.load_dimension.ensures.grown c.requires.sound.1
