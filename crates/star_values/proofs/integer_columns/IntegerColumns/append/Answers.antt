use Rattle.std.proofs.Common.{◌∙◌, ◌∷◌, ◌++◌, [], ap, sym, subst, length}
use Rattle.star_values.specs.First.{AreIntegerColumns, HasInteger}
use Rattle.star_values.proofs.FirstLemmas.{integer_inside, kept_of_row, made_first, refill_twice}
use Rattle.star_values.proofs.integer_columns.IntegerColumns.append.Goals as goal

pub returns-clause-first : goal.returns-clause-first
returns-clause-first c = λ rows before first.
    let lent = c.as_mut_slice.ensures.members in
    let whole = refill_twice c.make_columns-made.new.columns c.append_to_columns-kept.new.columns c.as_mut_slice-2.result.now c.reserve_behind_first.new.columns
    (c.append_to_columns-kept.ensures.count ∙ ap length lent) c.as_mut_slice-2.ensures.members c.reserve_behind_first.ensures in
    subst (AreIntegerColumns (rows ++ c.args.row.now ∷ [])) (sym whole)
    (c.append_to_columns-kept.ensures.first rows before (subst (AreIntegerColumns rows) (sym lent)
    (made_first HasInteger rows c.self.inside.columns c.make_columns-made.new.columns c.make_columns-made.ensures.same (subst (AreIntegerColumns rows) (sym c.self.view_is) first))))

pub returns-clause-kept : goal.returns-clause-kept
returns-clause-kept c =
    let lent = c.as_mut_slice.ensures.members in
    let whole = refill_twice c.make_columns-made.new.columns c.append_to_columns-kept.new.columns c.as_mut_slice-2.result.now c.reserve_behind_first.new.columns
    (c.append_to_columns-kept.ensures.count ∙ ap length lent) c.as_mut_slice-2.ensures.members c.reserve_behind_first.ensures in
    kept_of_row HasInteger c.args.before c.len.result c.args.row.now c.args.self.now c.self.inside.columns c.make_columns-made.new.columns c.as_mut_slice.result.now
    c.append_to_columns-kept.new.columns _ c.make_columns-made.result c.append_to_columns-kept.result c.and.result (integer_inside c.args.row.now)
    c.and.ensures c.len.ensures c.self.view_is lent whole c.make_columns-made.ensures.same c.make_columns-made.ensures.made c.append_to_columns-kept.ensures.kept
