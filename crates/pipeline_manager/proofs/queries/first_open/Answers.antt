use Rattle.std.proofs.Common.{sym, subst, ◌∙◌, arith, length}
use Rattle.std.specs.List.{All}
use Rattle.std.proofs.lemmas.List.{take_all}
use Rattle.std.proofs.lemmas.List.Elements.{All-more}
use Rattle.pipeline_manager.specs.LetGo.{IsClosed}
use Rattle.pipeline_manager.proofs.queries.first_open.Goals as goal

pub loop-place-preserved : goal.loop-place-preserved
loop-place-preserved c = record {
  in_range = omega arith;
  over = All-more IsClosed c.args.queries.now c.loop-place.place _ (omega arith)
      c.loop-place.invariant.over (sym c.is_open.ensures ∙ c.if-is_open.false);
}

pub returns : goal.returns
returns c = record {
  in_range = omega arith;
  over = subst (All IsClosed)
      (take_all c.loop-place.place c.args.queries.now (omega arith) ∙ sym (take_all (length c.args.queries.now) c.args.queries.now (omega arith)))
      c.loop-place.invariant.over;
}
