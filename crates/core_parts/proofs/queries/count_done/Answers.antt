use Rattle.std.proofs.Common.{◌∙◌, arith, subst, sym}
use Rattle.std.proofs.Math.Seq.{take-length}
use Rattle.std.proofs.lemmas.List.{take_all}
use Rattle.std.proofs.lemmas.List.Elements.{All-more}
use Rattle.core_parts.specs.LetGo.{AreDone, IsDone}
use Rattle.core_parts.proofs.queries.count_done.Goals as goal

pub loop-place-preserved : goal.loop-place-preserved
loop-place-preserved c =
    All-more (IsDone c.args.manager.now) c.args.asked.now c.loop-place.place c.index-asked-place.result (omega arith) c.loop-place.invariant
    (subst (IsDone c.args.manager.now) c.index-asked-place.is (c.is_done.ensures c.if-not-is_done.false))

pub returns-clause-done : goal.returns-clause-done
returns-clause-done c =
    subst (AreDone c.args.manager.now) (take_all c.loop-place.place c.args.asked.now (omega arith) ∙ sym (take-length c.args.asked.now))
    c.loop-place.invariant
