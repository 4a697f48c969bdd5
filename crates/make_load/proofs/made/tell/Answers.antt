use Rattle.std.proofs.Common.{◌∙◌, subst}
use Rattle.std.specs.Prelude.{IfOk}
use Rattle.make_load.specs.Made.{IsSummed}
use Rattle.make_load.proofs.made.tell.Goals as goal

pub sum_up-summed-requires-clause-text : goal.sum_up-summed-requires-clause-text
sum_up-summed-requires-clause-text g c = λ refused is. let text = c.requires.text refused is in (text.0, c.bytes.ensures ∙ text.1)

pub returns-clause-tells : goal.returns-clause-tells
returns-clause-tells g c = record {
  summed = c.sum_up-summed.result;
  is = subst
      (λ replies. IfOk c.sum_up-summed.result (IsSummed c.args.ran.end c.args.script.now replies)) c.bytes.ensures c.sum_up-summed.ensures;
  writes = c.write_line-end.ensures.writes;
  hands = c.core_behind.ensures;
}
