use Rattle.script_run.proofs.Words.{refl, state_of}
use Rattle.script_run.proofs.FrontNewLemmas.{new-counted, new-knows}
use Rattle.script_run.proofs.front.Front.new.Goals as goal

pub invariant_of-result : goal.invariant_of-result
invariant_of-result c = new-knows c.args.settings (state_of c.in_ok-core.core) c.requires c.in_ok-core.ensures.state

pub returns : goal.returns
returns c = record {
  empty = c.in_ok-core.ensures.state;
  counted = new-counted c.args.settings c.in_ok-core.core c.in_ok-core.ensures.state;
  none = refl;
}
