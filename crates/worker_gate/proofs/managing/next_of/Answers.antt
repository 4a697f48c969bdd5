-- The event is of the first kind of which one may come.
use Rattle.std.proofs.Common.{refl}
use Rattle.std.proofs.lemmas.Option.{slice_get-get_or}
use Rattle.event_core.specs.Chosen.{NoneMayCome}
use Rattle.event_core.specs.Seen.{state_of}
use Rattle.event_core.proofs.ChoosingLemmas.{none-more}
use Rattle.worker_gate.proofs.ManagedLemmas.{all-before}
use Rattle.worker_gate.proofs.managing.next_of.Goals as goal

pub returns-in-Some-clause-first : goal.returns-in-Some-clause-first
returns-in-Some-clause-first c = record {
  place = c.loop-kind.kind-index;
  stands = slice_get-get_or c.args.kinds.now c.loop-kind.kind-index _ c.loop-kind-test.true;
  is_of = c.in-Some.ensures.kind;
  enabled = c.in-Some.ensures.enabled;
  none_before = all-before (λ each. NoneMayCome each (state_of c.args.core.now)) c.args.kinds.now c.loop-kind.kind-index c.loop-kind.invariant;
}

pub loop-kind-preserved : goal.loop-kind-preserved
loop-kind-preserved c =
    none-more c.args.kinds.now (state_of c.args.core.now) c.loop-kind.kind-index _ c.requires c.loop-kind-test.true
    c.loop-kind.invariant (c.in_default.ensures.none refl)
