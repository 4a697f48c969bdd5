-- A Distribute is counted, and where the count comes round the filters are ordered.
use Rattle.std.proofs.Common.{subst, sym, ◌∙◌}
use Rattle.std.specs.Prelude.{IsSome}
use Rattle.core_state.specs.State.{State}
use Rattle.core_state.specs.Tables.{tables_of}
use Rattle.core_state.specs.declared.event.Event.TheVariants.{Reorder}
use Rattle.event_core.specs.Seen.{state_of}
use Rattle.event_core.specs.Took.{Took}
use Rattle.worker_gate.proofs.LeftLemmas.{loans-then}
use Rattle.worker_gate.proofs.ManagedLemmas.{counted-up, loans-counted, marks-stay, orders-more, orders-zero, state-counted}
use Rattle.worker_gate.proofs.managing.count_distribute.Goals as goal

pub make-requires : goal.make-requires
make-requires c = record {
  enabled = subst (λ (state : State). IsSome (tables_of state).schema.fact)
      (sym (state-counted c.count_up.result c.args.core.now c.count_up.new.self c.count_up.ensures.marks)) c.requires;
  memory = λ wants. wants;
  home = tt;
}

pub returns-then-count_up-ne0-clause-counted : goal.returns-then-count_up-ne0-clause-counted
returns-then-count_up-ne0-clause-counted c =
    counted-up c.count_up.result c.args.core.now c.count_up.new.self c.count_up.ensures.count c.count_up.ensures.marks

pub returns-then-count_up-ne0-clause-orders : goal.returns-then-count_up-ne0-clause-orders
returns-then-count_up-ne0-clause-orders c =
    orders-more c.args.core.now.marks c.count_up.result (state_of c.args.core.now) (state_of c.count_up.new.self) c.count_up.ensures.count
    c.if-count_up-ne0.true (state-counted c.count_up.result c.args.core.now c.count_up.new.self c.count_up.ensures.marks)

pub returns-clause-counted : goal.returns-clause-counted
returns-clause-counted c =
    marks-stay c.count_up.new.self c.make.new.core c.make.ensures.beside
    ∙ counted-up c.count_up.result c.args.core.now c.count_up.new.self c.count_up.ensures.count c.count_up.ensures.marks

pub returns-clause-orders : goal.returns-clause-orders
returns-clause-orders c =
    orders-zero c.args.core.now.marks c.count_up.result (state_of c.args.core.now) (state_of c.make.new.core) c.count_up.ensures.count
    c.if-count_up-ne0.false
    (subst (λ (state : State). Took Reorder state (state_of c.make.new.core))
    (state-counted c.count_up.result c.args.core.now c.count_up.new.self c.count_up.ensures.marks) c.make.ensures.took)

pub returns-then-count_up-ne0-clause-loans : goal.returns-then-count_up-ne0-clause-loans
returns-then-count_up-ne0-clause-loans c =
    loans-counted c.count_up.result c.args.core.now c.count_up.new.self c.count_up.ensures.marks

pub returns-clause-loans : goal.returns-clause-loans
returns-clause-loans c =
    loans-then c.args.core.now c.count_up.new.self c.make.new.core
    (loans-counted c.count_up.result c.args.core.now c.count_up.new.self c.count_up.ensures.marks) c.make.ensures.loans
