use Rattle.std.proofs.Common.{◌≤◌, length, subst, take}
use Rattle.core_parts.specs.LetGo.{AreDone}
use Rattle.core_parts.proofs.queries.forget_done.Goals as goal

pub forget-requires : goal.forget-requires
forget-requires c = subst (λ list. c.count_done-done.result ≤ length list) c.rest.ensures c.count_done-done.ensures.bound

pub returns : goal.returns
returns c = record {
  count = c.count_done-done.result;
  gone = c.forget.ensures.gone;
  rest = c.forget.ensures.rest;
  done = subst (λ list. AreDone c.args.manager.now (take c.count_done-done.result list)) c.rest.ensures c.count_done-done.ensures.done;
}
