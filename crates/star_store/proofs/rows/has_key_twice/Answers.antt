use Rattle.std.proofs.Common.{Some, ap, map, ◌∙◌}
use Rattle.star_store.proofs.KeyTestLemmas.{repeats_by_keys}
use Rattle.star_store.proofs.rows.has_key_twice.Goals as goal

pub returns : goal.returns
returns c =
    c.sorts_to_repeat.ensures
    ∙ repeats_by_keys _ c.values_are_in_order.ensures.equal c.as_mut_slice.result.now c.args.rows.now
    (ap (map (λ key. Some key.now)) c.as_mut_slice.ensures.value ∙ c.in_ok-keys.ensures)
