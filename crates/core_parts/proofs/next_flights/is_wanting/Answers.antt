use Rattle.std.proofs.Common.{refl, ap, sym, ◌∙◌}
use Rattle.std.specs.Prelude.{not}
use Rattle.std.proofs.lemmas.Bool.{false≢true}
use Rattle.core_parts.specs.Filters.{next_of}
use Rattle.core_parts.proofs.NextFlightLemmas.{unwanted-empty, unwanted-held, wanted}
use Rattle.core_parts.proofs.next_flights.is_wanting.Goals as goal

pub returns-then-not-all_zero : goal.returns-then-not-all_zero
returns-then-not-all_zero c =
    let same = c.in-Some.ensures.batch in
    wanted c.args.filters.now c.args.flight.now _ _ c.next.result c.is_some.result (c.in-Some.ensures.exactly.0 refl)
    (λ i. (same i).bits) (λ none. false≢true (sym c.if-not-all_zero.true ∙ c.all_zero.ensures.1 none))
    (c.next.ensures ∙ ap (next_of c.args.filters.now) same) c.is_some.ensures

pub returns-else-not-all_zero : goal.returns-else-not-all_zero
returns-else-not-all_zero c =
    let same = c.in-Some.ensures.batch in
    unwanted-empty c.args.filters.now c.args.flight.now _ _ (ap not c.if-not-all_zero.false) (λ i. (same i).bits)
    (c.all_zero.ensures.0 c.if-not-all_zero.false)

pub returns-in-None : goal.returns-in-None
returns-in-None c =
    unwanted-held c.args.filters.now c.args.flight.now (λ free. false≢true (c.in-None.ensures.exactly.1 free))
