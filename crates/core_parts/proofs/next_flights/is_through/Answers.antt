use Rattle.std.proofs.Common.{refl, sym, ◌∙◌}
use Rattle.std.proofs.lemmas.Bool.{false≢true}
use Rattle.core_parts.proofs.NextFlightLemmas.{held-not_through, through-empty, through-passed}
use Rattle.core_parts.proofs.next_flights.is_through.Goals as goal

pub returns-then-all_zero : goal.returns-then-all_zero
returns-then-all_zero c =
    let same = c.in-Some.ensures.batch in
    through-empty c.args.filters.now c.args.flight.now _ c.all_zero.result (c.in-Some.ensures.exactly.0 refl) (λ i. (same i).bits)
    (c.all_zero.ensures.0 c.if-all_zero.true) c.if-all_zero.true

pub returns-else-all_zero : goal.returns-else-all_zero
returns-else-all_zero c =
    let same = c.in-Some.ensures.batch in
    through-passed c.args.filters.now c.args.flight.now _ _ c.all_passed.result (c.in-Some.ensures.exactly.0 refl)
    (λ i. (same i).bits) (λ i. (same i).passed)
    (λ none. false≢true (sym c.if-all_zero.false ∙ c.all_zero.ensures.1 none)) c.all_passed.ensures

pub returns-in-None : goal.returns-in-None
returns-in-None c =
    held-not_through c.args.filters.now c.args.flight.now (λ free. false≢true (c.in-None.ensures.exactly.1 free))
