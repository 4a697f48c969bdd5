use Rattle.std.proofs.Common.{eqb, ap, sym, ◌∙◌, arith, slice_get}
use Rattle.std.specs.Option.{option_and_then}
use Rattle.std.proofs.lemmas.List.{get_or_default}
use Rattle.core_parts.specs.Asked.{AskedEntry}
use Rattle.star_values.proofs.PlaceLemmas.{get-position}
use Rattle.star_values.proofs.RisingLemmas.{missing_past, position-found, position-missing}
use Rattle.core_parts.proofs.AskedLemmas.{number_of, rising-entries}
use Rattle.core_parts.proofs.queries.place_of.Goals as goal
use Rattle.core_parts.proofs.queries.place_of.Goals.{else-place-asked-via-then-place-asked+else-number, else-place-asked-via-else-place-asked}

pub returns-then-number-clause-place : goal.returns-then-number-clause-place
returns-then-number-clause-place c =
    sym (position-found number_of c.args.asked.now c.first_from-place.result c.args.number c.index-asked-place.result
    c.first_from-place.ensures.halves (omega arith)
    (ap number_of (sym c.index-asked-place.is) ∙ sym c.number.ensures ∙ c.if-number.true))

pub returns-then-number-clause-there : goal.returns-then-number-clause-there
returns-then-number-clause-there c =
    ap (option_and_then (slice_get c.args.asked.now)) (returns-then-number-clause-place c)
    ∙ get-position (λ (entry : AskedEntry). eqb entry.asked.number c.args.number) c.args.asked.now

pub returns-else-place-asked-clause-place : goal.returns-else-place-asked-clause-place
returns-else-place-asked-clause-place c =
    sym (position-missing number_of c.args.asked.now c.args.number
    (missing_past number_of c.args.asked.now c.first_from-place.result c.args.number (rising-entries c.args.asked.now c.requires)
    c.first_from-place.ensures.halves
    (λ d within same. elim c.else-place-asked.branch [
      | else-place-asked-via-then-place-asked+else-number w ↦
          w.if-number.false (w.number.ensures
          ∙ ap number_of
          (w.index-asked-place.is ∙ get_or_default c.args.asked.now c.first_from-place.result _ d within) ∙ same)
      | else-place-asked-via-else-place-asked w ↦ omega arith
    ])))

pub returns-else-place-asked-clause-there : goal.returns-else-place-asked-clause-there
returns-else-place-asked-clause-there c =
    ap (option_and_then (slice_get c.args.asked.now)) (returns-else-place-asked-clause-place c)
    ∙ get-position (λ (entry : AskedEntry). eqb entry.asked.number c.args.number) c.args.asked.now
