use Rattle.std.proofs.Common.{◌≡◌, ◌<◌, length, false, Some, sym, ap, option_map, arith, ◌∙◌}
use Rattle.std.proofs.lemmas.List.Elements.{All-more}
use Rattle.std.proofs.lemmas.Option.{slice_get-get_or}
use Rattle.core_parts.specs.declared.submitted.Submitted.{Submitted}
use Rattle.core_parts.specs.Seats.{is_open_in}
use Rattle.core_parts.proofs.TurnLemmas.{find-first, find-none}
use Rattle.core_parts.proofs.seat.first_open_in.Goals as goal

pub returns-then-is_open : goal.returns-then-is_open
returns-then-is_open c =
    let within : c.loop-place.place < length c.args.statements.now = omega arith in
    let submitted = c.index-statements-place.result in
    ap (λ (one : Submitted). Some one.number) c.index-statements-place.is
    ∙ ap (option_map (λ (submitted : Submitted). submitted.number))
    (sym (slice_get-get_or c.args.statements.now c.loop-place.place submitted within)
    ∙ find-first (is_open_in c.args.manager.now) c.args.statements.now c.loop-place.place submitted c.loop-place.invariant within
    (ap (is_open_in c.args.manager.now) (sym c.index-statements-place.is) ∙ sym c.is_open.ensures ∙ c.if-is_open.true))

pub loop-place-preserved : goal.loop-place-preserved
loop-place-preserved c =
    All-more (λ submitted. is_open_in c.args.manager.now submitted ≡ false) c.args.statements.now c.loop-place.place
    c.index-statements-place.result (omega arith) c.loop-place.invariant
    (ap (is_open_in c.args.manager.now) (sym c.index-statements-place.is) ∙ sym c.is_open.ensures ∙ c.if-is_open.false)

pub returns : goal.returns
returns c =
    ap (option_map (λ (submitted : Submitted). submitted.number))
    (sym (find-none (is_open_in c.args.manager.now) c.args.statements.now c.loop-place.place (omega arith) c.loop-place.invariant))
