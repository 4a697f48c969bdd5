use Rattle.std.proofs.Common.{ℕ, List, ap, false, find, option_map, ◌++◌, ◌∙◌}
use Rattle.std.specs.List.{filter_map}
use Rattle.std.specs.Option.{option_map_or}
use Rattle.pipeline_manager.specs.Conditions.{is_open}
use Rattle.pipeline_manager.specs.Lives.{life_of}
use Rattle.core_parts.specs.Seated.{Pending}
use Rattle.core_parts.specs.declared.submitted.Submitted.{Submitted}
use Rattle.core_parts.specs.Seats.{is_open_in, pending_as}
use Rattle.core_parts.proofs.GoneLemmas.{open-behind}
use Rattle.core_parts.proofs.SeatLemmas.{open-first}
use Rattle.core_parts.proofs.seat.Seat.first_open.Goals as goal

pub returns : goal.returns
returns c = λ known.
    let may = λ (number : ℕ). option_map_or is_open (life_of c.args.manager.now number) false in
    let named = λ (list : List Submitted). option_map (λ (pending : Pending). pending.statement)
    (find (λ pending. may pending.statement) (filter_map (pending_as known) list)) in
    let numbered = option_map (λ (submitted : Submitted). submitted.number) in
    c.first_open_in.ensures
    ∙ ap (λ list. numbered (find (is_open_in c.args.manager.now) list)) c.rest.ensures
    ∙ ap numbered (open-behind c.args.manager.now c.self.inside.statements.gone c.self.inside.statements.rest c.self.invariant.1)
    ∙ open-first known may (c.self.inside.statements.gone ++ c.self.inside.statements.rest)
    ∙ ap (λ seat. named seat.items) c.self.view_is
