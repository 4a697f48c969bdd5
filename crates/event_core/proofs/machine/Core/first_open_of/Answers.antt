use Rattle.event_core.proofs.Words.{◌∙◌, ap, CoreParts, get_or, known_in}
use Rattle.event_core.proofs.MachineLemmas.{found-pending}
use Rattle.event_core.proofs.machine.Core.first_open_of.Goals as goal

pub returns : goal.returns
returns c =
    found-pending c.args.self.now c.self.inside.manager c.self.inside.seats c.args.seat c.index-as_slice-seat.result c.first_open.result
    (ap (λ (parts : CoreParts). parts.lives) c.self.view_is) (ap (λ (parts : CoreParts). parts.seats) c.self.view_is)
    (c.index-as_slice-seat.is ∙ ap (λ list. get_or list c.args.seat c.index-as_slice-seat.result) c.as_slice.ensures)
    c.requires (c.first_open.ensures (known_in c.args.self.now.asked))
