-- The hand is empty where nothing was taken, and where the work was given back.
use Rattle.std.proofs.Common.{◌<◌, ◌∙◌, ap, subst, sym}
use Rattle.core_state.specs.Found.{held_by}
use Rattle.core_state.specs.declared.settings.RunSettings.{RunSettings}
use Rattle.event_core.specs.CoreParts.{CoreParts}
use Rattle.event_core.specs.Seen.{state_of}
use Rattle.crate_tests.proofs.lent.pass.Goals as goal

pub do_behind-requires : goal.do_behind-requires
do_behind-requires c = c.in-Got.ensures.tells.has

pub returns-in-Got-clause-seat : goal.returns-in-Got-clause-seat
returns-in-Got-clause-seat c =
    subst (λ (settings : RunSettings). 1 < settings.seats) (sym (c.do_behind.ensures.settings ∙ c.take_work.ensures.moves.settings))
    c.requires.seat

pub returns-in-Nothing-clause-seat : goal.returns-in-Nothing-clause-seat
returns-in-Nothing-clause-seat c =
    subst (λ (settings : RunSettings). 1 < settings.seats) (sym c.take_work.ensures.moves.settings) c.requires.seat

pub returns-in-Nothing-clause-empty : goal.returns-in-Nothing-clause-empty
returns-in-Nothing-clause-empty c =
    ap (λ (parts : CoreParts). held_by (state_of parts).scan.flights 1) c.in-Nothing.ensures.tells.0 ∙ c.requires.empty
