use Rattle.event_core.proofs.Words.{◌∙◌, ap, IsTrue, subst, the_view}
use Rattle.std.proofs.Common.{Err}
use Rattle.star_store.specs.Text.{may_change_tables, meaning_of}
use Rattle.event_core.proofs.SubmitBesideLemmas.{never-waits}
use Rattle.event_core.proofs.machine.Core.submit_at_home.Goals as goal

pub unreachable-requires : goal.unreachable-requires
unreachable-requires c =
    let waits = c.submit.ensures.busy (c.in-Err-Busy.is ∙ ap Err c.in-Err-Busy.field-0-is) in
    never-waits (the_view c.self.inside) c.args.self.now c.self.view_is c.self.invariant.4
    (c.requires.home (subst (λ one. IsTrue (may_change_tables (meaning_of one))) c.unread.ensures waits.1)) waits.0
