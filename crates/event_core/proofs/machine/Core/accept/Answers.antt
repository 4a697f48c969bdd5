use Rattle.event_core.proofs.Words.{◌+◌, ◌<◌, ◌∙◌, ◌≡◌, after_outcome, after_submitting, ap, arith, AskedQuery, Becomes, CoreParts, get_or, KeyedStore, length, Lives, Outcome, outcome_of, refl, state_of, subst, sym, tables_of, the_view}
use Rattle.event_core.specs.CoreParts.{AreBacked, beside_of}
use Rattle.event_core.proofs.EventsSubmitLemmas.{accepts, seat-kept, seat-there, statements_in}
use Rattle.event_core.proofs.LetGoLemmas.{finished-on, on-submitted}
use Rattle.event_core.proofs.machine.Core.accept.Goals as goal

pub enter-requires : goal.enter-requires
enter-requires c = record {
  there = subst (λ (asked : AskedQuery). asked.seat < length c.self.inside.seats) (sym c.in_ok-query.ensures.asked)
      (seat-kept (the_view c.self.inside) c.self.inside.seats c.args.seat refl
      (seat-there (the_view c.self.inside) c.args.self.now c.args.seat c.self.view_is c.requires.seat));
  whole = c.in_ok-query.ensures.whole;
  is_new = λ k d low.
      let new : (get_or c.self.inside.manager.queries k d).query < c.self.inside.last_statement + 1 =
      c.submissions_follow_the_core.ensures.new (the_view c.self.inside) c.self.invariant.0 k d low in
      let number : c.in_ok-query.query.asked.number ≡ c.in_ok-number.number =
      ap (λ (asked : AskedQuery). asked.number) c.in_ok-query.ensures.asked in
      omega (arith, c.in_ok-number.ensures);
}

-- the parts are those after the query is accepted
accepted : (c : goal.After-self-1) → Becomes (record (the_view c.self.inside) {
  seats = statements_in c.enter.new.seats;
  asked = c.enter.new.asked.items;
  lives = c.enter.new.manager;
  numbers = record (the_view c.self.inside).numbers { statement = c.in_ok-number.number };
}) (after_submitting c.args.seat c.requires.asked.0 (state_of (the_view c.self.inside)))
accepted c =
    accepts c.submissions_follow_the_core.ensures.accepted (the_view c.self.inside) c.args.seat c.in_ok-number.number c.requires.asked.0
    c.args.query c.args.snapshot c.len-extent.result c.in_ok-query.query.asked (statements_in c.enter.new.seats) c.enter.new.asked.items
    c.enter.new.manager c.self.invariant.0
    (seat-there (the_view c.self.inside) c.args.self.now c.args.seat c.self.view_is c.requires.seat)
    c.in_ok-number.ensures c.in_ok-query.ensures.asked
    (c.len-extent.ensures.count ∙ ap length c.facts.ensures.versions ∙ ap (λ (store : KeyedStore). length store.versions) c.store.ensures)
    c.in_ok-enter.ensures.statements c.in_ok-enter.ensures.queries c.in_ok-enter.ensures.lives
    (ap (λ (parts : CoreParts). outcome_of (tables_of (state_of parts)) c.requires.asked.0) c.self.view_is ∙ c.requires.asked.1)

pub invariant_of-self-2 : goal.invariant_of-self-2
invariant_of-self-2 c = (
  (accepted c).core,
  c.self.invariant.1,
  finished-on c.self.inside.manager c.enter.new.manager c.self.inside.asked c.enter.new.asked
      (on-submitted _ _ c.self.inside.manager c.enter.new.manager c.in_ok-enter.ensures.lives) c.enter.ensures.past.gone
      c.enter.ensures.past.handed c.self.invariant.2,
  c.self.invariant.3,
  subst (λ (lives : Lives). AreBacked (beside_of (record (the_view c.self.inside) { lives = lives }))) (sym c.in_ok-enter.ensures.lives)
      c.self.invariant.4,
  c.self.invariant.5,
)

pub returns-clause-ok : goal.returns-clause-ok
returns-clause-ok c =
    (accepted c).state
    ∙ ap (λ (parts : CoreParts). after_submitting c.args.seat c.requires.asked.0 (state_of parts)) c.self.view_is
    ∙ ap (λ (found : Outcome). after_outcome c.args.seat found (state_of c.args.self.now)) c.requires.asked.1
