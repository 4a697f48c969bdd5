use Rattle.event_core.proofs.Words.{◌∙◌, ◌≡◌, after_outcome, after_submitting, ap, Becomes, Changed, Follows, IsCore, KeyedStore, Lives, outcome_of, Outcome, CoreParts, plain, query_of, refl, state_of, subst, sym, tables_of, the_view, with_filters_for}
use Rattle.std.proofs.Common.{Err, Ok}
use Rattle.std.proofs.lemmas.Result.{err_from_is_err_and}
use Rattle.star_store.specs.Outcome as outcome
use Rattle.star_store.specs.Outcome.{only_tells}
use Rattle.star_store.specs.declared.applied.Applied.TheVariants.{Replied}
use Rattle.star_store.specs.declared.applied.ApplyFault.{ApplyFault}
use Rattle.star_store.specs.declared.applied.ApplyFault.TheVariants.{Busy}
use Rattle.event_core.specs.CoreParts.{AreBacked, beside_of}
use Rattle.event_core.proofs.EventsSubmitLemmas.{IsChange, asked-of, changes, follows-as, replies, same-parts, seat-there, some-change, statements_in, undeclared-before}
use Rattle.event_core.proofs.LetGoLemmas.{finished-on, on-same}
use Rattle.event_core.proofs.SparedLemmas.{spare-changed, spare-ready}
use Rattle.event_core.proofs.SubmitBesideLemmas.{beside-stays, changed-stays, out-somewhere}
use Rattle.event_core.proofs.machine.Core.submit.Goals as goal

-- where the filters are out of memory the parts are as they were
pub invariant_of-self-in_err-all : goal.invariant_of-self-in_err-all
invariant_of-self-in_err-all c =
    let same = same-parts (the_view c.self.inside) c.self.inside.tables (statements_in c.reserve_at.new.seats) refl c.reserve_at.ensures.statements in (
      subst IsCore (sym same) c.self.invariant.0,
      c.self.invariant.1,
      c.self.invariant.2,
      spare-ready (the_view c.self.inside) c.self.inside.spares c.make_filters.new.spares c.self.invariant.0 c.make_filters.ensures.declared
          c.self.invariant.3,
      subst AreBacked (sym (ap beside_of same)) c.self.invariant.4,
      c.self.invariant.5,
    )

-- so they are where the statement is not applied
pub invariant_of-self-in_err-reply : goal.invariant_of-self-in_err-reply
invariant_of-self-in_err-reply c =
    let same = same-parts (the_view c.self.inside) c.apply_to.new.tables (statements_in c.reserve_at.new.seats) c.in_err-reply.ensures.follows
    c.reserve_at.ensures.statements in (
      subst IsCore (sym same) c.self.invariant.0,
      c.self.invariant.1,
      c.self.invariant.2,
      spare-ready (the_view c.self.inside) c.self.inside.spares c.make_filters.new.spares c.self.invariant.0 c.make_filters.ensures.declared
          c.self.invariant.3,
      subst AreBacked (sym (ap beside_of same)) c.self.invariant.4,
      c.self.invariant.5,
    )

pub returns-in_err-reply-clause-busy : goal.returns-in_err-reply-clause-busy
returns-in_err-reply-clause-busy c = λ busy.
    let failed = err_from_is_err_and c.from_residual-in_err-reply.result c.from_residual-in_err-reply.ensures.1 in
    let one : failed.0 ≡ Busy = cc (busy, failed.1) in
    let waits = c.apply_to.ensures.busy (c.in_err-reply.was ∙ ap Err (sym failed.2 ∙ one)) in (
      out-somewhere (the_view c.self.inside) c.args.self.now c.is_any_out-are_lent.result c.self.view_is c.is_any_out-are_lent.ensures waits.0,
      waits.1,
    )

-- the parts are those after a statement that gets a reply
replied : (c : goal.After-drop-all-inside-in-Replied-3) → Becomes (record (the_view c.self.inside) {
  tables = c.apply_to.new.tables;
  seats = statements_in c.stand.new.seats;
  numbers = record (the_view c.self.inside).numbers { statement = c.in_ok-number.number };
}) (after_submitting c.args.seat c.args.statement.now (state_of (the_view c.self.inside)))
replied c =
    replies c.submissions_follow_the_core.ensures.replied (the_view c.self.inside) c.args.seat c.in_ok-number.number c.args.statement.now
    c.in-Replied.reply c.apply_to.new.tables (statements_in c.reserve_at.new.seats) (statements_in c.stand.new.seats) c.self.invariant.0
    (seat-there (the_view c.self.inside) c.args.self.now c.args.seat c.self.view_is c.requires) c.in_ok-number.ensures
    c.reserve_at.ensures.statements c.stand.ensures
    (follows-as c.self.inside.tables c.apply_to.new.tables c.args.statement.now c.in_ok-reply.field-0 (Replied c.in-Replied.reply)
    c.in-Replied.is c.in_ok-reply.ensures.follows) c.apply_to.ensures.keyed

-- what is beside the state is as it was
replied_beside : (c : goal.After-drop-all-inside-in-Replied-3)
    → beside_of (record (the_view c.self.inside) { tables = c.apply_to.new.tables }) ≡ beside_of (the_view c.self.inside)
replied_beside c =
    beside-stays (the_view c.self.inside) c.apply_to.new.tables c.self.inside.manager c.is_any_out-are_lent.result c.is_any_out-are_lent.ensures
    (λ lent. (c.apply_to.ensures.lent lent, refl))

pub invariant_of-self-in-Replied-1 : goal.invariant_of-self-in-Replied-1
invariant_of-self-in-Replied-1 c = (
  (replied c).core,
  c.self.invariant.1,
  c.self.invariant.2,
  spare-ready (the_view c.self.inside) c.self.inside.spares c.make_filters.new.spares c.self.invariant.0 c.make_filters.ensures.declared
      c.self.invariant.3,
  subst AreBacked (sym (replied_beside c)) c.self.invariant.4,
  c.self.invariant.5,
)

pub returns-in-Replied-clause-ok : goal.returns-in-Replied-clause-ok
returns-in-Replied-clause-ok c =
    (replied c).state ∙ ap (λ (parts : CoreParts). after_submitting c.args.seat c.args.statement.now (state_of parts)) c.self.view_is

pub returns-in-Replied-clause-beside : goal.returns-in-Replied-clause-beside
returns-in-Replied-clause-beside c = replied_beside c ∙ ap beside_of c.self.view_is

pub log_change-requires-clause-all : goal.log_change-requires-clause-all
log_change-requires-clause-all c = λ declares. c.in_ok-all.ensures.all
    (undeclared-before c.a_declared_fact_table_finds_free_slots.ensures.first (the_view c.self.inside) c.args.statement.now c.in-Changed.kind
    c.in-Changed.reply c.apply_to.new.tables c.self.invariant.0
    (follows-as c.self.inside.tables c.apply_to.new.tables c.args.statement.now c.in_ok-reply.field-0
    (Changed c.in-Changed.kind c.in-Changed.reply) c.in-Changed.is c.in_ok-reply.ensures.follows) declares)

pub log_change-requires-clause-quiet : goal.log_change-requires-clause-quiet
log_change-requires-clause-quiet c = λ declares.
    let follows = follows-as c.self.inside.tables c.apply_to.new.tables c.args.statement.now c.in_ok-reply.field-0
    (Changed c.in-Changed.kind c.in-Changed.reply) c.in-Changed.is c.in_ok-reply.ensures.follows in
    let change : IsChange (outcome_of (plain c.self.inside.tables) c.args.statement.now).change c.in-Changed.kind =
    some-change _ _ follows.1 in
    c.a_declared_fact_table_finds_free_slots.ensures.free (the_view c.self.inside) c.args.statement.now change.one c.self.invariant.0
    (ap (λ store. (outcome_of store c.args.statement.now).change) (sym c.self.invariant.0.tables.same) ∙ change.is)
    (sym change.same ∙ declares)

-- the tables follow a statement that changes them
changed_follows : (c : goal.After-self-in-Changed-1) → Follows {E = ApplyFault} c.self.inside.tables c.apply_to.new.tables
    (Ok (Changed c.in-Changed.kind c.in-Changed.reply)) (outcome_of (plain c.self.inside.tables) c.args.statement.now)
changed_follows c =
    follows-as c.self.inside.tables c.apply_to.new.tables c.args.statement.now c.in_ok-reply.field-0
    (Changed c.in-Changed.kind c.in-Changed.reply) c.in-Changed.is c.in_ok-reply.ensures.follows

-- the schema is that of the tables
schema_is : (c : goal.After-self-in-Changed-1) → c.apply_to.new.tables.schema ≡ c.schema.result.now
schema_is c = sym (c.schema.ensures.schema ∙ ap (λ (store : KeyedStore). store.schema) c.store.ensures)

-- the parts are those after a statement that changes the tables
changed : (c : goal.After-self-in-Changed-1) → Becomes (record (the_view c.self.inside) {
  tables = c.apply_to.new.tables;
  log = c.log_change.new.log;
  seats = statements_in c.stand-in-Changed.new.seats;
  lives = c.log_change.new.manager;
  filters = c.log_change.new.filters;
  numbers = record { statement = c.in_ok-number.number; batch = c.self.inside.last_batch; version = c.log_change.new.last_version };
}) (after_submitting c.args.seat c.args.statement.now (state_of (the_view c.self.inside)))
changed c =
    changes c.submissions_follow_the_core.ensures.changed (the_view c.self.inside) c.args.seat c.in_ok-number.number c.args.statement.now
    c.in-Changed.kind c.in-Changed.reply c.apply_to.new.tables c.schema.result.now c.log_change.new.manager c.log_change.new.filters
    c.log_change.new.last_version c.log_change.new.log (statements_in c.reserve_at.new.seats) (statements_in c.stand-in-Changed.new.seats)
    c.self.invariant.0 (seat-there (the_view c.self.inside) c.args.self.now c.args.seat c.self.view_is c.requires) c.in_ok-number.ensures
    c.log_change.ensures.log c.reserve_at.ensures.statements c.stand-in-Changed.ensures (changed_follows c) c.apply_to.ensures.keyed
    (sym (schema_is c)) c.log_change.ensures.parts

-- what the change makes of the filters
with_filters : (c : goal.After-self-in-Changed-1)
    → with_filters_for c.in-Changed.kind (record (the_view c.self.inside) { tables = c.apply_to.new.tables })
    ≡ record (the_view c.self.inside) {
      tables = c.apply_to.new.tables;
      lives = c.log_change.new.manager;
      filters = c.log_change.new.filters;
      numbers = record (the_view c.self.inside).numbers { version = c.log_change.new.last_version };
    }
with_filters c =
    c.log_change.ensures.parts (record (the_view c.self.inside) { tables = c.apply_to.new.tables }) (schema_is c) refl refl refl

-- what is beside the state is as it was
changed_beside : (c : goal.After-self-in-Changed-1)
    → beside_of (record (the_view c.self.inside) { tables = c.apply_to.new.tables; lives = c.log_change.new.manager })
    ≡ beside_of (the_view c.self.inside)
changed_beside c =
    beside-stays (the_view c.self.inside) c.apply_to.new.tables c.log_change.new.manager c.is_any_out-are_lent.result
    c.is_any_out-are_lent.ensures
    (changed-stays c.a_declared_fact_table_finds_free_slots.ensures.first (the_view c.self.inside) c.args.statement.now c.in-Changed.kind
    c.in-Changed.reply c.apply_to.new.tables c.log_change.new.manager c.is_any_out-are_lent.result c.self.invariant.0 (changed_follows c)
    c.apply_to.ensures.lent (ap (λ (parts : CoreParts). parts.lives) (with_filters c)))

pub invariant_of-self-in-Changed : goal.invariant_of-self-in-Changed
invariant_of-self-in-Changed c = (
  (changed c).core,
  c.self.invariant.1,
  finished-on c.self.inside.manager c.log_change.new.manager c.self.inside.asked c.self.inside.asked
      (on-same c.self.inside.manager c.log_change.new.manager c.log_change.ensures.queries) refl refl c.self.invariant.2,
  spare-changed c.in-Changed.kind (the_view c.self.inside) c.apply_to.new.tables c.log_change.new.filters c.make_filters.new.spares
      c.apply_to.ensures.settled.declared.limits.dimensions (ap (λ (parts : CoreParts). parts.filters) (with_filters c))
      (λ declares. c.in_ok-all.ensures.spares
      (undeclared-before c.a_declared_fact_table_finds_free_slots.ensures.first (the_view c.self.inside) c.args.statement.now c.in-Changed.kind
      c.in-Changed.reply c.apply_to.new.tables c.self.invariant.0 (changed_follows c) declares))
      (spare-ready (the_view c.self.inside) c.self.inside.spares c.make_filters.new.spares c.self.invariant.0 c.make_filters.ensures.declared
      c.self.invariant.3),
  subst AreBacked (sym (changed_beside c)) c.self.invariant.4,
  c.self.invariant.5,
)

pub returns-in-Changed-clause-ok : goal.returns-in-Changed-clause-ok
returns-in-Changed-clause-ok c =
    (changed c).state ∙ ap (λ (parts : CoreParts). after_submitting c.args.seat c.args.statement.now (state_of parts)) c.self.view_is

pub returns-in-Changed-clause-beside : goal.returns-in-Changed-clause-beside
returns-in-Changed-clause-beside c = changed_beside c ∙ ap beside_of c.self.view_is

-- where a statement asks a query the parts are as they were before it is accepted
pub invariant_of-self-in-Accepted : goal.invariant_of-self-in-Accepted
invariant_of-self-in-Accepted c =
    let asked = asked-of (the_view c.self.inside) c.apply_to.new.tables (statements_in c.reserve_at.new.seats) c.args.statement.now
    c.in-Accepted.query c.in-Accepted.snapshot c.in_ok-reply.field-0 c.self.invariant.0 c.reserve_at.ensures.statements c.in-Accepted.is
    c.in_ok-reply.ensures.follows in (
      subst IsCore (sym asked.same) c.self.invariant.0,
      c.self.invariant.1,
      c.self.invariant.2,
      spare-ready (the_view c.self.inside) c.self.inside.spares c.make_filters.new.spares c.self.invariant.0 c.make_filters.ensures.declared
          c.self.invariant.3,
      subst AreBacked (sym (ap beside_of asked.same)) c.self.invariant.4,
      c.self.invariant.5,
    )

pub accept-requires-clause-asked : goal.accept-requires-clause-asked
accept-requires-clause-asked c =
    let asked = asked-of (the_view c.self.inside) c.apply_to.new.tables (statements_in c.reserve_at.new.seats) c.args.statement.now
    c.in-Accepted.query c.in-Accepted.snapshot c.in_ok-reply.field-0 c.self.invariant.0 c.reserve_at.ensures.statements c.in-Accepted.is
    c.in_ok-reply.ensures.follows in
    (c.args.statement.now, ap (λ (parts : CoreParts). outcome_of (tables_of (state_of parts)) c.args.statement.now) asked.same ∙ asked.tells)

pub returns-in_ok-accept-in-Accepted-clause-ok : goal.returns-in_ok-accept-in-Accepted-clause-ok
returns-in_ok-accept-in-Accepted-clause-ok c =
    let asked = asked-of (the_view c.self.inside) c.apply_to.new.tables (statements_in c.reserve_at.new.seats) c.args.statement.now
    c.in-Accepted.query c.in-Accepted.snapshot c.in_ok-reply.field-0 c.self.invariant.0 c.reserve_at.ensures.statements c.in-Accepted.is
    c.in_ok-reply.ensures.follows in
    c.in_ok-accept-in-Accepted.ensures.ok
    ∙ ap (λ (parts : CoreParts). after_outcome c.args.seat (only_tells (outcome.Accepted (query_of c.in-Accepted.query) c.in-Accepted.snapshot))
    (state_of parts)) asked.same
    ∙ sym (ap (λ (found : Outcome). after_outcome c.args.seat found (state_of (the_view c.self.inside))) asked.tells)
    ∙ ap (λ (parts : CoreParts). after_submitting c.args.seat c.args.statement.now (state_of parts)) c.self.view_is
