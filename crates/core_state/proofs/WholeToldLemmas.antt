-- What a statement changes beside the seat that submits it, which no other seat sees.
use Rattle.core_state.proofs.Words.{◌+◌, ◌∙◌, ◌≡◌, [], after_outcome, Change, DimensionDeclared, grouped_of, option_map_or, refl, Some, State, subst, sym, Told, versions_in, with_change, with_query, with_seat, with_statement, ℕ}
use Rattle.star_store.specs.Outcome as outcome
use Rattle.pipeline_manager.specs.declared.life.Life.TheVariants as life
use Rattle.core_state.specs.Submitting.{with_outcome}
use Rattle.core_state.proofs.WholeFrameLemmas.{Leaves, StayAsked, asked-behind, by-option}
use Rattle.core_state.proofs.WholeLivesLemmas.{StaysOver, over-behind}

-- a change of other parts
leaves-but : (old new : State) → new.settings ≡ old.settings → new.seats ≡ old.seats → new.numbers.statement ≡ old.numbers.statement
    → new.scan ≡ old.scan → new.lives.queries ≡ old.lives.queries → new.accepted ≡ old.accepted → Leaves old new
leaves-but old new settings seats number scan queries accepted = record {
  settings = settings;
  seats = seats;
  number = number;
  scan = scan;
  over = subst (StaysOver old.lives.queries) (sym queries) (λ query now over was. was);
  asked = subst (StayAsked old.accepted) (sym accepted) (λ number query snapshot has. has);
}

leaves-all : (state : State) → Leaves state state
leaves-all state = leaves-but state state refl refl refl refl refl refl

-- one change after the other
leaves-then : (old middle new : State) → Leaves old middle → Leaves middle new → Leaves old new
leaves-then old middle new first second = record {
  settings = second.settings ∙ first.settings;
  seats = second.seats ∙ first.seats;
  number = second.number ∙ first.number;
  scan = second.scan ∙ first.scan;
  over = λ query now over was. second.over query now over (first.over query now over was);
  asked = λ number query snapshot has. second.asked number query snapshot (first.asked number query snapshot has);
}

-- the change of a statement
leaves-change : (seat statement : ℕ) (change : Change) (state : State) → Leaves state (with_change seat statement change state)
leaves-change seat statement (DimensionDeclared table) state = leaves-but state _ refl refl refl refl refl refl
leaves-change seat statement other state = leaves-but state _ refl refl refl refl refl refl

-- the query of a statement
leaves-query : (seat statement : ℕ) (told : Told) (state : State) → Leaves state (with_query seat statement told state)
leaves-query seat statement (outcome.Replied reply) state = leaves-all state
leaves-query seat statement (outcome.Accepted query snapshot) state = record {
  settings = refl;
  seats = refl;
  number = refl;
  scan = refl;
  over = over-behind state.lives.queries (record { query = statement; extent = versions_in state; life = life.Waiting });
  asked = asked-behind state.accepted
      (record { number = statement; seat = seat; query = query; snapshot = snapshot; groups = Some (grouped_of query []) });
}

-- all of the outcome
pub leaves-outcome : (seat statement : ℕ) (found : outcome.Outcome) (state : State) → Leaves state (with_outcome seat statement found state)
leaves-outcome seat statement found state =
    leaves-then state changed (with_query seat statement found.told changed)
    (by-option (Leaves state) found.change (λ change. with_change seat statement change state) state (leaves-all state)
    (λ change is. leaves-change seat statement change state))
    (leaves-query seat statement found.told changed)
  where
    changed : State
    changed = option_map_or (λ change. with_change seat statement change state) found.change state

-- the core in which a seat has the next statement
abbrev pub seated : (seat : ℕ) → Told → State → State
seated seat told state =
    with_seat seat (with_statement (state.numbers.statement + 1) told)
    (record state { numbers = record state.numbers { statement = state.numbers.statement + 1 } })

-- a submission writes its seat and its number alone
pub aside-outcome : (seat : ℕ) (found : outcome.Outcome) (state : State) → Leaves (seated seat found.told state) (after_outcome seat found state)
aside-outcome seat found state = leaves-outcome seat (state.numbers.statement + 1) found (seated seat found.told state)
