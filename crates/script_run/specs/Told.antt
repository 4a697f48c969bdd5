-- What a core tells of the statements of a script: the history that they make, and its queries.
use Rattle.std.specs.Prelude.{◌≡◌, ◌⊎◌, ℕ, suc, Bool, true, false, List, [], ◌∷◌, Some}
use Rattle.script_reader.specs.declared.statement.Statement.{Statement}
use Rattle.star_plan.specs.Test.{Query}
use Rattle.query_meaning.specs.History.{Change, store_of}
use Rattle.star_store.specs.Outcome as outcome
use Rattle.star_store.specs.Outcome.{Told, outcome_of}
use Rattle.star_store.specs.Script.{history_after, is_wanted_at}
-- both stand with the script, and are passed on here to those who read what a core tells
pub use Rattle.star_store.specs.Script.{history_from, history_of}
use Rattle.pipeline_manager.specs.Lives.{Lives, life_of}
use Rattle.pipeline_manager.specs.declared.life.Life.TheVariants.{Answered}
use Rattle.core_state.specs.State.{Accepted, State}
use Rattle.core_state.specs.Tables.{changes_of}

-- the first query of a core is this one at this snapshot, with a number like this, and those
-- behind it are the others
abbrev pub BeginWith : Query → (snapshot : ℕ) → (IsNumber : ℕ → Type 0)
    → (AreOthers : List Accepted → Type 0) → List Accepted → Type 0
BeginWith query snapshot IsNumber AreOthers [] = ⊥
BeginWith query snapshot IsNumber AreOthers (first ∷ accepted) =
    (first.query ≡ query) × (first.snapshot ≡ snapshot) × IsNumber first.number × AreOthers accepted

-- a statement of which this is told has its effect: a query is the first one of the core, and was
-- answered, and any other is none of them
abbrev pub BeginAnswered : Lives → Told → (AreOthers : List Accepted → Type 0) → List Accepted
    → Type 0
BeginAnswered lives (outcome.Replied reply) AreOthers accepted = AreOthers accepted
BeginAnswered lives (outcome.Accepted query snapshot) AreOthers accepted =
    BeginWith query snapshot (λ number. life_of lives number ≡ Some Answered) AreOthers accepted

-- memory was wanted for a statement of which this is told: a query may be the first one of
-- the core, or none of them
abbrev pub MayBegin : Told → (AreOthers : List Accepted → Type 0) → List Accepted → Type 0
MayBegin (outcome.Replied reply) AreOthers accepted = AreOthers accepted
MayBegin (outcome.Accepted query snapshot) AreOthers accepted =
    AreOthers accepted ⊎ BeginWith query snapshot (λ number. Unit {0}) AreOthers accepted

-- the one where memory was wanted, and the other where it was not
abbrev pub ByWanted : Bool → (Wanted Effective : Type 0) → Type 0
ByWanted true Wanted Effective = Wanted
ByWanted false Wanted Effective = Effective

-- the queries of a core are those of statements from a place on, in their order: each that has its
-- effect was answered, and where memory was wanted the core may have it or not
abbrev pub AreQueriesOf : Lives → (wanted : List ℕ) → (place : ℕ) → List Change → List Statement
    → List Accepted → Type 0
AreQueriesOf lives wanted place history [] accepted = accepted ≡ []
AreQueriesOf lives wanted place history (statement ∷ statements) accepted =
    ByWanted (is_wanted_at wanted place)
    (MayBegin (outcome_of (store_of history) statement).told
    (λ rest. AreQueriesOf lives wanted (suc place) history statements rest) accepted)
    (BeginAnswered lives (outcome_of (store_of history) statement).told
    (λ rest.
    AreQueriesOf lives wanted (suc place) (history_after history statement) statements rest)
    accepted)

-- a core tells of the statements of a script, where memory was wanted at these places: its history
-- is theirs, and so are its queries
pub record TellsScript (wanted : List ℕ) (statements : List Statement) (core : State) : Type 0 where
  pub history : changes_of core.entries ≡ history_of wanted statements
  pub queries : AreQueriesOf core.lives wanted 0 [] statements core.accepted
