-- The history of statements is one that the tables take, change by change.
use Rattle.std.proofs.Common.{ℕ, suc, List, [], ◌∷◌, ◌++◌, Option, Some, None, sym, subst, append-nil}
use Rattle.std.specs.Prelude.{option_to_list}
use Rattle.std.specs.List.{fold}
use Rattle.script_reader.specs.declared.statement.Statement.{Statement}
use Rattle.query_meaning.specs.Accepted.{Accepts, AcceptsAll}
use Rattle.query_meaning.specs.History.{Change, after_change, store_of}
use Rattle.query_meaning.specs.Settled.{IsSettled}
use Rattle.query_meaning.specs.Store.{Store, empty_store}
use Rattle.star_store.specs.Fitting.{FitsTables}
use Rattle.star_store.specs.Outcome.{Told, Replied, Accepted, outcome_of}
use Rattle.star_store.specs.Script.{history_after, history_from, is_wanted_at}
use Rattle.star_store.proofs.ValueLemmas.{either}

-- a history takes a change more, which its tables take
pub accepts-more : (store : Store) (history : List Change) (change : Change) → AcceptsAll store history
    → Accepts (fold after_change store history) change → AcceptsAll store (history ++ change ∷ [])
accepts-more store [] change all accepted = (accepted, tt)
accepts-more store (first ∷ history) change all accepted = (all.0, accepts-more (after_change store first) history change all.1 accepted)

accepts-outcome : (history : List Change) (change : Option Change) (told : Told) → AcceptsAll empty_store history
    → FitsTables (store_of history) change told → AcceptsAll empty_store (history ++ option_to_list change)
accepts-outcome history None told all fits = subst (AcceptsAll empty_store) (sym (append-nil history)) all
accepts-outcome history (Some change) (Replied reply) all fits = accepts-more empty_store history change all fits
accepts-outcome history (Some change) (Accepted query snapshot) all fits = absurd fits

-- what the laws on histories and on outcomes say
pub record Grows : Type 0 where
  pub settled : (history : List Change) → AcceptsAll empty_store history → IsSettled (store_of history)
  pub fits : (store : Store) (statement : Statement) → IsSettled store
      → FitsTables store (outcome_of store statement).change (outcome_of store statement).told

-- the history of statements behind one that the tables take
pub accepts-statements : Grows → (wanted : List ℕ) (place : ℕ) (history : List Change) (statements : List Statement) → AcceptsAll empty_store history
    → AcceptsAll empty_store (history_from wanted place history statements)
accepts-statements says wanted place history [] all = all
accepts-statements says wanted place history (statement ∷ statements) all =
    let found = outcome_of (store_of history) statement in
    let more : AcceptsAll empty_store (history_after history statement) =
    accepts-outcome history found.change found.told all (says.fits (store_of history) statement (says.settled history all)) in
    either (AcceptsAll empty_store) (is_wanted_at wanted place) (history_from wanted (suc place) history statements)
    (history_from wanted (suc place) (history_after history statement) statements)
    (accepts-statements says wanted (suc place) history statements all)
    (accepts-statements says wanted (suc place) (history_after history statement) statements more)
