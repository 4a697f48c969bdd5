-- A statement that is given to a core: what it leaves, and what it counts.
use Rattle.script_run.proofs.Words.{◌+◌, ◌<◌, ◌∙◌, ◌∷◌, ◌≡◌, ◌≤◌, [], after_change, after_submitting, All, All-append, All-cons, All-nil, All-weaker, ap, arith, aside-outcome, awaited_by, Bool, Change, cond, count_by, CountsOne, Ended, eq-eqb, eqb, false, if◌then◌else◌, is_open, is_query, IsOverOrWaits, IsSound, length, length-append, life_in, List, Loaded, ne_eqb, None, one_if, Option, option_map, option_map_or, Outcome, outcome_of, Pending, queries_awaited, QueryLife, refl, seat_at, Some, State, Statement, Store, subst, sym, tables_of, Told, told_of, versions_in, Waiting, with_query, ℕ}
use Rattle.std.proofs.Common.{find}
use Rattle.std.specs.Option.{option_or}
use Rattle.std.proofs.lemmas.List.Folds.{find-append}
use Rattle.std.proofs.lemmas.List.Sums.{sum_by-append}
use Rattle.star_plan.specs.declared.table.Table.TheVariants as table
use Rattle.query_meaning.specs.History.{versions_by}
use Rattle.star_store.specs.Effect.{store_by}
use Rattle.star_store.specs.Outcome as outcome
use Rattle.core_state.proofs.CutFoundLemmas.{none-found}
use Rattle.core_state.proofs.LoggedPlaceLemmas.{length-all-ended}
use Rattle.core_state.proofs.RowLemmas.{submits-row}
use Rattle.core_state.proofs.WholeToldLemmas.{seated}
use Rattle.script_run.proofs.FrontRunLemmas.{scan-submitted}
use Rattle.script_run.proofs.AskedLemmas.{changed_by, is-new, lives-changed, submitted-tables}

-- no change takes versions away
change-versions : (store : Store) (change : Change) → length store.versions ≤ length (after_change store change).versions
change-versions store (Loaded table.Fact rows) = omega (arith, length-append store.versions (versions_by (store.commits + 1) rows))
change-versions store (Ended positions) = omega (arith, length-all-ended (store.commits + 1) store.versions positions)
change-versions store other = omega arith

outcome-versions : (store : Store) (found : Outcome) → length store.versions ≤ length (store_by store found).versions
outcome-versions store found = by_change found.change
  where
    by_change : (change : Option Change) → length store.versions ≤ length (option_map_or (after_change store) change store).versions
    by_change None = omega arith
    by_change (Some change) = change-versions store change

submitted-versions : (statement : Statement) (old : State) → versions_in old ≤ versions_in (after_submitting 0 statement old)
submitted-versions statement old = subst (λ (store : Store). versions_in old ≤ length store.versions) (sym (submitted-tables 0 statement old))
    (outcome-versions (tables_of old) (outcome_of (tables_of old) statement))

-- an accepted query waits behind the others
record Asks (number : ℕ) (told : Told) (queries new : List QueryLife) : Type 0 where
  counts : count_by (λ entry. is_open entry.life) new
      ≡ count_by (λ entry. is_open entry.life) queries + one_if (is_query (awaited_by told))
  waits : All (λ entry. IsOverOrWaits entry.life) queries → All (λ entry. IsOverOrWaits entry.life) new
  life : All (λ entry. eqb entry.query number ≡ false) queries
      → life_in new number ≡ (if is_query (awaited_by told) then Some Waiting else None)

query-asks : (number : ℕ) (told : Told) (state : State) → Asks number told state.lives.queries (with_query 0 number told state).lives.queries
query-asks number (outcome.Replied reply) state = record {
  counts = omega arith;
  waits = λ waits. waits;
  life = λ new. ap (option_map (λ (e : QueryLife). e.life)) (none-found (λ (e : QueryLife). eqb e.query number) state.lives.queries new);
}
query-asks number (outcome.Accepted query snapshot) state = record {
  counts = sum_by-append (λ (e : QueryLife). one_if (is_open e.life)) state.lives.queries (last ∷ []);
  waits = λ waits. All-append (λ (e : QueryLife). IsOverOrWaits e.life) state.lives.queries (last ∷ []) waits
      (All-cons (λ (e : QueryLife). IsOverOrWaits e.life) last [] tt (All-nil (λ (e : QueryLife). IsOverOrWaits e.life)));
  life = λ new. ap (option_map (λ (e : QueryLife). e.life))
      (find-append (λ (e : QueryLife). eqb e.query number) state.lives.queries (last ∷ [])
      ∙ ap (λ o. option_or o (find (λ (e : QueryLife). eqb e.query number) (last ∷ [])))
      (none-found (λ (e : QueryLife). eqb e.query number) state.lives.queries new)
      ∙ ap (λ t. cond {A = Option QueryLife} t (Some last) None) (eq-eqb number number refl));
}
  where
    last : QueryLife
    last = record { query = number; extent = versions_in state; life = Waiting }

-- no query has the next number
next-new : (state : State) → IsSound state → All (λ entry. eqb entry.query (state.numbers.statement + 1) ≡ false) state.lives.queries
next-new state sound =
    All-weaker (λ (e : QueryLife). e.query < state.numbers.statement + 1) (λ (e : QueryLife). eqb e.query (state.numbers.statement + 1) ≡ false)
    (λ e low. ne_eqb e.query (state.numbers.statement + 1) (λ same. omega arith)) state.lives.queries (is-new state sound)

-- a statement that a core is given
pub counts-submitted : (statement : Statement) (old : State) → IsSound old → 0 < length old.seats → CountsOne statement old (after_submitting 0 statement old)
counts-submitted statement old sound there = record {
  settings = (aside-outcome 0 found old).settings;
  scan = scan-submitted statement old;
  versions = submitted-versions statement old;
  number = (aside-outcome 0 found old).number;
  pending = (submits-row old 0 statement there).pending;
  unfinished = asks.counts ∙ ap (λ queries. count_by (λ entry. is_open entry.life) queries + one_if (is_query (awaited_by found.told))) same;
  waits = λ waits. asks.waits (subst (All (λ entry. IsOverOrWaits entry.life)) (sym same) waits);
  life = asks.life (subst (All (λ entry. eqb entry.query number ≡ false)) (sym same) (next-new old sound));
}
  where
    found : Outcome
    found = outcome_of (tables_of old) statement

    number : ℕ
    number = old.numbers.statement + 1

    changed : State
    changed = changed_by 0 number found.change (seated 0 found.told old)

    same : changed.lives.queries ≡ old.lives.queries
    same = lives-changed 0 number found.change (seated 0 found.told old)

    asks : Asks number found.told changed.lives.queries (with_query 0 number found.told changed).lives.queries
    asks = query-asks number found.told changed

-- how many queries the front waits for then
pub awaited-submitted : (statement : Statement) (old new : State) → CountsOne statement old new
    → queries_awaited new ≡ queries_awaited old + one_if (is_query (awaited_by (told_of old statement)))
awaited-submitted statement old new counts =
    let last : Pending = record { statement = old.numbers.statement + 1; awaited = awaited_by (told_of old statement) } in
    ap (count_by (λ (p : Pending). is_query p.awaited)) counts.pending
    ∙ sum_by-append (λ (p : Pending). one_if (is_query p.awaited)) (seat_at old 0).pending (last ∷ [])
    ∙ only (count_by (λ (p : Pending). is_query p.awaited) (seat_at old 0).pending) (is_query (awaited_by (told_of old statement)))
  where
    only : (n : ℕ) (test : Bool) → n + (0 + one_if test) ≡ n + one_if test
    only n test = omega arith
