-- Commits are counted.
use Rattle.std.proofs.Common.{◌≡◌, ℕ, ◌+◌, cond, List, [], ◌∷◌, ap, arith}
use Rattle.std.specs.List.{fold}
use Rattle.star_plan.specs.declared.table.Table.TheVariants.{Fact, Dimension}
use Rattle.query_meaning.specs.History.{Change, DimensionDeclared, FactDeclared, Loaded, Ended, after_change, is_commit}
use Rattle.query_meaning.specs.Store.{Store}

-- a count goes on by the commits of a history as the tables do
pub commits_from : (store : Store) (count : ℕ) (history : List Change) → store.commits ≡ count
    → (fold after_change store history).commits ≡ fold (λ n change. n + cond (is_commit change) 1 0) count history
commits_from store count [] same = same
commits_from store count (DimensionDeclared table ∷ history) same =
    commits_from (after_change store (DimensionDeclared table)) (count + 0) history (omega arith)
commits_from store count (FactDeclared table ∷ history) same =
    commits_from (after_change store (FactDeclared table)) (count + 0) history (omega arith)
commits_from store count (Loaded Fact rows ∷ history) same =
    commits_from (after_change store (Loaded Fact rows)) (count + 1) history (ap (λ n. n + 1) same)
commits_from store count (Loaded (Dimension dimension) rows ∷ history) same =
    commits_from (after_change store (Loaded (Dimension dimension) rows)) (count + 1) history (ap (λ n. n + 1) same)
commits_from store count (Ended positions ∷ history) same =
    commits_from (after_change store (Ended positions)) (count + 1) history (ap (λ n. n + 1) same)
