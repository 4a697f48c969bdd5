-- Which outcomes of statements fit the tables.
use Rattle.std.specs.Prelude.{◌≡◌, Option, Some, None, IsSome}
use Rattle.star_plan.specs.Over.{IsOver}
use Rattle.query_meaning.specs.Accepted.{Accepts}
use Rattle.query_meaning.specs.History.{Change}
use Rattle.query_meaning.specs.Store.{Store}
use Rattle.star_store.specs.Outcome.{Told, Replied, Accepted}

-- a change, where there is one, and what is told: a reply alone, a query over the schema at
-- the last commit, which is asked once the fact table is declared, or a change that the
-- tables take, with a reply
abbrev pub FitsTables : Store → Option Change → Told → Type 0
FitsTables store None (Replied reply) = Unit {0}
FitsTables store None (Accepted query snapshot) =
    (snapshot ≡ store.commits) × IsOver store.schema query × IsSome store.schema.fact
FitsTables store (Some change) (Replied reply) = Accepts store change
FitsTables store (Some change) (Accepted query snapshot) = ⊥
