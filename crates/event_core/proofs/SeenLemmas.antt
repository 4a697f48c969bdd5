-- What of the parts the state reads: lives and groups that change leave what is known of queries.
use Rattle.event_core.proofs.Words.{◌∙◌, Accepted, accepted_as, accepted_in, after_spoil, ap, AskedQuery, attached_for, attached_or, CoreParts, fold, Grouped, Known, known_in, Life, Lives, query_of, QueryLife, Reach, reaches_in, Spoiled, state_of, with_kept_at, with_life}
use Rattle.std.specs.Prelude.{◌≡◌, ℕ, ◌==◌, Bool, true, false, if◌then◌else◌, List, [], ◌∷◌, map, Option, refl}
use Rattle.pipeline_manager.specs.Changes.{cut_query}
use Rattle.event_core.specs.Seen.{state_with}

-- how far a query goes
abbrev reach : QueryLife → Reach
reach entry = record { number = entry.query; extent = entry.extent }

renewed-reach : (life : Life) (entry : QueryLife) (test : Bool)
    → reach (if test then record entry { life = life } else entry) ≡ reach entry
renewed-reach life entry true = refl
renewed-reach life entry false = refl

-- another life leaves how far each query goes
pub reaches-with_life : (query : ℕ) (life : Life) (queries : List QueryLife)
    → reaches_in (with_life query life queries) ≡ reaches_in queries
reaches-with_life query life [] = refl
reaches-with_life query life (entry ∷ queries) =
    ap (λ one. one ∷ reaches_in (with_life query life queries)) (renewed-reach life entry (entry.query == query))
    ∙ ap (λ rest. reach entry ∷ rest) (reaches-with_life query life queries)

-- so does a cut
pub reaches-cut : (first last : ℕ) (queries : List QueryLife)
    → reaches_in (map (cut_query first last) queries) ≡ reaches_in queries
reaches-cut first last [] = refl
reaches-cut first last (entry ∷ queries) = ap (λ rest. reach entry ∷ rest) (reaches-cut first last queries)

-- and so do queries that are spoiled
pub reaches-spoiled : (spoiled : List ℕ) (lives : Lives)
    → reaches_in (fold (λ lives query. after_spoil query lives) lives spoiled).queries ≡ reaches_in lives.queries
reaches-spoiled [] lives = refl
reaches-spoiled (query ∷ spoiled) lives =
    reaches-spoiled spoiled (after_spoil query lives) ∙ reaches-with_life query Spoiled lives.queries

-- what is known of a query
abbrev known : AskedQuery → Known
known entry = record { number = entry.number; query = query_of entry.query; snapshot = entry.snapshot }

kept-known : (kept : Option Grouped) (entry : AskedQuery) (test : Bool)
    → known (if test then record entry { kept = kept } else entry) ≡ known entry
kept-known kept entry true = refl
kept-known kept entry false = refl

-- what is kept beside queries leaves what is known of them
pub known-with_kept : (number : ℕ) (kept : Option Grouped) (asked : List AskedQuery)
    → known_in (with_kept_at number kept asked) ≡ known_in asked
known-with_kept number kept [] = refl
known-with_kept number kept (entry ∷ asked) =
    ap (λ one. one ∷ known_in (with_kept_at number kept asked)) (kept-known kept entry (entry.number == number))
    ∙ ap (λ rest. known entry ∷ rest) (known-with_kept number kept asked)

-- where the groups at slots are the same for each query, the accepted queries are
pub accepted-same : (lives other : Lives) (attached others : List (Option Grouped)) (asked : List AskedQuery)
    → ((query : ℕ) → attached_for lives attached query ≡ attached_for other others query)
    → accepted_in lives attached asked ≡ accepted_in other others asked
accepted-same lives other attached others [] same = refl
accepted-same lives other attached others (entry ∷ asked) same =
    ap (λ groups. record {
      number = entry.number;
      seat = entry.seat;
      query = query_of entry.query;
      snapshot = entry.snapshot;
      groups = attached_or groups entry.kept;
    } ∷ accepted_in lives attached asked) (same entry.number)
    ∙ ap (λ rest. accepted_as other others entry ∷ rest) (accepted-same lives other attached others asked same)

-- the state by what is read of the accepted queries and of their lives
pub state-seen : (parts : CoreParts) (accepted : List Accepted) (known : List Known) (reaches : List Reach)
    → accepted_in parts.lives parts.attached parts.asked ≡ accepted → known_in parts.asked ≡ known
    → reaches_in parts.lives.queries ≡ reaches → state_of parts ≡ state_with parts accepted known reaches
state-seen parts accepted known reaches same_accepted same_known same_reaches =
    ap (λ list. state_with parts list (known_in parts.asked) (reaches_in parts.lives.queries)) same_accepted
    ∙ ap (λ list. state_with parts accepted list (reaches_in parts.lives.queries)) same_known
    ∙ ap (λ list. state_with parts accepted known list) same_reaches
