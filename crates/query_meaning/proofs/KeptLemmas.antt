-- What a query keeps of one version more.
use Rattle.std.proofs.Common.{◌≡◌, ℕ, suc, ◌≤◌, Bool, true, false, ◌&&◌, cond, List, [], ◌∷◌, ◌++◌, length, map, refl, ap, ◌∙◌, arith}
use Rattle.std.specs.List.{filter}
use Rattle.std.proofs.lemmas.List.{length-map}
use Rattle.std.proofs.lemmas.List.Elements.{filter-append}
use Rattle.star_plan.specs.Joined.{Joined, is_kept, kept_of}
use Rattle.star_plan.specs.Test.{Query}
use Rattle.fact_versions.specs.declared.version.Version.{Version}
use Rattle.fact_versions.specs.Visible.{is_visible}
use Rattle.dimension_rows.specs.declared.dimension_row.DimensionRow.{DimensionRow}
use Rattle.query_meaning.specs.Keyed.{joined_by_keys}
use Rattle.query_meaning.specs.Kept.{keeps, kept_in}

map-append : {X Y : Type 0} (f : X → Y) (xs ys : List X) → map f (xs ++ ys) ≡ map f xs ++ map f ys
map-append f [] ys = refl
map-append f (x ∷ xs) ys = ap (λ rest. f x ∷ rest) (map-append f xs ys)

append_none : {Y : Type 0} (ys : List Y) → ys ++ [] ≡ ys
append_none [] = refl
append_none (y ∷ ys) = ap (λ rest. y ∷ rest) (append_none ys)

module _ (laws : (query : Query) (rows : List Joined) (row : Joined) →
    kept_of query (rows ++ row ∷ []) ≡ cond (is_kept query row) (kept_of query rows ++ row ∷ []) (kept_of query rows))
    (query : Query) (dimensions : List (List DimensionRow)) (snapshot : ℕ) where
  abbrev seen : Version → Bool
  seen version = is_visible version.begin version.end snapshot

  abbrev join : Version → Joined
  join version = joined_by_keys dimensions query version

  by : (sees : Bool) (versions : List Version) (version : Version) →
      kept_of query (map join (versions ++ cond sees (version ∷ []) []))
      ≡ cond (sees && is_kept query (join version)) (kept_of query (map join versions) ++ join version ∷ []) (kept_of query (map join versions))
  by true versions version = ap (kept_of query) (map-append join versions (version ∷ [])) ∙ laws query (map join versions) (join version)
  by false versions version = ap (λ all. kept_of query (map join all)) (append_none versions)

  pub kept_more : (versions : List Version) (version : Version) →
      kept_in query dimensions snapshot (versions ++ version ∷ [])
      ≡ cond (keeps query dimensions snapshot version) (kept_in query dimensions snapshot versions ++ join version ∷ []) (kept_in query dimensions snapshot versions)
  kept_more versions version =
      ap (λ all. kept_of query (map join all)) (filter-append seen versions (version ∷ []))
      ∙ by (seen version) (filter seen versions) version

pub fewer : {X : Type 0} (p : X → Bool) (xs : List X) → length (filter p xs) ≤ length xs
fewer p [] = omega arith
fewer p (x ∷ xs) = by (p x) (fewer p xs)
  where
    by : (is : Bool) → length (filter p xs) ≤ length xs → length (cond is (x ∷ filter p xs) (filter p xs)) ≤ suc (length xs)
    by true low = omega arith
    by false low = omega arith

few_kept : (query : Query) (rows : List Joined) → length (kept_of query rows) ≤ length rows
unfolding kept_of
few_kept query rows = fewer (is_kept query) rows

-- no more rows are kept than there are versions
pub few_in : (query : Query) (dimensions : List (List DimensionRow)) (snapshot : ℕ) (versions : List Version)
    → length (kept_in query dimensions snapshot versions) ≤ length versions
few_in query dimensions snapshot versions =
    let visible = filter (λ (version : Version). is_visible version.begin version.end snapshot) versions in
    let kept = few_kept query (map (joined_by_keys dimensions query) visible) in
    let all = length-map visible (joined_by_keys dimensions query) in
    let some = fewer (λ (version : Version). is_visible version.begin version.end snapshot) versions in
    omega arith
