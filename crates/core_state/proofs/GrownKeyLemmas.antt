-- What is found in tables by keys and snapshots is found there after they have grown.
use Rattle.core_state.proofs.Words.{◌&&◌, ◌++◌, ◌<◌, ◌∙◌, ◌∷◌, ◌≡◌, ◌≤◌, [], All, All-head, All-tail, ap, arith, Bool, cond, DimensionRow, false, Flight, foreign_key, get_or_append_left, has_key, has_passed, IfSome, index_of, is_matched, IsMatched, IsPlaceOf, Joined, joined, joined_row, keeps_so_far, key_number, length, length-append, List, list_all, nat_le, nat_tests, None, OnRoster, Option, option_map_or, passes, PlainVersion, position-Some, position_there, Query, range_with_len, refl, row_of_key, rows_in, Some, Store, subst, sym, takes_at, true, ℕ}
use Rattle.std.specs.List.{find, position}
use Rattle.std.specs.Option.{option_or}
use Rattle.std.proofs.lemmas.List.Folds.{find-append}
use Rattle.std.proofs.lemmas.List.Sums.{position_or_len_is}
use Rattle.star_values.specs.declared.value.Value as cell
use Rattle.query_meaning.specs.Alone.{joined_with}
use Rattle.core_state.proofs.GrownRowsLemmas.{Behind, Grows, Stays}

-- Key numbers.

-- the first that passes stays the first where more come behind it
position-behind : {X : Type 0} (p : X → Bool) (xs ys : List X) (place : ℕ) (d : X) → position p xs ≡ Some place
    → position p (xs ++ ys) ≡ Some place
position-behind p xs ys place d found =
    let stands = position-Some p xs place d found in
    let longer : place < length (xs ++ ys) = let low = stands.0 in omega (arith, length-append xs ys) in
    let here = ap p (get_or_append_left xs ys d place stands.0) ∙ stands.1 in
    position_there p (xs ++ ys) place d longer here
    ∙ ap Some (position_or_len_is p (xs ++ ys) place d (omega arith)
    (λ k low. ap p (get_or_append_left xs ys d k (let within = stands.0 in omega arith)) ∙ stands.2 k low) (λ _. here))

index-behind : (commits : ℕ) (rows others : List DimensionRow) (key : cell.Value) (place : ℕ) → Behind commits rows others
    → index_of rows key ≡ Some place → index_of others key ≡ Some place
index-behind commits rows others key place behind found =
    subst (λ all. index_of all key ≡ Some place) (sym behind.1)
    (position-behind (has_key key) rows behind.0 place (record { row = []; commit = 0 }) found)

-- the key number of a row whose foreign keys have places stays
pub key-stays : (before after : Store) (row : List cell.Value) (begin dimension : ℕ) → Grows before after
    → IsMatched before.schema before.dimensions row begin → key_number after row dimension ≡ key_number before row dimension
key-stays before after row begin dimension grows matched =
    ap (λ schema. option_map_or (number_in (rows_in after.dimensions dimension)) (foreign_key schema dimension row) 0) grows.schema
    ∙ by_key (foreign_key before.schema dimension row) (matched dimension)
  where
    number_in : List DimensionRow → cell.Value → ℕ
    number_in rows key = option_map_or (λ place. place) (index_of rows key) 0

    by_key : (o : Option cell.Value) → IfSome o (λ key. (place : ℕ) × IsPlaceOf (rows_in before.dimensions dimension) key begin place)
        → option_map_or (number_in (rows_in after.dimensions dimension)) o 0 ≡ option_map_or (number_in (rows_in before.dimensions dimension)) o 0
    by_key None place = refl
    by_key (Some key) place = ap (λ o. option_map_or (λ number. number) o 0)
        (index-behind before.commits (rows_in before.dimensions dimension) (rows_in after.dimensions dimension) key place.0
        (grows.rows dimension) place.1.found ∙ sym place.1.found)

-- Joined rows.

find-nothing : {X : Type 0} (p : X → Bool) (xs : List X) → All (λ x. p x ≡ false) xs → find p xs ≡ None
find-nothing p [] none = refl
find-nothing {X = X} p (x ∷ xs) none =
    ap (λ t. cond {A = Option X} t (Some x) (find p xs)) (All-head (λ y. p y ≡ false) x xs none)
    ∙ find-nothing p xs (All-tail (λ y. p y ≡ false) x xs none)

late : (commit snapshot : ℕ) (key : cell.Value) (row : List cell.Value) → snapshot < commit
    → is_matched snapshot key (record { row = row; commit = commit }) ≡ false
late commit snapshot key row later =
    let none : nat_le commit snapshot ≡ false = grind (arith, nat_tests) in
    ap (λ t. t && has_key key (record { row = row; commit = commit })) none

or-none : {X : Type 0} (o : Option X) → option_or o None ≡ o
or-none None = refl
or-none (Some x) = refl

-- a snapshot so far sees the same row of a key
row-behind : (commits snapshot : ℕ) (rows others : List DimensionRow) (key : cell.Value) → snapshot ≤ commits → Behind commits rows others
    → row_of_key others snapshot key ≡ row_of_key rows snapshot key
row-behind commits snapshot rows others key low behind =
    ap (λ all. row_of_key all snapshot key) behind.1
    ∙ ap (λ o. option_map_or (λ entry. entry.row) o [])
    (find-append (is_matched snapshot key) rows behind.0
    ∙ ap (option_or (find (is_matched snapshot key) rows))
    (find-nothing (is_matched snapshot key) behind.0 (λ k d within.
    let later = behind.2 k d within in late _ snapshot key _ (omega arith)))
    ∙ or-none (find (is_matched snapshot key) rows))

joined_row-stays : (before after : Store) (snapshot : ℕ) (row : List cell.Value) (dimension : ℕ) → Grows before after → snapshot ≤ before.commits
    → joined_row after snapshot row dimension ≡ joined_row before snapshot row dimension
joined_row-stays before after snapshot row dimension grows low =
    ap (λ schema. option_map_or (row_of_key (rows_in after.dimensions dimension) snapshot) (foreign_key schema dimension row) []) grows.schema
    ∙ by_key (foreign_key before.schema dimension row)
  where
    by_key : (o : Option cell.Value) → option_map_or (row_of_key (rows_in after.dimensions dimension) snapshot) o []
        ≡ option_map_or (row_of_key (rows_in before.dimensions dimension) snapshot) o []
    by_key None = refl
    by_key (Some key) = row-behind before.commits snapshot (rows_in before.dimensions dimension) (rows_in after.dimensions dimension) key low
        (grows.rows dimension)

-- a row is joined with the same rows at a snapshot so far
pub joined-stays : (before after : Store) (query : Query) (snapshot : ℕ) (row : List cell.Value) → Grows before after → snapshot ≤ before.commits
    → joined after query snapshot row ≡ joined before query snapshot row
joined-stays before after query snapshot row grows low =
    λ i. joined_with query row (λ dimension. joined_row-stays before after snapshot row dimension grows low i)

-- the same row of a version that stays is joined
pub version-joined : (before after : Store) (query : Query) (snapshot : ℕ) (version now : PlainVersion) → Grows before after
    → snapshot ≤ before.commits → Stays before.commits version now
    → joined after query snapshot now.row ≡ joined before query snapshot version.row
version-joined before after query snapshot version now grows low stays =
    joined-stays before after query snapshot now.row grows low ∙ ap (joined before query snapshot) stays.row

-- What a query keeps.

-- whether a query keeps a row, by whether it sees its version, and by what is joined
abbrev keeps_by : Flight → OnRoster → (seen : Bool) → (row : List cell.Value) → Joined → (count : ℕ) → Bool
keeps_by flight entry seen row all count =
    seen && (passes entry.query.fact row
    && list_all (λ dimension. cond {A = Bool} (has_passed flight dimension) (takes_at entry.query all dimension) true) (range_with_len 0 count))

-- a query keeps what it kept so far of a version that stays
pub keeps-stays : (before after : Store) (flight : Flight) (entry : OnRoster) (version now : PlainVersion) → Grows before after
    → entry.snapshot ≤ before.commits → Stays before.commits version now
    → keeps_so_far after flight entry now ≡ keeps_so_far before flight entry version
keeps-stays before after flight entry version now grows low stays =
    λ i. keeps_by flight entry (stays.seen entry.snapshot low i) (stays.row i)
    (version-joined before after entry.query entry.snapshot version now grows low stays i)
    (ap (λ schema. length schema.dimensions) grows.schema i)
