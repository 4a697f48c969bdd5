-- What one row more does to groups, sums and the first value of an order.
use Rattle.std.proofs.Common.{◌≡◌, Bool, true, false, cond, List, [], ◌∷◌, ◌++◌, map, Some, refl, ap, ◌∙◌, ℤ, ◌+ℤ◌}
use Rattle.std.specs.List.{filter, fold, reduce}
use Rattle.std.specs.Option.{option_map_or}
use Rattle.std.specs.BTreeSet.{insert_key}
use Rattle.std.specs.Ordering.{is_eq}
use Rattle.std.proofs.lemmas.List.{append-nil, map-append}
use Rattle.std.proofs.lemmas.List.Elements.{filter-append}
use Rattle.std.proofs.lemmas.List.Sums.{fold-append}
use Rattle.star_values.specs.declared.value.Value.{Value}
use Rattle.star_plan.specs.declared.place.Place.{Place}
use Rattle.star_plan.specs.Joined.{Joined, is_kept, kept_of, value_at}
use Rattle.star_plan.specs.Groups.{groups_of, key_cmp, key_of, rows_of}
use Rattle.star_plan.specs.Answer.{integer_of, sum_at, sum_of}
use Rattle.star_plan.specs.Test.{Query}

-- what a fold makes of a list and one more
fold-more : {A B : Type 0} (f : B → A → B) (b : B) (xs : List A) (x : A) → fold f b (xs ++ x ∷ []) ≡ f (fold f b xs) x
fold-more f b xs x = fold-append f b xs (x ∷ [])

-- the same without a first value
reduce-more : {A : Type 0} (f : A → A → A) (xs : List A) (x : A) → reduce f (xs ++ x ∷ []) ≡ Some (option_map_or (λ first. f first x) (reduce f xs) x)
reduce-more f [] x = refl
reduce-more f (y ∷ xs) x = ap Some (fold-more f y xs x)

-- what a test keeps of a list and one more
kept_more : {A : Type 0} (xs : List A) (x : A) (t : Bool) → xs ++ cond t (x ∷ []) [] ≡ cond t (xs ++ x ∷ []) xs
kept_more xs x true = refl
kept_more xs x false = append-nil xs

filter-more : {A : Type 0} (p : A → Bool) (xs : List A) (x : A) → filter p (xs ++ x ∷ []) ≡ cond (p x) (filter p xs ++ x ∷ []) (filter p xs)
filter-more p xs x = filter-append p xs (x ∷ []) ∙ kept_more (filter p xs) x (p x)

pub groups-more : (places : List Place) (rows : List Joined) (row : Joined)
    → groups_of places (rows ++ row ∷ []) ≡ insert_key key_cmp (groups_of places rows) (key_of places row)
groups-more [] rows row = refl
groups-more (place ∷ places) rows row =
    ap (fold (insert_key key_cmp) []) (map-append (key_of (place ∷ places)) rows (row ∷ []))
    ∙ fold-more (insert_key key_cmp) [] (map (key_of (place ∷ places)) rows) (key_of (place ∷ places) row)

pub rows-more : (places : List Place) (key : List Value) (rows : List Joined) (row : Joined)
    → rows_of places key (rows ++ row ∷ [])
    ≡ cond (is_eq (key_cmp (key_of places row) key)) (rows_of places key rows ++ row ∷ []) (rows_of places key rows)
rows-more places key rows row = filter-more (λ other. is_eq (key_cmp (key_of places other) key)) rows row

pub kept-more : (query : Query) (rows : List Joined) (row : Joined)
    → kept_of query (rows ++ row ∷ []) ≡ cond (is_kept query row) (kept_of query rows ++ row ∷ []) (kept_of query rows)
unfolding kept_of
kept-more query rows row = filter-more (is_kept query) rows row

pub sum-more : (place : Place) (rows : List Joined) (row : Joined)
    → sum_at place (rows ++ row ∷ []) ≡ sum_at place rows +ℤ integer_of (value_at place row)
sum-more place rows row =
    let integer_at : Joined → ℤ = λ joined. integer_of (value_at place joined) in
    ap sum_of (map-append integer_at rows (row ∷ [])) ∙ fold-more ◌+ℤ◌ _ (map integer_at rows) (integer_at row)

-- the first value of an order over the values at a place
pub first-more : (first : Value → Value → Value) (place : Place) (rows : List Joined) (row : Joined)
    → reduce first (map (value_at place) (rows ++ row ∷ []))
    ≡ Some (option_map_or (λ found. first found (value_at place row)) (reduce first (map (value_at place) rows)) (value_at place row))
first-more first place rows row =
    ap (reduce first) (map-append (value_at place) rows (row ∷ [])) ∙ reduce-more first (map (value_at place) rows) (value_at place row)
