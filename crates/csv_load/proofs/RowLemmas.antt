-- The row of a record is made value by value, and the rows of a block record by record.
use Rattle.std.proofs.Common.{◌≡◌, ◌≢◌, ℕ, zero, suc, ◌+◌, ◌<◌, Bool, true, false, cond, List, [], ◌∷◌, ◌++◌, length, get_or, drop, All, Option, Some, None, option_map, option_and_then, refl, ap, sym, subst, ◌∙◌, append_assoc, add-one, ℤ}
use Rattle.std.proofs.lemmas.List.{append-nil, drop_more}
use Rattle.std.proofs.lemmas.List.Elements.{All-nil, All-cons}
use Rattle.csv.specs.Records.{field_at}
use Rattle.star_values.specs.Integer.{integer_in}
use Rattle.star_values.specs.SmallText.{is_small_text}
use Rattle.star_values.specs.Value.{kind_of, kinds_in}
use Rattle.star_values.specs.declared.value.Kind.{Kind}
use Rattle.star_values.specs.declared.value.Kind.TheVariants as kind
use Rattle.star_values.specs.declared.value.Value.{Value}
use Rattle.star_values.specs.declared.value.Value.TheVariants.{Int, Str}
use Rattle.csv_load.specs.Rows.{field_value, typed_row, typed_rows}

-- a member, where there is one, in front of the others, where there are
abbrev in_front : {A : Type 0} → Option A → Option (List A) → Option (List A)
in_front first rest = option_and_then (λ x. option_map (λ xs. x ∷ xs) rest) first

in_front-none : {A : Type 0} (first : Option A) → in_front first None ≡ None
in_front-none None = refl
in_front-none (Some x) = refl

-- one member more stands in front of the rest
in_front-more : {A : Type 0} (done : List A) (x : A) (rest : Option (List A))
    → option_map (λ xs. (done ++ x ∷ []) ++ xs) rest ≡ option_map (λ xs. done ++ xs) (option_map (λ xs. x ∷ xs) rest)
in_front-more done x None = refl
in_front-more done x (Some xs) = ap Some (append_assoc done (x ∷ []) xs)

in_front-parts : {A : Type 0} (first : Option A) (rest : Option (List A)) (all : List A) → in_front first rest ≡ Some all
    → (x : A) × (xs : List A) × (first ≡ Some x) × (rest ≡ Some xs) × (x ∷ xs ≡ all)
in_front-parts None rest all h = cc h
in_front-parts (Some x) None all h = cc h
in_front-parts (Some x) (Some xs) all h = (x, xs, refl, refl, cc h)

-- the first members are those so far, and one more
with_more : {A : Type 0} (done now : List A) (x : A) (first : Option A) (left rest all : Option (List A))
    → option_map (λ more. done ++ more) left ≡ all → left ≡ in_front first rest → first ≡ Some x → now ≡ done ++ x ∷ []
    → option_map (λ more. now ++ more) rest ≡ all
with_more done now x first left rest all h parts is_some is_now =
    let step = rw (parts, is_some) at h in
    rw is_now (in_front-more done x rest ∙ step)

-- one that is missing leaves none
with_none : {A : Type 0} (done : List A) (first : Option A) (left rest all : Option (List A))
    → option_map (λ more. done ++ more) left ≡ all → left ≡ in_front first rest → first ≡ None → all ≡ None
with_none done first left rest all h parts is_none = sym (rw (parts, is_none) at h)

pub typed_row-uneven : (kinds : List Kind) (fields : List (List ℕ)) → length fields ≢ length kinds → typed_row kinds fields ≡ None
typed_row-uneven [] [] h = absurd (h refl)
typed_row-uneven [] (field ∷ fields) h = refl
typed_row-uneven (kind ∷ kinds) [] h = refl
typed_row-uneven (kind ∷ kinds) (field ∷ fields) h =
    rw (typed_row-uneven kinds fields (λ e. h (ap suc e))) (in_front-none (field_value kind field))

drop-field_at : (fields : List (List ℕ)) (i : ℕ) (field : List ℕ) → field_at fields i ≡ Some field → drop i fields ≡ field ∷ drop (suc i) fields
unfolding field_at
drop-field_at [] i field h = cc h
drop-field_at (f ∷ fs) zero field h = let same : f ≡ field = cc h in rw same
drop-field_at (f ∷ fs) (suc i) field h = drop-field_at fs i field h

drop-no_field : (fields : List (List ℕ)) (i : ℕ) → field_at fields i ≡ None → drop i fields ≡ []
unfolding field_at
drop-no_field [] zero h = refl
drop-no_field [] (suc i) h = refl
drop-no_field (f ∷ fs) zero h = cc h
drop-no_field (f ∷ fs) (suc i) h = drop-no_field fs i h

-- the row of what is left begins with the value of the next field
typed_row-at : (kinds : List Kind) (fields : List (List ℕ)) (i : ℕ) (field : List ℕ) → i < length kinds → field_at fields i ≡ Some field
    → typed_row (drop i kinds) (drop i fields)
    ≡ in_front (field_value (get_or kinds i kind.Int) field) (typed_row (drop (i + 1) kinds) (drop (i + 1) fields))
typed_row-at kinds fields i field low at = rw (drop_more kinds i kind.Int low, drop-field_at fields i field at, add-one i)

pub value_more : (done now : List Value) (kinds : List Kind) (fields : List (List ℕ)) (i : ℕ) (field : List ℕ) (value : Value) (all : Option (List Value))
    → option_map (λ more. done ++ more) (typed_row (drop i kinds) (drop i fields)) ≡ all
    → i < length kinds → Some field ≡ field_at fields i → field_value (get_or kinds i kind.Int) field ≡ Some value → now ≡ done ++ value ∷ []
    → option_map (λ more. now ++ more) (typed_row (drop (i + 1) kinds) (drop (i + 1) fields)) ≡ all
value_more done now kinds fields i field value all h low at is_value is_now =
    with_more done now value _ _ _ all h (typed_row-at kinds fields i field low (sym at)) is_value is_now

pub value_bad : (done : List Value) (kinds : List Kind) (fields : List (List ℕ)) (i : ℕ) (field : List ℕ) (all : Option (List Value))
    → option_map (λ more. done ++ more) (typed_row (drop i kinds) (drop i fields)) ≡ all
    → i < length kinds → Some field ≡ field_at fields i → field_value (get_or kinds i kind.Int) field ≡ None → all ≡ None
value_bad done kinds fields i field all h low at is_bad = with_none done _ _ _ all h (typed_row-at kinds fields i field low (sym at)) is_bad

pub value_missing : (done : List Value) (kinds : List Kind) (fields : List (List ℕ)) (i : ℕ) (all : Option (List Value))
    → option_map (λ more. done ++ more) (typed_row (drop i kinds) (drop i fields)) ≡ all
    → i < length kinds → None ≡ field_at fields i → all ≡ None
value_missing done kinds fields i all h low at =
    let none = drop-no_field fields i (sym at) in
    sym (rw (drop_more kinds i kind.Int low, none) at h)

pub row_more : (kinds : List Kind) (done now : List (List Value)) (left rest : List (List (List ℕ))) (fields : List (List ℕ)) (row : List Value) (all : Option (List (List Value)))
    → option_map (λ more. done ++ more) (typed_rows kinds left) ≡ all
    → left ≡ fields ∷ rest → typed_row kinds fields ≡ Some row → now ≡ done ++ row ∷ []
    → option_map (λ more. now ++ more) (typed_rows kinds rest) ≡ all
row_more kinds done now left rest fields row all h parts is_row is_now =
    with_more done now row _ _ _ all h (ap (typed_rows kinds) parts) is_row is_now

pub row_bad : (kinds : List Kind) (done : List (List Value)) (left rest : List (List (List ℕ))) (fields : List (List ℕ)) (all : Option (List (List Value)))
    → option_map (λ more. done ++ more) (typed_rows kinds left) ≡ all
    → left ≡ fields ∷ rest → typed_row kinds fields ≡ None → all ≡ None
row_bad kinds done left rest fields all h parts is_bad = with_none done _ _ _ all h (ap (typed_rows kinds) parts) is_bad

pub rows_done : (kinds : List Kind) (done : List (List Value)) (left : List (List (List ℕ))) (all : Option (List (List Value)))
    → option_map (λ more. done ++ more) (typed_rows kinds left) ≡ all → left ≡ [] → all ≡ Some done
rows_done kinds done left all h none = sym (rw (none, append-nil done) at h)

-- a value has the kind that was asked for
field_value-kind : (k : Kind) (field : List ℕ) (value : Value) → field_value k field ≡ Some value → kind_of value ≡ k
field_value-kind kind.Int field value h = by (integer_in field) h
  where
    by : (o : Option ℤ) → option_map Int o ≡ Some value → kind_of value ≡ kind.Int
    by None h = cc h
    by (Some n) h = let same : Int n ≡ value = cc h in subst (λ (v : Value). kind_of v ≡ kind.Int) same refl
field_value-kind kind.Text field value h = by (is_small_text field) h
  where
    by : (b : Bool) → cond {A = Option Value} b (Some (Str field)) None ≡ Some value → kind_of value ≡ kind.Text
    by false h = cc h
    by true h = let same : Str field ≡ value = cc h in subst (λ (v : Value). kind_of v ≡ kind.Text) same refl

pub typed_row-kinds : (kinds : List Kind) (fields : List (List ℕ)) (row : List Value) → typed_row kinds fields ≡ Some row → kinds_in row ≡ kinds
typed_row-kinds [] [] row h = let same : [] ≡ row = cc h in rw (← same)
typed_row-kinds [] (field ∷ fields) row h = cc h
typed_row-kinds (kind ∷ kinds) [] row h = cc h
typed_row-kinds (kind ∷ kinds) (field ∷ fields) row h =
    let parts = in_front-parts (field_value kind field) (typed_row kinds fields) row h in
    let first = field_value-kind kind field parts.0 parts.2 in
    let rest = typed_row-kinds kinds fields parts.1 parts.3 in
    rw (← parts.4) (λ i. first i ∷ rest i)

pub typed_rows-kinds : (kinds : List Kind) (records : List (List (List ℕ))) (rows : List (List Value)) → typed_rows kinds records ≡ Some rows
    → All (λ row. kinds_in row ≡ kinds) rows
typed_rows-kinds kinds [] rows h = let same : [] ≡ rows = cc h in rw (← same) (All-nil (λ row. kinds_in row ≡ kinds))
typed_rows-kinds kinds (fields ∷ records) rows h =
    let parts = in_front-parts (typed_row kinds fields) (typed_rows kinds records) rows h in
    rw (← parts.4) (All-cons (λ row. kinds_in row ≡ kinds) parts.0 parts.1 (typed_row-kinds kinds fields parts.0 parts.2) (typed_rows-kinds kinds records parts.1 parts.3))

pub typed_rows-length : (kinds : List Kind) (records : List (List (List ℕ))) (rows : List (List Value)) → typed_rows kinds records ≡ Some rows
    → length rows ≡ length records
typed_rows-length kinds [] rows h = let same : [] ≡ rows = cc h in rw (← same)
typed_rows-length kinds (fields ∷ records) rows h =
    let parts = in_front-parts (typed_row kinds fields) (typed_rows kinds records) rows h in
    rw (← parts.4) (ap suc (typed_rows-length kinds records parts.1 parts.3))
