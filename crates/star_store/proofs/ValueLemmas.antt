-- Values that a table may hold: in the rows of records, in the tables, and in joined rows.
use Rattle.std.proofs.Common.{◌≡◌, ℕ, zero, suc, ◌≤◌, ◌^◌, Bool, true, false, cond, ◌&&◌, nat_lt, nat_le, List, [], ◌∷◌, length, filter, Option, Some, None, All, ℤ, pos, neg_ℤ, FitsSigned, w64, refl, sym, ap, subst, arith}
use Rattle.std.specs.Prelude.{◌↔◌, IfSome, IsTrue, find, map, slice_index_or, option_map, if◌then◌else◌}
use Rattle.std.specs.Option.{option_and_then, option_map_or}
use Rattle.std.proofs.lemmas.Bool.Decides.{nat_tests}
use Rattle.std.proofs.lemmas.List.{get_or_past}
use Rattle.std.proofs.lemmas.List.Elements.{All-cons, All-head, All-nil, All-tail}
use Rattle.star_values.specs.Integer.{has_minus, integer_of, is_integer, magnitude_of}
use Rattle.star_values.specs.SmallText.{IsSmallText, is_small_text}
use Rattle.star_values.specs.declared.cell.Cell.TheVariants.{Full}
use Rattle.star_values.specs.declared.value.Kind.{Kind}
use Rattle.star_values.specs.declared.value.Kind.TheVariants as kind
use Rattle.star_values.specs.declared.value.Value.{Value}
use Rattle.star_values.specs.declared.value.Value.TheVariants.{Int, Str}
use Rattle.std.specs.Str.Parse.{digits_value}
use Rattle.reply_text.specs.Formed.{IsCell}
use Rattle.csv_load.specs.Rows.{field_value, typed_row, typed_rows}

-- a value that a cell of a reply may have
abbrev pub IsValue : Value → Type 0
IsValue value = IsCell (Full value)

abbrev pub AreValues : List Value → Type 0
AreValues row = All IsValue row

-- that the rule of texts is tested
abbrev pub TextsAreTested : Type 0
TextsAreTested = (bytes : List ℕ) → IsTrue (is_small_text bytes) ↔ IsSmallText bytes

pub zero-fits : IsValue (Int (pos 0))
zero-fits = record { sfits = omega arith }

-- ---- choices

pub either : {A : Type 0} (P : A → Type 0) (test : Bool) (one other : A) → P one → P other → P (if test then one else other)
either P true a b h k = h
either P false a b h k = k

pub map_or : {A B : Type 0} (Q : A → Type 0) (P : B → Type 0) (f : A → B) (o : Option A) (none : B)
    → IfSome o Q → ((x : A) → Q x → P (f x)) → P none → P (option_map_or f o none)
map_or Q P f None none h some k = k
map_or Q P f (Some x) none h some k = some x h

pub at-or : {A : Type 0} (P : A → Type 0) (xs : List A) (k : ℕ) (d : A) → All P xs → P d → P (slice_index_or xs k d)
at-or {A} P xs k d h p = by (nat_lt k (length xs)) refl
  where
    by : (t : Bool) → nat_lt k (length xs) ≡ t → P (slice_index_or xs k d)
    by true e = h k d (grind (arith, nat_tests))
    by false e = subst P (sym (get_or_past xs k d (grind (arith, nat_tests)))) p

pub found : {A : Type 0} (P : A → Type 0) (test : A → Bool) (xs : List A) → All P xs → IfSome (find test xs) P
found P test [] h = tt
found P test (x ∷ xs) h = either (λ o. IfSome o P) (test x) (Some x) (find test xs) (All-head P x xs h) (found P test xs (All-tail P x xs h))

pub filter-short : {A : Type 0} (p : A → Bool) (xs : List A) → length (filter p xs) ≤ length xs
filter-short p [] = omega arith
filter-short p (x ∷ xs) =
    let less = filter-short p xs in
    either (λ l. length l ≤ suc (length xs)) (p x) (x ∷ filter p xs) (filter p xs) (omega (arith, less)) (omega (arith, less))

pub length-map : {A B : Type 0} (f : A → B) (xs : List A) → length (map f xs) ≡ length xs
length-map f [] = refl
length-map f (x ∷ xs) = ap suc (length-map f xs)

-- ---- fields of records

fits-range : (minus : Bool) (n : ℕ) → cond minus (nat_le n (2 ^ 63)) (nat_lt n (2 ^ 63)) ≡ true → FitsSigned w64 (cond minus (neg_ℤ (pos n)) (pos n))
fits-range true zero h = record { sfits = omega arith }
fits-range true (suc n) h = record { sfits = grind (arith, nat_tests) }
fits-range false n h = record { sfits = grind (arith, nat_tests) }

and-right : (a b : Bool) → (a && b) ≡ true → b ≡ true
and-right true b h = h
and-right false b h = absurd (cc (h, h))

integer-fits : (bytes : List ℕ) → is_integer bytes ≡ true → FitsSigned w64 (integer_of bytes)
integer-fits bytes h = fits-range (has_minus bytes) (digits_value 10 (magnitude_of bytes)) (and-right _ _ h)

number-value : (test : Bool) (n : ℤ) → (test ≡ true → FitsSigned w64 n) → IfSome (option_map Int (if test then Some n else None)) IsValue
number-value true n h = h refl
number-value false n h = tt

text-value : (test : Bool) (text : List ℕ) → (test ≡ true → IsSmallText text) → IfSome (if test then Some (Str text) else None) IsValue
text-value true text h = h refl
text-value false text h = tt

field-value : TextsAreTested → (its : Kind) (field : List ℕ) → IfSome (field_value its field) IsValue
field-value tested kind.Int field = number-value (is_integer field) (integer_of field) (integer-fits field)
field-value tested kind.Text field = text-value (is_small_text field) field ((tested field).0)

consed : {A : Type 0} (P : A → Type 0) (first : Option A) (others : Option (List A)) → IfSome first P → IfSome others (All P)
    → IfSome (option_and_then (λ x. option_map (λ xs. x ∷ xs) others) first) (All P)
consed P None others h k = tt
consed P (Some x) None h k = tt
consed P (Some x) (Some xs) h k = All-cons P x xs h k

row-values : TextsAreTested → (kinds : List Kind) (fields : List (List ℕ)) → IfSome (typed_row kinds fields) AreValues
row-values tested [] [] = All-nil IsValue
row-values tested [] (field ∷ fields) = tt
row-values tested (its ∷ kinds) [] = tt
row-values tested (its ∷ kinds) (field ∷ fields) =
    consed IsValue (field_value its field) (typed_row kinds fields) (field-value tested its field) (row-values tested kinds fields)

-- the rows of records have values
pub rows-values : TextsAreTested → (kinds : List Kind) (records : List (List (List ℕ))) → IfSome (typed_rows kinds records) (All AreValues)
rows-values tested kinds [] = All-nil AreValues
rows-values tested kinds (fields ∷ records) =
    consed AreValues (typed_row kinds fields) (typed_rows kinds records) (row-values tested kinds fields) (rows-values tested kinds records)

longer : {A : Type 0} (n : ℕ) (first : Option A) (others : Option (List A)) → IfSome others (λ xs. length xs ≡ n)
    → IfSome (option_and_then (λ x. option_map (λ xs. x ∷ xs) others) first) (λ xs. length xs ≡ suc n)
longer n None others k = tt
longer n (Some x) None k = tt
longer n (Some x) (Some xs) k = ap suc k

-- and are as many
pub rows-count : (kinds : List Kind) (records : List (List (List ℕ))) → IfSome (typed_rows kinds records) (λ rows. length rows ≡ length records)
rows-count kinds [] = refl
rows-count kinds (fields ∷ records) = longer (length records) (typed_row kinds fields) (typed_rows kinds records) (rows-count kinds records)
