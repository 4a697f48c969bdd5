-- Entries of the first rows, as one row more comes behind them.
use Rattle.std.proofs.Common.{◌≡◌, ◌≢◌, ◌⊎◌, inl, inr, ℕ, zero, suc, ◌+◌, ◌<◌, ◌≤◌, List, [], ◌∷◌, ◌++◌, length, get_or, slice_get, slice_set, Some, refl, ap, sym, subst, ◌∙◌, arith}
use Rattle.std.specs.List.{refill}
use Rattle.std.proofs.lemmas.Bool.{cases_eq, cases_lt}
use Rattle.std.proofs.lemmas.List.{get_or_default, get_or_past, get_or-set_other, get_or-set_same, length-set}
use Rattle.std.proofs.lemmas.Result.{on_ok_weaker}
use Rattle.star_values.specs.declared.value.Value.{Value}
use Rattle.std.specs.Prelude.{ℤ, Result, Ok, Err, OnOk}
use Rattle.std.specs.Result.{result_and}
use Rattle.star_values.specs.declared.value.Value.TheVariants.{Int, Str}
use Rattle.star_values.specs.First.{AreFirst, HasInteger, HasText, HaveOneMore}
use Rattle.star_values.specs.declared.column_lists.TheConstants.{MAX_COLUMNS}

-- a member of a front is that of the whole list
front_get : {X : Type 0} (xs ys : List X) (i : ℕ) → i < length xs → slice_get (xs ++ ys) i ≡ slice_get xs i
front_get [] ys i low = absurd (omega arith)
front_get (x ∷ xs) ys zero low = refl
front_get (x ∷ xs) ys (suc i) low = front_get xs ys i (omega arith)

-- the member behind a front
last_get : {X : Type 0} (xs : List X) (x : X) → slice_get (xs ++ x ∷ []) (length xs) ≡ Some x
last_get [] x = refl
last_get (y ∷ xs) x = last_get xs x

got_low : {X : Type 0} (xs : List X) (i : ℕ) (x : X) → slice_get xs i ≡ Some x → i < length xs
got_low [] i x at = absurd (cc at)
got_low (y ∷ xs) zero x at = omega arith
got_low (y ∷ xs) (suc i) x at = let low = got_low xs i x at in omega arith

length_more : {X : Type 0} (xs : List X) (x : X) → length (xs ++ x ∷ []) ≡ length xs + 1
length_more [] x = refl
length_more (y ∷ xs) x = let more = length_more xs x in omega (arith, more)

-- entries of the first rows are so of a longer list
pub first_of_more : {T : Type 0} (has : List Value → T → Type 0) (rows : List (List Value)) (row : List Value) (entries : List T)
    → AreFirst has rows entries → AreFirst has (rows ++ row ∷ []) entries
first_of_more has rows row entries first = record {
  few = (let more = length_more rows row in let few = first.few in omega (arith, more, few));
  each = λ place other entry at there.
      let low = got_low entries place entry there in
      first.each place other entry (sym (front_get rows (row ∷ []) place (let few = first.few in omega (arith, few, low))) ∙ at) there;
}

-- columns of which one has the entries of one row more, and those before it as well
one_more_column : {T : Type 0} (has : ℕ → List Value → T → Type 0) (rows : List (List Value)) (row : List Value)
    (columns initial : List (List T)) (number : ℕ) (new read : List T) → number < length columns
    → (AreFirst (has number) rows (get_or columns number read) → AreFirst (has number) (rows ++ row ∷ []) new)
    → AreFirst (has number) rows (get_or initial number [])
    → get_or columns number [] ≡ get_or initial number []
    → ((column : ℕ) → column < number → AreFirst (has column) (rows ++ row ∷ []) (get_or columns column []))
    → (column : ℕ) → column < number + 1 → AreFirst (has column) (rows ++ row ∷ []) (get_or (slice_set columns number new) column [])
one_more_column has rows row columns initial number new read within step first same done column low = by (cases_eq column number)
  where
    by : (column ≡ number) ⊎ (column ≢ number) → AreFirst (has column) (rows ++ row ∷ []) (get_or (slice_set columns number new) column [])
    by (inl here) =
        subst (λ k. AreFirst (has k) (rows ++ row ∷ []) (get_or (slice_set columns number new) k [])) (sym here)
        (subst (AreFirst (has number) (rows ++ row ∷ [])) (sym (get_or-set_same columns number new [] within))
        (step (subst (AreFirst (has number) rows) (sym (get_or_default columns number read [] within ∙ same)) first)))
    by (inr apart) =
        subst (AreFirst (has column) (rows ++ row ∷ [])) (sym (get_or-set_other columns number column new [] apart)) (done column (omega arith))

-- the columns behind it are as they were
others_left : {T : Type 0} (columns initial : List (List T)) (number : ℕ) (new : List T)
    → ((column : ℕ) → number ≤ column → get_or columns column [] ≡ get_or initial column [])
    → (column : ℕ) → number + 1 ≤ column → get_or (slice_set columns number new) column [] ≡ get_or initial column []
others_left columns initial number new left column high =
    get_or-set_other columns number column new [] (λ e. omega arith) ∙ left column (omega arith)

-- all columns have the entries of one row more: those that were walked over, and past the last one is none
all_columns : {T : Type 0} (has : ℕ → List Value → T → Type 0) (rows : List (List Value)) (row : List Value)
    (columns initial : List (List T)) (number : ℕ) → length columns ≤ number
    → ((column : ℕ) → AreFirst (has column) rows (get_or initial column []))
    → ((column : ℕ) → number ≤ column → get_or columns column [] ≡ get_or initial column [])
    → ((column : ℕ) → column < number → AreFirst (has column) (rows ++ row ∷ []) (get_or columns column []))
    → (column : ℕ) → AreFirst (has column) (rows ++ row ∷ []) (get_or columns column [])
all_columns has rows row columns initial number whole first left done column = by (cases_lt column number)
  where
    by : (column < number) ⊎ (number ≤ column) → AreFirst (has column) (rows ++ row ∷ []) (get_or columns column [])
    by (inl low) = done column low
    by (inr high) = first_of_more (has column) rows row (get_or columns column []) (subst (AreFirst (has column) rows) (sym (left column high)) (first column))

-- a column more of no entries shows nothing
pub no_entries_more : {T : Type 0} (columns : List (List T)) (column : ℕ) → get_or (columns ++ [] ∷ []) column [] ≡ get_or columns column []
no_entries_more [] zero = refl
no_entries_more [] (suc column) = refl
no_entries_more (c ∷ columns) zero = refl
no_entries_more (c ∷ columns) (suc column) = no_entries_more columns column

both_ok : {E P Q R : Type 0} (one other : Result (Unit {0}) E) → OnOk one P → OnOk other Q → (P → Q → R) → OnOk (result_and one other) R
both_ok (Ok x) (Ok y) p q join = join p q
both_ok (Ok x) (Err e) p q join = tt
both_ok (Err e) other p q join = tt

-- of two results that are both to be Ok
pub joined_ok : {E P Q R : Type 0} (one other both : Result (Unit {0}) E) → both ≡ result_and one other
    → OnOk one P → OnOk other Q → (P → Q → R) → OnOk both R
joined_ok {R} one other both is p q join = subst (λ result. OnOk result R) (sym is) (both_ok one other p q join)

-- the columns so far have one more, and so has the next
next_one_more : {T : Type 0} (has : ℕ → List Value → T → Type 0) (before : ℕ) (row : List Value)
    (columns initial : List (List T)) (number : ℕ) (new read : List T) → number < length columns
    → get_or columns number [] ≡ get_or initial number []
    → ((entry : T) → has number row entry → length (get_or columns number read) ≡ before → new ≡ get_or columns number read ++ entry ∷ [])
    → HaveOneMore has number before row initial columns
    → HaveOneMore has (number + 1) before row initial (slice_set columns number new)
next_one_more has before row columns initial number new read within same step done column entry low had counted = by (cases_eq column number)
  where
    by : (column ≡ number) ⊎ (column ≢ number) → get_or (slice_set columns number new) column [] ≡ get_or initial column [] ++ entry ∷ []
    by (inl here) =
        let all = get_or_default columns number read [] within ∙ same in
        subst (λ k. get_or (slice_set columns number new) k [] ≡ get_or initial k [] ++ entry ∷ []) (sym here)
        (get_or-set_same columns number new [] within
        ∙ step entry (subst (λ k. has k row entry) here had) (ap length all ∙ subst (λ k. length (get_or initial k []) ≡ before) here counted)
        ∙ ap (λ front. front ++ entry ∷ []) all)
    by (inr apart) = get_or-set_other columns number column new [] apart ∙ done column entry (omega arith) had counted

-- so have fewer of them
fewer_one_more : {T : Type 0} (has : ℕ → List Value → T → Type 0) (before : ℕ) (row : List Value) (columns initial : List (List T)) (number : ℕ)
    → length columns ≡ length initial → length columns ≤ number
    → HaveOneMore has number before row initial columns → HaveOneMore has (length initial) before row initial columns
fewer_one_more has before row columns initial number same all done column entry low = done column entry (omega arith)

-- the columns before a number have what a row has there behind what they had, and those from it on are as they were
pub record AreAppended {T E : Type 0} (has had : ℕ → List Value → T → Type 0) (before : ℕ) (row : List Value) (initial columns : List (List T))
    (number : ℕ) (result : Result (Unit {0}) E) : Type 0 where
  pub count : length columns ≡ length initial
  pub done : (rows : List (List Value)) → length rows ≡ before → ((column : ℕ) → AreFirst (has column) rows (get_or initial column []))
      → (column : ℕ) → column < number → AreFirst (has column) (rows ++ row ∷ []) (get_or columns column [])
  pub left : (column : ℕ) → number ≤ column → get_or columns column [] ≡ get_or initial column []
  pub kept : OnOk result (HaveOneMore had number before row initial columns)

-- and so has the next
pub appended_next : {T E : Type 0} (has had : ℕ → List Value → T → Type 0) (before : ℕ) (row : List Value) (initial columns : List (List T))
    (number : ℕ) (new read : List T) (one so_far both : Result (Unit {0}) E) → number < length initial → both ≡ result_and one so_far
    → ((rows : List (List Value)) → length rows ≡ before → AreFirst (has number) rows (get_or columns number read) → AreFirst (has number) (rows ++ row ∷ []) new)
    → OnOk one ((entry : T) → had number row entry → length (get_or columns number read) ≡ before → new ≡ get_or columns number read ++ entry ∷ [])
    → AreAppended has had before row initial columns number so_far
    → AreAppended has had before row initial (slice_set columns number new) (number + 1) both
appended_next has had before row initial columns number new read one so_far both low joined step kept i =
    let same = i.count in
    let within : number < length columns = omega arith in
    record {
      count = length-set columns number new ∙ same;
      done = λ rows counted first.
          one_more_column has rows row columns initial number new read within (step rows counted) (first number) (i.left number (omega arith))
          (i.done rows counted first);
      left = others_left columns initial number new i.left;
      kept = joined_ok one so_far both joined kept i.kept
          (next_one_more had before row columns initial number new read within (i.left number (omega arith)));
    }

-- all of them have it, once they were walked over
pub appended_first : {T E : Type 0} (has had : ℕ → List Value → T → Type 0) (before : ℕ) (row : List Value) (initial columns : List (List T))
    (number : ℕ) (result : Result (Unit {0}) E) → length initial ≤ number → AreAppended has had before row initial columns number result
    → (rows : List (List Value)) → length rows ≡ before → ((column : ℕ) → AreFirst (has column) rows (get_or initial column []))
    → (column : ℕ) → AreFirst (has column) (rows ++ row ∷ []) (get_or columns column [])
appended_first has had before row initial columns number result high i rows counted first =
    let same = i.count in all_columns has rows row columns initial number (omega arith) first i.left (i.done rows counted first)

pub appended_kept : {T E : Type 0} (has had : ℕ → List Value → T → Type 0) (before : ℕ) (row : List Value) (initial columns : List (List T))
    (number : ℕ) (result : Result (Unit {0}) E) → length initial ≤ number → AreAppended has had before row initial columns number result
    → OnOk result (HaveOneMore had (length initial) before row initial columns)
appended_kept has had before row initial columns number result high i =
    on_ok_weaker result (fewer_one_more had before row columns initial number i.count (let same = i.count in omega arith)) i.kept

-- all columns that are kept have one more: those that there were, and where there was no row those that were made
pub all_one_more : {T : Type 0} (has : ℕ → List Value → T → Type 0) (before : ℕ) (row : List Value) (old made new : List (List T))
    → ((column : ℕ) (entry : T) → has column row entry → column < length row)
    → ((column : ℕ) → get_or made column [] ≡ get_or old column [])
    → (before ≡ 0 → (column : ℕ) → column < length row → column < MAX_COLUMNS → column < length made)
    → HaveOneMore has (length made) before row made new → HaveOneMore has MAX_COLUMNS before row old new
all_one_more has before row old made new inside same are done column entry low had counted = by (cases_lt column (length made))
  where
    by : (column < length made) ⊎ (length made ≤ column) → get_or new column [] ≡ get_or old column [] ++ entry ∷ []
    by (inl within) = done column entry within had (ap length (same column) ∙ counted) ∙ ap (λ front. front ++ entry ∷ []) (same column)
    by (inr past) =
        let none = ap length (sym (get_or_past made column [] past) ∙ same column) ∙ counted in
        absurd (let within = are (sym none) column (inside column entry had) low in omega (arith, within, past))

-- columns that show the same have the entries of the first rows, too
pub made_first : {T : Type 0} (has : ℕ → List Value → T → Type 0) (rows : List (List Value)) (old made : List (List T))
    → ((column : ℕ) → get_or made column [] ≡ get_or old column [])
    → ((column : ℕ) → AreFirst (has column) rows (get_or old column [])) → (column : ℕ) → AreFirst (has column) rows (get_or made column [])
made_first has rows old made same first column = subst (AreFirst (has column) rows) (sym (same column)) (first column)

-- what is kept of a row, as it is put into the columns that are lent to be written over
pub kept_of_row : {T E : Type 0} (has : ℕ → List Value → T → Type 0) (before count : ℕ) (row : List Value) (old inside made lent new refilled : List (List T))
    (one other both : Result (Unit {0}) E)
    → ((column : ℕ) (entry : T) → has column row entry → column < length row)
    → both ≡ result_and one other → count ≡ length row → inside ≡ old → lent ≡ made → refilled ≡ new
    → ((column : ℕ) → get_or made column [] ≡ get_or inside column [])
    → OnOk one (before ≡ 0 → (column : ℕ) → column < count → column < MAX_COLUMNS → column < length made)
    → OnOk other (HaveOneMore has (length lent) before row lent new)
    → OnOk both (HaveOneMore has MAX_COLUMNS before row old refilled)
kept_of_row has before count row old inside made lent new refilled one other both within all counted view lends wrote same one_ok other_ok =
    joined_ok one other both all one_ok other_ok (λ are more.
    subst (HaveOneMore has MAX_COLUMNS before row old) (sym wrote)
    (all_one_more has before row old lent new within
    (λ column. ap (λ columns. get_or columns column []) lends ∙ same column ∙ ap (λ columns. get_or columns column []) view)
    (λ none column low few. subst (λ columns. column < length columns) (sym lends) (are none column (subst (λ n. column < n) (sym counted) low) few))
    more))

-- where a row has a value it has a column
pub integer_inside : (row : List Value) (column : ℕ) (integer : ℤ) → HasInteger column row integer → column < length row
integer_inside row column integer had = got_low row column (Int integer) had

pub text_inside : (row : List Value) (column code : ℕ) → HasText column row code → column < length row
text_inside row column code had = got_low row column (Str had.0) had.1

-- as many members as a list has replace all of them
pub refill_all : {X : Type 0} (old members : List X) → length members ≡ length old → refill (length old) old members ≡ members
refill_all [] [] same = refl
refill_all [] (x ∷ members) same = absurd (omega arith)
refill_all (y ∷ old) [] same = absurd (omega arith)
refill_all (y ∷ old) (x ∷ members) same = ap (λ rest. x ∷ rest) (refill_all old members (omega arith))

-- members that are written over, and once more by the same
pub refill_twice : {X : Type 0} (old members lent again : List X) → length members ≡ length old → lent ≡ refill (length old) old members → again ≡ lent
    → refill (length (refill (length old) old members)) (refill (length old) old members) again ≡ members
refill_twice old members lent again long lends same =
    let once = refill_all old members long in
    refill_all (refill (length old) old members) again (ap length (same ∙ lends)) ∙ same ∙ lends ∙ once
