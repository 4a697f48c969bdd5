-- The numbers of filters.
use Rattle.std.specs.Prelude.{◌≡◌, ℕ, ◌≤◌, List, [], ◌∷◌, ◌++◌, length, take, drop}
use Rattle.std.proofs.Common.{ap, sym, ◌∙◌, arith}
use Rattle.std.proofs.lemmas.List.{take-append-drop, length-take}

-- all numbers that a filter may have
abbrev pub all_numbers : List ℕ
all_numbers = 0 ∷ 1 ∷ 2 ∷ 3 ∷ 4 ∷ 5 ∷ 6 ∷ 7 ∷ []

-- the numbers that are in order, as many as there are
pub count_back : (numbers : List ℕ) (count : ℕ) → count ≤ 8 → length numbers ≡ 8
    → length (take count numbers) ≡ count
count_back numbers count few whole = let taken = length-take count numbers in omega arith

-- the numbers in order, and behind them the others, are all that are held
pub numbers_back : (numbers : List ℕ) (count : ℕ) → count ≤ 8 → length numbers ≡ 8
    → drop count numbers ≡ drop count all_numbers
    → take count numbers ++ drop (length (take count numbers)) all_numbers ≡ numbers
numbers_back numbers count few whole rest =
    ap (λ n. take count numbers ++ drop n all_numbers) (count_back numbers count few whole)
    ∙ ap (λ more. take count numbers ++ more) (sym rest)
    ∙ take-append-drop count numbers
