-- The part of a list from a place on.
use Rattle.std.proofs.Common.{◌≡◌, ℕ, ◌+◌, ◌-◌, ◌<◌, ◌≤◌, List, length, get_or, take, drop, ap, ◌∙◌, arith}
use Rattle.std.proofs.lemmas.List.{drop-drop, drop-take, get_or-drop, get_or-take, length-drop, length-take, take-take}

-- as many members as a part is to have
pub length-part : {X : Type 0} (xs : List X) (first count : ℕ) → first + count ≤ length xs → length (take count (drop first xs)) ≡ count
length-part xs first count within =
    let left = length-drop first xs in
    let taken = length-take count (drop first xs) in omega arith

-- a place of a part is one within it, if it is within the list
pub inside_part : {X : Type 0} (xs : List X) (first count place : ℕ) → place < count → first + place < length xs
    → place < length (take count (drop first xs))
inside_part xs first count place low within =
    let left = length-drop first xs in
    let taken = length-take count (drop first xs) in omega arith

-- a member of a part is one of the whole list
pub get_or-part : {X : Type 0} (xs : List X) (first count place : ℕ) (otherwise : X) → place < count
    → get_or (take count (drop first xs)) place otherwise ≡ get_or xs (first + place) otherwise
get_or-part xs first count place otherwise low = get_or-take count (drop first xs) place otherwise low ∙ get_or-drop first xs place otherwise

-- a part of a part is one of the whole list
pub part-part : {X : Type 0} (xs : List X) (first count from more : ℕ) → from + more ≤ count
    → take more (drop from (take count (drop first xs))) ≡ take more (drop (first + from) xs)
part-part xs first count from more within =
    let whole : count ≡ from + (count - from) = omega arith in
    ap (λ n. take more (drop from (take n (drop first xs)))) whole
    ∙ ap (take more) (drop-take from (count - from) (drop first xs))
    ∙ take-take more (count - from) (drop from (drop first xs)) (omega arith)
    ∙ ap (take more) (drop-drop from first xs)
