-- Lists in which something stands twice.
use Rattle.std.specs.Prelude.{◌≡◌, Bool, false, ◌||◌, List, [], ◌∷◌}
use Rattle.std.specs.List.{IsAllAdjacentAnswer, list_any}
use Rattle.std.specs.Ordering.{is_lt}
use Rattle.std.specs.declared.cmp.Ordering.{Ordering}

-- whether a member is the same as a later one
abbrev pub repeats : {A : Type 0} → (A → A → Bool) → List A → Bool
repeats same [] = false
repeats same (x ∷ xs) = list_any (same x) xs || repeats same xs

-- the answer says whether each member is below the next
abbrev pub Ascends : {A : Type 0} → (A → A → Ordering) → List A → Bool → Type 0
Ascends cmp xs answer = IsAllAdjacentAnswer (λ x y below. below ≡ is_lt (cmp x y)) xs answer
