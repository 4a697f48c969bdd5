-- The error that a `?` hands on is the one that it was given.
use Rattle.std.proofs.Common.{◌≡◌, Result, Err, sym, ap, ◌∙◌}

same_error : {T E : Type 0} (x y : E) → ◌≡◌ {A = Result T E} (Err x) (Err y) → x ≡ y
same_error x y h = cc h

pub handed_on : {T U E : Type 0} (r : Result T E) (given fault : E) → (y : E) × (r ≡ Err y) × (y ≡ given) → r ≡ Err fault
    → ◌≡◌ {A = Result U E} (Err given) (Err fault)
handed_on {T = T} r given fault h is = ap Err (sym h.2 ∙ same_error {T = T} h.0 fault (sym h.1 ∙ is))
