-- Members that are appended one after the other.
use Rattle.std.proofs.Common.{◌≡◌, ℕ, ◌+◌, ◌<◌, ◌≤◌, List, [], ◌∷◌, ◌++◌, length, refl, ap, arith}
use Rattle.std.proofs.lemmas.List.{length-append}

-- while a member is left, fewer were appended than there is room for
pub room_for_one : {X : Type 0} (done left front back more : List X) (x : X) (most : ℕ) → done ++ left ≡ front ++ back → left ≡ x ∷ more
    → length front + length back ≤ most → length done < most
room_for_one done left front back more x most all next few =
    let halves = length-append done left in
    let parts = length-append front back in
    let same = ap length all in
    let one = ap length next in omega arith

-- none is left where their count is 0
pub none_left : {X : Type 0} (left : List X) (count : ℕ) → count ≡ length left → count ≡ 0 → left ≡ []
none_left [] count same none = refl
none_left (x ∷ left) count same none = absurd (omega arith)
