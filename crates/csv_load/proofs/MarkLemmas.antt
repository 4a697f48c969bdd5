-- A byte order mark that stands in front is taken off, and csv finds none behind.
use Rattle.std.proofs.Common.{◌≡◌, ℕ, ◌≤◌, Bool, true, false, cond, nat_eq, ◌&&◌, List, [], ◌∷◌, length, take, drop, refl, arith}
use Rattle.std.specs.Cmp.Lexicographic.{pointwise}
use Rattle.csv.specs.Reading.{is_bom, strip_bom}
use Rattle.csv_load.specs.Records.{without_marks}

-- the bytes of the mark
abbrev pub mark : List ℕ
mark = 0xEF ∷ 0xBB ∷ 0xBF ∷ []

mark_by : (a b c : Bool) (found : Bool) → (a && (b && (c && true))) ≡ found → (a && b && c) ≡ found
mark_by true true true found h = h
mark_by true true false found h = h
mark_by true false c found h = h
mark_by false true c found h = h
mark_by false false c found h = h

short_of_mark : (x y : Bool) → (x && (y && false)) ≡ false
short_of_mark true true = refl
short_of_mark true false = refl
short_of_mark false y = refl

pub mark_taken : (block : List ℕ) → pointwise nat_eq (take 3 block) mark ≡ true → without_marks (drop 3 block) ≡ without_marks block
unfolding without_marks
mark_taken [] h = cc
mark_taken (a ∷ []) h = cc (short_of_mark true (nat_eq a 0xEF), h)
mark_taken (a ∷ b ∷ []) h = cc (short_of_mark (nat_eq a 0xEF) (nat_eq b 0xBB), h)
mark_taken (a ∷ b ∷ c ∷ rest) h =
    let found : is_bom a b c ≡ true = mark_by (nat_eq a 0xEF) (nat_eq b 0xBB) (nat_eq c 0xBF) true h in
    rw found

pub no_mark : (block : List ℕ) → pointwise nat_eq (take 3 block) mark ≡ false → block ≡ without_marks block
unfolding without_marks
no_mark [] h = refl
no_mark (a ∷ []) h = refl
no_mark (a ∷ b ∷ []) h = refl
no_mark (a ∷ b ∷ c ∷ rest) h =
    let found : is_bom a b c ≡ false = mark_by (nat_eq a 0xEF) (nat_eq b 0xBB) (nat_eq c 0xBF) false h in
    rw found

-- csv takes off one mark, and finds none where all are off
pub strip_bom-without_marks : (block : List ℕ) → strip_bom (without_marks block) ≡ without_marks block
unfolding without_marks strip_bom
strip_bom-without_marks [] = refl
strip_bom-without_marks (a ∷ []) = refl
strip_bom-without_marks (a ∷ b ∷ []) = refl
strip_bom-without_marks (a ∷ b ∷ c ∷ rest) = by (is_bom a b c) refl (strip_bom-without_marks rest)
  where
    by : (found : Bool) → is_bom a b c ≡ found → strip_bom (without_marks rest) ≡ without_marks rest
        → strip_bom (cond found (without_marks rest) (a ∷ b ∷ c ∷ rest)) ≡ cond found (without_marks rest) (a ∷ b ∷ c ∷ rest)
    by true e more = more
    by false e more = rw e

pub length-without_marks : (block : List ℕ) → length (without_marks block) ≤ length block
unfolding without_marks
length-without_marks [] = omega arith
length-without_marks (a ∷ []) = omega arith
length-without_marks (a ∷ b ∷ []) = omega arith
length-without_marks (a ∷ b ∷ c ∷ rest) = by (is_bom a b c) (length-without_marks rest)
  where
    by : (found : Bool) → length (without_marks rest) ≤ length rest → length (cond found (without_marks rest) (a ∷ b ∷ c ∷ rest)) ≤ length (a ∷ b ∷ c ∷ rest)
    by true more = omega (arith, more)
    by false more = omega arith
