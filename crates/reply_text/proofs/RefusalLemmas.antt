-- A refusal has one line: its number, its words and a line feed.
use Rattle.std.proofs.Common.{◌≡◌, ℕ, ◌<◌, ◌^◌, nat_lt, Bool, true, false, cond, List, [], ◌∷◌, ◌++◌, map, Option, Some, None, option_map, find, refl, ap, sym, subst, ◌∙◌, arith, append_assoc, Bor}
use Rattle.std.specs.Prelude.{codes, nat_eq, if◌then◌else◌}
use Rattle.std.specs.Option.{option_and_then, option_or}
use Rattle.std.specs.Fmt.{decimal, digits}
use Rattle.std.specs.List.{starts_with}
use Rattle.std.proofs.lemmas.Bool.Decides.{nat_tests}
use Rattle.star_values.specs.declared.refusal.Refusal.{Refusal}
use Rattle.star_values.specs.declared.refusal.Refusal.TheVariants.{Syntax, UnknownName, AmbiguousName, DuplicateName, TypeMismatch, MissingJoin, MixedConjunct, NotGrouped, BadRecord, DuplicateKey, DanglingReference, Limit, OutOfOrder, NotUtf8}
use Rattle.reply_text.specs.Text.{refusal_text}
use Rattle.reply_text.specs.Formed.{IsRefusal}
use Rattle.reply_text.specs.Reading.{Found, behind, entry_in, number_then, reason_at, reason_in, reasons, syntax_at}
use Rattle.reply_text.proofs.PartLemmas.{behind-exact, behind-sound, if_some, map_some, or_some, then_some}
use Rattle.reply_text.proofs.NumberLemmas.{number_then-exact, number_then-sound}

found_by : (entry : Bor (List ℕ) × Refusal) (rest : Option (Bor (List ℕ) × Refusal)) (rest' : Option (List ℕ × Refusal)) (b : Bool)
    → option_map (λ e. (e.0.now, e.1)) rest ≡ rest'
    → option_map (λ e. (e.0.now, e.1)) (cond b (Some entry) rest) ≡ cond b (Some (entry.0.now, entry.1)) rest'
found_by entry rest rest' true h = refl
found_by entry rest rest' false h = h

-- whether the lines of a table are borrowed or not
pub entry_in-read : (bytes : List ℕ) (table : List (Bor (List ℕ) × Refusal))
    → option_map (λ e. (e.0.now, e.1)) (find (λ e. starts_with nat_eq bytes e.0.now) table) ≡ entry_in (map (λ entry. (entry.0.now, entry.1)) table) bytes
entry_in-read bytes [] = refl
entry_in-read bytes (entry ∷ table) =
    found_by entry (find (λ e. starts_with nat_eq bytes e.0.now) table)
    (entry_in (map (λ entry. (entry.0.now, entry.1)) table) bytes) (starts_with nat_eq bytes entry.0.now) (entry_in-read bytes table)

-- the line of a refusal, in front of the bytes behind it
abbrev pub refusal_line : Refusal → List ℕ → List ℕ
refusal_line refusal rest = refusal_text refusal ++ (codes "\n" ++ rest)

-- a refusal stands at the front
abbrev pub IsRefusalAt : List ℕ → Refusal × List ℕ → Type 0
IsRefusalAt bytes out = IsRefusal out.0 × (bytes ≡ refusal_line out.0 out.1)

-- an entry of the table is the line of its refusal
abbrev IsEntry : List ℕ × Refusal → Type 0
IsEntry entry = IsRefusal entry.1 × (entry.0 ≡ refusal_text entry.1 ++ codes "\n")

abbrev AreEntries : List (List ℕ × Refusal) → Type 0
AreEntries [] = Unit {0}
AreEntries (entry ∷ table) = IsEntry entry × AreEntries table

find_by : (y x : List ℕ × Refusal) (found : Option (List ℕ × Refusal)) (b : Bool) → IsEntry y → (found ≡ Some x → IsEntry x) → cond b (Some y) found ≡ Some x → IsEntry x
find_by y x found true first rest e = let same : y ≡ x = grind (arith, e) in subst IsEntry same first
find_by y x found false first rest e = rest e

find_all : (test : List ℕ × Refusal → Bool) (table : List (List ℕ × Refusal)) (x : List ℕ × Refusal) → AreEntries table → find test table ≡ Some x → IsEntry x
find_all test [] x all e = absurd (cc)
find_all test (y ∷ ys) x all e = find_by y x (find test ys) (test y) all.0 (find_all test ys x all.1) e

reasons_are_lines : AreEntries reasons
unfolding reasons digits
reasons_are_lines =
    ((tt, refl), ((tt, refl), ((tt, refl), ((tt, refl), ((tt, refl), ((tt, refl), ((tt, refl), ((tt, refl), ((tt, refl), ((tt, refl), ((tt, refl), ((tt, refl), ((tt, refl), tt)))))))))))))

reason_in-sound : (table : List (List ℕ × Refusal)) (bytes : List ℕ) (out : Refusal × List ℕ) → AreEntries table → reason_in table bytes ≡ Some out → IsRefusalAt bytes out
reason_in-sound table bytes out all e =
    let f = then_some (λ entry. option_map (λ rest. (entry.1, rest)) (behind entry.0 bytes)) (entry_in table bytes) out e in
    let g = map_some (λ rest. (f.0.1, rest)) (behind f.0.0 bytes) out f.2 in
    let is = find_all (λ entry. starts_with nat_eq bytes entry.0) table f.0 all f.1 in
    let whole = behind-sound f.0.0 bytes g.0 g.1 in
    subst (IsRefusalAt bytes) g.2
    (is.0, whole ∙ ap (λ line. line ++ g.0) is.1 ∙ append_assoc (refusal_text f.0.1) (codes "\n") g.0)

reason_at-sound : (bytes : List ℕ) (out : Refusal × List ℕ) → reason_at bytes ≡ Some out → IsRefusalAt bytes out
unfolding reason_at
reason_at-sound bytes out e = reason_in-sound reasons bytes out reasons_are_lines e

-- a place below 2^32, from a number below 2^64
abbrev place_from : ℕ × List ℕ → Found Refusal
place_from f = if nat_lt f.0 (2 ^ 32) then Some (Syntax f.0, f.1) else None

syntax_front : (rest : List ℕ) → (place : ℕ) → refusal_line (Syntax place) rest ≡ codes "1 syntax at " ++ (decimal place ++ (codes "\n" ++ rest))
unfolding digits
syntax_front rest place = refl

syntax_at-sound : (bytes : List ℕ) (out : Refusal × List ℕ) → syntax_at bytes ≡ Some out → IsRefusalAt bytes out
unfolding syntax_at
syntax_at-sound bytes out e =
    let b = then_some (λ b. option_and_then place_from (number_then (codes "\n") b)) (behind (codes "1 syntax at ") bytes) out e in
    let f = then_some place_from (number_then (codes "\n") b.0) out b.2 in
    let found = if_some (nat_lt f.0.0 (2 ^ 32)) (Syntax f.0.0, f.0.1) out f.2 in
    let low = found.0 in
    let number = number_then-sound (codes "\n") b.0 f.0 f.1 in
    subst (IsRefusalAt bytes) found.1
    (grind (arith, nat_tests), behind-sound (codes "1 syntax at ") bytes b.0 b.1 ∙ ap (λ r. codes "1 syntax at " ++ r) number.1 ∙ sym (syntax_front f.0.1 f.0.0))

pub refusal_at-sound : (bytes : List ℕ) (out : Refusal × List ℕ) → option_or (syntax_at bytes) (reason_at bytes) ≡ Some out → IsRefusalAt bytes out
refusal_at-sound bytes out e = or_some (syntax_at bytes) (reason_at bytes) out e (syntax_at-sound bytes out) (reason_at-sound bytes out)

syntax_at-is : (bytes : List ℕ) → syntax_at bytes ≡ option_and_then (λ b. option_and_then place_from (number_then (codes "\n") b)) (behind (codes "1 syntax at ") bytes)
unfolding syntax_at
syntax_at-is bytes = refl

syntax_at-exact : (place : ℕ) (rest : List ℕ) → place < 2 ^ 32 → syntax_at (refusal_line (Syntax place) rest) ≡ Some (Syntax place, rest)
syntax_at-exact place rest low =
    let fits : place < 2 ^ 64 = omega arith in
    let small : nat_lt place (2 ^ 32) ≡ true = grind (arith, nat_tests) in
    let number = number_then-exact (codes "\n") place rest fits refl in
    ap syntax_at (syntax_front rest place)
    ∙ syntax_at-is (codes "1 syntax at " ++ (decimal place ++ (codes "\n" ++ rest)))
    ∙ ap (option_and_then (λ b. option_and_then place_from (number_then (codes "\n") b)))
    (behind-exact (codes "1 syntax at ") (decimal place ++ (codes "\n" ++ rest)))
    ∙ ap (option_and_then place_from) number
    ∙ ap (λ (t : Bool). if t then Some (Syntax place, rest) else None) small

pub refusal_at-exact : (refusal : Refusal) (rest : List ℕ) → IsRefusal refusal → option_or (syntax_at (refusal_line refusal rest)) (reason_at (refusal_line refusal rest)) ≡ Some (refusal, rest)
unfolding syntax_at reason_at reasons behind digits
refusal_at-exact (Syntax place) rest h = ap (λ found. option_or found (reason_at (refusal_line (Syntax place) rest))) (syntax_at-exact place rest h)
refusal_at-exact UnknownName rest h = refl
refusal_at-exact AmbiguousName rest h = refl
refusal_at-exact DuplicateName rest h = refl
refusal_at-exact TypeMismatch rest h = refl
refusal_at-exact MissingJoin rest h = refl
refusal_at-exact MixedConjunct rest h = refl
refusal_at-exact NotGrouped rest h = refl
refusal_at-exact BadRecord rest h = refl
refusal_at-exact DuplicateKey rest h = refl
refusal_at-exact DanglingReference rest h = refl
refusal_at-exact Limit rest h = refl
refusal_at-exact OutOfOrder rest h = refl
refusal_at-exact NotUtf8 rest h = refl
