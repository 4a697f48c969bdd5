-- The versions of a batch that a distributor folds into a slot are those that the core folds.
use Rattle.core_state.proofs.Words.{◌+◌, ◌<◌, ◌∙◌, ◌∷◌, ◌≡◌, [], add-one, All, All-cons, All-nil, ap, arith, bit_at, Bool, cond, cons_option, drop, eqb, eqb-true, false, filter, filter_map, get_or, Has, IfSome, length, List, map, None, Option, plain_version, PlainVersion, range_with_len, refl, slice_get, Some, suc, take, true, Version, versions_for, zero, ℕ}
use Rattle.std.specs.List.{zip}

-- what a function gives of numbers from one on is what it gives of those before
shifted : {X : Type 0} (f : ℕ → Option X) (count first : ℕ)
    → filter_map f (range_with_len (first + 1) count) ≡ filter_map (λ n. f (suc n)) (range_with_len first count)
shifted f zero first = refl
shifted f (suc count) first =
    ap (λ o. cons_option o (filter_map f (range_with_len (first + 1 + 1) count))) (ap f (add-one first))
    ∙ ap (cons_option (f (suc first))) (shifted f count (first + 1))

-- the members behind a place
pub slice_get-drop : {X : Type 0} (xs : List X) (first row : ℕ) → slice_get (drop first xs) row ≡ slice_get xs (first + row)
slice_get-drop xs zero row = ap (slice_get xs) (let same : row ≡ 0 + row = omega arith in same)
slice_get-drop [] (suc first) row = refl
slice_get-drop (x ∷ xs) (suc first) row =
    slice_get-drop xs first row ∙ ap (slice_get (x ∷ xs)) (let same : suc (first + row) ≡ suc first + row = omega arith in same)

-- of versions the one at a row, where the row has the bit of a slot
abbrev at_row : (slot : ℕ) → List ℕ → List Version → (row : ℕ) → Option PlainVersion
at_row slot bits versions row =
    cond {A = Option PlainVersion} (eqb (bit_at (get_or bits row 0) slot) 1) (slice_get (map plain_version versions) row) None

-- the versions whose rows have a bit are found by their numbers as by what stands beside them
pub same-versions : (slot : ℕ) (bits : List ℕ) (versions : List Version)
    → filter_map (at_row slot bits versions) (range_with_len 0 (length bits))
    ≡ map plain_version (versions_for slot bits (take (length bits) versions))
same-versions slot [] versions = refl
same-versions slot (word ∷ bits) [] =
    by_test (eqb (bit_at word slot) 1) (shifted (at_row slot (word ∷ bits) []) (length bits) 0 ∙ same-versions slot bits [] ∙ none bits)
  where
    none : (more : List ℕ) → map plain_version (versions_for slot more (take (length more) [])) ≡ []
    none [] = refl
    none (other ∷ more) = refl

    by_test : (t : Bool) → filter_map (at_row slot (word ∷ bits) []) (range_with_len 1 (length bits)) ≡ []
        → cons_option (cond {A = Option PlainVersion} t None None) (filter_map (at_row slot (word ∷ bits) []) (range_with_len 1 (length bits))) ≡ []
    by_test true rest = rest
    by_test false rest = rest
same-versions slot (word ∷ bits) (version ∷ versions) =
    by_test (eqb (bit_at word slot) 1)
    (shifted (at_row slot (word ∷ bits) (version ∷ versions)) (length bits) 0 ∙ same-versions slot bits versions)
  where
    left : List PlainVersion
    left = filter_map (at_row slot (word ∷ bits) (version ∷ versions)) (range_with_len 1 (length bits))

    right : List (ℕ × Version)
    right = filter (λ entry. eqb (bit_at entry.0 slot) 1) (zip bits (take (length bits) versions))

    by_test : (t : Bool) → left ≡ map plain_version (map (λ entry. entry.1) right)
        → cons_option (cond {A = Option PlainVersion} t (Some (plain_version version)) None) left
        ≡ map plain_version (map (λ entry. entry.1) (cond {A = List (ℕ × Version)} t ((word, version) ∷ right) right))
    by_test true rest = ap (λ vs. plain_version version ∷ vs) rest
    by_test false rest = rest

-- what holds of each version whose row has a bit holds of all that are found
pub all-versions : (P : Version → Type 0) (slot : ℕ) (bits : List ℕ) (versions : List Version)
    → ((row : ℕ) → row < length bits → Has (get_or bits row 0) slot → IfSome (slice_get versions row) P)
    → All P (versions_for slot bits (take (length bits) versions))
all-versions P slot [] versions each = All-nil P
all-versions P slot (word ∷ bits) [] each = All-nil P
all-versions P slot (word ∷ bits) (version ∷ versions) each =
    by_test (eqb (bit_at word slot) 1) refl
    (all-versions P slot bits versions (λ row low has. each (suc row) (omega arith) has))
  where
    right : List (ℕ × Version)
    right = filter (λ entry. eqb (bit_at entry.0 slot) 1) (zip bits (take (length bits) versions))

    by_test : (t : Bool) → eqb (bit_at word slot) 1 ≡ t → All P (map (λ entry. entry.1) right)
        → All P (map (λ entry. entry.1) (cond {A = List (ℕ × Version)} t ((word, version) ∷ right) right))
    by_test true is rest =
        All-cons P version (map (λ entry. entry.1) right) (each 0 (omega arith) (eqb-true (bit_at word slot) 1 is)) rest
    by_test false is rest = rest
