-- The laps of replies are the sum of those of their pieces.
use Rattle.script_run.proofs.Words.{◌*◌, ◌+◌, ◌-◌, ◌/◌, ◌<◌, ◌∙◌, ◌∷◌, ◌≡◌, [], Answer, ap, arith, Commit, laps_of, List, Memory, Overflow, Refused, Reply, rows_needed, sym, Table, Waited, ℕ}
use Rattle.std.specs.List.{sum_by}
use Rattle.std.proofs.Math.Nat.{add-mul-div_right}
use Rattle.std.proofs.lemmas.List.Sums.{sum_by-cons}
use Rattle.script_run.specs.Laps.{laps_of_pieces, places_of, queries_of_pieces}

-- full rows, and places after them
rows-after : (slots rows places : ℕ) → 0 < slots → rows_needed slots (rows * slots + places) ≡ rows + rows_needed slots places
rows-after slots rows places some =
    let all : rows * slots + places + (slots - 1) ≡ places + (slots - 1) + rows * slots = omega arith in
    let last = rows_needed slots places in
    let swap : last + rows ≡ rows + last = omega arith in
    ap (λ n. n / slots) all ∙ add-mul-div_right (places + (slots - 1)) rows some ∙ swap

-- the laps of the pieces, where so many queries come before the first reply
abbrev laps_from : (slots before : ℕ) → List Reply → ℕ
laps_from slots before replies = sum_by (rows_needed slots) (queries_of_pieces before replies)

-- a piece ends after full rows: the next one begins a row
piece-ends : (slots rows places : ℕ) (replies : List Reply) → 0 < slots
    → ((full : ℕ) → rows_needed slots (places_of slots (full * slots + 0) replies) ≡ full + laps_from slots 0 replies)
    → rows_needed slots (places_of slots (rows_needed slots (rows * slots + places) * slots) replies)
    ≡ rows + sum_by (rows_needed slots) (places ∷ queries_of_pieces 0 replies)
piece-ends slots rows places replies some rest =
    let more = rows_needed slots places in
    let full : (rows + more) * slots ≡ (rows + more) * slots + 0 = omega arith in
    let all : rows + more + laps_from slots 0 replies ≡ rows + (more + laps_from slots 0 replies) = omega arith in
    ap (λ n. rows_needed slots (places_of slots n replies)) (ap (λ n. n * slots) (rows-after slots rows places some) ∙ full)
    ∙ rest (rows + more) ∙ all ∙ ap (λ n. rows + n) (sym (sum_by-cons (rows_needed slots) places (queries_of_pieces 0 replies)))

-- one query more
query-more : (slots rows before : ℕ) (replies : List Reply)
    → rows_needed slots (places_of slots (rows * slots + (before + 1)) replies) ≡ rows + laps_from slots (before + 1) replies
    → rows_needed slots (places_of slots (rows * slots + before + 1) replies) ≡ rows + laps_from slots (before + 1) replies
query-more slots rows before replies rest =
    let one : rows * slots + before + 1 ≡ rows * slots + (before + 1) = omega arith in
    ap (λ n. rows_needed slots (places_of slots n replies)) one ∙ rest

laps-after : (slots rows before : ℕ) (replies : List Reply) → 0 < slots
    → rows_needed slots (places_of slots (rows * slots + before) replies) ≡ rows + laps_from slots before replies
laps-after slots rows before [] some =
    let last = rows_needed slots before in
    let alone : rows + last ≡ rows + (last + 0) = omega arith in
    rows-after slots rows before some ∙ alone ∙ ap (λ n. rows + n) (sym (sum_by-cons (rows_needed slots) before []))
laps-after slots rows before (Table name ∷ replies) some = laps-after slots rows before replies some
laps-after slots rows before (Commit number loaded ∷ replies) some = laps-after slots rows before replies some
laps-after slots rows before (Answer snapshot answer ∷ replies) some =
    query-more slots rows before replies (laps-after slots rows (before + 1) replies some)
laps-after slots rows before (Overflow snapshot ∷ replies) some =
    query-more slots rows before replies (laps-after slots rows (before + 1) replies some)
laps-after slots rows before (Memory ∷ replies) some =
    let one : rows * slots + before + 1 ≡ rows * slots + (before + 1) = omega arith in
    ap (λ n. rows_needed slots (places_of slots (rows_needed slots n * slots) replies)) one
    ∙ piece-ends slots rows (before + 1) replies some (λ full. laps-after slots full 0 replies some)
laps-after slots rows before (Refused reason ∷ replies) some = laps-after slots rows before replies some
laps-after slots rows before (Waited ∷ replies) some = piece-ends slots rows before replies some (λ full. laps-after slots full 0 replies some)

pub laps-add-up : (slots : ℕ) (replies : List Reply) → 0 < slots → laps_of slots replies ≡ laps_of_pieces slots replies
laps-add-up slots replies some =
    let first : 0 ≡ 0 * slots + 0 = omega arith in
    let all : 0 + laps_from slots 0 replies ≡ laps_from slots 0 replies = omega arith in
    ap (λ n. rows_needed slots (places_of slots n replies)) first ∙ laps-after slots 0 0 replies some ∙ all
