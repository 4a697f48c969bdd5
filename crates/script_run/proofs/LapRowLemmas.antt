-- Replies in rows of places: how many places they take at least, and how many rows these fill.
use Rattle.script_run.proofs.Words.{◌*◌, ◌+◌, ◌-◌, ◌/◌, ◌<◌, ◌∙◌, ◌∷◌, ◌≡◌, ◌≤◌, [], answer_reply, arith, awaited_by, count-cons, count_by, Entry, is_query, List, Memory, one_if, Pending, placed, Reply, rows_needed, Store, subst, sym, tables_by, take, Told, Waited, ℕ, ⊎_elim}
use Rattle.std.proofs.Math.Nat.{lt-mul-div-succ, le-div_iff_mul-le, mul-div_left, mul_comm, div-mul-le_self}
use Rattle.star_plan.specs.declared.answer.Answer as answers
use Rattle.star_plan.specs.declared.answer.Answer.TheVariants as answer
use Rattle.star_store.specs.Outcome as outcome
use Rattle.core_state.specs.Sent.{AnswersTold, AreRepliesTo, Given, Lost, Sent, pending_behind, pendings_of, told_behind}
use Rattle.script_run.specs.Laps.{places_of}

one-more : (q s : ℕ) → (q + 1) * s ≡ q * s + s
one-more q s = omega arith

-- rows hold the places that they are for
pub rows-hold : (slots places : ℕ) → 0 < slots → places ≤ rows_needed slots places * slots
rows-hold slots places some =
    let q = rows_needed slots places in
    let low : places + (slots - 1) < slots * (q + 1) = lt-mul-div-succ (places + (slots - 1)) some in
    let e : slots * (q + 1) ≡ q * slots + slots = mul_comm slots (q + 1) ∙ one-more q slots in
    omega (arith, low, e)

-- more places fill as many rows at least
pub rows-grow : (slots less more : ℕ) → 0 < slots → less ≤ more → less / slots ≤ more / slots
rows-grow slots less more some grows =
    (le-div_iff_mul-le {k = slots} {x = less / slots} {y = more} some).1
    (let low = div-mul-le_self less slots in omega (arith, low))

-- whole rows are full
pub rows-full : (slots rows : ℕ) → 0 < slots → rows * slots / slots ≡ rows
rows-full slots rows some = mul-div_left rows some

-- with a place more there is a row behind the full ones
pub rows-next : (slots less more : ℕ) → 0 < slots → less < more → less / slots + 1 ≤ rows_needed slots more
rows-next slots less more some grows =
    (le-div_iff_mul-le {k = slots} {x = less / slots + 1} {y = more + (slots - 1)} some).1
    (let low = div-mul-le_self less slots in omega (arith, low, one-more (less / slots) slots))

-- with as many places more as there are slots one row more is full
pub rows-fill : (slots less more : ℕ) → 0 < slots → less + slots ≤ more → less / slots + 1 ≤ more / slots
rows-fill slots less more some grows =
    (le-div_iff_mul-le {k = slots} {x = less / slots + 1} {y = more} some).1
    (let low = div-mul-le_self less slots in omega (arith, low, one-more (less / slots) slots))

-- the full rows are no more than all
pub rows-all : (slots less more : ℕ) → 0 < slots → less ≤ more → less / slots ≤ rows_needed slots more
rows-all slots less more some grows =
    (le-div_iff_mul-le {k = slots} {x = less / slots} {y = more + (slots - 1)} some).1
    (let low = div-mul-le_self less slots in omega (arith, low))

-- a reply takes no place away
placed-grows : (slots places : ℕ) (reply : Reply) → 0 < slots → places ≤ placed slots places reply
placed-grows slots places Memory some = let holds = rows-hold slots (places + 1) some in omega (arith, holds)
placed-grows slots places Waited some = rows-hold slots places some
placed-grows slots places other some = omega arith

pub places-grow : (slots places : ℕ) (replies : List Reply) → 0 < slots → places ≤ places_of slots places replies
places-grow slots places [] some = omega arith
places-grow slots places (reply ∷ replies) some =
    let first = placed-grows slots places reply some in
    let rest = places-grow slots (placed slots places reply) replies some in
    omega (arith, first, rest)

-- an answer takes a place, and so does `memory`
placed-answer : (slots places snapshot : ℕ) (answer : answers.Answer) → 0 < slots → places + 1 ≤ placed slots places (answer_reply snapshot answer)
placed-answer slots places snapshot (answer.Rows rows) some = omega arith
placed-answer slots places snapshot answer.Overflow some = omega arith

-- the reply to a query takes a place
placed-told : (slots places : ℕ) (store : Store) (told : Told) (reply : Reply) → 0 < slots → AnswersTold store told reply
    → places + one_if (is_query (awaited_by told)) ≤ placed slots places reply
placed-told slots places store (outcome.Replied told) reply some right =
    let grows = placed-grows slots places reply some in omega (arith, grows)
placed-told slots places store (outcome.Accepted query snapshot) reply some right = ⊎_elim
    (λ is. subst (λ reply. places + 1 ≤ placed slots places reply) (sym is) (placed-answer slots places snapshot _ some))
    (λ wants. subst (λ reply. places + 1 ≤ placed slots places reply) (sym wants) (rows-hold slots (places + 1) some)) right

-- the replies to what is waited for take a place for each query
pub places-told : (slots places : ℕ) (entries : List Entry) (due : List Sent) (replies : List Reply) → 0 < slots → AreRepliesTo entries due replies
    → places + count_by (λ p. is_query p.awaited) (pendings_of entries due) ≤ places_of slots places replies
places-told slots places entries [] [] some are = omega arith
places-told slots places entries [] (reply ∷ replies) some are = absurd are
places-told slots places entries (one ∷ due) [] some are = absurd are
places-told slots places entries (Lost statement ∷ due) (reply ∷ replies) some are =
    let here = placed-grows slots places reply some in
    let rest = places-told slots (placed slots places reply) entries due replies some are.1 in
    omega (arith, here, rest)
places-told slots places entries (Given number point statement ∷ due) (reply ∷ replies) some are =
    let before = take point entries in
    let here = placed-told slots places (tables_by before) (told_behind before statement) reply some are.0.1 in
    let rest = places-told slots (placed slots places reply) entries due replies some are.1 in
    let count = count-cons (λ (p : Pending). is_query p.awaited) (pending_behind number before statement) (pendings_of entries due) in
    omega (arith, here, rest, count)
