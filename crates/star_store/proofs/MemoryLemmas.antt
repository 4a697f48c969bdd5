-- The replies to statements are `memory` exactly at the places where memory was wanted.
use Rattle.std.proofs.Common.{◌≡◌, ℕ, zero, suc, ◌+◌, ◌<◌, ◌≤◌, Bool, true, false, cond, ◌&&◌, ◌||◌, ◌==◌, List, [], ◌∷◌, length, Option, Result, Ok, Err, refl, ap, ◌∙◌, arith}
use Rattle.std.specs.Prelude.{is_none, if◌then◌else◌}
use Rattle.std.specs.List.{filter, range_with_len}
use Rattle.std.proofs.lemmas.Bool.{eqb-false, eqb-true, ne_eqb}
use Rattle.star_values.specs.declared.refusal.Refusal.{Refusal}
use Rattle.star_values.specs.declared.refusal.Refusal.TheVariants.{OutOfOrder}
use Rattle.script_reader.specs.declared.statement.Statement.{Statement}
use Rattle.script_reader.specs.declared.statement.Block.{Block}
use Rattle.star_parser.specs.Statement as written
use Rattle.star_plan.specs.Test.{Query, Test}
use Rattle.star_plan.specs.declared.answer.Answer.{Answer}
use Rattle.star_plan.specs.declared.answer.Answer.TheVariants as answer
use Rattle.star_plan.specs.declared.table_def.TableDef.{TableDef}
use Rattle.star_plan.specs.Declaration.{declared_dimension, declared_fact}
use Rattle.star_binder.specs.Named.{where_conjuncts}
use Rattle.star_binder.specs.Refused.{bound_delete, bound_select}
use Rattle.star_binder.specs.Select.{select_of}
use Rattle.star_binder.specs.Table.{declared_table}
use Rattle.query_meaning.specs.Alone.{alone}
use Rattle.query_meaning.specs.History.{Change, DimensionDeclared, FactDeclared, store_of}
use Rattle.query_meaning.specs.Store.{Store}
use Rattle.star_store.specs.Deletes.{delete_change}
use Rattle.star_store.specs.Loads.{load_change}
use Rattle.reply_text.specs.declared.reply.Reply.{Reply}
use Rattle.reply_text.specs.declared.reply.Reply.TheVariants as reply
use Rattle.star_store.specs.Effect.{answer_reply, effect_of, reply_to}
use Rattle.star_store.specs.Memory.{is_memory, memory_places_from, wanted_places}
use Rattle.star_store.specs.Outcome.{Outcome, block_bytes, committed, declared, deleted, meaning_outcome, outcome_by, outcome_of, refused, selected}
use Rattle.star_store.specs.Script.{history_after, history_from, is_wanted_at, replies_after}
use Rattle.star_store.specs.Text.{meaning_of}
use Rattle.star_store.proofs.ValueLemmas.{either}

-- No statement that has its effect replies `memory`.

abbrev IsTold : Store → Outcome → Type 0
IsTold store outcome = is_memory (reply_to store outcome.told) ≡ false

declared-told : (store : Store) (change : TableDef → Change) (name : List ℕ) (found : Result TableDef Refusal) → IsTold store (declared change name found)
declared-told store change name (Ok table) = refl
declared-told store change name (Err reason) = refl

committed-told : (store : Store) (found : Result Change Refusal) → IsTold store (committed store found)
committed-told store (Ok change) = refl
committed-told store (Err reason) = refl

deleted-told : (store : Store) (condition : Result (Option Test) Refusal) → IsTold store (deleted store condition)
deleted-told store (Ok condition) = committed-told store (delete_change store condition)
deleted-told store (Err reason) = refl

answer-told : (snapshot : ℕ) (found : Answer) → is_memory (answer_reply snapshot found) ≡ false
answer-told snapshot (answer.Rows rows) = refl
answer-told snapshot answer.Overflow = refl

selected-told : (store : Store) (query : Result Query Refusal) → IsTold store (selected store query)
selected-told store (Ok query) = answer-told store.commits (alone store query store.commits)
selected-told store (Err reason) = refl

meaning-told : (store : Store) (block : Block) (meaning : written.Statement) → IsTold store (meaning_outcome store block meaning)
meaning-told store block (written.Dimension name columns) =
    declared-told store DimensionDeclared name (declared_dimension store.schema (declared_table store.schema (written.Dimension name columns)))
meaning-told store block (written.Fact name columns) =
    declared-told store FactDeclared name (declared_fact store.schema (declared_table store.schema (written.Fact name columns)))
meaning-told store block (written.Load name header) = committed-told store (load_change store name header (block_bytes block))
meaning-told store block (written.Delete name condition) =
    let bound = bound_delete store.schema name (where_conjuncts condition) in
    either (IsTold store) (is_none store.schema.fact) (refused OutOfOrder) (deleted store bound) refl (deleted-told store bound)
meaning-told store block (written.Select items names condition groups) =
    let bound = bound_select store.schema (select_of items names condition groups) in
    either (IsTold store) (is_none store.schema.fact) (refused OutOfOrder) (selected store bound) refl (selected-told store bound)
meaning-told store block written.Wait = refl

outcome-told : (store : Store) (block : Block) (meaning : Result written.Statement Refusal) → IsTold store (outcome_by store block meaning)
outcome-told store block (Ok meaning) = meaning-told store block meaning
outcome-told store block (Err reason) = refl

pub never-memory : (store : Store) (statement : Statement) → is_memory (effect_of store statement).reply ≡ false
unfolding outcome_of
never-memory store statement = outcome-told store statement.block (meaning_of statement)

-- So the places of `memory` are those where it was wanted.

-- the places behind one reply more, which is `memory` where it was wanted, and else is not
places-more : (wanted : Bool) (place : ℕ) (first : Reply) (left right : List Reply) → is_memory first ≡ false
    → memory_places_from place (if wanted then reply.Memory ∷ left else (first ∷ right))
    ≡ (if wanted then place ∷ memory_places_from (suc place) left else memory_places_from (suc place) right)
places-more true place first left right told = refl
places-more false place first left right told =
    ap (λ memory. if memory then place ∷ memory_places_from (suc place) right else memory_places_from (suc place) right) told

same-places : (wanted : Bool) (place : ℕ) (left right rest : List ℕ) → left ≡ rest → right ≡ rest
    → (if wanted then place ∷ left else right) ≡ cond wanted (place ∷ rest) rest
same-places true place left right rest e f = ap (λ places. place ∷ places) e
same-places false place left right rest e f = f

pub places-wanted : (wanted : List ℕ) (place : ℕ) (history : List Change) (statements : List Statement)
    → memory_places_from place (replies_after wanted place history statements) ≡ wanted_places wanted place statements
places-wanted wanted place history [] = refl
places-wanted wanted place history (statement ∷ statements) =
    let more : suc place ≡ place + 1 = omega arith in
    let next = ap (λ from. wanted_places wanted from statements) more in
    places-more (is_wanted_at wanted place) place (effect_of (store_of history) statement).reply (replies_after wanted (suc place) history statements)
    (replies_after wanted (suc place) (history_after history statement) statements) (never-memory (store_of history) statement)
    ∙ same-places (is_wanted_at wanted place) place (memory_places_from (suc place) (replies_after wanted (suc place) history statements))
    (memory_places_from (suc place) (replies_after wanted (suc place) (history_after history statement) statements))
    (wanted_places wanted (place + 1) statements) (places-wanted wanted (suc place) history statements ∙ next)
    (places-wanted wanted (suc place) (history_after history statement) statements ∙ next)

-- Whether a place is one of some numbers in a range that pass a test.

put-found : (passed : Bool) (number place : ℕ) (rest : List ℕ)
    → is_wanted_at (cond passed (number ∷ rest) rest) place ≡ ((passed && (number == place)) || is_wanted_at rest place)
put-found true number place rest = refl
put-found false number place rest = refl

here-found : (passed rest : Bool) → rest ≡ false → ((passed && true) || rest) ≡ passed
here-found true rest e = refl
here-found false rest e = e

found-later : (passed rest : Bool) → ((passed && false) || rest) ≡ rest
found-later true rest = refl
found-later false rest = refl

found-above : (p : ℕ → Bool) (from count place : ℕ) → place < from → is_wanted_at (filter p (range_with_len from count)) place ≡ false
found-above p from zero place low = refl
found-above p from (suc count) place low =
    put-found (p from) from place (filter p (range_with_len (from + 1) count))
    ∙ ap (λ same. (p from && same) || is_wanted_at (filter p (range_with_len (from + 1) count)) place) (ne_eqb from place (λ e. omega arith))
    ∙ found-later (p from) (is_wanted_at (filter p (range_with_len (from + 1) count)) place)
    ∙ found-above p (from + 1) count place (omega arith)

found-among : (p : ℕ → Bool) (from count place : ℕ) → from ≤ place → place < from + count
    → is_wanted_at (filter p (range_with_len from count)) place ≡ p place
found-among p from zero place low high = absurd (omega arith)
found-among p from (suc count) place low high =
    by (from == place) refl (λ above below. found-among p (from + 1) count place above below)
  where
    rest : List ℕ
    rest = filter p (range_with_len (from + 1) count)

    by : (same : Bool) → (from == place) ≡ same → (from + 1 ≤ place → place < (from + 1) + count → is_wanted_at rest place ≡ p place)
        → is_wanted_at (filter p (range_with_len from (suc count))) place ≡ p place
    by true e later =
        let here : from ≡ place = eqb-true from place e in
        put-found (p from) from place rest ∙ ap (λ same. (p from && same) || is_wanted_at rest place) e
        ∙ here-found (p from) (is_wanted_at rest place) (found-above p (from + 1) count place (omega arith)) ∙ ap p here
    by false e later =
        put-found (p from) from place rest ∙ ap (λ same. (p from && same) || is_wanted_at rest place) e
        ∙ found-later (p from) (is_wanted_at rest place) ∙ later (omega (arith, eqb-false from place e)) (omega arith)

-- Replies and history hang on the places of statements alone.

-- the same places are wanted among those of these statements
abbrev AreSameAt : (wanted other : List ℕ) → (place : ℕ) → List Statement → Type 0
AreSameAt wanted other place statements =
    (at : ℕ) → place ≤ at → at < place + length statements → is_wanted_at wanted at ≡ is_wanted_at other at

by-place : {A : Type 0} {test test' : Bool} {left left' right right' : A} → test ≡ test' → left ≡ left' → right ≡ right'
    → (if test then left else right) ≡ (if test' then left' else right')
by-place e f g = λ i. if e i then f i else g i

same-replies : (wanted other : List ℕ) (place : ℕ) (history : List Change) (statements : List Statement) → AreSameAt wanted other place statements
    → replies_after wanted place history statements ≡ replies_after other place history statements
same-replies wanted other place history [] same = refl
same-replies wanted other place history (statement ∷ statements) same =
    let behind : AreSameAt wanted other (suc place) statements = λ at low high. same at (omega arith) (omega arith) in
    by-place (same place (omega arith) (omega arith))
    (ap (λ replies. reply.Memory ∷ replies) (same-replies wanted other (suc place) history statements behind))
    (ap (λ replies. (effect_of (store_of history) statement).reply ∷ replies)
    (same-replies wanted other (suc place) (history_after history statement) statements behind))

same-history : (wanted other : List ℕ) (place : ℕ) (history : List Change) (statements : List Statement) → AreSameAt wanted other place statements
    → history_from wanted place history statements ≡ history_from other place history statements
same-history wanted other place history [] same = refl
same-history wanted other place history (statement ∷ statements) same =
    let behind : AreSameAt wanted other (suc place) statements = λ at low high. same at (omega arith) (omega arith) in
    by-place (same place (omega arith) (omega arith)) (same-history wanted other (suc place) history statements behind)
    (same-history wanted other (suc place) (history_after history statement) statements behind)

told-places : (wanted : List ℕ) (place : ℕ) (history : List Change) (statements : List Statement)
    → AreSameAt (memory_places_from place (replies_after wanted place history statements)) wanted place statements
told-places wanted place history statements = λ at low high.
    ap (λ places. is_wanted_at places at) (places-wanted wanted place history statements)
    ∙ found-among (is_wanted_at wanted) place (length statements) at low high

-- the places that the replies tell have the same replies
pub replies-told : (wanted : List ℕ) (place : ℕ) (history : List Change) (statements : List Statement)
    → replies_after (memory_places_from place (replies_after wanted place history statements)) place history statements
    ≡ replies_after wanted place history statements
replies-told wanted place history statements =
    same-replies (memory_places_from place (replies_after wanted place history statements)) wanted place history statements
    (told-places wanted place history statements)

-- and the same history
pub history-told : (wanted : List ℕ) (place : ℕ) (history : List Change) (statements : List Statement)
    → history_from (memory_places_from place (replies_after wanted place history statements)) place history statements
    ≡ history_from wanted place history statements
history-told wanted place history statements =
    same-history (memory_places_from place (replies_after wanted place history statements)) wanted place history statements
    (told-places wanted place history statements)
