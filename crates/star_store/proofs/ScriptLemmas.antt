-- Every reply to a script within the limit is well-formed, so that the text of the replies tells them.
use Rattle.std.proofs.Common.{◌≡◌, ℕ, suc, ◌+◌, ◌<◌, ◌≤◌, ◌^◌, ◌==◌, Bool, List, [], ◌∷◌, ◌++◌, length, Option, Some, None, All, refl, sym, subst, arith}
use Rattle.std.specs.Prelude.{◌||◌, IfSome}
use Rattle.std.specs.Option.{option_map_or}
use Rattle.std.proofs.lemmas.List.Elements.{All-cons, All-head, All-nil, All-tail}
use Rattle.script_reader.specs.Script.{clipped, has_block, is_dot_line, is_ended, is_no_statement, line_text, lines_of, put_before, statements_in, statements_of, whole_lines}
use Rattle.script_reader.specs.declared.reader.TheConstants.{SCRIPT_LIMIT}
use Rattle.script_reader.specs.declared.statement.Statement.{Statement}
use Rattle.script_reader.specs.declared.statement.Block.TheVariants.{Absent, Closed, Unclosed}
use Rattle.star_plan.specs.declared.table.Table.TheVariants.{Fact}
use Rattle.query_meaning.specs.History.{Change, Loaded, after_change, store_of}
use Rattle.query_meaning.specs.Store.{Store, empty_store}
use Rattle.reply_text.specs.Formed.{IsWellFormed}
use Rattle.reply_text.specs.Text.{text_of, text_of_all}
use Rattle.reply_text.specs.declared.reply.Reply.{Reply}
use Rattle.reply_text.specs.declared.reply.Reply.TheVariants.{Table, Commit, Answer, Overflow, Memory, Refused, Waited}
use Rattle.star_store.specs.Effect.{effect_of, store_after}
use Rattle.star_store.specs.Outcome.{outcome_of}
use Rattle.star_store.specs.Script.{history_after, history_from, history_of, is_wanted_at, replies_after, replies_at, replies_of}
use Rattle.star_store.proofs.LawLemmas.{by_tables, grown}
use Rattle.star_store.proofs.ValueLemmas.{either, filter-short, map_or}
use Rattle.star_store.proofs.StoreLemmas.{IsKept, IsSmall, change-keeps, empty-kept}
use Rattle.star_store.proofs.FormedLemmas.{outcome-formed}
use Rattle.star_store.proofs.ReasonLemmas.{Below}

-- ---- how many statements there are

put-short : (byte : ℕ) (lines : List (List ℕ)) → length (put_before byte lines) ≤ suc (length lines)
put-short byte [] = omega arith
put-short byte (line ∷ lines) = omega arith

lines-few : (bytes : List ℕ) → length (lines_of bytes) ≤ length bytes
lines-few [] = omega arith
lines-few (byte ∷ bytes) =
    let rest = lines-few bytes in
    either (λ lines. length lines ≤ suc (length bytes)) (byte == 10) ((byte ∷ []) ∷ lines_of bytes) (put_before byte (lines_of bytes)) (omega (arith, rest))
    (omega (arith, rest, put-short byte (lines_of bytes)))

-- no more than lines, and one more where a block is open
record AreFew (ended : Bool) (lines : List (List ℕ)) : Type 0 where
  closed : length (statements_in ended None lines) ≤ length lines
  opened : (load : List ℕ × List ℕ) → length (statements_in ended (Some load) lines) ≤ suc (length lines)

statements-few : (ended : Bool) (lines : List (List ℕ)) → AreFew ended lines
statements-few ended [] = record {
  closed = omega arith;
  opened = λ load. either (λ (l : List Statement). length l ≤ 1) ended (record { line = load.0; block = Unclosed load.1 } ∷ []) [] (omega arith) (omega arith);
}
statements-few ended (line ∷ lines) =
    let rest = statements-few ended lines in
    let text = line_text line in
    let Few = λ (l : List Statement). length l ≤ suc (length lines) in
    record {
      closed = either Few (is_no_statement text) (statements_in ended None lines) _ (let few = rest.closed in omega (arith, few))
          (either Few (has_block text) (statements_in ended (Some (clipped text, [])) lines) (record { line = clipped text; block = Absent } ∷ statements_in ended None lines)
          (rest.opened (clipped text, [])) (let few = rest.closed in omega (arith, few)));
      opened = λ load. either (λ (l : List Statement). length l ≤ suc (suc (length lines))) (is_dot_line line)
          (record { line = load.0; block = Closed load.1 } ∷ statements_in ended None lines) (statements_in ended (Some (load.0, load.1 ++ line)) lines)
          (let few = rest.closed in omega (arith, few)) (let few = rest.opened (load.0, load.1 ++ line) in omega (arith, few));
    }

script-few : (ended : Bool) (script : List ℕ) → length (statements_of ended script) ≤ length script
script-few ended script =
    let few = (statements-few ended (whole_lines ended script)).closed in
    omega (arith, few, lines-few script, filter-short (λ line. ended || is_ended line) (lines_of script))

-- ---- replies, statement by statement

commits-next : (store : Store) (change : Change) → (after_change store change).commits ≤ suc store.commits
commits-next store (Loaded Fact rows) = omega arith
commits-next store other = omega arith

-- tables that so many statements may have made
record IsBefore (count : ℕ) (store : Store) : Type 0 where
  its : IsKept store
  commits : store.commits ≤ count

behind-change : (store : Store) (count : ℕ) (o : Option Change) → IsBefore count store → IfSome o (IsSmall store) → IsBefore (suc count) (option_map_or (after_change store) o store)
behind-change store count o h small =
    map_or (IsSmall store) (IsBefore (suc count)) (after_change store) o store small
    (λ change fits. record { its = change-keeps store change h.its fits; commits = let low = h.commits in omega (arith, low, commits-next store change) })
    (record { its = h.its; commits = let low = h.commits in omega (arith, low) })

later : (count : ℕ) (store : Store) → IsBefore count store → IsBefore (suc count) store
later count store h = record { its = h.its; commits = let low = h.commits in omega (arith, low) }

replies-formed : Below → (wanted : List ℕ) (place count : ℕ) (store : Store) (statements : List Statement) → IsBefore count store
    → count + length statements + 1 < 2 ^ 64 → All IsWellFormed (replies_at wanted place store statements)
replies-formed below wanted place count store [] h few = All-nil IsWellFormed
replies-formed below wanted place count store (statement ∷ statements) h few =
    let low = h.commits in
    let formed = outcome-formed below store statement h.its (omega (arith, low, few)) in
    either (All IsWellFormed) (is_wanted_at wanted place) (Memory ∷ replies_at wanted (suc place) store statements)
    ((effect_of store statement).reply ∷ replies_at wanted (suc place) (store_after store statement) statements)
    (All-cons IsWellFormed Memory (replies_at wanted (suc place) store statements) tt
    (replies-formed below wanted (suc place) (suc count) store statements (later count store h) (omega (arith, few))))
    (All-cons IsWellFormed (effect_of store statement).reply (replies_at wanted (suc place) (store_after store statement) statements) formed.reply
    (replies-formed below wanted (suc place) (suc count) (store_after store statement) statements
    (behind-change store count (outcome_of store statement).change h formed.change) (omega (arith, few))))

-- the tables behind statements
tables-before : Below → (wanted : List ℕ) (place count : ℕ) (history : List Change) (statements : List Statement) → IsBefore count (store_of history)
    → count + length statements + 1 < 2 ^ 64 → IsBefore (count + length statements) (store_of (history_from wanted place history statements))
tables-before below wanted place count history [] h few = subst (λ n. IsBefore n (store_of history)) (omega arith) h
tables-before below wanted place count history (statement ∷ statements) h few =
    let store = store_of history in
    let found = outcome_of store statement in
    let low = h.commits in
    let formed = outcome-formed below store statement h.its (omega (arith, low, few)) in
    let more : suc count + length statements ≡ count + length (statement ∷ statements) = omega arith in
    subst (λ n. IsBefore n (store_of (history_from wanted place history (statement ∷ statements)))) more
    (either (λ (all : List Change). IsBefore (suc count + length statements) (store_of all)) (is_wanted_at wanted place)
    (history_from wanted (suc place) history statements) (history_from wanted (suc place) (history_after history statement) statements)
    (tables-before below wanted (suc place) (suc count) history statements (later count store h) (omega (arith, few)))
    (tables-before below wanted (suc place) (suc count) (history_after history statement) statements
    (subst (IsBefore (suc count)) (sym (grown history found.change)) (behind-change store count found.change h formed.change)) (omega (arith, few))))

nothing-before : IsBefore 0 empty_store
nothing-before = record { its = empty-kept; commits = omega arith }

-- every reply to statements behind others
pub statements-formed : Below → (before wanted : List ℕ) (place : ℕ) (earlier statements : List Statement) → length earlier + length statements + 1 < 2 ^ 64
    → All IsWellFormed (replies_after wanted place (history_of before earlier) statements)
statements-formed below before wanted place earlier statements few =
    subst (All IsWellFormed) (sym (by_tables wanted place (history_of before earlier) statements))
    (replies-formed below wanted place (length earlier) (store_of (history_of before earlier)) statements
    (subst (λ n. IsBefore n (store_of (history_of before earlier))) (omega arith)
    (tables-before below before 0 0 [] earlier nothing-before (omega (arith, few)))) few)

-- every reply to a script within the limit
pub script-formed : Below → (wanted : List ℕ) (ended : Bool) (script : List ℕ) → length script ≤ SCRIPT_LIMIT
    → All IsWellFormed (replies_of wanted (statements_of ended script))
script-formed below wanted ended script short =
    let few = script-few ended script in
    statements-formed below [] wanted 0 [] (statements_of ended script) (omega (arith, few, short))

-- ---- what their text tells

text-some : (reply : Reply) (rest : List ℕ) → text_of reply ++ rest ≡ [] → ⊥
text-some (Table name) rest e = cc
text-some (Commit number rows) rest e = cc
text-some (Answer snapshot rows) rest e = cc
text-some (Overflow snapshot) rest e = cc
text-some Memory rest e = cc
text-some (Refused reason) rest e = cc
text-some Waited rest e = cc

-- that a reply at the front of bytes is the only one there
abbrev pub HaveOneSpelling : Type 0
HaveOneSpelling = (reply other : Reply) (rest more : List ℕ) → IsWellFormed reply → IsWellFormed other → text_of reply ++ rest ≡ text_of other ++ more
    → (reply ≡ other) × (rest ≡ more)

pub same-texts : HaveOneSpelling → (replies others : List Reply) → All IsWellFormed replies → All IsWellFormed others
    → text_of_all replies ≡ text_of_all others → replies ≡ others
same-texts spelled [] [] formed also e = refl
same-texts spelled [] (other ∷ others) formed also e = absurd (text-some other (text_of_all others) (sym e))
same-texts spelled (reply ∷ replies) [] formed also e = absurd (text-some reply (text_of_all replies) e)
same-texts spelled (reply ∷ replies) (other ∷ others) formed also e =
    let same = spelled reply other (text_of_all replies) (text_of_all others) (All-head IsWellFormed reply replies formed)
    (All-head IsWellFormed other others also) e in
    let rest = same-texts spelled replies others (All-tail IsWellFormed reply replies formed) (All-tail IsWellFormed other others also) same.1 in
    λ i. same.0 i ∷ rest i
