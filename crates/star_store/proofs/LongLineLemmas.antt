-- What is given of a long line is refused as the line is.
use Rattle.std.proofs.Common.{◌≡◌, ◌⊎◌, ℕ, suc, ◌<◌, ◌≤◌, Bool, true, false, List, [], ◌∷◌, ◌++◌, length, map, Ok, Err, Result, refl, sym, ap, ◌∙◌, inl, ⊎_elim, arith, IsUtf8}
use Rattle.std.specs.Prelude.{◌↔◌, if◌then◌else◌, option_to_list}
use Rattle.std.specs.Str.{is_utf8}
use Rattle.std.proofs.lemmas.Bool.{cases_Bool, cases_lt, true≢false}
use Rattle.std.proofs.lemmas.Str.{IsUtf8-from_is_utf8, is_utf8-from_IsUtf8}
use Rattle.star_values.specs.declared.refusal.Refusal.TheVariants.{Limit, NotUtf8}
use Rattle.script_reader.specs.declared.clipping.TheConstants.{LINE_LIMIT}
use Rattle.script_reader.specs.declared.statement.Statement.{Statement}
use Rattle.script_reader.specs.Laws.{LongLinesAreClipped}
use Rattle.script_reader.specs.Script.{clipped, statements_of}
use Rattle.script_reader.specs.Whole.{StatementsAreGiven, given, whole_statements_of}
use Rattle.star_lexer.specs.Limits.{IsOverLimit}
use Rattle.query_meaning.specs.History.{Change, store_of}
use Rattle.query_meaning.specs.Store.{Store}
use Rattle.reply_text.specs.declared.reply.Reply.{Reply}
use Rattle.reply_text.specs.declared.reply.Reply.TheVariants.{Memory}
use Rattle.star_store.specs.Effect.{effect_by, effect_of}
use Rattle.star_store.specs.Outcome.{outcome_by, outcome_of}
use Rattle.star_store.specs.Script.{history_after, history_from, history_of, is_wanted_at, replies_after, replies_of}
use Rattle.star_store.specs.Text.{meaning_of}

-- the laws below that say why a text is refused
pub record Reasons : Type 0 where
  pub clips : LongLinesAreClipped
  pub utf8 : (statement : Statement) → (meaning_of statement ≡ Err NotUtf8) ↔ (¬ (IsUtf8 statement.line))
  pub limit : (statement : Statement)
      → (meaning_of statement ≡ Err Limit) ↔ (IsUtf8 statement.line × IsOverLimit statement.line)

meaning_long : Reasons → (statement : Statement) → LINE_LIMIT < length statement.line
    → (is_utf8 statement.line ≡ true) ⊎ (is_utf8 statement.line ≡ false) → meaning_of (given statement) ≡ meaning_of statement
meaning_long says statement long utf8 = ⊎_elim
    (λ yes.
    let is : IsUtf8 statement.line = IsUtf8-from_is_utf8 statement.line yes in
    let still : IsUtf8 (clipped statement.line) = (says.clips.utf8 statement.line).1 is in
    let longer : LINE_LIMIT < length (clipped statement.line) = says.clips.long statement.line is long in
    (says.limit (given statement)).1 (still, inl longer) ∙ sym ((says.limit statement).1 (is, inl long)))
    (λ not_so.
    let none : ¬ (IsUtf8 statement.line) = λ is. true≢false (sym (is_utf8-from_IsUtf8 statement.line is) ∙ not_so) in
    let still : ¬ (IsUtf8 (clipped statement.line)) = λ is. none ((says.clips.utf8 statement.line).0 is) in
    (says.utf8 (given statement)).1 still ∙ sym ((says.utf8 statement).1 none))
    utf8

pub same_meaning : Reasons → (statement : Statement) → meaning_of (given statement) ≡ meaning_of statement
same_meaning says statement = ⊎_elim
    (λ long. meaning_long says statement long (cases_Bool (is_utf8 statement.line)))
    (λ short. ap (λ line. meaning_of (record statement { line = line })) (says.clips.whole statement.line short))
    (cases_lt LINE_LIMIT (length statement.line))

pub same_outcome : Reasons → (store : Store) (statement : Statement) → outcome_of store (given statement) ≡ outcome_of store statement
unfolding outcome_of
same_outcome says store statement = ap (outcome_by store statement.block) (same_meaning says statement)

pub same_effect : Reasons → (store : Store) (statement : Statement) → effect_of store (given statement) ≡ effect_of store statement
same_effect says store statement = ap (effect_by store) (same_outcome says store statement)

same_history : Reasons → (history : List Change) (statement : Statement) → history_after history (given statement) ≡ history_after history statement
same_history says history statement =
    ap (λ effect. history ++ option_to_list effect.change) (same_effect says (store_of history) statement)

same_after : Reasons → (wanted : List ℕ) (place : ℕ) (history : List Change) (statements : List Statement)
    → replies_after wanted place history (map given statements) ≡ replies_after wanted place history statements
same_after says wanted place history [] = refl
same_after says wanted place history (statement ∷ statements) =
    let wants = same_after says wanted (suc place) history statements in
    let reply = ap (λ effect. effect.reply) (same_effect says (store_of history) statement) in
    let rest =
    ap (λ after. replies_after wanted (suc place) after (map given statements)) (same_history says history statement)
    ∙ same_after says wanted (suc place) (history_after history statement) statements in
    λ i. if is_wanted_at wanted place then Memory ∷ wants i else (reply i ∷ rest i)

same_from : Reasons → (wanted : List ℕ) (place : ℕ) (history : List Change) (statements : List Statement)
    → history_from wanted place history (map given statements) ≡ history_from wanted place history statements
same_from says wanted place history [] = refl
same_from says wanted place history (statement ∷ statements) =
    let wants = same_from says wanted (suc place) history statements in
    let rest =
    ap (λ after. history_from wanted (suc place) after (map given statements)) (same_history says history statement)
    ∙ same_from says wanted (suc place) (history_after history statement) statements in
    λ i. if is_wanted_at wanted place then wants i else rest i

pub same_replies : Reasons → StatementsAreGiven → (wanted : List ℕ) (ended : Bool) (script : List ℕ)
    → replies_of wanted (statements_of ended script) ≡ replies_of wanted (whole_statements_of ended script)
same_replies says gives wanted ended script =
    ap (replies_of wanted) (gives ended script) ∙ same_after says wanted 0 [] (whole_statements_of ended script)

pub same_histories : Reasons → StatementsAreGiven → (wanted : List ℕ) (ended : Bool) (script : List ℕ)
    → history_of wanted (statements_of ended script) ≡ history_of wanted (whole_statements_of ended script)
same_histories says gives wanted ended script =
    ap (history_of wanted) (gives ended script) ∙ same_from says wanted 0 [] (whole_statements_of ended script)
