-- A statement means what its line is parsed as, where that is UTF-8, and what this says of the line.
use Rattle.std.proofs.Common.{◌≡◌, ◌↔◌, ℕ, Bool, true, false, List, length, Result, Ok, Err, refl, sym, ap, ◌∙◌, inl, inr}
use Rattle.std.specs.Prelude.{if◌then◌else◌}
use Rattle.std.specs.Str.{IsUtf8, is_utf8}
use Rattle.std.proofs.lemmas.Str.{IsUtf8-from_is_utf8, is_utf8-from_IsUtf8}
use Rattle.star_values.specs.declared.refusal.Refusal.{Refusal}
use Rattle.star_values.specs.declared.refusal.Refusal.TheVariants.{Syntax, Limit, NotUtf8}
use Rattle.script_reader.specs.declared.statement.Statement.{Statement}
use Rattle.script_reader.specs.declared.statement.Block.{Block}
use Rattle.star_lexer.specs.Limits.{IsOverLimit}
use Rattle.star_parser.specs.Statement as written
use Rattle.star_parser.specs.Sentence.{IsSentence, IsStop}
use Rattle.star_parser.specs.Parsed.{Parsed, Over, Stopped, Means, parsed_of}
use Rattle.star_store.specs.Text.{EndsTooSoon, IsWhole, IsWithin, StopsAt, lacks_block, parsed_meaning, meaning_of}

pub meaning_of-utf8 : (statement : Statement) → IsUtf8 statement.line
    → meaning_of statement ≡ parsed_meaning (length statement.line) statement.block (parsed_of statement.line)
unfolding meaning_of
meaning_of-utf8 statement utf8 = rw (is_utf8-from_IsUtf8 statement.line utf8)

fails_test : (bytes : List ℕ) (test : Bool) → is_utf8 bytes ≡ test → (IsUtf8 bytes → ⊥) → is_utf8 bytes ≡ false
fails_test bytes true e broken = absurd (broken (IsUtf8-from_is_utf8 bytes e))
fails_test bytes false e broken = e

pub meaning_of-not_utf8 : (statement : Statement) → (IsUtf8 statement.line → ⊥) → meaning_of statement ≡ Err NotUtf8
unfolding meaning_of
meaning_of-not_utf8 statement broken = rw (fails_test statement.line (is_utf8 statement.line) refl broken)

-- where a text is not refused as one that is not UTF-8, its line is
told_utf8 : (statement : Statement) (test : Bool) → is_utf8 statement.line ≡ test → (meaning_of statement ≡ Err NotUtf8 → ⊥) → IsUtf8 statement.line
unfolding meaning_of
told_utf8 statement true e other = IsUtf8-from_is_utf8 statement.line e
told_utf8 statement false e other = absurd (other (rw e))

-- what is said of a line that is UTF-8
abbrev IsReason : ℕ → Block → Parsed → Result written.Statement Refusal → Type 0
IsReason end block parsed reason = parsed_meaning end block parsed ≡ reason

never_utf8 : (end : ℕ) (block : Block) (parsed : Parsed) → IsReason end block parsed (Err NotUtf8) → ⊥
never_utf8 end block Over e = cc
never_utf8 end block (Stopped place) e = cc
never_utf8 end block (Means meaning) e = by_test (lacks_block meaning block) e
  where
    by_test : (lacks : Bool) → (if lacks then Err (Syntax end) else Ok meaning) ≡ Err NotUtf8 → ⊥
    by_test true e = cc
    by_test false e = cc

only_over : (end : ℕ) (block : Block) (parsed : Parsed) → IsReason end block parsed (Err Limit) → parsed ≡ Over
only_over end block Over e = refl
only_over end block (Stopped place) e = cc
only_over end block (Means meaning) e = by_test (lacks_block meaning block) e
  where
    by_test : (lacks : Bool) → (if lacks then Err (Syntax end) else Ok meaning) ≡ Err Limit → Means meaning ≡ Over
    by_test true e = cc
    by_test false e = cc

-- what the limits and the grammar say of a line
pub record IsTold (line : List ℕ) : Type 0 where
  pub over : (parsed_of line ≡ Over) ↔ IsOverLimit line
  pub means : (meaning : written.Statement) → (parsed_of line ≡ Means meaning) ↔ ((¬ (IsOverLimit line)) × IsSentence line meaning)
  pub stopped : (place : ℕ) → parsed_of line ≡ Stopped place → (¬ (IsOverLimit line)) × IsStop line place

stops_by : (statement : Statement) (place : ℕ) (meaning : written.Statement) (lacks : Bool) → lacks_block meaning statement.block ≡ lacks
    → IsSentence statement.line meaning → (if lacks then Err (Syntax (length statement.line)) else Ok meaning) ≡ Err (Syntax place)
    → EndsTooSoon statement place
stops_by statement place meaning true told is e =
    let same : place ≡ length statement.line = cc in (meaning, is, told, same)
stops_by statement place meaning false told is e = cc

stops : (statement : Statement) (place : ℕ) (parsed : Parsed) → IsTold statement.line → parsed_of statement.line ≡ parsed
    → IsReason (length statement.line) statement.block parsed (Err (Syntax place))
    → (¬ (IsOverLimit statement.line)) × StopsAt statement place
stops statement place Over told is e = cc
stops statement place (Stopped other) told is e =
    let same : other ≡ place = cc in
    let stop = told.stopped place (is ∙ ap Stopped same) in (stop.0, inl stop.1)
stops statement place (Means meaning) told is e =
    let sentence = (told.means meaning).0 is in
    (sentence.0, inr (stops_by statement place meaning (lacks_block meaning statement.block) refl sentence.1 e))

whole_by : (statement : Statement) (found meaning : written.Statement) (lacks : Bool) → lacks_block found statement.block ≡ lacks
    → IsSentence statement.line found → (if lacks then Err (Syntax (length statement.line)) else Ok found) ≡ Ok meaning
    → IsWhole statement meaning
whole_by statement found meaning true told is e = cc
whole_by statement found meaning false told is e = let same : found ≡ meaning = cc in rw (← same) (is, told)

whole : (statement : Statement) (meaning : written.Statement) (parsed : Parsed) → IsTold statement.line → parsed_of statement.line ≡ parsed
    → IsReason (length statement.line) statement.block parsed (Ok meaning)
    → (¬ (IsOverLimit statement.line)) × IsWhole statement meaning
whole statement meaning Over told is e = cc
whole statement meaning (Stopped place) told is e = cc
whole statement meaning (Means found) told is e =
    let sentence = (told.means found).0 is in
    (sentence.0, whole_by statement found meaning (lacks_block found statement.block) refl sentence.1 e)

-- what is said of a statement whose line is UTF-8
reason_of : (statement : Statement) (reason : Result written.Statement Refusal) → IsUtf8 statement.line → meaning_of statement ≡ reason
    → IsReason (length statement.line) statement.block (parsed_of statement.line) reason
reason_of statement reason utf8 e = sym (meaning_of-utf8 statement utf8) ∙ e

pub refused_not_utf8 : (statement : Statement) → (meaning_of statement ≡ Err NotUtf8) ↔ (¬ (IsUtf8 statement.line))
refused_not_utf8 statement = (
  λ e utf8. never_utf8 (length statement.line) statement.block (parsed_of statement.line) (reason_of statement (Err NotUtf8) utf8 e),
  meaning_of-not_utf8 statement,
)

-- the line is UTF-8 where another thing is said
utf8_from : (statement : Statement) (reason : Result written.Statement Refusal) → meaning_of statement ≡ reason → (reason ≡ Err NotUtf8 → ⊥) → IsUtf8 statement.line
utf8_from statement reason e other = told_utf8 statement (is_utf8 statement.line) refl (λ same. other (sym e ∙ same))

pub refused_limit : (statement : Statement) → IsTold statement.line
    → (meaning_of statement ≡ Err Limit) ↔ (IsUtf8 statement.line × IsOverLimit statement.line)
refused_limit statement told = (
  λ e. let utf8 = utf8_from statement (Err Limit) e (λ same. cc) in
      (utf8, told.over.0 (only_over (length statement.line) statement.block (parsed_of statement.line) (reason_of statement (Err Limit) utf8 e))),
  λ over. meaning_of-utf8 statement over.0
      ∙ ap (parsed_meaning (length statement.line) statement.block) (told.over.1 over.1),
)

pub refused_syntax : (statement : Statement) → IsTold statement.line → (place : ℕ) → meaning_of statement ≡ Err (Syntax place)
    → IsWithin statement.line × StopsAt statement place
refused_syntax statement told place e =
    let utf8 = utf8_from statement (Err (Syntax place)) e (λ same. cc) in
    let stop = stops statement place (parsed_of statement.line) told refl (reason_of statement (Err (Syntax place)) utf8 e) in
    ((utf8, stop.0), stop.1)

pub means : (statement : Statement) → IsTold statement.line → (meaning : written.Statement)
    → (meaning_of statement ≡ Ok meaning) ↔ (IsWithin statement.line × IsWhole statement meaning)
means statement told meaning = (
  λ e. let utf8 = utf8_from statement (Ok meaning) e (λ same. cc) in
      let found = whole statement meaning (parsed_of statement.line) told refl (reason_of statement (Ok meaning) utf8 e) in
      ((utf8, found.0), found.1),
  λ good. let is = (told.means meaning).1 (good.0.1, good.1.0) in
      meaning_of-utf8 statement good.0.0
      ∙ ap (parsed_meaning (length statement.line) statement.block) is
      ∙ ap (λ lacks. if lacks then Err (Syntax (length statement.line)) else Ok meaning) good.1.1,
)
