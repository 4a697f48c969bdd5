-- What a line more is to a reader.
use Rattle.std.proofs.Common.{◌≡◌, ◌≢◌, ℕ, ◌<◌, ◌==◌, Bool, true, false, List, [], ◌∷◌, ◌++◌, length, take, drop, Option, Some, None, Result, Ok, Err, IfOk, OnErr, refl, sym, ap, subst, ⊎_elim, ◌∙◌, ◌≤◌, arith, append-nil, append_assoc, take-append-drop}
use Rattle.script_reader.specs.declared.open_load.OpenLoad.{OpenLoad}
use Rattle.script_reader.specs.declared.open_load.TakenLine.{TakenLine}
use Rattle.script_reader.specs.declared.open_load.TakenLine.TheVariants.{Passed, Joined, Whole}
use Rattle.script_reader.specs.declared.reader.NextStatement.{NextStatement}
use Rattle.script_reader.specs.declared.reader.NextStatement.TheVariants.{Got, NotYet, End}
use Rattle.script_reader.specs.declared.statement.Statement.{Statement}
use Rattle.script_reader.specs.declared.statement.Block.TheVariants.{Unclosed}
use Rattle.star_values.specs.declared.no_memory.NoMemory.{NoMemory}
use Rattle.script_reader.specs.Open.{AreParts, FirstLine, KeepsLine, WaitBehindLoad, LeavesSome, NoLine, TakesLast, TakesLine, bytes_of, load_of, none_open, reading_of, statements_behind}
use Rattle.script_reader.specs.Reading.{AnswersNext, KeepsShort, May, TakesFirst, WantsMemory}
use Rattle.std.specs.Prelude.{filter, if◌then◌else◌}
use Rattle.std.proofs.lemmas.Bool.{cases_lt, or_left}
use Rattle.std.proofs.lemmas.List.Folds.{list_any-append}
use Rattle.script_reader.specs.declared.pending_bytes.TheConstants.{SHORTENED_BYTES}
use Rattle.std.proofs.lemmas.List.{take_all}
use Rattle.script_reader.specs.Short.{StandsFor}
use Rattle.script_reader.proofs.LineLemmas.{feed, lines_of-no_feed, whole_lines-feed, whole_lines-no_feed}
use Rattle.script_reader.proofs.SoughtLemmas.{feed-sought}
use Rattle.script_reader.specs.Script.{clipped, has_block, is_dot_line, is_ended, is_no_statement, line_text, lines_of, statements_in, statements_of, whole_lines}

some_step : (load : List ℕ × List ℕ) (line : List ℕ) (lines : List (List ℕ)) (dot : Bool) → is_dot_line line ≡ dot
    → ((other : List ℕ × List ℕ) → statements_in true (Some other) lines ≢ []) → statements_in true (Some load) (line ∷ lines) ≢ []
some_step load line lines true e more none = let wrong = rw e at none in cc
some_step load line lines false e more none = more (load.0, load.1 ++ line) (rw e at none)

-- at the end of the input an open block leaves a statement
pub some_open : (lines : List (List ℕ)) (load : List ℕ × List ℕ) → statements_in true (Some load) lines ≢ []
some_open [] load none = cc
some_open (line ∷ lines) load none = some_step load line lines (is_dot_line line) refl (some_open lines) none

is_open : (line block : List ℕ) → 0 < length line → load_of (record { line = line; block = block }) ≡ Some (clipped (line_text line), block)
is_open [] block h = absurd (omega arith)
is_open (byte ∷ line) block h = refl

pub leaves_open : (load : OpenLoad) (line : List ℕ) → 0 < length load.line → LeavesSome load line
leaves_open load line h lines none = some_open (line ∷ lines) (clipped (line_text load.line), load.block) (rw (is_open load.line load.block h) at none)

-- a line of a `load` leaves a statement
pub leaves_load : (line : List ℕ) → is_no_statement (line_text line) ≡ false → has_block (line_text line) ≡ true → LeavesSome none_open line
leaves_load line begins block lines none = some_open lines (clipped (line_text line), []) (rw (begins, block) at none)

-- the reader goes on behind a line that ends no statement
pub record GoesOn (old : OpenLoad) (rest : List ℕ) (new : OpenLoad) (rest' : List ℕ) (ended : Bool) : Type 0 where
  pub left : WaitBehindLoad new rest' ended
  pub closed : length new.line ≡ 0 → new ≡ none_open
  pub opened : ended ≡ false → 0 < length new.line → is_ended new.line ≡ true
  pub same : (more : List ℕ) (last : Bool) → May ended more last
      → statements_of last ((bytes_of new ++ rest') ++ more) ≡ statements_of last ((bytes_of old ++ rest) ++ more)

-- the statements that wait, once the first line is known
behind_first : (load : OpenLoad) (rest : List ℕ) (n : ℕ) (ended : Bool) → WaitBehindLoad load rest ended → FirstLine ended rest n
    → (more : List ℕ) (last : Bool) → May ended more last
    → statements_of last ((bytes_of load ++ rest) ++ more) ≡ statements_behind last load (take n rest ∷ whole_lines last (drop n rest ++ more))
behind_first load rest n ended left first more last may =
    left more last may ∙ ap (statements_behind last load) (first more last may)

passes : (rest : List ℕ) (n : ℕ) (ended : Bool) → WaitBehindLoad none_open rest ended → FirstLine ended rest n
    → ((last : Bool) (lines : List (List ℕ)) → statements_behind last none_open (take n rest ∷ lines) ≡ statements_behind last none_open lines)
    → GoesOn none_open rest none_open (drop n rest) ended
passes rest n ended left first taken = record {
  left = λ more last may. refl;
  closed = λ e. refl;
  opened = λ e some. absurd (omega arith);
  same = λ more last may. sym (behind_first none_open rest n ended left first more last may ∙ taken last (whole_lines last (drop n rest ++ more)));
}

first_line : List (List ℕ) → List ℕ
first_line [] = []
first_line (line ∷ lines) = line

-- a line that has come before the end of the input has its line feed
has_feed : (rest : List ℕ) (n : ℕ) → FirstLine false rest n → is_ended (take n rest) ≡ true
unfolding first_line
has_feed rest n first = passed (lines_of (rest ++ [])) (whole_lines false (drop n rest ++ [])) (first [] false (λ e. cc))
  where
    step : (line : List ℕ) (lines others : List (List ℕ)) (test : Bool) → is_ended line ≡ test
        → (filter is_ended lines ≡ take n rest ∷ others → is_ended (take n rest) ≡ true)
        → (if test then line ∷ filter is_ended lines else filter is_ended lines) ≡ take n rest ∷ others → is_ended (take n rest) ≡ true
    step line lines others true is more e = ap is_ended (sym (ap first_line e)) ∙ is
    step line lines others false is more e = more e

    passed : (lines others : List (List ℕ)) → filter is_ended lines ≡ take n rest ∷ others → is_ended (take n rest) ≡ true
    passed [] others e = cc
    passed (line ∷ lines) others e = step line lines others (is_ended line) refl (passed lines others) e

-- so has the line of a `load` that goes on
keeps_feed : (old new : OpenLoad) (rest : List ℕ) (n : ℕ) (ended : Bool) → FirstLine ended rest n
    → (ended ≡ false → 0 < length old.line → is_ended old.line ≡ true) → KeepsLine old new (take n rest)
    → ended ≡ false → is_ended new.line ≡ true
keeps_feed old new rest n ended first opened keeps e = ⊎_elim
    (λ some. ap is_ended (keeps.1 some) ∙ opened e some)
    (λ (none : length old.line ≤ 0). ap is_ended (keeps.0 (omega (arith, none))) ∙ has_feed rest n (subst (λ last. FirstLine last rest n) e first))
    (cases_lt 0 (length old.line))

joins : (old new : OpenLoad) (rest : List ℕ) (n : ℕ) (ended : Bool) → WaitBehindLoad old rest ended → FirstLine ended rest n → 0 < length new.line
    → bytes_of new ++ drop n rest ≡ bytes_of old ++ rest
    → ((last : Bool) (lines : List (List ℕ)) → statements_behind last old (take n rest ∷ lines) ≡ statements_behind last new lines)
    → (ended ≡ false → is_ended new.line ≡ true)
    → GoesOn old rest new (drop n rest) ended
joins old new rest n ended left first some bytes taken feeds = record {
  left = λ more last may. ap (λ front. statements_of last (front ++ more)) bytes
      ∙ behind_first old rest n ended left first more last may ∙ taken last (whole_lines last (drop n rest ++ more));
  closed = λ e. absurd (omega arith);
  opened = λ e has. feeds e;
  same = λ more last may. ap (λ front. statements_of last (front ++ more)) bytes;
}

moved : (front new rest : List ℕ) (n : ℕ) → new ≡ front ++ take n rest → new ++ drop n rest ≡ front ++ rest
moved front new rest n e =
    ap (λ bytes. bytes ++ drop n rest) e ∙ append_assoc front (take n rest) (drop n rest)
    ∙ ap (λ bytes. front ++ bytes) (take-append-drop n rest)

-- a line that ends no statement
abbrev pub IsNotWhole : TakenLine → Type 0
IsNotWhole Passed = Unit {0}
IsNotWhole Joined = Unit {0}
IsNotWhole (Whole statement) = ⊥

pub goes_on : (taken : TakenLine) (old new : OpenLoad) (rest : List ℕ) (n : ℕ) (ended : Bool) → IsNotWhole taken
    → WaitBehindLoad old rest ended → (ended ≡ false → 0 < length old.line → is_ended old.line ≡ true)
    → FirstLine ended rest n → TakesLine old new (take n rest) taken → GoesOn old rest new (drop n rest) ended
goes_on Passed old new rest n ended other left opened first taken =
    rw (taken.0, taken.1) (passes rest n ended (rw taken.0 at left) first (rw (taken.0, taken.1) at taken.2))
goes_on Joined old new rest n ended other left opened first taken =
    joins old new rest n ended left first taken.0 (moved (bytes_of old) (bytes_of new) rest n taken.1) taken.2
    (keeps_feed old new rest n ended first opened taken.3)
goes_on (Whole statement) old new rest n ended other left opened first taken = absurd other

-- a line that ends a statement
pub ends : (statement : Statement) (old new : OpenLoad) (rest : List ℕ) (n : ℕ) (ended : Bool)
    → WaitBehindLoad old rest ended → FirstLine ended rest n → TakesLine old new (take n rest) (Whole statement)
    → (more : List ℕ) (last : Bool) → May ended more last
    → statements_of last ((bytes_of old ++ rest) ++ more) ≡ statement ∷ statements_of last ((bytes_of new ++ drop n rest) ++ more)
ends statement old new rest n ended left first taken more last may =
    behind_first old rest n ended left first more last may ∙ taken.1 last (whole_lines last (drop n rest ++ more))
    ∙ rw taken.0 refl

pub starts : (load : OpenLoad) (rest : List ℕ) (ended : Bool) → AreParts load rest ended → GoesOn load rest load rest ended
starts load rest ended parts = record { left = parts.2; closed = parts.0; opened = parts.1; same = λ more last may. refl }

pub parts_of : (old load : OpenLoad) (before rest : List ℕ) (ended : Bool) → GoesOn old before load rest ended → AreParts load rest ended
parts_of old load before rest ended way = (way.closed, way.opened, way.left)

pub goes_further : (old mid new : OpenLoad) (rest rest' rest'' : List ℕ) (ended : Bool) → GoesOn old rest mid rest' ended → GoesOn mid rest' new rest'' ended
    → GoesOn old rest new rest'' ended
goes_further old mid new rest rest' rest'' ended before after = record {
  left = after.left;
  closed = after.closed;
  opened = after.opened;
  same = λ more last may. after.same more last may ∙ before.same more last may;
}

-- so it does where the line that is coming was shortened
pub goes_short : (load : OpenLoad) (rest rest' : List ℕ) (ended : Bool) → AreParts load rest ended
    → (0 < length load.line → rest' ≡ rest) → StandsFor rest' rest → GoesOn load rest load rest' ended
goes_short load rest rest' ended parts stays stands = ⊎_elim
    (λ some. subst (λ other. GoesOn load rest load other ended) (sym (stays some)) (starts load rest ended parts))
    (λ (none : length load.line ≤ 0). subst (λ (other : OpenLoad). GoesOn other rest other rest' ended) (sym (parts.0 (omega (arith, none)))) (record {
      left = λ more last may. refl;
      closed = λ e. refl;
      opened = λ e some. absurd (omega arith);
      same = λ more last may. stands more last;
    }))
    (cases_lt 0 (length load.line))

-- a line that is coming stays none
pub still_no_line : (ended : Bool) (rest rest' : List ℕ) → NoLine ended rest → is_ended rest' ≡ false → (rest ≡ [] → rest' ≡ []) → NoLine ended rest'
still_no_line ended rest rest' none still empty =
    let found = feed-sought (length rest') rest' (omega arith) (ap is_ended (take_all (length rest') rest' (omega arith)) ∙ still) in
    (still, whole_lines-no_feed rest' (feed rest') refl (omega (arith, found)), λ e. empty (none.2 e))

-- what was gone on to, where the line that is coming was shortened
pub short_way : (old load : OpenLoad) (before rest passed rest' : List ℕ) (ended : Bool) → passed ≡ rest → GoesOn old before load rest ended
    → (0 < length load.line → rest' ≡ passed) → StandsFor rest' passed → GoesOn old before load rest' ended
short_way old load before rest passed rest' ended same way stays stands =
    goes_further old load load before rest rest' ended way
    (goes_short load rest rest' ended (parts_of old load before rest ended way) (λ some. stays some ∙ same) (subst (StandsFor rest') same stands))

-- what is answered where memory was wanted to shorten it: the input has not ended
pub short_wants : (old load : OpenLoad) (before rest passed rest' : List ℕ) (fed : ℕ) (ended : Bool) → passed ≡ rest → GoesOn old before load rest ended
    → NoLine ended rest → (rest' ≡ passed) × (0 < length passed) → WantsMemory (reading_of old before fed ended) (reading_of load rest' fed ended)
short_wants old load before rest passed rest' fed ended same way none err = (
  λ e nothing. let zero_is : length passed ≡ 0 = ap length (same ∙ none.2 e) in let some = err.1 in omega arith,
  λ more last comes. ap (λ bytes. statements_of last ((bytes_of load ++ bytes) ++ more)) (err.0 ∙ same) ∙ way.same more last comes,
)

-- What is answered where no further line has come.

none_behind : (load : Option (List ℕ × List ℕ)) → statements_in false load [] ≡ []
none_behind None = refl
none_behind (Some load) = refl

-- no statement that waits is whole
none_whole : (load : OpenLoad) (rest : List ℕ) → WaitBehindLoad load rest false → whole_lines false rest ≡ [] → statements_of false (bytes_of load ++ rest) ≡ []
none_whole load rest left none =
    let all = rw (append-nil (bytes_of load ++ rest), append-nil rest) at (left [] false (λ e. cc)) in
    all ∙ ap (statements_behind false load) none ∙ none_behind (load_of load)

same_now : (old load : OpenLoad) (before rest : List ℕ) (ended : Bool) → GoesOn old before load rest ended → (last : Bool) → May ended [] last
    → statements_of last (bytes_of load ++ rest) ≡ statements_of last (bytes_of old ++ before)
same_now old load before rest ended way last may =
    rw (append-nil (bytes_of load ++ rest), append-nil (bytes_of old ++ before)) at (way.same [] last may)

-- the statements that wait at the end of the input, where no line is left
at_end : (load : OpenLoad) (rest : List ℕ) → WaitBehindLoad load rest true → rest ≡ [] → statements_of true (bytes_of load ++ rest) ≡ statements_in true (load_of load) []
at_end load rest left none =
    let all = rw (append-nil (bytes_of load ++ rest), append-nil rest) at (left [] true (λ e. (refl, refl))) in
    all ∙ ap (λ bytes. statements_behind true load (whole_lines true bytes)) none

not_yet : (old load : OpenLoad) (before rest : List ℕ) (fed : ℕ) → GoesOn old before load rest false → whole_lines false rest ≡ []
    → AnswersNext (reading_of old before fed false) (reading_of load rest fed false) NotYet
not_yet old load before rest fed way none =
    let now = none_whole load rest way.left none in
    (refl, sym (same_now old load before rest false way false (λ e. cc)) ∙ now, now, way.same)

unclosed : (old load : OpenLoad) (before rest : List ℕ) (fed : ℕ) (statement : Statement) → GoesOn old before load rest true → rest ≡ []
    → 0 < length load.line → statement ≡ record { line = clipped (line_text load.line); block = Unclosed load.block }
    → TakesFirst (reading_of old before fed true) (reading_of none_open rest fed true) statement
unclosed old load before rest fed statement way none some is more last comes =
    let end = comes refl in
    let now = sym (same_now old load before rest true way true (λ e. (refl, refl))) ∙ at_end load rest way.left none
    ∙ ap (λ some_load. statements_in true some_load []) (is_open load.line load.block some) in
    rw (end.0, end.1, append-nil (bytes_of old ++ before), append-nil rest, none, is) now

last_ended : (next : NextStatement) (old load new : OpenLoad) (before rest : List ℕ) (fed : ℕ) → GoesOn old before load rest true → rest ≡ []
    → TakesLast load new next → AnswersNext (reading_of old before fed true) (reading_of new rest fed true) next
last_ended (Got statement) old load new before rest fed way none taken =
    rw taken.0 (unclosed old load before rest fed statement way none taken.1 taken.2)
last_ended NotYet old load new before rest fed way none taken = absurd taken
last_ended End old load new before rest fed way none taken =
    let now = at_end load rest way.left none ∙ ap (λ (other : OpenLoad). statements_in true (load_of other) []) taken.0 in
    (refl, sym (same_now old load before rest true way true (λ e. (refl, refl))) ∙ now, rw (taken.1, none) refl)

pub last_answers : (ended : Bool) (result : Result NextStatement NoMemory) (old load new : OpenLoad) (before rest : List ℕ) (fed : ℕ)
    → GoesOn old before load rest ended → NoLine ended rest
    → (ended ≡ false → (result ≡ Ok NotYet) × (new ≡ load)) → (ended ≡ true → IfOk result (TakesLast load new))
    → IfOk result (AnswersNext (reading_of old before fed ended) (reading_of new rest fed ended))
last_answers false result old load new before rest fed way none early late =
    let same = early refl in rw (same.0, same.1) (not_yet old load before rest fed way none.1)
last_answers true (Ok next) old load new before rest fed way none early late =
    last_ended next old load new before rest fed way (none.2 refl) (late refl)
last_answers true (Err e) old load new before rest fed way none early late = tt

-- a whole line at the front is one
front_whole : (line rest : List ℕ) → is_ended line ≡ true → whole_lines false (line ++ rest) ≡ [] → ⊥
front_whole line rest is none = ⊎_elim
    (λ inside. let some = sym (whole_lines-feed false (line ++ rest) (feed (line ++ rest)) refl inside) ∙ none in cc)
    (λ past.
    let not_so = (lines_of-no_feed (line ++ rest) past).0 in
    let is_so = list_any-append (λ byte. byte == 10) line rest ∙ or_left (is_ended line) (is_ended rest) is in cc)
    (cases_lt (feed (line ++ rest)) (length (line ++ rest)))

-- few bytes wait where no line has come and no block is open
few_wait : (load : OpenLoad) (rest : List ℕ) → AreParts load rest false → (length load.line ≡ 0 → length rest < SHORTENED_BYTES)
    → whole_lines false (bytes_of load ++ rest) ≡ [] → length (bytes_of load ++ rest) < SHORTENED_BYTES
few_wait load rest parts short none = ⊎_elim
    (λ some. absurd (front_whole load.line (load.block ++ rest) (parts.1 refl some)
    (ap (whole_lines false) (sym (append_assoc load.line load.block rest)) ∙ none)))
    (λ (nothing : length load.line ≤ 0).
    let zero_is : length load.line ≡ 0 = omega (arith, nothing) in
    subst (λ (other : OpenLoad). length (bytes_of other ++ rest) < SHORTENED_BYTES) (sym (parts.0 zero_is)) (short zero_is))
    (cases_lt 0 (length load.line))

last_keeps : (old new : OpenLoad) (rest : List ℕ) (fed : ℕ) (next : NextStatement) → TakesLast old new next
    → KeepsShort (reading_of new rest fed true) next
last_keeps old new rest fed (Got statement) taken = tt
last_keeps old new rest fed NotYet taken = absurd taken
last_keeps old new rest fed End taken = tt

pub last_short : (ended : Bool) (result : Result NextStatement NoMemory) (load new : OpenLoad) (rest : List ℕ) (fed : ℕ)
    → AreParts load rest ended → (length load.line ≡ 0 → length rest < SHORTENED_BYTES)
    → (ended ≡ false → (result ≡ Ok NotYet) × (new ≡ load)) → (ended ≡ true → IfOk result (TakesLast load new))
    → IfOk result (KeepsShort (reading_of new rest fed ended))
last_short false result load new rest fed parts short early late =
    let same = early refl in rw (same.0, same.1) (few_wait load rest parts short)
last_short true (Ok next) load new rest fed parts short early late = last_keeps load new rest fed next (late refl)
last_short true (Err e) load new rest fed parts short early late = tt

-- Where memory was wanted.

-- at the end of the input an open block leaves a statement
pub last_wants : (old load : OpenLoad) (before rest : List ℕ) (fed : ℕ) (ended : Bool) → GoesOn old before load rest ended → ended ≡ true → 0 < length load.line
    → WantsMemory (reading_of old before fed ended) (reading_of load rest fed ended)
last_wants old load before rest fed ended way is some = (
  λ e none. wants_some e (same_now old load before rest ended way true (λ h. (refl, refl)) ∙ none),
  way.same,
)
  where
    wants_some : ended ≡ true → statements_of true (bytes_of load ++ rest) ≡ [] → ⊥
    wants_some e none =
        let all = rw (append-nil (bytes_of load ++ rest), append-nil rest) at (way.left [] true (λ h. (refl, refl))) in
        some_open (whole_lines true rest) (clipped (line_text load.line), load.block)
        (ap (λ some_load. statements_in true some_load (whole_lines true rest)) (sym (is_open load.line load.block some)) ∙ sym all ∙ none)

-- a line for which memory was wanted leaves one
pub line_wants : (old load : OpenLoad) (before rest : List ℕ) (n fed : ℕ) (ended : Bool) → GoesOn old before load rest ended → FirstLine ended rest n
    → LeavesSome load (take n rest) → WantsMemory (reading_of old before fed ended) (reading_of load rest fed ended)
line_wants old load before rest n fed ended way first some = (
  λ e none. some (whole_lines true (drop n rest ++ []))
      (sym (behind_first load rest n ended way.left first [] true (λ h. (refl, refl)))
      ∙ ap (statements_of true) (append-nil (bytes_of load ++ rest)) ∙ same_now old load before rest ended way true (λ h. (refl, refl)) ∙ none),
  way.same,
)

-- the statement that a line ends is the first
pub whole_answers : (old load new : OpenLoad) (before rest : List ℕ) (n fed : ℕ) (ended : Bool) (statement : Statement) → GoesOn old before load rest ended
    → FirstLine ended rest n → TakesLine load new (take n rest) (Whole statement)
    → TakesFirst (reading_of old before fed ended) (reading_of new (drop n rest) fed ended) statement
whole_answers old load new before rest n fed ended statement way first taken more last comes =
    sym (way.same more last comes) ∙ ends statement load new rest n ended way.left first taken more last comes

-- behind a statement no block is open
pub left_whole : (load new : OpenLoad) (line rest : List ℕ) (ended : Bool) (statement : Statement) → TakesLine load new line (Whole statement) → WaitBehindLoad new rest ended
left_whole load new line rest ended statement taken = rw taken.0 (λ more last may. refl)

pub not_whole : (taken : TakenLine) → ((statement : Statement) → taken ≡ Whole statement → ⊥) → IsNotWhole taken
not_whole Passed other = tt
not_whole Joined other = tt
not_whole (Whole statement) other = absurd (other statement refl)

pub last_err : (result : Result NextStatement NoMemory) (old load new : OpenLoad) (before rest : List ℕ) (fed : ℕ) (ended : Bool) → GoesOn old before load rest ended
    → OnErr result ((ended ≡ true) × (new ≡ load) × (0 < length load.line))
    → OnErr result (WantsMemory (reading_of old before fed ended) (reading_of new rest fed ended))
last_err (Ok next) old load new before rest fed ended way h = tt
last_err (Err e) old load new before rest fed ended way h = rw h.1 (last_wants old load before rest fed ended way h.0 h.2)
