-- The line that is coming, kept short: the statements stay, whatever comes behind.
use Rattle.std.proofs.Common.{◌≡◌, ℕ, suc, ◌+◌, ◌-◌, ◌<◌, ◌≤◌, Bool, true, false, ◌||◌, nat_eq, nat_lt, ◌==◌, List, [], ◌∷◌, ◌++◌, length, map, take, drop, get_or, Some, None, refl, sym, ap, subst, ◌∙◌, arith, append_assoc, take-append-drop}
use Rattle.std.specs.Prelude.{filter, if◌then◌else◌}
use Rattle.std.specs.List.{ends_with, prefix_len}
use Rattle.std.specs.Str.Lossy.{utf8_valid_len}
use Rattle.std.proofs.lemmas.Bool.{cond-false, cond-true, eqb-false, ltb-true, ne_eqb, or_from, or_parts}
use Rattle.std.proofs.lemmas.List.{drop_all, drop_more, length-append, length-map, length-take, length-take-le}
use Rattle.std.proofs.lemmas.List.Folds.{list_any-append}
use Rattle.script_reader.specs.declared.statement.Statement.{Statement}
use Rattle.script_reader.specs.declared.statement.Block.TheVariants.{Absent}
use Rattle.script_reader.specs.declared.clipping.TheConstants.{LINE_LIMIT}
use Rattle.script_reader.specs.declared.pending_bytes.TheConstants.{SHORTENED_BYTES}
use Rattle.script_reader.specs.Script.{clipped, has_block, is_blank, is_ended, is_no_statement, line_text, lines_of, put_before, statements_in, statements_of, without_blanks, without_last}
use Rattle.script_reader.specs.Short.{IsShortened, StandsFor, kept_rest, kept_word, short_line, short_text, unread}
use Rattle.script_reader.proofs.ShortLemmas.{SameText, pad, short_same, word_of}

-- ---- the line that bytes without a line feed begin

first_of : List (List ℕ) → List ℕ
first_of [] = []
first_of (line ∷ lines) = line

rest_of : List (List ℕ) → List (List ℕ)
rest_of [] = []
rest_of (line ∷ lines) = lines

put_first : (byte : ℕ) (lines : List (List ℕ)) → put_before byte lines ≡ (byte ∷ first_of lines) ∷ rest_of lines
unfolding first_of rest_of
put_first byte [] = refl
put_first byte (line ∷ lines) = refl

begins_line : (x : ℕ) (xs more : List ℕ) → is_ended (x ∷ xs) ≡ false
    → lines_of ((x ∷ xs) ++ more) ≡ ((x ∷ xs) ++ first_of (lines_of more)) ∷ rest_of (lines_of more)
begins_line x [] more none =
    let here : (x == 10) ≡ false = (or_parts (x == 10) (is_ended []) none).0 in
    rw here (put_first x (lines_of more))
begins_line x (y ∷ ys) more none =
    let both = or_parts (x == 10) (is_ended (y ∷ ys)) none in
    let here : (x == 10) ≡ false = both.0 in
    rw (here, begins_line y ys more both.1) refl

-- ---- the end of a line

drop_behind : (front : List ℕ) (x : ℕ) (xs : List ℕ)
    → drop (length (front ++ x ∷ xs) - 1) (front ++ x ∷ xs) ≡ drop (length (x ∷ xs) - 1) (x ∷ xs)
drop_behind [] x xs = refl
drop_behind (y ∷ ys) x xs =
    let some = length-append ys (x ∷ xs) in
    let one : length ((y ∷ ys) ++ x ∷ xs) - 1 ≡ suc (length (ys ++ x ∷ xs) - 1) = omega (arith, some) in
    rw one (drop_behind ys x xs)

take_behind : (front : List ℕ) (x : ℕ) (xs : List ℕ)
    → take (length (front ++ x ∷ xs) - 1) (front ++ x ∷ xs) ≡ front ++ take (length (x ∷ xs) - 1) (x ∷ xs)
take_behind [] x xs = refl
take_behind (y ∷ ys) x xs =
    let some = length-append ys (x ∷ xs) in
    let one : length ((y ∷ ys) ++ x ∷ xs) - 1 ≡ suc (length (ys ++ x ∷ xs) - 1) = omega (arith, some) in
    rw one (ap (λ bytes. y ∷ bytes) (take_behind ys x xs))

either_way : (ends : Bool) (front a b : List ℕ) → (if ends then front ++ a else front ++ b) ≡ front ++ (if ends then a else b)
either_way true front a b = refl
either_way false front a b = refl

last_behind : (byte : ℕ) (front : List ℕ) (x : ℕ) (xs : List ℕ)
    → without_last byte (front ++ x ∷ xs) ≡ front ++ without_last byte (x ∷ xs)
last_behind byte front x xs =
    rw (drop_behind front x xs, take_behind front x xs)
    (either_way (ends_with nat_eq (x ∷ xs) (byte ∷ [])) front (take (length (x ∷ xs) - 1) (x ∷ xs)) (x ∷ xs))

-- a first byte that is no line feed stays
keeps_first : (c : ℕ) (line : List ℕ) → (c == 10) ≡ false → (rest : List ℕ) × (without_last 10 (c ∷ line) ≡ c ∷ rest)
keeps_first c [] other =
    let differs : (10 == c) ≡ false = ne_eqb 10 c (λ e. eqb-false c 10 other (sym e)) in
    ([], rw differs refl)
keeps_first c (y ∷ ys) other = (without_last 10 (y ∷ ys), last_behind 10 (c ∷ []) y ys)

text_behind : (front : List ℕ) (c : ℕ) (line : List ℕ) → (c == 10) ≡ false
    → line_text ((front ++ c ∷ []) ++ line) ≡ front ++ line_text (c ∷ line)
text_behind front c line other =
    let kept = keeps_first c line other in
    ap line_text (append_assoc front (c ∷ []) line)
    ∙ ap (without_last 13) (last_behind 10 front c line ∙ ap (λ bytes. front ++ bytes) kept.1)
    ∙ last_behind 13 front c kept.0 ∙ ap (λ bytes. front ++ without_last 13 bytes) (sym kept.1)

-- ---- the statements

-- what a line is to the statements, by what its text tells
by_text : Bool → (skips block : Bool) → (line : List ℕ) → List (List ℕ) → List Statement
by_text ended skips block line lines =
    if skips then statements_in ended None lines
    else (if block then statements_in ended (Some (line, [])) lines
    else (record { line = line; block = Absent } ∷ statements_in ended None lines))

in_text : (ended : Bool) (line : List ℕ) (lines : List (List ℕ)) → statements_in ended None (line ∷ lines)
    ≡ by_text ended (is_no_statement (line_text line)) (has_block (line_text line)) (clipped (line_text line)) lines
unfolding by_text
in_text ended line lines = refl

same_text : (ended skips skips' block block' : Bool) (line line' : List ℕ) (lines : List (List ℕ))
    → skips ≡ skips' → (skips' ≡ false → block ≡ block') → line ≡ line'
    → by_text ended skips block line lines ≡ by_text ended skips' block' line' lines
unfolding by_text
same_text ended skips true block block' line line' lines none blocks same = rw none refl
same_text ended skips false block block' line line' lines none blocks same = rw (none, blocks refl, same) refl

same_line : (ended : Bool) (line other : List ℕ) (lines : List (List ℕ)) → SameText LINE_LIMIT (line_text line) (line_text other)
    → statements_in ended None (line ∷ lines) ≡ statements_in ended None (other ∷ lines)
same_line ended line other lines same =
    in_text ended line lines
    ∙ same_text ended (is_no_statement (line_text line)) (is_no_statement (line_text other))
    (has_block (line_text line)) (has_block (line_text other)) (clipped (line_text line)) (clipped (line_text other)) lines
    same.none same.block same.line
    ∙ sym (in_text ended other lines)

same_first : (ended whole : Bool) (line other : List ℕ) (lines : List (List ℕ))
    → SameText LINE_LIMIT (line_text line) (line_text other)
    → statements_in ended None (if whole then line ∷ lines else lines)
    ≡ statements_in ended None (if whole then other ∷ lines else lines)
same_first ended true line other lines same = same_line ended line other lines same
same_first ended false line other lines same = refl

no_feed : (bytes line : List ℕ) → is_ended bytes ≡ false → is_ended (bytes ++ line) ≡ is_ended line
no_feed bytes line none =
    list_any-append (λ byte. byte == 10) bytes line ∙ ap (λ ended. ended || is_ended line) none

some_line : (bytes more : List ℕ) → 0 < length bytes → is_ended bytes ≡ false
    → lines_of (bytes ++ more) ≡ (bytes ++ first_of (lines_of more)) ∷ rest_of (lines_of more)
some_line [] more some none = absurd (omega arith)
some_line (x ∷ xs) more some none = begins_line x xs more none

-- the statements, once the line is known that the bytes begin
by_line : (ended : Bool) (bytes more : List ℕ) → 0 < length bytes → is_ended bytes ≡ false
    → statements_of ended (bytes ++ more)
    ≡ statements_in ended None (if ended || is_ended (first_of (lines_of more))
    then (bytes ++ first_of (lines_of more)) ∷ filter (λ line. ended || is_ended line) (rest_of (lines_of more))
    else filter (λ line. ended || is_ended line) (rest_of (lines_of more)))
by_line ended bytes more some none =
    let line = first_of (lines_of more) in
    let lines = filter (λ line. ended || is_ended line) (rest_of (lines_of more)) in
    ap (λ all. statements_in ended None (filter (λ line. ended || is_ended line) all)) (some_line bytes more some none)
    ∙ ap (λ whole. statements_in ended None (if ended || whole then (bytes ++ line) ∷ lines else lines)) (no_feed bytes line none)

-- bytes without a line feed stand for others, where the texts of the lines are the same
stand_for : (front other : List ℕ) (c : ℕ) → is_ended (front ++ c ∷ []) ≡ false → is_ended (other ++ c ∷ []) ≡ false
    → ((more : List ℕ) → SameText LINE_LIMIT (front ++ more) (other ++ more))
    → StandsFor (front ++ c ∷ []) (other ++ c ∷ [])
stand_for front other c none none' same more ended =
    let line = first_of (lines_of more) in
    let lines = filter (λ line. ended || is_ended line) (rest_of (lines_of more)) in
    let last : is_ended (c ∷ []) ≡ false =
    (or_parts (is_ended front) (is_ended (c ∷ [])) (sym (list_any-append (λ byte. byte == 10) front (c ∷ [])) ∙ none)).1 in
    let other_byte : (c == 10) ≡ false = (or_parts (c == 10) false last).0 in
    let texts : SameText LINE_LIMIT (line_text ((front ++ c ∷ []) ++ line)) (line_text ((other ++ c ∷ []) ++ line)) =
    subst (λ text. SameText LINE_LIMIT text (line_text ((other ++ c ∷ []) ++ line))) (sym (text_behind front c line other_byte))
    (subst (SameText LINE_LIMIT (front ++ line_text (c ∷ line))) (sym (text_behind other c line other_byte)) (same (line_text (c ∷ line)))) in
    by_line ended (front ++ c ∷ []) more (omega (arith, length-append front (c ∷ []))) none
    ∙ same_first ended (ended || is_ended line) ((front ++ c ∷ []) ++ line) ((other ++ c ∷ []) ++ line) lines texts
    ∙ sym (by_line ended (other ++ c ∷ []) more (omega (arith, length-append other (c ∷ []))) none')

-- ---- the short line

ended_parts : (xs ys : List ℕ) → is_ended (xs ++ ys) ≡ false → (is_ended xs ≡ false) × (is_ended ys ≡ false)
ended_parts xs ys none =
    or_parts (is_ended xs) (is_ended ys) (sym (list_any-append (λ byte. byte == 10) xs ys) ∙ none)

ended_join : (xs ys : List ℕ) → is_ended xs ≡ false → is_ended ys ≡ false → is_ended (xs ++ ys) ≡ false
ended_join xs ys none none' = list_any-append (λ byte. byte == 10) xs ys ∙ or_from (is_ended xs) (is_ended ys) none none'

pub ended_cut : (n : ℕ) (xs : List ℕ) → is_ended xs ≡ false → (is_ended (take n xs) ≡ false) × (is_ended (drop n xs) ≡ false)
ended_cut n xs none = ended_parts (take n xs) (drop n xs) (ap is_ended (take-append-drop n xs) ∙ none)

ended_pad : (xs : List ℕ) → is_ended (map {B = ℕ} (λ _. 32) xs) ≡ false
ended_pad [] = refl
ended_pad (x ∷ xs) = ended_pad xs

-- the word and what stands behind it have no line feed, and few bytes
record IsFew (most : ℕ) (bytes : List ℕ) : Type 0 where
  none : is_ended bytes ≡ false
  few : length bytes ≤ most

few_word : (skips block : Bool) → IsFew 5 (word_of skips block)
few_word true block = record { none = refl; few = omega arith }
few_word false true = record { none = refl; few = omega arith }
few_word false false = record { none = refl; few = omega arith }

kept_few : (text : List ℕ) (few : Bool) → nat_lt (length (without_blanks text)) 5 ≡ few → is_ended text ≡ false
    → IsFew 5 (kept_word text) × IsFew 4 (kept_rest text)
kept_few text true is none =
    let word : kept_word text ≡ without_blanks text =
    cond-true (nat_lt (length (without_blanks text)) 5) (without_blanks text) (word_of (is_no_statement text) (has_block text)) is in
    let rest : kept_rest text ≡ [] = cond-true (nat_lt (length (without_blanks text)) 5) [] (unread text) is in
    let short : length (without_blanks text) < 5 = ltb-true (length (without_blanks text)) 5 is in (
      subst (IsFew 5) (sym word) (record { none = (ended_cut (prefix_len is_blank text) text none).1; few = omega (arith, short) }),
      subst (IsFew 4) (sym rest) (record { none = refl; few = omega arith }),
    )
kept_few text false is none =
    let word : kept_word text ≡ word_of (is_no_statement text) (has_block text) =
    cond-false (nat_lt (length (without_blanks text)) 5) (without_blanks text) (word_of (is_no_statement text) (has_block text)) is in
    let rest : kept_rest text ≡ unread text = cond-false (nat_lt (length (without_blanks text)) 5) [] (unread text) is in (
      subst (IsFew 5) (sym word) (few_word (is_no_statement text) (has_block text)),
      subst (IsFew 4) (sym rest) (record {
        none = (ended_cut 4 (drop (utf8_valid_len text) text) (ended_cut (utf8_valid_len text) text none).1).0;
        few = let four = length-take 4 (drop (utf8_valid_len text) text) in omega (arith, four);
      }),
    )

short_few : (limit : ℕ) (text : List ℕ) → is_ended text ≡ false → IsFew (limit + 10) (short_text limit text)
unfolding short_text
short_few limit text none =
    let kept = kept_few text (nat_lt (length (without_blanks text)) 5) refl none in
    let word = kept.0 in
    let rest = kept.1 in
    let blanks = pad limit text in
    let most = length-take (limit + 1) text in
    let len = length-map {B = ℕ} (take (limit + 1) text) (λ _. 32) in
    let word_few = word.few in
    let rest_few = rest.few in
    let one = length-append blanks (kept_word text) in
    let two = length-append (blanks ++ kept_word text) (kept_rest text) in
    record {
      none = ended_join (blanks ++ kept_word text) (kept_rest text)
          (ended_join blanks (kept_word text) (ended_pad (take (limit + 1) text)) word.none) rest.none;
      few = omega (arith, most, len, word_few, rest_few, one, two);
    }

-- a line of many bytes is its last byte behind the others
last_byte : (line : List ℕ) → 0 < length line → (c : ℕ) × (drop (length line - 1) line ≡ c ∷ [])
last_byte line some =
    let place : length line - 1 < length line = omega arith in
    let behind : length line - 1 + 1 ≡ length line = omega arith in (
      get_or line (length line - 1) 0,
      drop_more line (length line - 1) 0 place
          ∙ ap (λ rest. get_or line (length line - 1) 0 ∷ rest) (ap (λ n. drop n line) behind ∙ drop_all (length line) line (omega arith)),
    )

from_parts : (front : List ℕ) (c : ℕ) → LINE_LIMIT < length front → is_ended (front ++ c ∷ []) ≡ false
    → (StandsFor (short_text LINE_LIMIT front ++ c ∷ []) (front ++ c ∷ []))
    × (is_ended (short_text LINE_LIMIT front ++ c ∷ []) ≡ false)
    × (length (short_text LINE_LIMIT front ++ c ∷ []) < SHORTENED_BYTES)
from_parts front c long none =
    let both = ended_parts front (c ∷ []) none in
    let short = short_few LINE_LIMIT front both.0 in
    let few = short.few in
    let none' = ended_join (short_text LINE_LIMIT front) (c ∷ []) short.none both.1 in (
      stand_for (short_text LINE_LIMIT front) front c none' none (short_same LINE_LIMIT front long),
      none',
      omega (arith, few, length-append (short_text LINE_LIMIT front) (c ∷ [])),
    )

-- a long line has become a short one
pub shortened_is : (line kept : List ℕ) → SHORTENED_BYTES ≤ length line → is_ended line ≡ false
    → kept ≡ short_line LINE_LIMIT line → IsShortened line kept
shortened_is line kept long none is =
    let n = length line - 1 in
    let last = last_byte line (omega (arith, long)) in
    let whole : take n line ++ last.0 ∷ [] ≡ line =
    ap (λ rest. take n line ++ rest) (sym last.1) ∙ take-append-drop n line in
    let now : kept ≡ short_text LINE_LIMIT (take n line) ++ last.0 ∷ [] =
    is ∙ ap (λ rest. short_text LINE_LIMIT (take n line) ++ rest) last.1 in
    let front : length (take n line) ≡ n = length-take-le n line (omega arith) in
    let all = from_parts (take n line) last.0 (omega (arith, front, long)) (ap is_ended whole ∙ none) in
    record {
      stands = subst (λ old. StandsFor kept old) whole (subst (λ new. StandsFor new (take n line ++ last.0 ∷ [])) (sym now) all.0);
      none = ap is_ended now ∙ all.1;
      short = subst (λ new. length new < SHORTENED_BYTES) (sym now) all.2;
      empty = λ nothing. let zero_is : length line ≡ 0 = ap length nothing in absurd (omega (arith, zero_is, long));
    }
