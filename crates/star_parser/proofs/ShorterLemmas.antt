-- A reader leaves no more symbols than it was given.
use Rattle.std.proofs.Common.{ℕ, zero, suc, ◌≤◌, Bool, true, false, List, [], ◌∷◌, length, Some, None, arith}
use Rattle.std.specs.Prelude.{if◌then◌else◌, flat_map}
use Rattle.star_lexer.specs.declared.keyword.Keyword.TheVariants as key
use Rattle.star_lexer.specs.declared.sign.Sign.{Sign}
use Rattle.star_lexer.specs.declared.sign.Sign.TheVariants as mark
use Rattle.star_lexer.specs.declared.symbol.Symbol.{Symbol}
use Rattle.star_parser.specs.Condition.{Condition, Either, Both, Negate, conjuncts, disjuncts, alone_or}
use Rattle.star_parser.specs.Reader as reader
use Rattle.star_parser.specs.Reader.{ReaderOutcome, Reader, begins, behind, bind, on, gives, expect, is_word, is_sign, separated_in, separated_at}
use Rattle.star_parser.specs.Reading as reading
use Rattle.star_parser.proofs.ReadsLemmas.{no_symbol, expect_reads}
use Rattle.star_parser.proofs.TerminalLemmas.{finds_sign}
use Rattle.star_parser.proofs.SeparatedLemmas.{reads_length}
use Rattle.star_parser.proofs.ConditionLemmas.{test_reads}

abbrev pub Shortens : {A : Type 0} → Reader A → Type 0
Shortens member = (symbols : List Symbol) → length (member symbols).1 ≤ length symbols

bind_shorter : {A B : Type 0} (out : ReaderOutcome A) (second : A → Reader B) (count : ℕ) → length out.1 ≤ count
    → ((a : A) → Shortens (second a)) → length (bind out second).1 ≤ count
bind_shorter (Some a, rest) second count short h = omega (arith, short, h a rest)
bind_shorter (None, rest) second count short h = short

behind_shorter : (test : Symbol → Bool) (symbols : List Symbol) → length (behind test symbols) ≤ length symbols
behind_shorter test [] = omega arith
behind_shorter test (t ∷ symbols) = by (test t)
  where
    by : (taken : Bool) → length (if taken then symbols else (t ∷ symbols)) ≤ suc (length symbols)
    by true = omega arith
    by false = omega arith

on_shorter : {A : Type 0} (test : Symbol → Bool) (first second : Reader A) → Shortens first → Shortens second → Shortens (on test first second)
on_shorter {A = A} test first second f s symbols = by (begins test symbols)
  where
    by : (taken : Bool) → length (if taken then first (behind test symbols) else second symbols).1 ≤ length symbols
    by true = omega (arith, f (behind test symbols), behind_shorter test symbols)
    by false = s symbols

separated_shorter : {A : Type 0} (test : Symbol → Bool) (member : Reader A) → Shortens member → (most : ℕ) → Shortens (separated_in test member most)
separated_shorter test member short zero symbols = omega arith
separated_shorter test member short (suc most) symbols =
    bind_shorter (member symbols) (λ v. on test (reader.◌>>=◌ (separated_in test member most) (λ values. gives (v ∷ values))) (gives (v ∷ []))) (length symbols) (short symbols)
    (λ v. on_shorter test (reader.◌>>=◌ (separated_in test member most) (λ values. gives (v ∷ values))) (gives (v ∷ []))
    (λ rest. bind_shorter (separated_in test member most rest) (λ values. gives (v ∷ values)) (length rest) (separated_shorter test member short most rest) (λ values last. omega arith))
    (λ rest. omega arith))

map_shorter : {A B : Type 0} (first : Reader A) (f : A → B) → Shortens first → Shortens (reader.◌>>=◌ first (λ a. gives (f a)))
map_shorter first f short symbols = bind_shorter (first symbols) (λ a. gives (f a)) (length symbols) (short symbols) (λ a rest. omega arith)

pub all_shorter : (one : Reader Condition) → Shortens one → Shortens (reading.all_by one)
all_shorter one short =
    map_shorter (reading.conjuncts_by one) (alone_or Both)
    (map_shorter (separated_at (is_word key.And) one) (flat_map conjuncts) (λ symbols. separated_shorter (is_word key.And) one short (suc (length symbols)) symbols))

any_shorter : (one : Reader Condition) → Shortens one → Shortens (reading.any_by one)
any_shorter one short =
    map_shorter (reading.disjuncts_by one) (alone_or Either)
    (map_shorter (separated_at (is_word key.Or) (reading.all_by one)) (flat_map disjuncts)
    (λ symbols. separated_shorter (is_word key.Or) (reading.all_by one) (all_shorter one short) (suc (length symbols)) symbols))

expect_shorter : (s : Sign) → Shortens (expect (is_sign s))
expect_shorter s symbols = reads_length {E = no_symbol} symbols (expect (is_sign s) symbols) (expect_reads symbols (finds_sign s))

test_shorter : Shortens reading.test_at
test_shorter symbols = reads_length symbols (reading.test_at symbols) (test_reads symbols)

pub one_shorter : (depth : ℕ) → Shortens (reading.one_at depth)
unfolding reading.one_at
one_shorter zero = λ symbols. omega arith
one_shorter (suc depth) =
    on_shorter (is_word key.Not) (reader.◌>>=◌ (reading.one_at depth) (λ t. gives (Negate t)))
    (on (is_sign mark.Open) (reader.◌>>=◌ (reading.any_by (reading.one_at depth)) (λ t. reader.◌>>◌ (expect (is_sign mark.Close)) (gives t))) reading.test_at)
    (map_shorter (reading.one_at depth) Negate (one_shorter depth))
    (on_shorter (is_sign mark.Open) (reader.◌>>=◌ (reading.any_by (reading.one_at depth)) (λ t. reader.◌>>◌ (expect (is_sign mark.Close)) (gives t))) reading.test_at
    (λ symbols. bind_shorter (reading.any_by (reading.one_at depth) symbols) (λ t. reader.◌>>◌ (expect (is_sign mark.Close)) (gives t)) (length symbols)
    (any_shorter (reading.one_at depth) (one_shorter depth) symbols)
    (λ t rest. bind_shorter (expect (is_sign mark.Close) rest) (λ _. gives t) (length rest) (expect_shorter mark.Close rest) (λ u last. omega arith)))
    test_shorter)
