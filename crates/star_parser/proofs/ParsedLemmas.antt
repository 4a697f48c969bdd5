-- What a line is, by the test of its limits.
use Rattle.std.proofs.Common.{◌≡◌, ℕ, Bool, true, false, List, length, Option, Some, None, refl, ap, sym, subst, inl, inr, ◌∙◌}
use Rattle.std.specs.Prelude.{◌↔◌, ◌⊎◌, IsTrue, if◌then◌else◌, All, IfOk, Result, Ok, Err}
use Rattle.std.specs.Option.{option_map_or}
use Rattle.std.proofs.lemmas.List.{length-map}
use Rattle.star_lexer.specs.declared.symbol.Symbol.{Symbol}
use Rattle.star_lexer.specs.Limits.{IsOverLimit, is_over_limit}
use Rattle.star_lexer.specs.Symbol.{Symbolic, symbolic, symbols_of}
use Rattle.star_lexer.specs.Written.{IsWritable, line_of}
use Rattle.star_parser.specs.Statement.{Statement}
use Rattle.star_parser.specs.Reader.{ReaderOutcome}
use Rattle.star_parser.specs.Reading.{sentence_at}
use Rattle.star_parser.specs.Parsed.{Over, Stopped, Means, parsed_by, parsed_of}
use Rattle.star_parser.specs.Grammar.{sentence}
use Rattle.star_parser.specs.Sentence.{IsSentenceOf, IsSentence, IsStopOf, IsStop}
use Rattle.star_parser.specs.Printed.{statement_symbols, printed, CanBeWritten}
use Rattle.star_parser.proofs.ReadsLemmas.{none_some, some_same, true_false}
use Rattle.star_parser.proofs.SentenceLemmas.{sentence_read, sentence_only, stops, stops_behind}
use Rattle.star_parser.proofs.PrintedLemmas.{printed_is}

-- the limits of a line can be tested
abbrev pub AreTested : Type 0
AreTested = (line : List ℕ) → IsTrue (is_over_limit line) ↔ IsOverLimit line

pub over_parsed : AreTested → (line : List ℕ) → IsOverLimit line → parsed_of line ≡ Over
unfolding parsed_of
over_parsed tested line over =
    ap (λ b. if b then Over else parsed_by (symbolic line) (length line) (sentence_at (symbolic line).symbols)) ((tested line).1 over)

not_tested : (over : Bool) → (IsTrue over → ⊥) → over ≡ false
not_tested true never = absurd (never refl)
not_tested false never = refl

pub within_parsed : AreTested → (line : List ℕ) → ¬ (IsOverLimit line)
    → parsed_of line ≡ parsed_by (symbolic line) (length line) (sentence_at (symbolic line).symbols)
unfolding parsed_of
within_parsed tested line within =
    ap (λ b. if b then Over else parsed_by (symbolic line) (length line) (sentence_at (symbolic line).symbols))
    (not_tested (is_over_limit line) (λ over. within ((tested line).0 over)))

-- What is printed of a well-formed statement is that statement.

abbrev pub AreReadBack : Type 0
AreReadBack = (symbols : List Symbol) → All IsWritable symbols → symbols_of (line_of symbols) ≡ symbols

abbrev pub AreWhole : Type 0
AreWhole = (symbols : List Symbol) → All IsWritable symbols → (symbolic (line_of symbols)).bad ≡ None

parsed_when : (line : Symbolic) (end : ℕ) (meaning : Statement) (out : ReaderOutcome Statement) → out.0 ≡ Some meaning → line.bad ≡ None → parsed_by line end out ≡ Means meaning
parsed_when line end meaning (Some found, rest) e whole = ap (λ z. option_map_or Stopped z (Means found)) whole ∙ ap Means (some_same e)
parsed_when line end meaning (None, rest) e whole = none_some e

pub printed_parsed : AreTested → AreReadBack → AreWhole → (meaning : Statement) → CanBeWritten meaning → parsed_of (printed meaning) ≡ Means meaning
printed_parsed tested back whole meaning formed =
    let symbols = statement_symbols meaning in
    let read : symbols_of (printed meaning) ≡ symbols = back symbols formed.writable in
    let out = sentence_at symbols in
    within_parsed tested (printed meaning) formed.within
    ∙ ap (λ z. parsed_by (symbolic (printed meaning)) (length (printed meaning)) (sentence_at z)) read
    ∙ parsed_when (symbolic (printed meaning)) (length (printed meaning)) meaning out (sentence_only symbols meaning out refl (printed_is meaning formed.shaped)) (whole symbols formed.writable)

pub if_ok_map : {A E : Type 0} {P Q : A → Type 0} (r : Result A E) → ((a : A) → P a → Q a) → IfOk r P → IfOk r Q
if_ok_map (Ok a) f p = f a p
if_ok_map (Err e) f p = tt

-- A line as a function is what the limits and the grammar say of it.

abbrev Limited : List ℕ → Type 0
Limited line =
    (IsOverLimit line × (parsed_of line ≡ Over))
    ⊎ ((¬ (IsOverLimit line)) × (parsed_of line ≡ parsed_by (symbolic line) (length line) (sentence_at (symbolic line).symbols)))

limited_by : AreTested → (line : List ℕ) (over : Bool) → is_over_limit line ≡ over → Limited line
limited_by tested line true e = inl ((tested line).0 e, over_parsed tested line ((tested line).0 e))
limited_by tested line false e =
    let within : ¬ (IsOverLimit line) = λ over. true_false (sym ((tested line).1 over) ∙ e) in
    inr (within, within_parsed tested line within)

limited : AreTested → (line : List ℕ) → Limited line
limited tested line = limited_by tested line (is_over_limit line) refl

-- what the reading of the symbols says
read_means : (line : Symbolic) (end : ℕ) (out : ReaderOutcome Statement) (meaning : Statement) → sentence_at line.symbols ≡ out → parsed_by line end out ≡ Means meaning
    → IsSentenceOf line meaning
read_means line end (Some found, rest) meaning e means = by line.bad refl
  where
    by : (bad : Option ℕ) → line.bad ≡ bad → IsSentenceOf line meaning
    by None whole =
        let same : Means found ≡ Means meaning = sym (ap (λ z. option_map_or Stopped z (Means found)) whole) ∙ means in
        (whole, subst (sentence line.symbols) (cc same) (sentence_read line.symbols found rest e))
    by (Some place) broken = absurd (cc (sym (ap (λ z. option_map_or Stopped z (Means found)) broken) ∙ means))
read_means line end (None, rest) meaning e means = absurd (cc means)

read_stopped : (line : Symbolic) (end place : ℕ) (out : ReaderOutcome Statement) → length line.places ≡ length line.symbols → sentence_at line.symbols ≡ out → parsed_by line end out ≡ Stopped place
    → IsStopOf line end place
read_stopped line end place (Some found, rest) placed e stopped = by line.bad refl
  where
    by : (bad : Option ℕ) → line.bad ≡ bad → IsStopOf line end place
    by None whole = absurd (cc (sym (ap (λ z. option_map_or Stopped z (Means found)) whole) ∙ stopped))
    by (Some p) broken =
        let same : Stopped p ≡ Stopped place = sym (ap (λ z. option_map_or Stopped z (Means found)) broken) ∙ stopped in
        stops_behind line end place found rest e (broken ∙ ap Some (cc same))
read_stopped line end place (None, rest) placed e stopped =
    subst (IsStopOf line end) (cc stopped) (stops line end rest placed e)

pub over_is : AreTested → (line : List ℕ) → (parsed_of line ≡ Over) ↔ IsOverLimit line
over_is tested line = (there, over_parsed tested line)
  where
    there : parsed_of line ≡ Over → IsOverLimit line
    there is = by (limited tested line)
      where
        by : Limited line → IsOverLimit line
        by (inl h) = h.0
        by (inr h) = never (sentence_at (symbolic line).symbols) (sym h.1 ∙ is)
          where
            never : (out : ReaderOutcome Statement) → parsed_by (symbolic line) (length line) out ≡ Over → IsOverLimit line
            never (None, rest) e = absurd (cc e)
            never (Some found, rest) e = bad (symbolic line).bad e
              where
                bad : (b : Option ℕ) → option_map_or Stopped b (Means found) ≡ Over → IsOverLimit line
                bad None e = absurd (cc e)
                bad (Some p) e = absurd (cc e)

pub means_is : AreTested → (line : List ℕ) (meaning : Statement) → (parsed_of line ≡ Means meaning) ↔ ((¬ (IsOverLimit line)) × IsSentence line meaning)
means_is tested line meaning = (there, back)
  where
    there : parsed_of line ≡ Means meaning → (¬ (IsOverLimit line)) × IsSentence line meaning
    there is = by (limited tested line)
      where
        by : Limited line → (¬ (IsOverLimit line)) × IsSentence line meaning
        by (inl h) = absurd (cc (sym h.1 ∙ is))
        by (inr h) = (h.0, read_means (symbolic line) (length line) (sentence_at (symbolic line).symbols) meaning refl (sym h.1 ∙ is))

    back : (¬ (IsOverLimit line)) × IsSentence line meaning → parsed_of line ≡ Means meaning
    back h =
        let out = sentence_at (symbolic line).symbols in
        within_parsed tested line h.0
        ∙ parsed_when (symbolic line) (length line) meaning out (sentence_only (symbolic line).symbols meaning out refl h.1.1) h.1.0

pub stopped_is : AreTested → (line : List ℕ) (place : ℕ) → parsed_of line ≡ Stopped place → (¬ (IsOverLimit line)) × IsStop line place
stopped_is tested line place is = by (limited tested line)
  where
    placed : length (symbolic line).places ≡ length (symbolic line).symbols
    placed = length-map _ _ ∙ sym (length-map _ _)

    by : Limited line → (¬ (IsOverLimit line)) × IsStop line place
    by (inl h) = absurd (cc (sym h.1 ∙ is))
    by (inr h) = (h.0, read_stopped (symbolic line) (length line) place (sentence_at (symbolic line).symbols) placed refl (sym h.1 ∙ is))
