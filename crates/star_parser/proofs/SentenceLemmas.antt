-- What the reading of a whole line of symbols says of it.
use Rattle.std.proofs.Common.{◌≡◌, ℕ, suc, ◌≤◌, ◌-◌, false, List, [], ◌∷◌, ◌++◌, length, take, Option, Some, None, refl, ap, sym, subst, ◌∙◌, arith, append_assoc, append-nil, length-append, inl, inr}
use Rattle.std.specs.Prelude.{◌==◌, if◌then◌else◌, unwrap_or, slice_index, Result, Ok, Err}
use Rattle.std.specs.Option.{option_map_or}
use Rattle.star_lexer.specs.declared.symbol.Symbol.{Symbol}
use Rattle.star_lexer.specs.Symbol.{Symbolic}
use Rattle.star_parser.specs.declared.ast.Ast.{Ast}
use Rattle.star_parser.specs.declared.fault.ParseFault.{ParseFault}
use Rattle.star_parser.specs.declared.fault.ParseFault.TheVariants.{Syntax}
use Rattle.star_parser.specs.Statement.{Statement}
use Rattle.star_parser.specs.Grammar as grammar
use Rattle.star_parser.specs.Reader as reader
use Rattle.star_parser.specs.Reader.{ReaderOutcome, Reader, bind, gives, end_at}
use Rattle.star_parser.specs.Reading as reading
use Rattle.star_parser.specs.Reading.{sentence_at}
use Rattle.star_parser.specs.Reads.{Reads}
use Rattle.star_parser.specs.Sentence.{BeginsSentence, IsStopOf, place_of}
use Rattle.star_parser.proofs.ReadsLemmas.{none_some, any_symbol}
use Rattle.star_parser.proofs.SeparatedLemmas.{reads_length}
use Rattle.star_parser.proofs.StatementLemmas.{sentence_reads}

-- Reading of a whole sentence leaves nothing.

end_leaves : {B : Type 0} (value b : B) (symbols rest : List Symbol) → bind (end_at symbols) (λ _. gives value) ≡ (Some b, rest) → rest ≡ []
end_leaves value b [] rest e = ap (λ z. z.1) (sym e)
end_leaves value b (t ∷ symbols) rest e = none_some (ap (λ z. z.0) e)

behind_leaves : {A B : Type 0} (out : ReaderOutcome A) (second : A → Reader B) (b : B) (rest : List Symbol) → ((a : A) (later : List Symbol) → second a later ≡ (Some b, rest) → rest ≡ [])
    → bind out second ≡ (Some b, rest) → rest ≡ []
behind_leaves (Some a, later) second b rest h e = h a later e
behind_leaves (None, later) second b rest h e = none_some (ap (λ z. z.0) e)

sentence_leaves : (symbols : List Symbol) (meaning : Statement) (rest : List Symbol) → sentence_at symbols ≡ (Some meaning, rest) → rest ≡ []
unfolding sentence_at
sentence_leaves symbols meaning rest e =
    behind_leaves (reading.statement_at symbols) (λ m. reader.◌>>◌ reading.semicolon_at (reader.◌>>◌ end_at (gives m))) meaning rest
    (λ m later e1. behind_leaves (reading.semicolon_at later) (λ _. reader.◌>>◌ end_at (gives m)) meaning rest (λ u last e2. end_leaves m meaning last rest e2) e1) e

-- what was read is a sentence
pub sentence_read : (symbols : List Symbol) (meaning : Statement) (rest : List Symbol) → sentence_at symbols ≡ (Some meaning, rest) → grammar.sentence symbols meaning
sentence_read symbols meaning rest e =
    let r = subst (Reads grammar.sentence grammar.sentence any_symbol symbols) e (sentence_reads symbols) in
    let all : symbols ≡ r.used = r.whole ∙ ap (λ z. r.used ++ z) (sentence_leaves symbols meaning rest e) ∙ append-nil r.used in
    subst (λ z. grammar.sentence z meaning) (sym all) r.read

-- a sentence is read as what it stands for
pub sentence_only : (symbols : List Symbol) (meaning : Statement) (out : ReaderOutcome Statement) → sentence_at symbols ≡ out → grammar.sentence symbols meaning → out.0 ≡ Some meaning
sentence_only symbols meaning out e m =
    let r = subst (Reads grammar.sentence grammar.sentence any_symbol symbols) e (sentence_reads symbols) in
    (r.only out.1 symbols [] meaning refl (sym r.whole ∙ sym (append-nil symbols)) m refl).0

take_front : (used rest : List Symbol) → take (length used) (used ++ rest) ≡ used
take_front [] rest = refl
take_front (s ∷ used) rest = ap (λ z. s ∷ z) (take_front used rest)

take_next : (used : List Symbol) (t : Symbol) (rest : List Symbol) → take (suc (length used)) (used ++ t ∷ rest) ≡ used ++ t ∷ []
take_next [] t rest = refl
take_next (s ∷ used) t rest = ap (λ z. s ∷ z) (take_next used t rest)

pub sentence_shorter : (symbols : List Symbol) (out : ReaderOutcome Statement) → sentence_at symbols ≡ out → length out.1 ≤ length symbols
sentence_shorter symbols out e = reads_length symbols out (subst (Reads grammar.sentence grammar.sentence any_symbol symbols) e (sentence_reads symbols))

-- Where reading stops is the first place where the line is the front of no sentence.

stops_by : (line : Symbolic) (end : ℕ) (rest : List Symbol) → length line.places ≡ length line.symbols → sentence_at line.symbols ≡ (None, rest)
    → Reads grammar.sentence grammar.sentence any_symbol line.symbols (None, rest) → IsStopOf line end (place_of line (length rest) end)
stops_by line end [] placed e r =
    let all : r.used ≡ line.symbols = sym (r.whole ∙ append-nil r.used) in
    let front : BeginsSentence line.symbols = (r.begun.0, r.begun.1, subst (λ z. grammar.sentence (z ++ r.begun.0) r.begun.1) all r.begun.2) in
    by line.bad refl front
  where
    by : (bad : Option ℕ) → line.bad ≡ bad → BeginsSentence line.symbols → IsStopOf line end (unwrap_or line.bad end)
    by (Some place) is front = inr (inl (front, is ∙ ap (λ z. Some (unwrap_or z end)) (sym is)))
    by None is front = inr (inr (front, is, (λ meaning m. none_some (sentence_only line.symbols meaning (None, []) e m)), ap (λ z. unwrap_or z end) is))
stops_by line end (t ∷ rest) placed e r =
    let count = length r.used in
    let whole : length line.symbols ≡ length (r.used ++ t ∷ rest) = ap length r.whole in
    let front : BeginsSentence (take count line.symbols) =
    (r.begun.0, r.begun.1, subst (λ z. grammar.sentence (z ++ r.begun.0) r.begun.1) (sym (ap (take count) r.whole ∙ take_front r.used (t ∷ rest))) r.begun.2) in
    let next : take (suc count) line.symbols ≡ r.used ++ t ∷ [] = ap (take (suc count)) r.whole ∙ take_next r.used t rest in
    let never : BeginsSentence (take (suc count) line.symbols) → ⊥ =
    λ h. none_some (r.only (t ∷ h.0) ((r.used ++ t ∷ []) ++ h.0) [] h.1 refl
    (sym (append_assoc r.used (t ∷ []) h.0) ∙ sym (append-nil ((r.used ++ t ∷ []) ++ h.0)))
    (subst (λ z. grammar.sentence (z ++ h.0) h.1) next h.2) refl).0 in
    let left : length line.places - suc (length rest) ≡ count = omega (arith, placed, whole, length-append r.used (t ∷ rest)) in
    let some : (suc (length rest) == 0) ≡ false = grind arith in
    inl (
      count,
      omega (arith, whole, length-append r.used (t ∷ rest)),
      front,
      never,
      ap (λ b. if b then unwrap_or line.bad end else slice_index line.places (length line.places - suc (length rest))) some ∙ ap (slice_index line.places) left,
    )

pub stops : (line : Symbolic) (end : ℕ) (rest : List Symbol) → length line.places ≡ length line.symbols → sentence_at line.symbols ≡ (None, rest)
    → IsStopOf line end (place_of line (length rest) end)
stops line end rest placed e =
    stops_by line end rest placed e (subst (Reads grammar.sentence grammar.sentence any_symbol line.symbols) e (sentence_reads line.symbols))

-- a whole sentence, and then no token
pub stops_behind : (line : Symbolic) (end place : ℕ) (meaning : Statement) (rest : List Symbol) → sentence_at line.symbols ≡ (Some meaning, rest) → line.bad ≡ Some place
    → IsStopOf line end place
stops_behind line end place meaning rest e bad =
    inr (inl (([], meaning, subst (λ z. grammar.sentence z meaning) (sym (append-nil line.symbols)) (sentence_read line.symbols meaning rest e)), bad))

-- what holds of a whole sentence, whether a token behind it is bad or not
pub whole_by : (P : Result Ast ParseFault → Type 0) (line : Symbolic) (ast : Ast) (bad : Option ℕ) (result : Result Ast ParseFault)
    → result ≡ option_map_or (λ place. Err (Syntax place)) bad (Ok ast) → bad ≡ line.bad
    → ((place : ℕ) → line.bad ≡ Some place → P (Err (Syntax place))) → (line.bad ≡ None → P (Ok ast)) → P result
whole_by P line ast bad result is told broken whole = subst P (sym is) (by bad (sym told))
  where
    by : (bad : Option ℕ) → line.bad ≡ bad → P (option_map_or (λ place. Err (Syntax place)) bad (Ok ast))
    by (Some place) e = broken place e
    by None e = whole e
