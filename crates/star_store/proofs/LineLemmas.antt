-- What a line means names its table rightly, and what stops it stands inside.
use Rattle.std.proofs.Common.{◌≡◌, inl, inr, ℕ, ◌<◌, ◌≤◌, ◌^◌, Bool, true, false, nat_lt, List, [], ◌∷◌, ◌++◌, length, Option, Some, All, refl, sym, subst, arith}
use Rattle.std.specs.Prelude.{⊤, IfSome, map, slice_index_or}
use Rattle.std.proofs.lemmas.Bool.Decides.{nat_tests}
use Rattle.std.proofs.lemmas.List.Elements.{All-cons, All-contains_itself, All-head, All-map, All-nil, All-tail}
use Rattle.script_reader.specs.declared.statement.Statement.{Statement}
use Rattle.star_lexer.specs.Line.{lexed}
use Rattle.star_lexer.specs.declared.token.Token.{Token}
use Rattle.star_lexer.specs.Limits.{IsOverLimit, IsTooLong}
use Rattle.star_lexer.specs.Symbol.{symbols_of}
use Rattle.star_lexer.specs.declared.reading.TheConstants.{MAX_LINE_BYTES, MAX_NAME_BYTES}
use Rattle.star_lexer.specs.declared.symbol.Symbol.{Symbol}
use Rattle.star_lexer.specs.declared.symbol.Symbol.TheVariants as symbol
use Rattle.star_parser.specs.Grammar.{sentence, statement}
use Rattle.star_parser.specs.Sentence.{IsSentence, IsStop}
use Rattle.star_parser.specs.Statement as written
use Rattle.reply_text.specs.Formed.{IsTableName}
use Rattle.star_store.specs.Text.{StopsAt}
use Rattle.star_store.proofs.ValueLemmas.{at-or}
use Rattle.star_store.proofs.NameLemmas.{line-inside, symbols-named}

-- a symbol that is a name may be that of a table
abbrev IsTabled : Symbol → Type 0
IsTabled its = (name : List ℕ) → its ≡ symbol.Name name → IsTableName name

not-longer : (name : List ℕ) → (MAX_NAME_BYTES < length name → ⊥) → length name ≤ MAX_NAME_BYTES
not-longer name h = by (nat_lt MAX_NAME_BYTES (length name)) refl
  where
    by : (t : Bool) → nat_lt MAX_NAME_BYTES (length name) ≡ t → length name ≤ MAX_NAME_BYTES
    by true e = absurd (h (grind (arith, nat_tests)))
    by false e = grind (arith, nat_tests)

symbols-tabled : (line : List ℕ) → ¬ (IsOverLimit line) → All IsTabled (symbols_of line)
symbols-tabled line within k d low = λ name e.
    let its = slice_index_or (symbols_of line) k d in
    let at = All-contains_itself (symbols_of line) k d low in
    record {
      name_of_the_language = symbols-named line k d low name e;
      short = not-longer name (λ long. within (inr (inl (at.0, its, at.1, at.2, subst IsTooLong (sym e) long))));
    }

-- a meaning names its table so
abbrev pub NamesTable : written.Statement → Type 0
NamesTable (written.Dimension name columns) = IsTableName name
NamesTable (written.Fact name columns) = IsTableName name
NamesTable other = ⊤

all-front : (P : Symbol → Type 0) (front back : List Symbol) → All P (front ++ back) → All P front
all-front P [] back h = All-nil P
all-front P (x ∷ front) back h = All-cons P x front (All-head P x (front ++ back) h) (all-front P front back (All-tail P x (front ++ back) h))

all-back : (P : Symbol → Type 0) (front back : List Symbol) → All P (front ++ back) → All P back
all-back P [] back h = h
all-back P (x ∷ front) back h = all-back P front back (All-tail P x (front ++ back) h)

-- the name at the front of what stands behind a word
named-behind : (symbols front back first rest : List Symbol) (name : List ℕ) → All IsTabled symbols → symbols ≡ front ++ back → back ≡ first ++ rest
    → first ≡ symbol.Name name ∷ [] → IsTableName name
named-behind symbols front back first rest name h e is named =
    let behind : All IsTabled back = all-back IsTabled front back (subst (All IsTabled) e h) in
    let here : All IsTabled first = all-front IsTabled first rest (subst (All IsTabled) is behind) in
    All-head IsTabled (symbol.Name name) [] (subst (All IsTabled) named here) name refl

statement-names : (symbols : List Symbol) (meaning : written.Statement) → All IsTabled symbols → statement symbols meaning → NamesTable meaning
statement-names symbols meaning h (inl (f, b, u, e, w, (f2, b2, name, e2, n, (f3, b3, columns, e3, c, (nil, same))))) =
    subst NamesTable (sym same) (named-behind symbols f b f2 b2 name h e e2 n)
statement-names symbols meaning h (inr (inl (f, b, u, e, w, (f2, b2, name, e2, n, (f3, b3, columns, e3, c, (nil, same)))))) =
    subst NamesTable (sym same) (named-behind symbols f b f2 b2 name h e e2 n)
statement-names symbols meaning h (inr (inr (inl (f, b, u, e, w, (f2, b2, name, e2, n, (f3, b3, header, e3, c, (nil, same))))))) =
    subst NamesTable (sym same) tt
statement-names symbols meaning h (inr (inr (inr (inl (f, b, u, e, w, (f2, b2, u2, e2, w2, (f3, b3, name, e3, n, (f4, b4, out, e4, c, (nil, same))))))))) =
    subst NamesTable (sym same) tt
statement-names symbols meaning h (inr (inr (inr (inr (inl (f, b, u, e, w, (f2, b2, items, e2, i, (f3, b3, u3, e3, w3, (f4, b4, names, e4, n, (f5, b5, out, e5, c, (f6, b6, groups, e6, g, (nil, same)))))))))))) =
    subst NamesTable (sym same) tt
statement-names symbols meaning h (inr (inr (inr (inr (inr (f, b, u, e, w, (nil, same))))))) =
    subst NamesTable (sym same) tt

sentence-names : (symbols : List Symbol) (meaning : written.Statement) → All IsTabled symbols → sentence symbols meaning → NamesTable meaning
sentence-names symbols meaning h (front, back, value, e, its, (f2, b2, u, e2, semi, (nil, same))) =
    subst NamesTable (sym same) (statement-names front value (all-front IsTabled front back (subst (All IsTabled) e h)) its)

-- what a line within the limits means names its table
pub line-names : (line : List ℕ) (meaning : written.Statement) → ¬ (IsOverLimit line) → IsSentence line meaning → NamesTable meaning
line-names line meaning within (bad, its) = sentence-names (symbols_of line) meaning (symbols-tabled line within) its

-- ---- places

-- a place of 32 bits
line-short : (line : List ℕ) → ¬ (IsOverLimit line) → length line ≤ MAX_LINE_BYTES
line-short line within = by (nat_lt MAX_LINE_BYTES (length line)) refl
  where
    by : (t : Bool) → nat_lt MAX_LINE_BYTES (length line) ≡ t → length line ≤ MAX_LINE_BYTES
    by true e = absurd (within (inl (grind (arith, nat_tests))))
    by false e = grind (arith, nat_tests)

bad-inside : (line : List ℕ) (bad : Option ℕ) (place : ℕ) → IfSome bad (λ p. p < length line) → bad ≡ Some place → place ≤ length line
bad-inside line bad place h e =
    let low : place < length line = subst (λ o. IfSome o (λ p. p < length line)) e h in omega (arith, low)

stop-inside : (line : List ℕ) (place : ℕ) → IsStop line place → place ≤ length line
stop-inside line place (inl (count, low, front, stops, is)) =
    let firsts = map (λ (token : Token). token.first) (lexed line).tokens in
    let all : All (λ p. p ≤ length line) firsts =
    All-map (λ p. p ≤ length line) (λ (token : Token). token.first) (lexed line).tokens (λ k d small. let inside = ((line-inside line).0 k d small).begins in omega (arith, inside)) in
    let at : slice_index_or firsts count 0 ≤ length line = at-or (λ p. p ≤ length line) firsts count 0 all (omega arith) in
    subst (λ p. p ≤ length line) (sym is) at
stop-inside line place (inr (inl (front, bad))) = bad-inside line (lexed line).bad place (line-inside line).1 bad
stop-inside line place (inr (inr (front, bad, none, is))) = omega (arith, is)

-- where a statement stops is a place of 32 bits
pub place-fits : (its : Statement) (place : ℕ) → ¬ (IsOverLimit its.line) → StopsAt its place → place < 2 ^ 32
place-fits its place within (inl stop) = let short = line-short its.line within in let inside = stop-inside its.line place stop in omega (arith, short, inside)
place-fits its place within (inr (meaning, sentence, lacks, is)) = let short = line-short its.line within in omega (arith, short, is)
