-- The readers of conditions read their forms, to any depth.
use Rattle.std.proofs.Common.{◌≡◌, ℕ, zero, suc, ◌<◌, ◌≤◌, Bool, true, false, ◌||◌, List, [], ◌∷◌, ◌++◌, length, Some, None, refl, ap, sym, subst, ◌∙◌, arith, append-nil, inl, inr}
use Rattle.std.specs.Prelude.{flat_map}
use Rattle.star_values.specs.declared.value.Value.{Value}
use Rattle.star_lexer.specs.declared.keyword.Keyword.TheVariants as key
use Rattle.star_lexer.specs.declared.sign.Sign.TheVariants as mark
use Rattle.star_lexer.specs.declared.symbol.Symbol.{Symbol}
use Rattle.star_lexer.specs.declared.symbol.Symbol.TheVariants as symbol
use Rattle.star_parser.specs.declared.tree.Column.{Column}
use Rattle.star_parser.specs.declared.tree.Relation.{Relation}
use Rattle.star_parser.specs.declared.tree.Relation.TheVariants as how
use Rattle.star_parser.specs.Condition.{Condition, Either, Both, Negate, Test, Same, Between, OneOf, conjuncts, disjuncts, alone_or, both_of, either_of}
use Rattle.star_parser.specs.Form as form
use Rattle.star_parser.specs.Form.{Form, stands_for}
use Rattle.star_parser.specs.Grammar as grammar
use Rattle.star_parser.specs.Reader as reader
use Rattle.star_parser.specs.Reader.{Reader, begins, gives, on, expect, is_word, is_sign, is_literal, literal_at, name_at}
use Rattle.star_parser.specs.Reading as reading
use Rattle.star_parser.specs.Reads.{Reads, IsInhabited}
use Rattle.star_parser.proofs.ReadsLemmas.{no_symbol, Avoids, after, bind_reads, tight_reads, as_reads, after_reads, on_reads, when_reads, literal_reads, reads_by, avoids_symbol, avoids_or, avoids_front, symbol_there, literal_there, nothing_there, bind_there, or_there}
use Rattle.star_parser.proofs.StepLemmas.{bind_bind}
use Rattle.star_parser.proofs.TerminalLemmas.{finds_word, finds_sign, or_left, or_right}
use Rattle.star_parser.proofs.SeparatedLemmas.{separated_reads}
use Rattle.star_parser.proofs.GrammarLemmas.{dot, column_reads, column_there, column_avoids, closed_reads, bracketed_reads}

pub literals_reads : (symbols : List Symbol)
    → Reads (form.separated grammar.comma form.literal) (form.separated grammar.comma form.literal) reading.is_comma symbols (reading.literals_at symbols)
unfolding reading.literals_at
literals_reads symbols =
    separated_reads {E1 = no_symbol} literal_at (finds_sign mark.Comma) refl (λ t h. refl) (λ t h. h) symbols (λ rest h. literal_reads rest)

pub literals_there : IsInhabited (form.separated grammar.comma form.literal)
literals_there = (literal_there.0, literal_there.1 ∷ [], literal_there.2)

compared_reads : {E : Symbol → Bool} (c : Column) (how : Relation) (symbols : List Symbol)
    → Reads (grammar.compared c how) (grammar.compared c how) E symbols (reading.compared_at c how symbols)
unfolding reading.compared_at
compared_reads c how symbols = as_reads symbols (literal_at symbols) (Test c how) (literal_reads symbols)

-- a literal begins with a literal
literal_leads : {B : Type 0} (K : Value → Form B) (value : B) (front back : List Symbol) → form.◌>>=◌ form.literal K front value → begins is_literal (front ++ back) ≡ true
literal_leads K value front back m = ap (begins is_literal) (ap (λ z. z ++ back) m.3 ∙ ap (λ z. (z ++ m.1) ++ back) m.4)

equal_to_reads : (c : Column) (symbols : List Symbol) → Reads (grammar.equal_to c) (grammar.equal_to c) dot symbols (reading.equal_to_at c symbols)
unfolding reading.equal_to_at
equal_to_reads c symbols =
    when_reads symbols (reading.compared_at c how.Eq) (reader.◌>>=◌ reading.column_at (λ d. gives (Same c d)))
    (compared_reads c how.Eq symbols) (as_reads symbols (reading.column_at symbols) (Same c) (column_reads symbols))
    (literal_leads (λ value. stands_for (Test c how.Eq value)))
    (avoids_front is_literal grammar.column (λ d. stands_for (Same c d)) dot (column_avoids is_literal (λ letters. refl)))

between_reads : {E : Symbol → Bool} (c : Column) (symbols : List Symbol)
    → Reads (form.◌>>=◌ form.literal (λ low. after (symbol.Keyword key.And) (form.◌>>=◌ form.literal (λ high. stands_for (Between c low high)))))
    (form.◌>>=◌ form.literal (λ low. after (symbol.Keyword key.And) (form.◌>>=◌ form.literal (λ high. stands_for (Between c low high))))) E symbols (reading.between_at c symbols)
unfolding reading.between_at reading.upper_bound_at
between_reads {E = E} c symbols =
    let upper = λ (low : Value). after (symbol.Keyword key.And) (form.◌>>=◌ form.literal (λ high. stands_for (Between c low high))) in
    tight_reads symbols (literal_at symbols) (λ low. reader.◌>>=◌ reading.upper_bound_at (λ high. gives (Between c low high))) (literal_reads symbols)
    (λ low rest e. subst (Reads (upper low) (upper low) E rest) (sym (bind_bind (expect (is_word key.And) rest) (λ _. literal_at) (λ high. gives (Between c low high))))
    (after_reads rest (reader.◌>>=◌ literal_at (λ high. gives (Between c low high))) (finds_word key.And)
    (λ last h. as_reads last (literal_at last) (Between c low) (literal_reads last)) (bind_there literal_there (λ high. nothing_there (Between c low high)))))
    (λ low. bind_there (symbol_there (symbol.Keyword key.And)) (λ _. bind_there literal_there (λ high. nothing_there (Between c low high))))

listed_reads : {E : Symbol → Bool} (c : Column) (symbols : List Symbol)
    → Reads (form.◌>>=◌ (grammar.bracketed (form.separated grammar.comma form.literal)) (λ values. stands_for (OneOf c values)))
    (form.◌>>=◌ (grammar.bracketed (form.separated grammar.comma form.literal)) (λ values. stands_for (OneOf c values))) E symbols (reading.listed_at c symbols)
unfolding reading.listed_at reading.bracketed_literals_at
listed_reads c symbols =
    as_reads symbols (reading.bracketed_literals_at symbols) (OneOf c)
    (bracketed_reads symbols reading.literals_at (λ rest h. literals_reads rest) refl literals_there)

listed_there : (c : Column) → IsInhabited (form.◌>>=◌ (grammar.bracketed (form.separated grammar.comma form.literal)) (λ values. stands_for (OneOf c values)))
listed_there c =
    bind_there (bind_there (symbol_there (symbol.Sign mark.Open)) (λ _. bind_there literals_there (λ values. bind_there (symbol_there (symbol.Sign mark.Close)) (λ _. nothing_there values))))
    (λ values. nothing_there (OneOf c values))

ranged_reads : {E : Symbol → Bool} (c : Column) (symbols : List Symbol) → Reads (grammar.ranged c) (grammar.ranged c) E symbols (reading.ranged_at c symbols)
unfolding reading.ranged_at
ranged_reads {E = E} c symbols =
    on_reads symbols (reading.between_at c) (reader.◌>>◌ (expect (is_word key.In)) (reading.listed_at c)) (finds_word key.Between) (λ rest h. between_reads c rest)
    (after_reads symbols (reading.listed_at c) (finds_word key.In) (λ rest h. listed_reads c rest) (listed_there c))
    (avoids_symbol (is_word key.Between) (symbol.Keyword key.In) _ E refl)

ranged_there : (c : Column) → IsInhabited (grammar.ranged c)
ranged_there c = or_there (bind_there (symbol_there (symbol.Keyword key.In)) (λ _. listed_there c))

not_ranged_reads : {E : Symbol → Bool} (c : Column) (symbols : List Symbol)
    → Reads (form.◌>>=◌ (grammar.ranged c) (λ t. stands_for (Negate t))) (form.◌>>=◌ (grammar.ranged c) (λ t. stands_for (Negate t))) E symbols (reading.not_ranged_at c symbols)
unfolding reading.not_ranged_at
not_ranged_reads c symbols = as_reads symbols (reading.ranged_at c symbols) Negate (ranged_reads c symbols)

-- the forms of tests, from the last on
abbrev ranged_tests : Column → Form Condition
ranged_tests c = form.◌or◌ (after (symbol.Keyword key.Not) (form.◌>>=◌ (grammar.ranged c) (λ t. stands_for (Negate t)))) (grammar.ranged c)

abbrev greater_or_equal_tests : Column → Form Condition
greater_or_equal_tests c = form.◌or◌ (after (symbol.Sign mark.GreaterOrEqual) (grammar.compared c how.Ge)) (ranged_tests c)

abbrev greater_tests : Column → Form Condition
greater_tests c = form.◌or◌ (after (symbol.Sign mark.Greater) (grammar.compared c how.Gt)) (greater_or_equal_tests c)

abbrev less_or_equal_tests : Column → Form Condition
less_or_equal_tests c = form.◌or◌ (after (symbol.Sign mark.LessOrEqual) (grammar.compared c how.Le)) (greater_tests c)

abbrev less_tests : Column → Form Condition
less_tests c = form.◌or◌ (after (symbol.Sign mark.Less) (grammar.compared c how.Lt)) (less_or_equal_tests c)

abbrev not_equal_tests : Column → Form Condition
not_equal_tests c = form.◌or◌ (after (symbol.Sign mark.NotEqual) (grammar.compared c how.Ne)) (less_tests c)

abbrev pub tests : Column → Form Condition
tests c = form.◌or◌ (after (symbol.Sign mark.Equal) (grammar.equal_to c)) (not_equal_tests c)

-- what a choice avoids, where its symbol is another
either_avoids : {B : Type 0} (test : Symbol → Bool) (s : Symbol) (L M : Form B) → test s ≡ false → Avoids test M dot → Avoids test (form.◌or◌ (after s L) M) dot
either_avoids test s L M other m = avoids_or test (after s L) M dot (avoids_symbol test s (λ _. L) dot other) m

ranged_avoids : (test : Symbol → Bool) (c : Column) → test (symbol.Keyword key.Between) ≡ false → test (symbol.Keyword key.In) ≡ false → Avoids test (grammar.ranged c) dot
ranged_avoids test c other another = either_avoids test (symbol.Keyword key.Between) _ _ other (avoids_symbol test (symbol.Keyword key.In) _ dot another)

ranged_tests_avoid : (test : Symbol → Bool) (c : Column) → test (symbol.Keyword key.Not) ≡ false → test (symbol.Keyword key.Between) ≡ false → test (symbol.Keyword key.In) ≡ false
    → Avoids test (ranged_tests c) dot
ranged_tests_avoid test c first second third = either_avoids test (symbol.Keyword key.Not) _ _ first (ranged_avoids test c second third)

greater_or_equal_avoid : (test : Symbol → Bool) (c : Column) → test (symbol.Sign mark.GreaterOrEqual) ≡ false → Avoids test (ranged_tests c) dot → Avoids test (greater_or_equal_tests c) dot
greater_or_equal_avoid test c other rest = either_avoids test (symbol.Sign mark.GreaterOrEqual) (grammar.compared c how.Ge) (ranged_tests c) other rest

greater_avoid : (test : Symbol → Bool) (c : Column) → test (symbol.Sign mark.Greater) ≡ false → Avoids test (greater_or_equal_tests c) dot → Avoids test (greater_tests c) dot
greater_avoid test c other rest = either_avoids test (symbol.Sign mark.Greater) (grammar.compared c how.Gt) (greater_or_equal_tests c) other rest

less_or_equal_avoid : (test : Symbol → Bool) (c : Column) → test (symbol.Sign mark.LessOrEqual) ≡ false → Avoids test (greater_tests c) dot → Avoids test (less_or_equal_tests c) dot
less_or_equal_avoid test c other rest = either_avoids test (symbol.Sign mark.LessOrEqual) (grammar.compared c how.Le) (greater_tests c) other rest

less_avoid : (test : Symbol → Bool) (c : Column) → test (symbol.Sign mark.Less) ≡ false → Avoids test (less_or_equal_tests c) dot → Avoids test (less_tests c) dot
less_avoid test c other rest = either_avoids test (symbol.Sign mark.Less) (grammar.compared c how.Lt) (less_or_equal_tests c) other rest

not_equal_avoid : (test : Symbol → Bool) (c : Column) → test (symbol.Sign mark.NotEqual) ≡ false → Avoids test (less_tests c) dot → Avoids test (not_equal_tests c) dot
not_equal_avoid test c other rest = either_avoids test (symbol.Sign mark.NotEqual) (grammar.compared c how.Ne) (less_tests c) other rest

tested_reads : (c : Column) (symbols : List Symbol) → Reads (tests c) (tests c) dot symbols (reading.tested_at c symbols)
unfolding reading.tested_at reading.ordered_at reading.ranged_test_at
tested_reads c symbols =
    let ranged = λ (test : Symbol → Bool) (h1 : test (symbol.Keyword key.Not) ≡ false) (h2 : test (symbol.Keyword key.Between) ≡ false) (h3 : test (symbol.Keyword key.In) ≡ false). ranged_tests_avoid test c h1 h2 h3 in
    on_reads symbols (reading.equal_to_at c) (reading.not_equal_at c) (finds_sign mark.Equal) (λ rest h. equal_to_reads c rest)
    (on_reads symbols (reading.compared_at c how.Ne) (reading.ordered_at c) (finds_sign mark.NotEqual) (λ rest h. compared_reads c how.Ne rest)
    (on_reads symbols (reading.compared_at c how.Lt) (reading.less_or_equal_at c) (finds_sign mark.Less) (λ rest h. compared_reads c how.Lt rest)
    (on_reads symbols (reading.compared_at c how.Le) (reading.greater_at c) (finds_sign mark.LessOrEqual) (λ rest h. compared_reads c how.Le rest)
    (on_reads symbols (reading.compared_at c how.Gt) (reading.greater_or_equal_at c) (finds_sign mark.Greater) (λ rest h. compared_reads c how.Gt rest)
    (on_reads symbols (reading.compared_at c how.Ge) (reading.ranged_test_at c) (finds_sign mark.GreaterOrEqual) (λ rest h. compared_reads c how.Ge rest)
    (on_reads symbols (reading.not_ranged_at c) (reading.ranged_at c) (finds_word key.Not) (λ rest h. not_ranged_reads c rest) (ranged_reads c symbols) (ranged_avoids (is_word key.Not) c refl refl))
    (ranged (is_sign mark.GreaterOrEqual) refl refl refl))
    (greater_or_equal_avoid (is_sign mark.Greater) c refl (ranged (is_sign mark.Greater) refl refl refl)))
    (greater_avoid (is_sign mark.LessOrEqual) c refl (greater_or_equal_avoid (is_sign mark.LessOrEqual) c refl (ranged (is_sign mark.LessOrEqual) refl refl refl))))
    (less_or_equal_avoid (is_sign mark.Less) c refl (greater_avoid (is_sign mark.Less) c refl (greater_or_equal_avoid (is_sign mark.Less) c refl (ranged (is_sign mark.Less) refl refl refl)))))
    (less_avoid (is_sign mark.NotEqual) c refl (less_or_equal_avoid (is_sign mark.NotEqual) c refl (greater_avoid (is_sign mark.NotEqual) c refl (greater_or_equal_avoid (is_sign mark.NotEqual) c refl (ranged (is_sign mark.NotEqual) refl refl refl))))))
    (not_equal_avoid (is_sign mark.Equal) c refl (less_avoid (is_sign mark.Equal) c refl (less_or_equal_avoid (is_sign mark.Equal) c refl (greater_avoid (is_sign mark.Equal) c refl
    (greater_or_equal_avoid (is_sign mark.Equal) c refl (ranged (is_sign mark.Equal) refl refl refl))))))

tests_avoid_dot : (c : Column) → Avoids dot (tests c) dot
tests_avoid_dot c =
    either_avoids dot (symbol.Sign mark.Equal) (grammar.equal_to c) (not_equal_tests c) refl
    (not_equal_avoid dot c refl (less_avoid dot c refl (less_or_equal_avoid dot c refl (greater_avoid dot c refl (greater_or_equal_avoid dot c refl (ranged_tests_avoid dot c refl refl refl))))))

tests_there : (c : Column) → IsInhabited (tests c)
tests_there c = or_there (or_there (or_there (or_there (or_there (or_there (or_there (ranged_there c)))))))

pub test_reads : (symbols : List Symbol) → Reads grammar.test grammar.test dot symbols (reading.test_at symbols)
unfolding reading.test_at
test_reads symbols = bind_reads symbols (reading.column_at symbols) reading.tested_at (column_reads symbols) (λ c rest e. tested_reads c rest) tests_avoid_dot tests_there

test_there : IsInhabited grammar.test
test_there = bind_there column_there tests_there

test_avoids : (test : Symbol → Bool) (E : Symbol → Bool) → ((letters : List ℕ) → test (symbol.Name letters) ≡ false) → Avoids test grammar.test E
test_avoids test E other = avoids_front test grammar.column tests E (column_avoids test other)

-- What goes on a condition is a dot, an `and` or an `or`.

abbrev pub in_all : Symbol → Bool
in_all t = dot t || is_word key.And t

abbrev pub in_any : Symbol → Bool
in_any t = in_all t || is_word key.Or t

separated_map : {A : Type 0} {P Q : Form A} (s : Symbol) → ((front : List Symbol) (a : A) → P front a → Q front a)
    → (front : List Symbol) (values : List A) → form.separated s P front values → form.separated s Q front values
separated_map s f front [] m = m
separated_map s f front (v ∷ []) m = f front v m
separated_map s f front (v ∷ w ∷ values) m = (m.0, m.1, m.2, f m.0 v m.3, separated_map s f m.1 (w ∷ values) m.4)

all_map : {P Q : Form Condition} → ((front : List Symbol) (a : Condition) → P front a → Q front a) → (front : List Symbol) (a : Condition) → grammar.all_of P front a → grammar.all_of Q front a
all_map f front a m = (m.0, m.1, m.2, m.3, separated_map (symbol.Keyword key.And) f m.0 m.2 m.4, m.5)

any_map : {P Q : Form Condition} → ((front : List Symbol) (a : Condition) → P front a → Q front a) → (front : List Symbol) (a : Condition) → grammar.any_of P front a → grammar.any_of Q front a
any_map f front a m = (m.0, m.1, m.2, m.3, separated_map (symbol.Keyword key.Or) (all_map f) m.0 m.2 m.4, m.5)

-- two steps from a value are one
twice : {A B C : Type 0} (out : reader.ReaderOutcome A) (f : A → B) (g : B → C)
    → reader.bind (reader.bind out (λ a. gives (f a))) (λ b. gives (g b)) ≡ reader.bind out (λ a. gives (g (f a)))
twice (Some a, rest) f g = refl
twice (None, rest) f g = refl

all_reads : {L M : Form Condition} (one : Reader Condition) (symbols : List Symbol) → ((rest : List Symbol) → length rest ≤ length symbols → Reads L M dot rest (one rest))
    → Reads (grammar.all_of L) (grammar.all_of M) in_all symbols (reading.all_by one symbols)
all_reads {L = L} {M = M} one symbols each =
    let out = reader.separated_at (is_word key.And) one symbols in
    subst (λ z. Reads (grammar.all_of L) (grammar.all_of M) in_all symbols z) (sym (twice out (flat_map conjuncts) (alone_or Both)))
    (as_reads symbols out both_of
    (separated_reads one (finds_word key.And) refl (λ t h. or_left (dot t) (is_word key.And t) h) (λ t h. or_right (dot t) (is_word key.And t) h) symbols each))

any_reads : {L M : Form Condition} (one : Reader Condition) (symbols : List Symbol) → ((rest : List Symbol) → length rest ≤ length symbols → Reads L M dot rest (one rest))
    → Reads (grammar.any_of L) (grammar.any_of M) in_any symbols (reading.any_by one symbols)
any_reads {L = L} {M = M} one symbols each =
    let out = reader.separated_at (is_word key.Or) (reading.all_by one) symbols in
    subst (λ z. Reads (grammar.any_of L) (grammar.any_of M) in_any symbols z) (sym (twice out (flat_map disjuncts) (alone_or Either)))
    (as_reads symbols out either_of
    (separated_reads (reading.all_by one) (finds_word key.Or) refl (λ t h. or_left (in_all t) (is_word key.Or t) h) (λ t h. or_right (in_all t) (is_word key.Or t) h) symbols
    (λ rest h. all_reads one rest (λ last h2. each last (omega (arith, h, h2))))))

-- one, to any depth
abbrev pub one_deep : Form Condition
one_deep symbols meaning = (depth : ℕ) × grammar.one_within depth symbols meaning

one_from : (depth : ℕ) (front : List Symbol) (a : Condition) → grammar.one_within depth front a
    → form.◌or◌ (after (symbol.Keyword key.Not) (form.◌>>=◌ one_deep (λ t. stands_for (Negate t)))) (form.◌or◌ (grammar.bracketed (grammar.any_of one_deep)) grammar.test) front a
one_from zero front a m = inr (inr m)
one_from (suc depth) front a (inl m) = inl (m.0, m.1, m.2, m.3, m.4, (m.5.0, m.5.1, m.5.2, m.5.3, (depth, m.5.4), m.5.5))
one_from (suc depth) front a (inr (inl m)) =
    inr (inl (m.0, m.1, m.2, m.3, m.4, (m.5.0, m.5.1, m.5.2, m.5.3, any_map {Q = one_deep} (λ f b x. (depth, x)) m.5.0 m.5.2 m.5.4, m.5.5)))
one_from (suc depth) front a (inr (inr m)) = inr (inr m)

one_reads : (most : ℕ) (symbols : List Symbol) → length symbols < most → Reads (grammar.one_within most) one_deep dot symbols (reading.one_at most symbols)
unfolding reading.one_at
one_reads zero symbols few = absurd (omega (arith, few))
one_reads (suc most) symbols few =
    reads_by symbols (reading.one_at (suc most) symbols) (λ front a l. l) (λ front a m. one_from m.0 front a m.1)
    (on_reads symbols (reader.◌>>=◌ (reading.one_at most) (λ t. gives (Negate t)))
    (on (is_sign mark.Open) (reader.◌>>=◌ (reading.any_by (reading.one_at most)) (λ t. reader.◌>>◌ (expect (is_sign mark.Close)) (gives t))) reading.test_at)
    (finds_word key.Not)
    (λ rest h. as_reads rest (reading.one_at most rest) Negate (one_reads most rest (omega (arith, few, h))))
    (on_reads symbols (reader.◌>>=◌ (reading.any_by (reading.one_at most)) (λ t. reader.◌>>◌ (expect (is_sign mark.Close)) (gives t))) reading.test_at
    (finds_sign mark.Open)
    (λ rest h. closed_reads rest (reading.any_by (reading.one_at most)) (any_reads (reading.one_at most) rest (λ last h2. one_reads most last (omega (arith, few, h, h2)))) refl)
    (test_reads symbols)
    (test_avoids (is_sign mark.Open) dot (λ letters. refl)))
    (avoids_or (is_word key.Not) (grammar.bracketed (grammar.any_of one_deep)) grammar.test dot
    (avoids_symbol (is_word key.Not) (symbol.Sign mark.Open) _ dot refl) (test_avoids (is_word key.Not) dot (λ letters. refl))))

-- a condition
pub condition_reads : (symbols : List Symbol) → Reads grammar.condition grammar.condition in_any symbols (reading.condition_at symbols)
unfolding reading.condition_at reading.any_at
condition_reads symbols =
    reads_by symbols (reading.condition_at symbols) (λ front a l. (suc (length symbols), l)) (λ front a m. any_map {Q = one_deep} (λ f b x. (m.0, x)) front a m.1)
    (any_reads (reading.one_at (suc (length symbols))) symbols (λ rest h. one_reads (suc (length symbols)) rest (omega (arith, h))))

pub condition_there : IsInhabited grammar.condition
condition_there =
    let t = test_there.1 in
    let all = both_of (t ∷ []) in (
      test_there.0,
      either_of (all ∷ []),
      (0, (test_there.0, [], all ∷ [], sym (append-nil test_there.0), (test_there.0, [], t ∷ [], sym (append-nil test_there.0), test_there.2, (refl, refl)), (refl, refl))),
    )
