-- Each reader reads its form.
use Rattle.std.proofs.Common.{◌≡◌, ℕ, suc, ◌≤◌, Bool, false, List, length, Some, None, refl}
use Rattle.star_values.specs.declared.value.Kind.TheVariants as kinds
use Rattle.star_lexer.specs.declared.keyword.Keyword.TheVariants as key
use Rattle.star_lexer.specs.declared.sign.Sign.TheVariants as mark
use Rattle.star_lexer.specs.declared.symbol.Symbol.{Symbol}
use Rattle.star_lexer.specs.declared.symbol.Symbol.TheVariants as symbol
use Rattle.star_parser.specs.declared.ast.AstItem.TheVariants as items
use Rattle.star_parser.specs.Form as form
use Rattle.star_parser.specs.Form.{Form, stands_for}
use Rattle.star_parser.specs.Grammar as grammar
use Rattle.star_parser.specs.Grammar.{column_of}
use Rattle.star_parser.specs.Reader as reader
use Rattle.star_parser.specs.Reader.{Reader, gives, on, expect, is_word, is_sign, literal_at, name_at}
use Rattle.star_parser.specs.Reading as reading
use Rattle.star_parser.specs.Reads.{Reads, IsInhabited}
use Rattle.star_parser.proofs.ReadsLemmas.{no_symbol, Avoids, after, bind_reads, tight_reads, as_reads, after_reads, on_reads, gives_reads, name_reads, literal_reads, avoids_symbol, avoids_name, avoids_or, avoids_nothing, avoids_front, symbol_there, name_there, nothing_there, bind_there, or_there}
use Rattle.star_parser.proofs.TerminalLemmas.{finds_word, finds_sign}
use Rattle.star_parser.proofs.SeparatedLemmas.{reads_length}

pub literal_shorter : (symbols : List Symbol) → length (literal_at symbols).1 ≤ length symbols
literal_shorter symbols = reads_length {E = no_symbol} symbols (literal_at symbols) (literal_reads symbols)

pub name_shorter : (symbols : List Symbol) → length (name_at symbols).1 ≤ length symbols
name_shorter symbols = reads_length {E = no_symbol} symbols (name_at symbols) (name_reads symbols)

-- What goes on a column is a dot.

abbrev pub dot : Symbol → Bool
dot = is_sign mark.Dot

pub kind_reads : {E : Symbol → Bool} (symbols : List Symbol) → Reads grammar.kind grammar.kind E symbols (reading.kind_at symbols)
kind_reads {E = E} symbols =
    on_reads symbols (gives kinds.Int) (reader.◌>>◌ (expect (is_word key.Text)) (gives kinds.Text)) (finds_word key.Int) (λ rest h. gives_reads kinds.Int rest)
    (after_reads symbols (gives kinds.Text) (finds_word key.Text) (λ rest h. gives_reads kinds.Text rest) (nothing_there kinds.Text))
    (avoids_symbol (is_word key.Int) (symbol.Keyword key.Text) (λ _. stands_for kinds.Text) E refl)

pub kind_there : IsInhabited grammar.kind
kind_there = or_there (bind_there (symbol_there (symbol.Keyword key.Text)) (λ _. nothing_there kinds.Text))

dotted_reads : (symbols : List Symbol)
    → Reads (form.◌or◌ (after (symbol.Sign mark.Dot) (form.◌>>=◌ form.name (λ second. stands_for (Some second)))) (stands_for None))
    (form.◌or◌ (after (symbol.Sign mark.Dot) (form.◌>>=◌ form.name (λ second. stands_for (Some second)))) (stands_for None)) dot symbols (reading.dotted_at symbols)
dotted_reads symbols =
    on_reads symbols (reader.◌>>=◌ name_at (λ second. gives (Some second))) (gives None) (finds_sign mark.Dot)
    (λ rest h. as_reads rest (name_at rest) Some (name_reads rest)) (gives_reads None symbols) (avoids_nothing dot None dot (λ t h. h))

pub column_reads : (symbols : List Symbol) → Reads grammar.column grammar.column dot symbols (reading.column_at symbols)
unfolding reading.column_at
column_reads symbols =
    tight_reads symbols (name_at symbols) (λ first. reader.◌>>=◌ reading.dotted_at (λ second. gives (column_of first second))) (name_reads symbols)
    (λ first rest e. as_reads rest (reading.dotted_at rest) (column_of first) (dotted_reads rest))
    (λ first. bind_there (or_there (nothing_there None)) (λ second. nothing_there (column_of first second)))

pub column_there : IsInhabited grammar.column
column_there = bind_there name_there (λ first. bind_there (or_there (nothing_there None)) (λ second. nothing_there (column_of first second)))

-- a column begins with a name
pub column_avoids : (test : Symbol → Bool) → ((letters : List ℕ) → test (symbol.Name letters) ≡ false) → Avoids test grammar.column no_symbol
column_avoids test other = avoids_name test _ no_symbol other

pub column_shorter : (symbols : List Symbol) → length (reading.column_at symbols).1 ≤ length symbols
column_shorter symbols = reads_length symbols (reading.column_at symbols) (column_reads symbols)

-- a form, and behind it the parenthesis that closes
pub closed_reads : {A : Type 0} {L M : Form A} {E1 E : Symbol → Bool} (symbols : List Symbol) (inner : Reader A) → Reads L M E1 symbols (inner symbols)
    → E1 (symbol.Sign mark.Close) ≡ false
    → Reads (form.◌>>=◌ L (λ v. after (symbol.Sign mark.Close) (stands_for v))) (form.◌>>=◌ M (λ v. after (symbol.Sign mark.Close) (stands_for v))) E symbols
    (reader.◌>>=◌ inner (λ v. reader.◌>>◌ (expect (is_sign mark.Close)) (gives v)) symbols)
closed_reads {E1 = E1} {E = E} symbols inner r closes =
    bind_reads symbols (inner symbols) (λ v. reader.◌>>◌ (expect (is_sign mark.Close)) (gives v)) r
    (λ v rest e. after_reads rest (gives v) (finds_sign mark.Close) (λ last h. gives_reads v last) (nothing_there v))
    (λ v. avoids_symbol E1 (symbol.Sign mark.Close) (λ _. stands_for v) E closes)
    (λ v. bind_there (symbol_there (symbol.Sign mark.Close)) (λ _. nothing_there v))

pub closed_there : {A : Type 0} {L : Form A} → IsInhabited L → IsInhabited (form.◌>>=◌ L (λ v. after (symbol.Sign mark.Close) (stands_for v)))
closed_there there = bind_there there (λ v. bind_there (symbol_there (symbol.Sign mark.Close)) (λ _. nothing_there v))

pub bracketed_reads : {A : Type 0} {L M : Form A} {E1 E : Symbol → Bool} (symbols : List Symbol) (inner : Reader A)
    → ((rest : List Symbol) → suc (length rest) ≡ length symbols → Reads L M E1 rest (inner rest)) → E1 (symbol.Sign mark.Close) ≡ false → IsInhabited L
    → Reads (grammar.bracketed L) (grammar.bracketed M) E symbols (reading.bracketed_at inner symbols)
bracketed_reads symbols inner r closes there =
    after_reads symbols (reader.◌>>=◌ inner (λ v. reader.◌>>◌ (expect (is_sign mark.Close)) (gives v))) (finds_sign mark.Open)
    (λ rest h. closed_reads rest inner (r rest h) closes) (closed_there there)

bracketed_column_reads : {E : Symbol → Bool} (symbols : List Symbol) → Reads (grammar.bracketed grammar.column) (grammar.bracketed grammar.column) E symbols (reading.bracketed_column_at symbols)
unfolding reading.bracketed_column_at
bracketed_column_reads symbols = bracketed_reads symbols reading.column_at (λ rest h. column_reads rest) refl column_there

counted_reads : {E : Symbol → Bool} (symbols : List Symbol) → Reads grammar.counted grammar.counted E symbols (reading.counted_at symbols)
unfolding reading.counted_at
counted_reads symbols =
    bracketed_reads symbols reading.counted_column_at
    (λ later h. on_reads later (gives items.CountAll) (reader.◌>>=◌ reading.column_at (λ c. gives (items.Count c))) (finds_sign mark.Star)
    (λ rest h. gives_reads items.CountAll rest) (as_reads later (reading.column_at later) items.Count (column_reads later))
    (avoids_front (is_sign mark.Star) grammar.column (λ c. stands_for (items.Count c)) dot (column_avoids (is_sign mark.Star) (λ letters. refl))))
    refl (or_there (bind_there column_there (λ c. nothing_there (items.Count c))))

plain_avoids : (test : Symbol → Bool) → ((letters : List ℕ) → test (symbol.Name letters) ≡ false) → Avoids test (form.◌>>=◌ grammar.column (λ c. stands_for (items.Plain c))) dot
plain_avoids test other = avoids_front test grammar.column (λ c. stands_for (items.Plain c)) dot (column_avoids test other)

pub item_reads : (symbols : List Symbol) → Reads grammar.item grammar.item dot symbols (reading.item_at symbols)
unfolding reading.item_at
item_reads symbols =
    on_reads symbols reading.counted_at reading.sum_item_at (finds_word key.Count) (λ rest h. counted_reads rest)
    (on_reads symbols (reader.◌>>=◌ reading.bracketed_column_at (λ c. gives (items.Sum c))) reading.min_item_at (finds_word key.Sum) (λ rest h. as_reads rest (reading.bracketed_column_at rest) items.Sum (bracketed_column_reads rest))
    (on_reads symbols (reader.◌>>=◌ reading.bracketed_column_at (λ c. gives (items.Min c))) reading.max_item_at (finds_word key.Min) (λ rest h. as_reads rest (reading.bracketed_column_at rest) items.Min (bracketed_column_reads rest))
    (on_reads symbols (reader.◌>>=◌ reading.bracketed_column_at (λ c. gives (items.Max c))) reading.plain_item_at (finds_word key.Max) (λ rest h. as_reads rest (reading.bracketed_column_at rest) items.Max (bracketed_column_reads rest))
    (as_reads symbols (reading.column_at symbols) items.Plain (column_reads symbols))
    (plain_avoids (is_word key.Max) (λ letters. refl)))
    (avoids_or (is_word key.Min) _ _ dot (avoids_symbol (is_word key.Min) (symbol.Keyword key.Max) _ dot refl) (plain_avoids (is_word key.Min) (λ letters. refl))))
    (avoids_or (is_word key.Sum) _ _ dot (avoids_symbol (is_word key.Sum) (symbol.Keyword key.Min) _ dot refl)
    (avoids_or (is_word key.Sum) _ _ dot (avoids_symbol (is_word key.Sum) (symbol.Keyword key.Max) _ dot refl) (plain_avoids (is_word key.Sum) (λ letters. refl)))))
    (avoids_or (is_word key.Count) _ _ dot (avoids_symbol (is_word key.Count) (symbol.Keyword key.Sum) _ dot refl)
    (avoids_or (is_word key.Count) _ _ dot (avoids_symbol (is_word key.Count) (symbol.Keyword key.Min) _ dot refl)
    (avoids_or (is_word key.Count) _ _ dot (avoids_symbol (is_word key.Count) (symbol.Keyword key.Max) _ dot refl) (plain_avoids (is_word key.Count) (λ letters. refl)))))

pub item_there : IsInhabited grammar.item
item_there = or_there (or_there (or_there (or_there (bind_there column_there (λ c. nothing_there (items.Plain c))))))

pub item_shorter : (symbols : List Symbol) → length (reading.item_at symbols).1 ≤ length symbols
item_shorter symbols = reads_length symbols (reading.item_at symbols) (item_reads symbols)
