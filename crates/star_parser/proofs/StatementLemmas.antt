-- The readers of statements read their forms.
use Rattle.std.proofs.Common.{◌≡◌, ℕ, ◌≤◌, Bool, true, false, ◌||◌, List, [], ◌∷◌, ◌++◌, length, Option, Some, None, refl, ap, sym, ◌∙◌}
use Rattle.star_values.specs.declared.value.Kind.{Kind}
use Rattle.star_lexer.specs.declared.keyword.Keyword.TheVariants as key
use Rattle.star_lexer.specs.declared.sign.Sign.TheVariants as mark
use Rattle.star_lexer.specs.declared.symbol.Symbol.{Symbol}
use Rattle.star_lexer.specs.declared.symbol.Symbol.TheVariants as symbol
use Rattle.star_parser.specs.declared.ast.AstColumn.{AstColumn}
use Rattle.star_parser.specs.declared.ast.AstItem.{AstItem}
use Rattle.star_parser.specs.Condition.{Condition}
use Rattle.star_parser.specs.Statement.{Statement, Dimension, Fact, Load, Delete, Select, Wait}
use Rattle.star_parser.specs.Form as form
use Rattle.star_parser.specs.Form.{Form, stands_for, nothing}
use Rattle.star_parser.specs.Grammar as grammar
use Rattle.star_parser.specs.Reader as reader
use Rattle.star_parser.specs.Reader.{Reader, begins, gives, on, expect, is_word, is_sign, end_at, name_at}
use Rattle.star_parser.specs.Reading as reading
use Rattle.star_parser.specs.Reads.{Reads, IsInhabited}
use Rattle.star_parser.proofs.ReadsLemmas.{no_symbol, any_symbol, true_false, begins-by_first, within_begins, Avoids, after, bind_reads, tight_reads, as_reads, after_reads, on_reads, gives_reads, name_reads, reads_wider, avoids_symbol, avoids_or, avoids_nothing, avoids_optional, symbol_there, name_there, nothing_there, bind_there, or_there}
use Rattle.star_parser.proofs.TerminalLemmas.{finds_word, finds_sign, or_left, or_right}
use Rattle.star_parser.proofs.SeparatedLemmas.{reads_length, separated_reads}
use Rattle.star_parser.proofs.GrammarLemmas.{dot, kind_reads, kind_there, column_reads, column_there, item_reads, item_there, bracketed_reads}
use Rattle.star_parser.proofs.ConditionLemmas.{in_all, in_any, condition_reads}

or_both : (a b : Bool) → a ≡ false → b ≡ false → (a || b) ≡ false
or_both true b h k = true_false h
or_both false b h k = k

-- the same reading, where what goes on is more
wider : {A : Type 0} {L M : Form A} {E F : Symbol → Bool} (symbols : List Symbol) (out : reader.ReaderOutcome A) → ((t : Symbol) → F t ≡ false → E t ≡ false)
    → Reads L M E symbols out → Reads L M F symbols out
wider {E = E} {F = F} symbols out less r = reads_wider symbols out (λ back h. within_begins E F less back h) r

-- Lists of names, items and columns.

pub names_reads : (symbols : List Symbol)
    → Reads (form.separated grammar.comma form.name) (form.separated grammar.comma form.name) reading.is_comma symbols (reading.names_at symbols)
unfolding reading.names_at
names_reads symbols = separated_reads {E1 = no_symbol} name_at (finds_sign mark.Comma) refl (λ t h. refl) (λ t h. h) symbols (λ rest h. name_reads rest)

names_there : IsInhabited (form.separated grammar.comma form.name)
names_there = (name_there.0, name_there.1 ∷ [], name_there.2)

abbrev pub in_columns : Symbol → Bool
in_columns t = dot t || reading.is_comma t

pub items_reads : (symbols : List Symbol)
    → Reads (form.separated grammar.comma grammar.item) (form.separated grammar.comma grammar.item) in_columns symbols (reading.items_at symbols)
unfolding reading.items_at
items_reads symbols =
    separated_reads reading.item_at (finds_sign mark.Comma) refl (λ t h. or_left (dot t) (reading.is_comma t) h) (λ t h. or_right (dot t) (reading.is_comma t) h) symbols (λ rest h. item_reads rest)

items_there : IsInhabited (form.separated grammar.comma grammar.item)
items_there = (item_there.0, item_there.1 ∷ [], item_there.2)

pub columns_reads : (symbols : List Symbol)
    → Reads (form.separated grammar.comma grammar.column) (form.separated grammar.comma grammar.column) in_columns symbols (reading.columns_at symbols)
unfolding reading.columns_at
columns_reads symbols =
    separated_reads reading.column_at (finds_sign mark.Comma) refl (λ t h. or_left (dot t) (reading.is_comma t) h) (λ t h. or_right (dot t) (reading.is_comma t) h) symbols (λ rest h. column_reads rest)

columns_there : IsInhabited (form.separated grammar.comma grammar.column)
columns_there = (column_there.0, column_there.1 ∷ [], column_there.2)

-- The optional parts.

abbrev pub in_where : Symbol → Bool
in_where t = in_any t || is_word key.Where t

where_reads : (symbols : List Symbol) → Reads grammar.where_part grammar.where_part in_where symbols (reading.where_at symbols)
unfolding reading.where_at
where_reads symbols =
    on_reads symbols (reader.◌>>=◌ reading.condition_at (λ t. gives (Some t))) (gives None) (finds_word key.Where)
    (λ rest h. wider rest (reader.◌>>=◌ reading.condition_at (λ t. gives (Some t)) rest) (λ t e. or_left (in_any t) (is_word key.Where t) e)
    (as_reads rest (reading.condition_at rest) Some (condition_reads rest)))
    (gives_reads None symbols) (avoids_nothing (is_word key.Where) None in_where (λ t e. or_right (in_any t) (is_word key.Where t) e))

where_there : IsInhabited grammar.where_part
where_there = or_there (nothing_there None)

abbrev pub in_group : Symbol → Bool
in_group t = in_columns t || is_word key.Group t

group_reads : (symbols : List Symbol) → Reads grammar.group_part grammar.group_part in_group symbols (reading.group_at symbols)
unfolding reading.group_at
group_reads symbols =
    on_reads symbols (reader.◌>>◌ (expect (is_word key.By)) reading.columns_at) (gives []) (finds_word key.Group)
    (λ rest h. wider rest (reader.◌>>◌ (expect (is_word key.By)) reading.columns_at rest) (λ t e. or_left (in_columns t) (is_word key.Group t) e)
    (after_reads rest reading.columns_at (finds_word key.By) (λ last h2. columns_reads last) columns_there))
    (gives_reads [] symbols) (avoids_nothing (is_word key.Group) [] in_group (λ t e. or_right (in_columns t) (is_word key.Group t) e))

group_there : IsInhabited grammar.group_part
group_there = or_there (nothing_there [])

-- Declarations.

abbrev plain : List ℕ → Kind → AstColumn
plain column its_kind = record { name = column; kind = its_kind; references = None }

plain_column_reads : {E : Symbol → Bool} (symbols : List Symbol) → Reads grammar.plain_column grammar.plain_column E symbols (reading.plain_column_at symbols)
unfolding reading.plain_column_at
plain_column_reads symbols =
    tight_reads symbols (name_at symbols) (λ column. reader.◌>>=◌ reading.kind_at (λ its_kind. gives (plain column its_kind))) (name_reads symbols)
    (λ column rest e. as_reads rest (reading.kind_at rest) (plain column) (kind_reads rest))
    (λ column. bind_there kind_there (λ its_kind. nothing_there (plain column its_kind)))

plain_column_there : IsInhabited grammar.plain_column
plain_column_there = bind_there name_there (λ column. bind_there kind_there (λ its_kind. nothing_there (plain column its_kind)))

pub plain_column_shorter : (symbols : List Symbol) → length (reading.plain_column_at symbols).1 ≤ length symbols
plain_column_shorter symbols = reads_length {E = no_symbol} symbols (reading.plain_column_at symbols) (plain_column_reads symbols)

plain_columns_reads : (symbols : List Symbol)
    → Reads (form.separated grammar.comma grammar.plain_column) (form.separated grammar.comma grammar.plain_column) reading.is_comma symbols (reading.plain_columns_at symbols)
unfolding reading.plain_columns_at
plain_columns_reads symbols =
    separated_reads {E1 = no_symbol} reading.plain_column_at (finds_sign mark.Comma) refl (λ t h. refl) (λ t h. h) symbols (λ rest h. plain_column_reads rest)

other_columns_reads : (symbols : List Symbol)
    → Reads (form.◌or◌ (after (symbol.Sign mark.Comma) (form.separated grammar.comma grammar.plain_column)) (stands_for []))
    (form.◌or◌ (after (symbol.Sign mark.Comma) (form.separated grammar.comma grammar.plain_column)) (stands_for [])) reading.is_comma symbols (reading.other_columns_at symbols)
unfolding reading.other_columns_at
other_columns_reads symbols =
    on_reads symbols reading.plain_columns_at (gives []) (finds_sign mark.Comma) (λ rest h. plain_columns_reads rest) (gives_reads [] symbols)
    (avoids_nothing reading.is_comma [] reading.is_comma (λ t h. h))

dimension_columns_reads : (symbols : List Symbol) → Reads grammar.dimension_columns grammar.dimension_columns reading.is_comma symbols (reading.dimension_columns_at symbols)
unfolding reading.dimension_columns_at
dimension_columns_reads symbols =
    tight_reads symbols (reading.plain_column_at symbols) (λ first. reader.◌>>◌ (expect (is_word key.Key)) (reader.◌>>=◌ reading.other_columns_at (λ others. gives (first ∷ others)))) (plain_column_reads symbols)
    (λ first rest e. after_reads rest (reader.◌>>=◌ reading.other_columns_at (λ others. gives (first ∷ others))) (finds_word key.Key)
    (λ last h. as_reads last (reading.other_columns_at last) (λ others. first ∷ others) (other_columns_reads last))
    (bind_there (or_there (nothing_there [])) (λ others. nothing_there (first ∷ others))))
    (λ first. bind_there (symbol_there (symbol.Keyword key.Key)) (λ _. bind_there (or_there (nothing_there [])) (λ others. nothing_there (first ∷ others))))

dimension_columns_there : IsInhabited grammar.dimension_columns
dimension_columns_there =
    bind_there plain_column_there (λ first. bind_there (symbol_there (symbol.Keyword key.Key)) (λ _. bind_there (or_there (nothing_there [])) (λ others. nothing_there (first ∷ others))))

bracket_there : {A : Type 0} {L : Form A} → IsInhabited L → IsInhabited (grammar.bracketed L)
bracket_there there = bind_there (symbol_there (symbol.Sign mark.Open)) (λ _. bind_there there (λ v. bind_there (symbol_there (symbol.Sign mark.Close)) (λ _. nothing_there v)))

dimension_reads : {E : Symbol → Bool} (symbols : List Symbol) → Reads grammar.dimension grammar.dimension E symbols (reading.dimension_at symbols)
unfolding reading.dimension_at
dimension_reads symbols =
    tight_reads symbols (name_at symbols) (λ table. reader.◌>>=◌ (reading.bracketed_at reading.dimension_columns_at) (λ columns. gives (Dimension table columns))) (name_reads symbols)
    (λ table rest e. as_reads rest (reading.bracketed_at reading.dimension_columns_at rest) (Dimension table)
    (bracketed_reads rest reading.dimension_columns_at (λ last h. dimension_columns_reads last) refl dimension_columns_there))
    (λ table. bind_there (bracket_there dimension_columns_there) (λ columns. nothing_there (Dimension table columns)))

abbrev with_target : List ℕ → Kind → Option (List ℕ) → AstColumn
with_target column its_kind target = record { name = column; kind = its_kind; references = target }

abbrev in_target : Symbol → Bool
in_target = is_word key.References

target_reads : (symbols : List Symbol)
    → Reads (form.◌or◌ (after (symbol.Keyword key.References) (form.◌>>=◌ form.name (λ dimension. stands_for (Some dimension)))) (stands_for None))
    (form.◌or◌ (after (symbol.Keyword key.References) (form.◌>>=◌ form.name (λ dimension. stands_for (Some dimension)))) (stands_for None)) in_target symbols (reading.target_at symbols)
unfolding reading.target_at
target_reads symbols =
    on_reads symbols (reader.◌>>=◌ name_at (λ dimension. gives (Some dimension))) (gives None) (finds_word key.References)
    (λ rest h. as_reads rest (name_at rest) Some (name_reads rest)) (gives_reads None symbols) (avoids_nothing in_target None in_target (λ t h. h))

fact_column_reads : (symbols : List Symbol) → Reads grammar.fact_column grammar.fact_column in_target symbols (reading.fact_column_at symbols)
unfolding reading.fact_column_at
fact_column_reads symbols =
    tight_reads symbols (name_at symbols) (λ column. reader.◌>>=◌ reading.kind_at (λ its_kind. reader.◌>>=◌ reading.target_at (λ target. gives (with_target column its_kind target)))) (name_reads symbols)
    (λ column rest e. tight_reads rest (reading.kind_at rest) (λ its_kind. reader.◌>>=◌ reading.target_at (λ target. gives (with_target column its_kind target))) (kind_reads rest)
    (λ its_kind last e2. as_reads last (reading.target_at last) (with_target column its_kind) (target_reads last))
    (λ its_kind. bind_there (or_there (nothing_there None)) (λ target. nothing_there (with_target column its_kind target))))
    (λ column. bind_there kind_there (λ its_kind. bind_there (or_there (nothing_there None)) (λ target. nothing_there (with_target column its_kind target))))

fact_column_there : IsInhabited grammar.fact_column
fact_column_there =
    bind_there name_there (λ column. bind_there kind_there (λ its_kind. bind_there (or_there (nothing_there None)) (λ target. nothing_there (with_target column its_kind target))))

pub fact_column_shorter : (symbols : List Symbol) → length (reading.fact_column_at symbols).1 ≤ length symbols
fact_column_shorter symbols = reads_length symbols (reading.fact_column_at symbols) (fact_column_reads symbols)

abbrev in_fact_columns : Symbol → Bool
in_fact_columns t = in_target t || reading.is_comma t

fact_columns_reads : (symbols : List Symbol)
    → Reads (form.separated grammar.comma grammar.fact_column) (form.separated grammar.comma grammar.fact_column) in_fact_columns symbols (reading.fact_columns_at symbols)
unfolding reading.fact_columns_at
fact_columns_reads symbols =
    separated_reads reading.fact_column_at (finds_sign mark.Comma) refl (λ t h. or_left (in_target t) (reading.is_comma t) h) (λ t h. or_right (in_target t) (reading.is_comma t) h) symbols
    (λ rest h. fact_column_reads rest)

fact_columns_there : IsInhabited (form.separated grammar.comma grammar.fact_column)
fact_columns_there = (fact_column_there.0, fact_column_there.1 ∷ [], fact_column_there.2)

fact_reads : {E : Symbol → Bool} (symbols : List Symbol) → Reads grammar.fact grammar.fact E symbols (reading.fact_at symbols)
unfolding reading.fact_at
fact_reads symbols =
    tight_reads symbols (name_at symbols) (λ table. reader.◌>>=◌ (reading.bracketed_at reading.fact_columns_at) (λ columns. gives (Fact table columns))) (name_reads symbols)
    (λ table rest e. as_reads rest (reading.bracketed_at reading.fact_columns_at rest) (Fact table)
    (bracketed_reads rest reading.fact_columns_at (λ last h. fact_columns_reads last) refl fact_columns_there))
    (λ table. bind_there (bracket_there fact_columns_there) (λ columns. nothing_there (Fact table columns)))

-- Loads, deletions and queries.

abbrev in_load : Symbol → Bool
in_load = is_word key.Header

load_reads : (symbols : List Symbol) → Reads grammar.load grammar.load in_load symbols (reading.load_at symbols)
unfolding reading.load_at reading.header_at
load_reads symbols =
    tight_reads symbols (name_at symbols) (λ table. reader.◌>>=◌ reading.header_at (λ header. gives (Load table header))) (name_reads symbols)
    (λ table rest e. as_reads rest (reading.header_at rest) (Load table)
    (on_reads rest (gives true) (gives false) (finds_word key.Header) (λ last h. gives_reads true last) (gives_reads false rest) (avoids_nothing in_load false in_load (λ t h. h))))
    (λ table. bind_there (or_there (nothing_there false)) (λ header. nothing_there (Load table header)))

load_there : IsInhabited grammar.load
load_there = bind_there name_there (λ table. bind_there (or_there (nothing_there false)) (λ header. nothing_there (Load table header)))

delete_reads : (symbols : List Symbol) → Reads grammar.delete grammar.delete in_where symbols (reading.delete_at symbols)
unfolding reading.delete_at
delete_reads symbols =
    after_reads symbols (reader.◌>>=◌ name_at (λ table. reader.◌>>=◌ reading.where_at (λ kept. gives (Delete table kept)))) (finds_word key.From)
    (λ later h. tight_reads later (name_at later) (λ table. reader.◌>>=◌ reading.where_at (λ kept. gives (Delete table kept))) (name_reads later)
    (λ table rest e. as_reads rest (reading.where_at rest) (Delete table) (where_reads rest))
    (λ table. bind_there where_there (λ kept. nothing_there (Delete table kept))))
    (bind_there name_there (λ table. bind_there where_there (λ kept. nothing_there (Delete table kept))))

-- what goes on a query
abbrev pub in_select : Symbol → Bool
in_select t = (in_where t || reading.is_comma t) || is_word key.Group t

select_where : (t : Symbol) → in_select t ≡ false → in_where t ≡ false
select_where t h = or_left (in_where t) (reading.is_comma t) (or_left (in_where t || reading.is_comma t) (is_word key.Group t) h)

select_comma : (t : Symbol) → in_select t ≡ false → reading.is_comma t ≡ false
select_comma t h = or_right (in_where t) (reading.is_comma t) (or_left (in_where t || reading.is_comma t) (is_word key.Group t) h)

select_dot : (t : Symbol) → in_select t ≡ false → dot t ≡ false
select_dot t h = or_left (dot t) (is_word key.And t) (or_left (in_all t) (is_word key.Or t) (or_left (in_any t) (is_word key.Where t) (select_where t h)))

select_group : (t : Symbol) → in_select t ≡ false → in_group t ≡ false
select_group t h =
    or_both (in_columns t) (is_word key.Group t) (or_both (dot t) (reading.is_comma t) (select_dot t h) (select_comma t h)) (or_right (in_where t || reading.is_comma t) (is_word key.Group t) h)

select_reads : (symbols : List Symbol) → Reads grammar.select grammar.select in_select symbols (reading.select_at symbols)
unfolding reading.select_at
select_reads symbols =
    bind_reads symbols (reading.items_at symbols) (λ its_items. reader.◌>>◌ (expect (is_word key.From)) (from_tables its_items)) (items_reads symbols)
    (λ its_items rest e. after_reads rest (from_tables its_items) (finds_word key.From)
    (λ later h. bind_reads later (reading.names_at later) (from_where its_items) (names_reads later)
    (λ tables rest2 e2. bind_reads rest2 (reading.where_at rest2) (from_group its_items tables) (where_reads rest2)
    (λ kept rest3 e3. wider rest3 (from_group its_items tables kept rest3) select_group (as_reads rest3 (reading.group_at rest3) (Select its_items tables kept) (group_reads rest3)))
    (λ kept. group_avoids in_where its_items tables kept refl select_where) (λ kept. group_to its_items tables kept))
    (λ tables. avoids_optional reading.is_comma (symbol.Keyword key.Where) _ None (λ kept. form.◌>>=◌ grammar.group_part (λ groups. stands_for (Select its_items tables kept groups))) in_select refl
    (group_avoids reading.is_comma its_items tables None refl select_comma))
    (λ tables. where_to its_items tables))
    (tables_to its_items))
    (λ its_items. avoids_symbol in_columns (symbol.Keyword key.From) _ in_select refl)
    (λ its_items. bind_there (symbol_there (symbol.Keyword key.From)) (λ _. tables_to its_items))
  where
    from_group : List AstItem → List (List ℕ) → Option Condition → Reader Statement
    from_group its_items tables kept = reader.◌>>=◌ reading.group_at (λ groups. gives (Select its_items tables kept groups))

    from_where : List AstItem → List (List ℕ) → Reader Statement
    from_where its_items tables = reader.◌>>=◌ reading.where_at (from_group its_items tables)

    from_tables : List AstItem → Reader Statement
    from_tables its_items = reader.◌>>=◌ reading.names_at (from_where its_items)

    group_to : (its_items : List AstItem) (tables : List (List ℕ)) (kept : Option Condition) → IsInhabited (form.◌>>=◌ grammar.group_part (λ groups. stands_for (Select its_items tables kept groups)))
    group_to its_items tables kept = bind_there group_there (λ groups. nothing_there (Select its_items tables kept groups))

    where_to : (its_items : List AstItem) (tables : List (List ℕ)) → IsInhabited (form.◌>>=◌ grammar.where_part (λ kept. form.◌>>=◌ grammar.group_part (λ groups. stands_for (Select its_items tables kept groups))))
    where_to its_items tables = bind_there where_there (group_to its_items tables)

    tables_to : (its_items : List AstItem) → IsInhabited (form.◌>>=◌ (form.separated grammar.comma form.name) (λ tables. form.◌>>=◌ grammar.where_part (λ kept. form.◌>>=◌ grammar.group_part (λ groups. stands_for (Select its_items tables kept groups)))))
    tables_to its_items = bind_there names_there (where_to its_items)

    group_avoids : (test : Symbol → Bool) (its_items : List AstItem) (tables : List (List ℕ)) (kept : Option Condition) → test (symbol.Keyword key.Group) ≡ false → ((t : Symbol) → in_select t ≡ false → test t ≡ false)
        → Avoids test (form.◌>>=◌ grammar.group_part (λ groups. stands_for (Select its_items tables kept groups))) in_select
    group_avoids test its_items tables kept other less =
        avoids_optional test (symbol.Keyword key.Group) _ [] (λ groups. stands_for (Select its_items tables kept groups)) in_select other (avoids_nothing test (Select its_items tables kept []) in_select less)

-- what goes on a statement
abbrev pub in_statement : Symbol → Bool
in_statement t = in_select t || in_load t

statement_select : (t : Symbol) → in_statement t ≡ false → in_select t ≡ false
statement_select t h = or_left (in_select t) (in_load t) h

wait_reads : {E : Symbol → Bool} (symbols : List Symbol) → Reads (after (symbol.Keyword key.Wait) (stands_for Wait)) (after (symbol.Keyword key.Wait) (stands_for Wait)) E symbols (reading.wait_at symbols)
wait_reads symbols = after_reads symbols (gives Wait) (finds_word key.Wait) (λ rest h. gives_reads Wait rest) (nothing_there Wait)

-- what a choice avoids, where its symbol is another
either_avoids : {B : Type 0} {E : Symbol → Bool} (test : Symbol → Bool) (s : Symbol) (L M : Form B) → test s ≡ false → Avoids test M E → Avoids test (form.◌or◌ (after s L) M) E
either_avoids {E = E} test s L M other m = avoids_or test (after s L) M E (avoids_symbol test s (λ _. L) E other) m

pub statement_reads : (symbols : List Symbol) → Reads grammar.statement grammar.statement in_statement symbols (reading.statement_at symbols)
unfolding reading.statement_at
statement_reads symbols =
    on_reads symbols reading.dimension_at reading.from_fact_at (finds_word key.Dimension) (λ rest h. dimension_reads rest)
    (on_reads symbols reading.fact_at reading.from_load_at (finds_word key.Fact) (λ rest h. fact_reads rest)
    (on_reads symbols reading.load_at reading.from_delete_at (finds_word key.Load) (λ rest h. wider rest (reading.load_at rest) (λ t e. or_right (in_select t) (in_load t) e) (load_reads rest))
    (on_reads symbols reading.delete_at reading.from_select_at (finds_word key.Delete) (λ rest h. wider rest (reading.delete_at rest) (λ t e. select_where t (statement_select t e)) (delete_reads rest))
    (on_reads symbols reading.select_at reading.wait_at (finds_word key.Select) (λ rest h. wider rest (reading.select_at rest) statement_select (select_reads rest))
    (wait_reads symbols)
    (wait_avoids (is_word key.Select) refl))
    (select_avoids (is_word key.Delete) refl refl))
    (delete_avoids (is_word key.Load) refl refl refl))
    (load_avoids (is_word key.Fact) refl refl refl refl))
    (either_avoids (is_word key.Dimension) (symbol.Keyword key.Fact) grammar.fact _ refl (load_avoids (is_word key.Dimension) refl refl refl refl))
  where
    wait_avoids : (test : Symbol → Bool) → test (symbol.Keyword key.Wait) ≡ false → Avoids test (after (symbol.Keyword key.Wait) (stands_for Wait)) in_statement
    wait_avoids test h = avoids_symbol test (symbol.Keyword key.Wait) (λ _. stands_for Wait) in_statement h

    select_avoids : (test : Symbol → Bool) → test (symbol.Keyword key.Select) ≡ false → test (symbol.Keyword key.Wait) ≡ false
        → Avoids test (form.◌or◌ (after (symbol.Keyword key.Select) grammar.select) (after (symbol.Keyword key.Wait) (stands_for Wait))) in_statement
    select_avoids test h1 h2 = either_avoids test (symbol.Keyword key.Select) grammar.select _ h1 (wait_avoids test h2)

    delete_avoids : (test : Symbol → Bool) → test (symbol.Keyword key.Delete) ≡ false → test (symbol.Keyword key.Select) ≡ false → test (symbol.Keyword key.Wait) ≡ false
        → Avoids test (form.◌or◌ (after (symbol.Keyword key.Delete) grammar.delete) (form.◌or◌ (after (symbol.Keyword key.Select) grammar.select) (after (symbol.Keyword key.Wait) (stands_for Wait)))) in_statement
    delete_avoids test h1 h2 h3 = either_avoids test (symbol.Keyword key.Delete) grammar.delete _ h1 (select_avoids test h2 h3)

    load_avoids : (test : Symbol → Bool) → test (symbol.Keyword key.Load) ≡ false → test (symbol.Keyword key.Delete) ≡ false → test (symbol.Keyword key.Select) ≡ false → test (symbol.Keyword key.Wait) ≡ false
        → Avoids test (form.◌or◌ (after (symbol.Keyword key.Load) grammar.load) (form.◌or◌ (after (symbol.Keyword key.Delete) grammar.delete) (form.◌or◌ (after (symbol.Keyword key.Select) grammar.select) (after (symbol.Keyword key.Wait) (stands_for Wait))))) in_statement
    load_avoids test h1 h2 h3 h4 = either_avoids test (symbol.Keyword key.Load) grammar.load _ h1 (delete_avoids test h2 h3 h4)

-- nothing more, and the statement before it
finish_reads : (meaning : Statement) (symbols : List Symbol) → Reads (stands_for meaning) (stands_for meaning) any_symbol symbols (reader.bind (end_at symbols) (λ _. gives meaning))
finish_reads meaning [] = gives_reads meaning []
finish_reads meaning (t ∷ symbols) = record {
  used = [];
  whole = refl;
  read = tt;
  only = λ other front back b same eq m ends.
      true_false (sym (begins-by_first any_symbol other (t ∷ symbols) same) ∙ ap (begins any_symbol) (eq ∙ ap (λ z. z ++ back) m.0) ∙ ends);
  begun = ([], meaning, (refl, refl));
}

-- a line of symbols is a sentence, or stops being the front of one where reading stops
pub sentence_reads : (symbols : List Symbol) → Reads grammar.sentence grammar.sentence any_symbol symbols (reading.sentence_at symbols)
unfolding reading.sentence_at reading.semicolon_at
sentence_reads symbols =
    bind_reads symbols (reading.statement_at symbols) (λ meaning. reader.◌>>◌ reading.semicolon_at (reader.◌>>◌ end_at (gives meaning))) (statement_reads symbols)
    (λ meaning rest e. bind_reads {E1 = is_sign mark.Semicolon} rest (reading.semicolon_at rest) (λ _. reader.◌>>◌ end_at (gives meaning))
    (on_reads rest (gives tt) (gives tt) (finds_sign mark.Semicolon) (λ last h. gives_reads tt last) (gives_reads tt rest)
    (avoids_nothing (is_sign mark.Semicolon) tt (is_sign mark.Semicolon) (λ t h. h)))
    (λ u last e2. finish_reads meaning last)
    (λ u. avoids_nothing (is_sign mark.Semicolon) meaning any_symbol (λ t h. true_false h))
    (λ u. nothing_there meaning))
    (λ meaning. avoids_optional in_statement (symbol.Sign mark.Semicolon) _ tt (λ _. stands_for meaning) any_symbol refl (avoids_nothing in_statement meaning any_symbol (λ t h. true_false h)))
    (λ meaning. bind_there (or_there (nothing_there tt)) (λ _. nothing_there meaning))
