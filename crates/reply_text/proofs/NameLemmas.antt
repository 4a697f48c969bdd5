-- The test for the name of a table says what its rule says, and a name is read whole.
use Rattle.std.proofs.Common.{◌≡◌, ℕ, ◌||◌, not, nat_le, Bool, true, false, cond, List, [], ◌∷◌, ◌++◌, length, take, map, Option, Some, None, option_map, refl, ap, subst, ◌∙◌, arith}
use Rattle.std.specs.Prelude.{bytes_eq, find}
use Rattle.std.specs.Option.{option_map_or}
use Rattle.std.specs.List.{list_all, list_any, prefix_len}
use Rattle.std.proofs.lemmas.Bool.{and_parts}
use Rattle.std.proofs.lemmas.Bool.Decides.{nat_tests}
use Rattle.star_lexer.specs.declared.keyword.Keyword.{Keyword}
use Rattle.star_lexer.specs.declared.reading.TheConstants.{MAX_NAME_BYTES}
use Rattle.star_lexer.specs.Keyword.{keyword_in, keyword_of, keywords}
use Rattle.star_lexer.specs.Written.{begins_name, is_name_byte}
use Rattle.reply_text.specs.Formed.{IsTableName}
use Rattle.reply_text.specs.Reading.{is_keyword, is_table_name, name_at, table_name_in}
use Rattle.reply_text.proofs.PartLemmas.{if_some, part_at-exact, part_at-sound}

found_first : (entry : List ℕ × Keyword) (found : Option (List ℕ × Keyword)) (test rest : Bool) → option_map_or (λ k. true) (option_map (λ e. e.1) found) false ≡ rest
    → option_map_or (λ k. true) (option_map (λ e. e.1) (cond test (Some entry) found)) false ≡ (test || rest)
found_first entry found true rest h = refl
found_first entry found false rest h = h

-- a keyword is found in a table where its word stands there
pub keyword_in-any : (table : List (List ℕ × Keyword)) (word : List ℕ)
    → option_map_or (λ k. true) (keyword_in table word) false ≡ list_any (λ entry. bytes_eq entry word) (map (λ entry. entry.0) table)
keyword_in-any [] word = refl
keyword_in-any (entry ∷ table) word =
    found_first entry (find (λ e. bytes_eq e.0 word) table) (bytes_eq entry.0 word)
    (list_any (λ e. bytes_eq e word) (map (λ e. e.0) table)) (keyword_in-any table word)

pub is_keyword-any : (word : List ℕ) → is_keyword word ≡ list_any (λ entry. bytes_eq entry word) (map (λ entry. entry.0) keywords)
unfolding is_keyword keyword_of
is_keyword-any word = keyword_in-any keywords word

keyword_free : (found : Option Keyword) → not (option_map_or (λ k. true) found false) ≡ true → found ≡ None
keyword_free None h = refl
keyword_free (Some k) h = absurd (cc)

pub is_table_name-sound : (name : List ℕ) → is_table_name name ≡ true → IsTableName name
unfolding is_table_name is_keyword
is_table_name-sound name h =
    let begins = and_parts (list_any begins_name (take 1 name)) _ h in
    let goes_on = and_parts (list_all is_name_byte name) _ begins.1 in
    let short = and_parts (nat_le (length name) MAX_NAME_BYTES) _ goes_on.1 in
    let low = short.0 in
    record {
      name_of_the_language = record { begins = begins.0; goes_on = goes_on.0; free = keyword_free (keyword_of name) short.1 };
      short = grind (arith, nat_tests);
    }

pub is_table_name-exact : (name : List ℕ) → IsTableName name → is_table_name name ≡ true
unfolding is_table_name is_keyword
is_table_name-exact name h =
    let low = h.short in
    let short : nat_le (length name) MAX_NAME_BYTES ≡ true = grind (arith, nat_tests) in
    let is = h.name_of_the_language in
    rw (is.begins, is.goes_on, short, is.free) refl

name_in-exact : (name : List ℕ) → IsTableName name → table_name_in name ≡ Some name
name_in-exact name h = rw (is_table_name-exact name h) refl

pub name_at-exact : (name rest : List ℕ) → IsTableName name → prefix_len is_name_byte rest ≡ 0 → name_at (name ++ rest) ≡ Some (name, rest)
unfolding name_at
name_at-exact name rest h stop = part_at-exact is_name_byte table_name_in name rest name h.name_of_the_language.goes_on stop (name_in-exact name h)

pub name_at-sound : (bytes : List ℕ) (out : List ℕ × List ℕ) → name_at bytes ≡ Some out → IsTableName out.0 × (bytes ≡ out.0 ++ out.1)
unfolding name_at
name_at-sound bytes out e =
    let found = part_at-sound is_name_byte table_name_in bytes out e in
    let is = if_some (is_table_name found.0) found.0 out.0 found.1 in
    (subst IsTableName is.1 (is_table_name-sound found.0 is.0), found.2 ∙ ap (λ text. text ++ out.1) is.1)
