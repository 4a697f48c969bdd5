-- Keywords are found by their words.
use Rattle.std.proofs.Common.{◌≡◌, ℕ, Bool, true, false, cond, List, [], ◌∷◌, map, Option, Some, option_map, find, bytes_eq, refl, Bor}
use Rattle.star_lexer.specs.declared.keyword.Keyword.{Keyword}
use Rattle.star_lexer.specs.Keyword.{keyword_in}

abbrev pub read_entry : Bor (List ℕ) × Keyword → List ℕ × Keyword
read_entry entry = (entry.0.now, entry.1)

found_by : (entry : Bor (List ℕ) × Keyword) (rest : Option (Bor (List ℕ) × Keyword)) (rest' : Option (List ℕ × Keyword)) (b : Bool)
    → option_map (λ e. e.1) rest ≡ option_map (λ e. e.1) rest'
    → option_map (λ e. e.1) (cond b (Some entry) rest) ≡ option_map (λ e. e.1) (cond b (Some (read_entry entry)) rest')
found_by entry rest rest' true h = refl
found_by entry rest rest' false h = h

-- whether the words of a table are borrowed or not
pub keyword_in-read : (word : List ℕ) (table : List (Bor (List ℕ) × Keyword))
    → option_map (λ e. e.1) (find (λ e. bytes_eq e.0.now word) table) ≡ keyword_in (map (λ entry. (entry.0.now, entry.1)) table) word
keyword_in-read word [] = refl
keyword_in-read word (entry ∷ table) =
    found_by entry (find (λ e. bytes_eq e.0.now word) table)
    (find (λ e. bytes_eq e.0 word) (map (λ entry. (entry.0.now, entry.1)) table)) (bytes_eq entry.0.now word) (keyword_in-read word table)
