-- The spellings of the keywords.
use Rattle.std.specs.Prelude.{ℕ, List, [], ◌∷◌, codes, find, Option, bytes_eq, option_map}
use Rattle.star_lexer.specs.declared.keyword.Keyword.{Keyword}
use Rattle.star_lexer.specs.declared.keyword.Keyword.TheVariants as keyword

-- each keyword in lower case
unfoldable pub keywords : List (List ℕ × Keyword)
keywords =
    (codes "and", keyword.And) ∷ (codes "between", keyword.Between) ∷ (codes "by", keyword.By)
    ∷ (codes "count", keyword.Count) ∷ (codes "delete", keyword.Delete)
    ∷ (codes "dimension", keyword.Dimension)
    ∷ (codes "fact", keyword.Fact) ∷ (codes "from", keyword.From) ∷ (codes "group", keyword.Group)
    ∷ (codes "header", keyword.Header) ∷ (codes "in", keyword.In) ∷ (codes "int", keyword.Int)
    ∷ (codes "is", keyword.Is) ∷ (codes "key", keyword.Key) ∷ (codes "load", keyword.Load)
    ∷ (codes "max", keyword.Max) ∷ (codes "min", keyword.Min) ∷ (codes "not", keyword.Not)
    ∷ (codes "null", keyword.Null) ∷ (codes "or", keyword.Or)
    ∷ (codes "references", keyword.References)
    ∷ (codes "select", keyword.Select) ∷ (codes "sum", keyword.Sum) ∷ (codes "text", keyword.Text)
    ∷ (codes "wait", keyword.Wait) ∷ (codes "where", keyword.Where) ∷ []

-- how a keyword is written
abbrev pub keyword_text : Keyword → List ℕ
keyword_text keyword.And = codes "and"
keyword_text keyword.Between = codes "between"
keyword_text keyword.By = codes "by"
keyword_text keyword.Count = codes "count"
keyword_text keyword.Delete = codes "delete"
keyword_text keyword.Dimension = codes "dimension"
keyword_text keyword.Fact = codes "fact"
keyword_text keyword.From = codes "from"
keyword_text keyword.Group = codes "group"
keyword_text keyword.Header = codes "header"
keyword_text keyword.In = codes "in"
keyword_text keyword.Int = codes "int"
keyword_text keyword.Is = codes "is"
keyword_text keyword.Key = codes "key"
keyword_text keyword.Load = codes "load"
keyword_text keyword.Max = codes "max"
keyword_text keyword.Min = codes "min"
keyword_text keyword.Not = codes "not"
keyword_text keyword.Null = codes "null"
keyword_text keyword.Or = codes "or"
keyword_text keyword.References = codes "references"
keyword_text keyword.Select = codes "select"
keyword_text keyword.Sum = codes "sum"
keyword_text keyword.Text = codes "text"
keyword_text keyword.Wait = codes "wait"
keyword_text keyword.Where = codes "where"

-- the keyword beside a word in a table
abbrev pub keyword_in : List (List ℕ × Keyword) → List ℕ → Option Keyword
keyword_in table word = option_map (λ entry. entry.1) (find (λ entry. bytes_eq entry.0 word) table)

-- the keyword that a word in lower case is, if it is one
unfoldable pub keyword_of : List ℕ → Option Keyword
keyword_of word = keyword_in keywords word
