-- The spellings of the signs.
use Rattle.std.specs.Prelude.{ℕ, List, codes}
use Rattle.star_lexer.specs.declared.sign.Sign.{Sign}
use Rattle.star_lexer.specs.declared.sign.Sign.TheVariants as sign

-- how a sign is written
abbrev pub sign_text : Sign → List ℕ
sign_text sign.Open = codes "("
sign_text sign.Close = codes ")"
sign_text sign.Comma = codes ","
sign_text sign.Dot = codes "."
sign_text sign.Semicolon = codes ";"
sign_text sign.Star = codes "*"
sign_text sign.Equal = codes "="
sign_text sign.NotEqual = codes "<>"
sign_text sign.Less = codes "<"
sign_text sign.LessOrEqual = codes "<="
sign_text sign.Greater = codes ">"
sign_text sign.GreaterOrEqual = codes ">="
