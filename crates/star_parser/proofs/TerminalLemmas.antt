-- The tests of keywords and signs find one symbol each.
use Rattle.std.proofs.Common.{◌≡◌, Bool, true, false, ◌||◌, refl, ap, sym}
use denote.Enum.Bare.{same_true, true_same}
use Rattle.star_lexer.specs.contracts.sign.Sign as sign_type
use Rattle.star_lexer.specs.contracts.keyword.Keyword as keyword_type
use Rattle.star_lexer.specs.declared.keyword.Keyword.{Keyword}
use Rattle.star_lexer.specs.declared.sign.Sign.{Sign}
use Rattle.star_lexer.specs.declared.symbol.Symbol.{Symbol}
use Rattle.star_lexer.specs.declared.symbol.Symbol.TheVariants as symbol
use Rattle.star_parser.specs.Reader.{is_word, is_sign}
use Rattle.star_parser.proofs.ReadsLemmas.{Finds, true_false}

word_found : (k : Keyword) (t : Symbol) → is_word k t ≡ true → t ≡ symbol.Keyword k
word_found k (symbol.Keyword l) e = ap symbol.Keyword (same_true keyword_type.the_type tt l k e)
word_found k (symbol.Name n) e = true_false (sym e)
word_found k (symbol.Literal v) e = true_false (sym e)
word_found k (symbol.Sign s) e = true_false (sym e)

pub finds_word : (k : Keyword) → Finds (is_word k) (symbol.Keyword k)
finds_word k = (true_same keyword_type.the_type k k refl, word_found k)

sign_found : (s : Sign) (t : Symbol) → is_sign s t ≡ true → t ≡ symbol.Sign s
sign_found s (symbol.Sign r) e = ap symbol.Sign (same_true sign_type.the_type tt r s e)
sign_found s (symbol.Name n) e = true_false (sym e)
sign_found s (symbol.Literal v) e = true_false (sym e)
sign_found s (symbol.Keyword k) e = true_false (sym e)

pub finds_sign : (s : Sign) → Finds (is_sign s) (symbol.Sign s)
finds_sign s = (true_same sign_type.the_type s s refl, sign_found s)

pub or_left : (a b : Bool) → (a || b) ≡ false → a ≡ false
or_left true b e = true_false e
or_left false b e = refl

pub or_right : (a b : Bool) → (a || b) ≡ false → b ≡ false
or_right true b e = true_false e
or_right false b e = e
