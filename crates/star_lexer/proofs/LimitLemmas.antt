-- The tests for the limits on symbols say what the limits say.
use Rattle.std.proofs.Common.{◌≡◌, ℕ, ◌+◌, ◌<◌, ◌≤◌, true, false, List, ◌∷◌, length, take, drop, take_while, count_by, nat_lt, IsTrue, refl, ap, sym, ◌∙◌, arith, length-append}
use Rattle.std.proofs.lemmas.Bool.Decides.{nat_tests}
use Rattle.std.proofs.lemmas.List.{drop_at}
use Rattle.star_lexer.specs.declared.limits.TheConstants.{MAX_DEPTH, MAX_LIST}
use Rattle.star_lexer.specs.declared.keyword.Keyword.TheVariants as keyword
use Rattle.star_lexer.specs.declared.sign.Sign.TheVariants as sign
use Rattle.star_lexer.specs.declared.symbol.Symbol.{Symbol}
use Rattle.star_lexer.specs.declared.symbol.Symbol.TheVariants as symbol
use Rattle.star_lexer.specs.Limits.{is_open, is_close, is_literal, is_listed, begins_too_long_a_list, HasTooLongAList}

-- the parentheses of the symbols so far are counted, and no shorter prefix is too deep
pub record IsCounted (symbols : List Symbol) (place opened closed : ℕ) : Type 0 where
  pub opens : opened ≡ count_by is_open (take place symbols)
  pub closes : closed ≡ count_by is_close (take place symbols)
  pub shallow : (k : ℕ) → k < place → count_by is_open (take k symbols) ≤ count_by is_close (take k symbols) + MAX_DEPTH
  pub few : opened ≤ place
  pub few' : closed ≤ place

-- no list over the limit begins at any place, so there is none
pub no_list : (symbols : List Symbol) (places : ℕ) → ((k : ℕ) → k < places → begins_too_long_a_list (drop k symbols) ≡ false) → length symbols ≤ places
    → (IsTrue false → HasTooLongAList symbols) × (HasTooLongAList symbols → IsTrue false)
no_list symbols places none all = (
  λ h. let wrong : false ≡ true = h in absurd (cc),
  λ long.
      let e : drop (length long.0) symbols ≡ symbol.Keyword keyword.In ∷ symbol.Sign sign.Open ∷ long.1 =
      ap (drop (length long.0)) long.2 ∙ drop_at long.0 (symbol.Keyword keyword.In ∷ symbol.Sign sign.Open ∷ long.1) (length long.0) refl in
      let within : length long.0 < length symbols = omega (arith, ap length long.2, length-append long.0 (symbol.Keyword keyword.In ∷ symbol.Sign sign.Open ∷ long.1)) in
      let not_here : begins_too_long_a_list (drop (length long.0) symbols) ≡ false = none (length long.0) (omega arith) in
      let short : nat_lt MAX_LIST (count_by is_literal (take_while is_listed long.1)) ≡ false = ap begins_too_long_a_list (sym e) ∙ not_here in
      let much = long.3 in
      absurd (grind (arith, nat_tests)),
)
