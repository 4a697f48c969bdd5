use Rattle.std.proofs.Common.{◌≡◌, ◌++◌, ◌∷◌, drop}
use Rattle.std.specs.Prelude.{flat_map}
use Rattle.star_parser.specs.Grammar.{comma}
use Rattle.star_parser.proofs.print_symbols.add_more.Given as goal

-- what is written so far, and what the rest is written as, are all
abbrev pub invariant-values : goal.invariant-values
invariant-values g l =
    let print = g.T.Print.symbols in
    l.out.items ++ flat_map (λ next. comma ∷ print next) (drop l.value-index l.values) ≡ l.initial.out.items ++ flat_map (λ next. comma ∷ print next) l.values
