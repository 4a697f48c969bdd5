-- The symbols of an `and` or an `or`, written part by part.
use Rattle.std.proofs.Common.{◌≡◌, ℕ, ◌+◌, ◌<◌, Bool, true, false, List, [], ◌∷◌, ◌++◌, length, get_or, drop, map, refl, ap, sym, ◌∙◌, append_assoc}
use Rattle.std.proofs.lemmas.List.{at_drop_more}
use Rattle.star_lexer.specs.declared.keyword.Keyword.TheVariants as key
use Rattle.star_lexer.specs.declared.sign.Sign.TheVariants as mark
use Rattle.star_lexer.specs.declared.symbol.Symbol.{Symbol}
use Rattle.star_lexer.specs.declared.symbol.Symbol.TheVariants as symbol
use Rattle.star_parser.specs.declared.tree.Tree.{Tree}
use Rattle.star_parser.specs.Condition.{Condition, Conditions, more, conditions, condition_of}
use Rattle.star_parser.specs.Printed.{in_brackets, one_symbols, all_symbols, both_symbols_from, either_symbols_from, separator_symbols}

-- a turn writes what stands in front of a member, and the member
member_turn : {A : Type 0} (print : A → List Symbol) (front_of : Bool → List Symbol) (print_from : Bool → List A → List Symbol)
    → ((b : Bool) (value : A) (values : List A) → print_from b (value ∷ values) ≡ front_of b ++ (print value ++ print_from true values))
    → (values : List A) (i : ℕ) (value : A) (b : Bool) (out between new all : List Symbol) → i < length values → value ≡ get_or values i value
    → out ++ print_from b (drop i values) ≡ all → between ≡ out ++ front_of b → new ≡ between ++ print value
    → new ++ print_from true (drop (i + 1) values) ≡ all
member_turn print front_of print_from each values i value b out between new all within is so_far one two =
    let rest = print_from true (drop (i + 1) values) in
    ap (λ z. z ++ rest) (two ∙ ap (λ z. z ++ print value) one)
    ∙ append_assoc (out ++ front_of b) (print value) rest
    ∙ append_assoc out (front_of b) (print value ++ rest)
    ∙ ap (λ z. out ++ z) (sym (at_drop_more (print_from b) values i value within ∙ ap (λ z. print_from b (z ∷ drop (i + 1) values)) (sym is) ∙ each b value (drop (i + 1) values)))
    ∙ so_far

both_more : (b : Bool) (t : Condition) (ts : Conditions)
    → both_symbols_from b (more t ts) ≡ separator_symbols b key.And ++ (one_symbols t ++ both_symbols_from true ts)
both_more true t ts = refl
both_more false t ts = refl

either_more : (b : Bool) (t : Condition) (ts : Conditions)
    → either_symbols_from b (more t ts) ≡ separator_symbols b key.Or ++ (all_symbols t ++ either_symbols_from true ts)
either_more true t ts = refl
either_more false t ts = refl

pub both_turn : (trees : List Tree) (i : ℕ) (tree : Tree) (b : Bool) (out between new all : List Symbol) → i < length trees → tree ≡ get_or trees i tree
    → out ++ both_symbols_from b (conditions (map condition_of (drop i trees))) ≡ all
    → between ≡ out ++ separator_symbols b key.And → new ≡ between ++ one_symbols (condition_of tree)
    → new ++ both_symbols_from true (conditions (map condition_of (drop (i + 1) trees))) ≡ all
both_turn =
    member_turn (λ tree. one_symbols (condition_of tree)) (λ b. separator_symbols b key.And) (λ b trees. both_symbols_from b (conditions (map condition_of trees)))
    (λ b tree trees. both_more b (condition_of tree) (conditions (map condition_of trees)))

pub either_turn : (trees : List Tree) (i : ℕ) (tree : Tree) (b : Bool) (out between new all : List Symbol) → i < length trees → tree ≡ get_or trees i tree
    → out ++ either_symbols_from b (conditions (map condition_of (drop i trees))) ≡ all
    → between ≡ out ++ separator_symbols b key.Or → new ≡ between ++ all_symbols (condition_of tree)
    → new ++ either_symbols_from true (conditions (map condition_of (drop (i + 1) trees))) ≡ all
either_turn =
    member_turn (λ tree. all_symbols (condition_of tree)) (λ b. separator_symbols b key.Or) (λ b trees. either_symbols_from b (conditions (map condition_of trees)))
    (λ b tree trees. either_more b (condition_of tree) (conditions (map condition_of trees)))

-- symbols between parentheses, written part by part
pub brackets_behind : (front opened inside inner : List Symbol) → opened ≡ front ++ symbol.Sign mark.Open ∷ [] → inside ≡ opened ++ inner
    → inside ++ symbol.Sign mark.Close ∷ [] ≡ front ++ in_brackets inner
brackets_behind front opened inside inner one two =
    ap (λ z. z ++ symbol.Sign mark.Close ∷ []) (two ∙ ap (λ z. z ++ inner) one)
    ∙ append_assoc (front ++ symbol.Sign mark.Open ∷ []) inner (symbol.Sign mark.Close ∷ [])
    ∙ append_assoc front (symbol.Sign mark.Open ∷ []) (inner ++ symbol.Sign mark.Close ∷ [])
