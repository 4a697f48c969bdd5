use Rattle.std.proofs.Common.{◌≡◌, ℕ, ◌<◌, false, drop}
use Rattle.star_lexer.specs.Limits.{begins_too_long_a_list}
use Rattle.star_lexer.proofs.limits.has_too_long_a_list.Given as goal

-- no such list begins at a place so far
abbrev pub invariant-places : goal.invariant-places
invariant-places l = (k : ℕ) → k < l.place → begins_too_long_a_list (drop k l.symbols) ≡ false
