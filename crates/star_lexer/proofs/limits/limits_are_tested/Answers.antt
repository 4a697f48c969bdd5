use Rattle.star_lexer.proofs.LimitTests.{Decides-is_over_limit}
use Rattle.star_lexer.proofs.limits.limits_are_tested.Goals as goal

pub returns : goal.returns
returns c = Decides-is_over_limit
