use Rattle.std.proofs.Common.{sym}
use Rattle.star_parser.specs.Reader.{name_at}
use Rattle.star_parser.specs.Reading.{names_at, is_comma}
use Rattle.star_parser.proofs.SeparatedLemmas.{separated_on}
use Rattle.star_parser.proofs.GrammarLemmas.{name_shorter}
use Rattle.star_parser.proofs.parser.Parser.names.Goals as goal

pub members-preserved : goal.members-preserved
unfolding names_at
members-preserved c =
    separated_on is_comma name_at name_shorter c.members.names.items c.push.new.self.items c.members.self.rest.now c.name.new.self.rest.now
    c.skip_sign.new.self.rest.now c.in_ok-name.field-0 (names_at c.args.self.now.rest.now)
    c.members.invariant c.in_ok-name.ensures (sym c.if-not-skip_sign.ensures.skipped) c.skip_sign.ensures.rest c.in_ok-push.ensures.items
