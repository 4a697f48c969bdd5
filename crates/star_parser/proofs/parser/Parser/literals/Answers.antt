use Rattle.std.proofs.Common.{sym}
use Rattle.star_parser.specs.Reader.{literal_at}
use Rattle.star_parser.specs.Reading.{literals_at, is_comma}
use Rattle.star_parser.proofs.SeparatedLemmas.{separated_on}
use Rattle.star_parser.proofs.GrammarLemmas.{literal_shorter}
use Rattle.star_parser.proofs.parser.Parser.literals.Goals as goal

pub members-preserved : goal.members-preserved
unfolding literals_at
members-preserved c =
    separated_on is_comma literal_at literal_shorter c.members.values.items c.push.new.self.items c.members.self.rest.now c.literal.new.self.rest.now
    c.skip_sign.new.self.rest.now c.in_ok-literal.field-0 (literals_at c.args.self.now.rest.now)
    c.members.invariant c.in_ok-literal.ensures (sym c.if-not-skip_sign.ensures.skipped) c.skip_sign.ensures.rest c.in_ok-push.ensures.items
