use Rattle.std.proofs.Common.{sym}
use Rattle.star_parser.specs.Reading.{item_at}
use Rattle.star_parser.specs.Reading.{items_at, is_comma}
use Rattle.star_parser.proofs.SeparatedLemmas.{separated_on, smaller_on}
use Rattle.star_parser.proofs.GrammarLemmas.{item_shorter}
use Rattle.star_parser.proofs.parser.Parser.items.Goals as goal

pub members-preserved : goal.members-preserved
unfolding items_at
members-preserved c =
    separated_on is_comma item_at item_shorter c.members.items.items c.push.new.self.items c.members.self.rest.now c.item.new.self.rest.now
    c.skip_sign.new.self.rest.now c.in_ok-item.field-0 (items_at c.args.self.now.rest.now)
    c.members.invariant c.in_ok-item.ensures (sym c.if-not-skip_sign.ensures.skipped) c.skip_sign.ensures.rest c.in_ok-push.ensures.items

pub members-smaller : goal.members-smaller
members-smaller c =
    smaller_on is_comma item_at item_shorter c.members.self.rest.now c.item.new.self.rest.now c.skip_sign.new.self.rest.now c.in_ok-item.field-0
    c.in_ok-item.ensures (sym c.if-not-skip_sign.ensures.skipped) c.skip_sign.ensures.rest
