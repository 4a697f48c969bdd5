use Rattle.std.proofs.Common.{sym}
use Rattle.star_parser.specs.Reading.{plain_column_at}
use Rattle.star_parser.specs.Reading.{plain_columns_at, is_comma}
use Rattle.star_parser.proofs.SeparatedLemmas.{separated_on, smaller_on}
use Rattle.star_parser.proofs.StatementLemmas.{plain_column_shorter}
use Rattle.star_parser.proofs.parser.Parser.plain_columns.Goals as goal

pub members-preserved : goal.members-preserved
unfolding plain_columns_at
members-preserved c =
    separated_on is_comma plain_column_at plain_column_shorter c.members.columns.items c.push.new.self.items c.members.self.rest.now c.plain_column.new.self.rest.now
    c.skip_sign.new.self.rest.now c.in_ok-plain_column.field-0 (plain_columns_at c.args.self.now.rest.now)
    c.members.invariant c.in_ok-plain_column.ensures (sym c.if-not-skip_sign.ensures.skipped) c.skip_sign.ensures.rest c.in_ok-push.ensures.items

pub members-smaller : goal.members-smaller
members-smaller c =
    smaller_on is_comma plain_column_at plain_column_shorter c.members.self.rest.now c.plain_column.new.self.rest.now c.skip_sign.new.self.rest.now c.in_ok-plain_column.field-0
    c.in_ok-plain_column.ensures (sym c.if-not-skip_sign.ensures.skipped) c.skip_sign.ensures.rest
