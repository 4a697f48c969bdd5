-- A select as the code holds it.
use Rattle.std.specs.Prelude.{map}
use Rattle.star_parser.specs.Condition.{condition_of}
use Rattle.star_binder.specs.Select.{SelectParts}
use Rattle.star_binder.specs.declared.select.Select.{Select}

-- the parts of a select
abbrev pub parts_of : Select → SelectParts
parts_of select = record {
  items = select.items.now;
  names = select.names.now;
  conjuncts = map condition_of select.conjuncts.now;
  groups = select.groups.now;
}
