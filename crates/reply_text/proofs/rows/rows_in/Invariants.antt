use Rattle.std.proofs.Common.{◌≡◌, ◌-◌}
use Rattle.reply_text.specs.Reading.{rows_in, with_front}
use Rattle.reply_text.proofs.rows.rows_in.Given as goal

-- the rows so far, in front of those that are left, are all rows
abbrev pub invariant-rows : goal.invariant-rows
invariant-rows l = with_front l.rows (rows_in (l.count - l._row) l.rest) ≡ rows_in l.count l.bytes
