use Rattle.std.proofs.Common.{◌≡◌, false, drop}
use Rattle.reply_text.specs.Reading.{content_at, with_front}
use Rattle.reply_text.proofs.cells.content_at.Given as goal

-- the content so far, in front of that of the rest, is the content; so many bytes were passed
abbrev pub invariant-bytes : goal.invariant-bytes
invariant-bytes l =
    (with_front l.content.items (content_at l.quoted (drop l.byte-index l.bytes)) ≡ content_at false l.bytes)
    × (l.passed ≡ l.byte-index)
