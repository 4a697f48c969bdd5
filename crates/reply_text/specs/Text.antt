-- The text of replies.
use Rattle.std.specs.Prelude.{ℕ, List, [], ◌∷◌, ◌++◌, length, codes, decimal, flat_map}
use Rattle.star_values.specs.Cell.{cell_text}
use Rattle.star_values.specs.Refusal.{number_of, words_of}
use Rattle.star_values.specs.declared.cell.Cell.{Cell}
use Rattle.star_values.specs.declared.refusal.Refusal.{Refusal}
use Rattle.reply_text.specs.declared.reply.Reply.{Reply}
use Rattle.reply_text.specs.declared.reply.Reply.TheVariants.{Table, Commit, Answer, Overflow, Memory, Refused, Waited}

-- the cells behind the first of a row, each behind a comma
abbrev pub more_text : List Cell → List ℕ
more_text cells = flat_map (λ cell. 44 ∷ cell_text cell) cells

-- a row of an answer: its cells with a comma between each two, and a line feed
abbrev pub row_text : List Cell → List ℕ
row_text [] = codes "\n"
row_text (cell ∷ cells) = cell_text cell ++ more_text cells ++ codes "\n"

-- why a statement is refused: a number, and the words of it
abbrev pub refusal_text : Refusal → List ℕ
refusal_text refusal = decimal (number_of refusal) ++ codes " " ++ words_of refusal

-- a reply: one line, and behind an answer's line its rows
abbrev pub text_of : Reply → List ℕ
text_of (Table name) = codes "table " ++ name ++ codes "\n"
text_of (Commit number rows) =
    codes "commit " ++ decimal number ++ codes " rows " ++ decimal rows ++ codes "\n"
text_of (Answer snapshot rows) =
    codes "answer " ++ decimal snapshot ++ codes " rows " ++ decimal (length rows) ++ codes "\n"
    ++ flat_map row_text rows
text_of (Overflow snapshot) = codes "overflow " ++ decimal snapshot ++ codes "\n"
text_of Memory = codes "memory\n"
text_of (Refused refusal) = codes "refused " ++ refusal_text refusal ++ codes "\n"
text_of Waited = codes "waited\n"

-- the text of replies, one after the other
abbrev pub text_of_all : List Reply → List ℕ
text_of_all replies = flat_map text_of replies
