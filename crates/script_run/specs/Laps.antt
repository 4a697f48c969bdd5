-- How many laps the replies of a run take.
use Rattle.std.specs.Prelude.{ℕ, ◌+◌, ◌-◌, ◌*◌, ◌/◌, List, [], ◌∷◌, fold}
use Rattle.std.specs.List.{sum_by}
use Rattle.reply_text.specs.declared.reply.Reply.{Reply}
use Rattle.reply_text.specs.declared.reply.Reply.TheVariants.{Table, Commit, Answer, Overflow, Memory, Refused, Waited}

-- how many rows of so many places hold these
abbrev pub rows_needed : (slots places : ℕ) → ℕ
rows_needed slots places = (places + (slots - 1)) / slots

-- replies are put down in rows of as many places as there are slots: that to a query takes a place,
-- and behind a `waited` and a `memory` the rest of the row is left free
abbrev pub placed : (slots places : ℕ) → Reply → ℕ
placed slots places (Answer snapshot rows) = places + 1
placed slots places (Overflow snapshot) = places + 1
placed slots places Memory = rows_needed slots (places + 1) * slots
placed slots places Waited = rows_needed slots places * slots
placed slots places other = places

-- the places that replies take behind others
abbrev pub places_of : (slots places : ℕ) → List Reply → ℕ
places_of slots places replies = fold (placed slots) places replies

-- how many laps replies take: one for each row
abbrev pub laps_of : (slots : ℕ) → List Reply → ℕ
laps_of slots replies = rows_needed slots (places_of slots 0 replies)

-- Replies are cut into pieces: a piece ends with a `waited` or a `memory`, and the last one with
-- the replies. These are the numbers of queries in the pieces, where a `memory` counts as a query,
-- and so many come before the first reply.
abbrev pub queries_of_pieces : (before : ℕ) → List Reply → List ℕ
queries_of_pieces before [] = before ∷ []
queries_of_pieces before (Table name ∷ replies) = queries_of_pieces before replies
queries_of_pieces before (Commit number rows ∷ replies) = queries_of_pieces before replies
queries_of_pieces before (Answer snapshot rows ∷ replies) = queries_of_pieces (before + 1) replies
queries_of_pieces before (Overflow snapshot ∷ replies) = queries_of_pieces (before + 1) replies
queries_of_pieces before (Memory ∷ replies) = (before + 1) ∷ queries_of_pieces 0 replies
queries_of_pieces before (Refused reason ∷ replies) = queries_of_pieces before replies
queries_of_pieces before (Waited ∷ replies) = before ∷ queries_of_pieces 0 replies

-- how many laps the pieces take: each as many as its queries need with so many in a lap. The law
-- `laps_add_up_over_pieces` says that these are the laps of the replies.
abbrev pub laps_of_pieces : (slots : ℕ) → List Reply → ℕ
laps_of_pieces slots replies = sum_by (rows_needed slots) (queries_of_pieces 0 replies)
