-- At which places memory was wanted, as the replies tell it.
use Rattle.std.specs.Prelude.{◌≡◌, ℕ, suc, Bool, true, false, List, [], ◌∷◌, length, filter, if◌then◌else◌}
use Rattle.std.specs.List.{range_with_len}
use Rattle.script_reader.specs.declared.statement.Statement.{Statement}
use Rattle.query_meaning.specs.History.{Change}
use Rattle.reply_text.specs.Text.{text_of_all}
use Rattle.reply_text.specs.declared.reply.Reply.{Reply}
use Rattle.reply_text.specs.declared.reply.Reply.TheVariants.{Table, Commit, Answer, Overflow, Memory, Refused, Waited}
use Rattle.star_store.specs.Script.{is_wanted_at, replies_after, replies_of}

-- whether a reply is `memory`
abbrev pub is_memory : Reply → Bool
is_memory (Table name) = false
is_memory (Commit number rows) = false
is_memory (Answer snapshot rows) = false
is_memory (Overflow snapshot) = false
is_memory Memory = true
is_memory (Refused reason) = false
is_memory Waited = false

-- the places at which replies are `memory`, ascending, where the first of them stands at this place
abbrev pub memory_places_from : (place : ℕ) → List Reply → List ℕ
memory_places_from place [] = []
memory_places_from place (reply ∷ replies) =
    if is_memory reply then place ∷ memory_places_from (suc place) replies
    else memory_places_from (suc place) replies

-- the places at which replies are `memory`, ascending, counted from 0
abbrev pub memory_places : List Reply → List ℕ
memory_places replies = memory_places_from 0 replies

-- the places that the replies to statements from a place on tell, behind those of a history
abbrev pub told_places : (wanted : List ℕ) → (place : ℕ) → List Change → List Statement → List ℕ
told_places wanted place history statements =
    memory_places_from place (replies_after wanted place history statements)

-- the places of these statements at which memory was wanted, ascending, where the first of them
-- stands at this place
abbrev pub wanted_places : (wanted : List ℕ) → (place : ℕ) → List Statement → List ℕ
wanted_places wanted place statements =
    filter (is_wanted_at wanted) (range_with_len place (length statements))

-- statements have replies of one text, where memory was wanted at the one places and at the others
abbrev pub HaveSameText : (wanted other : List ℕ) → List Statement → Type 0
HaveSameText wanted other statements =
    text_of_all (replies_of wanted statements) ≡ text_of_all (replies_of other statements)
