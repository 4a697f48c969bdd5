-- The replies to a list of statements, and the history that they make: their effects one after the
-- other, from the empty history. A statement for which memory was wanted changes nothing, and is
-- told so.
use Rattle.std.specs.Prelude.{ℕ, suc, Bool, ◌==◌, List, [], ◌∷◌, ◌++◌, option_to_list, if◌then◌else◌}
use Rattle.std.specs.List.{list_any}
use Rattle.script_reader.specs.declared.statement.Statement.{Statement}
use Rattle.query_meaning.specs.History.{Change, store_of}
use Rattle.query_meaning.specs.Store.{Store}
use Rattle.reply_text.specs.declared.reply.Reply.{Reply}
use Rattle.reply_text.specs.declared.reply.Reply.TheVariants.{Memory}
use Rattle.star_store.specs.Effect.{effect_of, store_after}

-- whether a place is one of those where memory was wanted
abbrev pub is_wanted_at : (wanted : List ℕ) → (place : ℕ) → Bool
is_wanted_at wanted place = list_any (λ other. other == place) wanted

-- a history after one statement more
abbrev pub history_after : List Change → Statement → List Change
history_after history statement =
    history ++ option_to_list (effect_of (store_of history) statement).change

-- the replies to statements from a place on, behind those of a history
abbrev pub replies_after : (wanted : List ℕ) → (place : ℕ) → List Change → List Statement
    → List Reply
replies_after wanted place history [] = []
replies_after wanted place history (statement ∷ statements) =
    if is_wanted_at wanted place then Memory ∷ replies_after wanted (suc place) history statements
    else ((effect_of (store_of history) statement).reply
    ∷ replies_after wanted (suc place) (history_after history statement) statements)

-- the replies to the statements of a script, where memory was wanted at
-- these places, counted from 0
abbrev pub replies_of : (wanted : List ℕ) → List Statement → List Reply
replies_of wanted statements = replies_after wanted 0 [] statements

-- the history at which statements end, from a place on, where memory was wanted at these places
abbrev pub history_from : (wanted : List ℕ) → (place : ℕ) → List Change → List Statement
    → List Change
history_from wanted place history [] = history
history_from wanted place history (statement ∷ statements) =
    if is_wanted_at wanted place then history_from wanted (suc place) history statements
    else history_from wanted (suc place) (history_after history statement) statements

-- the history at which the statements of a script end
abbrev pub history_of : (wanted : List ℕ) → List Statement → List Change
history_of wanted statements = history_from wanted 0 [] statements

-- the replies where these are the tables
abbrev pub replies_at : (wanted : List ℕ) → (place : ℕ) → Store → List Statement → List Reply
replies_at wanted place store [] = []
replies_at wanted place store (statement ∷ statements) =
    if is_wanted_at wanted place then Memory ∷ replies_at wanted (suc place) store statements
    else ((effect_of store statement).reply
    ∷ replies_at wanted (suc place) (store_after store statement) statements)
