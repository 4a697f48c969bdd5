-- The settings that a list of words names: the table of options, and the rule that
-- each stands at most once.
use Rattle.std.specs.Prelude.{Bool, true, not, ◌&&◌, List, [], ◌∷◌, ◌++◌, Option, Some, None, option_map, option_and_then, find, if◌then◌else◌, codes}
use Rattle.std.specs.List.{list_any}
use Rattle.std.specs.Str.{bytes_eq}
use Rattle.star_main.specs.Words.{Text, NamedOption, entries_of}
use Rattle.star_main.specs.Values.{mode_or, number_or}
use Rattle.star_main.specs.declared.limits.TheConstants.{WORKERS, SLOTS, BATCH, SEED, ROWS, PORT, ACCEPT}
use Rattle.star_main.specs.declared.settings.Settings.{Settings}

-- the names of the table
abbrev pub option_names : List Text
option_names =
    codes "mode" ∷ codes "workers" ∷ codes "slots" ∷ codes "batch" ∷ codes "seed" ∷ codes "rows"
    ∷ codes "port"
    ∷ codes "accept" ∷ []

-- the name is one of these
abbrev pub is_among : List Text → Text → Bool
is_among names name = list_any (λ other. bytes_eq other name) names

-- each entry names an option that is known, and that no entry before it names;
-- `named` are the names before
abbrev pub are_new : List Text → List Text → List NamedOption → Bool
are_new known named [] = true
are_new known named (entry ∷ rest) =
    is_among known entry.name
    && (not (is_among named entry.name) && are_new known (named ++ entry.name ∷ []) rest)

-- the value that is written for an option
abbrev pub value_of : List NamedOption → Text → Option Text
value_of entries name =
    option_map (λ entry. entry.value) (find (λ entry. bytes_eq entry.name name) entries)

infixl 10 ◌>>=◌
-- what `second` makes of what there is: by it the lines of a `do` give
-- nothing where one of them does
abbrev pub ◌>>=◌ : {A B : Type 0} → Option A → (A → Option B) → Option B
(first >>= second) = option_and_then second first

-- the table: each option with its values and its default, over what is written for each name
unfoldable pub settings_by : (Text → Option Text) → Option Settings
settings_by written = do
  mode ← mode_or (written (codes "mode"))
  workers ← number_or WORKERS (written (codes "workers"))
  slots ← number_or SLOTS (written (codes "slots"))
  batch ← number_or BATCH (written (codes "batch"))
  seed ← number_or SEED (written (codes "seed"))
  rows ← number_or ROWS (written (codes "rows"))
  port ← number_or PORT (written (codes "port"))
  accept ← number_or ACCEPT (written (codes "accept"))
  Some (record {
    mode = mode;
    workers = workers;
    slots = slots;
    batch = batch;
    seed = seed;
    rows = rows;
    port = port;
    accept = accept;
  })

-- the settings of a list of entries
abbrev pub settings_in : List NamedOption → Option Settings
settings_in entries =
    if are_new option_names [] entries then settings_by (value_of entries) else None

-- the settings that a list of words names
abbrev pub settings_of : List Text → Option Settings
settings_of words = option_and_then settings_in (entries_of words)
