-- What `clap` is told of the options, and what it answers to words.
use Rattle.std.specs.Prelude.{Bool, true, false, List, [], ◌∷◌, Option, Some, None, fold, codes, if◌then◌else◌}
use Rattle.clap.specs.Kinds.{Kinds}
use Rattle.clap.specs.Faults.{fault_of}
use Rattle.clap.specs.Walk.{Row, Rule}
use Rattle.clap.specs.Simple.{App, matches_of, new_app, new_rule, on_top, with_rule}
use Rattle.star_main.specs.Words.{Text}

-- an option `--name` with one value
abbrev pub rule_named : Text → Rule
rule_named name = record (new_rule name) { long = Some name }

-- a command without options, to which the first word is as good as any, and which gives no help
abbrev pub bare_app : App
bare_app =
    on_top (λ s.
    record s { no_binary_name = true; disable_help_flag = true; disable_version_flag = true })
    (new_app (codes "cjoin"))

-- a command with one option more, that of a name
abbrev pub with_name : App → Text → App
with_name app name = with_rule app (rule_named name)

-- the command with an option for each name
abbrev pub app_with : List Text → App
app_with names = fold with_name bare_app names

-- nothing is wrong
abbrev pub passes : Kinds → Bool
passes [] = true
passes (kind ∷ kinds) = false

-- what is found in the words, where the command takes them
abbrev pub answer_of : App → List Text → Option (List Row)
answer_of app words = if passes (fault_of app words) then Some (matches_of app words) else None
