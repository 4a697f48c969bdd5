use Rattle.std.proofs.Common.{◌≡◌, map, take}
use Rattle.clap.specs.Simple.{app_of}
use Rattle.star_main.specs.Rows.{app_with}
use Rattle.star_main.proofs.options.command_of.Given as goal

-- the command has the options of the names so far
abbrev pub invariant-loop-name : goal.invariant-loop-name
invariant-loop-name l = app_of l.command ≡ app_with (map (λ name. name.now) (take l.name-index l.names))
