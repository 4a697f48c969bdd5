use Rattle.std.proofs.Common.{map, string_bytes, sym, ◌∙◌}
use denote.Enum.Bare.{same_false}
use Rattle.clap.specs.Simple.{app_of}
use Rattle.clap.specs.contracts.error.kind.ErrorKind.{the_type}
use Rattle.clap.specs.declared.error.kind.ErrorKind.TheVariants.{OutOfMemory}
use Rattle.star_main.proofs.AnswerLemmas.{answer-some, answer-none}
use Rattle.star_main.proofs.options.matches_in.Goals as goal

pub returns-in-Ok : goal.returns-in-Ok
returns-in-Ok c =
    answer-some (app_of c.args.command) (map string_bytes c.args.words.now) c.in-Ok.matches c.requires
    (c.in-Ok.ensures.kinds c.requires) c.in-Ok.ensures.matches

pub returns : goal.returns
returns c =
    answer-none (app_of c.args.command) (map string_bytes c.args.words.now) c.in-Err.error
    (λ e. same_false the_type c.kind.result OutOfMemory (sym c.eq.ensures ∙ c.if-eq.false) (c.kind.ensures ∙ e)) (c.in-Err.ensures.kinds c.requires)
