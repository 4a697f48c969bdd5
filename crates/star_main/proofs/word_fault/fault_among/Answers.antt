use Rattle.std.proofs.Common.{map, subst, string_bytes, sym}
use Rattle.std.specs.Prelude.{IsSome}
use Rattle.star_main.proofs.FaultLemmas.{no_settings-fault}
use Rattle.star_main.proofs.word_fault.fault_among.Goals as goal

pub unwrap-requires : goal.unwrap-requires
unwrap-requires c = subst IsSome (sym c.fault_in.ensures) ((no_settings-fault (map string_bytes c.args.words.now)).0 c.requires)
