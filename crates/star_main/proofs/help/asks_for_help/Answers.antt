use Rattle.std.proofs.Common.{◌∙◌, rules, string_bytes, tests}
use Rattle.std.proofs.lemmas.Iterator.{YieldsList-from_slice}
use Rattle.std.proofs.lemmas.Iterator.Search.{any_from_yields_List}
use Rattle.clap.proofs.WalkLemmas.{list_any-map}
use Rattle.star_main.specs.Help.{is_help}
use Rattle.star_main.proofs.help.asks_for_help.Goals as goal

pub returns : goal.returns
returns c =
    any_from_yields_List (λ word. is_help (string_bytes word)) _ _ _ c.any.ensures.ran (YieldsList-from_slice c.args.words.now cc)
    (λ x b q k. search (rules, tests))
    ∙ list_any-map is_help string_bytes c.args.words.now
