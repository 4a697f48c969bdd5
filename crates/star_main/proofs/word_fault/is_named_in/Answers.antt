use Rattle.std.proofs.Common.{◌∙◌, rules, string_bytes, tests}
use Rattle.std.proofs.lemmas.Iterator.{YieldsList-from_slice}
use Rattle.std.proofs.lemmas.Iterator.Search.{any_from_yields_List}
use Rattle.clap.proofs.WalkLemmas.{list_any-map}
use Rattle.star_main.specs.Words.{option_of}
use Rattle.star_main.specs.WordFault.{has_name}
use Rattle.star_main.proofs.word_fault.is_named_in.Goals as goal

pub returns : goal.returns
returns c =
    any_from_yields_List (λ word. has_name c.args.name.now (option_of (string_bytes word))) _ _ _ c.any.ensures.ran (YieldsList-from_slice c.args.words.now cc)
    (λ x b q k. search (rules, tests))
    ∙ list_any-map (λ word. has_name c.args.name.now (option_of word)) string_bytes c.args.words.now
