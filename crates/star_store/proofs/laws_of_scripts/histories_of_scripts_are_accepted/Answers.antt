use Rattle.std.proofs.Common.{[]}
use Rattle.script_reader.specs.Script.{statements_of}
use Rattle.star_store.proofs.HistoryLemmas.{Grows, accepts-statements}
use Rattle.star_store.proofs.laws_of_scripts.histories_of_scripts_are_accepted.Goals as goal

pub returns : goal.returns
returns c =
    let says : Grows = record { settled = c.accepted_histories_are_settled.ensures.all; fits = c.outcomes_fit_the_tables.ensures } in record {
      behind = accepts-statements says;
      script = λ wanted ended script. accepts-statements says wanted 0 [] (statements_of ended script) tt;
    }
