use Rattle.std.proofs.Common.{ℕ, List, [], sym, subst}
use Rattle.script_reader.specs.declared.statement.Statement.{Statement}
use Rattle.query_meaning.specs.History.{store_of}
use Rattle.query_meaning.specs.Settled.{IsSettled}
use Rattle.star_store.specs.Script.{history_of}
use Rattle.star_store.proofs.laws_of_scripts.tables_of_scripts_are_settled.Goals as goal

pub returns : goal.returns
returns c =
    let settled : (wanted : List ℕ) (statements : List Statement) → IsSettled (store_of (history_of wanted statements)) = λ wanted statements.
    c.accepted_histories_are_settled.ensures.all (history_of wanted statements)
    (c.histories_of_scripts_are_accepted.ensures.behind wanted 0 [] statements tt) in record {
      settled = settled;
      one_row = λ wanted statements store snapshot dimension version key is.
          c.one_row_joins_a_visible_version.ensures store snapshot dimension version key (subst IsSettled (sym is) (settled wanted statements));
    }
