use Rattle.dimension_rows.proofs.KeyLemmas.{key_at-read, index_of-there, index_of-missing, there-index_of, missing-index_of}
use Rattle.dimension_rows.proofs.laws.keys_have_one_place.Goals as goal

pub returns-clause-found : goal.returns-clause-found
returns-clause-found c = λ rows key place keyed.
    (λ e. (there-index_of rows key place e).0, index_of-there rows key place keyed)

pub returns-clause-missing : goal.returns-clause-missing
returns-clause-missing c = λ rows key. (missing-index_of rows key, λ none. index_of-missing rows key (λ place _. none place))

pub returns-clause-read : goal.returns-clause-read
returns-clause-read c = key_at-read
