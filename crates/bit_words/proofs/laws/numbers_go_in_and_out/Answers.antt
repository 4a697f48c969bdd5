use Rattle.bit_words.proofs.SetLemmas.{Has-with, Has-less}
use Rattle.bit_words.proofs.laws.numbers_go_in_and_out.Goals as goal

pub returns-clause-put_in : goal.returns-clause-put_in
returns-clause-put_in c = Has-with

pub returns-clause-taken_out : goal.returns-clause-taken_out
returns-clause-taken_out c = Has-less
