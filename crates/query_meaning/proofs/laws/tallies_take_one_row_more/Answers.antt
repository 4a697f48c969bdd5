use Rattle.query_meaning.proofs.TallyLemmas.{tallies_more}
use Rattle.query_meaning.proofs.laws.tallies_take_one_row_more.Goals as goal

pub returns : goal.returns
returns c =
    let laws = c.cells_take_one_row_more.ensures in
    tallies_more laws.sum laws.least laws.greatest
