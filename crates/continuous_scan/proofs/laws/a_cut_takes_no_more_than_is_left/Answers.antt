use Rattle.continuous_scan.specs.Range.{first_in, end_in}
use Rattle.continuous_scan.proofs.StepLemmas.{cut_within}
use Rattle.continuous_scan.proofs.EndLemmas.{cuts_one}
use Rattle.continuous_scan.proofs.laws.a_cut_takes_no_more_than_is_left.Goals as goal

pub returns : goal.returns
returns c = λ scan length size slot query in_step can there.
    cut_within scan.position length (first_in length scan) (end_in length size scan) query.extent query.start query.left
    (cuts_one length size slot scan query in_step can there)
