use Rattle.shared_distributor.proofs.laws.rows_fold_apart.Goals as goal

pub returns : goal.returns
returns c =
    let law = c.rows_may_be_folded_apart.ensures in
    record { absorbed = law.absorbed; swap = law.swap; first = law.first; known = law.known }
