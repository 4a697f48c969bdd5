use Rattle.std.proofs.Common.{◌+◌, ◌∙◌, ap, map, refl, sym}
use Rattle.std.proofs.lemmas.List.{length-map}
use Rattle.std.proofs.lemmas.Result.{err_from_is_err_and}
use Rattle.star_store.proofs.CommitLemmas.{commits_told, committed_versions, saturated}
use Rattle.star_store.proofs.load.load_facts.Goals as goal

pub returns-in_err-versions-clause-commits : goal.returns-in_err-versions-clause-commits
returns-in_err-versions-clause-commits c =
    let failed = err_from_is_err_and c.from_residual.result c.from_residual.ensures.1 in
    rw (failed.1, failed.2) (commits_told _ _ _ _ (c.in_err-versions.ensures.tells c.args.commits.now) refl)

pub returns-clause-commits : goal.returns-clause-commits
returns-clause-commits c =
    committed_versions c.args.schema.now c.args.dims.now c.args.facts.now c.commit_versions.new.facts c.args.commits.now c.commit_versions.new.commits
    c.saturating_add-commit.result c.in_ok-versions.versions.items (map (λ version. version.row) c.in_ok-versions.versions.items) _ c.in_ok-commit_versions.field-0
    (c.in_ok-versions.ensures.rows c.args.commits.now) c.in_ok-versions.ensures.versions.versions (saturated _ c.args.commits.now c.saturating_add-commit.ensures c.in_ok-commit_versions.ensures.within)
    c.in_ok-commit_versions.ensures.versions c.in_ok-commit_versions.ensures.commits
    (c.in_ok-commit_versions.ensures.done ∙ ap (λ n. record { commit = c.args.commits.now + 1; rows = n }) (sym (length-map c.in_ok-versions.versions.items (λ version. version.row))))
