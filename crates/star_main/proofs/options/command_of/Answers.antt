use Rattle.std.proofs.Common.{rules, ◌≡◌, ◌∙◌, sym, ap, ap₂, List, [], ℕ, Some}
use Rattle.std.specs.Borrow.{Bor}
use Rattle.std.specs.List.{slice_index_or}
use Rattle.clap.specs.Simple.{with_rule}
use Rattle.clap.specs.Walk.{Rule, rule_of}
use Rattle.star_main.specs.Rows.{rule_named}
use Rattle.star_main.proofs.AnswerLemmas.{names_more}
use Rattle.star_main.proofs.options.command_of.Goals as goal

pub loop-name-preserved : goal.loop-name-preserved
loop-name-preserved c =
    let d : Bor (List ℕ) = record { ref_ptr = (0, 0); now = [] } in
    let name = (slice_index_or c.args.names.now c.loop-name.name-index d).now in
    let rule : rule_of c.long-option.result ≡ rule_named name =
    ap rule_of c.long-option.ensures ∙ ap (λ (r : Rule). record r { long = Some name }) c.new.ensures.rule in
    c.in_ok-command.ensures.shape (search rules) ∙ ap₂ with_rule c.loop-name.invariant rule
    ∙ sym (names_more c.args.names.now c.loop-name.name-index d c.loop-name-test.true)
