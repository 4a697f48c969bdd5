use Rattle.std.proofs.Common.{rules, ◌≡◌, Some, refl, sym, ◌∙◌, ap}
use Rattle.std.proofs.lemmas.Grind.{elements}
use Rattle.star_cases.specs.Judge.{wanted_end}
use Rattle.star_cases.proofs.OutcomeLemmas.{right_runs_answer}
use Rattle.star_cases.proofs.outcome.wrong_in_pieces.Goals as goal

pub returns-in-None : goal.returns-in-None
returns-in-None g c none =
    let copied : c.in_ok-clone.field-0.items ≡ c.args.case.now.script.items = grind (rules, elements) in
    let given : c.new-source.result.left ≡ c.args.case.now.script.items = ap (λ s. s.left) c.new-source.ensures ∙ copied in
    let right = c.fault_of.ensures.0 (grind rules) in
    let replies : c.deref.result.now ≡ c.args.case.now.replies.items = c.deref.ensures.value in
    right_runs_answer c.run-end.result _ _ _ _
    c.args.case.now.script.items c.run-end.new.source.left c.run-end.new.sink.taken c.args.case.now.replies.items
    (ap Some given) refl (ap (λ s. Some s.taken) c.new-sink.ensures) refl c.run-end.ensures (sym c.bytes.ensures ∙ right.0 ∙ replies)
    (right.1 ∙ ap wanted_end replies)
