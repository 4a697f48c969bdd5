use Rattle.std.proofs.Common.{◌∙◌, refl}
use Rattle.make_load.proofs.RunLemmas.{answers_of, back-without, back_of, faults-without, text-by, without_core}
use Rattle.make_load.proofs.made.run_made_on_one_thread.Goals as goal

pub tell-requires-clause-text : goal.tell-requires-clause-text
tell-requires-clause-text g c =
    let ran = c.run_text_on_one_thread-ran in
    text-by (Unit {0}) c.args.settings c.as_bytes-bytes.result.now ran.result ran.ensures.ran

pub returns-clause-answers : goal.returns-clause-answers
returns-clause-answers g c =
    let ran = c.run_text_on_one_thread-ran in
    answers_of (Unit {0}) c.args.settings c.args.seed c.args.rows c.as_bytes-bytes.result.now ran.result c.tell.result _ _
    (c.as_bytes-bytes.ensures ∙ c.in-Ok.ensures.made) ran.ensures.ran c.tell.ensures.tells

pub returns-clause-back : goal.returns-clause-back
returns-clause-back g c =
    let ran = c.run_text_on_one_thread-ran in
    back_of (Unit {0}) c.args.settings c.as_bytes-bytes.result.now ran.result c.tell.result _ _ c.tell.ensures.tells ran.ensures.back

pub returns-in_default-clause-answers : goal.returns-in_default-clause-answers
returns-in_default-clause-answers g c =
    without_core (Unit {0}) c.args.settings c.args.seed c.args.rows c.without_memory.result.core c.without_memory.result.end _ _
    c.without_memory.ensures.core c.without_memory.ensures.end refl

pub returns-in_default-clause-faults : goal.returns-in_default-clause-faults
returns-in_default-clause-faults g c = faults-without c.without_memory.result.end _ c.without_memory.ensures.end

pub returns-in_default-clause-back : goal.returns-in_default-clause-back
returns-in_default-clause-back g c =
    back-without (Unit {0}) c.args.settings c.without_memory.result.core c.without_memory.result.end c.without_memory.ensures.core
    c.without_memory.ensures.end
