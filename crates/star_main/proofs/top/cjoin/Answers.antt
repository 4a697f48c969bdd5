use Rattle.std.proofs.Common.{ap, refl, subst, sym}
use Rattle.star_main.specs.HandedBack.{core_in}
use Rattle.star_main.specs.Modes.{RunsSource, run_settings_of}
use Rattle.star_main.proofs.ByModeLemmas.{answers-doorless, headline-answers}
use Rattle.star_main.proofs.CompleteLemmas.{complete-made, complete-named, complete-script}
use Rattle.star_main.proofs.top.cjoin.Goals as goal

pub returns-in-Ran-clause-headline : goal.returns-in-Ran-clause-headline
returns-in-Ran-clause-headline g c =
    headline-answers _ c.in-Ran.done _ _ _ (c.in-Ran.ensures.answers (g.D.Door.accepting c.args.door.now))

pub returns-in-Ran-clause-answers : goal.returns-in-Ran-clause-answers
returns-in-Ran-clause-answers g c =
    answers-doorless _ _ _ refl _ c.in-Ran.done _ _ (c.in-Ran.ensures.answers (g.D.Door.accepting c.args.door.now))

pub returns-in-RunWithWorkers-clause-complete : goal.returns-in-RunWithWorkers-clause-complete
returns-in-RunWithWorkers-clause-complete g c =
    let settings = c.in-RunWithWorkers.settings in
    let left = c.in-RunWithWorkers.ensures.left in
    let done = c.run_with_workers.result in
    complete-named _ settings done.status _ _ _ _ _ _ _ left.0.0 (ap (λ s. g.S.Source.reading s) left.0.2)
    (ap (λ s. g.K.Sink.writing s) left.0.3)
    (complete-script settings (run_settings_of settings) (core_in done.handed) done.status _ _ _ _ _ (subst RunsSource (sym left.1.0) tt)
    c.run_with_workers.ensures.answers.headline c.run_with_workers.ensures.causes)

pub returns-in-MakeWithWorkers-clause-complete : goal.returns-in-MakeWithWorkers-clause-complete
returns-in-MakeWithWorkers-clause-complete g c =
    let settings = c.in-MakeWithWorkers.settings in
    let left = c.in-MakeWithWorkers.ensures.left in
    let done = c.make_with_workers.result in
    complete-named _ settings done.status _ _ _ _ _ _ _ left.0.0 (ap (λ s. g.S.Source.reading s) left.0.2)
    (ap (λ s. g.K.Sink.writing s) left.0.3)
    (complete-made settings (run_settings_of settings) (core_in done.handed) done.status _ _ _ _ _ left.1.0
    c.make_with_workers.ensures.answers.made (c.make_with_workers.ensures.causes _))
