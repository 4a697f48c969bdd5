use Rattle.std.proofs.Common.{refl, subst, sym}
use Rattle.star_main.specs.HandedBack.{core_in}
use Rattle.star_main.specs.Modes.{RunsSource, run_settings_of}
use Rattle.star_main.proofs.ByModeLemmas.{answers-named, answers-unread, by-alone, faulty-named, run-status}
use Rattle.star_main.proofs.CompleteLemmas.{complete-made, complete-named, complete-script}
use Rattle.star_main.proofs.top.run_words.Goals as goal

pub returns-in-Run-eq0-clause-complete : goal.returns-in-Run-eq0-clause-complete
returns-in-Run-eq0-clause-complete g c =
    let settings = c.in-Ok-Some.settings in
    let named = sym (rw c.in-Ok-Some.field-0-is at c.in-Ok-Some.ensures.settings) in
    complete-named _ settings c.run_shared.result.status _ _ _ _ _ _ _ named refl refl
    (complete-script settings (run_settings_of settings) (core_in c.run_shared.result.handed) c.run_shared.result.status _ _ _ _ _
    (subst RunsSource (sym c.in-Run-eq0.is-0) tt) c.run_shared.ensures.answers.headline c.run_shared.ensures.causes)

pub returns-in-Alone-default-clause-faulty : goal.returns-in-Alone-default-clause-faulty
returns-in-Alone-default-clause-faulty g c =
    let settings = c.in-Ok-Some.settings in
    let named = sym (rw c.in-Ok-Some.field-0-is at c.in-Ok-Some.ensures.settings) in
    faulty-named _ settings named c.run_each_alone.result _
    (run-status settings c.run_each_alone.result _ _ _ _ (c.run_each_alone.ensures.answers settings).headline)

pub returns-in-Alone-default-clause-answers : goal.returns-in-Alone-default-clause-answers
returns-in-Alone-default-clause-answers g c door =
    let settings = c.in-Ok-Some.settings in
    let named = sym (rw c.in-Ok-Some.field-0-is at c.in-Ok-Some.ensures.settings) in
    answers-named _ settings named c.run_each_alone.result _ _ _
    (by-alone settings c.run_each_alone.result _ _ _ c.in-Alone-default.is-0 (c.run_each_alone.ensures.answers settings) tt)

pub returns-in-Alone-default-clause-complete : goal.returns-in-Alone-default-clause-complete
returns-in-Alone-default-clause-complete g c =
    let settings = c.in-Ok-Some.settings in
    let named = sym (rw c.in-Ok-Some.field-0-is at c.in-Ok-Some.ensures.settings) in
    complete-named _ settings c.run_each_alone.result.status _ _ _ _ _ _ _ named refl refl
    (complete-script settings (run_settings_of settings) (core_in c.run_each_alone.result.handed) c.run_each_alone.result.status _ _ _ _ _
    (subst RunsSource (sym c.in-Alone-default.is-0) tt) (c.run_each_alone.ensures.answers settings).headline c.run_each_alone.ensures.causes)

pub returns-in-Make-eq0-clause-complete : goal.returns-in-Make-eq0-clause-complete
returns-in-Make-eq0-clause-complete g c =
    let settings = c.in-Ok-Some.settings in
    let named = sym (rw c.in-Ok-Some.field-0-is at c.in-Ok-Some.ensures.settings) in
    complete-named _ settings c.make_shared.result.status _ _ _ _ _ _ _ named refl refl
    (complete-made settings (run_settings_of settings) (core_in c.make_shared.result.handed) c.make_shared.result.status _ _ _ _ _
    c.in-Make-eq0.is-0 c.make_shared.ensures.answers.made (c.make_shared.ensures.causes _))

pub returns-in-Err-clause-answers : goal.returns-in-Err-clause-answers
returns-in-Err-clause-answers g c door =
    answers-unread c.with_nothing-in-Err.result c.with_nothing-in-Err.ensures.status c.with_nothing-in-Err.ensures.nothing _ _ _ refl refl tt
