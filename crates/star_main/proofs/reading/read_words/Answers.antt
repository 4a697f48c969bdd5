use Rattle.std.proofs.Common.{rules, ◌≡◌, ◌∙◌, sym, ap, subst, map, option_map, IfSome, string_bytes}
use Rattle.clap.specs.Matches.{found_of}
use Rattle.clap.specs.Simple.{app_of}
use Rattle.clap.specs.Walk.{rows_of}
use Rattle.star_main.specs.Ranges.{AreInRange}
use Rattle.star_main.specs.Rows.{app_with}
use Rattle.star_main.specs.Table.{option_names}
use Rattle.star_main.proofs.RangeLemmas.{settings_in_range}
use Rattle.star_main.proofs.SettingsLemmas.{are_words, no_settings, settings-none, settings-some}
use Rattle.star_main.proofs.reading.read_words.Goals as goal

pub returns-then-has_hyphens-clause-settings : goal.returns-then-has_hyphens-clause-settings
returns-then-has_hyphens-clause-settings c = no_settings c.args.words.now (sym c.has_hyphens.ensures ∙ c.if-has_hyphens.true)

pub returns-in_default-clause-settings : goal.returns-in_default-clause-settings
returns-in_default-clause-settings c =
    let names : map (λ name. name.now) c.as_slice.result.now ≡ option_names = search rules in
    settings-none (app_of c.in_ok-command.command) (c.in_ok-command.ensures ∙ ap app_with names) (map string_bytes c.args.words.now)
    (are_words c.args.words.now (sym c.has_hyphens.ensures ∙ c.if-has_hyphens.false))
    (sym (ap (option_map (λ matches. rows_of (found_of matches))) c.in_default.is) ∙ c.in_ok-matches.ensures)

pub returns-clause-settings : goal.returns-clause-settings
returns-clause-settings c =
    let names : map (λ name. name.now) c.as_slice.result.now ≡ option_names = search rules in
    c.settings_by.ensures
    ∙ settings-some (app_of c.in_ok-command.command) (c.in_ok-command.ensures ∙ ap app_with names) (map string_bytes c.args.words.now)
    (are_words c.args.words.now (sym c.has_hyphens.ensures ∙ c.if-has_hyphens.false)) (found_of c.in-Some.matches)
    (sym (ap (option_map (λ matches. rows_of (found_of matches))) c.in-Some.is) ∙ c.in_ok-matches.ensures)

pub returns-clause-range : goal.returns-clause-range
returns-clause-range c = subst (λ settings. IfSome settings AreInRange) (sym c.settings_by.ensures) (settings_in_range _)
