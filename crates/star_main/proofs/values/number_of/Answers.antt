use Rattle.std.proofs.Common.{◌≡◌, ap, sym, true, ◌∙◌}
use Rattle.star_main.specs.Values.{is_number}
use Rattle.std.specs.Result.{result_ok}
use Rattle.star_main.proofs.ValueLemmas.{number_read, number_is}
use Rattle.star_main.proofs.values.number_of.Goals as goal

pub returns-then-is_number : goal.returns-then-is_number
returns-then-is_number c =
    let test : is_number c.args.text.now ≡ true = ap is_number (sym c.as_bytes.ensures.value) ∙ (sym c.is_number.ensures ∙ c.if-is_number.true) in
    c.ok.ensures.value ∙ ap result_ok (number_read c.args.text.now c.parse.result c.parse.ensures.value.0 test) ∙ number_is c.args.text.now test
