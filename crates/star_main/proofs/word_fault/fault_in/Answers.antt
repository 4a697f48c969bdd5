use Rattle.std.proofs.Common.{rules, ◌≡◌, ◌∙◌, Ok, Err, option_map, sym}
use Rattle.star_main.proofs.WordFaultLemmas.{fault_behind-end, fault_behind-word}
use Rattle.star_main.specs.declared.word_fault.WordFault.TheVariants.{NoValue}
use Rattle.star_main.proofs.word_fault.fault_in.Goals as goal

pub returns-in-Err : goal.returns-in-Err
returns-in-Err c =
    sym (c.loop-place.invariant
    ∙ fault_behind-word c.args.words.now c.loop-place.place c.loop-place.waiting c.index-words-place.result c.as_str.result.now (Err c.in-Err.fault) c.loop-place-test.true
    c.index-words-place.is c.as_str.ensures.value c.in-Err.ensures)

pub loop-place-preserved : goal.loop-place-preserved
loop-place-preserved c =
    c.loop-place.invariant
    ∙ fault_behind-word c.args.words.now c.loop-place.place c.loop-place.waiting c.index-words-place.result c.as_str.result.now (Ok c.in-Ok.next) c.loop-place-test.true
    c.index-words-place.is c.as_str.ensures.value c.in-Ok.ensures

pub returns : goal.returns
returns c =
    let last : c.map.result ≡ option_map (λ option. NoValue option) c.loop-place.waiting = search rules in
    last ∙ sym (c.loop-place.invariant ∙ fault_behind-end c.args.words.now c.loop-place.place c.loop-place.waiting c.loop-place-test.false)
