use Rattle.std.proofs.Common.{◌∙◌, ap, sym}
use Rattle.script_reader.specs.Script.{statements_of}
use Rattle.star_store.specs.Memory.{memory_places}
use Rattle.star_store.specs.Script.{replies_of}
use Rattle.star_store.proofs.laws_of_scripts.the_text_tells_where_memory_was_wanted.Goals as goal

pub returns : goal.returns
returns c = λ wanted ended script replies short formed e.
    let statements = statements_of ended script in
    let same = c.texts_tell_their_replies.ensures.replies replies (replies_of wanted statements) formed
    (c.replies_are_well_formed.ensures.script wanted ended script short) e in
    same ∙ sym (c.replies_tell_where_memory_was_wanted.ensures.script wanted statements)
    ∙ ap (λ told. replies_of (memory_places told) statements) (sym same)
