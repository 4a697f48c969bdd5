use Rattle.std.proofs.Common.{◌∙◌, ℕ, Bool, List, [], ap, length, sym}
use Rattle.std.specs.Prelude.{◌≤◌}
use Rattle.script_reader.specs.Script.{statements_of}
use Rattle.script_reader.specs.declared.reader.TheConstants.{SCRIPT_LIMIT}
use Rattle.star_store.specs.Memory.{HaveSameText, memory_places}
use Rattle.star_store.specs.Script.{history_of, replies_of}
use Rattle.star_store.proofs.ScriptLemmas.{same-texts}
use Rattle.star_store.proofs.laws_of_scripts.texts_tell_their_replies.Goals as goal

pub returns : goal.returns
returns c =
    let formed = c.replies_are_well_formed.ensures.script in
    let tells = c.replies_tell_where_memory_was_wanted.ensures in
    let same = λ (wanted other : List ℕ) (ended : Bool) (script : List ℕ) (short : length script ≤ SCRIPT_LIMIT)
    (e : HaveSameText wanted other (statements_of ended script)).
    same-texts c.replies_have_one_spelling.ensures (replies_of wanted (statements_of ended script)) (replies_of other (statements_of ended script))
    (formed wanted ended script short) (formed other ended script short) e in record {
      replies = same-texts c.replies_have_one_spelling.ensures;
      places = λ wanted other ended script short e.
          let statements = statements_of ended script in
          sym (tells.places wanted 0 [] statements) ∙ ap memory_places (same wanted other ended script short e) ∙ tells.places other 0 [] statements;
      history = λ wanted other ended script short e.
          let statements = statements_of ended script in
          sym (tells.history wanted 0 [] statements) ∙ ap (λ replies. history_of (memory_places replies) statements) (same wanted other ended script short e)
          ∙ tells.history other 0 [] statements;
    }
