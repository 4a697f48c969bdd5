use Rattle.std.proofs.Common.{◌∙◌, ◌%◌, ap, sym, arith, get_or, bit_and}
use Rattle.bit_words.specs.Words.{word_of}
use Rattle.bit_words.proofs.WordLemmas.{word_at}
use Rattle.bit_words.proofs.rows.and_all.Goals as goal

pub returns-then-this-eq1 : goal.returns-then-this-eq1
returns-then-this-eq1 g c =
    record {
      each_word = λ k within.
          c.and_lanes.ensures k within
          ∙ ap (λ n. bit_and (get_or c.args.rows.now k 0) (get_or c.vector.inside.words n 0)) (omega arith)
          ∙ ap (bit_and (get_or c.args.rows.now k 0))
          (sym (word_at c.vector.inside.words (k % g.row.W) c.vector.invariant.1) ∙ ap (λ s. word_of s (k % g.row.W)) c.vector.view_is);
    }

pub returns-else-this-eq1 : goal.returns-else-this-eq1
returns-else-this-eq1 g c =
    record {
      each_word = λ k within.
          c.and_words.ensures k within
          ∙ ap (λ n. bit_and (get_or c.args.rows.now k 0) (get_or c.vector.inside.words (k % n) 0)) c.vector.invariant.0
          ∙ ap (bit_and (get_or c.args.rows.now k 0))
          (sym (word_at c.vector.inside.words (k % g.row.W) c.vector.invariant.1) ∙ ap (λ s. word_of s (k % g.row.W)) c.vector.view_is);
    }
