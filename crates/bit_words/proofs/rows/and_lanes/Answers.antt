use Rattle.std.proofs.Common.{◌+◌, ◌*◌, ◌/◌, ◌≤◌, length, bit_and, ap, ◌∙◌, inl, inr, arith}
use Rattle.std.proofs.lemmas.Bool.{cases_lt}
use Rattle.bit_words.proofs.LaneLemmas.{word_in_lanes, word_before_lanes, word_behind_lanes}
use Rattle.bit_words.proofs.rows.and_lanes.Goals as goal

pub loop-n-preserved : goal.loop-n-preserved
loop-n-preserved c =
    let room : 8 * c.loop-n.n + 8 ≤ length c.loop-n.words = omega arith in (
      λ j low. elim (cases_lt j (8 * c.loop-n.n)) [
        | inl before ↦ word_before_lanes bit_and c.loop-n.words (8 * c.loop-n.n) c.args.word j before ∙ c.loop-n.invariant.0 j before
        | inr from ↦
            word_in_lanes bit_and c.loop-n.words (8 * c.loop-n.n) c.args.word j room (omega arith) (omega arith)
            ∙ ap (λ n. bit_and n c.args.word) (c.loop-n.invariant.1 j (omega arith))
      ],
      λ j behind.
          word_behind_lanes bit_and c.loop-n.words (8 * c.loop-n.n) c.args.word j room (omega arith)
          ∙ c.loop-n.invariant.1 j (omega arith),
    )

pub returns : goal.returns
returns c k within =
    elim (cases_lt k (length c.loop-n.words / 8 * 8)) [
      | inl low ↦ c.loop-k.invariant.1 k (omega arith) ∙ c.loop-n.invariant.0 k (omega arith)
      | inr high ↦
          c.loop-k.invariant.2 k (omega arith) (omega arith)
          ∙ ap (λ n. bit_and n c.args.word) (c.loop-n.invariant.1 k (omega arith))
    ]
