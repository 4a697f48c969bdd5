-- Words that are met with one word by lanes of eight.
use Rattle.std.proofs.Common.{◌≡◌, ℕ, ◌+◌, ◌-◌, ◌<◌, ◌≤◌, List, length, get_or, replicate, ap, ◌∙◌, arith}
use Rattle.std.specs.Simd.Lanes.{zip2, chunk, put_chunk}
use Rattle.std.proofs.lemmas.Simd.{length-zip2, length-chunk, get_or-put_chunk_at, get_or-put_chunk_below, get_or-put_chunk_above, get_or-zip2, get_or-chunk, get_or-replicate}

-- how many words the lanes write
lanes_are_eight : (f : ℕ → ℕ → ℕ) (words : List ℕ) (at word : ℕ) → at + 8 ≤ length words
    → length (zip2 f (chunk at 8 words) (replicate 8 word)) ≡ 8
lanes_are_eight f words at word room =
    let eight = length-chunk at 8 words room in
    length-zip2 f (chunk at 8 words) (replicate 8 word) eight ∙ eight

-- the words that the lanes were written over
pub word_in_lanes : (f : ℕ → ℕ → ℕ) (words : List ℕ) (at word j : ℕ) → at + 8 ≤ length words → at ≤ j → j < at + 8
    → get_or (put_chunk at words (zip2 f (chunk at 8 words) (replicate 8 word))) j 0 ≡ f (get_or words j 0) word
word_in_lanes f words at word j room from below =
    let eight = length-chunk at 8 words room in
    let written = lanes_are_eight f words at word room in
    let place : at + (j - at) ≡ j = omega arith in
    ap (λ n. get_or (put_chunk at words (zip2 f (chunk at 8 words) (replicate 8 word))) n 0) (omega arith)
    ∙ get_or-put_chunk_at at words (zip2 f (chunk at 8 words) (replicate 8 word)) (j - at) 0 (omega arith) (omega arith)
    ∙ get_or-zip2 f (chunk at 8 words) (replicate 8 word) (j - at) 0 0 0 (omega arith) (omega arith)
    ∙ ap (f (get_or (chunk at 8 words) (j - at) 0)) (get_or-replicate 8 (j - at) word 0 (omega arith))
    ∙ ap (λ n. f n word) (get_or-chunk at 8 words (j - at) 0 (omega arith) ∙ ap (λ n. get_or words n 0) place)

-- the words in front of them
pub word_before_lanes : (f : ℕ → ℕ → ℕ) (words : List ℕ) (at word j : ℕ) → j < at
    → get_or (put_chunk at words (zip2 f (chunk at 8 words) (replicate 8 word))) j 0 ≡ get_or words j 0
word_before_lanes f words at word j before = get_or-put_chunk_below at words _ j 0 before

-- the words behind them
pub word_behind_lanes : (f : ℕ → ℕ → ℕ) (words : List ℕ) (at word j : ℕ) → at + 8 ≤ length words → at + 8 ≤ j
    → get_or (put_chunk at words (zip2 f (chunk at 8 words) (replicate 8 word))) j 0 ≡ get_or words j 0
word_behind_lanes f words at word j room behind =
    let written = lanes_are_eight f words at word room in
    get_or-put_chunk_above at words _ j 0 (omega arith)
