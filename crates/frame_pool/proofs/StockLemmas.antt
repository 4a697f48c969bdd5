-- Frames as they are made.
use Rattle.std.proofs.Common.{◌≡◌, ℕ, ◌≤◌, ◌∙◌, List, length, replicate, get_or, ap, arith, All}
use Rattle.std.specs.List.{refill}
use Rattle.std.proofs.Math.ListN.{length-replicate}
use Rattle.std.proofs.lemmas.List.{get_or-replicate}

-- frames that are all made alike are no more than were made, and have one length
pub all_of_one_length : (n words : ℕ) (frames : List (List ℕ)) → frames ≡ replicate n (replicate words 0)
    → (length frames ≤ n) × All (λ frame. length frame ≡ words) frames
all_of_one_length n words frames same =
    let many : length frames ≡ n = ap length same ∙ length-replicate n (replicate words 0) in (
      omega arith,
      λ k d within.
          ap (λ fs. length (get_or fs k d)) same
          ∙ ap length (get_or-replicate n k (replicate words 0) d (omega arith))
          ∙ length-replicate words 0,
    )

-- what is written over a vector's front is written over the frame
pub written_over : (items frame words : List ℕ) (len : ℕ) → len ≡ length items → items ≡ frame
    → refill len items words ≡ refill (length frame) frame words
written_over items frame words len all view =
    ap (λ n. refill n items words) all ∙ ap (λ f. refill (length f) f words) view
