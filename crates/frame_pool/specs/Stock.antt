-- What a pool is: how many frames it was made with, how long they are, and those that are in.
use Rattle.std.specs.Prelude.{◌≡◌, ℕ, ◌≤◌, List, length, All}

-- a pool
pub record Stock : Type 0 where
  pub made : ℕ
  pub words : ℕ
  pub inside : List (List ℕ)

-- no more frames are in than were made, and each has as many words as the pool's frames
abbrev pub IsStock : Stock → Type 0
IsStock stock =
    (length stock.inside ≤ stock.made) × All (λ frame. length frame ≡ stock.words) stock.inside
