-- Which versions a query sees.
use Rattle.std.specs.Prelude.{ℕ, Bool, ◌&&◌, ◌||◌, ◌==◌, nat_lt, nat_le}

-- a version that one commit began, and that another ended or none (0), is seen at a snapshot: the
-- first had come by then, and the other had not
abbrev pub is_visible : (begin end snapshot : ℕ) → Bool
is_visible begin end snapshot = nat_le begin snapshot && (end == 0 || nat_lt snapshot end)
