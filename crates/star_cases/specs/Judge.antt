-- When a run of a case is right: what it writes are the replies of the case,
-- and it ends as they say.
use Rattle.std.specs.Prelude.{ℕ, Bool, ◌||◌, ◌==◌, nat_eq, List, codes, bytes_eq, if◌then◌else◌}
use Rattle.std.specs.List.{list_any, starts_with, slice_split}
use Rattle.star_io.specs.declared.run_end.RunEnd.{RunEnd}
use Rattle.star_io.specs.declared.run_end.RunEnd.TheVariants.{Clean, SomeRefused}

-- a line of replies is a refusal, or tells that a statement found no memory
unfoldable pub is_refusal : List ℕ → Bool
is_refusal line = starts_with nat_eq line (codes "refused ") || bytes_eq line (codes "memory")

-- some line is one, where the replies are cut at their line feeds
abbrev pub has_refusal : List ℕ → Bool
has_refusal replies = list_any is_refusal (slice_split (λ byte. byte == 10) replies)

-- a run ends so that writes these replies to a whole script
abbrev pub wanted_end : List ℕ → RunEnd
wanted_end replies = if has_refusal replies then SomeRefused else Clean
