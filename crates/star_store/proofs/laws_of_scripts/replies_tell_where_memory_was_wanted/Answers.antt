use Rattle.std.proofs.Common.{[]}
use Rattle.star_store.proofs.MemoryLemmas.{history-told, never-memory, places-wanted, replies-told}
use Rattle.star_store.proofs.laws_of_scripts.replies_tell_where_memory_was_wanted.Goals as goal

pub returns : goal.returns
returns c = record {
  never = never-memory;
  places = places-wanted;
  replies = replies-told;
  history = history-told;
  script = λ wanted statements. replies-told wanted 0 [] statements;
}
