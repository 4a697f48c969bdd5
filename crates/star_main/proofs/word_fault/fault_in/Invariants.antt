use Rattle.std.proofs.Common.{◌≡◌, map, string_bytes}
use Rattle.star_main.specs.WordFault.{fault_of_words}
use Rattle.star_main.proofs.WordFaultLemmas.{fault_behind}
use Rattle.star_main.proofs.word_fault.fault_in.Given as goal

-- the words so far have no fault, and the first fault of the others decides
abbrev pub invariant-loop-place : goal.invariant-loop-place
invariant-loop-place l = fault_of_words (map string_bytes l.words) ≡ fault_behind l.words l.place l.waiting
