-- What stands between a source and a sink at each end of a run, whatever the text of its replies is.
use Rattle.script_run.proofs.Words.{◌+◌, ◌≡◌, ◌≤◌, Appends, arith, Bool, Consumes, end_of_all, end_of_halt, false, Halt, HasEnded, inl, inr, IsFront, IsProperFront, length, List, NoMemory, SCRIPT_LIMIT, true, within_limit, WriteFault, ℕ}
use Rattle.star_io.specs.Link.{ReadingSide, WritingSide}
use Rattle.star_io.specs.declared.run_end.RunEnd.TheVariants as end
use Rattle.script_run.specs.Run.{MetNoEnd, RepliesBetween, TellsRefused}

module _ (text : (ended : Bool) → List ℕ → List ℕ) (from from' : ReadingSide) (to to' : WritingSide) (given written : List ℕ) where
  -- all was read, and all replies were written
  pub all-between : (refused : Bool) → Consumes from.left from'.left given → Appends to.taken to'.taken written → length given ≤ SCRIPT_LIMIT
      → HasEnded from' → written ≡ text true given → RepliesBetween text (end_of_all refused) from from' to to' given written
  all-between false gave took few has_ended all =
      record { gave = gave; took = took; reads = few; writes = (has_ended, all); memory = λ h. cc }
  all-between true gave took few has_ended all =
      record { gave = gave; took = took; reads = few; writes = (has_ended, all); memory = λ h. cc }

  -- a read failed, and all replies were written to what came before
  pub fault-between : Consumes from.left from'.left given → Appends to.taken to'.taken written → length given ≤ SCRIPT_LIMIT
      → written ≡ text false given → RepliesBetween text end.ReadFault from from' to to' given written
  fault-between gave took few all =
      record { gave = gave; took = took; reads = few; writes = all; memory = λ h. cc }

  -- the byte past the limit came
  pub limit-between : Consumes from.left from'.left given → Appends to.taken to'.taken written → length given ≡ SCRIPT_LIMIT + 1
      → written ≡ text false (within_limit given) → RepliesBetween text end.ScriptLimit from from' to to' given written
  limit-between gave took past all =
      record { gave = gave; took = took; reads = past; writes = all; memory = λ h. cc }

  -- the replies halted, and a proper front of them was written
  pub part-between : (halt : Halt) → Consumes from.left from'.left given → Appends to.taken to'.taken written → length given ≤ SCRIPT_LIMIT + 1
      → IsProperFront written (text from'.ended (within_limit given)) → RepliesBetween text (end_of_halt halt) from from' to to' given written
  part-between WriteFault gave took few part =
      record { gave = gave; took = took; reads = few; writes = part; memory = λ h. cc }
  part-between NoMemory gave took few part =
      record { gave = gave; took = took; reads = few; writes = (part.0, part.2); memory = λ h. inl part }

  -- no memory was left before the reading met an end, and a front of the replies was written
  pub front-between : Consumes from.left from'.left given → Appends to.taken to'.taken written → MetNoEnd from from' given
      → IsFront written (text from'.ended (within_limit given)) → RepliesBetween text end.NoMemory from from' to to' given written
  front-between gave took met front = record {
    gave = gave;
    took = took;
    reads = let few = met.2 in omega arith;
    writes = front;
    memory = λ h. inr met;
  }

-- where all was read and written, the end tells whether some reply is a refusal
pub refused-all : (test refused : Bool) → refused ≡ test → TellsRefused (end_of_all test) refused
refused-all false refused is = is
refused-all true refused is = is

-- where the replies halted it does not
pub refused-halted : (halt : Halt) (refused : Bool) → TellsRefused (end_of_halt halt) refused
refused-halted WriteFault refused = tt
refused-halted NoMemory refused = tt
