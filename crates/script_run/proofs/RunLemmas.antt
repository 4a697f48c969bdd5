-- A script as far as it came, the end of its input, the bytes within the limit, and the faults of a run.
use Rattle.script_run.proofs.Words.{◌++◌, ◌∙◌, ◌≡◌, ◌≤◌, [], arith, Bool, end_of_all, end_of_halt, Err, false, Halt, inl, length, List, MayCome, NoMemory, Ok, Reading, refl, Result, SCRIPT_LIMIT, subst, true, within_limit, WriteFault, ℕ}
use Rattle.std.proofs.lemmas.List.{take_all, take-append-le}
use Rattle.star_io.specs.Faults.{FailedOnce}
use Rattle.star_io.specs.Link.{ReadingSide, WritingSide}
use Rattle.script_run.specs.Answer.{CountsHalt}
use Rattle.script_run.specs.Run.{CountsFaults}

-- a script of which these bytes came, and whose input has not ended
abbrev pub came : List ℕ → Reading
came given = record { waiting = given; fed = length given; ended = false }

-- The bytes within the limit.

pub within_all : (given : List ℕ) → length given ≤ SCRIPT_LIMIT → within_limit given ≡ given
within_all given few = take_all SCRIPT_LIMIT given few

pub within_more : (given piece : List ℕ) → length given ≡ SCRIPT_LIMIT → within_limit (given ++ piece) ≡ given
within_more given piece full =
    let fits : SCRIPT_LIMIT ≤ length given = omega arith in
    take-append-le SCRIPT_LIMIT given piece fits ∙ take_all SCRIPT_LIMIT given (omega arith)

-- The end of the input.

-- a reader whose input has ended
abbrev pub finished : Reading → Reading
finished waits = record waits { ended = true }

-- what may come at the end
pub at_end : (waits : Reading) → MayCome (finished waits) [] true
at_end waits e = (refl, refl)

-- The faults that came.

-- no write failed before
pub counts-behind : (result : Result Bool Halt) (to0 to to' : WritingSide) → to.faults ≡ to0.faults → CountsHalt result to to'
    → CountsHalt result to0 to'
counts-behind (Ok refused) to0 to to' same counts = counts ∙ same
counts-behind (Err WriteFault) to0 to to' same counts = subst (λ (n : ℕ). FailedOnce n to'.faults to'.failed) same counts
counts-behind (Err NoMemory) to0 to to' same counts = counts ∙ same

pub counts_halted : (halt : Halt) (from from' : ReadingSide) (to between to' : WritingSide) → from'.faults ≡ from.faults
    → between.faults ≡ to.faults → CountsHalt {A = Bool} (Err halt) between to' → CountsFaults (end_of_halt halt) from from' to to'
counts_halted WriteFault from from' to between to' unread unwritten h =
    (inl unread, subst (λ w. FailedOnce w to'.faults to'.failed) unwritten h)
counts_halted NoMemory from from' to between to' unread unwritten h = (inl unread, h ∙ unwritten)

pub counts_all : (refused : Bool) (from from' : ReadingSide) (to : WritingSide) (between : ℕ) (to' : WritingSide)
    → from'.faults ≡ from.faults → between ≡ to.faults → to'.faults ≡ between → CountsFaults (end_of_all refused) from from' to to'
counts_all false from from' to between to' unread unwritten h = (unread, h ∙ unwritten)
counts_all true from from' to between to' unread unwritten h = (unread, h ∙ unwritten)
