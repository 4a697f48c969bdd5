-- A run that replies to each statement at once, from what was read and written so far, and how it ends.
use Rattle.script_run.proofs.Words.{◌++◌, ◌+◌, ◌||◌, ◌∙◌, ◌≡◌, ◌≢◌, ◌≤◌, [], ap, append-nil, Appends, AreReplied, arith, Bool, Consumes, Consumes-nil, Consumes-trans, end_of_all, end_of_halt, false, fed_with, Halt, HaltsBehind, HasEnded, HasNoStatement, inr, is_refusal, IsProperFront, length, length-append, List, list_any, MayCome, NoMemory, Ok, Option, Reading, refl, Replies, replies_of, Reply, SCRIPT_LIMIT, script_replies, script_text, some_refused, Statement, statements_of, Store, subst, sym, text_of_all, true, WriteFault, ℕ}
use Rattle.star_io.specs.Link.{ReadingSide, WritingSide}
use Rattle.star_io.specs.declared.run_end.RunEnd.TheVariants as end
use Rattle.query_meaning.specs.Store.{empty_store}
use Rattle.script_run.specs.Front.{HaltsAt, LeavesToRead, ReadsBetween}
use Rattle.script_run.specs.Replied.{AnswersWhole}
use Rattle.script_run.specs.Run.{AnswersScript, MetNoEnd}
use Rattle.script_run.proofs.BetweenLemmas.{all-between, fault-between, front-between, limit-between, part-between, refused-all, refused-halted}
use Rattle.script_run.proofs.NextLemmas.{AreAfter, replied-after}
use Rattle.script_run.proofs.RunLemmas.{at_end, came, finished, within_all, within_more}
use Rattle.script_run.proofs.SharedReadLemmas.{reads-all}
use Rattle.script_run.proofs.SharedRunLemmas.{fed-reads}
use Rattle.script_run.proofs.SharedScriptLemmas.{IsCutShort, IsHalted, Sure, cut-short}
use Rattle.script_run.proofs.WholeLemmas.{follows, halts_behind, starts}

-- these bytes were given, and the statements that are whole were replied to
pub record IsRunning (store : Store) (waits : Reading) (refused : Bool) (left0 left taken0 taken : Option (List ℕ)) : Type 0 where
  pub given : List ℕ
  pub gave : Consumes left0 left given
  pub within : waits.fed ≤ SCRIPT_LIMIT
  pub way : Replies empty_store (came given) store waits refused taken0 taken

pub starts_run : (store : Store) (waits : Reading) (left taken : Option (List ℕ)) → store ≡ empty_store
    → waits ≡ record { waiting = []; fed = 0; ended = false } → IsRunning store waits false left left taken taken
starts_run store waits left taken is none = rw (is, none) (record {
  given = [];
  gave = Consumes-nil left;
  within = omega arith;
  way = starts empty_store (came []) taken;
})

-- every whole statement was replied to
pub answered_run : (store store' : Store) (waits waits' : Reading) (refused some : Bool) (left0 left taken0 taken taken' : Option (List ℕ))
    → IsRunning store waits refused left0 left taken0 taken → AnswersWhole (Ok some) store waits store' waits' taken taken'
    → IsRunning store' waits' (refused || some) left0 left taken0 taken'
answered_run store store' waits waits' refused some left0 left taken0 taken taken' run answers = record {
  given = run.given;
  gave = run.gave;
  within = subst (λ fed. fed ≤ SCRIPT_LIMIT) (sym answers.0.stays.0) run.within;
  way = follows empty_store store store' (came run.given) waits waits' refused some taken0 taken taken' run.way answers.0;
}

-- a piece more was fed
pub fed_run : (store : Store) (waits waits' : Reading) (refused : Bool) (left0 left left' taken0 taken : Option (List ℕ)) (piece : List ℕ)
    → IsRunning store waits refused left0 left taken0 taken → Consumes left left' piece → waits' ≡ fed_with waits piece
    → waits'.fed ≤ SCRIPT_LIMIT → IsRunning store waits' refused left0 left' taken0 taken
fed_run store waits waits' refused left0 left left' taken0 taken piece run gave is within = record {
  given = run.given ++ piece;
  gave = Consumes-trans left0 left left' run.given piece run.gave gave;
  within = within;
  way = rw is (record {
    statements = run.way.statements;
    reads = fed-reads run.given piece waits run.way.statements run.way.reads;
    stays = (ap (λ n. n + length piece) run.way.stays.0 ∙ sym (length-append run.given piece), run.way.stays.1);
    replies = run.way.replies;
    are = run.way.are;
    took = run.way.took;
    refusals = run.way.refusals;
  });
}

-- the input has ended
finished_way : (store : Store) (given : List ℕ) (waits : Reading) (refused : Bool) (taken0 taken : Option (List ℕ))
    → Replies empty_store (came given) store waits refused taken0 taken
    → Replies empty_store (finished (came given)) store (finished waits) refused taken0 taken
finished_way store given waits refused taken0 taken way = record {
  statements = way.statements;
  reads = λ more last comes. way.reads more last (λ e. cc);
  stays = (way.stays.0, refl);
  replies = way.replies;
  are = way.are;
  took = way.took;
  refusals = way.refusals;
}

-- as many bytes were given as the limit at most
few_given : (store : Store) (waits : Reading) (refused : Bool) (left0 left taken0 taken : Option (List ℕ))
    → (run : IsRunning store waits refused left0 left taken0 taken) → length run.given ≤ SCRIPT_LIMIT
few_given store waits refused left0 left taken0 taken run = subst (λ n. n ≤ SCRIPT_LIMIT) run.way.stays.0 run.within

-- All of a script was replied to.

-- the replies are those of the script, where memory was wanted at some places
whole_script : (store : Store) (first waits : Reading) (refused last : Bool) (taken0 taken : Option (List ℕ))
    → (way : Replies empty_store first store waits refused taken0 taken) → MayCome first [] last → statements_of last waits.waiting ≡ []
    → (wanted : List ℕ) × (way.replies ≡ script_replies wanted last first.waiting)
whole_script store first waits refused last taken0 taken way comes none =
    (places.wanted, places.are ∙ ap (replies_of places.wanted) (sym all))
  where
    all : statements_of last first.waiting ≡ way.statements
    all = reads-all first waits way.statements last way.reads comes ∙ ap (λ list. way.statements ++ list) none
        ∙ append-nil way.statements

    places : AreAfter 0 [] way.statements way.replies
    places = replied-after 0 [] empty_store store way.statements way.replies refl way.are

-- those of what came, where no statement is left that is whole
open_script : (store : Store) (waits : Reading) (refused : Bool) (left0 left taken0 taken : Option (List ℕ))
    → (run : IsRunning store waits refused left0 left taken0 taken) → HasNoStatement waits
    → (wanted : List ℕ) × (run.way.replies ≡ script_replies wanted false run.given)
open_script store waits refused left0 left taken0 taken run none =
    whole_script store (came run.given) waits refused false taken0 taken run.way (λ e. cc)
    (subst (λ ended. statements_of ended waits.waiting ≡ []) run.way.stays.1 none)

-- a read failed
pub fault_run : (store : Store) (waits : Reading) (refused : Bool) (from from' : ReadingSide) (left : Option (List ℕ))
    (to to' : WritingSide) (piece : List ℕ) → IsRunning store waits refused from.left left to.taken to'.taken → HasNoStatement waits
    → Consumes left from'.left piece → piece ≡ [] → AnswersScript end.ReadFault from from' to to'
fault_run store waits refused from from' left to to' piece run none gave nothing =
    let found = open_script store waits refused from.left left to.taken to'.taken run none in record {
      given = run.given;
      written = text_of_all run.way.replies;
      wanted = found.0;
      replies = fault-between (script_text found.0) from from' to to' run.given (text_of_all run.way.replies)
          (rw (append-nil run.given) at (Consumes-trans from.left left from'.left run.given [] run.gave (rw nothing at gave))) run.way.took
          (few_given store waits refused from.left left to.taken to'.taken run) (ap text_of_all found.1);
      refused = tt;
    }

-- the byte past the limit came
pub limit_run : (store : Store) (waits : Reading) (refused : Bool) (from from' : ReadingSide) (left : Option (List ℕ))
    (to to' : WritingSide) (piece : List ℕ) → IsRunning store waits refused from.left left to.taken to'.taken → HasNoStatement waits
    → Consumes left from'.left piece → waits.fed ≡ SCRIPT_LIMIT → length piece ≡ 1 → AnswersScript end.ScriptLimit from from' to to'
limit_run store waits refused from from' left to to' piece run none gave full one =
    let counted = run.way.stays.0 in
    let found = open_script store waits refused from.left left to.taken to'.taken run none in record {
      given = run.given ++ piece;
      written = text_of_all run.way.replies;
      wanted = found.0;
      replies = limit-between (script_text found.0) from from' to to' (run.given ++ piece) (text_of_all run.way.replies)
          (Consumes-trans from.left left from'.left run.given piece run.gave gave) run.way.took
          (omega (arith, length-append run.given piece))
          (ap text_of_all found.1 ∙ ap (script_text found.0 false) (sym (within_more run.given piece (omega arith))));
      refused = tt;
    }

-- The replies halt.

-- what was written is a front of the text of the script's replies, and a proper one where a write failed or a statement is left
halted_script : (halt : Halt) (statements others : List Statement) (replies : List Reply) (tables : Store) (written : List ℕ)
    (Left : Type 0) (last : Bool) (script : List ℕ) → AreReplied empty_store statements replies tables → HaltsAt halt written replies Left
    → statements_of last script ≡ statements ++ others → IsHalted halt written last script (Left → others ≢ [])
halted_script halt statements others replies tables written Left last script are ends all =
    record { wanted = places.wanted; front = short.front; part = short.part }
  where
    places : AreAfter 0 [] statements replies
    places = replied-after 0 [] empty_store tables statements replies refl are

    short : IsCutShort halt places.wanted written (statements_of last script) (Left → others ≢ [])
    short = cut-short halt places.wanted written replies statements others (statements_of last script) Left places.are all ends

-- before the reading met an end, for want of memory
front_run : (from from' : ReadingSide) (to to' : WritingSide) (statements : List Statement) (replies : List Reply) (tables : Store)
    (behind : Reading) (Left : Type 0) (given written : List ℕ) → ReadsBetween (came given) statements behind
    → AreReplied empty_store statements replies tables → HaltsAt NoMemory written replies Left → Consumes from.left from'.left given
    → Appends to.taken to'.taken written → MetNoEnd from from' given → AnswersScript end.NoMemory from from' to to'
front_run from from' to to' statements replies tables behind Left given written reads are ends gave took met =
    let found = halted_script NoMemory statements (statements_of from'.ended behind.waiting) replies tables written Left from'.ended given
    are ends (reads-all (came given) behind statements from'.ended reads (λ e. cc)) in record {
      given = given;
      written = written;
      wanted = found.wanted;
      replies = front-between (script_text found.wanted) from from' to to' given written gave took met
          (rw (within_all given met.2) found.front);
      refused = tt;
    }

-- where a proper front was written
part_run : (halt : Halt) (from from' : ReadingSide) (to to' : WritingSide) (given written wanted : List ℕ)
    → Consumes from.left from'.left given → Appends to.taken to'.taken written → length given ≤ SCRIPT_LIMIT
    → IsProperFront written (script_text wanted from'.ended given) → AnswersScript (end_of_halt halt) from from' to to'
part_run halt from from' to to' given written wanted gave took few part = record {
  given = given;
  written = written;
  wanted = wanted;
  replies = part-between (script_text wanted) from from' to to' given written halt gave took (omega (arith, few))
      (rw (within_all given few) part);
  refused = refused-halted halt (some_refused wanted true given);
}

-- no memory was left for a piece
pub unfed_run : (store : Store) (waits : Reading) (refused : Bool) (from from' : ReadingSide) (left : Option (List ℕ))
    (to to' : WritingSide) (piece : List ℕ) → IsRunning store waits refused from.left left to.taken to'.taken
    → Consumes left from'.left piece → waits.fed + length piece ≤ SCRIPT_LIMIT → from'.ended ≡ from.ended → from'.faults ≡ from.faults
    → AnswersScript end.NoMemory from from' to to'
unfed_run store waits refused from from' left to to' piece run gave few same unfailed =
    let fed = fed_run store waits (fed_with waits piece) refused from.left left from'.left to.taken to'.taken piece run gave refl few in
    front_run from from' to to' fed.way.statements fed.way.replies store (fed_with waits piece) (Unit {0}) fed.given
    (text_of_all fed.way.replies) fed.way.reads fed.way.are
    (([], sym (append-nil (text_of_all fed.way.replies))), inr tt) fed.gave fed.way.took
    (same, unfailed, few_given store (fed_with waits piece) refused from.left from'.left to.taken to'.taken fed)

-- the replies halt before the input has ended
pub halted_run : (halt : Halt) (store : Store) (waits : Reading) (refused : Bool) (from from' : ReadingSide) (to : WritingSide)
    (taken : Option (List ℕ)) (to' : WritingSide) → IsRunning store waits refused from.left from'.left to.taken taken
    → HaltsBehind halt store waits taken to'.taken → from'.ended ≡ from.ended → from'.faults ≡ from.faults
    → AnswersScript (end_of_halt halt) from from' to to'
halted_run halt store waits refused from from' to taken to' run on same unfailed =
    by_halt halt (halts_behind halt empty_store store (came run.given) waits refused to.taken taken to'.taken run.way on)
  where
    few : length run.given ≤ SCRIPT_LIMIT
    few = few_given store waits refused from.left from'.left to.taken taken run

    by_halt : (why : Halt) → HaltsBehind why empty_store (came run.given) to.taken to'.taken
        → AnswersScript (end_of_halt why) from from' to to'
    by_halt NoMemory all =
        front_run from from' to to' all.statements all.replies all.tables all.behind (LeavesToRead all.behind) run.given all.written all.reads
        all.are all.ends run.gave all.took (same, unfailed, few)
    by_halt WriteFault all =
        let others = statements_of from'.ended all.behind.waiting in
        let found = halted_script WriteFault all.statements others all.replies all.tables all.written (LeavesToRead all.behind) from'.ended
        run.given all.are all.ends (reads-all (came run.given) all.behind all.statements from'.ended all.reads (λ e. cc)) in
        part_run WriteFault from from' to to' run.given all.written found.wanted run.gave all.took few (found.part tt)

-- The end of the input.

pub ended_run : (store store' : Store) (waits waits' : Reading) (refused some : Bool) (from from' : ReadingSide)
    (left : Option (List ℕ)) (to : WritingSide) (taken : Option (List ℕ)) (to' : WritingSide) (piece : List ℕ)
    → IsRunning store waits refused from.left left to.taken taken → Consumes left from'.left piece → piece ≡ [] → HasEnded from'
    → AnswersWhole (Ok some) store (finished waits) store' waits' taken to'.taken
    → AnswersScript (end_of_all (refused || some)) from from' to to'
ended_run store store' waits waits' refused some from from' left to taken to' piece run gave nothing has_ended answers = record {
  given = run.given;
  written = text_of_all way.replies;
  wanted = found.0;
  replies = all-between (script_text found.0) from from' to to' run.given (text_of_all way.replies) (refused || some)
      (rw (append-nil run.given) at (Consumes-trans from.left left from'.left run.given [] run.gave (rw nothing at gave))) way.took
      (few_given store waits refused from.left left to.taken taken run) has_ended (ap text_of_all found.1);
  refused = refused-all (refused || some) (some_refused found.0 true run.given)
      (ap (list_any is_refusal) (sym found.1) ∙ sym way.refusals);
}
  where
    way : Replies empty_store (finished (came run.given)) store' waits' (refused || some) to.taken to'.taken
    way = follows empty_store store store' (finished (came run.given)) (finished waits) waits' refused some to.taken taken to'.taken
        (finished_way store run.given waits refused to.taken taken run.way) answers.0

    found : (wanted : List ℕ) × (way.replies ≡ script_replies wanted true run.given)
    found = whole_script store' (finished (came run.given)) waits' (refused || some) true to.taken to'.taken way (at_end (came run.given))
        (subst (λ ended. statements_of ended waits'.waiting ≡ []) way.stays.1 answers.1)

-- the replies halt behind the end of the input
pub ended_halted : (halt : Halt) (store : Store) (waits : Reading) (refused : Bool) (from from' : ReadingSide)
    (left : Option (List ℕ)) (to : WritingSide) (taken : Option (List ℕ)) (to' : WritingSide) (piece : List ℕ)
    → IsRunning store waits refused from.left left to.taken taken → Consumes left from'.left piece → piece ≡ [] → HasEnded from'
    → HaltsBehind halt store (finished waits) taken to'.taken → AnswersScript (end_of_halt halt) from from' to to'
ended_halted halt store waits refused from from' left to taken to' piece run gave nothing has_ended on =
    part_run halt from from' to to' run.given all.written found.wanted
    (rw (append-nil run.given) at (Consumes-trans from.left left from'.left run.given [] run.gave (rw nothing at gave))) all.took
    (few_given store waits refused from.left left to.taken taken run) (found.part (known halt))
  where
    all : HaltsBehind halt empty_store (finished (came run.given)) to.taken to'.taken
    all = halts_behind halt empty_store store (finished (came run.given)) (finished waits) refused to.taken taken to'.taken
        (finished_way store run.given waits refused to.taken taken run.way) on

    others : List Statement
    others = statements_of from'.ended all.behind.waiting

    found : IsHalted halt all.written from'.ended run.given (LeavesToRead all.behind → others ≢ [])
    found = halted_script halt all.statements others all.replies all.tables all.written (LeavesToRead all.behind) from'.ended run.given
        all.are all.ends (reads-all (finished (came run.given)) all.behind all.statements from'.ended all.reads (λ e. (refl, has_ended.0)))

    known : (why : Halt) → Sure why (LeavesToRead all.behind → others ≢ [])
    known WriteFault = tt
    known NoMemory = λ leaves. subst (λ ended. statements_of ended all.behind.waiting ≢ []) (sym has_ended.0) (leaves all.stays.1)
