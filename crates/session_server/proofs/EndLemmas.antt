-- How a session ends.
use Rattle.std.proofs.Common.{◌≡◌, ◌≢◌, ◌⊎◌, ℕ, ◌+◌, ◌≤◌, true, false, List, [], ◌∷◌, ◌++◌, length, None, Option, Some, inl, inr, ⊎_elim, refl, sym, ap, subst, ◌∙◌, append-nil, length-append, arith}
use Rattle.std.specs.Io.KnownBytes.{Consumes}
use Rattle.std.specs.List.{list_any}
use Rattle.std.proofs.KnownBytes.{Consumes-trans}
use Rattle.star_io.specs.Link.{ReadingSide, WritingSide}
use Rattle.script_reader.specs.Reading.{Reading}
use Rattle.script_reader.specs.Script.{statements_of}
use Rattle.script_reader.specs.declared.reader.TheConstants.{SCRIPT_LIMIT}
use Rattle.script_reader.specs.declared.statement.Statement.{Statement}
use Rattle.reply_text.specs.Text.{text_of_all}
use Rattle.core_state.specs.Rows.{Sight, made_by}
use Rattle.core_state.specs.Sent.{Sent}
use Rattle.script_run.specs.Answer.{HasNoStatement}
use Rattle.script_run.specs.Front.{LeavesToRead, PlaysOn, ReadsBetween}
use Rattle.script_run.specs.Home.{LetsGo}
use Rattle.script_run.specs.Run.{HasEnded, MetNoEnd, ReadsBytes, Writes, is_refusal, within_limit}
use Rattle.script_run.specs.SeatFront.{SeatReads}
use Rattle.script_run.specs.declared.halt.Halt.{Halt}
use Rattle.script_run.specs.Shared.{EndsWhole, statements_by}
use Rattle.script_run.specs.declared.halt.Halt.TheVariants.{NoMemory, WriteFault}
use Rattle.script_run.proofs.RunLemmas.{at_end, came, finished, within_all, within_more}
use Rattle.script_run.proofs.SeatFrontLemmas.{seat-left}
use Rattle.script_run.proofs.SeatTellsLemmas.{tells-lets, tells-plays, tells-whole}
use Rattle.script_run.proofs.SharedReadLemmas.{reads-all, reads-then}
use Rattle.session_server.specs.Session.{AnswersSession, CountsSessionFaults, IsSessionComplete, end_of_halt, run_end_of}
use Rattle.session_server.specs.declared.session_end.SessionEnd.{SessionEnd}
use Rattle.session_server.specs.declared.session_end.SessionEnd.TheVariants as end
use Rattle.session_server.proofs.SessionLemmas.{IsServing, few-given, none-left, serving-err, serving-ok}

-- the same where another call changed nothing of it
pub answers-apart : (ends : SessionEnd) (seat : ℕ) (old new : Sight) (from between from' : ReadingSide) (to written to' : WritingSide)
    → from' ≡ between → to' ≡ written → AnswersSession ends seat old new from between to written
    → AnswersSession ends seat old new from from' to to'
answers-apart ends seat old new from between from' to written to' read wrote answers =
    subst (λ side. AnswersSession ends seat old new from side to to') (sym read)
    (subst (λ side. AnswersSession ends seat old new from between to side) (sym wrote) answers)

-- nothing more was given
gave-nothing : (left0 left left' : Option (List ℕ)) (given piece : List ℕ) → Consumes left0 left given → Consumes left left' piece
    → piece ≡ [] → Consumes left0 left' given
gave-nothing left0 left left' given piece first second nothing =
    subst (Consumes left0 left') (ap (λ list. given ++ list) nothing ∙ append-nil given)
    (Consumes-trans left0 left left' given piece first second)

-- What was read of the bytes that came.

-- the same where the input has ended
reads-ended : (given : List ℕ) (waits behind : Reading) (statements more : List Statement) → ReadsBetween (came given) statements waits
    → waits.fed ≡ length given → ReadsBetween (finished waits) more behind
    → statements_of true given ≡ (statements ++ more) ++ statements_of true behind.waiting
reads-ended given waits behind statements more first fed second =
    reads-all (finished (came given)) behind (statements ++ more) true
    (reads-then (finished (came given)) (finished waits) behind statements more (λ bytes last comes. first bytes last (λ e. cc)) (fed, refl)
    second)
    (at_end (came given))

-- The replies to all whole statements were written.

answers-whole : (ends : SessionEnd) (seat : ℕ) (old new : Sight) (from from' : ReadingSide) (to to' : WritingSide) (given : List ℕ)
    (statements left : List Statement) → Consumes from.left from'.left given → ReadsBytes (run_end_of ends) (length given)
    → (on : PlaysOn None seat old [] statements ⊥ new to.taken to'.taken) → on.still ≡ []
    → statements_by (run_end_of ends) from'.ended given ≡ statements ++ left → left ≡ []
    → Writes (λ ended bytes. text_of_all on.replies) (run_end_of ends) from' given on.written → ends ≢ end.Memory
    → AnswersSession ends seat old new from from' to to'
answers-whole ends seat old new from from' to to' given statements left gave count on still is nothing writes none = record {
  given = given;
  written = on.written;
  replies = on.replies;
  gave = gave;
  took = on.took;
  reads = count;
  tells = tells-plays None seat old new statements (statements_by (run_end_of ends) from'.ended given) left ⊥ to.taken to'.taken on is;
  whole = λ ended. tells-whole seat old new statements (statements_by (run_end_of ends) from'.ended given) left ⊥ to.taken to'.taken on is still nothing;
  writes = writes;
  memory = λ same. absurd (none same);
}

-- a read failed
pub fault-ends : (seat : ℕ) (old now : Sight) (waits : Reading) (from from' : ReadingSide) (left : Option (List ℕ)) (to to' : WritingSide)
    (piece : List ℕ) → IsServing seat old now waits from.left left to.taken to'.taken → HasNoStatement waits
    → Consumes left from'.left piece → piece ≡ [] → AnswersSession end.ReadFault seat old now from from' to to'
fault-ends seat old now waits from from' left to to' piece run none gave nothing =
    answers-whole end.ReadFault seat old now from from' to to' run.given run.statements (statements_of false waits.waiting)
    (gave-nothing from.left left from'.left run.given piece run.gave gave nothing)
    (few-given seat old now waits from.left left to.taken to'.taken run) run.on run.still
    (reads-all (came run.given) waits run.statements false run.reads (λ e. cc)) (none-left false waits none run.stays.1) run.on.ends.1
    (λ same. cc)

-- the byte past the limit came
pub limit-ends : (seat : ℕ) (old now : Sight) (waits : Reading) (from from' : ReadingSide) (left : Option (List ℕ)) (to to' : WritingSide)
    (piece : List ℕ) → IsServing seat old now waits from.left left to.taken to'.taken → HasNoStatement waits
    → Consumes left from'.left piece → waits.fed ≡ SCRIPT_LIMIT → length piece ≡ 1
    → AnswersSession end.Limit seat old now from from' to to'
limit-ends seat old now waits from from' left to to' piece run none gave full one =
    let all : length run.given ≡ SCRIPT_LIMIT = sym run.stays.0 ∙ full in
    answers-whole end.Limit seat old now from from' to to' (run.given ++ piece) run.statements (statements_of false waits.waiting)
    (Consumes-trans from.left left from'.left run.given piece run.gave gave) (omega (arith, all, one, length-append run.given piece))
    run.on run.still
    (ap (statements_of false) (within_more run.given piece all) ∙ reads-all (came run.given) waits run.statements false run.reads (λ e. cc))
    (none-left false waits none run.stays.1) run.on.ends.1 (λ same. cc)

-- the input has ended
pub done-ends : (seat : ℕ) (old now new : Sight) (waits waits' : Reading) (from from' : ReadingSide) (left : Option (List ℕ))
    (to : WritingSide) (taken : Option (List ℕ)) (to' : WritingSide) (piece : List ℕ)
    → IsServing seat old now waits from.left left to.taken taken → Consumes left from'.left piece → piece ≡ [] → HasEnded from'
    → SeatReads None seat now [] (finished waits) new waits' taken to'.taken → new.row.pending ≡ []
    → AnswersSession end.Done seat old new from from' to to'
done-ends seat old now new waits waits' from from' left to taken to' piece run gave nothing has_ended reads idle =
    let plays = serving-ok seat old now new waits (finished waits) waits' from.left left to.taken taken to'.taken run reads idle in
    let none : HasNoStatement reads.behind = subst HasNoStatement (sym reads.all.0) reads.all.1 in
    answers-whole end.Done seat old new from from' to to' run.given (run.statements ++ reads.statements)
    (statements_of true reads.behind.waiting)
    (gave-nothing from.left left from'.left run.given piece run.gave gave nothing)
    (few-given seat old now waits from.left left to.taken taken run) plays.0 plays.1
    (reads-ended run.given waits reads.behind run.statements reads.statements run.reads run.stays.0 reads.reads)
    (none-left true reads.behind none reads.stays.1) (has_ended, plays.0.ends.1) (λ same. cc)

-- The session was cut short.

-- a list is empty where it begins another that is, and where it ends one
front-none : {A : Type 0} (front back : List A) → front ++ back ≡ [] → front ≡ []
front-none [] back none = refl
front-none (first ∷ front) back none = absurd (let both : first ∷ (front ++ back) ≡ [] = none in cc)

back-none : {A : Type 0} (front back : List A) → front ++ back ≡ [] → back ≡ []
back-none [] back none = none
back-none (first ∷ front) back none = absurd (let both : first ∷ (front ++ back) ≡ [] = none in cc)

-- what is left was given and not replied to, or the reading met no end
left-over : (still : List Sent) (rest left : List Statement) (Left Met : Type 0) → (Left → (left ≢ []) ⊎ Met)
    → (still ≢ []) ⊎ ((rest ≢ []) ⊎ Left) → ((still ≢ []) ⊎ ((rest ++ left) ≢ [])) ⊎ Met
left-over still rest left Left Met by_left over = ⊎_elim
    (λ some. inl (inl some))
    (λ others. ⊎_elim
    (λ some. inl (inr (λ none. some (front-none rest left none))))
    (λ more. ⊎_elim (λ some. inl (inr (λ none. some (back-none rest left none)))) (λ met. inr met) (by_left more))
    others)
    over

-- the replies halted, and these statements were left
answers-halted : (halt : Halt) (seat : ℕ) (old new : Sight) (from from' : ReadingSide) (to to' : WritingSide) (given : List ℕ)
    (statements left : List Statement) (Left : Type 0) → Consumes from.left from'.left given → length given ≤ SCRIPT_LIMIT
    → (on : PlaysOn (Some halt) seat old [] statements Left new to.taken to'.taken)
    → statements_of from'.ended given ≡ statements ++ left → (Left → (left ≢ []) ⊎ MetNoEnd from from' given)
    → AnswersSession (end_of_halt halt) seat old new from from' to to'
answers-halted WriteFault seat old new from from' to to' given statements left Left gave few on is by_left = record {
  given = given;
  written = on.written;
  replies = on.replies;
  gave = gave;
  took = on.took;
  reads = omega (arith, few);
  tells = tells-plays (Some WriteFault) seat old new statements (statements_of from'.ended (within_limit given)) left Left
      to.taken to'.taken on (ap (statements_of from'.ended) (within_all given few) ∙ is);
  whole = λ ended. absurd ended;
  writes = on.ends;
  memory = λ same. cc;
}
answers-halted NoMemory seat old new from from' to to' given statements left Left gave few on is by_left = record {
  given = given;
  written = on.written;
  replies = on.replies;
  gave = gave;
  took = on.took;
  reads = omega (arith, few);
  tells = tells-plays (Some NoMemory) seat old new statements (statements_of from'.ended (within_limit given)) left Left
      to.taken to'.taken on (ap (statements_of from'.ended) (within_all given few) ∙ is);
  whole = λ ended. absurd ended;
  writes = on.ends.0;
  memory = λ same. ⊎_elim (λ part. inl part)
      (λ over. inr (left-over on.still on.rest left Left (MetNoEnd from from' given) by_left over)) on.ends.1;
}

-- no memory was left for a piece
pub unfed-ends : (seat : ℕ) (old now : Sight) (waits : Reading) (from from' : ReadingSide) (left : Option (List ℕ)) (to to' : WritingSide)
    (piece : List ℕ) → IsServing seat old now waits from.left left to.taken to'.taken → Consumes left from'.left piece
    → waits.fed + length piece ≤ SCRIPT_LIMIT → from'.ended ≡ from.ended → from'.faults ≡ from.faults
    → AnswersSession end.Memory seat old now from from' to to'
unfed-ends seat old now waits from from' left to to' piece run gave few same unfailed =
    let counted : waits.fed ≡ length run.given = run.stays.0 in
    let short : length (run.given ++ piece) ≤ SCRIPT_LIMIT = omega (arith, few, counted, length-append run.given piece) in
    let on : PlaysOn (Some NoMemory) seat old [] run.statements (Unit {0}) now to.taken to'.taken =
    (seat-left (list_any is_refusal run.on.replies) seat old now [] run.statements ⊥ (Unit {0}) to.taken to'.taken tt (run.on, refl)).0 in
    answers-halted NoMemory seat old now from from' to to' (run.given ++ piece) run.statements
    (statements_of from'.ended (waits.waiting ++ piece)) (Unit {0})
    (Consumes-trans from.left left from'.left run.given piece run.gave gave) short on (run.reads piece from'.ended (λ e. cc))
    (λ any. inr (same, unfailed, short))

-- the replies halted before the end of the input
pub halted-ends : (halt : Halt) (seat : ℕ) (old now new : Sight) (waits waits' : Reading) (from from' : ReadingSide) (to : WritingSide)
    (taken : Option (List ℕ)) (to' : WritingSide) → IsServing seat old now waits from.left from'.left to.taken taken
    → SeatReads (Some halt) seat now [] waits new waits' taken to'.taken → from'.ended ≡ from.ended → from'.faults ≡ from.faults
    → AnswersSession (end_of_halt halt) seat old new from from' to to'
halted-ends halt seat old now new waits waits' from from' to taken to' run reads same unfailed =
    let few = few-given seat old now waits from.left from'.left to.taken taken run in
    answers-halted halt seat old new from from' to to' run.given (run.statements ++ reads.statements)
    (statements_of from'.ended reads.behind.waiting) (LeavesToRead reads.behind) run.gave few
    (serving-err halt seat old now new waits waits waits' from.left from'.left to.taken taken to'.taken run reads)
    (reads-all (came run.given) reads.behind (run.statements ++ reads.statements) from'.ended
    (reads-then (came run.given) waits reads.behind run.statements reads.statements run.reads run.stays reads.reads) (λ e. cc))
    (λ some. inr (same, unfailed, few))

-- and behind it: then what is left was given
pub ended-ends : (halt : Halt) (seat : ℕ) (old now new : Sight) (waits waits' : Reading) (from from' : ReadingSide) (left : Option (List ℕ))
    (to : WritingSide) (taken : Option (List ℕ)) (to' : WritingSide) (piece : List ℕ)
    → IsServing seat old now waits from.left left to.taken taken → Consumes left from'.left piece → piece ≡ [] → from'.ended ≡ true
    → SeatReads (Some halt) seat now [] (finished waits) new waits' taken to'.taken
    → AnswersSession (end_of_halt halt) seat old new from from' to to'
ended-ends halt seat old now new waits waits' from from' left to taken to' piece run gave nothing has_ended reads =
    answers-halted halt seat old new from from' to to' run.given (run.statements ++ reads.statements)
    (statements_of true reads.behind.waiting) (LeavesToRead reads.behind)
    (gave-nothing from.left left from'.left run.given piece run.gave gave nothing)
    (few-given seat old now waits from.left left to.taken taken run)
    (serving-err halt seat old now new waits (finished waits) waits' from.left left to.taken taken to'.taken run reads)
    (ap (λ ended. statements_of ended run.given) has_ended
    ∙ reads-ended run.given waits reads.behind run.statements reads.statements run.reads run.stays.0 reads.reads)
    (λ some. inl (some reads.stays.1))

-- what was open was let go where the session was cut short
pub lets-end : (ends : SessionEnd) (seat : ℕ) (old mid new : Sight) (from from' : ReadingSide) (to to' : WritingSide) → (EndsWhole (run_end_of ends) → ⊥)
    → mid.row.made ≡ made_by seat mid.seen → AnswersSession ends seat old mid from from' to to' → LetsGo seat mid new
    → AnswersSession ends seat old new from from' to to'
lets-end ends seat old mid new from from' to to' cut made answers goes = record {
  given = answers.given;
  written = answers.written;
  replies = answers.replies;
  gave = answers.gave;
  took = answers.took;
  reads = answers.reads;
  tells = tells-lets seat old mid new (statements_by (run_end_of ends) from'.ended answers.given) answers.replies made answers.tells goes;
  whole = λ ended. absurd (cut ended);
  writes = answers.writes;
  memory = answers.memory;
}

-- where no call failed it is none of the ends that tell of one
pub unfailed-ends : (ends : SessionEnd) (from from' : ReadingSide) (to to' : WritingSide) → CountsSessionFaults ends from from' to to'
    → IsSessionComplete ends from from' to to'
unfailed-ends end.Done from from' to to' counts read wrote = tt
unfailed-ends end.ReadFault from from' to to' counts read wrote = absurd (read counts.0)
unfailed-ends end.WriteFault from from' to to' counts read wrote = absurd (wrote counts.1)
unfailed-ends end.Limit from from' to to' counts read wrote = tt
unfailed-ends end.Memory from from' to to' counts read wrote = tt
