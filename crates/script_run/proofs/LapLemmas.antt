-- How far the scan goes by statements that are given to a core, and by letting queries come to their end.
use Rattle.script_run.proofs.Words.{◌*◌, ◌++◌, ◌+◌, ◌/◌, ◌<◌, ◌∙◌, ◌∷◌, ◌≡◌, ◌≤◌, ◌⊎◌, [], ap, append-nil, arith, CountsOne, count_by, Entry, fold-append, GoesRound, is_query, is_wait, IsTrue, laps_of, LapsOn, List, meaning_of, means_wait, Memory, None, Ok, Option, outcome_by, Pending, placed, queries_awaited, refl, Refusal, Reply, Result, rows_needed, seat_at, State, Statement, Store, subst, suc, sym, tables_by, take, versions_in, Waited, zero, ℕ, ⊎_elim}
use Rattle.std.proofs.Math.Nat.{mul-le-mul}
use Rattle.star_parser.specs.Statement as written
use Rattle.star_store.specs.Outcome as outcome
use Rattle.star_store.specs.Outcome.{outcome_of}
use Rattle.core_state.specs.Fronts.{IsDue}
use Rattle.core_state.specs.Rows.{sight_of}
use Rattle.core_state.specs.Sent.{AnswersTold, AreRepliesTo, Given, IsReplyTo, Sent, pendings_of, statement_in, statements_in}
use Rattle.core_state.proofs.FrontLemmas.{pendings-more}
use Rattle.script_run.specs.Front.{PlaysIn}
use Rattle.script_run.specs.Laps.{places_of}
use Rattle.script_run.proofs.LapRowLemmas.{places-grow, places-told, rows-all, rows-fill, rows-full, rows-grow, rows-next}
use Rattle.script_run.proofs.OnLemmas.{idle-still}

-- places behind others
places-append : (slots places : ℕ) (replies more : List Reply)
    → places_of slots places (replies ++ more) ≡ places_of slots (places_of slots places replies) more
places-append slots places replies more = fold-append (placed slots) places replies more

-- as many laps of as many versions
more-laps : (versions versions' laps laps' : ℕ) → versions ≤ versions' → laps ≤ laps' → versions * laps ≤ versions' * laps'
more-laps versions versions' laps laps' versions_grow laps_grow = mul-le-mul versions_grow laps_grow

-- one lap more
lap-more : (versions laps laps' cut : ℕ) → cut ≤ versions * laps → laps + 1 ≤ laps' → cut + versions ≤ versions * laps'
lap-more versions laps laps' cut low grows =
    let more : versions * (laps + 1) ≤ versions * laps' = more-laps versions versions (laps + 1) laps' (omega arith) grows in
    let one : versions * (laps + 1) ≡ versions * laps + versions = omega arith in
    omega (arith, low, more, one)

-- nothing was replied to
pub laps-itself : (state : State) → LapsOn state state []
laps-itself state = record { settings = refl; cut = λ places low. low }

-- one part behind another
pub laps-then : (old between new : State) (replies more : List Reply) → LapsOn old between replies → LapsOn between new more
    → LapsOn old new (replies ++ more)
laps-then old between new replies more first second = record {
  settings = second.settings ∙ first.settings;
  cut = λ places low.
      subst (λ n. new.scan.cut ≤ versions_in new * (n / old.settings.slots)) (sym (places-append old.settings.slots places replies more))
      (subst (λ (n : ℕ). new.scan.cut ≤ versions_in new * (places_of n (places_of old.settings.slots places replies) more / n)) (ap (λ s. s.slots) first.settings)
      (second.cut (places_of old.settings.slots places replies)
      (subst (λ (n : ℕ). between.scan.cut ≤ versions_in between * (places_of old.settings.slots places replies / n)) (sym (ap (λ s. s.slots) first.settings))
      (first.cut places low))));
}

-- a statement was given, and nothing was cut
pub laps-quiet : (statement : Statement) (old new : State) → CountsOne statement old new → LapsOn old new []
laps-quiet statement old new counts = record {
  settings = counts.settings;
  cut = λ places low.
      let same : new.scan.cut ≡ old.scan.cut = ap (λ s. s.cut) counts.scan in
      let grows = more-laps (versions_in old) (versions_in new) (places / old.settings.slots) (places / old.settings.slots) counts.versions (omega arith) in
      omega (arith, low, same, grows);
}

-- all that a seat waited for was replied to
pub record Settles (old new : State) (due : List Sent) (replies : List Reply) : Type 0 where
  pub pending : (seat_at old 0).pending ≡ pendings_of new.entries due
  pub are : AreRepliesTo new.entries due replies

-- nothing was sent where no statement was given
sent-none : (sent : List Sent) (rest : List Statement) → [] ≡ statements_in sent ++ rest → sent ≡ []
sent-none [] rest are = refl
sent-none (one ∷ sent) rest are = absurd (let both : [] ≡ statement_in one ∷ (statements_in sent ++ rest) = are in cc)

-- so it is where nothing is waited for any more
pub settles-plays : (old new : State) (due : List Sent) (Left : Type 0) (taken taken' : Option (List ℕ)) → IsDue 0 (sight_of old 0) due
    → (plays : PlaysIn None old due [] Left new taken taken') → (seat_at new 0).pending ≡ [] → Settles old new due plays.on.replies
settles-plays old new due Left taken taken' waits plays idle = record {
  pending = waits.pending ∙ sym (pendings-more old.entries goes_since due waits.points) ∙ ap (λ entries. pendings_of entries due) (sym plays.on.goes.seen);
  are = subst (λ list. AreRepliesTo new.entries list plays.on.replies) (sym said) plays.on.goes.answered;
}
  where
    goes_since : List Entry
    goes_since = plays.on.goes.since

    said : due ≡ plays.on.said
    said = sym (append-nil due) ∙ ap (λ list. due ++ list) (sym (sent-none plays.on.sent plays.on.rest plays.on.are)) ∙ plays.on.goes.queue
        ∙ ap (λ list. plays.on.said ++ list) (idle-still new plays.on.still plays.on.goes.waits idle) ∙ append-nil plays.on.said

-- the replies take a place for each query that the front waited for
places-due : (slots places : ℕ) (old new : State) (due : List Sent) (replies : List Reply) → 0 < slots → Settles old new due replies
    → places + queries_awaited old ≤ places_of slots places replies
places-due slots places old new due replies some settles =
    subst (λ (list : List Pending). places + count_by (λ p. is_query p.awaited) list ≤ places_of slots places replies) (sym settles.pending)
    (places-told slots places new.entries due replies some settles.are)

-- the replies fill a row more, whatever places there were before
abbrev pub FillsRow : (slots : ℕ) → List Reply → Type 0
FillsRow slots replies = (places : ℕ) → places / slots + 1 ≤ places_of slots places replies / slots

-- the scan went round for no query, for as many as there are slots, or for replies that fill a row more
abbrev pub IsWorth : (slots : ℕ) → (old : State) → List Reply → Type 0
IsWorth slots old replies = (queries_awaited old ≡ 0) ⊎ ((slots ≤ queries_awaited old) ⊎ FillsRow slots replies)

-- it went as far as the replies tell
pub laps-round : (old new : State) (due : List Sent) (replies : List Reply) → 0 < old.settings.slots → GoesRound old new → Settles old new due replies
    → IsWorth old.settings.slots old replies → LapsOn old new replies
laps-round old new due replies some round settles worth = record {
  settings = round.settings;
  cut = λ places low. ⊎_elim (none places low) (⊎_elim (fills places low) (λ row. goes places low (row places))) worth;
}
  where
    slots : ℕ
    slots = old.settings.slots

    none : (places : ℕ) → old.scan.cut ≤ versions_in old * (places / slots) → queries_awaited old ≡ 0
        → new.scan.cut ≤ versions_in new * (places_of slots places replies / slots)
    none places low is =
        let same = round.none is in
        let versions = round.versions in
        let grows = more-laps (versions_in old) (versions_in new) (places / slots) (places_of slots places replies / slots)
        (omega arith) (rows-grow slots places (places_of slots places replies) some (places-grow slots places replies some)) in
        omega (arith, low, same, grows)

    goes : (places : ℕ) → old.scan.cut ≤ versions_in old * (places / slots) → places / slots + 1 ≤ places_of slots places replies / slots
        → new.scan.cut ≤ versions_in new * (places_of slots places replies / slots)
    goes places low grows =
        let most = lap-more (versions_in old) (places / slots) (places_of slots places replies / slots) old.scan.cut low grows in
        let once = round.once in
        subst (λ v. new.scan.cut ≤ v * (places_of slots places replies / slots)) (sym round.versions) (omega (arith, most, once))

    fills : (places : ℕ) → old.scan.cut ≤ versions_in old * (places / slots) → slots ≤ queries_awaited old
        → new.scan.cut ≤ versions_in new * (places_of slots places replies / slots)
    fills places low many =
        let taken = places-due slots places old new due replies some settles in
        goes places low (rows-fill slots places (places_of slots places replies) some (omega (arith, taken, many)))

-- a row is full behind a reply that ends it
row-behind : (slots places : ℕ) (replies : List Reply) (reply : Reply) (rows : ℕ) → 0 < slots → placed slots (places_of slots places replies) reply ≡ rows * slots
    → places / slots + 1 ≤ rows → places / slots + 1 ≤ places_of slots places (replies ++ reply ∷ []) / slots
row-behind slots places replies reply rows some is grows =
    subst (λ n. places / slots + 1 ≤ n / slots) (sym (places-append slots places replies (reply ∷ []) ∙ is))
    (subst (λ n. places / slots + 1 ≤ n) (sym (rows-full slots rows some)) grows)

-- what a `wait` is told
wait-told : (store : Store) (statement : Statement) → IsTrue (is_wait statement) → (outcome_of store statement).told ≡ outcome.Replied Waited
unfolding outcome_of
wait-told store statement waits = by_meaning (meaning_of statement) waits
  where
    by_meaning : (meaning : Result written.Statement Refusal) → IsTrue (means_wait meaning)
        → (outcome_by store statement.block meaning).told ≡ outcome.Replied Waited
    by_meaning (Ok written.Wait) waits = refl
    by_meaning meaning waits = cc

-- the reply to it
wait-reply : (entries : List Entry) (number point : ℕ) (statement : Statement) (reply : Reply) → IsTrue (is_wait statement)
    → IsReplyTo entries (Given number point statement) reply → reply ≡ Waited
wait-reply entries number point statement reply waits right =
    subst (λ told. AnswersTold (tables_by (take point entries)) told reply) (wait-told (tables_by (take point entries)) statement waits) right.1

-- the reply to the last of what was sent, behind those to the others
record RepliesLast (entries : List Entry) (due : List Sent) (one : Sent) (replies : List Reply) : Type 0 where
  before : List Reply
  last : Reply
  all : replies ≡ before ++ last ∷ []
  are : AreRepliesTo entries due before
  is : IsReplyTo entries one last

replies-last : (entries : List Entry) (due : List Sent) (one : Sent) (replies : List Reply) → AreRepliesTo entries (due ++ one ∷ []) replies
    → RepliesLast entries due one replies
replies-last entries [] one [] are = absurd are
replies-last entries [] one (reply ∷ []) are = record { before = []; last = reply; all = refl; are = tt; is = are.0 }
replies-last entries [] one (reply ∷ other ∷ replies) are = absurd are.1
replies-last entries (first ∷ due) one [] are = absurd are
replies-last entries (first ∷ due) one (reply ∷ replies) are =
    let behind = replies-last entries due one replies are.1 in
    record {
      before = reply ∷ behind.before;
      last = behind.last;
      all = ap (λ list. reply ∷ list) behind.all;
      are = (are.0, behind.are);
      is = behind.is;
    }

-- behind queries that the front waited for, `waited` fills a row
pub waits-fill : (statement : Statement) (number point : ℕ) (old mid new : State) (due : List Sent) (more : List Entry) (replies : List Reply) → 0 < mid.settings.slots
    → IsTrue (is_wait statement) → 0 < queries_awaited old → IsDue 0 (sight_of old 0) due → new.entries ≡ old.entries ++ more
    → Settles mid new (due ++ Given number point statement ∷ []) replies → FillsRow mid.settings.slots replies
waits-fill statement number point old mid new due more replies some waits asked is_due grows settles places =
    subst (λ list. places / slots + 1 ≤ places_of slots places list / slots) (sym came.all)
    (row-behind slots places came.before came.last (rows_needed slots (places_of slots places came.before)) some
    (ap (placed slots (places_of slots places came.before)) waited) (rows-next slots places (places_of slots places came.before) some more_places))
  where
    slots : ℕ
    slots = mid.settings.slots

    came : RepliesLast new.entries due (Given number point statement) replies
    came = replies-last new.entries due (Given number point statement) replies settles.are

    waited : came.last ≡ Waited
    waited = wait-reply new.entries number point statement came.last waits came.is

    same : (seat_at old 0).pending ≡ pendings_of new.entries due
    same = is_due.pending ∙ sym (pendings-more old.entries more due is_due.points) ∙ ap (λ entries. pendings_of entries due) (sym grows)

    more_places : places < places_of slots places came.before
    more_places =
        let due_places = places-told slots places new.entries due came.before some came.are in
        let count : queries_awaited old ≡ count_by (λ (p : Pending). is_query p.awaited) (pendings_of new.entries due) =
        ap (count_by (λ (p : Pending). is_query p.awaited)) same in
        omega (arith, due_places, asked, count)

-- `memory` fills one
lost-fills : (slots : ℕ) (replies : List Reply) → 0 < slots → FillsRow slots (replies ++ Memory ∷ [])
lost-fills slots replies some places =
    let grows = places-grow slots places replies some in
    row-behind slots places replies Memory (rows_needed slots (places_of slots places replies + 1)) some refl
    (rows-next slots places (places_of slots places replies + 1) some (omega (arith, grows)))

-- a statement for which no memory was left, behind queries that came to their end
pub laps-lost : (old new : State) (replies : List Reply) → 0 < old.settings.slots → GoesRound old new → LapsOn old new (replies ++ Memory ∷ [])
laps-lost old new replies some round = record {
  settings = round.settings;
  cut = λ places low.
      let most = lap-more (versions_in old) (places / old.settings.slots) (places_of old.settings.slots places (replies ++ Memory ∷ []) / old.settings.slots)
      old.scan.cut low (lost-fills old.settings.slots replies some places) in
      let once = round.once in
      subst (λ v. new.scan.cut ≤ v * (places_of old.settings.slots places (replies ++ Memory ∷ []) / old.settings.slots)) (sym round.versions) (omega (arith, most, once));
}

-- at the end of a run the last row may have places that are free
pub laps-end : (first old new : State) (due : List Sent) (replies more : List Reply) → 0 < first.settings.slots → first.scan.cut ≡ 0 → LapsOn first old replies → GoesRound old new
    → Settles old new due more
    → new.scan.cut ≤ versions_in new * laps_of first.settings.slots (replies ++ more)
laps-end first old new due replies more some nothing laps round settles =
    subst (λ n. new.scan.cut ≤ versions_in new * rows_needed slots n) (sym (places-append slots 0 replies more))
    (subst (λ v. new.scan.cut ≤ v * rows_needed slots after) (sym round.versions) (by_count (queries_awaited old) refl))
  where
    slots : ℕ
    slots = first.settings.slots

    before : ℕ
    before = places_of slots 0 replies

    after : ℕ
    after = places_of slots before more

    low : old.scan.cut ≤ versions_in old * (before / slots)
    low = laps.cut 0 (omega (arith, nothing))

    by_count : (n : ℕ) → queries_awaited old ≡ n → new.scan.cut ≤ versions_in old * rows_needed slots after
    by_count zero none =
        let same = round.none none in
        let grows = more-laps (versions_in old) (versions_in old) (before / slots) (rows_needed slots after) (omega arith)
        (rows-all slots before after some (places-grow slots before more some)) in
        omega (arith, low, same, grows)
    by_count (suc n) asked =
        let taken = places-due slots before old new due more some settles in
        let most = lap-more (versions_in old) (before / slots) (rows_needed slots after) old.scan.cut low
        (rows-next slots before after some (omega (arith, taken, asked))) in
        let once = round.once in
        omega (arith, most, once)
