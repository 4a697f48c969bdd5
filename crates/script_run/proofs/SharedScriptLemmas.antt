-- What is told of the statements that a run sent to a core that was empty: of all of a script, or of a front of its replies.
use Rattle.script_run.proofs.Words.{◌++◌, ◌<◌, ◌∙◌, ◌∷◌, ◌≡◌, ◌≢◌, ◌⊎◌, [], accepted_by, All, ap, append-nil, append_assoc, arith, Bool, Change, changes_of, cond, effect_of, empty_core, Entry, false, Halt, history_after, if◌then◌else◌, is_refusal, is_wanted_at, IsFront, IsProperFront, length, length-append, List, list_any, map, map-append, Memory, NoMemory, None, Option, queries_among, refl, replies_after, replies_of, Reply, RunSettings, script_replies, script_text, Seat, seat_at, Some, some_refused, State, Statement, statements_of, store_of, subst, suc, sym, taken_by, TellsScript, text_of, text_of_all, true, WriteFault, ℕ, ⊎_elim}
use Rattle.core_state.specs.Fronts.{IsDue, IsPointWithin}
use Rattle.core_state.specs.Points.{ComeInParts}
use Rattle.core_state.specs.Queries.{given_in}
use Rattle.core_state.specs.Rows.{SeatRow, Sight, empty_row, row_of, sight_of}
use Rattle.core_state.specs.Sent.{AreEntriesOf, AreRepliesTo, Sent, statement_in, statements_in, takens_of}
use Rattle.core_state.proofs.PointLemmas.{entries-split, points-within, replies-less}
use Rattle.script_run.specs.Front.{HaltsAt, PlaysIn, PlaysOn}
use Rattle.script_run.specs.Seat.{IsAllReplied, TellsSeat}
use Rattle.script_run.specs.Shared.{nothing}
use Rattle.script_run.specs.Told.{AreQueriesOf, history_of}
use Rattle.script_run.proofs.FrontNewLemmas.{new-seat}
use Rattle.script_run.proofs.OnLemmas.{idle-still, sent-all, still-none, text-append}
use Rattle.script_run.proofs.SeatTellsLemmas.{tells-plays, tells-whole}
use Rattle.script_run.proofs.ToldAloneLemmas.{all-left, seat-alone, told-sent}
use Rattle.script_run.proofs.ToldWantedLemmas.{AreTold}
use Rattle.script_run.proofs.WholeLemmas.{text_some}

-- a core in which every entry is of seat 0, and of which the queries are those among what seat 0 was given
pub record IsAlone (core : State) : Type 0 where
  pub own : All (λ entry. entry.seat ≡ 0) core.entries
  pub queries : map accepted_by core.accepted ≡ queries_among (given_in (seat_at core 0))

-- All was replied to.

-- these are the replies to all of a script, and this is the history that it makes
pub record IsScript (ended : Bool) (script : List ℕ) (replies : List Reply) (after : List Change) : Type 0 where
  pub wanted : List ℕ
  pub are : replies ≡ script_replies wanted ended script
  pub text : text_of_all replies ≡ script_text wanted ended script
  pub refusals : list_any is_refusal replies ≡ some_refused wanted ended script
  pub history : after ≡ history_of wanted (statements_of ended script)

-- so it is where they are the replies to its statements
abbrev pub script-by : (ended : Bool) (script : List ℕ) (statements : List Statement) (replies : List Reply) (after : List Change)
    (wanted : List ℕ) → statements_of ended script ≡ statements → replies ≡ replies_of wanted statements
    → after ≡ history_of wanted statements → IsScript ended script replies after
script-by ended script statements replies after wanted all replied made =
    let are : replies ≡ script_replies wanted ended script = replied ∙ ap (replies_of wanted) (sym all) in record {
      wanted = wanted;
      are = are;
      text = ap text_of_all are;
      refusals = ap (list_any is_refusal) are;
      history = made ∙ ap (history_of wanted) (sym all);
    }

-- the replies are those of the statements and the core tells of them, where memory was wanted at the same places
whole-told : (settings : RunSettings) (new : State) (statements : List Statement) (Left : Type 0) (taken taken' : Option (List ℕ))
    → (plays : PlaysIn None (empty_core settings) [] statements Left new taken taken') → IsAlone new → (seat_at new 0).pending ≡ []
    → (wanted : List ℕ) × (plays.on.replies ≡ replies_of wanted statements) × TellsScript wanted statements new
whole-told settings new statements Left taken taken' plays is_alone idle = (
  told.wanted,
  told.replied ∙ ap (replies_of told.wanted) (sym are),
  record {
    history = told.ended ∙ ap (history_of told.wanted) (sym are);
    queries = subst (λ list. AreQueriesOf new.lives told.wanted 0 [] list new.accepted) (sym are) told.queries;
  },
)
  where
    on : PlaysOn None 0 (sight_of (empty_core settings) 0) [] statements Left (sight_of new 0) taken taken'
    on = plays.on

    said : on.sent ≡ on.said
    said = on.goes.queue ∙ ap (λ still. on.said ++ still) (idle-still new on.still on.goes.waits idle) ∙ append-nil on.said

    are : statements ≡ statements_in on.said
    are = sent-all statements on.sent on.rest on.are on.ends.0 ∙ ap statements_in said

    given : given_in (seat_at new 0) ≡ takens_of new.entries on.said
    given = ap (λ pending. (seat_at new 0).taken ++ map taken_by pending) idle ∙ append-nil (seat_at new 0).taken ∙ on.goes.taken
        ∙ ap (λ (seat : Seat). seat.taken ++ takens_of new.entries on.said) (new-seat settings)

    told : AreTold new.lives 0 [] (statements_in on.said) on.replies (changes_of new.entries) new.accepted
    told = told-sent new.lives 0 0 [] on.said on.goes.since new.entries on.replies new.accepted
        (subst (λ sent. AreEntriesOf 0 [] sent on.goes.since) said on.goes.entries)
        (subst (All (λ (entry : Entry). entry.seat ≡ 0)) on.goes.seen is_alone.own) on.goes.seen on.goes.answered plays.answered
        (is_alone.queries ∙ ap queries_among given)

-- where these are the statements of a script, the replies are those of the script, and the core tells of it
pub whole-script : (settings : RunSettings) (new : State) (statements : List Statement) (Left : Type 0) (taken taken' : Option (List ℕ))
    (last : Bool) (script : List ℕ) → (plays : PlaysIn None (empty_core settings) [] statements Left new taken taken') → IsAlone new
    → (seat_at new 0).pending ≡ [] → statements_of last script ≡ statements
    → (is : IsScript last script plays.on.replies (changes_of new.entries)) × TellsScript is.wanted (statements_of last script) new
whole-script settings new statements Left taken taken' last script plays is_alone idle all =
    let found = whole-told settings new statements Left taken taken' plays is_alone idle in (
      script-by last script statements plays.on.replies (changes_of new.entries) found.0 all found.1 found.2.history,
      subst (λ list. TellsScript found.0 list new) (sym all) found.2,
    )

-- By what a seat sees.

-- nothing is waited for where nothing is pending
pub sight-still : (seat : ℕ) (sight : Sight) (due : List Sent) → IsDue seat sight due → sight.row.pending ≡ [] → due ≡ []
sight-still seat sight due waits idle = still-none sight.seen due waits.given (sym waits.pending ∙ idle)

-- the replies are those of the statements, and so is the history, where memory was wanted at the same places
whole-seen : (row : SeatRow) (new : Sight) (statements : List Statement) (Left : Type 0) (taken taken' : Option (List ℕ))
    → (on : PlaysOn None 0 (record { row = row; seen = [] }) [] statements Left new taken taken') → All (λ entry. entry.seat ≡ 0) new.seen
    → new.row.pending ≡ []
    → (wanted : List ℕ) × (on.replies ≡ replies_of wanted statements) × (changes_of new.seen ≡ history_of wanted statements)
whole-seen row new statements Left taken taken' on own idle = (
  told.0,
  told.1 ∙ ap (replies_of told.0) (sym are),
  told.2 ∙ ap (history_of told.0) (sym are),
)
  where
    said : on.sent ≡ on.said
    said = on.goes.queue ∙ ap (λ still. on.said ++ still) (sight-still 0 new on.still on.goes.waits idle) ∙ append-nil on.said

    are : statements ≡ statements_in on.said
    are = sent-all statements on.sent on.rest on.are on.ends.0 ∙ ap statements_in said

    told : (wanted : List ℕ) × (on.replies ≡ replies_of wanted (statements_in on.said))
        × (changes_of new.seen ≡ history_of wanted (statements_in on.said))
    told = seat-alone 0 [] on.said on.goes.since new.seen on.replies
        (subst (λ sent. AreEntriesOf 0 [] sent on.goes.since) said on.goes.entries)
        (subst (All (λ (entry : Entry). entry.seat ≡ 0)) on.goes.seen own) on.goes.seen on.goes.answered

-- where these are the statements of a script, the replies are those of the script, and so is the history
pub seen-script : (row : SeatRow) (new : Sight) (statements : List Statement) (Left : Type 0) (taken taken' : Option (List ℕ)) (last : Bool)
    (script : List ℕ) → (on : PlaysOn None 0 (record { row = row; seen = [] }) [] statements Left new taken taken')
    → All (λ entry. entry.seat ≡ 0) new.seen → new.row.pending ≡ [] → statements_of last script ≡ statements
    → IsScript last script on.replies (changes_of new.seen)
seen-script row new statements Left taken taken' last script on own idle all =
    let found = whole-seen row new statements Left taken taken' on own idle in
    script-by last script statements on.replies (changes_of new.seen) found.0 all found.1 found.2

-- The replies halted.

-- what was replied to has the replies of a script
front-told : (row : SeatRow) (new : Sight) (halted : Option Halt) (statements : List Statement) (Left : Type 0)
    (taken taken' : Option (List ℕ)) → (on : PlaysOn halted 0 (record { row = row; seen = [] }) [] statements Left new taken taken')
    → All (λ entry. entry.seat ≡ 0) new.seen → (wanted : List ℕ) × (on.replies ≡ replies_of wanted (statements_in on.said))
front-told row new halted statements Left taken taken' on own = (told.0, told.1)
  where
    parts : ComeInParts 0 [] on.said on.still on.goes.since
    parts = entries-split 0 [] on.said on.still on.goes.since
        (subst (λ sent. AreEntriesOf 0 [] sent on.goes.since) on.goes.queue on.goes.entries)

    all : new.seen ≡ parts.first ++ parts.later
    all = on.goes.seen ∙ parts.all

    points : All (IsPointWithin (length parts.first)) on.said
    points = points-within 0 [] on.said parts.first parts.of_first

    told : (wanted : List ℕ) × (on.replies ≡ replies_of wanted (statements_in on.said))
        × (changes_of parts.first ≡ history_of wanted (statements_in on.said))
    told = seat-alone 0 [] on.said parts.first parts.first on.replies parts.of_first
        (all-left (λ (entry : Entry). entry.seat ≡ 0) parts.first parts.later (subst (All (λ (entry : Entry). entry.seat ≡ 0)) all own))
        refl
        (replies-less parts.first parts.later on.said on.replies points
        (subst (λ entries. AreRepliesTo entries on.said on.replies) all on.goes.answered))

-- statements have replies
some-replies : (wanted : List ℕ) (place : ℕ) (history : List Change) (statements : List Statement) → statements ≢ []
    → 0 < length (text_of_all (replies_after wanted place history statements))
some-replies wanted place history [] some = absurd (some refl)
some-replies wanted place history (statement ∷ statements) some = by_test (is_wanted_at wanted place)
  where
    first-some : (reply : Reply) (replies : List Reply) → 0 < length (text_of_all (reply ∷ replies))
    first-some reply replies =
        let first = text_some reply in omega (arith, first, length-append (text_of reply) (text_of_all replies))

    by_test : (test : Bool) → 0 < length (text_of_all (cond {A = List Reply} test
        (Memory ∷ replies_after wanted (suc place) history statements)
        ((effect_of (store_of history) statement).reply ∷ replies_after wanted (suc place) (history_after history statement) statements)))
    by_test true = first-some Memory _
    by_test false = first-some _ _

-- the replies to some statements and to others behind them
record RepliesBehind (wanted : List ℕ) (place : ℕ) (history : List Change) (statements others : List Statement) : Type 0 where
  more : List Reply
  are : replies_after wanted place history (statements ++ others) ≡ replies_after wanted place history statements ++ more
  some : others ≢ [] → 0 < length (text_of_all more)

replies-behind : (wanted : List ℕ) (place : ℕ) (history : List Change) (statements others : List Statement)
    → RepliesBehind wanted place history statements others
replies-behind wanted place history [] others = record {
  more = replies_after wanted place history others;
  are = refl;
  some = some-replies wanted place history others;
}
replies-behind wanted place history (statement ∷ statements) others =
    by_parts (replies-behind wanted (suc place) history statements others)
    (replies-behind wanted (suc place) (history_after history statement) statements others)
  where
    by_parts : RepliesBehind wanted (suc place) history statements others
        → RepliesBehind wanted (suc place) (history_after history statement) statements others
        → RepliesBehind wanted place history (statement ∷ statements) others
    by_parts lost made = record {
      more = if is_wanted_at wanted place then lost.more else made.more;
      are = by_are (is_wanted_at wanted place);
      some = by_some (is_wanted_at wanted place);
    }
      where
        first : Reply
        first = (effect_of (store_of history) statement).reply

        after : List Change
        after = history_after history statement

        by_are : (test : Bool)
            → (if test then Memory ∷ replies_after wanted (suc place) history (statements ++ others)
            else (first ∷ replies_after wanted (suc place) after (statements ++ others)))
            ≡ (if test then Memory ∷ replies_after wanted (suc place) history statements
            else (first ∷ replies_after wanted (suc place) after statements)) ++ (if test then lost.more else made.more)
        by_are true = ap (λ list. Memory ∷ list) lost.are
        by_are false = ap (λ list. first ∷ list) made.are

        by_some : (test : Bool) → others ≢ [] → 0 < length (text_of_all (if test then lost.more else made.more))
        by_some true = lost.some
        by_some false = made.some

-- a front of the text of some replies is one of these and others
front-more : (replies more : List Reply) (written : List ℕ) → IsFront written (text_of_all replies)
    → IsFront written (text_of_all (replies ++ more))
front-more replies more written (rest, is) = (
  rest ++ text_of_all more,
  text-append replies more ∙ ap (λ text. text ++ text_of_all more) is ∙ append_assoc written rest (text_of_all more),
)

proper-more : (replies more : List Reply) (written : List ℕ) → IsFront written (text_of_all replies) → 0 < length (text_of_all more)
    → IsProperFront written (text_of_all (replies ++ more))
proper-more replies more written (rest, is) some = (
  rest ++ text_of_all more,
  omega (arith, some, length-append rest (text_of_all more)),
  text-append replies more ∙ ap (λ text. text ++ text_of_all more) is ∙ append_assoc written rest (text_of_all more),
)

proper-on : (replies more : List Reply) (written : List ℕ) → IsProperFront written (text_of_all replies)
    → IsProperFront written (text_of_all (replies ++ more))
proper-on replies more written (rest, some, is) = (
  rest ++ text_of_all more,
  omega (arith, some, length-append rest (text_of_all more)),
  text-append replies more ∙ ap (λ text. text ++ text_of_all more) is ∙ append_assoc written rest (text_of_all more),
)

-- whether what is left has to be known
abbrev pub Sure : Halt → Type 0 → Type 0
Sure WriteFault Known = Unit {0}
Sure NoMemory Known = Known

-- what was written is a front of the replies to some statements and others, and a proper one where a write failed or something is left
pub record IsCutShort (halt : Halt) (wanted : List ℕ) (written : List ℕ) (all : List Statement) (Known : Type 0) : Type 0 where
  pub front : IsFront written (text_of_all (replies_of wanted all))
  pub part : Sure halt Known → IsProperFront written (text_of_all (replies_of wanted all))

pub cut-short : (halt : Halt) (wanted written : List ℕ) (replies : List Reply) (said others all : List Statement) (Left : Type 0)
    → replies ≡ replies_of wanted said → all ≡ said ++ others → HaltsAt halt written replies Left
    → IsCutShort halt wanted written all (Left → others ≢ [])
cut-short halt wanted written replies said others all Left are is halts = record { front = front halt halts; part = part halt halts }
  where
    behind : RepliesBehind wanted 0 [] said others
    behind = replies-behind wanted 0 [] said others

    same : replies ++ behind.more ≡ replies_of wanted all
    same = ap (λ list. list ++ behind.more) are ∙ sym behind.are ∙ ap (replies_of wanted) (sym is)

    front : (why : Halt) → HaltsAt why written replies Left → IsFront written (text_of_all (replies_of wanted all))
    front WriteFault at = subst (λ list. IsFront written (text_of_all list)) same (front-more replies behind.more written (at.0, at.2))
    front NoMemory at = subst (λ list. IsFront written (text_of_all list)) same (front-more replies behind.more written at.0)

    part : (why : Halt) → HaltsAt why written replies Left → Sure why (Left → others ≢ [])
        → IsProperFront written (text_of_all (replies_of wanted all))
    part WriteFault at known = subst (λ list. IsProperFront written (text_of_all list)) same (proper-on replies behind.more written at)
    part NoMemory at known = subst (λ list. IsProperFront written (text_of_all list)) same
        (⊎_elim (λ proper. proper-on replies behind.more written proper)
        (λ left. proper-more replies behind.more written at.0 (behind.some (known left))) at.1)

-- of what a run sent to an empty core
pub record IsHalted (halt : Halt) (written : List ℕ) (last : Bool) (script : List ℕ) (Known : Type 0) : Type 0 where
  pub wanted : List ℕ
  pub front : IsFront written (script_text wanted last script)
  pub part : Sure halt Known → IsProperFront written (script_text wanted last script)

pub halted-script : (halt : Halt) (row : SeatRow) (new : Sight) (statements others : List Statement) (Left : Type 0)
    (taken taken' : Option (List ℕ)) (last : Bool) (script : List ℕ)
    → (on : PlaysOn (Some halt) 0 (record { row = row; seen = [] }) [] statements Left new taken taken')
    → All (λ entry. entry.seat ≡ 0) new.seen → statements_of last script ≡ statements ++ others
    → IsHalted halt on.written last script (Left → others ≢ [])
halted-script halt row new statements others Left taken taken' last script on own all =
    let told = front-told row new (Some halt) statements Left taken taken' on own in
    let short = cut-short halt told.0 on.written on.replies (statements_in on.said) (statements_in on.still ++ (on.rest ++ others))
    (statements_of last script) ((on.still ≢ []) ⊎ ((on.rest ≢ []) ⊎ Left)) told.1 parts on.ends in
    record { wanted = told.0; front = short.front; part = λ known. short.part (sure halt known) }
  where
    parts : statements_of last script ≡ statements_in on.said ++ (statements_in on.still ++ (on.rest ++ others))
    parts = all ∙ ap (λ list. list ++ others) (on.are ∙ ap (λ sent. statements_in sent ++ on.rest) on.goes.queue)
        ∙ append_assoc (statements_in (on.said ++ on.still)) on.rest others
        ∙ ap (λ list. list ++ (on.rest ++ others)) (map-append statement_in on.said on.still)
        ∙ append_assoc (statements_in on.said) (statements_in on.still) (on.rest ++ others)

    some-sent : (still : List Sent) (rest : List Statement) → still ≢ [] → (statements_in still ++ rest) ≢ []
    some-sent [] rest some same = some refl
    some-sent (one ∷ still) rest some same = absurd (let both : statement_in one ∷ (statements_in still ++ rest) ≡ [] = same in cc)

    some-rest : (first rest : List Statement) → rest ≢ [] → (first ++ rest) ≢ []
    some-rest [] rest some same = some same
    some-rest (statement ∷ first) rest some same = absurd (let both : statement ∷ (first ++ rest) ≡ [] = same in cc)

    some-first : (first rest : List Statement) → first ≢ [] → (first ++ rest) ≢ []
    some-first [] rest some same = some refl
    some-first (statement ∷ first) rest some same = absurd (let both : statement ∷ (first ++ rest) ≡ [] = same in cc)

    sure : (why : Halt) → Sure why (Left → others ≢ [])
        → Sure why ((on.still ≢ []) ⊎ ((on.rest ≢ []) ⊎ Left) → (statements_in on.still ++ (on.rest ++ others)) ≢ [])
    sure WriteFault known = tt
    sure NoMemory known = ⊎_elim (λ waits. some-sent on.still (on.rest ++ others) waits)
        (⊎_elim (λ rest. some-rest (statements_in on.still) (on.rest ++ others) (some-first on.rest others rest))
        (λ left. some-rest (statements_in on.still) (on.rest ++ others) (some-rest on.rest others (known left))))

-- What is told of the statements that were sent.

-- the row of seat 0 of an empty core is empty
pub new-row : (settings : RunSettings) → row_of (empty_core settings) 0 ≡ empty_row
new-row settings =
    ap (λ (seat : Seat). record { submitted = seat.submitted; made = []; pending = seat.pending; taken = seat.taken; hand = None })
    (new-seat settings)

-- the statements of a script, of which the first were sent to a core that was empty; and of those that were sent this holds
pub record TellsSome (Also : List Sent → Type 0) (sight : Sight) (all : List Statement) (replies : List Reply) : Type 0 where
  pub tells : TellsSeat 0 nothing sight all replies
  pub also : Also (tells.said ++ tells.others)

-- all of them were replied to
pub record TellsAll (Also : List Sent → Type 0) (sight : Sight) (all : List Statement) (replies : List Reply) : Type 0 where
  pub some : TellsSome Also sight all replies
  pub whole : IsAllReplied some.tells

-- by what a run did
pub tells-given : (Also : List Sent → Type 0) (row : SeatRow) (sight : Sight) (halted : Option Halt)
    (statements others all : List Statement) (Left : Type 0) (taken taken' : Option (List ℕ)) → row ≡ empty_row
    → (on : PlaysOn halted 0 (record { row = row; seen = [] }) [] statements Left sight taken taken') → Also on.sent
    → all ≡ statements ++ others → TellsSome Also sight all on.replies
tells-given Also row sight halted statements others all Left taken taken' empty on also is =
    let both : (tells : TellsSeat 0 nothing sight all on.replies) × Also (tells.said ++ tells.others) =
    subst (λ (first : SeatRow). (tells : TellsSeat 0 (record { row = first; seen = [] }) sight all on.replies) × Also
    (tells.said ++ tells.others)) empty (
      tells-plays halted 0 (record { row = row; seen = [] }) sight statements all others Left taken taken' on is,
      subst Also on.goes.queue also,
    ) in
    record { tells = both.0; also = both.1 }

pub tells-whole-given : (Also : List Sent → Type 0) (row : SeatRow) (sight : Sight) (statements all : List Statement) (Left : Type 0)
    (taken taken' : Option (List ℕ)) → row ≡ empty_row
    → (on : PlaysOn None 0 (record { row = row; seen = [] }) [] statements Left sight taken taken') → Also on.sent → sight.row.pending ≡ []
    → all ≡ statements → TellsAll Also sight all on.replies
tells-whole-given Also row sight statements all Left taken taken' empty on also idle is =
    let both : (tells : TellsSeat 0 nothing sight all on.replies) × Also (tells.said ++ tells.others) × IsAllReplied tells =
    subst (λ (first : SeatRow). (tells : TellsSeat 0 (record { row = first; seen = [] }) sight all on.replies)
    × Also (tells.said ++ tells.others) × IsAllReplied tells) empty (
      tells-plays None 0 (record { row = row; seen = [] }) sight statements all [] Left taken taken' on whole,
      subst Also on.goes.queue also,
      tells-whole 0 (record { row = row; seen = [] }) sight statements all [] Left taken taken' on whole
          (sight-still 0 sight on.still on.goes.waits idle) refl,
    ) in
    record { some = record { tells = both.0; also = both.1 }; whole = both.2 }
  where
    whole : all ≡ statements ++ []
    whole = is ∙ sym (append-nil statements)
