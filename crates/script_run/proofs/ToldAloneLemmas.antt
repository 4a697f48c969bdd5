-- What a core tells of what one seat sent to it, where nobody else made an entry: the replies, the history and the queries are those of its
-- statements, where memory was wanted at some places.
use Rattle.script_run.proofs.Words.{◌++◌, ◌∙◌, ◌∷◌, ◌≡◌, ◌≢◌, ◌⊎◌, [], Accepted, accepted_by, All, All-cons, All-head, All-nil, All-tail, alone, answer_reply, Answered, ap, append-nil, append_assoc, Awaited, awaited_by, BeginAnswered, Bool, Change, changes_of, cond, Entry, eq-eqb, eqb, false, find, history_after, IfSome, inl, inr, length, life_of, List, Lives, map, map-append, MayBegin, Memory, None, Option, option_map, option_to_list, outcome_of, queries_among, Query, QueryLife, refl, replies_after, Reply, reply_to, Some, Statement, store_of, subst, suc, sym, tables_by, take, taken_by, Taken, Told, true, ℕ, ⊎_elim}
use Rattle.std.proofs.Math.Seq.{take-append_seam}
use Rattle.star_store.specs.Outcome as outcome
use Rattle.core_state.specs.Sent.{AnswersTold, AreEntriesOf, AreOfOthers, AreRepliesTo, Given, IsReplyBehind, Lost, Sent, entry_made, numbers_in, pending_behind, statements_in, takens_of}
use Rattle.core_state.specs.Submitting.{asked_by}
use Rattle.script_run.specs.Answered.{AreAnswered, IsAnswered}
use Rattle.script_run.specs.Told.{history_from}
use Rattle.script_run.proofs.QuietLemmas.{history-asked}
use Rattle.script_run.proofs.ToldWantedLemmas.{AreTold, told-effect, told-wanted}

-- no query is asked
none-asked : (accepted : List Accepted) → map accepted_by accepted ≡ [] → accepted ≡ []
none-asked [] same = refl
none-asked (first ∷ accepted) same = absurd (let both : accepted_by first ∷ map accepted_by accepted ≡ [] = same in cc)

-- the first query that is asked
record FirstAsked (accepted : List Accepted) (asked : ℕ × (Query × ℕ)) (others : List (ℕ × (Query × ℕ))) : Type 0 where
  first : Accepted
  rest : List Accepted
  all : accepted ≡ first ∷ rest
  is : accepted_by first ≡ asked
  behind : map accepted_by rest ≡ others

first-asked : (accepted : List Accepted) (asked : ℕ × (Query × ℕ)) (others : List (ℕ × (Query × ℕ))) → map accepted_by accepted ≡ asked ∷ others
    → FirstAsked accepted asked others
first-asked [] asked others same = absurd (let both : [] ≡ asked ∷ others = same in cc)
first-asked (first ∷ rest) asked others same = record {
  first = first;
  rest = rest;
  all = refl;
  is = (let both : accepted_by first ∷ map accepted_by rest ≡ asked ∷ others = same in cc);
  behind = (let both : accepted_by first ∷ map accepted_by rest ≡ asked ∷ others = same in cc);
}

-- the queries among statements by that of the first
abbrev among_by : (statement : ℕ) → Awaited → List Taken → List (ℕ × (Query × ℕ))
among_by statement told rest = queries_among (record { statement = statement; told = told } ∷ rest)

-- where memory was wanted the core may have no query of a statement
may-none : (told : Told) (A : List Accepted → Type 0) (accepted : List Accepted) → A accepted → MayBegin told A accepted
may-none (outcome.Replied reply) A accepted here = here
may-none (outcome.Accepted query snapshot) A accepted here = inl here

-- What holds of each of two lists, one behind the other.
pub all-left : {A : Type 0} (P : A → Type 0) (left right : List A) → All P (left ++ right) → All P left
all-left P [] right all = All-nil P
all-left P (first ∷ left) right all =
    All-cons P first left (All-head P first (left ++ right) all) (all-left P left right (All-tail P first (left ++ right) all))

all-right : {A : Type 0} (P : A → Type 0) (left right : List A) → All P (left ++ right) → All P right
all-right P [] right all = all
all-right P (first ∷ left) right all = all-right P left right (All-tail P first (left ++ right) all)

-- entries that are of a seat and of others are none
no-others : (seat : ℕ) (entries : List Entry) → AreOfOthers seat entries → All (λ entry. entry.seat ≡ seat) entries → entries ≡ []
no-others seat [] others own = refl
no-others seat (entry ∷ entries) others own =
    absurd (All-head (λ (e : Entry). e.seat ≢ seat) entry entries others (All-head (λ (e : Entry). e.seat ≡ seat) entry entries own))

-- the history behind the entry of a statement
made-changes : (seat number : ℕ) (change : Option Change)
    → changes_of (map (λ c. record { seat = seat; statement = number; change = c }) (option_to_list change)) ≡ option_to_list change
made-changes seat number None = refl
made-changes seat number (Some change) = refl

history-made : (seat number : ℕ) (before : List Entry) (statement : Statement)
    → changes_of (before ++ entry_made seat number before statement) ≡ history_after (changes_of before) statement
history-made seat number before statement =
    map-append (λ (e : Entry). e.change) before (entry_made seat number before statement)
    ∙ ap (λ changes. changes_of before ++ changes) (made-changes seat number (outcome_of (tables_by before) statement).change)

-- what is told of the others, whatever queries are asked of them
abbrev TellOthers : Lives → (place : ℕ) → List Change → List Statement → List Reply → (after : List Change) → List Taken → Type 0
TellOthers lives place history statements replies after takens = (accepted : List Accepted)
    → map accepted_by accepted ≡ queries_among takens → AreTold lives place history statements replies after accepted

-- a statement that the core has
told-given : (lives : Lives) (place number : ℕ) (history : List Change) (statement : Statement) (statements : List Statement) (reply : Reply)
    (replies : List Reply) (after : List Change) (takens : List Taken) (accepted : List Accepted)
    → AnswersTold (store_of history) (outcome_of (store_of history) statement).told reply
    → IsAnswered lives (Some (taken_by (record { statement = number; awaited = awaited_by (outcome_of (store_of history) statement).told }))) reply
    → map accepted_by accepted ≡ among_by number (awaited_by (outcome_of (store_of history) statement).told) takens
    → TellOthers lives (suc place) (history_after history statement) statements replies after takens
    → AreTold lives place history (statement ∷ statements) (reply ∷ replies) after accepted
told-given lives place number history statement statements reply replies after takens accepted right answered asked tell =
    by_told (outcome_of (store_of history) statement).told refl right answered asked
  where
    told : Told
    told = (outcome_of (store_of history) statement).told

    -- it has its effect
    effective : (behind : List Accepted) → reply ≡ reply_to (store_of history) told → map accepted_by behind ≡ queries_among takens
        → ((A : List Accepted → Type 0) → A behind → BeginAnswered lives told A accepted)
        → AreTold lives place history (statement ∷ statements) (reply ∷ replies) after accepted
    effective behind same those begins =
        subst (λ one. AreTold lives place history (statement ∷ statements) (one ∷ replies) after accepted) (sym same)
        (told-effect lives place history statement statements replies after behind accepted (tell behind those) begins)

    -- memory was wanted for its answer
    wanting : (behind : List Accepted) → reply ≡ Memory → history_after history statement ≡ history → map accepted_by behind ≡ queries_among takens
        → ((A : List Accepted → Type 0) → A behind → MayBegin told A accepted)
        → AreTold lives place history (statement ∷ statements) (reply ∷ replies) after accepted
    wanting behind wants stays those begins =
        subst (λ one. AreTold lives place history (statement ∷ statements) (one ∷ replies) after accepted) (sym wants)
        (told-wanted lives place history statement statements replies after behind accepted
        (subst (λ h. AreTold lives (suc place) h statements replies after behind) stays (tell behind those)) begins)

    -- it is a query
    by_query : (query : Query) (snapshot : ℕ) → told ≡ outcome.Accepted query snapshot
        → (reply ≡ answer_reply snapshot (alone (store_of history) query snapshot)) ⊎ (reply ≡ Memory)
        → (reply ≡ Memory) ⊎ (life_of lives number ≡ Some Answered)
        → FirstAsked accepted (number, (query, snapshot)) (queries_among takens)
        → AreTold lives place history (statement ∷ statements) (reply ∷ replies) after accepted
    by_query query snapshot tells replied life begin =
        ⊎_elim
        (λ same. ⊎_elim unanswered
        (λ is. effective begin.rest (same ∙ ap (reply_to (store_of history)) (sym tells)) begin.behind
        (λ A here. subst (λ t. BeginAnswered lives t A accepted) (sym tells)
        (subst (BeginAnswered lives (outcome.Accepted query snapshot) A) (sym begin.all)
        (asks.0, asks.1, ap (life_of lives) named ∙ is, here)))) life)
        unanswered replied
      where
        named : begin.first.number ≡ number
        named = ap (λ (asked : ℕ × (Query × ℕ)). asked.0) begin.is

        asks : (begin.first.query ≡ query) × (begin.first.snapshot ≡ snapshot)
        asks = (ap (λ (asked : ℕ × (Query × ℕ)). asked.1.0) begin.is, ap (λ (asked : ℕ × (Query × ℕ)). asked.1.1) begin.is)

        unanswered : reply ≡ Memory → AreTold lives place history (statement ∷ statements) (reply ∷ replies) after accepted
        unanswered wants = wanting begin.rest wants (history-asked history statement query snapshot tells) begin.behind
            (λ A here. subst (λ t. MayBegin t A accepted) (sym tells)
            (subst (MayBegin (outcome.Accepted query snapshot) A) (sym begin.all) (inr (asks.0, asks.1, tt, here))))

    by_told : (t : Told) → told ≡ t → AnswersTold (store_of history) t reply
        → IsAnswered lives (Some (taken_by (record { statement = number; awaited = awaited_by t }))) reply
        → map accepted_by accepted ≡ among_by number (awaited_by t) takens
        → AreTold lives place history (statement ∷ statements) (reply ∷ replies) after accepted
    by_told (outcome.Replied given) tells is life those =
        effective accepted (is ∙ ap (reply_to (store_of history)) (sym tells)) those
        (λ A here. subst (λ t. BeginAnswered lives t A accepted) (sym tells) here)
    by_told (outcome.Accepted query snapshot) tells is life those =
        by_query query snapshot tells is life (first-asked accepted (number, (query, snapshot)) (queries_among takens) those)

-- where memory was wanted the core may have no query of a statement, and it has none of one that was lost
pub told-sent : (lives : Lives) (seat place : ℕ) (before : List Entry) (sent : List Sent) (since entries : List Entry) (replies : List Reply)
    (accepted : List Accepted) → AreEntriesOf seat before sent since → All (λ entry. entry.seat ≡ seat) since → entries ≡ before ++ since
    → AreRepliesTo entries sent replies → AreAnswered lives entries sent replies → map accepted_by accepted ≡ queries_among (takens_of entries sent)
    → AreTold lives place (changes_of before) (statements_in sent) replies (changes_of entries) accepted
told-sent lives seat place before [] since entries [] accepted of own is are answered asked = record {
  wanted = [];
  behind = All-nil _;
  replied = refl;
  ended = ap changes_of (is ∙ ap (λ list. before ++ list) (no-others seat since of own) ∙ append-nil before);
  queries = none-asked accepted asked;
}
told-sent lives seat place before [] since entries (reply ∷ replies) accepted of own is are answered asked = absurd are
told-sent lives seat place before (one ∷ sent) since entries [] accepted of own is are answered asked = absurd are
told-sent lives seat place before (Lost statement ∷ sent) since entries (reply ∷ replies) accepted of own is are answered asked =
    subst (λ first. AreTold lives place (changes_of before) (statement ∷ statements_in sent) (first ∷ replies) (changes_of entries) accepted) (sym are.0)
    (told-wanted lives place (changes_of before) statement (statements_in sent) replies (changes_of entries) accepted accepted
    (told-sent lives seat (suc place) before sent since entries replies accepted of own is are.1 answered.1 asked)
    (λ A here. may-none (outcome_of (store_of (changes_of before)) statement).told A accepted here))
told-sent lives seat place before (Given number point statement ∷ sent) since entries (reply ∷ replies) accepted (others, after, parts, apart, at, rest) own is are answered asked =
    told-given lives place number (changes_of before) statement (statements_in sent) reply replies (changes_of entries) (takens_of entries sent) accepted
    (subst (λ list. IsReplyBehind list statement reply) front are.0.1)
    (subst (λ list. IsAnswered lives (Some (taken_by (pending_behind number list statement))) reply) front answered.0)
    (asked ∙ ap (λ list. among_by number (pending_behind number list statement).awaited (takens_of entries sent)) front)
    (λ behind those.
    subst (λ history. AreTold lives (suc place) history (statements_in sent) replies (changes_of entries) behind) (history-made seat number before statement)
    (told-sent lives seat (suc place) (before ++ made) sent after entries replies behind rest_of (all-right (λ (e : Entry). e.seat ≡ seat) made after own_made)
    (is_made ∙ sym (append_assoc before made after)) are.1 answered.1 those))
  where
    made : List Entry
    made = entry_made seat number before statement

    own_parts : All (λ (e : Entry). e.seat ≡ seat) (others ++ (entry_made seat number (before ++ others) statement ++ after))
    own_parts = subst (All (λ (e : Entry). e.seat ≡ seat)) parts own

    none : others ≡ []
    none = no-others seat others apart (all-left (λ (e : Entry). e.seat ≡ seat) others (entry_made seat number (before ++ others) statement ++ after) own_parts)

    here : before ++ others ≡ before
    here = ap (λ list. before ++ list) none ∙ append-nil before

    same : entry_made seat number (before ++ others) statement ≡ made
    same = ap (λ list. entry_made seat number list statement) here

    parts_made : since ≡ made ++ after
    parts_made = parts ∙ ap (λ list. list ++ (entry_made seat number (before ++ others) statement ++ after)) none ∙ ap (λ entry. entry ++ after) same

    own_made : All (λ (e : Entry). e.seat ≡ seat) (made ++ after)
    own_made = subst (All (λ (e : Entry). e.seat ≡ seat)) parts_made own

    is_made : entries ≡ before ++ (made ++ after)
    is_made = is ∙ ap (λ list. before ++ list) parts_made

    front : take point entries ≡ before
    front = ap (λ n. take n entries) (at ∙ ap length here) ∙ ap (take (length before)) is_made ∙ take-append_seam before (made ++ after)

    rest_of : AreEntriesOf seat (before ++ made) sent after
    rest_of = subst (λ list. AreEntriesOf seat list sent after)
        (ap (λ list. before ++ (list ++ entry_made seat number (before ++ others) statement)) none ∙ ap (λ entry. before ++ entry) same) rest

-- The replies and the history alone, whatever became of the queries.

-- lives in which the queries of these numbers are answered
abbrev answered_lives : List ℕ → Lives
answered_lives numbers =
    record { queries = map (λ number. record { query = number; extent = 0; life = Answered }) numbers; slots = []; filters = 0 }

-- wherever a number stands among them
life-answered : (front : List ℕ) (number : ℕ) (numbers : List ℕ) → life_of (answered_lives (front ++ number ∷ numbers)) number ≡ Some Answered
life-answered [] number numbers = found (eqb number number) (eq-eqb number number refl)
  where
    found : (test : Bool) → test ≡ true
        → option_map (λ (e : QueryLife). e.life) (cond {A = Option QueryLife} test (Some (record { query = number; extent = 0; life = Answered }))
        (find (λ (e : QueryLife). eqb e.query number) (answered_lives numbers).queries)) ≡ Some Answered
    found true is = refl
    found false is = absurd (let both : false ≡ true = is in cc)
life-answered (first ∷ front) number numbers = by_test (eqb first number) (life-answered front number numbers)
  where
    by_test : (test : Bool) → life_of (answered_lives (front ++ number ∷ numbers)) number ≡ Some Answered
        → option_map (λ (e : QueryLife). e.life) (cond {A = Option QueryLife} test (Some (record { query = first; extent = 0; life = Answered }))
        (find (λ (e : QueryLife). eqb e.query number) (answered_lives (front ++ number ∷ numbers)).queries)) ≡ Some Answered
    by_test true rest = refl
    by_test false rest = rest

if-asked : {P : Type 0} (o : Option (Query × ℕ)) → P → IfSome o (λ asked. P)
if-asked None holds = tt
if-asked (Some asked) holds = holds

answered-all : (front : List ℕ) (entries : List Entry) (sent : List Sent) (replies : List Reply)
    → AreAnswered (answered_lives (front ++ numbers_in sent)) entries sent replies
answered-all front entries [] replies = tt
answered-all front entries (one ∷ sent) [] = tt
answered-all front entries (Lost statement ∷ sent) (reply ∷ replies) = (inr tt, answered-all front entries sent replies)
answered-all front entries (Given number point statement ∷ sent) (reply ∷ replies) = (
  inr (if-asked (asked_by (pending_behind number (take point entries) statement).awaited) (life-answered front number (numbers_in sent))),
  subst (λ numbers. AreAnswered (answered_lives numbers) entries sent replies) (append_assoc front (number ∷ []) (numbers_in sent))
      (answered-all (front ++ number ∷ []) entries sent replies),
)

-- accepted queries with these numbers, queries and snapshots
as_accepted : ℕ × (Query × ℕ) → Accepted
as_accepted asked = record { number = asked.0; seat = 0; query = asked.1.0; snapshot = asked.1.1; groups = None }

accepted-as : (asked : List (ℕ × (Query × ℕ))) → map accepted_by (map as_accepted asked) ≡ asked
unfolding as_accepted
accepted-as [] = refl
accepted-as (first ∷ asked) = ap (λ rest. first ∷ rest) (accepted-as asked)

-- what a seat sent that alone made entries is a run
pub seat-alone : (seat : ℕ) (before : List Entry) (sent : List Sent) (since entries : List Entry) (replies : List Reply)
    → AreEntriesOf seat before sent since → All (λ entry. entry.seat ≡ seat) since → entries ≡ before ++ since → AreRepliesTo entries sent replies
    → (wanted : List ℕ) × (replies ≡ replies_after wanted 0 (changes_of before) (statements_in sent))
    × (changes_of entries ≡ history_from wanted 0 (changes_of before) (statements_in sent))
seat-alone seat before sent since entries replies of own is are =
    let asked = queries_among (takens_of entries sent) in
    let told : AreTold (answered_lives (numbers_in sent)) 0 (changes_of before) (statements_in sent) replies (changes_of entries) (map as_accepted asked) =
    told-sent (answered_lives (numbers_in sent)) seat 0 before sent since entries replies (map as_accepted asked) of own is are
    (answered-all [] entries sent replies) (accepted-as asked) in
    (told.wanted, told.replied, told.ended)
