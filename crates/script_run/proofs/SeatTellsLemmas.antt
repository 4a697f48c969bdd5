-- What a core tells of the statements that were given to it by one seat, from what the seat did on it.
use Rattle.script_run.proofs.Words.{◌++◌, ◌∙◌, ◌∷◌, ◌≡◌, ◌≢◌, [], All-append, ap, append-nil, append_assoc, arith, Entry, Halt, length-append, List, map-append, None, Option, refl, Reply, Statement, subst, sym, take, taken_by, ℕ}
use Rattle.std.proofs.lemmas.List.{take-append-le}
use Rattle.core_state.specs.Rows.{Sight, made_by}
use Rattle.core_state.specs.Sent.{AreEntriesOf, AreOfOthers, AreRepliesTo, Given, IsReplyBehind, Lost, Sent, entry_made, numbers_in, pending_behind, statement_in, statements_in, takens_of}
use Rattle.script_run.specs.Front.{PlaysOn}
use Rattle.script_run.specs.Home.{LetsGo}
use Rattle.script_run.specs.Seat.{IsAllReplied, TellsSeat}
use Rattle.script_run.proofs.BoardCloseLemmas.{others-came}

-- the statements are those that were replied to, those that were sent behind them, and the others
pub tells-all : (statements all left rest : List Statement) (sent said still : List Sent) → all ≡ statements ++ left
    → statements ≡ statements_in sent ++ rest → sent ≡ said ++ still
    → all ≡ statements_in said ++ (statements_in still ++ (rest ++ left))
tells-all statements all left rest sent said still is are queue =
    is ∙ ap (λ list. list ++ left) (are ∙ ap (λ list. list ++ rest) (ap statements_in queue ∙ map-append statement_in said still)
    ∙ append_assoc (statements_in said) (statements_in still) rest)
    ∙ append_assoc (statements_in said) (statements_in still ++ rest) left
    ∙ ap (λ list. statements_in said ++ list) (append_assoc (statements_in still) rest left)

-- what is told where nothing was waited for before: of the statements that were given, and of others behind them that were not
abbrev pub tells-plays : (halted : Option Halt) (seat : ℕ) (old new : Sight) (statements all left : List Statement) (Left : Type 0)
    (taken taken' : Option (List ℕ)) → (on : PlaysOn halted seat old [] statements Left new taken taken') → all ≡ statements ++ left
    → TellsSeat seat old new all on.replies
tells-plays halted seat old new statements all left Left taken taken' on is = record {
  said = on.said;
  others = on.still;
  rest = on.rest ++ left;
  all = tells-all statements all left on.rest on.sent on.said on.still is on.are on.goes.queue;
  since = on.goes.since;
  seen = on.goes.seen;
  entries = subst (λ sent. AreEntriesOf seat old.seen sent on.goes.since) on.goes.queue on.goes.entries;
  submitted = on.goes.submitted ∙ ap (λ sent. old.row.submitted ++ numbers_in sent) on.goes.queue;
  later = [];
  taken = on.goes.taken ∙ ap (λ list. old.row.taken ++ list) (sym (append-nil (takens_of new.seen on.said)));
  answered = on.goes.answered;
}

-- where nothing halted, nothing is still waited for, and no others are left, all of them were replied to
pub tells-whole : (seat : ℕ) (old new : Sight) (statements all left : List Statement) (Left : Type 0) (taken taken' : Option (List ℕ))
    → (on : PlaysOn None seat old [] statements Left new taken taken') → (is : all ≡ statements ++ left) → on.still ≡ [] → left ≡ []
    → IsAllReplied (tells-plays None seat old new statements all left Left taken taken' on is)
tells-whole seat old new statements all left Left taken taken' on is none nothing =
    record { others = none; rest = ap (λ list. list ++ left) on.ends.0 ∙ nothing; later = refl }

-- Where the seat was let go since.

-- the seat made no entry meanwhile
pub lets-made : (seat : ℕ) (mid new : Sight) → mid.row.made ≡ made_by seat mid.seen → (lets : LetsGo seat mid new)
    → made_by seat (mid.seen ++ lets.since) ≡ made_by seat mid.seen
lets-made seat mid new made lets = ap (made_by seat) (sym lets.seen) ∙ sym lets.all_made ∙ lets.made ∙ made

-- entries of others behind those of what was sent
pub entries-more : (seat : ℕ) (before : List Entry) (sent : List Sent) (since more : List Entry) → AreEntriesOf seat before sent since
    → AreOfOthers seat more → AreEntriesOf seat before sent (since ++ more)
entries-more seat before [] since more are of = All-append (λ (entry : Entry). entry.seat ≢ seat) since more are of
entries-more seat before (Lost statement ∷ sent) since more are of = entries-more seat before sent since more are of
entries-more seat before (Given number point statement ∷ sent) since more (others, after, is, apart, place, rest) of = (
  others,
  after ++ more,
  ap (λ list. list ++ more) is ∙ append_assoc others (made ++ after) more ∙ ap (λ list. others ++ list) (append_assoc made after more),
  apart,
  place,
  entries-more seat (before ++ (others ++ made)) sent after more rest of,
)
  where
    made : List Entry
    made = entry_made seat number (before ++ others) statement

-- the replies to what was said, and what was taken of it, stay as more entries come
pub said-more : (entries more : List Entry) (said : List Sent) (replies : List Reply) → AreRepliesTo entries said replies
    → (takens_of (entries ++ more) said ≡ takens_of entries said) × AreRepliesTo (entries ++ more) said replies
said-more entries more [] [] are = (refl, tt)
said-more entries more [] (reply ∷ replies) are = absurd are
said-more entries more (one ∷ said) [] are = absurd are
said-more entries more (Lost statement ∷ said) (reply ∷ replies) are =
    let rest = said-more entries more said replies are.1 in (rest.0, (are.0, rest.1))
said-more entries more (Given number point statement ∷ said) (reply ∷ replies) are =
    let rest = said-more entries more said replies are.1 in
    let same = take-append-le point entries more are.0.0 in (
      ap (λ before. taken_by (pending_behind number before statement) ∷ takens_of (entries ++ more) said) same
          ∙ ap (λ list. taken_by (pending_behind number (take point entries) statement) ∷ list) rest.0,
      (
        (
          let low = are.0.0 in let both = length-append entries more in omega arith,
          subst (λ before. IsReplyBehind before statement reply) (sym same) are.0.1,
        ),
        rest.1,
      ),
    )

-- the same is told then: of those that were sent behind some replies were taken, and dropped
abbrev pub tells-lets : (seat : ℕ) (old mid new : Sight) (statements : List Statement) (replies : List Reply)
    → mid.row.made ≡ made_by seat mid.seen → TellsSeat seat old mid statements replies → LetsGo seat mid new
    → TellsSeat seat old new statements replies
tells-lets seat old mid new statements replies made tells lets = record {
  said = tells.said;
  others = tells.others;
  rest = tells.rest;
  all = tells.all;
  since = tells.since ++ lets.since;
  seen = lets.seen ∙ ap (λ list. list ++ lets.since) tells.seen ∙ append_assoc old.seen tells.since lets.since;
  entries = entries-more seat old.seen (tells.said ++ tells.others) tells.since lets.since tells.entries
      (others-came seat mid.seen lets.since (lets-made seat mid new made lets));
  submitted = lets.submitted ∙ tells.submitted;
  later = tells.later ++ lets.more;
  taken = lets.taken ∙ ap (λ list. list ++ lets.more) tells.taken
      ∙ append_assoc old.row.taken (takens_of mid.seen tells.said ++ tells.later) lets.more
      ∙ ap (λ list. old.row.taken ++ list) (append_assoc (takens_of mid.seen tells.said) tells.later lets.more
      ∙ ap (λ list. list ++ (tells.later ++ lets.more)) (sym (ap (λ entries. takens_of entries tells.said) lets.seen
      ∙ (said-more mid.seen lets.since tells.said replies tells.answered).0)));
  answered = subst (λ entries. AreRepliesTo entries tells.said replies) (sym lets.seen)
      (said-more mid.seen lets.since tells.said replies tells.answered).1;
}
