-- What a seat does on a core, one part behind another, and what was written of its replies.
use Rattle.script_run.proofs.Words.{◌++◌, ◌<◌, ◌||◌, ◌∙◌, ◌∷◌, ◌≡◌, ◌≢◌, ◌⊎◌, [], All, All-head, All-nil, ap, append-nil, append_assoc, Appends, Appends-nil, Appends-trans, arith, Bool, drop, Entry, Err, false, Halt, inl, inr, is_refusal, IsFront, IsProperFront, length, length-drop, List, list_any, Lives, map-append, NoMemory, None, Ok, Option, Pending, refl, Reply, seat_at, Some, State, Statement, subst, sym, Taken, take, take-append-drop, taken_by, text_of, text_of_all, WriteFault, ℕ, ⊎_elim}
use Rattle.std.proofs.lemmas.Grind.{flat_map-append}
use Rattle.std.proofs.lemmas.List.{take-append-le}
use Rattle.std.proofs.lemmas.List.Folds.{list_any-append}
use Rattle.std.proofs.lemmas.Option.{IfSome_then}
use Rattle.core_state.specs.Fronts.{IsDue, Passes}
use Rattle.core_state.specs.Rows.{Sight, sight_of}
use Rattle.core_state.specs.Sent.{AreRepliesTo, Given, IsGiven, IsReplyTo, Lost, Sent, pending_behind, pendings_of, statement_in, statements_in, taken_of}
use Rattle.core_state.specs.Submitting.{asked_by}
use Rattle.core_state.proofs.FrontLemmas.{goes-passes, goes-then}
use Rattle.script_run.specs.Answered.{AreAnswered, IsAnswered, StayAnswered}
use Rattle.std.proofs.lemmas.List.Elements.{filter_map-append}
use Rattle.script_run.specs.Front.{EndsSo, HaltsAt, PlaysBy, PlaysIn, PlaysOn, SubmitsAll, given_by, givens_in}
use Rattle.script_run.proofs.FrontRunLemmas.{submits-none, submits-then}

-- What was written.

-- the text of some replies and of others behind them
pub text-append : (replies more : List Reply) → text_of_all (replies ++ more) ≡ text_of_all replies ++ text_of_all more
text-append replies more = flat_map-append text_of replies more

-- the text of one reply
pub text-one : (reply : Reply) → text_of_all (reply ∷ []) ≡ text_of reply
text-one reply = append-nil (text_of reply)

-- the text of some replies, and a front of others
front-behind : (before replies : List Reply) (written : List ℕ) → IsFront written (text_of_all replies)
    → IsFront (text_of_all before ++ written) (text_of_all (before ++ replies))
front-behind before replies written (rest, is) = (
  rest,
  text-append before replies ∙ ap (λ text. text_of_all before ++ text) is ∙ sym (append_assoc (text_of_all before) written rest),
)

proper-behind : (before replies : List Reply) (written : List ℕ) → IsProperFront written (text_of_all replies)
    → IsProperFront (text_of_all before ++ written) (text_of_all (before ++ replies))
proper-behind before replies written (rest, some, is) = (
  rest,
  some,
  text-append before replies ∙ ap (λ text. text_of_all before ++ text) is ∙ sym (append_assoc (text_of_all before) written rest),
)

-- how it ends behind replies that were written
pub ends-behind : (halted : Option Halt) (before replies : List Reply) (rest : List Statement) (written : List ℕ) (Left : Type 0)
    → EndsSo halted rest written replies Left → EndsSo halted rest (text_of_all before ++ written) (before ++ replies) Left
ends-behind None before replies rest written Left ends =
    (ends.0, ap (λ text. text_of_all before ++ text) ends.1 ∙ sym (text-append before replies))
ends-behind (Some WriteFault) before replies rest written Left part = proper-behind before replies written part
ends-behind (Some NoMemory) before replies rest written Left ends =
    (front-behind before replies written ends.0, ⊎_elim (λ part. inl (proper-behind before replies written part)) (λ left. inr left) ends.1)

-- where more is left
pub halts-weaker : (halt : Halt) (replies : List Reply) (written : List ℕ) (Left Left' : Type 0) → (Left → Left')
    → HaltsAt halt written replies Left → HaltsAt halt written replies Left'
halts-weaker WriteFault replies written Left Left' more part = part
halts-weaker NoMemory replies written Left Left' more ends = (ends.0, ⊎_elim (λ part. inl part) (λ left. inr (more left)) ends.1)

-- what may be left where it ends so
abbrev pub Eases : Option Halt → (Left Left' : Type 0) → Type 0
Eases halted Left Left' = (still : List Sent) (rest : List Statement) (written : List ℕ) (replies : List Reply)
    → EndsSo halted rest written replies ((still ≢ []) ⊎ ((rest ≢ []) ⊎ Left))
    → EndsSo halted rest written replies ((still ≢ []) ⊎ ((rest ≢ []) ⊎ Left'))

-- anything where nothing halted, and else what is not less
pub eases-none : (Left Left' : Type 0) → Eases None Left Left'
eases-none Left Left' still rest written replies ends = ends

pub eases-some : (halt : Halt) (Left Left' : Type 0) → (Left → Left') → Eases (Some halt) Left Left'
eases-some halt Left Left' more still rest written replies ends =
    halts-weaker halt replies written ((still ≢ []) ⊎ ((rest ≢ []) ⊎ Left)) ((still ≢ []) ⊎ ((rest ≢ []) ⊎ Left'))
    (⊎_elim (λ waits. inl waits) (⊎_elim (λ others. inr (inl others)) (λ left. inr (inr (more left))))) ends

-- where a proper front was written the replies halt, whatever is left
pub halts-proper : (halt : Halt) (replies : List Reply) (written : List ℕ) (Left : Type 0) → IsProperFront written (text_of_all replies)
    → HaltsAt halt written replies Left
halts-proper WriteFault replies written Left part = part
halts-proper NoMemory replies written Left part = ((part.0, part.2), inl part)

-- a front of a reply that is not all of it
pub within-reply : (reply : Reply) (n : ℕ) → n < length (text_of reply) → IsProperFront (take n (text_of reply)) (text_of_all (reply ∷ []))
within-reply reply n short = (
  drop n (text_of reply),
  omega (arith, short, length-drop n (text_of reply)),
  text-one reply ∙ sym (take-append-drop n (text_of reply)),
)

-- where nothing was written, and something is left
pub halts-left : (Left : Type 0) → Left → HaltsAt NoMemory [] [] Left
halts-left Left left = (([], refl), inr left)

-- Which queries are answered.

-- what was taken is answered in a later core
answered-if : (old new : Lives) (taken : Option Taken) (reply : Reply) → StayAnswered old new → IsAnswered old taken reply → IsAnswered new taken reply
answered-if old new taken reply stay is = ⊎_elim (λ wants. inl wants)
    (λ answered. inr (IfSome_then taken answered (λ one asks. IfSome_then (asked_by one.told) asks (λ asked was. stay one.statement was)))) is

answered-one : (old new : Lives) (entries more : List Entry) (one : Sent) (reply : Reply) → StayAnswered old new → IsReplyTo entries one reply
    → IsAnswered old (taken_of entries one) reply → IsAnswered new (taken_of (entries ++ more) one) reply
answered-one old new entries more (Lost statement) reply stay right is = is
answered-one old new entries more (Given number point statement) reply stay right is =
    subst (λ before. IsAnswered new (Some (taken_by (pending_behind number before statement))) reply) (sym (take-append-le point entries more right.0))
    (answered-if old new (Some (taken_by (pending_behind number (take point entries) statement))) reply stay is)

-- so it is with all of them, as more entries come
pub answered-later : (old new : Lives) (entries more : List Entry) (said : List Sent) (replies : List Reply) → StayAnswered old new
    → AreRepliesTo entries said replies → AreAnswered old entries said replies → AreAnswered new (entries ++ more) said replies
answered-later old new entries more [] replies stay are answered = tt
answered-later old new entries more (one ∷ said) [] stay are answered = tt
answered-later old new entries more (one ∷ said) (reply ∷ replies) stay are answered = (
  answered-one old new entries more one reply stay are.0 answered.0,
  answered-later old new entries more said replies stay are.1 answered.1,
)

pub answered-append : (lives : Lives) (entries earlier : List Entry) (said others : List Sent) (replies more : List Reply)
    → AreRepliesTo earlier said replies → AreAnswered lives entries said replies → AreAnswered lives entries others more
    → AreAnswered lives entries (said ++ others) (replies ++ more)
answered-append lives entries earlier [] others [] more are first second = second
answered-append lives entries earlier [] others (reply ∷ replies) more are first second = absurd are
answered-append lives entries earlier (one ∷ said) others [] more are first second = absurd are
answered-append lives entries earlier (one ∷ said) others (reply ∷ replies) more are first second =
    (first.0, answered-append lives entries earlier said others replies more are.1 first.1 second)

-- One part behind another.

-- what was sent where all was
pub sent-all : (statements : List Statement) (sent : List Sent) (rest : List Statement) → statements ≡ statements_in sent ++ rest → rest ≡ []
    → statements ≡ statements_in sent
sent-all statements sent rest are none = are ∙ ap (λ others. statements_in sent ++ others) none ∙ append-nil (statements_in sent)

abbrev pub on-then : (halted : Option Halt) (seat : ℕ) (old between new : Sight) (due : List Sent) (statements others : List Statement)
    (Left Left' Left'' : Type 0) (taken0 taken taken' : Option (List ℕ)) → Eases halted Left' Left''
    → (first : PlaysOn None seat old due statements Left between taken0 taken) → PlaysOn halted seat between first.still others Left' new taken taken'
    → PlaysOn halted seat old due (statements ++ others) Left'' new taken0 taken'
on-then halted seat old between new due statements others Left Left' Left'' taken0 taken taken' eases first second = record {
  sent = first.sent ++ second.sent;
  said = first.said ++ second.said;
  still = second.still;
  replies = first.replies ++ second.replies;
  rest = second.rest;
  are = ap (λ list. list ++ others) (sent-all statements first.sent first.rest first.are first.ends.0)
      ∙ ap (λ list. statements_in first.sent ++ list) second.are
      ∙ sym (append_assoc (statements_in first.sent) (statements_in second.sent) second.rest)
      ∙ ap (λ list. list ++ second.rest) (sym (map-append statement_in first.sent second.sent));
  goes = goes-then seat old between new due first.still second.still first.sent second.sent first.said second.said first.replies second.replies
      first.goes second.goes;
  written = text_of_all first.replies ++ second.written;
  took = Appends-trans taken0 taken taken' (text_of_all first.replies) second.written
      (subst (λ text. Appends taken0 taken text) first.ends.1 first.took) second.took;
  ends = ends-behind halted first.replies second.replies second.rest second.written ((second.still ≢ []) ⊎ ((second.rest ≢ []) ⊎ Left''))
      (eases second.still second.rest second.written second.replies second.ends);
}

-- what was submitted
pub submits-on : (old between new : State) (sent others : List Sent) → SubmitsAll (givens_in sent) old between → SubmitsAll (givens_in others) between new
    → SubmitsAll (givens_in (sent ++ others)) old new
submits-on old between new sent others first second =
    subst (λ list. SubmitsAll list old new) (sym (filter_map-append given_by sent others))
    (submits-then (givens_in sent) (givens_in others) old between new first second)

abbrev pub in-then : (halted : Option Halt) (old between new : State) (due : List Sent) (statements others : List Statement)
    (Left Left' Left'' : Type 0) (taken0 taken taken' : Option (List ℕ)) → Eases halted Left' Left''
    → (first : PlaysIn None old due statements Left between taken0 taken) → PlaysIn halted between first.on.still others Left' new taken taken'
    → PlaysIn halted old due (statements ++ others) Left'' new taken0 taken'
in-then halted old between new due statements others Left Left' Left'' taken0 taken taken' eases first second = record {
  on = on-then halted 0 (sight_of old 0) (sight_of between 0) (sight_of new 0) due statements others Left Left' Left'' taken0 taken taken' eases
      first.on second.on;
  run = submits-on old between new first.on.sent second.on.sent first.run second.run;
  stay = λ query was. second.stay query (first.stay query was);
  answered = answered-append new.lives new.entries between.entries first.on.said second.on.said first.on.replies second.on.replies
      first.on.goes.answered
      (subst (λ entries. AreAnswered new.lives entries first.on.said first.on.replies) (sym second.on.goes.seen)
      (answered-later between.lives new.lives between.entries second.on.goes.since first.on.said first.on.replies second.stay
      first.on.goes.answered first.answered))
      second.answered;
}

-- all goes well in both: then anything may be said to be left
abbrev pub in-ok : (old between new : State) (due : List Sent) (statements others : List Statement) (Left Left' Left'' : Type 0)
    (taken0 taken taken' : Option (List ℕ)) → (first : PlaysIn None old due statements Left between taken0 taken)
    → PlaysIn None between first.on.still others Left' new taken taken' → PlaysIn None old due (statements ++ others) Left'' new taken0 taken'
in-ok old between new due statements others Left Left' Left'' taken0 taken taken' =
    in-then None old between new due statements others Left Left' Left'' taken0 taken taken' (eases-none Left' Left'')

-- the second halts
abbrev pub in-err : (halt : Halt) (old between new : State) (due : List Sent) (statements others : List Statement) (Left Left' Left'' : Type 0)
    (taken0 taken taken' : Option (List ℕ)) → (Left' → Left'') → (first : PlaysIn None old due statements Left between taken0 taken)
    → PlaysIn (Some halt) between first.on.still others Left' new taken taken'
    → PlaysIn (Some halt) old due (statements ++ others) Left'' new taken0 taken'
in-err halt old between new due statements others Left Left' Left'' taken0 taken taken' more =
    in-then (Some halt) old between new due statements others Left Left' Left'' taken0 taken taken' (eases-some halt Left' Left'' more)

-- the same by results, with whether some reply is a refusal
abbrev pub by-ok : (refused some : Bool) (old between new : State) (due : List Sent) (statements others : List Statement)
    (Left Left' Left'' : Type 0) (taken0 taken taken' : Option (List ℕ)) → (first : PlaysBy (Ok refused) old due statements Left between taken0 taken)
    → PlaysBy (Ok some) between first.0.on.still others Left' new taken taken'
    → PlaysBy (Ok (refused || some)) old due (statements ++ others) Left'' new taken0 taken'
by-ok refused some old between new due statements others Left Left' Left'' taken0 taken taken' first second = (
  in-ok old between new due statements others Left Left' Left'' taken0 taken taken' first.0 second.0,
  ap (λ test. test || some) first.1 ∙ ap (λ test. list_any is_refusal first.0.on.replies || test) second.1
      ∙ sym (list_any-append is_refusal first.0.on.replies second.0.on.replies),
)

abbrev pub by-err : (refused : Bool) (halt : Halt) (old between new : State) (due : List Sent) (statements others : List Statement)
    (Left Left' Left'' : Type 0) (taken0 taken taken' : Option (List ℕ)) → (Left' → Left'')
    → (first : PlaysBy (Ok refused) old due statements Left between taken0 taken) → PlaysBy (Err halt) between first.0.on.still others Left' new taken taken'
    → PlaysBy (Err halt) old due (statements ++ others) Left'' new taken0 taken'
by-err refused halt old between new due statements others Left Left' Left'' taken0 taken taken' more first second =
    (in-err halt old between new due statements others Left Left' Left'' taken0 taken taken' more first.0 second.0, tt)

-- something else may be left
abbrev pub eased : (halted : Option Halt) (old new : State) (due : List Sent) (statements : List Statement) (Left Left' : Type 0)
    (taken taken' : Option (List ℕ)) → Eases halted Left Left' → PlaysIn halted old due statements Left new taken taken'
    → PlaysIn halted old due statements Left' new taken taken'
eased halted old new due statements Left Left' taken taken' eases plays = record {
  on = record {
    sent = plays.on.sent;
    said = plays.on.said;
    still = plays.on.still;
    replies = plays.on.replies;
    rest = plays.on.rest;
    are = plays.on.are;
    goes = plays.on.goes;
    written = plays.on.written;
    took = plays.on.took;
    ends = eases plays.on.still plays.on.rest plays.on.written plays.on.replies plays.on.ends;
  };
  run = plays.run;
  stay = plays.stay;
  answered = plays.answered;
}

-- all was done, and something is left for which there was no memory
pub wants-left : (refused : Bool) (old new : State) (due : List Sent) (statements : List Statement) (Left Left' : Type 0)
    (taken taken' : Option (List ℕ)) → Left' → PlaysBy (Ok refused) old due statements Left new taken taken'
    → PlaysBy (Err NoMemory) old due statements Left' new taken taken'
wants-left refused old new due statements Left Left' taken taken' left plays = (
  record {
    on = record {
      sent = on.sent;
      said = on.said;
      still = on.still;
      replies = on.replies;
      rest = on.rest;
      are = on.are;
      goes = on.goes;
      written = on.written;
      took = on.took;
      ends = (([], sym on.ends.1 ∙ sym (append-nil on.written)), inr (inr (inr left)));
    };
    run = plays.0.run;
    stay = plays.0.stay;
    answered = plays.0.answered;
  },
  tt,
)
  where
    on : PlaysOn None 0 (sight_of old 0) due statements Left (sight_of new 0) taken taken'
    on = plays.0.on

-- What is waited for.

-- nothing is waited for where nothing is pending
pub due-none : (seat : ℕ) (state : State) → (seat_at state seat).pending ≡ [] → IsDue seat (sight_of state seat) []
due-none seat state idle = record {
  pending = idle;
  points = All-nil _;
  given = All-nil IsGiven;
  made = refl;
}

-- and where nothing is pending nothing was waited for
pub still-none : (entries : List Entry) (due : List Sent) → All IsGiven due → pendings_of entries due ≡ [] → due ≡ []
still-none entries [] given none = refl
still-none entries (Lost statement ∷ due) given none = absurd (All-head IsGiven (Lost statement) due given)
still-none entries (Given number point statement ∷ due) given none = absurd (let both : pending_behind number (take point entries) statement ∷ pendings_of entries due ≡ [] = none in cc)

pub idle-still : (state : State) (due : List Sent) → IsDue 0 (sight_of state 0) due → (seat_at state 0).pending ≡ [] → due ≡ []
idle-still state due waits idle = still-none state.entries due waits.given (sym waits.pending ∙ idle)

-- the first that is waited for
pub record FirstDue (entries : List Entry) (due : List Sent) (pending : Pending) : Type 0 where
  pub number : ℕ
  pub point : ℕ
  pub statement : Statement
  pub rest : List Sent
  pub all : due ≡ Given number point statement ∷ rest
  pub is : pending ≡ pending_behind number (take point entries) statement

pub first-due : (entries : List Entry) (due : List Sent) (pending : Pending) (others : List Pending) → All IsGiven due
    → pending ∷ others ≡ pendings_of entries due → FirstDue entries due pending
first-due entries [] pending others given is = absurd (let both : pending ∷ others ≡ [] = is in cc)
first-due entries (Lost statement ∷ due) pending others given is = absurd (All-head IsGiven (Lost statement) due given)
first-due entries (Given number point statement ∷ due) pending others given is = record {
  number = number;
  point = point;
  statement = statement;
  rest = due;
  all = refl;
  is = (let both : pending ∷ others ≡ pending_behind number (take point entries) statement ∷ pendings_of entries due = is in cc);
}

-- What goes on where nothing is sent and no reply taken.

-- nothing happens
pub passes-itself : (sight : Sight) → Passes sight sight
passes-itself sight =
    record { submitted = refl; made = refl; pending = refl; taken = refl; since = []; seen = sym (append-nil sight.seen) }

abbrev pub by-passes : (old new : State) (due : List Sent) (taken : Option (List ℕ)) → IsDue 0 (sight_of old 0) due → Passes (sight_of old 0) (sight_of new 0)
    → SubmitsAll [] old new → StayAnswered old.lives new.lives → PlaysBy (Ok false) old due [] ⊥ new taken taken
by-passes old new due taken waits passes run stay = (
  record {
    on = record {
      sent = [];
      said = [];
      still = due;
      replies = [];
      rest = [];
      are = refl;
      goes = goes-passes 0 (sight_of old 0) (sight_of new 0) due waits refl passes;
      written = [];
      took = Appends-nil taken;
      ends = (refl, refl);
    };
    run = run;
    stay = stay;
    answered = tt;
  },
  refl,
)

abbrev pub by-none : (state : State) (due : List Sent) (taken : Option (List ℕ)) → IsDue 0 (sight_of state 0) due
    → PlaysBy (Ok false) state due [] ⊥ state taken taken
by-none state due taken waits = by-passes state state due taken waits (passes-itself (sight_of state 0)) (submits-none state) (λ query was. was)
