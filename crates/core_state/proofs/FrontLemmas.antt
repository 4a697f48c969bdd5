-- A seat as a queue: one part of its course behind another, and each step that a seat may make.
use Rattle.core_state.proofs.Words.{◌++◌, ◌∙◌, ◌∷◌, ◌≡◌, ◌≢◌, ◌≤◌, [], All, All-append, All-head, All-nil, All-tail, ap, append-nil, append_assoc, arith, Bool, cond, cons_option, Entry, eqb, false, filter, length, length-append, List, map, map-append, option_map, refl, Some, Statement, subst, sym, true, ℕ}
use Rattle.std.proofs.lemmas.Bool.{eqb-false}
use Rattle.std.proofs.lemmas.List.{take-append-le}
use Rattle.std.proofs.lemmas.List.Elements.{All-cons, All-weaker, filter-append, filter_map-append}
use Rattle.std.proofs.Math.Seq.{take-append_seam}
use Rattle.std.specs.Prelude.{take}
use Rattle.reply_text.specs.declared.reply.Reply.{Reply}
use Rattle.reply_text.specs.declared.reply.Reply.TheVariants.{Memory}
use Rattle.core_state.specs.Fronts.{Goes, IsDue, IsPointWithin, Passes, SubmitsRow, TakesRow}
use Rattle.core_state.specs.Rows.{Sight, made_by}
use Rattle.core_state.specs.Sent.{AreEntriesOf, AreOfOthers, AreRepliesTo, Given, IsGiven, IsReplyBehind, IsReplyTo, Lost, Sent, entry_made, numbers_in, number_in, pending_behind, pending_of, pendings_of, taken_of, takens_of}
use Rattle.core_state.specs.Submitting.{taken_by}

-- What is read behind the first entries stays as more come.

pub pending-more : (entries more : List Entry) (one : Sent) → IsPointWithin (length entries) one
    → pending_of (entries ++ more) one ≡ pending_of entries one
pending-more entries more (Lost statement) within = refl
pending-more entries more (Given number point statement) within =
    ap (λ before. Some (pending_behind number before statement)) (take-append-le point entries more within)

pub pendings-more : (entries more : List Entry) (due : List Sent) → All (IsPointWithin (length entries)) due
    → pendings_of (entries ++ more) due ≡ pendings_of entries due
pendings-more entries more [] points = refl
pendings-more entries more (one ∷ due) points =
    ap (λ first. cons_option first (pendings_of (entries ++ more) due))
    (pending-more entries more one (All-head (IsPointWithin (length entries)) one due points))
    ∙ ap (cons_option (pending_of entries one)) (pendings-more entries more due (All-tail (IsPointWithin (length entries)) one due points))

takens-more : (entries more : List Entry) (said : List Sent) → All (IsPointWithin (length entries)) said
    → takens_of (entries ++ more) said ≡ takens_of entries said
takens-more entries more [] points = refl
takens-more entries more (one ∷ said) points =
    ap (λ first. cons_option (option_map taken_by first) (takens_of (entries ++ more) said))
    (pending-more entries more one (All-head (IsPointWithin (length entries)) one said points))
    ∙ ap (cons_option (taken_of entries one)) (takens-more entries more said (All-tail (IsPointWithin (length entries)) one said points))

point-weaker : (low high : ℕ) → low ≤ high → (one : Sent) → IsPointWithin low one → IsPointWithin high one
point-weaker low high less (Lost statement) within = tt
point-weaker low high less (Given number point statement) within = omega arith

points-more : (entries more : List Entry) (due : List Sent) → All (IsPointWithin (length entries)) due
    → All (IsPointWithin (length (entries ++ more))) due
points-more entries more due points =
    All-weaker (IsPointWithin (length entries)) (IsPointWithin (length (entries ++ more)))
    (point-weaker (length entries) (length (entries ++ more)) (let both = length-append entries more in omega arith)) due points

reply-more : (entries more : List Entry) (one : Sent) (reply : Reply) → IsReplyTo entries one reply → IsReplyTo (entries ++ more) one reply
reply-more entries more (Lost statement) reply is = is
reply-more entries more (Given number point statement) reply is = (
  let low = is.0 in let both = length-append entries more in omega arith,
  subst (λ before. IsReplyBehind before statement reply) (sym (take-append-le point entries more is.0)) is.1,
)

replies-more : (entries more : List Entry) (sent : List Sent) (replies : List Reply) → AreRepliesTo entries sent replies
    → AreRepliesTo (entries ++ more) sent replies
replies-more entries more [] [] are = tt
replies-more entries more [] (reply ∷ replies) are = absurd are
replies-more entries more (one ∷ sent) [] are = absurd are
replies-more entries more (one ∷ sent) (reply ∷ replies) are =
    (reply-more entries more one reply are.0, replies-more entries more sent replies are.1)

replies-append : (entries : List Entry) (sent others : List Sent) (replies more : List Reply) → AreRepliesTo entries sent replies
    → AreRepliesTo entries others more → AreRepliesTo entries (sent ++ others) (replies ++ more)
replies-append entries [] others [] more are behind = behind
replies-append entries [] others (reply ∷ replies) more are behind = absurd are
replies-append entries (one ∷ sent) others [] more are behind = absurd are
replies-append entries (one ∷ sent) others (reply ∷ replies) more are behind =
    (are.0, replies-append entries sent others replies more are.1 behind)

-- what was replied to has its point within the entries
said-within : (entries : List Entry) (sent : List Sent) (replies : List Reply) → AreRepliesTo entries sent replies
    → All (IsPointWithin (length entries)) sent
said-within entries [] replies are = All-nil (IsPointWithin (length entries))
said-within entries (one ∷ sent) [] are = absurd are
said-within entries (Lost statement ∷ sent) (reply ∷ replies) are =
    All-cons (IsPointWithin (length entries)) (Lost statement) sent tt (said-within entries sent replies are.1)
said-within entries (Given number point statement ∷ sent) (reply ∷ replies) are =
    All-cons (IsPointWithin (length entries)) (Given number point statement) sent are.0.0 (said-within entries sent replies are.1)

-- Which entries came.

-- entries of others in front
entries-others : (seat : ℕ) (before since : List Entry) (sent : List Sent) (later : List Entry) → AreOfOthers seat since
    → AreEntriesOf seat (before ++ since) sent later → AreEntriesOf seat before sent (since ++ later)
entries-others seat before since [] later apart of = All-append (λ entry. entry.seat ≢ seat) since later apart of
entries-others seat before since (Lost statement ∷ sent) later apart of = entries-others seat before since sent later apart of
entries-others seat before since (Given number point statement ∷ sent) later apart (others, after, is, of, place, rest) = (
  since ++ others,
  after,
  ap (λ list. since ++ list) is ∙ sym (append_assoc since others (made ++ after)) ∙ ap (λ entry. (since ++ others) ++ (entry ++ after)) same,
  All-append (λ entry. entry.seat ≢ seat) since others apart of,
  place ∙ ap length joined,
  subst (λ list. AreEntriesOf seat list sent after)
      (append_assoc before since (others ++ made)
      ∙ ap (λ list. before ++ list) (sym (append_assoc since others made) ∙ ap (λ entry. (since ++ others) ++ entry) same)) rest,
)
  where
    made : List Entry
    made = entry_made seat number ((before ++ since) ++ others) statement

    joined : (before ++ since) ++ others ≡ before ++ (since ++ others)
    joined = append_assoc before since others

    same : made ≡ entry_made seat number (before ++ (since ++ others)) statement
    same = ap (λ list. entry_made seat number list statement) joined

-- all entries, and where those before end behind one that was made
pub entries-behind : (before others made after since : List Entry) → since ≡ others ++ (made ++ after)
    → before ++ since ≡ (before ++ (others ++ made)) ++ after
entries-behind before others made after since is =
    ap (λ list. before ++ list) (is ∙ sym (append_assoc others made after)) ∙ sym (append_assoc before (others ++ made) after)

entries-then : (seat : ℕ) (before : List Entry) (sent : List Sent) (since : List Entry) (more : List Sent) (later : List Entry)
    → AreEntriesOf seat before sent since → AreEntriesOf seat (before ++ since) more later → AreEntriesOf seat before (sent ++ more) (since ++ later)
entries-then seat before [] since more later first second = entries-others seat before since more later first second
entries-then seat before (Lost statement ∷ sent) since more later first second =
    entries-then seat before sent since more later first second
entries-then seat before (Given number point statement ∷ sent) since more later (others, after, is, of, place, rest) second = (
  others,
  after ++ later,
  ap (λ list. list ++ later) is ∙ append_assoc others (made ++ after) later ∙ ap (λ list. others ++ list) (append_assoc made after later),
  of,
  place,
  entries-then seat (before ++ (others ++ made)) sent after more later rest
      (subst (λ list. AreEntriesOf seat list more later) (entries-behind before others made after since is) second),
)
  where
    made : List Entry
    made = entry_made seat number (before ++ others) statement

-- entries of which a seat made none are of others
none-made : (seat : ℕ) (since : List Entry) → made_by seat since ≡ [] → AreOfOthers seat since
none-made seat [] none = All-nil (λ entry. entry.seat ≢ seat)
none-made seat (entry ∷ since) none = by_test (none-made seat since) (eqb entry.seat seat) refl none
  where
    by_test : (made_by seat since ≡ [] → AreOfOthers seat since) → (test : Bool) → eqb entry.seat seat ≡ test
        → map (λ e. e.statement) (cond test (entry ∷ filter (λ e. eqb e.seat seat) since) (filter (λ e. eqb e.seat seat) since)) ≡ []
        → AreOfOthers seat (entry ∷ since)
    by_test rest true is e = absurd (let some : entry.statement ∷ made_by seat since ≡ [] = e in cc)
    by_test rest false is e = All-cons (λ e. e.seat ≢ seat) entry since (λ same. eqb-false entry.seat seat is same) (rest e)

-- what a seat made of two parts
pub made-append : (seat : ℕ) (entries since : List Entry) → made_by seat (entries ++ since) ≡ made_by seat entries ++ made_by seat since
made-append seat entries since =
    ap (map (λ entry. entry.statement)) (filter-append (λ entry. eqb entry.seat seat) entries since)
    ∙ map-append (λ entry. entry.statement) (filter (λ entry. eqb entry.seat seat) entries) (filter (λ entry. eqb entry.seat seat) since)

-- a list that is not longer by more has no more
nothing-more : {A : Type 0} (list more : List A) → list ++ more ≡ list → more ≡ []
nothing-more list [] same = refl
nothing-more list (first ∷ more) same =
    absurd (let longer = length-append list (first ∷ more) in let as_long = ap length same in omega arith)

-- The course of a seat.

module _ (seat : ℕ) where
  -- one part behind another
  pub goes-then : (old between new : Sight) (due due' due'' sent sent' said said' : List Sent) (replies replies' : List Reply)
      → Goes seat old due between due' sent said replies → Goes seat between due' new due'' sent' said' replies'
      → Goes seat old due new due'' (sent ++ sent') (said ++ said') (replies ++ replies')
  goes-then old between new due due' due'' sent sent' said said' replies replies' first second = record {
    since = first.since ++ second.since;
    seen = second.seen ∙ ap (λ list. list ++ second.since) first.seen ∙ append_assoc old.seen first.since second.since;
    entries = entries-then seat old.seen sent first.since sent' second.since first.entries
        (subst (λ list. AreEntriesOf seat list sent' second.since) first.seen second.entries);
    queue = sym (append_assoc due sent sent') ∙ ap (λ list. list ++ sent') first.queue ∙ append_assoc said due' sent'
        ∙ ap (λ list. said ++ list) second.queue ∙ sym (append_assoc said said' due'');
    submitted = second.submitted ∙ ap (λ list. list ++ numbers_in sent') first.submitted
        ∙ append_assoc old.row.submitted (numbers_in sent) (numbers_in sent')
        ∙ ap (λ list. old.row.submitted ++ list) (sym (filter_map-append number_in sent sent'));
    taken = second.taken ∙ ap (λ list. list ++ takens_of new.seen said') first.taken
        ∙ append_assoc old.row.taken (takens_of between.seen said) (takens_of new.seen said')
        ∙ ap (λ list. old.row.taken ++ list) (ap (λ list. list ++ takens_of new.seen said') (sym stays)
        ∙ sym (filter_map-append (taken_of new.seen) said said'));
    answered = replies-append new.seen said said' replies replies'
        (subst (λ list. AreRepliesTo list said replies) (sym second.seen) (replies-more between.seen second.since said replies first.answered))
        second.answered;
    waits = second.waits;
  }
    where
      stays : takens_of new.seen said ≡ takens_of between.seen said
      stays = ap (λ list. takens_of list said) second.seen
          ∙ takens-more between.seen second.since said (said-within between.seen said replies first.answered)

  -- others made entries, or nobody did
  pub goes-passes : (old new : Sight) (due : List Sent) → IsDue seat old due → new.row.made ≡ made_by seat new.seen → Passes old new
      → Goes seat old due new due [] [] []
  goes-passes old new due waits made passes = record {
    since = passes.since;
    seen = passes.seen;
    entries = none-made seat passes.since (nothing-more (made_by seat old.seen) (made_by seat passes.since)
        (sym (made-append seat old.seen passes.since) ∙ ap (made_by seat) (sym passes.seen) ∙ sym made ∙ passes.made ∙ waits.made));
    queue = append-nil due;
    submitted = passes.submitted ∙ sym (append-nil old.row.submitted);
    taken = passes.taken ∙ sym (append-nil old.row.taken);
    answered = tt;
    waits = record {
      pending = passes.pending ∙ waits.pending
          ∙ sym (ap (λ list. pendings_of list due) passes.seen ∙ pendings-more old.seen passes.since due waits.points);
      points = subst (λ list. All (IsPointWithin (length list)) due) (sym passes.seen) (points-more old.seen passes.since due waits.points);
      given = waits.given;
      made = made;
    };
  }

  -- a statement was submitted
  pub goes-submits : (old new : Sight) (due : List Sent) (number : ℕ) (statement : Statement) → IsDue seat old due
      → new.row.made ≡ made_by seat new.seen → SubmitsRow seat number statement old new
      → Goes seat old due new (due ++ Given number (length old.seen) statement ∷ []) (Given number (length old.seen) statement ∷ []) [] []
  goes-submits old new due number statement waits made submits = record {
    since = entry_made seat number old.seen statement;
    seen = submits.seen;
    entries = (
      [],
      [],
      sym (append-nil (entry_made seat number (old.seen ++ []) statement) ∙ ap (λ list. entry_made seat number list statement) (append-nil old.seen)),
      All-nil (λ entry. entry.seat ≢ seat),
      ap length (sym (append-nil old.seen)),
      All-nil (λ entry. entry.seat ≢ seat),
    );
    queue = refl;
    submitted = submits.submitted;
    taken = submits.taken ∙ sym (append-nil old.row.taken);
    answered = tt;
    waits = record {
      pending = submits.pending ∙ ap (λ list. list ++ pending_behind number old.seen statement ∷ []) (waits.pending
          ∙ sym (ap (λ list. pendings_of list due) submits.seen ∙ pendings-more old.seen (entry_made seat number old.seen statement) due waits.points))
          ∙ ap (λ before. pendings_of new.seen due ++ pending_behind number before statement ∷ [])
          (sym (ap (take (length old.seen)) submits.seen ∙ take-append_seam old.seen (entry_made seat number old.seen statement)))
          ∙ sym (filter_map-append (pending_of new.seen) due (Given number (length old.seen) statement ∷ []));
      points = All-append (IsPointWithin (length new.seen)) due (Given number (length old.seen) statement ∷ [])
          (subst (λ list. All (IsPointWithin (length list)) due) (sym submits.seen)
          (points-more old.seen (entry_made seat number old.seen statement) due waits.points))
          (All-cons (IsPointWithin (length new.seen)) (Given number (length old.seen) statement) []
          (let long = ap length submits.seen ∙ length-append old.seen (entry_made seat number old.seen statement) in omega arith)
          (All-nil (IsPointWithin (length new.seen))));
      given = All-append IsGiven due (Given number (length old.seen) statement ∷ []) waits.given
          (All-cons IsGiven (Given number (length old.seen) statement) [] tt (All-nil IsGiven));
      made = made;
    };
  }

  -- no memory was left for a statement, and behind all earlier replies it has the reply `memory`
  pub goes-lost : (sight : Sight) (statement : Statement) → IsDue seat sight []
      → Goes seat sight [] sight [] (Lost statement ∷ []) (Lost statement ∷ []) (Memory ∷ [])
  goes-lost sight statement waits = record {
    since = [];
    seen = sym (append-nil sight.seen);
    entries = All-nil (λ entry. entry.seat ≢ seat);
    queue = refl;
    submitted = sym (append-nil sight.row.submitted);
    taken = sym (append-nil sight.row.taken);
    answered = (refl, tt);
    waits = waits;
  }

  -- the reply to the first that was waited for was taken
  pub goes-takes : (old new : Sight) (due : List Sent) (number point : ℕ) (statement : Statement) (reply : Reply)
      → IsDue seat old (Given number point statement ∷ due) → new.row.made ≡ made_by seat new.seen
      → TakesRow (pending_behind number (take point old.seen) statement) old new → IsReplyBehind (take point old.seen) statement reply
      → Goes seat old (Given number point statement ∷ due) new due [] (Given number point statement ∷ []) (reply ∷ [])
  goes-takes old new due number point statement reply waits made takes right = record {
    since = [];
    seen = takes.seen ∙ sym (append-nil old.seen);
    entries = All-nil (λ entry. entry.seat ≢ seat);
    queue = append-nil (Given number point statement ∷ due);
    submitted = takes.submitted ∙ sym (append-nil old.row.submitted);
    taken = takes.taken ∙ ap (λ list. old.row.taken ++ taken_by (pending_behind number (take point list) statement) ∷ []) (sym takes.seen);
    answered = (subst (λ list. IsReplyTo list (Given number point statement) reply) (sym takes.seen) (low, right), tt);
    waits = record {
      pending = left (takes.pending) ∙ ap (λ list. pendings_of list due) (sym takes.seen);
      points = subst (λ list. All (IsPointWithin (length list)) due) (sym takes.seen)
          (All-tail (IsPointWithin (length old.seen)) (Given number point statement) due waits.points);
      given = All-tail IsGiven (Given number point statement) due waits.given;
      made = made;
    };
  }
    where
      low : point ≤ length old.seen
      low = All-head (IsPointWithin (length old.seen)) (Given number point statement) due waits.points

      left : old.row.pending ≡ pending_behind number (take point old.seen) statement ∷ new.row.pending → new.row.pending ≡ pendings_of old.seen due
      left is =
          let both : pending_behind number (take point old.seen) statement ∷ new.row.pending
          ≡ pending_behind number (take point old.seen) statement ∷ pendings_of old.seen due = sym is ∙ waits.pending in cc
