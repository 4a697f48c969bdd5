-- Where the statements of a seat stand in the list of entries, and what was sent in two parts.
use Rattle.core_state.proofs.Words.{◌++◌, ◌+◌, ◌∙◌, ◌∷◌, ◌≡◌, ◌≢◌, ◌≤◌, [], All, All-cons, All-head, All-nil, All-tail, ap, append-nil, append_assoc, arith, Bool, Change, cond, Entry, eq-eqb, eqb, filter, filter-append, flat_map, length, length-append, List, map, ne_eqb, None, Option, outcome_of, refl, Some, subst, sym, tables_by, take, ℕ}
use Rattle.std.proofs.lemmas.List.{take-append-le, take_at}
use Rattle.std.specs.Prelude.{option_to_list}
use Rattle.reply_text.specs.declared.reply.Reply.{Reply}
use Rattle.core_state.specs.Fronts.{IsPointWithin}
use Rattle.core_state.specs.Points.{ComeInParts, Rise, StandsAtPoint, entry_at}
use Rattle.core_state.specs.Sent.{AreEntriesOf, AreOfOthers, AreRepliesTo, Given, IsReplyBehind, IsReplyTo, Lost, Sent, entry_made}
use Rattle.core_state.proofs.FrontLemmas.{entries-behind}

-- Where a statement stands.

-- the entries before the point of a statement
front-at : (before others behind since entries : List Entry) (point : ℕ) → since ≡ others ++ behind → point ≡ length (before ++ others)
    → entries ≡ before ++ since → take point entries ≡ before ++ others
front-at before others behind since entries point is place same =
    ap (take point) (same ∙ ap (λ list. before ++ list) is ∙ sym (append_assoc before others behind))
    ∙ take_at (before ++ others) behind point (sym place)

-- the points of what was sent are within the entries before and those that came
pub points-within : (seat : ℕ) (before : List Entry) (sent : List Sent) (since : List Entry) → AreEntriesOf seat before sent since
    → All (IsPointWithin (length (before ++ since))) sent
points-within seat before [] since of = All-nil (IsPointWithin (length (before ++ since)))
points-within seat before (Lost statement ∷ sent) since of =
    All-cons (IsPointWithin (length (before ++ since))) (Lost statement) sent tt (points-within seat before sent since of)
points-within seat before (Given number point statement ∷ sent) since (others, after, is, of, place, rest) =
    All-cons (IsPointWithin (length (before ++ since))) (Given number point statement) sent within
    (subst (λ list. All (IsPointWithin (length list)) sent) (sym (entries-behind before others made after since is))
    (points-within seat (before ++ (others ++ made)) sent after rest))
  where
    made : List Entry
    made = entry_made seat number (before ++ others) statement

    within : point ≤ length (before ++ since)
    within =
        let long = ap length (ap (λ list. before ++ list) is ∙ sym (append_assoc before others (made ++ after))) in
        let parts = length-append (before ++ others) (made ++ after) in
        omega arith

-- points rise
pub points-rise : (seat : ℕ) (before : List Entry) (sent : List Sent) (since entries : List Entry) → AreEntriesOf seat before sent since
    → entries ≡ before ++ since → Rise seat entries (length before) sent
points-rise seat before [] since entries of same = let long = ap length same ∙ length-append before since in omega arith
points-rise seat before (Lost statement ∷ sent) since entries of same = points-rise seat before sent since entries of same
points-rise seat before (Given number point statement ∷ sent) since entries (others, after, is, of, place, rest) same = (
  let parts = length-append before others in omega arith,
  subst (λ low. Rise seat entries low sent) next
      (points-rise seat (before ++ (others ++ made)) sent after entries rest (same ∙ entries-behind before others made after since is)),
)
  where
    made : List Entry
    made = entry_made seat number (before ++ others) statement

    next : length (before ++ (others ++ made)) ≡ point + length (entry_made seat number (take point entries) statement)
    next =
        let joined = ap length (sym (append_assoc before others made)) ∙ length-append (before ++ others) made in
        let same_made : length (entry_made seat number (take point entries) statement) ≡ length made =
        ap (λ front. length (entry_made seat number front statement)) (front-at before others (made ++ after) since entries point is place same) in
        omega arith

-- Which entries are of the seat.

-- entries of others are none of the seat
none-own : (seat : ℕ) (entries : List Entry) → AreOfOthers seat entries → filter (λ entry. eqb entry.seat seat) entries ≡ []
none-own seat [] of = refl
none-own seat (entry ∷ entries) of =
    ap (λ test. cond {A = List Entry} test (entry ∷ filter (λ e. eqb e.seat seat) entries) (filter (λ e. eqb e.seat seat) entries))
    (ne_eqb entry.seat seat (All-head (λ e. e.seat ≢ seat) entry entries of))
    ∙ none-own seat entries (All-tail (λ e. e.seat ≢ seat) entry entries of)

-- the entry that a statement makes is of its seat
made-own : (seat number : ℕ) (change : Option Change)
    → filter (λ (entry : Entry). eqb entry.seat seat) (map (λ c. record { seat = seat; statement = number; change = c }) (option_to_list change))
    ≡ map (λ c. record { seat = seat; statement = number; change = c }) (option_to_list change)
made-own seat number None = refl
made-own seat number (Some change) =
    ap (λ test. cond {A = List Entry} test (record { seat = seat; statement = number; change = change } ∷ []) []) (eq-eqb seat seat refl)

-- the entries of the seat are those that were made of what it sent
pub points-own : (seat : ℕ) (before : List Entry) (sent : List Sent) (since entries : List Entry) → AreEntriesOf seat before sent since
    → entries ≡ before ++ since → filter (λ entry. eqb entry.seat seat) since ≡ flat_map (entry_at seat entries) sent
points-own seat before [] since entries of same = none-own seat since of
points-own seat before (Lost statement ∷ sent) since entries of same = points-own seat before sent since entries of same
points-own seat before (Given number point statement ∷ sent) since entries (others, after, is, of, place, rest) same =
    ap (filter own) is ∙ filter-append own others (made ++ after) ∙ ap (λ list. list ++ filter own (made ++ after)) (none-own seat others of)
    ∙ filter-append own made after
    ∙ ap (λ list. list ++ filter own after) (made-own seat number (outcome_of (tables_by (before ++ others)) statement).change)
    ∙ ap (λ list. made ++ list)
    (points-own seat (before ++ (others ++ made)) sent after entries rest (same ∙ entries-behind before others made after since is))
    ∙ ap (λ front. entry_made seat number front statement ++ flat_map (entry_at seat entries) sent)
    (sym (front-at before others (made ++ after) since entries point is place same))
  where
    own : Entry → Bool
    own entry = eqb entry.seat seat

    made : List Entry
    made = entry_made seat number (before ++ others) statement

-- each entry stands at the point of its statement
pub points-stand : (seat : ℕ) (before : List Entry) (sent : List Sent) (since entries : List Entry) → AreEntriesOf seat before sent since
    → entries ≡ before ++ since → All (StandsAtPoint seat entries) sent
points-stand seat before [] since entries of same = All-nil (StandsAtPoint seat entries)
points-stand seat before (Lost statement ∷ sent) since entries of same =
    All-cons (StandsAtPoint seat entries) (Lost statement) sent tt (points-stand seat before sent since entries of same)
points-stand seat before (Given number point statement ∷ sent) since entries (others, after, is, of, place, rest) same =
    All-cons (StandsAtPoint seat entries) (Given number point statement) sent (after, here)
    (points-stand seat (before ++ (others ++ made)) sent after entries rest (same ∙ entries-behind before others made after since is))
  where
    made : List Entry
    made = entry_made seat number (before ++ others) statement

    here : entries ≡ take point entries ++ (entry_made seat number (take point entries) statement ++ after)
    here = same ∙ ap (λ list. before ++ list) is ∙ sym (append_assoc before others (made ++ after))
        ∙ ap (λ front. front ++ (entry_made seat number front statement ++ after))
        (sym (front-at before others (made ++ after) since entries point is place same))

-- What was sent in two parts.

-- the entries of what was sent in two parts come in two parts: the first ends at the point of the last that was sent in the first part and
-- has a number, behind the entry that this one made, if it made one, and the entries of others from there on are of the other part
pub entries-split : (seat : ℕ) (before : List Entry) (sent more : List Sent) (since : List Entry) → AreEntriesOf seat before (sent ++ more) since
    → ComeInParts seat before sent more since
entries-split seat before [] more since of = record {
  first = [];
  later = since;
  all = refl;
  of_first = All-nil (λ entry. entry.seat ≢ seat);
  of_later = subst (λ list. AreEntriesOf seat list more since) (sym (append-nil before)) of;
}
entries-split seat before (Lost statement ∷ sent) more since of =
    let parts = entries-split seat before sent more since of in
    record { first = parts.first; later = parts.later; all = parts.all; of_first = parts.of_first; of_later = parts.of_later }
entries-split seat before (Given number point statement ∷ sent) more since (others, after, is, of, place, rest) =
    split (entries-split seat (before ++ (others ++ made)) sent more after rest)
  where
    made : List Entry
    made = entry_made seat number (before ++ others) statement

    split : ComeInParts seat (before ++ (others ++ made)) sent more after → ComeInParts seat before (Given number point statement ∷ sent) more since
    split parts = record {
      first = others ++ (made ++ parts.first);
      later = parts.later;
      all = is ∙ ap (λ list. others ++ (made ++ list)) parts.all ∙ ap (λ list. others ++ list) (sym (append_assoc made parts.first parts.later))
          ∙ sym (append_assoc others (made ++ parts.first) parts.later);
      of_first = (others, parts.first, refl, of, place, parts.of_first);
      of_later = subst (λ list. AreEntriesOf seat list more parts.later)
          (sym (entries-behind before others made parts.first (others ++ (made ++ parts.first)) refl)) parts.of_later;
    }

-- a reply that is right over more entries is right over those that the point is within
reply-less : (entries more : List Entry) (one : Sent) (reply : Reply) → IsPointWithin (length entries) one → IsReplyTo (entries ++ more) one reply
    → IsReplyTo entries one reply
reply-less entries more (Lost statement) reply within is = is
reply-less entries more (Given number point statement) reply within is =
    (within, subst (λ before. IsReplyBehind before statement reply) (take-append-le point entries more within) is.1)

-- so are the replies to all that was sent
pub replies-less : (entries more : List Entry) (sent : List Sent) (replies : List Reply) → All (IsPointWithin (length entries)) sent
    → AreRepliesTo (entries ++ more) sent replies → AreRepliesTo entries sent replies
replies-less entries more [] [] points are = tt
replies-less entries more [] (reply ∷ replies) points are = absurd are
replies-less entries more (one ∷ sent) [] points are = absurd are
replies-less entries more (one ∷ sent) (reply ∷ replies) points are = (
  reply-less entries more one reply (All-head (IsPointWithin (length entries)) one sent points) are.0,
  replies-less entries more sent replies (All-tail (IsPointWithin (length entries)) one sent points) are.1,
)
