-- Accepted queries whose numbers rise: where one stands, what is kept beside it, and which were handed on.
use Rattle.std.proofs.Common.{◌≡◌, ◌≢◌, ℕ, zero, suc, ◌<◌, Bool, true, false, not, cond, eqb, List, [], ◌∷◌, ◌++◌, get_or, set, map, length, Option, Some, None, IsSome, option_map, slice_get, refl, ap, sym, subst, ◌∙◌, drop, arith}
use Rattle.std.specs.List.{All, Contains, filter, find, position, refill}
use Rattle.std.specs.Option.{option_and_then}
use Rattle.std.proofs.Math.Seq.{map-set_same}
use Rattle.std.proofs.lemmas.Bool.{eqb-true, false≢true}
use Rattle.std.proofs.lemmas.List.{get_or-map, length-map}
use Rattle.std.proofs.lemmas.List.Elements.{All-cons, All-contains_itself, All-head, All-tail}
use Rattle.std.proofs.lemmas.List.Quantifiers.{position-Some}
use Rattle.aggregations.specs.Grouped.{Grouped}
use Rattle.star_values.proofs.PlaceLemmas.{refill-all}
use Rattle.star_values.proofs.RisingLemmas.{RisesBy, changed_if, find-at, map-missing, map-written, missing-nowhere}
use Rattle.core_parts.specs.Asked.{AreAskedRising, AskedEntry, AskedQuery, IsNoneOf, asked_at, asked_in, handed_in, with_kept_at}

-- the number of a query
abbrev pub number_of : AskedEntry → ℕ
number_of entry = entry.asked.number

abbrev pub plain : AskedEntry → AskedQuery
plain entry = entry.asked

-- the number, and whether it was not handed on
abbrev pub key_of : AskedEntry → ℕ × Bool
key_of entry = (entry.asked.number, entry.whole)

-- with this kept beside
abbrev pub keeping : Option Grouped → AskedEntry → AskedEntry
keeping kept entry = record entry { asked = record entry.asked { kept = kept } }

-- let go, with nothing kept beside
abbrev pub given_up : AskedEntry → AskedEntry
given_up entry = record { asked = record entry.asked { kept = None }; whole = false }

-- the first place of a number
abbrev pub place_in : List AskedEntry → (number : ℕ) → Option ℕ
place_in entries number = position (λ entry. eqb entry.asked.number number) entries

-- the numbers rise by place
pub rising-entries : (entries : List AskedEntry) → AreAskedRising (asked_in entries) → RisesBy number_of entries
rising-entries entries rising = λ j k d low within.
    let many : length (asked_in entries) ≡ length entries = length-map entries plain in
    let first : (get_or (asked_in entries) j d.asked).number ≡ (get_or entries j d).asked.number =
    ap (λ (a : AskedQuery). a.number) (get_or-map plain entries j d d.asked (omega arith)) in
    let second : (get_or (asked_in entries) k d.asked).number ≡ (get_or entries k d).asked.number =
    ap (λ (a : AskedQuery). a.number) (get_or-map plain entries k d d.asked within) in
    let less = rising j k d.asked low (omega arith) in
    omega arith

-- what is found of a number
pub found-entry : (entries : List AskedEntry) (number : ℕ)
    → asked_at (asked_in entries) number ≡ option_map plain (find (λ entry. eqb entry.asked.number number) entries)
found-entry [] number = refl
found-entry (entry ∷ entries) number = by_test (eqb entry.asked.number number) (found-entry entries number)
  where
    by_test : (t : Bool)
        → asked_at (asked_in entries) number ≡ option_map plain (find (λ entry. eqb entry.asked.number number) entries)
        → cond {A = Option AskedQuery} t (Some entry.asked) (asked_at (asked_in entries) number)
        ≡ option_map plain (cond {A = Option AskedEntry} t (Some entry) (find (λ entry. eqb entry.asked.number number) entries))
    by_test true behind = refl
    by_test false behind = behind

-- a number that is found has a place
pub some-place : (entries : List AskedEntry) (number : ℕ) (place : Option ℕ)
    → option_and_then (slice_get entries) place ≡ find (λ entry. eqb entry.asked.number number) entries
    → IsSome (asked_at (asked_in entries) number) → IsSome place
some-place entries number None none some =
    absurd (false≢true (subst (λ o. IsSome o) (found-entry entries number ∙ ap (option_map plain) (sym none)) some))
some-place entries number (Some place) is some = refl

-- and none is found without one
pub none-found : (entries : List AskedEntry) (number : ℕ)
    → None ≡ find (λ entry. eqb entry.asked.number number) entries → asked_at (asked_in entries) number ≡ None
none-found entries number none = found-entry entries number ∙ ap (option_map plain) (sym none)

-- what stands at a place of a number
pub place-within : (entries : List AskedEntry) (place number : ℕ) (d : AskedEntry) → Some place ≡ place_in entries number
    → (place < length entries) × ((get_or entries place d).asked.number ≡ number)
place-within entries place number d is =
    let there = position-Some (λ entry. eqb entry.asked.number number) entries place d (sym is) in
    (there.0, eqb-true _ number there.1)

-- is what is found of it
pub found-place : (entries : List AskedEntry) (place number : ℕ) (d : AskedEntry) → AreAskedRising (asked_in entries)
    → Some place ≡ place_in entries number → asked_at (asked_in entries) number ≡ Some (get_or entries place d).asked
found-place entries place number d rising is =
    let there = place-within entries place number d is in
    found-entry entries number
    ∙ ap (option_map plain) (find-at number_of entries place number d (rising-entries entries rising) there.0 there.1)

-- what is written at a place of a number changes the one of the number alone
pub written : (change : AskedEntry → AskedEntry) (entries : List AskedEntry) (place number : ℕ) (d new : AskedEntry)
    → AreAskedRising (asked_in entries) → Some place ≡ place_in entries number → new ≡ change (get_or entries place d)
    → set entries place new ≡ map (changed_if number_of number change) entries
written change entries place number d new rising is made =
    let there = place-within entries place number d is in
    ap (set entries place) made ∙ map-written number_of entries place number change d (rising-entries entries rising) there.0 there.1

-- so where this is kept beside it, it is beside the one of the number
pub kept-written : (change : AskedEntry → AskedEntry) (kept : Option Grouped)
    → ((entry : AskedEntry) → (change entry).asked ≡ record entry.asked { kept = kept }) → (number : ℕ) (entries : List AskedEntry)
    → asked_in (map (changed_if number_of number change) entries) ≡ with_kept_at number kept (asked_in entries)
kept-written change kept keeps number [] = refl
kept-written change kept keeps number (entry ∷ entries) =
    ap (λ a. a ∷ asked_in (map (changed_if number_of number change) entries)) (by_test (eqb entry.asked.number number))
    ∙ ap (λ list. cond {A = AskedQuery} (eqb entry.asked.number number) (record entry.asked { kept = kept }) entry.asked ∷ list)
    (kept-written change kept keeps number entries)
  where
    by_test : (t : Bool) → (cond {A = AskedEntry} t (change entry) entry).asked
        ≡ cond {A = AskedQuery} t (record entry.asked { kept = kept }) entry.asked
    by_test true = keeps entry
    by_test false = refl

pub kept-at : (change : AskedEntry → AskedEntry) (kept : Option Grouped)
    → ((entry : AskedEntry) → (change entry).asked ≡ record entry.asked { kept = kept }) → (entries : List AskedEntry) (place number : ℕ)
    (d new : AskedEntry) → AreAskedRising (asked_in entries) → Some place ≡ place_in entries number → new ≡ change (get_or entries place d)
    → asked_in (set entries place new) ≡ with_kept_at number kept (asked_in entries)
kept-at change kept keeps entries place number d new rising is made =
    ap asked_in (written change entries place number d new rising is made) ∙ kept-written change kept keeps number entries

-- and where the number has no place, nothing is kept beside one
pub kept-nowhere : (entries : List AskedEntry) (number : ℕ) (kept : Option Grouped) → None ≡ place_in entries number
    → asked_in entries ≡ with_kept_at number kept (asked_in entries)
kept-nowhere entries number kept none =
    ap asked_in (sym (map-missing number_of entries number (keeping kept) (missing-nowhere number_of entries number (sym none))))
    ∙ kept-written (keeping kept) kept (λ entry. refl) number entries

-- who was handed on stays where numbers do, and who was handed on
pub handed-same : (entries : List AskedEntry) (place : ℕ) (new d : AskedEntry) → key_of new ≡ key_of (get_or entries place d)
    → handed_in (set entries place new) ≡ handed_in entries
handed-same entries place new d same =
    ap (λ keys. map (λ (key : ℕ × Bool). key.0) (filter (λ key. not key.1) keys)) (map-set_same key_of entries place new d same)

-- queries stay where it is only handed on
pub asked-same : (entries : List AskedEntry) (place : ℕ) (new d : AskedEntry) → new.asked ≡ (get_or entries place d).asked
    → asked_in (set entries place new) ≡ asked_in entries
asked-same entries place new d same = map-set_same plain entries place new d same

-- the numbers of those that were handed on, where the first was not, and where it was
abbrev handed_by : (whole : Bool) → (number : ℕ) → List AskedEntry → List ℕ
handed_by whole number entries =
    map (λ (key : ℕ × Bool). key.0)
    (cond {A = List (ℕ × Bool)} (not whole) ((number, whole) ∷ filter (λ key. not key.1) (map key_of entries)) (filter (λ key. not key.1) (map key_of entries)))

pub handed-tail : (P : ℕ → Type 0) (entry : AskedEntry) (entries : List AskedEntry) → All P (handed_in (entry ∷ entries)) → All P (handed_in entries)
handed-tail P entry entries = by_whole entry.whole
  where
    by_whole : (w : Bool) → All P (handed_by w entry.asked.number entries) → All P (handed_in entries)
    by_whole true all = all
    by_whole false all = All-tail P entry.asked.number (handed_in entries) all

handed-head : (P : ℕ → Type 0) (entry : AskedEntry) (entries : List AskedEntry) → All P (handed_in (entry ∷ entries))
    → entry.whole ≡ false → P entry.asked.number
handed-head P entry entries = by_whole entry.whole
  where
    by_whole : (w : Bool) → All P (handed_by w entry.asked.number entries) → w ≡ false → P entry.asked.number
    by_whole true all handed = absurd (let both : true ≡ false = handed in cc)
    by_whole false all handed = All-head P entry.asked.number (handed_in entries) all

handed-cons : (P : ℕ → Type 0) (entry : AskedEntry) (entries : List AskedEntry) → P entry.asked.number → All P (handed_in entries)
    → All P (handed_in (entry ∷ entries))
handed-cons P entry entries first rest = by_whole entry.whole
  where
    by_whole : (w : Bool) → All P (handed_by w entry.asked.number entries)
    by_whole true = rest
    by_whole false = All-cons P entry.asked.number (handed_in entries) first rest

-- the first stays
handed-behind : (P : ℕ → Type 0) (entry : AskedEntry) (entries new : List AskedEntry) → All P (handed_in (entry ∷ entries))
    → All P (handed_in new) → All P (handed_in (entry ∷ new))
handed-behind P entry entries new = by_whole entry.whole
  where
    by_whole : (w : Bool) → All P (handed_by w entry.asked.number entries) → All P (handed_in new) → All P (handed_by w entry.asked.number new)
    by_whole true all rest = rest
    by_whole false all rest = All-cons P entry.asked.number (handed_in new) (All-head P entry.asked.number (handed_in entries) all) rest

-- one that was not handed on is whole
pub whole-at : (entries : List AskedEntry) (place number : ℕ) (d : AskedEntry) → place < length entries
    → (get_or entries place d).asked.number ≡ number → IsNoneOf (handed_in entries) number → (get_or entries place d).whole ≡ true
whole-at [] place number d within same none = absurd (omega arith)
whole-at (entry ∷ entries) zero number d within same none =
    by_whole entry.whole (λ handed. handed-head (λ other. other ≢ number) entry entries none handed same)
  where
    by_whole : (w : Bool) → (w ≡ false → ⊥) → w ≡ true
    by_whole true never = refl
    by_whole false never = absurd (never refl)
whole-at (entry ∷ entries) (suc place) number d within same none =
    whole-at entries place number d (omega arith) same (handed-tail (λ other. other ≢ number) entry entries none)

-- another entry of a number is written
handed-set : (P : ℕ → Type 0) (entries : List AskedEntry) (place : ℕ) (new : AskedEntry) → P new.asked.number → All P (handed_in entries)
    → All P (handed_in (set entries place new))
handed-set P [] place new one all = all
handed-set P (entry ∷ entries) zero new one all = handed-cons P new entries one (handed-tail P entry entries all)
handed-set P (entry ∷ entries) (suc place) new one all =
    handed-behind P entry entries (set entries place new) all (handed-set P entries place new one (handed-tail P entry entries all))

-- one of the number that is let go or handed on
pub handed-one : (entries : List AskedEntry) (place number : ℕ) (new : AskedEntry) → new.asked.number ≡ number
    → All (Contains (number ∷ handed_in entries)) (handed_in (set entries place new))
handed-one entries place number new same =
    let itself = All-contains_itself (number ∷ handed_in entries) in
    let Among = Contains (number ∷ handed_in entries) in
    handed-set Among entries place new (subst Among (sym same) (All-head Among number (handed_in entries) itself))
    (All-tail Among number (handed_in entries) itself)

-- the first are left out
pub handed-drop : (P : ℕ → Type 0) (count : ℕ) (entries : List AskedEntry) → All P (handed_in entries) → All P (handed_in (drop count entries))
handed-drop P zero entries all = all
handed-drop P (suc count) [] all = all
handed-drop P (suc count) (entry ∷ entries) all = handed-drop P count entries (handed-tail P entry entries all)

-- one more that is whole
pub handed-push : (entries : List AskedEntry) (entry : AskedEntry) → entry.whole ≡ true
    → handed_in (entries ++ entry ∷ []) ≡ handed_in entries
handed-push [] entry whole = by_whole entry.whole whole
  where
    by_whole : (w : Bool) → w ≡ true → handed_by w entry.asked.number [] ≡ []
    by_whole true is = refl
    by_whole false is = absurd (let both : false ≡ true = is in cc)
handed-push (first ∷ entries) entry whole = by_whole first.whole (handed-push entries entry whole)
  where
    by_whole : (w : Bool) → handed_in (entries ++ entry ∷ []) ≡ handed_in entries
        → handed_by w first.asked.number (entries ++ entry ∷ []) ≡ handed_by w first.asked.number entries
    by_whole true rest = rest
    by_whole false rest = ap (λ list. first.asked.number ∷ list) rest

-- what was lent to be written ends as what was written
pub lent : (old members new : List AskedEntry) → members ≡ old → length new ≡ length members → refill (length old) old new ≡ new
lent old members new is many = refill-all old new (many ∙ ap length is)
