-- The strict reader, one word on, with entries that were taken before.
use Rattle.std.proofs.Common.{◌≡◌, Bool, true, false, cond, not, ◌&&◌, List, [], ◌∷◌, ◌++◌, map, Option, Some, None, refl, sym, ap, true≢false, append_assoc}
use Rattle.std.specs.Prelude.{option_and_then}
use Rattle.std.proofs.lemmas.List.{map-append}
use Rattle.clap.specs.Walk.{Row}
use Rattle.star_main.specs.Table.{are_new, is_among}
use Rattle.star_main.specs.Words.{NamedOption, Text, with_entry}
use Rattle.star_main.proofs.StrictReader.{Word, strict_at, strict_from, word_of}
use Rattle.star_main.proofs.StrictReader as words
use Rattle.star_main.proofs.RuleLemmas.{names_in, row_for}

-- the rows of entries behind those that were taken, where each names an option for the first time
abbrev pub found_with : List Text → List NamedOption → List NamedOption → Option (List Row)
found_with names taken entries = cond (are_new names (names_in taken) entries) (Some (map row_for (taken ++ entries))) None

-- what the strict reader finds, behind the entries that were taken
abbrev pub read_from : List Text → List NamedOption → Option Text → List Text → Option (List Row)
read_from names taken waiting rest = option_and_then (found_with names taken) (strict_from rest waiting)

abbrev pub entry : Text → Text → NamedOption
entry name value = record { name = name; value = value }

-- an entry whose name is unknown, or among those before, spoils the rest
pub spoilt : (names : List Text) (taken : List NamedOption) (name value : Text) (o : Option (List NamedOption))
    → (is_among names name && not (is_among (names_in taken) name)) ≡ false → option_and_then (found_with names taken) (with_entry name value o) ≡ None
spoilt names taken name value None bad = refl
spoilt names taken name value (Some entries) bad =
    ap (λ b. cond b (Some (map row_for (taken ++ entry name value ∷ entries))) None)
    (go (is_among names name) (not (is_among (names_in taken) name)) _ bad)
  where
    go : (a b c : Bool) → (a && b) ≡ false → (a && (b && c)) ≡ false
    go true b c e = and_stays b c e
      where
        and_stays : (b c : Bool) → b ≡ false → (b && c) ≡ false
        and_stays true c e = absurd (true≢false e)
        and_stays false c e = refl
    go false b c e = refl

-- an entry that is new joins those that were taken
pub joins : (names : List Text) (taken : List NamedOption) (name value : Text) (o : Option (List NamedOption)) → is_among names name ≡ true
    → is_among (names_in taken) name ≡ false
    → option_and_then (found_with names taken) (with_entry name value o) ≡ option_and_then (found_with names (taken ++ entry name value ∷ [])) o
joins names taken name value None known new = refl
joins names taken name value (Some entries) known new =
    (λ i. cond (known i && (not (new i) && are_new names (sym (map-append (λ (e : NamedOption). e.name) taken (entry name value ∷ [])) i) entries))
    (Some (map row_for (sym (append_assoc taken (entry name value ∷ []) entries) i))) None)

-- a name that is unknown spoils what follows it
pub unknown_waits : (names : List Text) (taken : List NamedOption) (name : Text) (rest : List Text) → is_among names name ≡ false → read_from names taken (Some name) rest ≡ None
unfolding strict_from
unknown_waits names taken name [] bad = refl
unknown_waits names taken name (word ∷ rest) bad = go (word_of word)
  where
    go : (w : Word) → option_and_then (found_with names taken) (strict_at (Some name) word w (strict_from rest)) ≡ None
    go (words.option second text) = refl
    go words.stray = refl
    go words.plain = spoilt names taken name word (strict_from rest None) (ap (λ b. b && not (is_among (names_in taken) name)) bad)

-- one word more, for the reader
pub read_step : (names : List Text) (taken : List NamedOption) (waiting : Option Text) (word : Text) (rest : List Text) (w : Word) → word_of word ≡ w
    → read_from names taken waiting (word ∷ rest) ≡ option_and_then (found_with names taken) (strict_at waiting word w (strict_from rest))
unfolding strict_from
read_step names taken waiting word rest w e = ap (λ v. option_and_then (found_with names taken) (strict_at waiting word v (strict_from rest))) e
