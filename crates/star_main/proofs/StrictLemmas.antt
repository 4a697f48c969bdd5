-- The strict reader names the same settings as the reader that takes any word for a value.
use Rattle.std.proofs.Common.{◌≡◌, ◌∙◌, ℕ, Bool, true, false, ◌==◌, List, [], ◌∷◌, ◌++◌, Option, Some, None, refl, sym, ap, subst, arith, append_assoc}
use Rattle.std.specs.Prelude.{option_and_then}
use Rattle.std.proofs.lemmas.Bool.Decides.{nat_tests}
use Rattle.star_main.specs.Table.{settings_in}
use Rattle.star_main.specs.Words.{NamedOption, Text, entries_at, entries_from, entries_of, name_and_value, option_of, with_entry}
use Rattle.star_main.proofs.StrictReader.{Word, option, plain, stray, strict_at, strict_from, word_of}
use Rattle.star_main.specs.declared.settings.Settings.{Settings}
use Rattle.star_main.proofs.TableLemmas.{hyphen_spoils, settings_behind, unknown_spoils}

-- a word as both readers see it
pub data Spelt (word : Text) : Type 0 where
  as_option : (name : Text) (value : Option Text) (rest : Text) → word ≡ 45 ∷ rest → word_of word ≡ option name value → option_of word ≡ Some (name, value) → Spelt word
  as_end : (rest : Text) → word ≡ 45 ∷ rest → word_of word ≡ stray → option_of word ≡ Some ([], None) → Spelt word
  as_stray : (rest : Text) → word ≡ 45 ∷ rest → word_of word ≡ stray → option_of word ≡ None → Spelt word
  as_plain : word_of word ≡ plain → option_of word ≡ None → Spelt word

swapped : (x : ℕ) (b : Bool) → (x == 45) ≡ b → (45 == x) ≡ b
swapped x true e = grind (arith, nat_tests)
swapped x false e = grind (arith, nat_tests)

spelt_behind : (byte : ℕ) (rest : Text) (second : Bool) → (byte == 45) ≡ second → (45 == byte) ≡ second → Spelt (45 ∷ byte ∷ rest)
spelt_behind byte rest false e f = as_stray (byte ∷ rest) refl (rw e refl) (rw f refl)
spelt_behind byte [] true e f = as_end (byte ∷ []) refl (rw e refl) (rw f refl)
spelt_behind byte (x ∷ rest) true e f = as_option (name_and_value (x ∷ rest)).0 (name_and_value (x ∷ rest)).1 (byte ∷ x ∷ rest) refl (rw e refl) (rw f refl)

spelt_of : (byte : ℕ) (rest : Text) (first : Bool) → (byte == 45) ≡ first → (45 == byte) ≡ first → Spelt (byte ∷ rest)
spelt_of byte rest false e f = as_plain (rw e refl) (rw f refl)
spelt_of byte [] true e f = as_plain (rw e refl) (rw f refl)
spelt_of byte (x ∷ rest) true e f =
    let is : 45 ≡ byte = grind (arith, nat_tests) in
    subst (λ b. Spelt (b ∷ x ∷ rest)) is (spelt_behind x rest (x == 45) refl (swapped x (x == 45) refl))

pub spelt : (word : Text) → Spelt word
spelt [] = as_plain refl refl
spelt (byte ∷ rest) = spelt_of byte rest (byte == 45) refl (swapped byte (byte == 45) refl)

-- ---- the readers

-- the settings of what was read behind other entries
abbrev settled : List NamedOption → Option (List NamedOption) → Option Settings
settled front = option_and_then (settings_behind front)

abbrev entry : Text → Text → NamedOption
entry name value = record { name = name; value = value }

-- an entry in front of what was read joins those before
joined : (front : List NamedOption) (name value : Text) (o : Option (List NamedOption)) → settled front (with_entry name value o) ≡ settled (front ++ entry name value ∷ []) o
joined front name value None = refl
joined front name value (Some entries) = ap settings_in (sym (append_assoc front (entry name value ∷ []) entries))

hyphened : (front : List NamedOption) (name word text : Text) (o : Option (List NamedOption)) → word ≡ 45 ∷ text → settled front (with_entry name word o) ≡ None
hyphened front name word text None is = refl
hyphened front name word text (Some entries) is = ap (λ w. settings_behind front (entry name w ∷ entries)) is ∙ hyphen_spoils front name text entries

unnamed : (front : List NamedOption) (words : List Text) → settled front (entries_from words (Some [])) ≡ None
unfolding entries_from
unnamed front [] = refl
unnamed front (word ∷ words) = go (entries_from words None)
  where
    go : (o : Option (List NamedOption)) → settled front (with_entry [] word o) ≡ None
    go None = refl
    go (Some entries) = unknown_spoils front (entry [] word) entries refl

-- both readers, from a word on, where they agree behind it
agree_at : (named : Option Text) (word : Text) (strict loose : Option Text → Option (List NamedOption)) (front : List NamedOption)
    → ((front : List NamedOption) (n : Option Text) → settled front (strict n) ≡ settled front (loose n))
    → ((front : List NamedOption) → settled front (loose (Some [])) ≡ None)
    → settled front (strict_at named word (word_of word) strict) ≡ settled front (entries_at named word (option_of word) loose)
agree_at named word strict loose front on none = go named (spelt word)
  where
    given : (name : Text) (o p : Option (List NamedOption)) (value : Text) → settled (front ++ entry name value ∷ []) o ≡ settled (front ++ entry name value ∷ []) p
        → settled front (with_entry name value o) ≡ settled front (with_entry name value p)
    given name o p value e = joined front name value o ∙ e ∙ sym (joined front name value p)

    both : (n : Option Text) (w : Word) (o : Option (Text × Option Text)) → word_of word ≡ w → option_of word ≡ o
        → settled front (strict_at n word w strict) ≡ settled front (entries_at n word o loose)
        → settled front (strict_at n word (word_of word) strict) ≡ settled front (entries_at n word (option_of word) loose)
    both n w o e f h =
        ap (λ v. settled front (strict_at n word v strict)) e ∙ h ∙ sym (ap (λ p. settled front (entries_at n word p loose)) f)

    go : (n : Option Text) → Spelt word → settled front (strict_at n word (word_of word) strict) ≡ settled front (entries_at n word (option_of word) loose)
    go None (as_option name (Some value) rest is e f) =
        both None _ _ e f (given name (strict None) (loose None) value (on (front ++ entry name value ∷ []) None))
    go None (as_option name None rest is e f) = both None _ _ e f (on front (Some name))
    go None (as_end rest is e f) = both None _ _ e f (sym (none front))
    go None (as_stray rest is e f) = both None _ _ e f refl
    go None (as_plain e f) = both None _ _ e f refl
    go (Some name) (as_option second value rest is e f) = both (Some name) _ _ e f (sym (hyphened front name word rest (loose None) is))
    go (Some name) (as_end rest is e f) = both (Some name) _ _ e f (sym (hyphened front name word rest (loose None) is))
    go (Some name) (as_stray rest is e f) = both (Some name) _ _ e f (sym (hyphened front name word rest (loose None) is))
    go (Some name) (as_plain e f) = both (Some name) _ _ e f (given name (strict None) (loose None) word (on (front ++ entry name word ∷ []) None))

agree : (words : List Text) (front : List NamedOption) (named : Option Text) → settled front (strict_from words named) ≡ settled front (entries_from words named)
unfolding strict_from entries_from
agree [] front named = refl
agree (word ∷ words) front named =
    agree_at named word (strict_from words) (entries_from words) front (λ f n. agree words f n) (λ f. unnamed f words)

pub strict_settings : (words : List Text) → option_and_then settings_in (strict_from words None) ≡ option_and_then settings_in (entries_of words)
strict_settings words = agree words [] None
