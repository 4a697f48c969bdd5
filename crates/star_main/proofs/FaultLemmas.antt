-- Words name settings exactly where they have no fault.
use Rattle.std.proofs.Common.{◌≡◌, ◌∙◌, ◌↔◌, Bool, true, false, cond, not, ◌&&◌, ◌||◌, List, [], ◌∷◌, ◌++◌, length, Option, Some, None, Ok, Err, refl, sym, ap, append-nil, true≢false}
use Rattle.std.specs.Prelude.{IsNone, IsSome, codes, is_none, is_some, option_and_then}
use Rattle.std.specs.Str.{bytes_eq}
use Rattle.std.proofs.lemmas.Slice.Eq.{bytes_eq-Decides}
use Rattle.star_main.specs.Table.{are_new, is_among, option_names, settings_in, settings_of}
use Rattle.star_main.specs.WordFault.{after_name, after_option, after_plain, after_value, fault_from, fault_of_words, fault_or, has_name, is_named_in, takes, values_of}
use Rattle.star_main.specs.Words.{NamedOption, Text, entries_at, entries_from, entries_of, option_of, with_entry}
use Rattle.star_main.specs.declared.word_fault.OptionValues.{OptionValues}
use Rattle.star_main.specs.declared.word_fault.OptionValues.TheVariants.{Modes, Numbers}
use Rattle.star_main.specs.declared.word_fault.PlacedOption.{PlacedOption}
use Rattle.star_main.specs.declared.word_fault.WordFault.{WordFault}
use Rattle.star_main.specs.declared.word_fault.WordFault.TheVariants.{Repeated, WrongValue}
use Rattle.star_main.proofs.FineLemmas.{are_fine, same_bool, settings_in-is_some, takes_text}
use Rattle.star_main.proofs.StrictLemmas.{Spelt, as_end, as_option, as_plain, as_stray, spelt}
use Rattle.star_main.proofs.TableLemmas.{hyphen_is_no_number}

-- ---- which names are known

bytes_eq-turned : (a b : Text) → bytes_eq a b ≡ bytes_eq b a
bytes_eq-turned a b = same_bool _ _ (λ e. (bytes_eq-Decides b a).1 (sym ((bytes_eq-Decides a b).0 e))) (λ e. (bytes_eq-Decides a b).1 (sym ((bytes_eq-Decides b a).0 e)))

first_or : (a b t : Bool) (values : OptionValues) (o : Option OptionValues) → a ≡ t → b ≡ is_some o → (a || b) ≡ is_some (cond t (Some values) o)
first_or a b true values o e h = ap (λ c. c || b) e
first_or a b false values o e h = ap (λ c. c || b) e ∙ h

known : (name : Text) → is_among option_names name ≡ is_some (values_of name)
known name =
    first_or _ _ _ _ _ (bytes_eq-turned (codes "mode") name) (first_or _ _ _ _ _ (bytes_eq-turned (codes "workers") name)
    (first_or _ _ _ _ _ (bytes_eq-turned (codes "slots") name) (first_or _ _ _ _ _ (bytes_eq-turned (codes "batch") name)
    (first_or _ _ _ _ _ (bytes_eq-turned (codes "seed") name) (first_or _ _ _ _ _ (bytes_eq-turned (codes "rows") name)
    (first_or _ _ _ _ _ (bytes_eq-turned (codes "port") name) (first_or _ _ _ _ _ (bytes_eq-turned (codes "accept") name) refl)))))))

-- ---- the names of the options among words

abbrev with_name : Option (Text × Option Text) → List Text → List Text
with_name None names = names
with_name (Some option) names = option.0 ∷ names

abbrev names_of : List Text → List Text
names_of [] = []
names_of (word ∷ words) = with_name (option_of word) (names_of words)

names_of-append : (before : List Text) (word : Text) (o : Option (Text × Option Text)) → option_of word ≡ o → names_of (before ++ word ∷ []) ≡ names_of before ++ with_name o []
names_of-append [] word o e = ap (λ p. with_name p []) e
names_of-append (first ∷ before) word o e = go (option_of first) (names_of-append before word o e)
  where
    go : (p : Option (Text × Option Text)) → names_of (before ++ word ∷ []) ≡ names_of before ++ with_name o []
        → with_name p (names_of (before ++ word ∷ [])) ≡ with_name p (names_of before) ++ with_name o []
    go None rest = rest
    go (Some option) rest = ap (λ names. option.0 ∷ names) rest

is_named : (before : List Text) (name : Text) → is_named_in before name ≡ is_among (names_of before) name
is_named [] name = refl
is_named (word ∷ before) name = go (option_of word) (is_named before name)
  where
    go : (p : Option (Text × Option Text)) → is_named_in before name ≡ is_among (names_of before) name
        → (has_name name p || is_named_in before name) ≡ is_among (with_name p (names_of before)) name
    go None rest = rest
    go (Some option) rest = ap (λ b. bytes_eq option.0 name || b) rest

-- a value that an option takes is no option

pub takes-hyphen : (values : OptionValues) (rest : Text) → takes values (45 ∷ rest) ≡ false
takes-hyphen Modes rest = refl
takes-hyphen (Numbers numbers) rest = ap is_some (hyphen_is_no_number rest numbers)

taken_plain : (values : OptionValues) (word : Text) → takes values word ≡ true → option_of word ≡ None
taken_plain values word taken = go (spelt word)
  where
    hyphen : (rest : Text) → word ≡ 45 ∷ rest → option_of word ≡ None
    hyphen rest is = absurd (true≢false (sym taken ∙ ap (takes values) is ∙ takes-hyphen values rest))

    go : Spelt word → option_of word ≡ None
    go (as_option name value rest is e f) = hyphen rest is
    go (as_end rest is e f) = hyphen rest is
    go (as_stray rest is e f) = hyphen rest is
    go (as_plain e f) = f

-- ---- entries with a name that is known and new, and a value that its option takes

abbrev passes : List Text → Option (List NamedOption) → Bool
passes named None = false
passes named (Some entries) = are_new option_names named entries && are_fine entries

name_spoils : (a b rest fine : Bool) → (a && b) ≡ false → ((a && (b && rest)) && fine) ≡ false
name_spoils true true rest fine e = absurd (true≢false e)
name_spoils true false rest fine e = refl
name_spoils false b rest fine e = refl

value_spoils : (new taken fine : Bool) → taken ≡ false → (new && (taken && fine)) ≡ false
value_spoils true taken fine e = ap (λ b. b && fine) e
value_spoils false taken fine e = refl

abbrev is_new : List Text → Text → Bool
is_new named name = is_among option_names name && not (is_among named name)

bad_name : (named : List Text) (name text : Text) (o : Option (List NamedOption)) → is_new named name ≡ false → passes named (with_entry name text o) ≡ false
bad_name named name text None bad = refl
bad_name named name text (Some entries) bad = name_spoils (is_among option_names name) (not (is_among named name)) _ _ bad

bad_value : (named : List Text) (name text : Text) (o : Option (List NamedOption)) → takes_text (values_of name) text ≡ false → passes named (with_entry name text o) ≡ false
bad_value named name text None bad = refl
bad_value named name text (Some entries) bad = value_spoils _ (takes_text (values_of name) text) (are_fine entries) bad

good : (named : List Text) (name text : Text) (o : Option (List NamedOption)) → is_among option_names name ≡ true → is_among named name ≡ false
    → takes_text (values_of name) text ≡ true → passes named (with_entry name text o) ≡ passes (named ++ name ∷ []) o
good named name text None is new taken = refl
good named name text (Some entries) is new taken =
    (λ i. (is i && (not (new i) && are_new option_names (named ++ name ∷ []) entries)) && (taken i && are_fine entries))

-- a name that is unknown, or was named before, whether or not it has a value
bad_waits : (named words : List Text) (name : Text) → is_new named name ≡ false → passes named (entries_from words (Some name)) ≡ false
unfolding entries_from
bad_waits named [] name bad = refl
bad_waits named (word ∷ words) name bad = bad_name named name word (entries_from words None) bad

bad_option : (named words : List Text) (word name : Text) (value : Option Text) → is_new named name ≡ false
    → passes named (entries_at None word (Some (name, value)) (entries_from words)) ≡ false
bad_option named words word name None bad = bad_waits named words name bad
bad_option named words word name (Some text) bad = bad_name named name text (entries_from words None) bad

-- ---- both readers, word by word

abbrev Idle : List Text → Type 0
Idle words = (before : List Text) → is_none (fault_from before words None) ≡ passes (names_of before) (entries_from words None)

-- behind the words before, of which the last is the option of the name
abbrev Waits : List Text → Type 0
Waits words = (before named : List Text) (name : Text) (option : PlacedOption) → values_of name ≡ Some option.values → is_among named name ≡ false
    → names_of before ≡ named ++ name ∷ [] → is_none (fault_from before words (Some option)) ≡ passes named (entries_from words (Some name))

module _ (word : Text) (words : List Text) (idle_on : Idle words) (waits_on : Waits words) (before : List Text) where
  abbrev more : Option PlacedOption → Option WordFault
  more = fault_from (before ++ word ∷ []) words

  -- a value of an option that is known and new, in the word itself or as the whole word
  value_at : (named : List Text) (name text : Text) (option : PlacedOption) → values_of name ≡ Some option.values → is_among named name ≡ false
      → (takes option.values text ≡ true → names_of (before ++ word ∷ []) ≡ named ++ name ∷ [])
      → is_none (fault_or more (after_value option text)) ≡ passes named (with_entry name text (entries_from words None))
  value_at named name text option is new names = go (takes option.values text) refl
    where
      taken : (b : Bool) → takes option.values text ≡ b → takes_text (values_of name) text ≡ b
      taken b e = ap (λ values. takes_text values text) is ∙ e

      go : (b : Bool) → takes option.values text ≡ b
          → is_none (fault_or more (cond b (Ok None) (Err (WrongValue option)))) ≡ passes named (with_entry name text (entries_from words None))
      go true e =
          idle_on (before ++ word ∷ []) ∙ ap (λ all. passes all (entries_from words None)) (names e)
          ∙ sym (good named name text (entries_from words None) (known name ∙ ap is_some is) new (taken true e))
      go false e = sym (bad_value named name text (entries_from words None) (taken false e))

  waits_step : (named : List Text) (name : Text) (option : PlacedOption) → values_of name ≡ Some option.values → is_among named name ≡ false
      → names_of before ≡ named ++ name ∷ [] → is_none (fault_from before (word ∷ words) (Some option)) ≡ passes named (entries_from (word ∷ words) (Some name))
  unfolding fault_from entries_from
  waits_step named name option is new names =
      value_at named name word option is new
      (λ taken. names_of-append before word None (taken_plain option.values word taken) ∙ append-nil (names_of before) ∙ names)

  new_at : (name : Text) (value : Option Text) (option : PlacedOption) → option_of word ≡ Some (name, value) → values_of name ≡ Some option.values
      → is_among (names_of before) name ≡ false
      → is_none (fault_or more (after_name option value)) ≡ passes (names_of before) (entries_at None word (Some (name, value)) (entries_from words))
  new_at name (Some text) option spelt is new =
      value_at (names_of before) name text option is new (λ taken. names_of-append before word (Some (name, Some text)) spelt)
  new_at name None option spelt is new =
      waits_on (before ++ word ∷ []) (names_of before) name option is new (names_of-append before word (Some (name, None)) spelt)

  option_at : (name : Text) (value : Option Text) (values : Option OptionValues) → option_of word ≡ Some (name, value) → values_of name ≡ values
      → is_none (fault_or more (after_option before name value values)) ≡ passes (names_of before) (entries_at None word (Some (name, value)) (entries_from words))
  option_at name value None spelt is =
      sym (bad_option (names_of before) words word name value (ap (λ b. b && not (is_among (names_of before) name)) (known name ∙ ap is_some is)))
  option_at name value (Some values) spelt is = go (is_named_in before name) refl
    where
      option : PlacedOption
      option = record { place = length before; values = values }

      go : (b : Bool) → is_named_in before name ≡ b
          → is_none (fault_or more (cond b (Err (Repeated (length before))) (after_name option value)))
          ≡ passes (names_of before) (entries_at None word (Some (name, value)) (entries_from words))
      go true named =
          sym (bad_option (names_of before) words word name value
          (λ i. (known name ∙ ap is_some is) i && not ((sym (is_named before name) ∙ named) i)))
      go false named = new_at name value option spelt is (sym (is_named before name) ∙ named)

  plain_at : (o : Option (Text × Option Text)) → option_of word ≡ o
      → is_none (fault_or more (after_plain before o)) ≡ passes (names_of before) (entries_at None word o (entries_from words))
  plain_at None spelt = refl
  plain_at (Some (name, value)) spelt = option_at name value (values_of name) spelt refl

  idle_step : is_none (fault_from before (word ∷ words) None) ≡ passes (names_of before) (entries_from (word ∷ words) None)
  unfolding fault_from entries_from
  idle_step = plain_at (option_of word) refl

idle_ends : Idle []
unfolding fault_from entries_from
idle_ends before = refl

waits_ends : Waits []
unfolding fault_from entries_from
waits_ends before named name option is new names = refl

reads : (words : List Text) → Idle words × Waits words
reads [] = (idle_ends, waits_ends)
reads (word ∷ words) =
    let on = reads words in (
      λ before. idle_step word words on.0 on.1 before,
      λ before. waits_step word words on.0 on.1 before,
    )

-- whatever the words are
pub settings_or_fault : (words : List Text) → is_some (settings_of words) ≡ is_none (fault_of_words words)
settings_or_fault words = go (entries_of words) ∙ sym ((reads words).0 [])
  where
    go : (o : Option (List NamedOption)) → is_some (option_and_then settings_in o) ≡ passes [] o
    go None = refl
    go (Some entries) = settings_in-is_some entries

not_is : (a b : Bool) → a ≡ not b → (a ≡ false) ↔ (b ≡ true)
not_is a true e = (λ f. refl, λ t. e)
not_is a false e = (λ f. sym f ∙ e, λ t. absurd (true≢false (sym t)))

pub no_settings-fault : (words : List Text) → IsNone (settings_of words) ↔ IsSome (fault_of_words words)
no_settings-fault words = not_is (is_some (settings_of words)) (is_some (fault_of_words words)) (settings_or_fault words)
