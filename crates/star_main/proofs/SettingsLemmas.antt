-- The settings that words name are those of the rows that `clap` finds in them, and a word `--` leaves none.
use Rattle.std.proofs.Common.{◌≡◌, ◌∙◌, Bool, true, false, cond, ◌||◌, List, [], ◌∷◌, map, Option, Some, None, refl, sym, ap, true≢false}
use Rattle.std.specs.Prelude.{String, option_and_then, string_bytes}
use Rattle.std.specs.List.{list_any}
use Rattle.std.specs.Str.{bytes_eq}
use Rattle.std.proofs.lemmas.Slice.Eq.{bytes_eq-Decides}
use Rattle.std.proofs.lemmas.Str.{IsUtf8-string_bytes}
use Rattle.clap.specs.Matches.{first_value}
use Rattle.clap.specs.Simple.{App, built, matches_of}
use Rattle.clap.specs.Walk.{Row, first_of, idle, nothing_held, rows_of}
use Rattle.clap.specs.declared.parser.matches.Found.{Found}
use Rattle.clap.proofs.FaultLemmas.{leaf_fault}
use Rattle.clap.proofs.WalkLemmas.{first_value-rows, list_any-map}
use Rattle.star_main.specs.Rows.{answer_of, app_with, passes}
use Rattle.star_main.specs.Table.{are_new, is_among, option_names, settings_by, settings_in, settings_of, value_of}
use Rattle.star_main.specs.Words.{NamedOption, Text, with_entry}
use Rattle.star_main.proofs.StrictLemmas.{strict_settings}
use Rattle.star_main.proofs.StrictReader.{Word, option, plain, stray, strict_at, strict_from, word_of}
use Rattle.star_main.specs.declared.settings.Settings.{Settings}
use Rattle.star_main.proofs.ParseLemmas.{AreWords, answer_from}
use Rattle.star_main.proofs.ReaderLemmas.{found_with}
use Rattle.star_main.proofs.ReadingLemmas.{reads}
use Rattle.star_main.proofs.RuleLemmas.{first_of-entries, row_for}
use Rattle.star_main.proofs.TurnLemmas.{at, holding}
use Rattle.star_main.proofs.WordLemmas.{two_hyphens}

-- a parse is a walk from the start on
answer_is : (words : List Text) → answer_of (app_with option_names) words ≡ answer_from option_names (at (holding [] None) idle) words
answer_is words =
    ap (λ fault. cond (passes fault) (Some (matches_of (app_with option_names) words)) None) (leaf_fault (built (app_with option_names)) nothing_held words refl)

-- the settings that the table makes of rows
abbrev settings_of_rows : List Row → Option Settings
settings_of_rows rows = settings_by (λ name. first_of name rows)

settings_by_rows : (o : Option (List NamedOption)) → option_and_then settings_in o ≡ option_and_then settings_of_rows (option_and_then (found_with option_names []) o)
settings_by_rows None = refl
settings_by_rows (Some entries) = go (are_new option_names [] entries)
  where
    go : (b : Bool) → cond b (settings_by (value_of entries)) None ≡ option_and_then settings_of_rows (cond b (Some (map row_for entries)) None)
    go true = ap settings_by (λ i name. sym (first_of-entries entries name) i)
    go false = refl

settings_found : (words : List Text) → AreWords words → settings_of words ≡ option_and_then settings_of_rows (answer_of (app_with option_names) words)
settings_found words ok =
    sym (strict_settings words) ∙ settings_by_rows (strict_from words None)
    ∙ ap (option_and_then settings_of_rows) (sym (answer_is words ∙ (reads option_names words ok).0 [] [] None refl refl))

module _ (app : App) (is : app ≡ app_with option_names) (words : List Text) (ok : AreWords words) where
  pub settings-some : (f : Found) → Some (rows_of f) ≡ answer_of app words → settings_by (first_value f) ≡ settings_of words
  settings-some f found =
      ap settings_by (λ i name. first_value-rows f name i)
      ∙ ap (option_and_then settings_of_rows) (found ∙ ap (λ a. answer_of a words) is) ∙ sym (settings_found words ok)

  pub settings-none : None ≡ answer_of app words → None ≡ settings_of words
  settings-none none = ap (option_and_then settings_of_rows) (none ∙ ap (λ a. answer_of a words) is) ∙ sym (settings_found words ok)

-- ---- the word `--`

stray_ends : (waiting : Option Text) (word : Text) (more : Option Text → Option (List NamedOption)) → strict_at waiting word stray more ≡ None
stray_ends None word more = refl
stray_ends (Some name) word more = refl

end_stays : (waiting : Option Text) (word : Text) (w : Word) (more : Option Text → Option (List NamedOption)) → ((v : Option Text) → more v ≡ None)
    → strict_at waiting word w more ≡ None
end_stays None word (option name (Some value)) more none = ap (with_entry name value) (none None)
end_stays None word (option name None) more none = none (Some name)
end_stays None word stray more none = refl
end_stays None word plain more none = refl
end_stays (Some name) word (option other value) more none = refl
end_stays (Some name) word stray more none = refl
end_stays (Some name) word plain more none = ap (with_entry name word) (none None)

hyphens_stray : (word : Text) → bytes_eq word two_hyphens ≡ true → word_of word ≡ stray
hyphens_stray word e = ap word_of ((bytes_eq-Decides word two_hyphens).0 e)

no_entries : (words : List Text) → is_among words two_hyphens ≡ true → (waiting : Option Text) → strict_from words waiting ≡ None
unfolding strict_from
no_entries [] e waiting = absurd (true≢false (sym e))
no_entries (word ∷ words) e waiting = go (bytes_eq word two_hyphens) refl e (no_entries words)
  where
    go : (b : Bool) → bytes_eq word two_hyphens ≡ b → (b || is_among words two_hyphens) ≡ true
        → (is_among words two_hyphens ≡ true → (v : Option Text) → strict_from words v ≡ None) → strict_at waiting word (word_of word) (strict_from words) ≡ None
    go true is some rest = ap (λ w. strict_at waiting word w (strict_from words)) (hyphens_stray word is) ∙ stray_ends waiting word _
    go false is some rest = end_stays waiting word (word_of word) (strict_from words) (rest some)

-- words with `--` among them name no settings
pub hyphens_name_none : (words : List Text) → is_among words two_hyphens ≡ true → settings_of words ≡ None
hyphens_name_none words e = sym (strict_settings words) ∙ ap (option_and_then settings_in) (no_entries words e None)

module _ {Z : Type 0} where
  pub no_settings : (words : List (String Z)) → list_any (λ word. bytes_eq (string_bytes word) two_hyphens) words ≡ true
      → None ≡ settings_of (map string_bytes words)
  no_settings words e =
      sym (hyphens_name_none (map string_bytes words) (sym (list_any-map (λ word. bytes_eq word two_hyphens) string_bytes words) ∙ e))

  -- words of which none is `--`
  pub are_words : (words : List (String Z)) → list_any (λ word. bytes_eq (string_bytes word) two_hyphens) words ≡ false → AreWords (map string_bytes words)
  are_words [] e = tt
  are_words (word ∷ words) e = go (bytes_eq (string_bytes word) two_hyphens) refl e (are_words words)
    where
      go : (b : Bool) → bytes_eq (string_bytes word) two_hyphens ≡ b → (b || list_any (λ w. bytes_eq (string_bytes w) two_hyphens) words) ≡ false
          → (list_any (λ w. bytes_eq (string_bytes w) two_hyphens) words ≡ false → AreWords (map string_bytes words)) → AreWords (map string_bytes (word ∷ words))
      go true is none rest = absurd (true≢false none)
      go false is none rest = (IsUtf8-string_bytes word, is, rest none)
