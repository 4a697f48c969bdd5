-- Words that ask for help name no settings.
use Rattle.std.proofs.Common.{◌≡◌, ◌∙◌, ◌⊎◌, inl, inr, Bool, true, false, cond, ◌||◌, List, [], ◌∷◌, ◌++◌, Option, Some, None, Result, Ok, Err, refl, sym, ap, subst, true≢false}
use Rattle.std.specs.Prelude.{IsNone, codes, is_none}
use Rattle.std.specs.Str.{bytes_eq}
use Rattle.std.proofs.lemmas.Slice.Eq.{bytes_eq-Decides}
use Rattle.star_main.specs.Help.{asks_for_help, is_help}
use Rattle.star_main.specs.Table.{settings_of}
use Rattle.star_main.specs.WordFault.{after_word, fault_from, fault_or}
use Rattle.star_main.specs.Words.{Text}
use Rattle.star_main.specs.declared.word_fault.PlacedOption.{PlacedOption}
use Rattle.star_main.specs.declared.word_fault.WordFault.{WordFault}
use Rattle.star_main.specs.declared.word_fault.WordFault.TheVariants.{WrongValue}
use Rattle.star_main.proofs.FaultLemmas.{settings_or_fault, takes-hyphen}

-- some option or none waits: neither word is an option, and no option takes it
module _ (before : List Text) (more : Option PlacedOption → Option WordFault) where
  abbrev Refused : Option PlacedOption → Text → Type 0
  Refused waiting word = is_none (fault_or more (after_word before waiting word)) ≡ false

  no_value : (option : PlacedOption) (rest : Text) → Refused (Some option) (45 ∷ rest)
  no_value option rest = ap (λ b. is_none (fault_or more (cond b (Ok None) (Err (WrongValue option))))) (takes-hyphen option.values rest)

  long_refused : (waiting : Option PlacedOption) → Refused waiting (codes "--help")
  long_refused None = refl
  long_refused (Some option) = no_value option (codes "-help")

  short_refused : (waiting : Option PlacedOption) → Refused waiting (codes "-h")
  short_refused None = refl
  short_refused (Some option) = no_value option (codes "h")

  either : (a b : Bool) → (a || b) ≡ true → (a ≡ true) ⊎ (b ≡ true)
  either true b e = inl refl
  either false b e = inr e

  help_refused : (waiting : Option PlacedOption) (word : Text) → is_help word ≡ true → Refused waiting word
  help_refused waiting word e =
      elim (either (bytes_eq word (codes "--help")) _ e) [
        | inl h ↦ subst (Refused waiting) (sym ((bytes_eq-Decides word (codes "--help")).0 h)) (long_refused waiting)
        | inr h ↦ subst (Refused waiting) (sym ((bytes_eq-Decides word (codes "-h")).0 h)) (short_refused waiting)
      ]

  fault_or-fails : ((waiting : Option PlacedOption) → is_none (more waiting) ≡ false) → (made : Result (Option PlacedOption) WordFault)
      → is_none (fault_or more made) ≡ false
  fault_or-fails fails (Ok waiting) = fails waiting
  fault_or-fails fails (Err fault) = refl

help_fails : (words before : List Text) (waiting : Option PlacedOption) → asks_for_help words ≡ true → is_none (fault_from before words waiting) ≡ false
unfolding fault_from
help_fails [] before waiting e = absurd (true≢false (sym e))
help_fails (word ∷ words) before waiting e = go (is_help word) refl e (help_fails words)
  where
    go : (b : Bool) → is_help word ≡ b → (b || asks_for_help words) ≡ true
        → ((before : List Text) (waiting : Option PlacedOption) → asks_for_help words ≡ true → is_none (fault_from before words waiting) ≡ false)
        → is_none (fault_or (fault_from (before ++ word ∷ []) words) (after_word before waiting word)) ≡ false
    go true is e rest = help_refused before (fault_from (before ++ word ∷ []) words) waiting word is
    go false is e rest = fault_or-fails before (fault_from (before ++ word ∷ []) words) (λ w. rest (before ++ word ∷ []) w e) (after_word before waiting word)

-- whatever the other words are
pub help_names_none : (words : List Text) → asks_for_help words ≡ true → IsNone (settings_of words)
help_names_none words e = settings_or_fault words ∙ help_fails words [] None e
