-- The table makes settings of entries whose names are known and new and whose values their options take, and of no others.
use Rattle.std.proofs.Common.{◌≡◌, ◌∙◌, ◌⊎◌, inl, inr, ℕ, Bool, true, false, cond, ◌&&◌, ◌||◌, List, [], ◌∷◌, ◌++◌, Option, Some, None, refl, sym, ap, subst, append_assoc, true≢false}
use Rattle.std.specs.Prelude.{codes, find, is_some, option_map}
use Rattle.std.specs.List.{list_all}
use Rattle.std.specs.Str.{bytes_eq}
use Rattle.std.proofs.lemmas.Bool.{and_parts}
use Rattle.std.proofs.lemmas.Slice.Eq.{bytes_eq-Decides}
use Rattle.star_main.specs.Table.{are_new, is_among, option_names, settings_by, settings_in, value_of, ◌>>=◌}
use Rattle.star_main.specs.Values.{mode_or, number_or}
use Rattle.star_main.specs.WordFault.{takes, values_of}
use Rattle.star_main.specs.Words.{NamedOption, Text}
use Rattle.star_main.specs.declared.limits.OptionNumbers.{OptionNumbers}
use Rattle.star_main.specs.declared.limits.TheConstants.{ACCEPT, BATCH, PORT, ROWS, SEED, SLOTS, WORKERS}
use Rattle.star_main.specs.declared.settings.Mode.{Mode}
use Rattle.star_main.specs.declared.word_fault.OptionValues.{OptionValues}
use Rattle.star_main.specs.declared.word_fault.OptionValues.TheVariants.{Numbers}
use Rattle.star_main.proofs.TableLemmas.{new_entry}

-- a text is one of the values, if there are values
abbrev pub takes_text : Option OptionValues → Text → Bool
takes_text None text = false
takes_text (Some values) text = takes values text

-- what stands for a name, if anything does, is one of its values
abbrev is_fine : Text → Option Text → Bool
is_fine name None = true
is_fine name (Some text) = takes_text (values_of name) text

-- each option takes its value
abbrev pub are_fine : List NamedOption → Bool
are_fine entries = list_all (λ entry. takes_text (values_of entry.name) entry.value) entries

pub same_bool : (a b : Bool) → (a ≡ true → b ≡ true) → (b ≡ true → a ≡ true) → a ≡ b
same_bool true true f g = refl
same_bool true false f g = sym (f refl)
same_bool false true f g = g refl
same_bool false false f g = refl

either : (a b : Bool) → (a || b) ≡ true → (a ≡ true) ⊎ (b ≡ true)
either true b e = inl refl
either false b e = inr e

-- ---- the table, option by option

step : {A B : Type 0} (o : Option A) (f : A → Option B) (here rest : Bool) → is_some o ≡ here → ((x : A) → is_some (f x) ≡ rest) → is_some (o >>= f) ≡ (here && rest)
step None f here rest e h = ap (λ b. b && rest) e
step (Some x) f here rest e h = h x ∙ ap (λ b. b && rest) e

mode_fine : (o : Option Text) → is_some (mode_or o) ≡ is_fine (codes "mode") o
mode_fine None = refl
mode_fine (Some text) = refl

number_fine : (name : Text) (numbers : OptionNumbers) → values_of name ≡ Some (Numbers numbers) → (o : Option Text) → is_some (number_or numbers o) ≡ is_fine name o
number_fine name numbers e None = refl
number_fine name numbers e (Some text) = sym (ap (λ values. takes_text values text) e)

settings_fine : (written : Text → Option Text) → is_some (settings_by written) ≡ list_all (λ name. is_fine name (written name)) option_names
unfolding settings_by
settings_fine written =
    step {A = Mode} (mode_or (written (codes "mode"))) _ _ _ (mode_fine (written (codes "mode"))) λ mode.
    step {A = ℕ} (number_or WORKERS (written (codes "workers"))) _ _ _ (number_fine (codes "workers") WORKERS refl (written (codes "workers"))) λ workers.
    step {A = ℕ} (number_or SLOTS (written (codes "slots"))) _ _ _ (number_fine (codes "slots") SLOTS refl (written (codes "slots"))) λ slots.
    step {A = ℕ} (number_or BATCH (written (codes "batch"))) _ _ _ (number_fine (codes "batch") BATCH refl (written (codes "batch"))) λ batch.
    step {A = ℕ} (number_or SEED (written (codes "seed"))) _ _ _ (number_fine (codes "seed") SEED refl (written (codes "seed"))) λ seed.
    step {A = ℕ} (number_or ROWS (written (codes "rows"))) _ _ _ (number_fine (codes "rows") ROWS refl (written (codes "rows"))) λ rows.
    step {A = ℕ} (number_or PORT (written (codes "port"))) _ _ _ (number_fine (codes "port") PORT refl (written (codes "port"))) λ port.
    step {A = ℕ} (number_or ACCEPT (written (codes "accept"))) _ _ _ (number_fine (codes "accept") ACCEPT refl (written (codes "accept"))) λ accept.
    refl

-- ---- from entries to names, and back

all_at : (p : Text → Bool) (names : List Text) (name : Text) → list_all p names ≡ true → is_among names name ≡ true → p name ≡ true
all_at p [] name all e = absurd (true≢false (sym e))
all_at p (first ∷ names) name all e =
    let parts = and_parts (p first) _ all in
    elim (either (bytes_eq first name) _ e) [
      | inl h ↦ subst (λ n. p n ≡ true) ((bytes_eq-Decides first name).0 h) parts.0
      | inr h ↦ all_at p names name parts.1 h
    ]

all_of : (p : Text → Bool) (names : List Text) → ((name : Text) → p name ≡ true) → list_all p names ≡ true
all_of p [] h = refl
all_of p (name ∷ names) h = ap (λ b. b && list_all p names) (h name) ∙ all_of p names h

value_fine : (entries : List NamedOption) (name : Text) → are_fine entries ≡ true → is_fine name (value_of entries name) ≡ true
value_fine [] name fine = refl
value_fine (entry ∷ entries) name fine = go (bytes_eq entry.name name) refl (value_fine entries name)
  where
    parts : (takes_text (values_of entry.name) entry.value ≡ true) × (are_fine entries ≡ true)
    parts = and_parts (takes_text (values_of entry.name) entry.value) (are_fine entries) fine

    go : (b : Bool) → bytes_eq entry.name name ≡ b → (are_fine entries ≡ true → is_fine name (value_of entries name) ≡ true)
        → is_fine name (option_map (λ (e : NamedOption). e.value) (cond b (Some entry) (find (λ (e : NamedOption). bytes_eq e.name name) entries))) ≡ true
    go true e rest = subst (λ n. takes_text (values_of n) entry.value ≡ true) ((bytes_eq-Decides entry.name name).0 e) parts.0
    go false e rest = rest parts.1

entries_fine : (front entries : List NamedOption) → are_new option_names [] (front ++ entries) ≡ true
    → list_all (λ name. is_fine name (value_of (front ++ entries) name)) option_names ≡ true → are_fine entries ≡ true
entries_fine front [] new fine = refl
entries_fine front (entry ∷ entries) new fine =
    let is = new_entry option_names [] front entry entries new in
    let here : takes_text (values_of entry.name) entry.value ≡ true =
    subst (λ o. is_fine entry.name o ≡ true) is.2 (all_at (λ name. is_fine name (value_of (front ++ entry ∷ entries) name)) option_names entry.name fine is.0) in
    let on = sym (append_assoc front (entry ∷ []) entries) in
    ap (λ b. b && are_fine entries) here
    ∙ entries_fine (front ++ entry ∷ []) entries (subst (λ all. are_new option_names [] all ≡ true) on new)
    (subst (λ all. list_all (λ name. is_fine name (value_of all name)) option_names ≡ true) on fine)

pub settings_in-is_some : (entries : List NamedOption) → is_some (settings_in entries) ≡ (are_new option_names [] entries && are_fine entries)
settings_in-is_some entries = go (are_new option_names [] entries) refl
  where
    go : (b : Bool) → are_new option_names [] entries ≡ b → is_some (cond b (settings_by (value_of entries)) None) ≡ (b && are_fine entries)
    go true new =
        settings_fine (value_of entries)
        ∙ same_bool _ _ (entries_fine [] entries new) (λ fine. all_of (λ name. is_fine name (value_of entries name)) option_names (λ name. value_fine entries name fine))
    go false new = refl
