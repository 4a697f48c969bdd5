-- An entry whose name is unknown, or whose value no option takes, leaves no settings, whatever stands around it.
use Rattle.std.proofs.Common.{◌≡◌, ◌⊎◌, ◌∙◌, inl, inr, ℕ, Bool, true, false, cond, not, ◌&&◌, ◌||◌, ◌==◌, List, [], ◌∷◌, ◌++◌, length, Option, Some, None, refl, sym, ap, true≢false}
use Rattle.std.specs.Prelude.{codes, find, option_and_then, option_map, nat_le}
use Rattle.std.specs.List.{list_all}
use Rattle.std.specs.Char.{is_ascii_digit}
use Rattle.std.specs.Str.{bytes_eq}
use Rattle.std.specs.Str.Parse.{digits_value}
use Rattle.std.proofs.lemmas.Bool.{and_parts}
use Rattle.std.proofs.lemmas.Slice.Eq.{bytes_eq-Decides}
use Rattle.star_main.specs.Table.{are_new, is_among, option_names, settings_by, settings_in, value_of, ◌>>=◌}
use Rattle.star_main.specs.Values.{mode_or, number_in, number_or, within}
use Rattle.star_main.specs.Words.{NamedOption, Text}
use Rattle.star_main.specs.declared.limits.OptionNumbers.{OptionNumbers}
use Rattle.star_main.specs.declared.limits.TheConstants.{ACCEPT, BATCH, MAX_DIGITS, PORT, ROWS, SEED, SLOTS, WORKERS}
use Rattle.star_main.specs.declared.settings.Mode.{Mode}
use Rattle.star_main.specs.declared.settings.Settings.{Settings}

-- no option takes a text that begins with a hyphen

number_of_hyphen : (text : Text) (a b : Bool) → (a && (b && list_all is_ascii_digit (45 ∷ text))) ≡ false
number_of_hyphen text true true = refl
number_of_hyphen text true false = refl
number_of_hyphen text false b = refl

pub hyphen_is_no_number : (text : Text) (numbers : OptionNumbers) → number_in numbers (45 ∷ text) ≡ None
hyphen_is_no_number text numbers =
    ap (λ b. option_and_then (within numbers) (cond b (Some (digits_value 10 (45 ∷ text))) None))
    (number_of_hyphen text (not (length (45 ∷ text) == 0)) (nat_le (length (45 ∷ text)) MAX_DIGITS))

-- ---- the table gives nothing where one of its options does

none_behind : {A B : Type 0} (o : Option A) (f : A → Option B) → ((x : A) → f x ≡ None) → (o >>= f) ≡ None
none_behind None f none = refl
none_behind (Some x) f none = none x

none_here : {A B : Type 0} (o : Option A) (f : A → Option B) → o ≡ None → (o >>= f) ≡ None
none_here o f e = ap (λ p. option_and_then f p) e

either : (a b : Bool) → (a || b) ≡ true → (a ≡ true) ⊎ (b ≡ true)
either true b e = inl refl
either false b e = inr e

module _ (written : Text → Option Text) (text : Text) where
  bad_mode : written (codes "mode") ≡ Some (45 ∷ text) → mode_or (written (codes "mode")) ≡ None
  bad_mode e = ap mode_or e

  bad_number : (name : Text) (numbers : OptionNumbers) → written name ≡ Some (45 ∷ text) → number_or numbers (written name) ≡ None
  bad_number name numbers e = ap (number_or numbers) e ∙ hyphen_is_no_number text numbers

  named : (name other : Text) → written name ≡ Some (45 ∷ text) → bytes_eq other name ≡ true → written other ≡ Some (45 ∷ text)
  named name other e same = ap written ((bytes_eq-Decides other name).0 same) ∙ e

  -- an option whose value begins with a hyphen
  bad_value : (name : Text) → is_among option_names name ≡ true → written name ≡ Some (45 ∷ text) → settings_by written ≡ None
  unfolding settings_by
  bad_value name known e = elim (either (bytes_eq (codes "mode") name) _ known) [
    | inl h ↦ none_here {A = Mode} (mode_or (written (codes "mode"))) _ (bad_mode (named name (codes "mode") e h))
    | inr t0 ↦ none_behind {A = Mode} (mode_or (written (codes "mode"))) _ (λ mode. elim (either (bytes_eq (codes "workers") name) _ t0) [
      | inl h ↦ none_here {A = ℕ} (number_or WORKERS (written (codes "workers"))) _ (bad_number (codes "workers") WORKERS (named name (codes "workers") e h))
      | inr t1 ↦ none_behind {A = ℕ} (number_or WORKERS (written (codes "workers"))) _ (λ workers. elim (either (bytes_eq (codes "slots") name) _ t1) [
        | inl h ↦ none_here {A = ℕ} (number_or SLOTS (written (codes "slots"))) _ (bad_number (codes "slots") SLOTS (named name (codes "slots") e h))
        | inr t2 ↦ none_behind {A = ℕ} (number_or SLOTS (written (codes "slots"))) _ (λ slots. elim (either (bytes_eq (codes "batch") name) _ t2) [
          | inl h ↦ none_here {A = ℕ} (number_or BATCH (written (codes "batch"))) _ (bad_number (codes "batch") BATCH (named name (codes "batch") e h))
          | inr t3 ↦ none_behind {A = ℕ} (number_or BATCH (written (codes "batch"))) _ (λ batch. elim (either (bytes_eq (codes "seed") name) _ t3) [
            | inl h ↦ none_here {A = ℕ} (number_or SEED (written (codes "seed"))) _ (bad_number (codes "seed") SEED (named name (codes "seed") e h))
            | inr t4 ↦ none_behind {A = ℕ} (number_or SEED (written (codes "seed"))) _ (λ seed. elim (either (bytes_eq (codes "rows") name) _ t4) [
              | inl h ↦ none_here {A = ℕ} (number_or ROWS (written (codes "rows"))) _ (bad_number (codes "rows") ROWS (named name (codes "rows") e h))
              | inr t5 ↦ none_behind {A = ℕ} (number_or ROWS (written (codes "rows"))) _ (λ rows. elim (either (bytes_eq (codes "port") name) _ t5) [
                | inl h ↦ none_here {A = ℕ} (number_or PORT (written (codes "port"))) _ (bad_number (codes "port") PORT (named name (codes "port") e h))
                | inr t6 ↦ none_behind {A = ℕ} (number_or PORT (written (codes "port"))) _ (λ port. elim (either (bytes_eq (codes "accept") name) _ t6) [
                  | inl h ↦ none_here {A = ℕ} (number_or ACCEPT (written (codes "accept"))) _ (bad_number (codes "accept") ACCEPT (named name (codes "accept") e h))
                  | inr t7 ↦ absurd (true≢false (sym t7))
                ])
              ])
            ])
          ])
        ])
      ])
    ])
  ]

-- ---- entries that are new

among_append : (names : List Text) (other name : Text) → is_among (names ++ other ∷ []) name ≡ false
    → (is_among names name ≡ false) × (bytes_eq other name ≡ false)
among_append [] other name e = (refl, last (bytes_eq other name) e)
  where
    last : (b : Bool) → (b || false) ≡ false → b ≡ false
    last true e = e
    last false e = refl
among_append (n ∷ names) other name e = go (bytes_eq n name) e (among_append names other name)
  where
    go : (b : Bool) → (b || is_among (names ++ other ∷ []) name) ≡ false
        → (is_among (names ++ other ∷ []) name ≡ false → (is_among names name ≡ false) × (bytes_eq other name ≡ false))
        → ((b || is_among names name) ≡ false) × (bytes_eq other name ≡ false)
    go true e rest = absurd (true≢false e)
    go false e rest = rest e

is_not : (b : Bool) → not b ≡ true → b ≡ false
is_not true e = sym e
is_not false e = refl

-- an entry among new ones is known, and none before it has its name
pub new_entry : (known named : List Text) (front : List NamedOption) (entry : NamedOption) (rest : List NamedOption) → are_new known named (front ++ entry ∷ rest) ≡ true
    → (is_among known entry.name ≡ true) × (is_among named entry.name ≡ false) × (value_of (front ++ entry ∷ rest) entry.name ≡ Some entry.value)
new_entry known named [] entry rest e =
    let parts = and_parts (is_among known entry.name) _ e in
    let more = and_parts (not (is_among named entry.name)) _ parts.1 in (
      parts.0,
      is_not (is_among named entry.name) more.0,
      ap (λ b. option_map (λ (x : NamedOption). x.value) (cond b (Some entry) (find (λ x. bytes_eq x.name entry.name) rest))) ((bytes_eq-Decides entry.name entry.name).1 refl),
    )
new_entry known named (first ∷ front) entry rest e =
    let parts = and_parts (is_among known first.name) _ e in
    let more = and_parts (not (is_among named first.name)) _ parts.1 in
    let on = new_entry known (named ++ first.name ∷ []) front entry rest more.1 in
    let apart = among_append named first.name entry.name on.1 in (
      on.0,
      apart.0,
      ap (λ b. option_map (λ (x : NamedOption). x.value) (cond b (Some first) (find (λ x. bytes_eq x.name entry.name) (front ++ entry ∷ rest)))) apart.1 ∙ on.2,
    )

-- the settings of entries behind others
abbrev pub settings_behind : List NamedOption → List NamedOption → Option Settings
settings_behind front entries = settings_in (front ++ entries)

spoils_by : (front : List NamedOption) (entry : NamedOption) (rest : List NamedOption) → (are_new option_names [] (front ++ entry ∷ rest) ≡ true → settings_by (value_of (front ++ entry ∷ rest)) ≡ None)
    → settings_behind front (entry ∷ rest) ≡ None
spoils_by front entry rest none = go (are_new option_names [] (front ++ entry ∷ rest)) none
  where
    go : (b : Bool) → (b ≡ true → settings_by (value_of (front ++ entry ∷ rest)) ≡ None) → cond b (settings_by (value_of (front ++ entry ∷ rest))) None ≡ None
    go true none = none refl
    go false none = refl

-- a value that begins with a hyphen
pub hyphen_spoils : (front : List NamedOption) (name text : Text) (rest : List NamedOption) → settings_behind front (record { name = name; value = 45 ∷ text } ∷ rest) ≡ None
hyphen_spoils front name text rest =
    spoils_by front (record { name = name; value = 45 ∷ text }) rest
    (λ new. let is = new_entry option_names [] front (record { name = name; value = 45 ∷ text }) rest new in
    bad_value (value_of (front ++ record { name = name; value = 45 ∷ text } ∷ rest)) text name is.0 is.2)

-- a name that is unknown
pub unknown_spoils : (front : List NamedOption) (entry : NamedOption) (rest : List NamedOption) → is_among option_names entry.name ≡ false → settings_behind front (entry ∷ rest) ≡ None
unknown_spoils front entry rest unknown =
    spoils_by front entry rest (λ new. absurd (true≢false (sym (new_entry option_names [] front entry rest new).0 ∙ unknown)))
