-- The rules of options with plain names: which one a name finds, and that none asks for anything.
use Rattle.std.proofs.Common.{◌≡◌, ◌∙◌, ℕ, Bool, true, false, cond, not, ◌&&◌, ◌||◌, List, [], ◌∷◌, ◌++◌, map, Option, Some, None, refl, ap, append-nil, true≢false}
use Rattle.std.specs.List.{find, fold, list_any}
use Rattle.std.specs.Str.{bytes_eq}
use Rattle.std.proofs.lemmas.Slice.Eq.{bytes_eq-Decides}
use Rattle.std.specs.Option.{option_map}
use Rattle.std.specs.Prelude.{option_and_then, slice_get}
use Rattle.clap.specs.Faults.{defaults_fault, given_default_fault}
use Rattle.clap.specs.Kinds.{Kinds, or_else}
use Rattle.clap.specs.Simple.{filled, with_index}
use Rattle.clap.specs.Takes.{is_given}
use Rattle.clap.specs.Walk.{Row, Rule, arg_by_id, arg_by_index, arg_by_long, arg_by_short, at_row, first_of, has_row, more_values, used, with_default, with_values}
use Rattle.clap.specs.declared.builder.value_parser.Reading.TheVariants.{AsWritten}
use Rattle.clap.specs.declared.parser.matches.ValueSource.TheVariants.{CommandLine}
use Rattle.star_main.specs.Rows.{rule_named}
use Rattle.star_main.specs.Table.{is_among, value_of}
use Rattle.star_main.specs.Words.{NamedOption, Text}

-- the rule of a name, once the command is built
abbrev pub rule : Text → Rule
rule name = with_index 1 (filled (rule_named name))

abbrev pub rules_for : List Text → List Rule
rules_for names = map rule names

abbrev pub rule_among : List Text → Text → Option Rule
rule_among names name = cond (is_among names name) (Some (rule name)) None

pub by_long : (names : List Text) (name : Text) → arg_by_long (rules_for names) name ≡ rule_among names name
by_long [] name = refl
by_long (n ∷ names) name = go (bytes_eq n name) refl (by_long names name)
  where
    go : (b : Bool) → bytes_eq n name ≡ b → arg_by_long (rules_for names) name ≡ rule_among names name
        → cond (b || false) (Some (rule n)) (arg_by_long (rules_for names) name) ≡ cond (b || is_among names name) (Some (rule name)) None
    go true e rest = ap (λ m. Some (rule m)) ((bytes_eq-Decides n name).0 e)
    go false e rest = rest

pub by_id : (names : List Text) (name : Text) → arg_by_id (rules_for names) name ≡ rule_among names name
by_id [] name = refl
by_id (n ∷ names) name = go (bytes_eq n name) refl (by_id names name)
  where
    go : (b : Bool) → bytes_eq n name ≡ b → arg_by_id (rules_for names) name ≡ rule_among names name
        → cond b (Some (rule n)) (arg_by_id (rules_for names) name) ≡ cond (b || is_among names name) (Some (rule name)) None
    go true e rest = ap (λ m. Some (rule m)) ((bytes_eq-Decides n name).0 e)
    go false e rest = rest

pub by_short : (names : List Text) (x : ℕ) → arg_by_short (rules_for names) x ≡ None
by_short [] x = refl
by_short (n ∷ names) x = by_short names x

pub by_index : (names : List Text) (i : ℕ) → arg_by_index (rules_for names) i ≡ None
by_index [] i = refl
by_index (n ∷ names) i = by_index names i

-- no option has a default, and none is required

default_adds_none : (rows : List Row) (name : Text) → with_default rows (rule name) ≡ rows
default_adds_none rows name = go (has_row name rows)
  where
    go : (b : Bool) → cond b rows rows ≡ rows
    go true = refl
    go false = refl

pub defaults_add_none : (names : List Text) (rows : List Row) → fold with_default rows (rules_for names) ≡ rows
defaults_add_none [] rows = refl
defaults_add_none (n ∷ names) rows =
    ap (λ rs. fold with_default rs (rules_for names)) (default_adds_none rows n) ∙ defaults_add_none names rows

pub defaults_pass : (names : List Text) (rows : List Row) → defaults_fault rows (rules_for names) ≡ []
unfolding defaults_fault
defaults_pass [] rows = refl
defaults_pass (n ∷ names) rows = go (has_row n rows) (given_default_fault (rule n) []) _ (defaults_pass names (with_default rows (rule n)))
  where
    go : (b : Bool) (kinds more : Kinds) → more ≡ [] → or_else (cond (b || true) [] kinds) more ≡ []
    go true kinds more rest = rest
    go false kinds more rest = rest

pub none_required : (names : List Text) (rows : List Row) → list_any (λ a. a.required && not (is_given a.id rows)) (rules_for names) ≡ false
none_required [] rows = refl
none_required (n ∷ names) rows = none_required names rows

-- ---- rows

-- the row of an entry
abbrev pub row_for : NamedOption → Row
row_for entry = record {
  id = entry.name;
  values = entry.value ∷ [];
  count = None;
  source = Some CommandLine;
  reading = AsWritten;
}

abbrev pub names_in : List NamedOption → List Text
names_in = map (λ entry. entry.name)

pub has_row-among : (entries : List NamedOption) (name : Text) → has_row name (map row_for entries) ≡ is_among (names_in entries) name
has_row-among [] name = refl
has_row-among (e ∷ entries) name = ap (λ b. bytes_eq e.name name || b) (has_row-among entries name)

at_new : (name : Text) (change : Row → List Row) (missing rows : List Row) → has_row name rows ≡ false
    → at_row name change missing rows ≡ rows ++ missing
at_new name change missing [] new = refl
at_new name change missing (r ∷ rows) new = go (bytes_eq r.id name) new (at_new name change missing rows)
  where
    go : (b : Bool) → (b || has_row name rows) ≡ false → (has_row name rows ≡ false → at_row name change missing rows ≡ rows ++ missing)
        → cond b (change r ++ rows) (r ∷ at_row name change missing rows) ≡ r ∷ (rows ++ missing)
    go true h rest = absurd (true≢false h)
    go false h rest = ap (λ rs. r ∷ rs) (rest h)

-- a first use of an option adds a row
pub used_new : (name value : Text) (rows : List Row) → has_row name rows ≡ false
    → used (rule name) (value ∷ []) rows ≡ rows ++ row_for (record { name = name; value = value }) ∷ []
used_new name value rows new =
    let same : at_row name (λ _. []) [] rows ≡ rows = at_new name (λ _. []) [] rows new ∙ append-nil rows in
    ap (λ rs. with_values name AsWritten CommandLine (value ∷ []) rs) same ∙ at_new name (more_values CommandLine (value ∷ [])) _ rows new

-- what is found for a name is what the entries have for it
pub first_of-entries : (entries : List NamedOption) (name : Text) → first_of name (map row_for entries) ≡ value_of entries name
first_of-entries [] name = refl
first_of-entries (e ∷ entries) name = go (bytes_eq e.name name) (first_of-entries entries name)
  where
    go : (b : Bool) → first_of name (map row_for entries) ≡ value_of entries name
        → option_and_then (λ (r : Row). slice_get r.values 0) (cond b (Some (row_for e)) (find (λ r. bytes_eq r.id name) (map row_for entries)))
        ≡ option_map (λ (entry : NamedOption). entry.value) (cond b (Some e) (find (λ entry. bytes_eq entry.name name) entries))
    go true rest = refl
    go false rest = rest
