-- The numbers of the settings that words name are those that the options take.
use Rattle.std.proofs.Common.{◌≡◌, ℕ, Bool, true, false, cond, ◌&&◌, List, [], Option, Some, None, refl, arith}
use Rattle.std.specs.Prelude.{IfSome, codes, nat_le, option_and_then}
use Rattle.std.proofs.lemmas.Bool.{and_parts}
use Rattle.std.proofs.lemmas.Bool.Decides.{nat_tests}
use Rattle.star_main.specs.Ranges.{AreInRange, TakesNumber}
use Rattle.star_main.specs.Table.{are_new, option_names, settings_by, settings_in, settings_of, value_of, ◌>>=◌}
use Rattle.star_main.specs.Values.{mode_or, number_of, number_or, within}
use Rattle.star_main.specs.Words.{NamedOption, Text, entries_of}
use Rattle.star_main.specs.declared.limits.OptionNumbers.{OptionNumbers}
use Rattle.star_main.specs.declared.limits.TheConstants.{ACCEPT, BATCH, PORT, ROWS, SEED, SLOTS, WORKERS}
use Rattle.star_main.specs.declared.settings.Mode.{Mode}
use Rattle.star_main.specs.declared.settings.Settings.{Settings}

-- what is made of what there is, where there is something
behind : {A B : Type 0} (P : A → Type 0) (Q : B → Type 0) (o : Option A) (f : A → Option B) → IfSome o P
    → ((x : A) → P x → IfSome (f x) Q) → IfSome (o >>= f) Q
behind P Q None f has then = tt
behind P Q (Some x) f has then = then x has

within_takes : (numbers : OptionNumbers) (number : ℕ) → IfSome (within numbers number) (TakesNumber numbers)
within_takes numbers number = go (nat_le numbers.least number && nat_le number numbers.greatest) refl
  where
    go : (b : Bool) → (nat_le numbers.least number && nat_le number numbers.greatest) ≡ b
        → IfSome (cond b (Some number) None) (TakesNumber numbers)
    go false is = tt
    go true is =
        let parts = and_parts (nat_le numbers.least number) _ is in
        let low = parts.0 in
        let high = parts.1 in
        (grind (arith, nat_tests), grind (arith, nat_tests))

-- a number that is read or stands by default is one that the option takes
number_takes : (numbers : OptionNumbers) → TakesNumber numbers numbers.default → (o : Option Text) → IfSome (number_or numbers o) (TakesNumber numbers)
number_takes numbers default None = default
number_takes numbers default (Some text) = go (number_of text)
  where
    go : (o : Option ℕ) → IfSome (option_and_then (within numbers) o) (TakesNumber numbers)
    go None = tt
    go (Some number) = within_takes numbers number

-- what is made of a number that is read or stands by default
number_behind : (numbers : OptionNumbers) (o : Option Text) (f : ℕ → Option Settings) → TakesNumber numbers numbers.default
    → ((number : ℕ) → TakesNumber numbers number → IfSome (f number) AreInRange) → IfSome (number_or numbers o >>= f) AreInRange
number_behind numbers o f default then = behind (TakesNumber numbers) AreInRange (number_or numbers o) f (number_takes numbers default o) then

mode_behind : (o : Option Mode) (f : Mode → Option Settings) → ((mode : Mode) → IfSome (f mode) AreInRange) → IfSome (o >>= f) AreInRange
mode_behind None f then = tt
mode_behind (Some mode) f then = then mode

-- whatever is written for the names
pub settings_in_range : (written : Text → Option Text) → IfSome (settings_by written) AreInRange
unfolding settings_by
settings_in_range written =
    mode_behind (mode_or (written (codes "mode"))) _ λ mode.
    number_behind WORKERS (written (codes "workers")) _ (omega arith, omega arith) λ workers is_workers.
    number_behind SLOTS (written (codes "slots")) _ (omega arith, omega arith) λ slots is_slots.
    number_behind BATCH (written (codes "batch")) _ (omega arith, omega arith) λ batch is_batch.
    number_behind SEED (written (codes "seed")) _ (omega arith, omega arith) λ seed is_seed.
    number_behind ROWS (written (codes "rows")) _ (omega arith, omega arith) λ rows is_rows.
    number_behind PORT (written (codes "port")) _ (omega arith, omega arith) λ port is_port.
    number_behind ACCEPT (written (codes "accept")) _ (omega arith, omega arith) λ accept is_accept.
    record { workers = is_workers; slots = is_slots; batch = is_batch; seed = is_seed; rows = is_rows; port = is_port; accept = is_accept }

in_range_in : (entries : List NamedOption) → IfSome (settings_in entries) AreInRange
in_range_in entries = go (are_new option_names [] entries)
  where
    go : (b : Bool) → IfSome (cond b (settings_by (value_of entries)) None) AreInRange
    go true = settings_in_range (value_of entries)
    go false = tt

-- whatever the words are
pub in_range : (words : List Text) → IfSome (settings_of words) AreInRange
in_range words = go (entries_of words)
  where
    go : (o : Option (List NamedOption)) → IfSome (option_and_then settings_in o) AreInRange
    go None = tt
    go (Some entries) = in_range_in entries
