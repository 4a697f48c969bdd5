-- The records of bytes are one record and those of the rest, and csv's rule leaves no other records.
use Rattle.std.proofs.Common.{◌≡◌, ℕ, zero, suc, ◌+◌, ◌<◌, ◌≤◌, Bool, true, false, cond, not, ◌||◌, ◌==◌, List, [], ◌∷◌, ◌++◌, length, drop, length-drop, Option, Some, None, refl, ap, sym, subst, arith, add-one, ◌↔◌}
use Rattle.csv.specs.Machine.{Read, ends_at_end, field_after, fields_after, in_field, is_end, next_record, start_field, start_record, step}
use Rattle.csv.specs.Reading.{AreRecords, Reached, default_config, records, records_from, records_next}
use Rattle.csv.specs.declared.parser.Action.{Action}
use Rattle.csv.specs.declared.parser.Action.TheVariants as act
use Rattle.csv.specs.declared.parser.State.{State}
use Rattle.csv.specs.declared.parser.State.TheVariants as st
use Rattle.csv_load.specs.Reading.{records_behind}
use Rattle.csv_load.specs.Records.{records_in, records_of, without_marks}
use Rattle.csv_load.proofs.MarkLemmas.{length-without_marks}

-- a step that ends a record leaves a state at which the end of the bytes is no record
abbrev leaves_between : State × Action → Bool
leaves_between p = not (is_end p.1) || not (ends_at_end p.0)

either_leaves : (b : Bool) (p q : State × Action) → leaves_between p ≡ true → leaves_between q ≡ true → leaves_between (cond b p q) ≡ true
either_leaves true p q h k = h
either_leaves false p q h k = k

ended_leaves : (b : Bool) → leaves_between (cond b st.AfterCr st.StartRecord, act.EndRecord) ≡ true
ended_leaves true = refl
ended_leaves false = refl

field_leaves : (c : ℕ) → leaves_between (in_field default_config c) ≡ true
field_leaves c = either_leaves (c == 44) _ _ refl (either_leaves ((c == 13) || (c == 10)) _ _ (ended_leaves (c == 13)) refl)

start_leaves : (c : ℕ) → leaves_between (start_field default_config c) ≡ true
start_leaves c = either_leaves (c == 34) _ _ refl (field_leaves c)

first_leaves : (c : ℕ) → leaves_between (start_record default_config c) ≡ true
first_leaves c = either_leaves ((c == 13) || (c == 10)) _ _ refl (start_leaves c)

step_leaves : (s : State) (c : ℕ) → leaves_between (step default_config s c) ≡ true
step_leaves st.StartRecord c = first_leaves c
step_leaves st.StartField c = start_leaves c
step_leaves st.InField c = field_leaves c
step_leaves st.InQuoted c = either_leaves (c == 34) _ _ refl refl
step_leaves st.InEscape c = refl
step_leaves st.AfterQuote c = either_leaves (c == 34) _ _ refl (field_leaves c)
step_leaves st.InComment c = either_leaves (c == 10) _ _ refl refl
step_leaves st.AfterCr c = either_leaves (c == 10) _ _ refl (first_leaves c)

between_from : (p : State × Action) → leaves_between p ≡ true → is_end p.1 ≡ true → ends_at_end p.0 ≡ false
between_from p h e = by (ends_at_end p.0) (rw e at h)
  where
    by : (b : Bool) → not b ≡ true → b ≡ false
    by true h = cc
    by false h = refl

-- behind a record that was read the reader stands between records, and no more bytes are left
abbrev Leaves : Read → List ℕ → Type 0
Leaves p bytes = (ends_at_end p.1 ≡ false) × (length p.2 ≤ length bytes)

read_same : (p q : Read) → Some p ≡ Some q → p ≡ q
read_same p q h = cc h

leaves_at_end : (b : Bool) (fields : List (List ℕ)) (p : Read) → cond b (Some (fields, st.StartRecord, [])) None ≡ Some p → Leaves p []
leaves_at_end true fields p h = subst (λ (q : Read). Leaves q []) (read_same _ p h) (refl, omega arith)
leaves_at_end false fields p h = cc

-- a byte is read that ends a record, or more bytes are
byte_taken : (after : State × Action) (c : ℕ) (fields : List (List ℕ)) (field rest : List ℕ) (p : Read) → leaves_between after ≡ true
    → cond (is_end after.1) (Some (fields_after after.1 fields field, after.0, rest))
    (next_record default_config after.0 (fields_after after.1 fields field) (field_after after.1 c field) rest) ≡ Some p
    → ((fields2 : List (List ℕ)) (field2 : List ℕ) → next_record default_config after.0 fields2 field2 rest ≡ Some p → Leaves p rest)
    → Leaves p rest
byte_taken after c fields field rest p leaves h more = by (is_end after.1) refl h
  where
    by : (b : Bool) → is_end after.1 ≡ b
        → cond b (Some (fields_after after.1 fields field, after.0, rest))
        (next_record default_config after.0 (fields_after after.1 fields field) (field_after after.1 c field) rest) ≡ Some p
        → Leaves p rest
    by true e h = subst (λ (q : Read). Leaves q rest) (read_same _ p h) (between_from after leaves e, omega arith)
    by false e h = more _ _ h

read_leaves : (s : State) (fields : List (List ℕ)) (field bytes : List ℕ) (p : Read)
    → next_record default_config s fields field bytes ≡ Some p → Leaves p bytes
unfolding next_record
read_leaves s fields field [] p h = leaves_at_end (ends_at_end s) (fields ++ (field ∷ [])) p h
read_leaves s fields field (c ∷ rest) p h =
    let after = step default_config s c in
    let less = byte_taken after c fields field rest p (step_leaves s c) h (λ fields2 field2. read_leaves after.0 fields2 field2 rest p) in
    (less.0, omega (arith, less.1))

-- a record that stands behind another one takes a byte at least
read_takes : (s : State) (bytes : List ℕ) (p : Read) → ends_at_end s ≡ false → next_record default_config s [] [] bytes ≡ Some p
    → (ends_at_end p.1 ≡ false) × (length p.2 < length bytes)
unfolding next_record
read_takes s [] p between h = cc (rw between at h)
read_takes s (c ∷ rest) p between h =
    let after = step default_config s c in
    let less = byte_taken after c [] [] rest p (step_leaves s c) h (λ fields2 field2. read_leaves after.0 fields2 field2 rest p) in
    (less.0, omega (arith, less.1))

-- any number of turns above that of the bytes gives all records
turns_enough : (n m : ℕ) (s : State) (bytes : List ℕ) → ends_at_end s ≡ false → length bytes < n → length bytes < m
    → records_from default_config n s bytes ≡ records_from default_config m s bytes
unfolding records_from
turns_enough zero m s bytes between low high = absurd (omega arith)
turns_enough (suc n) zero s bytes between low high = absurd (omega arith)
turns_enough (suc n) (suc m) s bytes between low high = by (next_record default_config s [] [] bytes) refl (turns_enough n m)
  where
    by : (o : Option Read) → next_record default_config s [] [] bytes ≡ o
        → ((s2 : State) (rest : List ℕ) → ends_at_end s2 ≡ false → length rest < n → length rest < m
        → records_from default_config n s2 rest ≡ records_from default_config m s2 rest)
        → records_next (records_from default_config n) o ≡ records_next (records_from default_config m) o
    by None e more = refl
    by (Some p) e more =
        let takes = read_takes s bytes p between e in
        ap (λ (rest : List (List (List ℕ))). p.0 ∷ rest) (more p.1 p.2 takes.0 (omega (arith, takes.1)) (omega (arith, takes.1)))

-- the record that is read, and those behind it
pub records_behind-more : (s : State) (bytes : List ℕ) (p : Read) → ends_at_end s ≡ false → next_record default_config s [] [] bytes ≡ Some p
    → records_behind s bytes ≡ p.0 ∷ records_behind p.1 p.2
unfolding records_from
records_behind-more s bytes p between e =
    let takes = read_takes s bytes p between e in
    rw (add-one (length bytes), e)
    (ap (λ (rest : List (List (List ℕ))). p.0 ∷ rest)
    (turns_enough (length bytes) (length p.2 + 1) p.1 p.2 takes.0 takes.1 (omega arith)))

pub records_behind-none : (s : State) (bytes : List ℕ) → next_record default_config s [] [] bytes ≡ None → records_behind s bytes ≡ []
unfolding records_from
records_behind-none s bytes e = rw (add-one (length bytes), e)

pub between-after : (s : State) (bytes : List ℕ) (p : Read) → ends_at_end s ≡ false → next_record default_config s [] [] bytes ≡ Some p → ends_at_end p.1 ≡ false
between-after s bytes p between e = (read_takes s bytes p between e).0

-- csv's rule leaves no other records
records_only : (found : List (List (List ℕ))) (s s2 : State) (bytes rest : List ℕ) → ends_at_end s ≡ false
    → Reached default_config s bytes found s2 rest → next_record default_config s2 [] [] rest ≡ None → found ≡ records_behind s bytes
unfolding Reached
records_only [] s s2 bytes rest between h none = sym (records_behind-none s bytes (rw (h.0, h.1) none))
records_only (r ∷ rs) s s2 bytes rest between h none =
    let same = h.2 in
    let more = records_only rs h.0.1 s2 h.0.2 rest (between-after s bytes h.0 between h.1) h.3 none in
    rw (records_behind-more s bytes h.0 between h.1) (λ i. same i ∷ more i)

-- and it takes these
records_reached : (n : ℕ) (s : State) (bytes : List ℕ) → ends_at_end s ≡ false → length bytes < n
    → AreRecords default_config s bytes (records_from default_config n s bytes)
unfolding records_from Reached
records_reached zero s bytes between low = absurd (omega arith)
records_reached (suc n) s bytes between low = by (next_record default_config s [] [] bytes) refl (records_reached n)
  where
    by : (o : Option Read) → next_record default_config s [] [] bytes ≡ o
        → ((s2 : State) (rest : List ℕ) → ends_at_end s2 ≡ false → length rest < n
        → AreRecords default_config s2 rest (records_from default_config n s2 rest))
        → AreRecords default_config s bytes (records_next (records_from default_config n) o)
    by None e more = (s, bytes, (refl, refl), e)
    by (Some p) e more =
        let takes = read_takes s bytes p between e in
        let rest = more p.1 p.2 takes.0 (omega (arith, takes.1)) in
        (rest.0, rest.1, (p, e, refl, rest.2), rest.3)

pub records_fixed : (bytes : List ℕ) (found : List (List (List ℕ)))
    → AreRecords default_config st.StartRecord bytes found ↔ (found ≡ records default_config bytes)
records_fixed bytes found = (
  λ h. records_only found st.StartRecord h.0 bytes h.1 refl h.2 h.3,
  λ e. subst (λ (rows : List (List (List ℕ))). AreRecords default_config st.StartRecord bytes rows) (sym e)
      (records_reached (length bytes + 1) st.StartRecord bytes refl (omega arith)),
)

-- there are no more records than bytes
pub records_few : (n : ℕ) (s : State) (bytes : List ℕ) → ends_at_end s ≡ false → length (records_from default_config n s bytes) ≤ length bytes
unfolding records_from
records_few zero s bytes between = omega arith
records_few (suc n) s bytes between = by (next_record default_config s [] [] bytes) refl (records_few n)
  where
    by : (o : Option Read) → next_record default_config s [] [] bytes ≡ o
        → ((s2 : State) (rest : List ℕ) → ends_at_end s2 ≡ false → length (records_from default_config n s2 rest) ≤ length rest)
        → length (records_next (records_from default_config n) o) ≤ length bytes
    by None e more = omega arith
    by (Some p) e more =
        let takes = read_takes s bytes p between e in
        let few = more p.1 p.2 takes.0 in
        omega (arith, takes.1, few)

front_few : (header : Bool) (records : List (List (List ℕ))) (n : ℕ) → length records ≤ n → length (cond header (drop 1 records) records) ≤ n
front_few true records n h = let less = length-drop 1 records in omega (arith, less, h)
front_few false records n h = h

pub records_in-few : (header : Bool) (block : List ℕ) → length (records_in header block) ≤ length block
records_in-few header block =
    let few = records_few (length (without_marks block) + 1) st.StartRecord (without_marks block) refl in
    front_few header (records_of (without_marks block)) (length block) (omega (arith, few, length-without_marks block))

pub header_dropped : (header : Bool) (block : List ℕ) (left all : List (List (List ℕ))) → header ≡ true → left ≡ drop 1 all
    → all ≡ records_of (without_marks block) → left ≡ records_in header block
header_dropped header block left all with_header less same = rw (less, same, with_header)

pub no_header : (header : Bool) (block : List ℕ) (left all : List (List (List ℕ))) → header ≡ false → left ≡ all
    → all ≡ records_of (without_marks block) → left ≡ records_in header block
no_header header block left all without same is = rw (same, is, without)
