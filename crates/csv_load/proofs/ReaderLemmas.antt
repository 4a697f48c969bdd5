-- What one read of csv does to the records that a reader has left.
use Rattle.std.proofs.Common.{◌≡◌, ℕ, true, false, List, [], ◌∷◌, Option, Some, None, IsSome, refl, ◌∙◌}
use Rattle.std.specs.Borrow.{Bor}
use Rattle.csv.specs.Machine.{Read, ends_at_end, next_record}
use Rattle.csv.specs.Reading.{NextIs, ReadRecord, ReadsNext, ReadsOn, default_config, strip_bom}
use Rattle.csv.specs.declared.parser.State.{State}
use Rattle.csv.specs.declared.parser.State.TheVariants as st
use Rattle.csv.specs.declared.reader.Reader.{Reader}
use Rattle.csv_load.specs.Reading.{IsBetweenRecords, records_at, records_left}
use Rattle.csv_load.specs.Records.{records_of, without_marks}
use Rattle.csv_load.proofs.MarkLemmas.{strip_bom-without_marks}
use Rattle.csv_load.proofs.RecordLemmas.{between-after, records_behind-more, records_behind-none}

-- one record is taken from the front of those that were left
abbrev Takes : (s s2 : State) (before after : Option (List ℕ)) (fields : List (List ℕ)) → Type 0
Takes s s2 before after fields = IsSome after × (ends_at_end s2 ≡ false) × (records_at s before ≡ fields ∷ records_at s2 after)

next_takes : (o : Option Read) (s s2 : State) (bytes rest : List ℕ) (fields : List (List ℕ)) → ends_at_end s ≡ false
    → next_record default_config s [] [] bytes ≡ o → NextIs o true fields s2 rest → Takes s s2 (Some bytes) (Some rest) fields
next_takes None s s2 bytes rest fields between e n = cc n
next_takes (Some p) s s2 bytes rest fields between e n =
    rw (n.1, n.2, n.3) (refl, between-after s bytes p between e, records_behind-more s bytes p between e)

read_takes : (s s2 : State) (before after : Option (List ℕ)) (fields : List (List ℕ)) → ends_at_end s ≡ false → IsSome before
    → ReadsNext default_config s before after true fields s2 → Takes s s2 before after fields
read_takes s s2 None after fields between known r = cc known
read_takes s s2 (Some bytes) None fields between known r = absurd r
read_takes s s2 (Some bytes) (Some rest) fields between known r = next_takes _ s s2 bytes rest fields between refl r

next_ends : (o : Option Read) (s s2 : State) (bytes rest : List ℕ) (fields : List (List ℕ))
    → next_record default_config s [] [] bytes ≡ o → NextIs o false fields s2 rest → records_at s (Some bytes) ≡ []
next_ends None s s2 bytes rest fields e n = records_behind-none s bytes e
next_ends (Some p) s s2 bytes rest fields e n = cc n.0

read_ends : (s s2 : State) (before after : Option (List ℕ)) (fields : List (List ℕ))
    → ReadsNext default_config s before after false fields s2 → records_at s before ≡ []
read_ends s s2 None after fields r = refl
read_ends s s2 (Some bytes) None fields r = absurd r
read_ends s s2 (Some bytes) (Some rest) fields r = next_ends _ s s2 bytes rest fields refl r

pub found_more : (old new : Reader (Bor (List ℕ))) (fields : List (List ℕ)) → IsBetweenRecords old
    → ReadRecord (λ block. Some block.now) old new true fields → ReadsOn old new
    → IsBetweenRecords new × (records_left old ≡ fields ∷ records_left new)
found_more old new fields h r on =
    let config = h.config in
    let takes = read_takes old.state new.state _ _ fields h.between h.known (rw config at r.0) in (
      record {
        config = on.0 ∙ h.config;
        trim = on.1 ∙ h.trim;
        flexible = on.2 ∙ h.flexible;
        ready = (on.4 h.ready).0;
        known = rw r.1 takes.0;
        between = takes.1;
      },
      rw r.1 takes.2,
    )

pub found_none : (old new : Reader (Bor (List ℕ))) (fields : List (List ℕ)) → IsBetweenRecords old
    → ReadRecord (λ block. Some block.now) old new false fields → records_left old ≡ []
found_none old new fields h r =
    let config = h.config in
    read_ends old.state new.state _ _ fields (rw config at r.0)

-- before the first read all records of the block are left
pub all_left : (s : State) (left : Option (List ℕ)) (block front : List ℕ) → s ≡ st.StartRecord → left ≡ Some (strip_bom front)
    → front ≡ without_marks block → records_at s left ≡ records_of (without_marks block)
all_left s left block front start known same = rw (start, known, same, strip_bom-without_marks block)
