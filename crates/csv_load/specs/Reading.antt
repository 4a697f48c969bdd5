-- What a reader of a block has left.
use Rattle.std.specs.Prelude.{ℕ, ◌≡◌, ◌+◌, true, false, List, [], length, Option, Some, None, IsSome}
use Rattle.std.specs.Borrow.{Bor}
use Rattle.csv.specs.Machine.{ends_at_end}
use Rattle.csv.specs.Reading.{Ready, default_config, is_flexible, reader_config, reader_state, reader_trim, records_from, source_of}
use Rattle.csv.specs.declared.parser.State.{State}
use Rattle.csv.specs.declared.reader.Reader.{Reader}
use Rattle.csv.specs.declared.reader.Trim.TheVariants as trim

-- all bytes of the block that a reader has not read
abbrev pub bytes_left : Reader (Bor (List ℕ)) → Option (List ℕ)
bytes_left reader = source_of (λ block. Some block.now) reader

-- the records of bytes that stand behind a record
abbrev pub records_behind : State → List ℕ → List (List (List ℕ))
records_behind state bytes = records_from default_config (length bytes + 1) state bytes

-- the records of the bytes that are left, where these are known
abbrev pub records_at : State → Option (List ℕ) → List (List (List ℕ))
records_at state None = []
records_at state (Some bytes) = records_behind state bytes

-- the records that a reader has left
abbrev pub records_left : Reader (Bor (List ℕ)) → List (List (List ℕ))
records_left reader = records_at (reader_state reader) (bytes_left reader)

-- a reader with csv's defaults, without a header, stands between two records
pub record IsBetweenRecords (reader : Reader (Bor (List ℕ))) : Type 0 where
  pub config : reader_config reader ≡ default_config
  pub trim : reader_trim reader ≡ trim.None
  pub flexible : is_flexible reader ≡ true
  pub ready : Ready reader
  pub known : IsSome (bytes_left reader)
  pub between : ends_at_end (reader_state reader) ≡ false
