-- Which statements are a `wait`: one whose line is UTF-8 and is parsed as such, and no other.
use Rattle.script_run.proofs.Words.{◌≡◌, Bool, false, is_wait, length, List, means_wait, refl, Statement, true, ℕ}
use Rattle.std.specs.Str.{IsUtf8, is_utf8}
use Rattle.std.proofs.lemmas.Str.{IsUtf8-from_is_utf8, is_utf8-from_IsUtf8}
use Rattle.star_parser.specs.Parsed.{parsed_of}
use Rattle.star_store.specs.Text.{meaning_of, parsed_meaning}

-- a line that is UTF-8 is what it is parsed as
pub wait-utf8 : (statement : Statement) → IsUtf8 statement.line
    → means_wait (parsed_meaning (length statement.line) statement.block (parsed_of statement.line)) ≡ is_wait statement
unfolding meaning_of
wait-utf8 statement utf8 = rw (is_utf8-from_IsUtf8 statement.line utf8)

fails-test : (bytes : List ℕ) (test : Bool) → is_utf8 bytes ≡ test → (IsUtf8 bytes → ⊥) → is_utf8 bytes ≡ false
fails-test bytes true e broken = absurd (broken (IsUtf8-from_is_utf8 bytes e))
fails-test bytes false e broken = e

-- one that is not UTF-8 is no `wait`
pub wait-not_utf8 : (statement : Statement) → (IsUtf8 statement.line → ⊥) → false ≡ is_wait statement
unfolding meaning_of
wait-not_utf8 statement broken = rw (fails-test statement.line (is_utf8 statement.line) refl broken)
