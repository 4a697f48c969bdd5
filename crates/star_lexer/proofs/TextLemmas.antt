-- A text is passed byte by byte, with the memory of one quote.
use Rattle.std.proofs.Common.{◌≡◌, ℕ, ◌+◌, ◌==◌, Bool, true, false, cond, nat_lt, List, [], ◌∷◌, Option, Some, None, option_map, refl, ap, ◌∙◌, arith}
use Rattle.std.proofs.lemmas.Bool.Decides.{Decides-eqb}
use Rattle.star_lexer.specs.Token.{text_len}
use Rattle.star_lexer.specs.Scan.{scan_len}

one_and_one : (o : Option ℕ) → option_map (λ len. 1 + len) (option_map (λ len. 1 + len) o) ≡ option_map (λ len. 2 + len) o
one_and_one None = refl
one_and_one (Some len) = let e : 1 + (1 + len) ≡ 2 + len = omega arith in ap Some e

neither : (low : Bool) → cond {A = Option ℕ} low None None ≡ None
neither true = refl
neither false = refl

last_by : (byte : ℕ) (quote : Bool) → (byte == 39) ≡ quote → scan_len false (byte ∷ []) ≡ text_len (byte ∷ [])
last_by byte true e = let same : byte ≡ 39 = (Decides-eqb byte 39).0 e in rw same
last_by byte false e = rw e (neither (nat_lt byte 32))

two_by : (byte next : ℕ) (bytes : List ℕ) (quote again : Bool) → (byte == 39) ≡ quote → (next == 39) ≡ again
    → scan_len false bytes ≡ text_len bytes → scan_len false (next ∷ bytes) ≡ text_len (next ∷ bytes)
    → scan_len false (byte ∷ next ∷ bytes) ≡ text_len (byte ∷ next ∷ bytes)
two_by byte next bytes true true e f behind rest =
    let same : byte ≡ 39 = (Decides-eqb byte 39).0 e in
    let also : next ≡ 39 = (Decides-eqb next 39).0 f in
    rw (same, also) (one_and_one (scan_len false bytes) ∙ ap (option_map (λ len. 2 + len)) behind)
two_by byte next bytes true false e f behind rest =
    let same : byte ≡ 39 = (Decides-eqb byte 39).0 e in rw (same, f)
two_by byte next bytes false again e f behind rest =
    rw e (ap (λ o. cond (nat_lt byte 32) None (option_map (λ len. 1 + len) o)) rest)

-- no byte in front was such a quote
pub scanned : (bytes : List ℕ) → scan_len false bytes ≡ text_len bytes
scanned [] = refl
scanned (byte ∷ []) = last_by byte (byte == 39) refl
scanned (byte ∷ next ∷ bytes) = two_by byte next bytes (byte == 39) (next == 39) refl refl (scanned bytes) (scanned (next ∷ bytes))
