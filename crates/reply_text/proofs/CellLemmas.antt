-- A cell is read from the front by its first byte, up to the comma or line feed behind it.
use Rattle.std.proofs.Common.{◌≡◌, ℕ, zero, suc, ◌<◌, ◌^◌, ◌==◌, nat_lt, nat_le, Bool, true, false, cond, List, [], ◌∷◌, ◌++◌, length, drop, get_or, Option, Some, None, option_map, flat_map, refl, ap, sym, subst, ◌∙◌, arith, append_assoc, append-nil, ℤ, pos, negsuc, neg_ℤ, FitsSigned, w64}
use Rattle.std.specs.Bool.{Decides}
use Rattle.std.specs.Prelude.{codes, bytes_eq, if◌then◌else◌}
use Rattle.std.specs.Option.{option_and_then, option_or}
use Rattle.std.specs.Char.{is_ascii_digit}
use Rattle.std.specs.Fmt.{decimal, signed_decimal}
use Rattle.std.specs.List.{list_all, prefix_len}
use Rattle.std.specs.Str.Parse.{digits_value}
use Rattle.std.proofs.Math.Seq.{drop-cons}
use Rattle.std.proofs.lemmas.Bool.{and_parts}
use Rattle.std.proofs.lemmas.Bool.Decides.{Decides-eqb, nat_tests}
use Rattle.std.proofs.lemmas.Slice.Eq.{bytes_eq-Decides}
use Rattle.star_values.specs.Cell.{cell_text}
use Rattle.star_values.specs.Integer.{has_minus, integer_in, integer_of, is_integer, magnitude_of}
use Rattle.star_values.specs.SmallText.{IsSmallText, is_small_text}
use Rattle.star_values.specs.Value.{quoted, quoted_byte}
use Rattle.star_values.specs.declared.cell.Cell.{Cell}
use Rattle.star_values.specs.declared.cell.Cell.TheVariants.{Null, Full}
use Rattle.star_values.specs.declared.value.Value.TheVariants.{Int, Str}
use Rattle.reply_text.specs.Formed.{IsCell}
use Rattle.reply_text.specs.Reading.{Found, behind, cell_at, content_at, end_at, ended_cell_at, integer_at, integer_cell_in, is_integer_byte, null_at, plain_integer_in, text_at, with_front}
use Rattle.reply_text.proofs.PartLemmas.{behind-exact, behind-sound, if_some, map_some, or_some, part_at-exact, part_at-sound, then_some}
use Rattle.reply_text.proofs.NumberLemmas.{decimal_digits}

-- what the lower crate says of integers and of texts: an integer's text reads back, and the rule of a text is tested
pub record AreValues : Type 0 where
  pub back : (n : ℤ) → FitsSigned w64 n → integer_in (signed_decimal n) ≡ Some n
  pub rule : (text : List ℕ) → Decides (is_small_text text) (IsSmallText text)

integer_bytes : (ds : List ℕ) → list_all is_ascii_digit ds ≡ true → list_all is_integer_byte ds ≡ true
integer_bytes [] h = refl
integer_bytes (d ∷ ds) h =
    let parts = and_parts (is_ascii_digit d) (list_all is_ascii_digit ds) h in rw (parts.0, integer_bytes ds parts.1) refl

signed_bytes : (n : ℤ) → FitsSigned w64 n → list_all is_integer_byte (signed_decimal n) ≡ true
signed_bytes (pos n) fits = let small = fits.sfits in integer_bytes (decimal n) (decimal_digits n (omega arith))
signed_bytes (negsuc n) fits = let small = fits.sfits in integer_bytes (decimal (suc n)) (decimal_digits (suc n) (omega arith))

range_fits : (minus : Bool) (n : ℕ) → cond minus (nat_le n (2 ^ 63)) (nat_lt n (2 ^ 63)) ≡ true → FitsSigned w64 (cond minus (neg_ℤ (pos n)) (pos n))
range_fits true zero h = record { sfits = omega arith }
range_fits true (suc n) h = record { sfits = grind (arith, nat_tests) }
range_fits false n h = record { sfits = grind (arith, nat_tests) }

integer_in-fits : (bytes : List ℕ) (n : ℤ) → integer_in bytes ≡ Some n → FitsSigned w64 n
integer_in-fits bytes n e =
    let found = if_some (is_integer bytes) (integer_of bytes) n e in
    let parts = and_parts _ (if has_minus bytes then nat_le (digits_value 10 (magnitude_of bytes)) (2 ^ 63) else nat_lt (digits_value 10 (magnitude_of bytes)) (2 ^ 63)) found.0 in
    subst (FitsSigned w64) found.1 (range_fits (has_minus bytes) (digits_value 10 (magnitude_of bytes)) parts.1)

integer_cell-exact : AreValues → (n : ℤ) → FitsSigned w64 n → integer_cell_in (signed_decimal n) ≡ Some (Full (Int n))
unfolding plain_integer_in
integer_cell-exact values n fits =
    let same : bytes_eq (signed_decimal n) (signed_decimal n) ≡ true = (bytes_eq-Decides (signed_decimal n) (signed_decimal n)).1 refl in
    ap (λ found. option_map (λ m. Full (Int m)) (option_and_then (λ m. if bytes_eq (signed_decimal m) (signed_decimal n) then Some m else None) found)) (values.back n fits)
    ∙ ap (λ t. option_map (λ m. Full (Int m)) (if t then Some n else None)) same

-- a cell, and the text of it
abbrev IsCellText : List ℕ → Cell → Type 0
IsCellText text cell = IsCell cell × (text ≡ cell_text cell)

integer_cell-sound : (bytes : List ℕ) (cell : Cell) → integer_cell_in bytes ≡ Some cell → IsCellText bytes cell
unfolding plain_integer_in
integer_cell-sound bytes cell e =
    let n = map_some (λ m. Full (Int m)) (plain_integer_in bytes) cell e in
    let m = then_some (λ m. if bytes_eq (signed_decimal m) bytes then Some m else None) (integer_in bytes) n.0 n.1 in
    let found = if_some (bytes_eq (signed_decimal m.0) bytes) m.0 n.0 m.2 in
    let same = (bytes_eq-Decides (signed_decimal m.0) bytes).0 found.0 in
    subst (IsCellText bytes) n.2 (subst (λ i. IsCellText bytes (Full (Int i))) found.1 (integer_in-fits bytes m.0 m.1, sym same))

-- a cell stands at the front
abbrev pub IsCellAt : List ℕ → Cell × List ℕ → Type 0
IsCellAt bytes out = IsCell out.0 × (bytes ≡ cell_text out.0 ++ out.1)

-- what may stand behind a cell
pub record IsStop (byte : ℕ) : Type 0 where
  pub no_quote : (byte == 39) ≡ false
  pub no_integer : is_integer_byte byte ≡ false
  pub no_letter : (110 == byte) ≡ false
  pub no_text : (39 == byte) ≡ false

integer_at-exact : AreValues → (n : ℤ) (stop : ℕ) (more : List ℕ) → FitsSigned w64 n → IsStop stop
    → integer_at (signed_decimal n ++ (stop ∷ more)) ≡ Some (Full (Int n), stop ∷ more)
unfolding integer_at
integer_at-exact values n stop more fits stops =
    let ends : prefix_len is_integer_byte (stop ∷ more) ≡ 0 = rw stops.no_integer refl in
    part_at-exact is_integer_byte integer_cell_in (signed_decimal n) (stop ∷ more) (Full (Int n)) (signed_bytes n fits) ends (integer_cell-exact values n fits)

integer_at-sound : (bytes : List ℕ) (out : Cell × List ℕ) → integer_at bytes ≡ Some out → IsCellAt bytes out
unfolding integer_at
integer_at-sound bytes out e =
    let found = part_at-sound is_integer_byte integer_cell_in bytes out e in
    let is = integer_cell-sound found.0 out.0 found.1 in
    (is.0, found.2 ∙ ap (λ text. text ++ out.1) is.1)

null_at-sound : (bytes : List ℕ) (out : Cell × List ℕ) → null_at bytes ≡ Some out → IsCellAt bytes out
unfolding null_at
null_at-sound bytes out e =
    let f = map_some (λ rest. (Null, rest)) (behind (codes "null") bytes) out e in
    subst (IsCellAt bytes) f.2 (tt, behind-sound (codes "null") bytes f.0 f.1)

-- the text of content, from behind its first quote, in front of what stands behind its last one
abbrev content_text : List ℕ × List ℕ → List ℕ
content_text out = flat_map quoted_byte out.0 ++ (39 ∷ out.1)

content_by : (byte : ℕ) (text more : List ℕ) (stop : ℕ) (quote : Bool) → (byte == 39) ≡ quote
    → content_at false (content_text (text, stop ∷ more)) ≡ Some (text, stop ∷ more)
    → content_at false (content_text (byte ∷ text, stop ∷ more)) ≡ Some (byte ∷ text, stop ∷ more)
content_by byte text more stop true e h =
    let same : byte ≡ 39 = (Decides-eqb byte 39).0 e in rw same (ap (option_map (λ f. (39 ∷ f.0, f.1))) h)
content_by byte text more stop false e h = rw (e, e) (ap (option_map (λ f. (byte ∷ f.0, f.1))) h)

content-exact : (text more : List ℕ) (stop : ℕ) → (stop == 39) ≡ false → content_at false (content_text (text, stop ∷ more)) ≡ Some (text, stop ∷ more)
content-exact [] more stop ends = rw ends refl
content-exact (byte ∷ text) more stop ends = content_by byte text more stop (byte == 39) refl (content-exact text more stop ends)

-- the bytes with the quote that was passed, if one was
abbrev from_quote : Bool → List ℕ → List ℕ
from_quote true bytes = 39 ∷ bytes
from_quote false bytes = bytes

plain_text : (byte : ℕ) (f : List ℕ × List ℕ) → (byte == 39) ≡ false → byte ∷ content_text f ≡ content_text (byte ∷ f.0, f.1)
plain_text byte f e = rw e refl

open_by : (byte : ℕ) (bytes : List ℕ) (out : List ℕ × List ℕ) (quote : Bool) → (byte == 39) ≡ quote
    → (content_at true bytes ≡ Some out → 39 ∷ bytes ≡ content_text out) → ((f : List ℕ × List ℕ) → content_at false bytes ≡ Some f → bytes ≡ content_text f)
    → (if quote then content_at true bytes else option_map (λ f. (byte ∷ f.0, f.1)) (content_at false bytes)) ≡ Some out → byte ∷ bytes ≡ content_text out
open_by byte bytes out true e closed open_more h =
    let same : byte ≡ 39 = (Decides-eqb byte 39).0 e in ap (λ b. b ∷ bytes) same ∙ closed h
open_by byte bytes out false e closed open_more h =
    let f = map_some (λ f. (byte ∷ f.0, f.1)) (content_at false bytes) out h in
    subst (λ o. byte ∷ bytes ≡ content_text o) f.2 (ap (λ r. byte ∷ r) (open_more f.0 f.1) ∙ plain_text byte f.0 e)

doubled : (byte : ℕ) (bytes : List ℕ) (f : List ℕ × List ℕ) → byte ≡ 39 → bytes ≡ content_text f → 39 ∷ byte ∷ bytes ≡ content_text (byte ∷ f.0, f.1)
doubled byte bytes f same h = rw same (ap (λ r. 39 ∷ 39 ∷ r) h)

closed_by : (byte : ℕ) (bytes : List ℕ) (out : List ℕ × List ℕ) (quote : Bool) → (byte == 39) ≡ quote → ((f : List ℕ × List ℕ) → content_at false bytes ≡ Some f → bytes ≡ content_text f)
    → (if quote then option_map (λ f. (byte ∷ f.0, f.1)) (content_at false bytes) else Some ([], byte ∷ bytes)) ≡ Some out → 39 ∷ byte ∷ bytes ≡ content_text out
closed_by byte bytes out true e open_more h =
    let same : byte ≡ 39 = (Decides-eqb byte 39).0 e in
    let f = map_some (λ f. (byte ∷ f.0, f.1)) (content_at false bytes) out h in
    subst (λ o. 39 ∷ byte ∷ bytes ≡ content_text o) f.2 (doubled byte bytes f.0 same (open_more f.0 f.1))
closed_by byte bytes out false e open_more h =
    let same : ([], byte ∷ bytes) ≡ out = grind (arith, h) in
    subst (λ (o : List ℕ × List ℕ). 39 ∷ byte ∷ bytes ≡ content_text o) same refl

content-sound : (passed : Bool) (bytes : List ℕ) (out : List ℕ × List ℕ) → content_at passed bytes ≡ Some out → from_quote passed bytes ≡ content_text out
content-sound true [] out e = absurd (cc)
content-sound false [] out e = absurd (cc)
content-sound false (byte ∷ bytes) out e = open_by byte bytes out (byte == 39) refl (content-sound true bytes out) (content-sound false bytes) e
content-sound true (byte ∷ bytes) out e = closed_by byte bytes out (byte == 39) refl (content-sound false bytes) e

quoted_front : (text rest : List ℕ) → quoted text ++ rest ≡ codes "'" ++ content_text (text, rest)
quoted_front text rest = ap (λ bytes. 39 ∷ bytes) (append_assoc (flat_map quoted_byte text) (39 ∷ []) rest)

text_at-exact : AreValues → (text more : List ℕ) (stop : ℕ) → IsSmallText text → IsStop stop
    → text_at (quoted text ++ (stop ∷ more)) ≡ Some (Full (Str text), stop ∷ more)
unfolding text_at
text_at-exact values text more stop small stops =
    let passes : is_small_text text ≡ true = (values.rule text).1 small in
    ap text_at (quoted_front text (stop ∷ more))
    ∙ ap (option_and_then (λ b. option_and_then (λ f. if is_small_text f.0 then Some (Full (Str f.0), f.1) else None) (content_at false b)))
    (behind-exact (codes "'") (content_text (text, stop ∷ more)))
    ∙ ap (option_and_then (λ f. if is_small_text f.0 then Some (Full (Str f.0), f.1) else None)) (content-exact text more stop stops.no_quote)
    ∙ ap (λ t. if t then Some (Full (Str text), stop ∷ more) else None) passes

text_at-sound : AreValues → (bytes : List ℕ) (out : Cell × List ℕ) → text_at bytes ≡ Some out → IsCellAt bytes out
unfolding text_at
text_at-sound values bytes out e =
    let b = then_some (λ b. option_and_then (λ f. if is_small_text f.0 then Some (Full (Str f.0), f.1) else None) (content_at false b)) (behind (codes "'") bytes) out e in
    let f = then_some (λ f. if is_small_text f.0 then Some (Full (Str f.0), f.1) else None) (content_at false b.0) out b.2 in
    let found = if_some (is_small_text f.0.0) (Full (Str f.0.0), f.0.1) out f.2 in
    let small = (values.rule f.0.0).0 found.0 in
    let whole = behind-sound (codes "'") bytes b.0 b.1 ∙ ap (λ r. codes "'" ++ r) (content-sound false b.0 f.0 f.1) ∙ sym (quoted_front f.0.0 f.0.1) in
    subst (IsCellAt bytes) found.1 (small, whole)

-- an integer, with what stands behind it, begins with no quote and no letter
no_word_by : (w : ℕ) (ws bytes : List ℕ) (b : ℕ) → (w == b) ≡ false → behind (w ∷ ws) (b ∷ bytes) ≡ None
unfolding behind
no_word_by w ws bytes b e = rw e refl

integer_byte_is_no : (w b : ℕ) → is_integer_byte b ≡ true → is_integer_byte w ≡ false → (w == b) ≡ false
integer_byte_is_no w b h other = by_test (w == b) refl
  where
    by_test : (t : Bool) → (w == b) ≡ t → t ≡ false
    by_test true e = let same : w ≡ b = (Decides-eqb w b).0 e in absurd (let yes : is_integer_byte w ≡ true = rw same h in cc)
    by_test false e = refl

no_word : (w : ℕ) (ws text more : List ℕ) (stop : ℕ) → list_all is_integer_byte text ≡ true → is_integer_byte w ≡ false → (w == stop) ≡ false
    → behind (w ∷ ws) (text ++ (stop ∷ more)) ≡ None
no_word w ws [] more stop all other ends = no_word_by w ws more stop ends
no_word w ws (b ∷ text) more stop all other ends =
    let parts = and_parts (is_integer_byte b) (list_all is_integer_byte text) all in
    no_word_by w ws (text ++ (stop ∷ more)) b (integer_byte_is_no w b parts.0 other)

no_text : (n : ℤ) (stop : ℕ) (more : List ℕ) → FitsSigned w64 n → IsStop stop → text_at (signed_decimal n ++ (stop ∷ more)) ≡ None
unfolding text_at
no_text n stop more fits stops =
    ap (option_and_then (λ b. option_and_then (λ f. if is_small_text f.0 then Some (Full (Str f.0), f.1) else None) (content_at false b)))
    (no_word 39 [] (signed_decimal n) more stop (signed_bytes n fits) refl stops.no_text)

no_null : (n : ℤ) (stop : ℕ) (more : List ℕ) → FitsSigned w64 n → IsStop stop → null_at (signed_decimal n ++ (stop ∷ more)) ≡ None
unfolding null_at
no_null n stop more fits stops =
    ap (option_map (λ rest. (Null, rest))) (no_word 110 (codes "ull") (signed_decimal n) more stop (signed_bytes n fits) refl stops.no_letter)

null_cell : (rest : List ℕ) → cell_at (codes "null" ++ rest) ≡ Some (Null, rest)
unfolding cell_at text_at null_at behind
null_cell rest = refl

or_none : {A : Type 0} (a b : Option A) (y : A) → a ≡ None → b ≡ Some y → option_or a b ≡ Some y
or_none a b y none some = rw (none, some) refl

or_first : {A : Type 0} (a b : Option A) (y : A) → a ≡ Some y → option_or a b ≡ Some y
or_first a b y some = rw some refl

pub cell_at-exact : AreValues → (cell : Cell) (stop : ℕ) (more : List ℕ) → IsCell cell → IsStop stop → cell_at (cell_text cell ++ (stop ∷ more)) ≡ Some (cell, stop ∷ more)
unfolding cell_at
cell_at-exact values Null stop more is stops = null_cell (stop ∷ more)
cell_at-exact values (Full (Int n)) stop more is stops =
    or_none (text_at (signed_decimal n ++ (stop ∷ more))) _ _ (no_text n stop more is stops)
    (or_none (null_at (signed_decimal n ++ (stop ∷ more))) _ _ (no_null n stop more is stops) (integer_at-exact values n stop more is stops))
cell_at-exact values (Full (Str text)) stop more is stops = or_first (text_at (quoted text ++ (stop ∷ more))) _ _ (text_at-exact values text more stop is stops)

pub cell_at-sound : AreValues → (bytes : List ℕ) (out : Cell × List ℕ) → cell_at bytes ≡ Some out → IsCellAt bytes out
unfolding cell_at
cell_at-sound values bytes out e =
    or_some (text_at bytes) (option_or (null_at bytes) (integer_at bytes)) out e (text_at-sound values bytes out)
    (λ e. or_some (null_at bytes) (integer_at bytes) out e (null_at-sound bytes out) (integer_at-sound bytes out))

-- the byte that ends a cell: a line feed where it is the last of its row, else a comma
abbrev pub end_byte : Bool → ℕ
end_byte true = 10
end_byte false = 44

end_stops : (last : Bool) → IsStop (end_byte last)
end_stops true = record { no_quote = refl; no_integer = refl; no_letter = refl; no_text = refl }
end_stops false = record { no_quote = refl; no_integer = refl; no_letter = refl; no_text = refl }

end_at-exact : (last : Bool) (rest : List ℕ) → end_at (end_byte last ∷ rest) ≡ Some (last, rest)
unfolding end_at behind
end_at-exact true rest = refl
end_at-exact false rest = refl

abbrev IsEndAt : List ℕ → Bool × List ℕ → Type 0
IsEndAt bytes out = bytes ≡ end_byte out.0 ∷ out.1

end_at-sound : (bytes : List ℕ) (out : Bool × List ℕ) → end_at bytes ≡ Some out → IsEndAt bytes out
unfolding end_at
end_at-sound bytes out e =
    or_some (option_map (λ rest. (true, rest)) (behind (codes "\n") bytes)) (option_map (λ rest. (false, rest)) (behind (codes ",") bytes)) out e
    (λ e. let f = map_some (λ rest. (true, rest)) (behind (codes "\n") bytes) out e in subst (IsEndAt bytes) f.2 (behind-sound (codes "\n") bytes f.0 f.1))
    (λ e. let f = map_some (λ rest. (false, rest)) (behind (codes ",") bytes) out e in subst (IsEndAt bytes) f.2 (behind-sound (codes ",") bytes f.0 f.1))

pub ended_cell-exact : AreValues → (cell : Cell) (last : Bool) (rest : List ℕ) → IsCell cell
    → ended_cell_at (cell_text cell ++ (end_byte last ∷ rest)) ≡ Some (cell, last, rest)
unfolding ended_cell_at
ended_cell-exact values cell last rest is =
    ap (option_and_then (λ f. option_map (λ g. (f.0, g.0, g.1)) (end_at f.1))) (cell_at-exact values cell (end_byte last) rest is (end_stops last))
    ∙ ap (option_map (λ g. (cell, g.0, g.1))) (end_at-exact last rest)

abbrev pub IsEndedCell : List ℕ → Cell × Bool × List ℕ → Type 0
IsEndedCell bytes out = IsCell out.0 × (bytes ≡ cell_text out.0 ++ (end_byte out.1 ∷ out.2))

pub ended_cell-sound : AreValues → (bytes : List ℕ) (out : Cell × Bool × List ℕ) → ended_cell_at bytes ≡ Some out → IsEndedCell bytes out
unfolding ended_cell_at
ended_cell-sound values bytes out e =
    let f = then_some (λ f. option_map (λ g. (f.0, g.0, g.1)) (end_at f.1)) (cell_at bytes) out e in
    let g = map_some (λ g. (f.0.0, g.0, g.1)) (end_at f.0.1) out f.2 in
    let is = cell_at-sound values bytes f.0 f.1 in
    let ends = end_at-sound f.0.1 g.0 g.1 in
    subst (IsEndedCell bytes) g.2 (is.0, is.1 ∙ ap (λ r. cell_text f.0.0 ++ r) ends)

-- a loop that reads content: the byte behind a quote ends it
pub content_ends : (front bytes rest : List ℕ) (place passed : ℕ) (quoted : Bool) (all : Found (List ℕ))
    → (with_front front (content_at quoted (drop place bytes)) ≡ all) × (passed ≡ place) → place < length bytes → quoted ≡ true → (get_or bytes place 0 ≡ 39 → ⊥)
    → rest ≡ drop passed bytes → Some (front, rest) ≡ all
content_ends front bytes rest place passed quoted all h within is other behind =
    let cut = drop-cons bytes place 0 within in
    let plain : (get_or bytes place 0 == 39) ≡ false = grind (arith, nat_tests) in
    let step = rw (cut, is, plain) at h.0 in
    rw (behind, h.1, cut) (ap (λ f. Some (f, get_or bytes place 0 ∷ drop (suc place) bytes)) (sym (append-nil front)) ∙ step)
