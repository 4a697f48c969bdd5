-- What a text has in common with what a statement has of it.
use Rattle.std.proofs.Common.{◌≡◌, ℕ, ◌+◌, ◌<◌, ◌≤◌, Bool, true, false, nat_lt, List, [], ◌∷◌, length, map, take, refl, sym, ap, ◌∙◌, ⊎_elim, arith, IsUtf8}
use Rattle.std.specs.Str.{is_utf8, chars}
use Rattle.std.proofs.lemmas.Bool.{cond-false, cond-true, cases_lt, le-ltb, lt-ltb}
use Rattle.std.proofs.lemmas.List.{length-map, length-take}
use Rattle.std.proofs.lemmas.Str.{IsUtf8-from_is_utf8, IsUtf8-nil, is_utf8-from_IsUtf8}
use Rattle.script_reader.specs.declared.clipping.TheConstants.{LINE_LIMIT}
use Rattle.script_reader.specs.Laws.{LongLinesAreClipped}
use Rattle.script_reader.specs.Script.{clipped, clipped_to, stand_in}
use Rattle.script_reader.proofs.Utf8Lemmas.{utf8_behind_byte}

clipped_whole : (limit : ℕ) (text : List ℕ) → length text ≤ limit → clipped_to limit text ≡ text
unfolding clipped_to
clipped_whole limit text short =
    cond-false (nat_lt limit (length text)) (stand_in limit text) text (le-ltb limit (length text) short)

clipped_long : (limit : ℕ) (text : List ℕ) → limit < length text → clipped_to limit text ≡ stand_in limit text
unfolding clipped_to
clipped_long limit text long =
    cond-true (nat_lt limit (length text)) (stand_in limit text) text (lt-ltb limit (length text) long)

letters_utf8 : (xs : List ℕ) → is_utf8 (map {B = ℕ} (λ _. 120) xs) ≡ true
letters_utf8 [] = is_utf8-from_IsUtf8 [] IsUtf8-nil
letters_utf8 (x ∷ xs) = utf8_behind_byte 120 (map {B = ℕ} (λ _. 120) xs) (omega arith) ∙ letters_utf8 xs

byte_utf8 : is_utf8 (255 ∷ []) ≡ false
unfolding is_utf8 chars
byte_utf8 = refl

stands_utf8 : (limit : ℕ) (text : List ℕ) (test : Bool) → is_utf8 text ≡ test → is_utf8 (stand_in limit text) ≡ test
stands_utf8 limit text true is =
    ap is_utf8 (cond-true (is_utf8 text) (map {B = ℕ} (λ _. 120) (take (limit + 1) text)) (255 ∷ []) is) ∙ letters_utf8 (take (limit + 1) text)
stands_utf8 limit text false is =
    ap is_utf8 (cond-false (is_utf8 text) (map {B = ℕ} (λ _. 120) (take (limit + 1) text)) (255 ∷ []) is) ∙ byte_utf8

clipped_utf8 : (limit : ℕ) (text : List ℕ) → is_utf8 (clipped_to limit text) ≡ is_utf8 text
clipped_utf8 limit text = ⊎_elim
    (λ long. ap is_utf8 (clipped_long limit text long) ∙ stands_utf8 limit text (is_utf8 text) refl)
    (λ short. ap is_utf8 (clipped_whole limit text short))
    (cases_lt limit (length text))

stands_length : (limit : ℕ) (text : List ℕ) (test : Bool) → is_utf8 text ≡ test → length (stand_in limit text) ≤ limit + 1
stands_length limit text true is =
    let letters = cond-true (is_utf8 text) (map {B = ℕ} (λ _. 120) (take (limit + 1) text)) (255 ∷ []) is in
    let one = ap length letters in
    omega (arith, one, length-map {B = ℕ} (take (limit + 1) text) (λ _. 120), length-take (limit + 1) text)
stands_length limit text false is =
    let one = ap length (cond-false (is_utf8 text) (map {B = ℕ} (λ _. 120) (take (limit + 1) text)) (255 ∷ []) is) in omega (arith, one)

clipped_length : (limit : ℕ) (text : List ℕ) → length (clipped_to limit text) ≤ limit + 1
clipped_length limit text = ⊎_elim
    (λ long. let one = ap length (clipped_long limit text long) in omega (arith, one, stands_length limit text (is_utf8 text) refl))
    (λ short. let one = ap length (clipped_whole limit text short) in omega (arith, one, short))
    (cases_lt limit (length text))

stays_long : (limit : ℕ) (text : List ℕ) → IsUtf8 text → limit < length text → limit < length (clipped_to limit text)
stays_long limit text is long =
    let letters = cond-true (is_utf8 text) (map {B = ℕ} (λ _. 120) (take (limit + 1) text)) (255 ∷ []) (is_utf8-from_IsUtf8 text is) in
    let one = ap length (clipped_long limit text long ∙ letters) in
    omega (arith, one, long, length-map {B = ℕ} (take (limit + 1) text) (λ _. 120), length-take (limit + 1) text)

pub are_clipped : LongLinesAreClipped
are_clipped = record {
  whole = clipped_whole LINE_LIMIT;
  utf8 = λ text. (
    λ is. IsUtf8-from_is_utf8 text (sym (clipped_utf8 LINE_LIMIT text) ∙ is_utf8-from_IsUtf8 (clipped text) is),
    λ is. IsUtf8-from_is_utf8 (clipped text) (clipped_utf8 LINE_LIMIT text ∙ is_utf8-from_IsUtf8 text is),
  );
  long = stays_long LINE_LIMIT;
  short = clipped_length LINE_LIMIT;
}
