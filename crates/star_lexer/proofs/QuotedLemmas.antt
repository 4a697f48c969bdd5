-- A text between quotes is read to its last quote, its content is the text, and it is UTF-8 where the text is.
use Rattle.std.proofs.Common.{◌≡◌, ℕ, suc, ◌+◌, ◌<◌, ◌≤◌, ◌==◌, nat_lt, Bool, true, false, List, [], ◌∷◌, ◌++◌, length, get_or, Some, option_map, flat_map, refl, ap, sym, subst, ◌∙◌, arith, length-append}
use Rattle.std.specs.List.{All}
use Rattle.std.specs.Str.{IsUtf8}
use Rattle.std.proofs.Math.Utf8.{encode, encodes, scalar, scalars}
use Rattle.std.proofs.lemmas.Bool.{and_parts}
use Rattle.std.proofs.lemmas.Bool.Decides.{Decides-eqb, nat_tests}
use Rattle.std.proofs.lemmas.Grind.{flat_map-append}
use Rattle.std.proofs.lemmas.List.Elements.{All-head, All-tail}
use Rattle.std.proofs.lemmas.Str.{IsUtf8-nil, IsUtf8-append}
use Rattle.star_values.specs.Value.{quoted_byte, quoted}
use Rattle.star_lexer.specs.Token.{text_len}
use Rattle.star_lexer.specs.Symbol.{content}
use Rattle.star_lexer.proofs.ContentLemmas.{content-cons, no_quotes, quote_encodes, IsUtf8-one, IsUtf8-quote}

-- what may stand behind a symbol in a line: nothing, or a space first
abbrev pub EndsSymbol : List ℕ → Type 0
EndsSymbol [] = Unit {0}
EndsSymbol (byte ∷ bytes) = byte ≡ 32

text_len-cons : (byte : ℕ) (bytes : List ℕ) → 0 < length bytes → (byte == 39) ≡ false → nat_lt byte 32 ≡ false
    → text_len (byte ∷ bytes) ≡ option_map (λ len. 1 + len) (text_len bytes)
text_len-cons byte [] some e f = absurd (omega arith)
text_len-cons byte (next ∷ bytes) some e f = rw (e, f)

last_quote : (rest : List ℕ) → EndsSymbol rest → text_len (39 ∷ rest) ≡ Some 1
last_quote [] h = refl
last_quote (byte ∷ rest) h = rw h

text_len_by : (byte : ℕ) (text rest : List ℕ) (quote : Bool) → (byte == 39) ≡ quote → 32 ≤ byte
    → text_len (flat_map quoted_byte text ++ 39 ∷ rest) ≡ Some (length (flat_map quoted_byte text) + 1)
    → text_len (flat_map quoted_byte (byte ∷ text) ++ 39 ∷ rest) ≡ Some (length (flat_map quoted_byte (byte ∷ text)) + 1)
text_len_by byte text rest true e low h =
    let same : byte ≡ 39 = (Decides-eqb byte 39).0 e in
    let count : 2 + (length (flat_map quoted_byte text) + 1) ≡ suc (suc (length (flat_map quoted_byte text))) + 1 = omega arith in
    rw same (ap (option_map (λ len. 2 + len)) h ∙ ap Some count)
text_len_by byte text rest false e low h =
    let count : 1 + (length (flat_map quoted_byte text) + 1) ≡ suc (length (flat_map quoted_byte text)) + 1 = omega arith in
    let some : 0 < length (flat_map quoted_byte text ++ 39 ∷ rest) = omega (arith, length-append (flat_map quoted_byte text) (39 ∷ rest)) in
    let high : nat_lt byte 32 ≡ false = grind (arith, nat_tests) in
    rw e (text_len-cons byte (flat_map quoted_byte text ++ 39 ∷ rest) some e high ∙ ap (option_map (λ len. 1 + len)) h ∙ ap Some count)

-- a doubled quote does not end the text
pub text_len-quoted : (text rest : List ℕ) → All (λ byte. 32 ≤ byte) text → EndsSymbol rest
    → text_len (flat_map quoted_byte text ++ 39 ∷ rest) ≡ Some (length (flat_map quoted_byte text) + 1)
text_len-quoted [] rest h ends = last_quote rest ends
text_len-quoted (byte ∷ text) rest h ends =
    text_len_by byte text rest (byte == 39) refl (All-head (λ b. 32 ≤ b) byte text h) (text_len-quoted text rest (All-tail (λ b. 32 ≤ b) byte text h) ends)

content_by : (byte : ℕ) (text : List ℕ) (quote : Bool) → (byte == 39) ≡ quote → content (flat_map quoted_byte text ++ 39 ∷ []) ≡ text
    → content (flat_map quoted_byte (byte ∷ text) ++ 39 ∷ []) ≡ byte ∷ text
content_by byte text true e h = let same : byte ≡ 39 = (Decides-eqb byte 39).0 e in rw same (ap (λ bytes. 39 ∷ bytes) h)
content_by byte text false e h = rw e (content-cons byte (flat_map quoted_byte text ++ 39 ∷ []) e ∙ ap (λ bytes. byte ∷ bytes) h)

-- each quote counts once again
pub content-quoted : (text : List ℕ) → content (flat_map quoted_byte text ++ 39 ∷ []) ≡ text
content-quoted [] = refl
content-quoted (byte ∷ text) = content_by byte text (byte == 39) refl (content-quoted text)

quoted_plain : (plain : List ℕ) → ((k : ℕ) → k < length plain → get_or plain k 0 ≡ 39 → ⊥) → flat_map quoted_byte plain ≡ plain
quoted_plain [] h = refl
quoted_plain (byte ∷ plain) h =
    let other : byte ≡ 39 → ⊥ = h 0 (omega arith) in
    let e : (byte == 39) ≡ false = grind (arith, nat_tests) in
    rw e (ap (λ bytes. byte ∷ bytes) (quoted_plain plain (λ k l. h (suc k) (omega arith))))

quoted_char : (c : ℕ) (quote : Bool) → (c == 39) ≡ quote → scalar c ≡ true → IsUtf8 (flat_map quoted_byte (encode c))
quoted_char c true e one =
    let same : c ≡ 39 = (Decides-eqb c 39).0 e in rw (same, quote_encodes) (IsUtf8-append (39 ∷ []) (39 ∷ []) IsUtf8-quote IsUtf8-quote)
quoted_char c false e one =
    let other : c ≡ 39 → ⊥ = λ same. grind (arith, nat_tests) in
    subst IsUtf8 (sym (quoted_plain (encode c) (no_quotes c other))) (IsUtf8-one c one)

quoted_chars : (cs : List ℕ) → scalars cs ≡ true → IsUtf8 (flat_map quoted_byte (encodes cs))
quoted_chars [] h = IsUtf8-nil
quoted_chars (c ∷ cs) h =
    let parts = and_parts (scalar c) (scalars cs) h in
    subst IsUtf8 (sym (flat_map-append quoted_byte (encode c) (encodes cs)))
    (IsUtf8-append (flat_map quoted_byte (encode c)) (flat_map quoted_byte (encodes cs)) (quoted_char c (c == 39) refl parts.0) (quoted_chars cs parts.1))

pub IsUtf8-quoted : (text : List ℕ) → IsUtf8 text → IsUtf8 (quoted text)
IsUtf8-quoted text (cs, (ok, e)) =
    let inner : IsUtf8 (flat_map quoted_byte text) = subst (λ (bytes : List ℕ). IsUtf8 (flat_map quoted_byte bytes)) e (quoted_chars cs ok) in
    IsUtf8-append (39 ∷ flat_map quoted_byte text) (39 ∷ []) (IsUtf8-append (39 ∷ []) (flat_map quoted_byte text) IsUtf8-quote inner) IsUtf8-quote
