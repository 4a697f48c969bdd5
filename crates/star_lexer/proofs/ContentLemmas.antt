-- The content of a text is UTF-8 where the line is, and has no byte below a space.
use Rattle.std.proofs.Common.{◌≡◌, ℕ, suc, ◌+◌, ◌<◌, ◌≤◌, ◌==◌, nat_lt, Bool, true, false, cond, List, [], ◌∷◌, ◌++◌, length, take, get_or, Option, Some, None, option_map, refl, ap, sym, subst, ◌∙◌, arith, append-nil, length-append}
use Rattle.std.specs.List.{All}
use Rattle.std.specs.Str.{IsUtf8}
use Rattle.std.proofs.Math.Utf8.{encode, encodes, scalar, scalars}
use Rattle.std.proofs.lemmas.Bool.{and_parts}
use Rattle.std.proofs.lemmas.Bool.Decides.{Decides-eqb, nat_tests}
use Rattle.std.proofs.lemmas.List.Elements.{All-nil, All-cons}
use Rattle.std.proofs.lemmas.Str.{IsUtf8-nil, IsUtf8-append, IsUtf8-from_ascii, encode_ascii, inside_one, char_from_byte, length-encode, len_utf8_bounds}
use Rattle.std.proofs.lemmas.Str.Ascii.{IsAscii-cons, IsAscii-nil}
use Rattle.star_lexer.specs.Token.{text_len}
use Rattle.star_lexer.specs.Symbol.{content}
use Rattle.star_lexer.specs.Read.{content_from}

-- a byte that is no quote stays
pub content-cons : (byte : ℕ) (bytes : List ℕ) → (byte == 39) ≡ false → content (byte ∷ bytes) ≡ byte ∷ content bytes
content-cons byte [] e = rw e
content-cons byte (next ∷ bytes) e = rw e

scan_two : (byte next : ℕ) (bytes : List ℕ) (quote again : Bool) → (byte == 39) ≡ quote → (next == 39) ≡ again
    → content_from false bytes ≡ content bytes → content_from false (next ∷ bytes) ≡ content (next ∷ bytes)
    → content_from false (byte ∷ next ∷ bytes) ≡ content (byte ∷ next ∷ bytes)
scan_two byte next bytes true true e f behind rest =
    let also : next ≡ 39 = (Decides-eqb next 39).0 f in
    let same : byte ≡ 39 = (Decides-eqb byte 39).0 e in rw (same, also) (ap (λ xs. 39 ∷ xs) behind)
scan_two byte next bytes true false e f behind rest =
    let same : byte ≡ 39 = (Decides-eqb byte 39).0 e in rw (same, f)
scan_two byte next bytes false again e f behind rest = rw e (ap (λ xs. byte ∷ xs) rest)

scan_one : (byte : ℕ) (quote : Bool) → (byte == 39) ≡ quote → content_from false (byte ∷ []) ≡ content (byte ∷ [])
scan_one byte true e = rw e
scan_one byte false e = rw e

-- no byte in front was such a quote
pub scanned_content : (bytes : List ℕ) → content_from false bytes ≡ content bytes
scanned_content [] = refl
scanned_content (byte ∷ []) = scan_one byte (byte == 39) refl
scanned_content (byte ∷ next ∷ bytes) = scan_two byte next bytes (byte == 39) (next == 39) refl refl (scanned_content bytes) (scanned_content (next ∷ bytes))

-- what the length of a text says of its content
abbrev pub IsCut : List ℕ → ℕ → Type 0
IsCut bytes n = (content (take n bytes) ≡ content bytes) × All (λ byte. 32 ≤ byte) (content bytes)

cut_one : (byte n : ℕ) (quote : Bool) → (byte == 39) ≡ quote → cond {A = Option ℕ} quote (Some 1) None ≡ Some n → IsCut (byte ∷ []) n
cut_one byte n true e h =
    let one : 1 ≡ n = cc in
    let none : content (byte ∷ []) ≡ [] = rw e in
    (rw (← one), rw none (All-nil _))
cut_one byte n false e h = absurd (cc)

cut_doubled : (byte next : ℕ) (bytes : List ℕ) (n : ℕ) (found : Option ℕ) → byte ≡ 39 → next ≡ 39 → ((m : ℕ) → found ≡ Some m → IsCut bytes m)
    → option_map (λ len. 2 + len) found ≡ Some n → IsCut (byte ∷ next ∷ bytes) n
cut_doubled byte next bytes n None e f behind h = absurd (cc)
cut_doubled byte next bytes n (Some m) e f behind h =
    let n_is : n ≡ suc (suc m) = let p : 2 + m ≡ n = cc in omega arith in
    let rest = behind m refl in
    (rw (n_is, e, f) (ap (λ xs. 39 ∷ xs) rest.0), rw (e, f) (All-cons (λ b. 32 ≤ b) 39 (content bytes) (omega arith) rest.1))

cut_plain : (byte : ℕ) (bytes : List ℕ) (n : ℕ) (found : Option ℕ) (low : Bool) → (byte == 39) ≡ false → nat_lt byte 32 ≡ low → ((m : ℕ) → found ≡ Some m → IsCut bytes m)
    → cond {A = Option ℕ} low None (option_map (λ len. 1 + len) found) ≡ Some n → IsCut (byte ∷ bytes) n
cut_plain byte bytes n found true e f behind h = absurd (cc)
cut_plain byte bytes n None false e f behind h = absurd (cc)
cut_plain byte bytes n (Some m) false e f behind h =
    let n_is : n ≡ suc m = let p : 1 + m ≡ n = cc in omega arith in
    let rest = behind m refl in
    let stays : content (byte ∷ bytes) ≡ byte ∷ content bytes = content-cons byte bytes e in
    let stays' : content (byte ∷ take m bytes) ≡ byte ∷ content (take m bytes) = content-cons byte (take m bytes) e in (
      rw n_is (stays' ∙ ap (λ xs. byte ∷ xs) rest.0 ∙ sym stays),
      rw stays (All-cons (λ b. 32 ≤ b) byte (content bytes) (grind (arith, nat_tests)) rest.1),
    )

cut_two : (byte next : ℕ) (bytes : List ℕ) (n : ℕ) (quote again : Bool) → (byte == 39) ≡ quote → (next == 39) ≡ again
    → ((m : ℕ) → text_len bytes ≡ Some m → IsCut bytes m) → ((m : ℕ) → text_len (next ∷ bytes) ≡ Some m → IsCut (next ∷ bytes) m)
    → cond {A = Option ℕ} quote (cond {A = Option ℕ} again (option_map (λ len. 2 + len) (text_len bytes)) (Some 1))
    (cond {A = Option ℕ} (nat_lt byte 32) None (option_map (λ len. 1 + len) (text_len (next ∷ bytes)))) ≡ Some n
    → IsCut (byte ∷ next ∷ bytes) n
cut_two byte next bytes n true true e f behind rest h =
    cut_doubled byte next bytes n (text_len bytes) ((Decides-eqb byte 39).0 e) ((Decides-eqb next 39).0 f) behind h
cut_two byte next bytes n true false e f behind rest h =
    let one : 1 ≡ n = cc in
    let none : content (byte ∷ next ∷ bytes) ≡ [] = rw (e, f) in
    let none' : content (byte ∷ []) ≡ [] = rw e in
    (rw (← one) (none' ∙ sym none), rw none (All-nil _))
cut_two byte next bytes n false again e f behind rest h = cut_plain byte (next ∷ bytes) n (text_len (next ∷ bytes)) (nat_lt byte 32) e refl rest h

-- a text that is cut off behind its last quote keeps its content, which has no byte below a space
pub cut : (bytes : List ℕ) (n : ℕ) → text_len bytes ≡ Some n → IsCut bytes n
cut [] n h = absurd (cc)
cut (byte ∷ []) n h = cut_one byte n (byte == 39) refl h
cut (byte ∷ next ∷ bytes) n h = cut_two byte next bytes n (byte == 39) (next == 39) refl refl (cut bytes) (cut (next ∷ bytes)) h

content-plain : (plain bytes : List ℕ) → ((k : ℕ) → k < length plain → get_or plain k 0 ≡ 39 → ⊥) → content (plain ++ bytes) ≡ plain ++ content bytes
content-plain [] bytes h = refl
content-plain (byte ∷ plain) bytes h =
    let other : byte ≡ 39 → ⊥ = h 0 (omega arith) in
    let e : (byte == 39) ≡ false = grind (arith, nat_tests) in
    content-cons byte (plain ++ bytes) e ∙ ap (λ xs. byte ∷ xs) (content-plain plain bytes (λ k l. h (suc k) (omega arith)))

-- the bytes of a character that is no quote are no quotes
pub no_quotes : (c : ℕ) → (c ≡ 39 → ⊥) → (k : ℕ) → k < length (encode c) → get_or (encode c) k 0 ≡ 39 → ⊥
no_quotes c other k l e =
    let same : c ≡ get_or (encode c) k 0 = inside_one c [] (encode c) k (sym (append-nil (encode c))) l (omega arith) in
    other (same ∙ e)

quote_ends_by : (byte : ℕ) (bytes : List ℕ) → (byte ≡ 39 → ⊥) → content (39 ∷ byte ∷ bytes) ≡ []
quote_ends_by byte bytes other = let e : (byte == 39) ≡ false = grind (arith, nat_tests) in rw e

quote_ends : (bytes : List ℕ) → (get_or bytes 0 0 ≡ 39 → ⊥) → content (39 ∷ bytes) ≡ []
quote_ends [] other = refl
quote_ends (byte ∷ bytes) other = quote_ends_by byte bytes other

-- a character that is no quote begins with no quote
begins_no_quote : (c : ℕ) (rest : List ℕ) → (c ≡ 39 → ⊥) → get_or (encode c ++ rest) 0 0 ≡ 39 → ⊥
begins_no_quote c rest other e =
    let some : 0 < length (encode c ++ rest) = omega (arith, length-append (encode c) rest, length-encode c, len_utf8_bounds c) in
    other (char_from_byte (encode c ++ rest) rest c refl (omega arith) some ∙ e)

pub IsUtf8-one : (c : ℕ) → scalar c ≡ true → IsUtf8 (encode c)
IsUtf8-one c h = (c ∷ [], (rw h, append-nil (encode c)))

pub quote_encodes : encode 39 ≡ 39 ∷ []
quote_encodes = encode_ascii 39 (omega arith)

pub IsUtf8-quote : IsUtf8 (39 ∷ [])
IsUtf8-quote = IsUtf8-from_ascii (39 ∷ []) (IsAscii-cons 39 [] (omega arith) IsAscii-nil)

keeps_one : (c : ℕ) (quote : Bool) → (c == 39) ≡ quote → scalar c ≡ true → IsUtf8 (content (encode c ++ []))
keeps_one c true e one = let same : c ≡ 39 = (Decides-eqb c 39).0 e in rw (same, quote_encodes) IsUtf8-nil
keeps_one c false e one =
    let other : c ≡ 39 → ⊥ = λ same. grind (arith, nat_tests) in
    subst IsUtf8 (sym (content-plain (encode c) [] (no_quotes c other))) (IsUtf8-append (encode c) [] (IsUtf8-one c one) IsUtf8-nil)

keeps_two : (c d : ℕ) (cs : List ℕ) (quote again : Bool) → (c == 39) ≡ quote → (d == 39) ≡ again → scalar c ≡ true
    → IsUtf8 (content (encodes cs)) → IsUtf8 (content (encodes (d ∷ cs))) → IsUtf8 (content (encodes (c ∷ d ∷ cs)))
keeps_two c d cs true true e f one behind rest =
    let same : c ≡ 39 = (Decides-eqb c 39).0 e in
    let also : d ≡ 39 = (Decides-eqb d 39).0 f in
    rw (same, also, quote_encodes) (IsUtf8-append (39 ∷ []) (content (encodes cs)) IsUtf8-quote behind)
keeps_two c d cs true false e f one behind rest =
    let same : c ≡ 39 = (Decides-eqb c 39).0 e in
    let other : d ≡ 39 → ⊥ = λ also. grind (arith, nat_tests) in
    rw (same, quote_encodes) (subst IsUtf8 (sym (quote_ends (encode d ++ encodes cs) (begins_no_quote d (encodes cs) other))) IsUtf8-nil)
keeps_two c d cs false again e f one behind rest =
    let other : c ≡ 39 → ⊥ = λ same. grind (arith, nat_tests) in
    subst IsUtf8 (sym (content-plain (encode c) (encodes (d ∷ cs)) (no_quotes c other)))
    (IsUtf8-append (encode c) (content (encodes (d ∷ cs))) (IsUtf8-one c one) rest)

keeps_utf8 : (cs : List ℕ) → scalars cs ≡ true → IsUtf8 (content (encodes cs))
keeps_utf8 [] h = IsUtf8-nil
keeps_utf8 (c ∷ []) h = keeps_one c (c == 39) refl (and_parts (scalar c) true h).0
keeps_utf8 (c ∷ d ∷ cs) h =
    let here = and_parts (scalar c) (scalars (d ∷ cs)) h in
    let next = and_parts (scalar d) (scalars cs) here.1 in
    keeps_two c d cs (c == 39) (d == 39) refl refl here.0 (keeps_utf8 cs next.1) (keeps_utf8 (d ∷ cs) here.1)

-- quotes are ASCII, so what is left without some of them is UTF-8
pub IsUtf8-content : (bytes : List ℕ) → IsUtf8 bytes → IsUtf8 (content bytes)
IsUtf8-content bytes (cs, (ok, e)) = subst (λ (bs : List ℕ). IsUtf8 (content bs)) e (keeps_utf8 cs ok)
