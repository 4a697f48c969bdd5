-- Where bytes in front of others leave open whether all are UTF-8.
use Rattle.std.proofs.Common.{◌≡◌, ◌⊎◌, ℕ, zero, suc, ◌+◌, ◌-◌, ◌<◌, ◌≤◌, Bool, true, false, List, [], ◌∷◌, ◌++◌, length, take, drop, refl, sym, ap, subst, ◌∙◌, inl, inr, ⊎_elim, true≢false, arith, append-nil, append_assoc, take-append-drop, encode_utf8, encode_utf8_all, IsUtf8}
use Rattle.std.specs.Char.{len_utf8}
use Rattle.std.specs.Str.{is_utf8}
use Rattle.std.specs.Str.Lossy.{utf8_valid_len, valid_len_up_to}
use Rattle.std.proofs.lemmas.Bool.{and_parts, cases_Bool, cases_lt, cond-false, cond-true}
use Rattle.std.proofs.lemmas.List.{drop_at, length-append, length-take-le, take-append-le, take-take, take_all, take_at}
use Rattle.std.proofs.Math.Seq.{take-add}
use Rattle.std.proofs.lemmas.Str.{IsCharBoundary-from_take, IsUtf8-append, IsUtf8-drop, IsUtf8-encode, IsUtf8-from_ascii, IsUtf8-from_is_utf8, is_utf8-from_IsUtf8, len_utf8_bounds, length-encode}
use Rattle.script_reader.specs.Short.{unread}

false_unless : (b : Bool) → (b ≡ true → ⊥) → b ≡ false
false_unless true h = absurd (h refl)
false_unless false h = refl

same_tests : (a b : Bool) → (a ≡ true → b ≡ true) → (b ≡ true → a ≡ true) → a ≡ b
same_tests true b to back = sym (to refl)
same_tests false true to back = back refl
same_tests false false to back = refl

pub not_utf8 : (bs : List ℕ) → (IsUtf8 bs → ⊥) → is_utf8 bs ≡ false
not_utf8 bs none = false_unless (is_utf8 bs) (λ e. none (IsUtf8-from_is_utf8 bs e))

-- text in front of bytes decides nothing
pub utf8_behind : (text bs : List ℕ) → IsUtf8 text → is_utf8 (text ++ bs) ≡ is_utf8 bs
utf8_behind text bs is = same_tests (is_utf8 (text ++ bs)) (is_utf8 bs)
    (λ e. let all : IsUtf8 (text ++ bs) = IsUtf8-from_is_utf8 (text ++ bs) e in
    let front : IsUtf8 (take (length text) (text ++ bs)) = subst IsUtf8 (sym (take_at text bs (length text) refl)) is in
    let within : length text ≤ length (text ++ bs) = omega (arith, length-append text bs) in
    is_utf8-from_IsUtf8 bs (subst IsUtf8 (drop_at text bs (length text) refl)
    (IsUtf8-drop (text ++ bs) (length text) all (IsCharBoundary-from_take (text ++ bs) (length text) all within front))))
    (λ e. is_utf8-from_IsUtf8 (text ++ bs) (IsUtf8-append text bs is (IsUtf8-from_is_utf8 bs e)))

ascii_alone : (byte : ℕ) → byte < 128 → IsUtf8 (byte ∷ [])
ascii_alone byte low = IsUtf8-from_ascii (byte ∷ []) (λ i. at i)
  where
    at : (i : ℕ) → Rattle.std.proofs.Common.get_or (byte ∷ []) i 0 < 128
    at zero = low
    at (suc i) = omega arith

-- nor does an ASCII byte
pub utf8_behind_byte : (byte : ℕ) (bs : List ℕ) → byte < 128 → is_utf8 (byte ∷ bs) ≡ is_utf8 bs
utf8_behind_byte byte bs low = utf8_behind (byte ∷ []) bs (ascii_alone byte low)

-- no character begins the bytes
abbrev pub BeginsNone : List ℕ → Type 0
BeginsNone bs = (n : ℕ) → 0 < n → n ≤ length bs → IsUtf8 (take n bs) → ⊥

first_char : (bs more cs : List ℕ) (c : ℕ) → 4 ≤ length bs → BeginsNone bs → Rattle.std.specs.Char.IsScalar c
    → encode_utf8 c ++ encode_utf8_all cs ≡ bs ++ more → ⊥
first_char bs more cs c long none scalar e =
    let n = length (encode_utf8 c) in
    let is : n ≡ len_utf8 c = length-encode c in
    let bounds = len_utf8_bounds c in
    let some : 0 < n = omega (arith, is, bounds.0) in
    let within : n ≤ length bs = omega (arith, is, bounds.1, long) in
    let front : take n bs ≡ encode_utf8 c =
    sym (take-append-le n bs more within) ∙ ap (take n) (sym e) ∙ take_at (encode_utf8 c) (encode_utf8_all cs) n refl in
    none n some within (subst IsUtf8 (sym front) (IsUtf8-encode c scalar))

no_char : (bs more cs : List ℕ) → 4 ≤ length bs → BeginsNone bs → Rattle.std.specs.Str.all_scalars cs ≡ true
    → encode_utf8_all cs ≡ bs ++ more → ⊥
no_char bs more [] long none scalars e =
    let nothing : 0 ≡ length (bs ++ more) = ap length e in omega (arith, nothing, length-append bs more)
no_char bs more (c ∷ cs) long none scalars e = first_char bs more cs c long none (and_parts _ _ scalars).0 e

-- four bytes that begin no character are never UTF-8, whatever comes behind
never_utf8 : (bs more : List ℕ) → 4 ≤ length bs → BeginsNone bs → is_utf8 (bs ++ more) ≡ false
never_utf8 bs more long none =
    not_utf8 (bs ++ more) (λ is. no_char bs more is.0 long none is.1.0 is.1.1)

longest_front : (bs : List ℕ) (m : ℕ)
    → IsUtf8 (take (valid_len_up_to bs m) bs) × ((k : ℕ) → valid_len_up_to bs m < k → k ≤ m → IsUtf8 (take k bs) → ⊥)
longest_front bs zero = (([], (refl, refl)), λ k above within. absurd (omega arith))
longest_front bs (suc m) =
    let rest = longest_front bs m in
    ⊎_elim
    (λ yes.
    let is : valid_len_up_to bs (suc m) ≡ suc m = cond-true _ _ _ yes in
    (subst (λ n. IsUtf8 (take n bs)) (sym is) (IsUtf8-from_is_utf8 _ yes), λ k above within. absurd (omega arith)))
    (λ no.
    let is : valid_len_up_to bs (suc m) ≡ valid_len_up_to bs m = cond-false _ _ _ no in (
      subst (λ n. IsUtf8 (take n bs)) (sym is) rest.0,
      λ k above within u. ⊎_elim
          (λ (top : m < k).
          let same : k ≡ suc m = omega arith in
          true≢false (sym (is_utf8-from_IsUtf8 _ (subst (λ n. IsUtf8 (take n bs)) same u)) ∙ no))
          (λ (low : k ≤ m). rest.1 k (omega arith) low u)
          (cases_lt m k),
    ))
    (cases_Bool (is_utf8 (take (suc m) bs)))

-- the text at the front of bytes, and that none is longer
valid_front : (bs : List ℕ) → IsUtf8 (take (utf8_valid_len bs) bs)
    × ((k : ℕ) → utf8_valid_len bs < k → k ≤ length bs → IsUtf8 (take k bs) → ⊥)
unfolding utf8_valid_len
valid_front bs = longest_front bs (length bs)

-- behind that text no character begins
begins_none : (bs : List ℕ) → BeginsNone (drop (utf8_valid_len bs) bs)
begins_none bs n some within is =
    let len = utf8_valid_len bs in
    let front = valid_front bs in
    let all : len + n ≤ length bs = omega (arith, within, some, Rattle.std.proofs.lemmas.List.length-drop len bs) in
    front.1 (len + n) (omega (arith, some)) all
    (subst IsUtf8 (sym (take-add len n bs)) (IsUtf8-append (take len bs) (take n (drop len bs)) front.0 is))

first_four : (bs : List ℕ) → BeginsNone bs → (more : List ℕ) → is_utf8 (take 4 bs ++ more) ≡ is_utf8 (bs ++ more)
first_four bs none more = ⊎_elim
    (λ (long : 3 < length bs).
    let four : length (take 4 bs) ≡ 4 = length-take-le 4 bs (omega (arith, long)) in
    never_utf8 (take 4 bs) more (omega (arith, four))
    (λ n some within is. none n some (omega (arith, within, four, long))
    (subst IsUtf8 (take-take n 4 bs (omega (arith, within, four))) is))
    ∙ sym (never_utf8 bs more (omega (arith, long)) none))
    (λ (short : length bs ≤ 3). ap (λ front. is_utf8 (front ++ more)) (take_all 4 bs (omega (arith, short))))
    (cases_lt 3 (length bs))

-- the first bytes from where a text stops to be UTF-8 decide as all of it does
pub utf8_unread : (bs more : List ℕ) → is_utf8 (unread bs ++ more) ≡ is_utf8 (bs ++ more)
utf8_unread bs more =
    let len = utf8_valid_len bs in
    first_four (drop len bs) (begins_none bs) more
    ∙ sym (utf8_behind (take len bs) (drop len bs ++ more) (valid_front bs).0)
    ∙ ap is_utf8 (sym (append_assoc (take len bs) (drop len bs) more) ∙ ap (λ front. front ++ more) (take-append-drop len bs))
