-- What a word is for a reader of options, and what it is for `clap`.
use Rattle.std.proofs.Common.{◌≡◌, subst, ℕ, Bool, true, false, ◌==◌, List, [], ◌∷◌, ◌++◌, length, Option, Some, None, refl, sym, ap, arith}
use Rattle.std.specs.Prelude.{slice_get, codes}
use Rattle.std.specs.Str.{IsUtf8, bytes_eq, chars, encode_utf8_all}
use Rattle.std.proofs.lemmas.Bool.Decides.{nat_tests}
use Rattle.std.proofs.lemmas.Str.{IsUtf8-past_char, encode_ascii, encodes-chars}
use Rattle.clap.specs.Lexer.{long_of, short_of}
use Rattle.star_main.specs.Words.{Text, name_and_value}
use Rattle.star_main.proofs.StrictReader.{option, plain, stray, word_of}

abbrev pub two_hyphens : Text
two_hyphens = codes "--"

-- a word as both see it
pub data View (word : Text) : Type 0 where
  hyphens : bytes_eq word two_hyphens ≡ true → View word
  named : (name : Text) (value : Option Text) → bytes_eq word two_hyphens ≡ false → long_of word ≡ Some (name, value)
      → word_of word ≡ option name value → View word
  flags : (first : ℕ) (rest : Text) → bytes_eq word two_hyphens ≡ false → long_of word ≡ None → short_of word ≡ Some (first ∷ rest)
      → word ≡ 45 ∷ first ∷ rest → word_of word ≡ stray → View word
  other : bytes_eq word two_hyphens ≡ false → long_of word ≡ None → short_of word ≡ None → word_of word ≡ plain → View word

view_behind : (byte : ℕ) (rest : Text) (second : Bool) → (byte == 45) ≡ second → View (45 ∷ byte ∷ rest)
view_behind byte rest false e = flags byte rest (rw e refl) (rw e refl) (rw e refl) refl (rw e refl)
view_behind byte [] true e = hyphens (rw e refl)
view_behind byte (x ∷ rest) true e = named (name_and_value (x ∷ rest)).0 (name_and_value (x ∷ rest)).1 (rw e refl) (rw e refl) (rw e refl)

view_of : (byte : ℕ) (rest : Text) (first : Bool) → (byte == 45) ≡ first → View (byte ∷ rest)
view_of byte rest false e = other (rw e refl) (rw e refl) (rw e refl) (rw e refl)
view_of byte [] true e = other (rw e refl) (rw e refl) (rw e refl) (rw e refl)
view_of byte (x ∷ rest) true e =
    let is : 45 ≡ byte = grind (arith, nat_tests) in
    subst (λ b. View (b ∷ x ∷ rest)) is (view_behind x rest (x == 45) refl)

pub view : (word : Text) → View word
view [] = other refl refl refl refl
view (byte ∷ rest) = view_of byte rest (byte == 45) refl

-- text behind a hyphen has a first character

behind_is_text : (rest : Text) → IsUtf8 (45 ∷ rest) → IsUtf8 rest
behind_is_text rest text = IsUtf8-past_char (45 ∷ rest) rest 45 text (ap (λ front. front ++ rest) (sym (encode_ascii 45 (omega arith))))

first_by : (first : ℕ) (rest : Text) (cs : List ℕ) → chars (first ∷ rest) ≡ cs → encode_utf8_all cs ≡ first ∷ rest
    → (x : ℕ) × (slice_get (chars (first ∷ rest)) 0 ≡ Some x)
first_by first rest [] e back = absurd (omega (arith, ap length back))
first_by first rest (c ∷ cs) e back = (c, ap (λ l. slice_get l 0) e)

pub first_char : (first : ℕ) (rest : Text) → IsUtf8 (45 ∷ first ∷ rest) → (x : ℕ) × (slice_get (chars (first ∷ rest)) 0 ≡ Some x)
first_char first rest text =
    first_by first rest (chars (first ∷ rest)) refl (encodes-chars (first ∷ rest) (behind_is_text (first ∷ rest) text))
