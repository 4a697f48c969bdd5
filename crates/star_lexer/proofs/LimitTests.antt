-- The tests that stand beside the limits of a line say what the limits say.
use Rattle.std.proofs.Common.{◌≡◌, ◌⊎◌, ℕ, zero, suc, ◌+◌, ◌<◌, Bool, true, false, cond, if◌then◌else◌, ◌||◌, List, [], ◌∷◌, ◌++◌, length, take, drop, take_while, count_by, Any, Decides, nat_lt, inl, inr, refl, ap, sym, ◌∙◌, true≢false, arith}
use Rattle.std.specs.List.{list_any}
use Rattle.std.proofs.lemmas.Bool.Decides.{Decides-and, Decides-or, Decides-like, Decides-ltb}
use Rattle.std.proofs.lemmas.List.Folds.{Any-from_list_any, list_any-from_Any}
use Rattle.std.proofs.lemmas.List.Sums.{sum_by-cons}
use Rattle.star_values.specs.declared.value.Value.TheVariants as value
use Rattle.star_lexer.specs.declared.limits.TheConstants.{MAX_DEPTH, MAX_NOTS, MAX_LIST}
use Rattle.star_lexer.specs.declared.reading.TheConstants.{MAX_LINE_BYTES, MAX_NAME_BYTES}
use Rattle.star_values.specs.declared.small_text.TheConstants.{MAX_TEXT_BYTES}
use Rattle.star_lexer.specs.declared.keyword.Keyword.TheVariants as keyword
use Rattle.star_lexer.specs.declared.sign.Sign.TheVariants as sign
use Rattle.star_lexer.specs.declared.symbol.Symbol.{Symbol}
use Rattle.star_lexer.specs.declared.symbol.Symbol.TheVariants as symbol
use Rattle.star_lexer.specs.Symbol.{symbols_of}
use Rattle.star_lexer.specs.Limits.{IsTooLong, is_in, is_open, is_close, is_not, is_literal, is_listed, IsTooDeep, HasTooLongAList, begins_too_long_a_list, AreOverLimit, IsOverLimit, is_too_long, goes_too_deep, has_too_long_a_list, are_over_limit, is_over_limit}

Decides-never : Decides false ⊥
Decides-never = (λ h. absurd (true≢false (sym h)), λ h. absurd h)

-- Names and texts: some symbol is too long.

Decides-any : {X : Type 0} (p : X → Bool) (P : X → Type 0) → ((x : X) → Decides (p x) (P x)) → (xs : List X) → Decides (list_any p xs) (Any P xs)
Decides-any p P each xs = (
  λ h. let found = Any-from_list_any p xs h in (found.0, found.1, found.2, found.3, (each found.1).0 found.4),
  λ h. list_any-from_Any p xs (h.0, h.1, h.2, h.3, (each h.1).1 h.4),
)

Decides-is_too_long : (s : Symbol) → Decides (is_too_long s) (IsTooLong s)
Decides-is_too_long (symbol.Name name) = Decides-ltb MAX_NAME_BYTES (length name)
Decides-is_too_long (symbol.Literal (value.Str text)) = Decides-ltb MAX_TEXT_BYTES (length text)
Decides-is_too_long (symbol.Literal (value.Int n)) = Decides-never
Decides-is_too_long (symbol.Keyword k) = Decides-never
Decides-is_too_long (symbol.Sign s) = Decides-never

-- Depth: some prefix is too deep.

-- some prefix is too deep, where so many were opened and closed before
abbrev IsDeep : {X : Type 0} → (X → Bool) → (X → Bool) → ℕ → ℕ → List X → Type 0
IsDeep p q opened closed xs = (count : ℕ) × (closed + count_by q (take count xs) + MAX_DEPTH < opened + count_by p (take count xs))

raised : (b : Bool) (n : ℕ) → (if b then n + 1 else n) ≡ n + cond b 1 0
raised true n = refl
raised false n = omega arith

none_of_none : {X : Type 0} (p : X → Bool) (count : ℕ) → count_by p (take count []) ≡ 0
none_of_none p zero = refl
none_of_none p (suc count) = refl

module _ {X : Type 0} (p q : X → Bool) (opened closed : ℕ) where
  Decides-deep_nil : Decides (nat_lt (closed + MAX_DEPTH) opened) (IsDeep p q opened closed [])
  Decides-deep_nil =
      let here = Decides-ltb (closed + MAX_DEPTH) opened in (
        λ h. (0, let deep = here.0 h in omega arith),
        λ h. let deep = h.1 in here.1 (omega (arith, none_of_none p h.0, none_of_none q h.0)),
      )

  onward : (x : X) (xs : List X) → (closed + MAX_DEPTH < opened) ⊎ IsDeep p q (if p x then opened + 1 else opened) (if q x then closed + 1 else closed) xs → IsDeep p q opened closed (x ∷ xs)
  onward x xs (inl h) = (0, omega arith)
  onward x xs (inr h) =
      let deep = h.1 in
      (suc h.0, omega (arith, raised (p x) opened, raised (q x) closed, sum_by-cons (λ y. cond (p y) 1 0) x (take h.0 xs), sum_by-cons (λ y. cond (q y) 1 0) x (take h.0 xs)))

  back : (x : X) (xs : List X) (count : ℕ) → closed + count_by q (take count (x ∷ xs)) + MAX_DEPTH < opened + count_by p (take count (x ∷ xs))
      → (closed + MAX_DEPTH < opened) ⊎ IsDeep p q (if p x then opened + 1 else opened) (if q x then closed + 1 else closed) xs
  back x xs zero h = inl (omega arith)
  back x xs (suc count) h =
      inr (count, omega (arith, raised (p x) opened, raised (q x) closed, sum_by-cons (λ y. cond (p y) 1 0) x (take count xs), sum_by-cons (λ y. cond (q y) 1 0) x (take count xs)))

  Decides-deep_cons : (x : X) (xs : List X) (t : Bool) → Decides t (IsDeep p q (if p x then opened + 1 else opened) (if q x then closed + 1 else closed) xs)
      → Decides (nat_lt (closed + MAX_DEPTH) opened || t) (IsDeep p q opened closed (x ∷ xs))
  Decides-deep_cons x xs t rest =
      Decides-like _ (onward x xs) (λ h. back x xs h.0 h.1) (Decides-or (nat_lt (closed + MAX_DEPTH) opened) t (Decides-ltb (closed + MAX_DEPTH) opened) rest)

Decides-goes_too_deep : (opened closed : ℕ) (symbols : List Symbol) → Decides (goes_too_deep opened closed symbols) (IsDeep is_open is_close opened closed symbols)
Decides-goes_too_deep opened closed [] = Decides-deep_nil is_open is_close opened closed
Decides-goes_too_deep opened closed (s ∷ symbols) =
    Decides-deep_cons is_open is_close opened closed s symbols _
    (Decides-goes_too_deep (if is_open s then opened + 1 else opened) (if is_close s then closed + 1 else closed) symbols)

Decides-is_too_deep : (symbols : List Symbol) → Decides (goes_too_deep 0 0 symbols) (IsTooDeep symbols)
Decides-is_too_deep symbols =
    Decides-like _ (λ h. (h.0, let deep = h.1 in omega arith)) (λ h. (h.0, let deep = h.1 in omega arith)) (Decides-goes_too_deep 0 0 symbols)

-- Lists: some list is too long.

from_in : (s : Symbol) → is_in s ≡ true → s ≡ symbol.Keyword keyword.In
from_in (symbol.Keyword keyword.In) h = refl
from_in _ h = cc

Decides-is_in : (s : Symbol) → Decides (is_in s) (s ≡ symbol.Keyword keyword.In)
Decides-is_in s = (from_in s, λ e. ap is_in e)

from_open : (s : Symbol) → is_open s ≡ true → s ≡ symbol.Sign sign.Open
from_open (symbol.Sign sign.Open) h = refl
from_open _ h = cc

Decides-is_open : (s : Symbol) → Decides (is_open s) (s ≡ symbol.Sign sign.Open)
Decides-is_open s = (from_open s, λ e. ap is_open e)

long_here : (s : Symbol) (symbols : List Symbol) → begins_too_long_a_list (s ∷ symbols) ≡ true → HasTooLongAList (s ∷ symbols)
long_here s [] h = absurd (true≢false (sym h))
long_here s (t ∷ rest) h =
    let n = count_by is_literal (take_while is_listed rest) in
    let long = (Decides-and (is_in s) _ (Decides-is_in s) (Decides-and (is_open t) (nat_lt MAX_LIST n) (Decides-is_open t) (Decides-ltb MAX_LIST n))).0 h in
    ([], rest, ap (λ x. x ∷ t ∷ rest) long.0 ∙ ap (λ x. symbol.Keyword keyword.In ∷ x ∷ rest) long.1.0, long.1.1)

long_onward : (s : Symbol) (symbols : List Symbol) → (begins_too_long_a_list (s ∷ symbols) ≡ true) ⊎ HasTooLongAList symbols → HasTooLongAList (s ∷ symbols)
long_onward s symbols (inl h) = long_here s symbols h
long_onward s symbols (inr h) = (s ∷ h.0, h.1, ap (λ xs. s ∷ xs) h.2, h.3)

long_back : (s : Symbol) (symbols front rest : List Symbol) → s ∷ symbols ≡ front ++ symbol.Keyword keyword.In ∷ symbol.Sign sign.Open ∷ rest
    → MAX_LIST < count_by is_literal (take_while is_listed rest) → (begins_too_long_a_list (s ∷ symbols) ≡ true) ⊎ HasTooLongAList symbols
long_back s symbols [] rest e long = inl (ap begins_too_long_a_list e ∙ (Decides-ltb MAX_LIST (count_by is_literal (take_while is_listed rest))).1 long)
long_back s symbols (f ∷ front) rest e long = inr (front, rest, ap (drop 1) e, long)

no_list_in_none : (front rest : List Symbol) → [] ≡ front ++ symbol.Keyword keyword.In ∷ symbol.Sign sign.Open ∷ rest → ⊥
no_list_in_none [] rest e = cc
no_list_in_none (f ∷ front) rest e = cc

Decides-has_too_long_a_list : (symbols : List Symbol) → Decides (has_too_long_a_list symbols) (HasTooLongAList symbols)
Decides-has_too_long_a_list [] = (λ h. absurd (true≢false (sym h)), λ h. absurd (no_list_in_none h.0 h.1 h.2))
Decides-has_too_long_a_list (s ∷ symbols) =
    Decides-like _ (long_onward s symbols) (λ h. long_back s symbols h.0 h.1 h.2 h.3)
    (Decides-or (begins_too_long_a_list (s ∷ symbols)) (has_too_long_a_list symbols) (λ h. h, λ h. h) (Decides-has_too_long_a_list symbols))

-- All limits together.

Decides-are_over_limit : (symbols : List Symbol) → Decides (are_over_limit symbols) (AreOverLimit symbols)
Decides-are_over_limit symbols =
    Decides-or _ _ (Decides-any is_too_long IsTooLong Decides-is_too_long symbols)
    (Decides-or _ _ (Decides-is_too_deep symbols)
    (Decides-or _ _ (Decides-ltb MAX_NOTS (count_by is_not symbols)) (Decides-has_too_long_a_list symbols)))

-- the test for a line over the limit says what the limits say
pub Decides-is_over_limit : (line : List ℕ) → Decides (is_over_limit line) (IsOverLimit line)
unfolding is_over_limit
Decides-is_over_limit line = Decides-or _ _ (Decides-ltb MAX_LINE_BYTES (length line)) (Decides-are_over_limit (symbols_of line))
