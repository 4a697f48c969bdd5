-- How a part at the front is read: a reader reads the text of its part, and what it reads is such a text.
use Rattle.std.proofs.Common.{◌≡◌, ℕ, Bool, true, false, List, [], ◌∷◌, ◌++◌, length, take, drop, Option, Some, None, option_map, refl, ap, sym, subst, ◌∙◌, arith}
use Rattle.std.specs.Prelude.{nat_eq, if◌then◌else◌}
use Rattle.std.specs.Option.{option_and_then, option_or}
use Rattle.std.specs.List.{list_all, prefix_len, starts_with}
use Rattle.std.proofs.lemmas.Bool.{and_parts}
use Rattle.std.proofs.lemmas.List.{take_at, drop_at, take-append-drop}
use Rattle.std.proofs.lemmas.Slice.Eq.{starts_is}
use Rattle.std.proofs.lemmas.Bool.Decides.{Decides-eqb}
use Rattle.reply_text.specs.Reading.{Found, behind, ended_by, part_at}

-- a value that was found, and what it was made of
pub map_some : {A B : Type 0} (f : A → B) (o : Option A) (y : B) → option_map f o ≡ Some y → (x : A) × (o ≡ Some x) × (f x ≡ y)
map_some f None y e = absurd (cc)
map_some f (Some x) y e = (x, refl, grind (arith, e))

pub then_some : {A B : Type 0} (f : A → Option B) (o : Option A) (y : B) → option_and_then f o ≡ Some y → (x : A) × (o ≡ Some x) × (f x ≡ Some y)
then_some f None y e = absurd (cc)
then_some f (Some x) y e = (x, refl, e)

pub if_some : {A : Type 0} (test : Bool) (x y : A) → (if test then Some x else None) ≡ Some y → (test ≡ true) × (x ≡ y)
if_some true x y e = (refl, grind (arith, e))
if_some false x y e = absurd (cc)

pub or_some : {A P : Type 0} (a b : Option A) (y : A) → option_or a b ≡ Some y → (a ≡ Some y → P) → (b ≡ Some y → P) → P
or_some None b y e left right = right e
or_some (Some x) b y e left right = left e

-- the word that stands at the front is passed
pub behind-exact : (word rest : List ℕ) → behind word (word ++ rest) ≡ Some rest
unfolding behind
behind-exact word rest =
    let starts : starts_with nat_eq (word ++ rest) word ≡ true = (starts_is {E = nat_eq} Decides-eqb (word ++ rest) word (starts_with nat_eq (word ++ rest) word) refl).1 rest refl in
    rw (starts, drop_at word rest (length word) refl) refl

behind-by : (word bytes rest : List ℕ) (test : Bool) → starts_with nat_eq bytes word ≡ test → (if test then Some (drop (length word) bytes) else None) ≡ Some rest
    → bytes ≡ word ++ rest
behind-by word bytes rest true e h =
    let same : drop (length word) bytes ≡ rest = grind (arith, h) in
    (starts_is {E = nat_eq} Decides-eqb bytes word (starts_with nat_eq bytes word) refl).0 e ∙ ap (λ r. word ++ r) same
behind-by word bytes rest false e h = absurd (cc)

pub behind-sound : (word bytes rest : List ℕ) → behind word bytes ≡ Some rest → bytes ≡ word ++ rest
unfolding behind
behind-sound word bytes rest e = behind-by word bytes rest (starts_with nat_eq bytes word) refl e

pub ended_by-exact : {A : Type 0} (word rest : List ℕ) (x : A) (found : Found A) → found ≡ Some (x, word ++ rest) → ended_by word found ≡ Some (x, rest)
ended_by-exact word rest x found e = rw (e, behind-exact word rest) refl

pub ended_by-sound : {A : Type 0} (word : List ℕ) (found : Found A) (out : A × List ℕ) → ended_by word found ≡ Some out → found ≡ Some (out.0, word ++ out.1)
ended_by-sound word found out e =
    let f = then_some (λ f. option_map (λ rest. (f.0, rest)) (behind word f.1)) found out e in
    let g = map_some (λ rest. (f.0.0, rest)) (behind word f.0.1) out f.2 in
    let same = behind-sound word f.0.1 g.0 g.1 in
    subst (λ p. found ≡ Some (p.0, word ++ p.1)) g.2 (f.1 ∙ ap (λ r. Some (f.0.0, r)) same)

-- what passes a test at the front is passed, where what stands behind it does not go on
pub prefix_at : (p : ℕ → Bool) (xs ys : List ℕ) → list_all p xs ≡ true → prefix_len p ys ≡ 0 → prefix_len p (xs ++ ys) ≡ length xs
prefix_at p [] ys all stop = stop
prefix_at p (x ∷ xs) ys all stop =
    let parts = and_parts (p x) (list_all p xs) all in
    let more = prefix_at p xs ys parts.1 stop in
    rw (parts.0, more) (omega arith)

pub part_at-exact : {A : Type 0} (p : ℕ → Bool) (read : List ℕ → Option A) (text rest : List ℕ) (x : A)
    → list_all p text ≡ true → prefix_len p rest ≡ 0 → read text ≡ Some x → part_at p read (text ++ rest) ≡ Some (x, rest)
part_at-exact p read text rest x all stop e =
    let len = prefix_at p text rest all stop in
    rw (len, take_at text rest (length text) refl, drop_at text rest (length text) refl, e) refl

pub part_at-sound : {A : Type 0} (p : ℕ → Bool) (read : List ℕ → Option A) (bytes : List ℕ) (out : A × List ℕ)
    → part_at p read bytes ≡ Some out → (text : List ℕ) × (read text ≡ Some out.0) × (bytes ≡ text ++ out.1)
part_at-sound p read bytes out e =
    let len = prefix_len p bytes in
    let f = map_some (λ x. (x, drop len bytes)) (read (take len bytes)) out e in
    subst (λ q. (text : List ℕ) × (read text ≡ Some q.0) × (bytes ≡ text ++ q.1)) f.2
    (take len bytes, f.1, sym (take-append-drop len bytes))
