-- Lists with a symbol between each two.
use Rattle.std.proofs.Common.{◌≡◌, ℕ, zero, suc, ◌<◌, ◌≤◌, Bool, true, false, List, [], ◌∷◌, ◌++◌, length, Some, None, refl, ap, sym, subst, ◌∙◌, arith, append_assoc, append-nil, length-append, inl, inr}
use Rattle.std.specs.Prelude.{if◌then◌else◌, flat_map}
use Rattle.star_lexer.specs.declared.symbol.Symbol.{Symbol}
use Rattle.star_parser.specs.Form as form
use Rattle.star_parser.specs.Form.{Form}
use Rattle.star_parser.specs.Reader as reader
use Rattle.star_parser.specs.Reader.{ReaderOutcome, Reader, begins, behind, bind, on, gives, separated_in, separated_at, with_front}
use Rattle.star_parser.specs.Reads.{Reads}
use Rattle.star_parser.proofs.ReadsLemmas.{Finds, after, bind_reads, on_reads, gives_reads, reads_by, avoids_or, avoids_symbol, avoids_nothing, or_there, nothing_there}
use Rattle.star_parser.proofs.StepLemmas.{on_true}

pub reads_length : {A : Type 0} {L M : Form A} {E : Symbol → Bool} (symbols : List Symbol) (out : ReaderOutcome A) → Reads L M E symbols out → length out.1 ≤ length symbols
reads_length symbols out r =
    let whole : length symbols ≡ length (r.used ++ out.1) = ap length r.whole in
    omega (arith, whole, length-append r.used out.1)

-- the same, as one member and perhaps the rest behind the symbol
abbrev unrolled : {A : Type 0} → Symbol → Form A → Form (List A)
unrolled s L = form.◌>>=◌ L (λ v. form.◌or◌ (after s (form.◌>>=◌ (form.separated s L) (λ vs. form.stands_for (v ∷ vs)))) (form.stands_for (v ∷ [])))

more_values : {A : Type 0} (s : Symbol) (L : Form A) (front f h : List Symbol) (v : A) (values : List A) → front ≡ f ++ s ∷ h → L f v → form.separated s L h values
    → form.separated s L front (v ∷ values)
more_values s L front f h v [] cut l sep = absurd sep
more_values s L front f h v (w ∷ values) cut l sep = (f, h, cut, l, sep)

to_separated : {A : Type 0} (s : Symbol) (L : Form A) (front : List Symbol) (values : List A) → unrolled s L front values → form.separated s L front values
to_separated {A = A} s L front values m = by m.5
  where
    by : form.◌or◌ (after s (form.◌>>=◌ (form.separated s L) (λ vs. form.stands_for (m.2 ∷ vs)))) (form.stands_for (m.2 ∷ [])) m.1 values → form.separated s L front values
    by (inl k) =
        let last = k.5 in
        let back : k.1 ≡ last.0 = last.3 ∙ ap (λ z. last.0 ++ z) last.5.0 ∙ append-nil last.0 in
        let cut : front ≡ m.0 ++ s ∷ last.0 = m.3 ∙ ap (λ z. m.0 ++ z) (k.3 ∙ ap (λ z. z ++ k.1) k.4 ∙ ap (λ z. s ∷ z) back) in
        subst (λ z. form.separated s L front z) (sym last.5.1) (more_values s L front m.0 last.0 m.2 last.2 cut m.4 last.4)
    by (inr k) =
        let cut : m.0 ≡ front = sym (m.3 ∙ ap (λ z. m.0 ++ z) k.0 ∙ append-nil m.0) in
        subst (λ z. form.separated s L front z) (sym k.1) (subst (λ z. L z m.2) cut m.4)

from_separated : {A : Type 0} (s : Symbol) (L : Form A) (front : List Symbol) (values : List A) → form.separated s L front values → unrolled s L front values
from_separated s L front [] m = absurd m
from_separated s L front (v ∷ []) m = (front, [], v, sym (append-nil front), m, inr (refl, refl))
from_separated s L front (v ∷ w ∷ values) m =
    (m.0, s ∷ m.1, v, m.2, m.3, inl (s ∷ [], m.1, tt, refl, refl, (m.1, [], w ∷ values, sym (append-nil m.1), m.4, (refl, refl))))

-- one or more, with the symbol between each two, where fewer than so many symbols are left
pub separated_reads_in : {A : Type 0} {L M : Form A} {E1 E test : Symbol → Bool} {s : Symbol} (member : Reader A) → Finds test s → E1 s ≡ false
    → ((t : Symbol) → E t ≡ false → E1 t ≡ false) → ((t : Symbol) → E t ≡ false → test t ≡ false)
    → (bound : ℕ) → ((rest : List Symbol) → length rest ≤ bound → Reads L M E1 rest (member rest))
    → (most : ℕ) (symbols : List Symbol) → length symbols < most → length symbols ≤ bound
    → Reads (form.separated s L) (form.separated s M) E symbols (separated_in test member most symbols)
separated_reads_in member finds apart less1 less bound each zero symbols few within = absurd (omega (arith, few))
separated_reads_in {L = L} {M = M} {E1 = E1} {E = E} {test = test} {s = s} member finds apart less1 less bound each (suc most) symbols few within =
    let first = each symbols within in
    reads_by symbols (separated_in test member (suc most) symbols) (to_separated s L) (from_separated s M)
    (bind_reads symbols (member symbols) (λ v. on test (reader.◌>>=◌ (separated_in test member most) (λ values. gives (v ∷ values))) (gives (v ∷ []))) first
    (λ v rest e. on_reads rest (reader.◌>>=◌ (separated_in test member most) (λ values. gives (v ∷ values))) (gives (v ∷ [])) finds
    (λ later h.
    let short : length rest ≤ length symbols = subst (λ out. length out.1 ≤ length symbols) e (reads_length symbols (member symbols) first) in
    bind_reads later (separated_in test member most later) (λ values. gives (v ∷ values))
    (separated_reads_in member finds apart less1 less bound each most later (omega (arith, few, short, h)) (omega (arith, within, short, h)))
    (λ values last e2. gives_reads (v ∷ values) last)
    (λ values. avoids_nothing E (v ∷ values) E (λ t h2. h2))
    (λ values. nothing_there (v ∷ values)))
    (gives_reads (v ∷ []) rest)
    (avoids_nothing test (v ∷ []) E less))
    (λ v. avoids_or E1 (after s (form.◌>>=◌ (form.separated s M) (λ vs. form.stands_for (v ∷ vs)))) (form.stands_for (v ∷ [])) E
    (avoids_symbol E1 s (λ _. form.◌>>=◌ (form.separated s M) (λ vs. form.stands_for (v ∷ vs))) E apart) (avoids_nothing E1 (v ∷ []) E less1))
    (λ v. or_there (nothing_there (v ∷ []))))

pub separated_reads : {A : Type 0} {L M : Form A} {E1 E test : Symbol → Bool} {s : Symbol} (member : Reader A) → Finds test s → E1 s ≡ false
    → ((t : Symbol) → E t ≡ false → E1 t ≡ false) → ((t : Symbol) → E t ≡ false → test t ≡ false)
    → (symbols : List Symbol) → ((rest : List Symbol) → length rest ≤ length symbols → Reads L M E1 rest (member rest))
    → Reads (form.separated s L) (form.separated s M) E symbols (separated_at test member symbols)
separated_reads member finds apart less1 less symbols each =
    separated_reads_in member finds apart less1 less (length symbols) each (suc (length symbols)) symbols (omega arith) (omega arith)

-- Any number above that of the symbols gives the same.

on_same : {A : Type 0} (test : Symbol → Bool) (one other last : Reader A) (symbols : List Symbol) → ((rest : List Symbol) → suc (length rest) ≡ length symbols → one rest ≡ other rest)
    → on test one last symbols ≡ on test other last symbols
on_same test one other last [] same = refl
on_same {A = A} test one other last (t ∷ symbols) same = by (test t)
  where
    by : (taken : Bool) → (if taken then one (if taken then symbols else (t ∷ symbols)) else last (t ∷ symbols)) ≡ (if taken then other (if taken then symbols else (t ∷ symbols)) else last (t ∷ symbols))
    by true = same symbols refl
    by false = refl

bind_same : {A B : Type 0} (out : ReaderOutcome A) (one other : A → Reader B) → ((a : A) (rest : List Symbol) → out ≡ (Some a, rest) → one a rest ≡ other a rest) → bind out one ≡ bind out other
bind_same (Some a, rest) one other same = same a rest refl
bind_same (None, rest) one other same = refl

pub separated_same : {A : Type 0} (test : Symbol → Bool) (member : Reader A) → ((rest : List Symbol) → length (member rest).1 ≤ length rest)
    → (most others : ℕ) (symbols : List Symbol) → length symbols < most → length symbols < others → separated_in test member most symbols ≡ separated_in test member others symbols
separated_same test member shorter zero others symbols few less = absurd (omega (arith, few))
separated_same test member shorter (suc most) zero symbols few less = absurd (omega (arith, less))
separated_same test member shorter (suc most) (suc others) symbols few less =
    bind_same (member symbols) (λ v. on test (reader.◌>>=◌ (separated_in test member most) (λ values. gives (v ∷ values))) (gives (v ∷ [])))
    (λ v. on test (reader.◌>>=◌ (separated_in test member others) (λ values. gives (v ∷ values))) (gives (v ∷ [])))
    (λ v rest e. on_same test (reader.◌>>=◌ (separated_in test member most) (λ values. gives (v ∷ values))) (reader.◌>>=◌ (separated_in test member others) (λ values. gives (v ∷ values))) (gives (v ∷ [])) rest
    (λ later h.
    let short : length rest ≤ length symbols = subst (λ out. length out.1 ≤ length symbols) e (shorter symbols) in
    ap (λ out. bind out (λ values. gives (v ∷ values))) (separated_same test member shorter most others later (omega (arith, few, short, h)) (omega (arith, less, short, h)))))

with_front-one : {A : Type 0} (front : List A) (v : A) (out : ReaderOutcome (List A)) → with_front (front ++ v ∷ []) out ≡ with_front front (bind out (λ values. gives (v ∷ values)))
with_front-one front v (Some values, rest) = ap (λ z. (Some z, rest)) (append_assoc front (v ∷ []) values)
with_front-one front v (None, rest) = refl

behind_length : (test : Symbol → Bool) (symbols : List Symbol) → begins test symbols ≡ true → suc (length (behind test symbols)) ≡ length symbols
behind_length test [] e = absurd (cc e)
behind_length test (t ∷ symbols) e = ap (λ b. suc (length (if b then symbols else (t ∷ symbols)))) e

-- one more member was read, and the symbol stood behind it
pub separated_step : {A : Type 0} (test : Symbol → Bool) (member : Reader A) → ((rest : List Symbol) → length (member rest).1 ≤ length rest)
    → (front : List A) (symbols : List Symbol) (v : A) (rest : List Symbol) → member symbols ≡ (Some v, rest) → begins test rest ≡ true
    → with_front (front ++ v ∷ []) (separated_at test member (behind test rest)) ≡ with_front front (separated_at test member symbols)
separated_step test member shorter front symbols v rest e taken =
    let short : length rest ≤ length symbols = subst (λ out. length out.1 ≤ length symbols) e (shorter symbols) in
    let less : suc (length (behind test rest)) ≡ length rest = behind_length test rest taken in
    let same = separated_same test member shorter (suc (length (behind test rest))) (length symbols) (behind test rest) (omega arith) (omega (arith, short, less)) in
    let go = λ (most : ℕ) (v : _). on test (reader.◌>>=◌ (separated_in test member most) (λ values. gives (v ∷ values))) (gives (v ∷ [])) in
    with_front-one front v (separated_at test member (behind test rest))
    ∙ ap (λ out. with_front front (bind out (λ values. gives (v ∷ values)))) same
    ∙ ap (with_front front) (sym (on_true test (reader.◌>>=◌ (separated_in test member (length symbols)) (λ values. gives (v ∷ values))) (gives (v ∷ [])) rest taken))
    ∙ ap (λ out. with_front front (bind out (go (length symbols)))) (sym e)

-- the same as a turn of a loop needs it
pub separated_on : {A : Type 0} (test : Symbol → Bool) (member : Reader A) → ((rest : List Symbol) → length (member rest).1 ≤ length rest)
    → (front values : List A) (symbols rest left : List Symbol) (v : A) (all : ReaderOutcome (List A)) → with_front front (separated_at test member symbols) ≡ all
    → member symbols ≡ (Some v, rest) → begins test rest ≡ true → left ≡ behind test rest → values ≡ front ++ v ∷ []
    → with_front values (separated_at test member left) ≡ all
separated_on test member shorter front values symbols rest left v all so_far e taken next pushed =
    ap (λ z. with_front z (separated_at test member left)) pushed
    ∙ ap (λ z. with_front (front ++ v ∷ []) (separated_at test member z)) next
    ∙ separated_step test member shorter front symbols v rest e taken ∙ so_far

-- a turn takes the member and the symbol behind it
pub smaller_on : {A : Type 0} (test : Symbol → Bool) (member : Reader A) → ((rest : List Symbol) → length (member rest).1 ≤ length rest)
    → (symbols rest left : List Symbol) (v : A) → member symbols ≡ (Some v, rest) → begins test rest ≡ true → left ≡ behind test rest
    → length left < length symbols
smaller_on test member shorter symbols rest left v e taken next =
    let short : length rest ≤ length symbols = subst (λ out. length out.1 ≤ length symbols) e (shorter symbols) in
    let less : suc (length (behind test rest)) ≡ length rest = behind_length test rest taken in
    let same : length left ≡ length (behind test rest) = ap length next in
    omega (arith, short, less, same)

with_front-none : {A : Type 0} (out : ReaderOutcome (List A)) → with_front [] out ≡ out
with_front-none (Some values, rest) = refl
with_front-none (None, rest) = refl

with_front-flat : {A B : Type 0} (f : A → List B) (v : A) (out : ReaderOutcome (List A))
    → bind (with_front (v ∷ []) out) (λ values. gives (flat_map f values)) ≡ with_front (f v) (bind out (λ values. gives (flat_map f values)))
with_front-flat f v (Some values, rest) = refl
with_front-flat f v (None, rest) = refl

with_front-both : {A : Type 0} (one other : List A) (out : ReaderOutcome (List A)) → with_front one (with_front other out) ≡ with_front (one ++ other) out
with_front-both one other (Some values, rest) = ap (λ z. (Some z, rest)) (sym (append_assoc one other values))
with_front-both one other (None, rest) = refl

-- a turn of a loop that keeps what each member hands on
pub flat_on : {A B : Type 0} (test : Symbol → Bool) (member : Reader A) (f : A → List B) → ((rest : List Symbol) → length (member rest).1 ≤ length rest)
    → (front values : List B) (symbols rest left : List Symbol) (v : A) (all : ReaderOutcome (List B))
    → with_front front (bind (separated_at test member symbols) (λ vs. gives (flat_map f vs))) ≡ all
    → member symbols ≡ (Some v, rest) → begins test rest ≡ true → left ≡ behind test rest → values ≡ front ++ f v
    → with_front values (bind (separated_at test member left) (λ vs. gives (flat_map f vs))) ≡ all
flat_on test member f shorter front values symbols rest left v all so_far e taken next pushed =
    let step : with_front (v ∷ []) (separated_at test member (behind test rest)) ≡ separated_at test member symbols =
    separated_step test member shorter [] symbols v rest e taken ∙ with_front-none (separated_at test member symbols) in
    ap (λ z. with_front z (bind (separated_at test member left) (λ vs. gives (flat_map f vs)))) pushed
    ∙ ap (λ z. with_front (front ++ f v) (bind (separated_at test member z) (λ vs. gives (flat_map f vs)))) next
    ∙ sym (with_front-both front (f v) (bind (separated_at test member (behind test rest)) (λ vs. gives (flat_map f vs))))
    ∙ ap (with_front front) (sym (with_front-flat f v (separated_at test member (behind test rest))))
    ∙ ap (λ z. with_front front (bind z (λ vs. gives (flat_map f vs)))) step
    ∙ so_far
