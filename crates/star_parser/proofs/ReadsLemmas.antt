-- How readers of parts make a reader of the whole.
use Rattle.std.proofs.Common.{◌≡◌, ℕ, suc, Bool, true, false, List, [], ◌∷◌, ◌++◌, length, Option, Some, None, refl, ap, sym, subst, ◌∙◌, append_assoc, inl, inr}
use Rattle.std.specs.Prelude.{IfSome, IfNone, if◌then◌else◌, ◌⊎◌, pos}
use Rattle.star_values.specs.declared.value.Value.{Value}
use Rattle.star_values.specs.declared.value.Value.TheVariants as value
use Rattle.star_lexer.specs.declared.symbol.Symbol.{Symbol}
use Rattle.star_lexer.specs.declared.symbol.Symbol.TheVariants as symbol
use Rattle.star_parser.specs.Form as form
use Rattle.star_parser.specs.Form.{Form}
use Rattle.star_parser.specs.Reader as reader
use Rattle.star_parser.specs.Reader.{ReaderOutcome, Reader, begins, bind}
use Rattle.star_parser.specs.Reads.{Reads, first_of, IsInhabited}

if_some_map : {A : Type 0} {P Q : A → Type 0} (o : Option A) → ((a : A) → P a → Q a) → IfSome o P → IfSome o Q
if_some_map None f p = tt
if_some_map (Some a) f p = f a p

if_none_map : {A P Q : Type 0} (o : Option A) → (P → Q) → IfNone o P → IfNone o Q
if_none_map None f p = f p
if_none_map (Some a) f p = tt

pub first_of-append : (used other rest : List Symbol) → first_of other ≡ first_of rest → first_of (used ++ other) ≡ first_of (used ++ rest)
first_of-append [] other rest same = same
first_of-append (s ∷ used) other rest same = refl

-- nothing is no value
pub none_some : {A C : Type 0} {a : A} → None ≡ Some a → C
none_some e = absurd (cc e)

pub some_same : {A : Type 0} {a b : A} → Some a ≡ Some b → a ≡ b
some_same e = cc e

-- What can be behind a form does not go on the one in front of it: where nothing stands behind that goes on
-- the second, nothing stands at the front of the second that goes on the first.
abbrev pub Avoids : {B : Type 0} → (Symbol → Bool) → Form B → (Symbol → Bool) → Type 0
Avoids {B = B} first form second =
    (value : B) (front back : List Symbol) → form front value → begins second back ≡ false → begins first (front ++ back) ≡ false

-- the second of two parts was looked for
bind_second : {A B : Type 0} {L1 M1 : Form A} {L2 M2 : A → Form B} {E1 E : Symbol → Bool} (symbols : List Symbol) (a : A) (rest : List Symbol) (out : ReaderOutcome B)
    → Reads L1 M1 E1 symbols (Some a, rest) → Reads (L2 a) (M2 a) E rest out → ((b : A) → Avoids E1 (M2 b) E)
    → Reads (form.◌>>=◌ L1 L2) (form.◌>>=◌ M1 M2) E symbols out
bind_second {L1 = L1} {M2 = M2} symbols a rest out r s glue = record {
  used = r.used ++ s.used;
  whole = r.whole ∙ ap (λ z. r.used ++ z) s.whole ∙ sym (append_assoc r.used s.used out.1);
  read = if_some_map out.0 (λ b l. (r.used, s.used, a, refl, r.read, l)) s.read;
  only = λ other front back b same eq m ends.
      let f1 = m.0 in
      let f2 = m.1 in
      let eq1 : r.used ++ (s.used ++ other) ≡ f1 ++ (f2 ++ back) = sym (append_assoc r.used s.used other) ∙ eq ∙ ap (λ z. z ++ back) m.3 ∙ append_assoc f1 f2 back in
      let same1 : first_of (s.used ++ other) ≡ first_of rest = first_of-append s.used other out.1 same ∙ ap first_of (sym s.whole) in
      let one = r.only (s.used ++ other) f1 (f2 ++ back) m.2 same1 eq1 m.4 (glue m.2 b f2 back m.5 ends) in
      let m2 : M2 a f2 b = subst (λ z. M2 z f2 b) (sym (some_same one.0)) m.5 in
      s.only other f2 back b same (sym one.1) m2 ends;
  begun = if_none_map out.0 (λ more. (more.0, more.1, (r.used, s.used ++ more.0, a, append_assoc r.used s.used more.0, r.read, more.2))) s.begun;
}

-- a form, and behind it another
pub bind_reads : {A B : Type 0} {L1 M1 : Form A} {L2 M2 : A → Form B} {E1 E : Symbol → Bool} (symbols : List Symbol) (out : ReaderOutcome A) (second : A → Reader B)
    → Reads L1 M1 E1 symbols out → ((a : A) (rest : List Symbol) → out ≡ (Some a, rest) → Reads (L2 a) (M2 a) E rest (second a rest))
    → ((b : A) → Avoids E1 (M2 b) E) → ((a : A) → IsInhabited (L2 a))
    → Reads (form.◌>>=◌ L1 L2) (form.◌>>=◌ M1 M2) E symbols (bind out second)
bind_reads symbols (Some a, rest) second r s glue example = bind_second symbols a rest (second a rest) r (s a rest refl) glue
bind_reads {L1 = L1} {L2 = L2} symbols (None, rest) second r s glue example = record {
  used = r.used;
  whole = r.whole;
  read = tt;
  only = λ other front back b same eq m ends.
      let eq1 : r.used ++ other ≡ m.0 ++ (m.1 ++ back) = eq ∙ ap (λ z. z ++ back) m.3 ∙ append_assoc m.0 m.1 back in
      none_some (r.only other m.0 (m.1 ++ back) m.2 same eq1 m.4 (glue m.2 b m.1 back m.5 ends)).0;
  begun =
      let more = r.begun in
      let behind = example more.1 in
      (more.0 ++ behind.0, behind.1, (r.used ++ more.0, behind.0, more.1, sym (append_assoc r.used more.0 behind.0), more.2, behind.2));
}

pub begins-by_first : (test : Symbol → Bool) (one other : List Symbol) → first_of one ≡ first_of other → begins test one ≡ begins test other
begins-by_first test [] [] same = refl
begins-by_first test [] (t ∷ other) same = none_some same
begins-by_first test (s ∷ one) [] same = none_some (sym same)
begins-by_first test (s ∷ one) (t ∷ other) same = ap test (some_same same)

pub true_false : {C : Type 0} → true ≡ false → C
true_false e = absurd (cc e)

cons_same : {A : Type 0} {a b : A} {more others : List A} → a ∷ more ≡ b ∷ others → more ≡ others
cons_same e = cc e

-- the same reading, of a form that says the same
pub reads_by : {A : Type 0} {L M L2 M2 : Form A} {E : Symbol → Bool} (symbols : List Symbol) (out : ReaderOutcome A)
    → ((front : List Symbol) (a : A) → L front a → L2 front a) → ((front : List Symbol) (a : A) → M2 front a → M front a)
    → Reads L M E symbols out → Reads L2 M2 E symbols out
reads_by symbols out there back r = record {
  used = r.used;
  whole = r.whole;
  read = if_some_map out.0 (λ a l. there r.used a l) r.read;
  only = λ other front behind a same eq m ends. r.only other front behind a same eq (back front a m) ends;
  begun = if_none_map out.0 (λ more. (more.0, more.1, there (r.used ++ more.0) more.1 more.2)) r.begun;
}

-- the same, where what goes on is more
pub reads_wider : {A : Type 0} {L M : Form A} {E F : Symbol → Bool} (symbols : List Symbol) (out : ReaderOutcome A)
    → ((back : List Symbol) → begins F back ≡ false → begins E back ≡ false) → Reads L M E symbols out → Reads L M F symbols out
reads_wider symbols out within r = record {
  used = r.used;
  whole = r.whole;
  read = r.read;
  only = λ other front behind a same eq m ends. r.only other front behind a same eq m (within behind ends);
  begun = r.begun;
}

pub gives_reads : {A : Type 0} {E : Symbol → Bool} (value : A) (symbols : List Symbol)
    → Reads (form.stands_for value) (form.stands_for value) E symbols (Some value, symbols)
gives_reads value symbols = record {
  used = [];
  whole = refl;
  read = (refl, refl);
  only = λ other front back b same eq m ends. (ap Some (sym m.1), sym (eq ∙ ap (λ z. z ++ back) m.0));
  begun = tt;
}

-- the test finds one symbol
abbrev pub Finds : (Symbol → Bool) → Symbol → Type 0
Finds test s = (test s ≡ true) × ((t : Symbol) → test t ≡ true → t ≡ s)

-- behind a symbol
abbrev pub after : {A : Type 0} → Symbol → Form A → Form A
after s later = form.◌>>◌ (form.one_symbol s) later

head_of_after : {A : Type 0} (M : Form A) (s : Symbol) (front back symbols : List Symbol) (b : A) → after s M front b → symbols ≡ front ++ back
    → (f2 : List Symbol) × (symbols ≡ s ∷ (f2 ++ back)) × M f2 b
head_of_after M s front back symbols b m eq =
    (m.1, eq ∙ ap (λ z. z ++ back) m.3 ∙ ap (λ z. (z ++ m.1) ++ back) m.4, m.5)

on_left : {A : Type 0} {L1 M1 L2 M2 : Form A} {E test : Symbol → Bool} {s : Symbol} (t : Symbol) (symbols : List Symbol) (out : ReaderOutcome A)
    → Finds test s → test t ≡ true → Reads L1 M1 E symbols out → Avoids test M2 E
    → Reads (form.◌or◌ (after s L1) L2) (form.◌or◌ (after s M1) M2) E (t ∷ symbols) out
on_left {A = A} {L1 = L1} {M1 = M1} {M2 = M2} {E = E} {test = test} {s = s} t symbols out finds e r avoid = record {
  used = t ∷ r.used;
  whole = ap (λ z. t ∷ z) r.whole;
  read = if_some_map out.0 (λ a l. inl (t ∷ [], r.used, tt, refl, ap (λ z. z ∷ []) (finds.1 t e), l)) r.read;
  only = only_left;
  begun = if_none_map out.0 (λ more. (more.0, more.1, inl (t ∷ [], r.used ++ more.0, tt, refl, ap (λ z. z ∷ []) (finds.1 t e), more.2))) r.begun;
}
  where
    only_left : (other front back : List Symbol) (b : A) → first_of other ≡ first_of out.1 → t ∷ r.used ++ other ≡ front ++ back
        → after s M1 front b ⊎ M2 front b → begins E back ≡ false → (out.0 ≡ Some b) × (back ≡ other)
    only_left other front back b same eq (inl m) ends =
        let head = head_of_after M1 s front back (t ∷ r.used ++ other) b m eq in
        r.only other head.0 back b same (cons_same head.1) head.2 ends
    only_left other front back b same eq (inr m) ends =
        true_false (sym e ∙ ap (begins test) eq ∙ avoid b front back m ends)

on_right : {A : Type 0} {L1 M1 L2 M2 : Form A} {E test : Symbol → Bool} {s : Symbol} (symbols : List Symbol) (out : ReaderOutcome A)
    → Finds test s → begins test symbols ≡ false → Reads L2 M2 E symbols out
    → Reads (form.◌or◌ (after s L1) L2) (form.◌or◌ (after s M1) M2) E symbols out
on_right {A = A} {M1 = M1} {M2 = M2} {E = E} {test = test} {s = s} symbols out finds e r = record {
  used = r.used;
  whole = r.whole;
  read = if_some_map out.0 (λ a l. inr l) r.read;
  only = only_right;
  begun = if_none_map out.0 (λ more. (more.0, more.1, inr more.2)) r.begun;
}
  where
    only_right : (other front back : List Symbol) (b : A) → first_of other ≡ first_of out.1 → r.used ++ other ≡ front ++ back
        → after s M1 front b ⊎ M2 front b → begins E back ≡ false → (out.0 ≡ Some b) × (back ≡ other)
    only_right other front back b same eq (inl m) ends =
        let head = head_of_after M1 s front back (r.used ++ other) b m eq in
        let like = begins-by_first test (r.used ++ other) symbols (first_of-append r.used other out.1 same ∙ ap first_of (sym r.whole)) in
        true_false (sym finds.0 ∙ ap (begins test) (sym head.1) ∙ like ∙ e)
    only_right other front back b same eq (inr m) ends = r.only other front back b same eq m ends

on_by : {A : Type 0} {L1 M1 L2 M2 : Form A} {E test : Symbol → Bool} {s : Symbol} (t : Symbol) (symbols : List Symbol) (first second : Reader A)
    → Finds test s → (taken : Bool) → test t ≡ taken
    → (taken ≡ true → Reads L1 M1 E symbols (first symbols)) → (taken ≡ false → Reads L2 M2 E (t ∷ symbols) (second (t ∷ symbols)))
    → Avoids test M2 E
    → Reads (form.◌or◌ (after s L1) L2) (form.◌or◌ (after s M1) M2) E (t ∷ symbols)
    (if taken then first (if taken then symbols else (t ∷ symbols)) else second (t ∷ symbols))
on_by t symbols first second finds true e h1 h2 avoid = on_left t symbols (first symbols) finds e (h1 refl) avoid
on_by t symbols first second finds false e h1 h2 avoid = on_right (t ∷ symbols) (second (t ∷ symbols)) finds e (h2 refl)

-- a symbol and the first form behind it, or else the second
pub on_reads : {A : Type 0} {L1 M1 L2 M2 : Form A} {E test : Symbol → Bool} {s : Symbol} (symbols : List Symbol) (first second : Reader A)
    → Finds test s → ((rest : List Symbol) → suc (length rest) ≡ length symbols → Reads L1 M1 E rest (first rest))
    → Reads L2 M2 E symbols (second symbols) → Avoids test M2 E
    → Reads (form.◌or◌ (after s L1) L2) (form.◌or◌ (after s M1) M2) E symbols (reader.on test first second symbols)
on_reads [] first second finds h1 r2 avoid = on_right [] (second []) finds refl r2
on_reads {test = test} (t ∷ symbols) first second finds h1 r2 avoid =
    on_by t symbols first second finds (test t) refl (λ _. h1 symbols refl) (λ _. r2) avoid

-- one symbol
expect_by : {E test : Symbol → Bool} {s : Symbol} (t : Symbol) (symbols : List Symbol) → Finds test s → (taken : Bool) → test t ≡ taken
    → Reads (form.one_symbol s) (form.one_symbol s) E (t ∷ symbols) (if taken then (Some tt, symbols) else (None, t ∷ symbols))
expect_by {s = s} t symbols finds true e = record {
  used = t ∷ [];
  whole = refl;
  read = ap (λ z. z ∷ []) (finds.1 t e);
  only = λ other front back b same eq m ends. (refl, sym (cons_same (eq ∙ ap (λ z. z ++ back) m)));
  begun = tt;
}
expect_by {test = test} {s = s} t symbols finds false e = record {
  used = [];
  whole = refl;
  read = tt;
  only = λ other front back b same eq m ends.
      true_false (sym finds.0 ∙ ap (begins test) (sym (eq ∙ ap (λ z. z ++ back) m)) ∙ begins-by_first test other (t ∷ symbols) same ∙ e);
  begun = (s ∷ [], tt, refl);
}

pub expect_reads : {E test : Symbol → Bool} {s : Symbol} (symbols : List Symbol) → Finds test s
    → Reads (form.one_symbol s) (form.one_symbol s) E symbols (reader.expect test symbols)
expect_reads {test = test} {s = s} [] finds = record {
  used = [];
  whole = refl;
  read = tt;
  only = λ other front back b same eq m ends.
      true_false (sym finds.0 ∙ ap (begins test) (sym (eq ∙ ap (λ z. z ++ back) m)) ∙ begins-by_first test other [] same);
  begun = (s ∷ [], tt, refl);
}
expect_reads {test = test} (t ∷ symbols) finds = expect_by t symbols finds (test t) refl

-- what begins with another symbol is no name
name_not : {E : Symbol → Bool} (rest : List Symbol) → ((letters : List ℕ) → first_of rest ≡ Some (symbol.Name letters) → ⊥)
    → Reads form.name form.name E rest (None, rest)
name_not rest other_kind = record {
  used = [];
  whole = refl;
  read = tt;
  only = λ other front back b same eq m ends.
      absurd (other_kind b (sym same ∙ ap first_of (eq ∙ ap (λ z. z ++ back) m)));
  begun = (symbol.Name [] ∷ [], [], refl);
}

pub name_reads : {E : Symbol → Bool} (symbols : List Symbol) → Reads form.name form.name E symbols (reader.name_at symbols)
name_reads [] = name_not [] (λ letters e. none_some e)
name_reads (symbol.Keyword k ∷ symbols) = name_not (symbol.Keyword k ∷ symbols) (λ letters e. absurd (cc e))
name_reads (symbol.Literal v ∷ symbols) = name_not (symbol.Literal v ∷ symbols) (λ letters e. absurd (cc e))
name_reads (symbol.Sign s ∷ symbols) = name_not (symbol.Sign s ∷ symbols) (λ letters e. absurd (cc e))
name_reads (symbol.Name letters ∷ symbols) = record {
  used = symbol.Name letters ∷ [];
  whole = refl;
  read = refl;
  only = λ other front back b same eq m ends.
      let cut : symbol.Name letters ∷ other ≡ symbol.Name b ∷ back = eq ∙ ap (λ z. z ++ back) m in
      (cc cut, sym (cons_same cut));
  begun = tt;
}

literal_not : {E : Symbol → Bool} (rest : List Symbol) → ((value : Value) → first_of rest ≡ Some (symbol.Literal value) → ⊥)
    → Reads form.literal form.literal E rest (None, rest)
literal_not rest other_kind = record {
  used = [];
  whole = refl;
  read = tt;
  only = λ other front back b same eq m ends.
      absurd (other_kind b (sym same ∙ ap first_of (eq ∙ ap (λ z. z ++ back) m)));
  begun = (symbol.Literal (value.Int (pos 0)) ∷ [], value.Int (pos 0), refl);
}

pub literal_reads : {E : Symbol → Bool} (symbols : List Symbol) → Reads form.literal form.literal E symbols (reader.literal_at symbols)
literal_reads [] = literal_not [] (λ v e. none_some e)
literal_reads (symbol.Keyword k ∷ symbols) = literal_not (symbol.Keyword k ∷ symbols) (λ v e. absurd (cc e))
literal_reads (symbol.Name n ∷ symbols) = literal_not (symbol.Name n ∷ symbols) (λ v e. absurd (cc e))
literal_reads (symbol.Sign s ∷ symbols) = literal_not (symbol.Sign s ∷ symbols) (λ v e. absurd (cc e))
literal_reads (symbol.Literal v ∷ symbols) = record {
  used = symbol.Literal v ∷ [];
  whole = refl;
  read = refl;
  only = λ other front back b same eq m ends.
      let cut : symbol.Literal v ∷ other ≡ symbol.Literal b ∷ back = eq ∙ ap (λ z. z ++ back) m in
      (cc cut, sym (cons_same cut));
  begun = tt;
}

-- what goes on: every symbol, and none
abbrev pub any_symbol : Symbol → Bool
any_symbol s = true

abbrev pub no_symbol : Symbol → Bool
no_symbol s = false

-- nothing more
pub end_reads : (symbols : List Symbol) → Reads (form.stands_for tt) (form.stands_for tt) any_symbol symbols (reader.end_at symbols)
end_reads [] = gives_reads tt []
end_reads (t ∷ symbols) = record {
  used = [];
  whole = refl;
  read = tt;
  only = λ other front back b same eq m ends.
      true_false (sym (begins-by_first any_symbol other (t ∷ symbols) same) ∙ ap (begins any_symbol) (eq ∙ ap (λ z. z ++ back) m.0) ∙ ends);
  begun = ([], tt, (refl, refl));
}

-- Which forms avoid which symbols.

pub avoids_symbol : {B : Type 0} (test : Symbol → Bool) (s : Symbol) (K : Unit {0} → Form B) (E : Symbol → Bool) → test s ≡ false
    → Avoids test (form.◌>>=◌ (form.one_symbol s) K) E
avoids_symbol test s K E other b front back m ends = ap (begins test) (ap (λ z. z ++ back) m.3 ∙ ap (λ z. (z ++ m.1) ++ back) m.4) ∙ other

pub avoids_name : {B : Type 0} (test : Symbol → Bool) (K : List ℕ → Form B) (E : Symbol → Bool) → ((letters : List ℕ) → test (symbol.Name letters) ≡ false)
    → Avoids test (form.◌>>=◌ form.name K) E
avoids_name test K E other b front back m ends = ap (begins test) (ap (λ z. z ++ back) m.3 ∙ ap (λ z. (z ++ m.1) ++ back) m.4) ∙ other m.2

pub avoids_literal : {B : Type 0} (test : Symbol → Bool) (K : Value → Form B) (E : Symbol → Bool) → ((v : Value) → test (symbol.Literal v) ≡ false)
    → Avoids test (form.◌>>=◌ form.literal K) E
avoids_literal test K E other b front back m ends = ap (begins test) (ap (λ z. z ++ back) m.3 ∙ ap (λ z. (z ++ m.1) ++ back) m.4) ∙ other m.2

pub avoids_or : {B : Type 0} (test : Symbol → Bool) (L M : Form B) (E : Symbol → Bool) → Avoids test L E → Avoids test M E → Avoids test (form.◌or◌ L M) E
avoids_or test L M E l m b front back (inl x) ends = l b front back x ends
avoids_or test L M E l m b front back (inr x) ends = m b front back x ends

pub within_begins : (test E : Symbol → Bool) → ((t : Symbol) → E t ≡ false → test t ≡ false) → (back : List Symbol) → begins E back ≡ false → begins test back ≡ false
within_begins test E less [] e = refl
within_begins test E less (t ∷ back) e = less t e

pub avoids_nothing : {B : Type 0} (test : Symbol → Bool) (value : B) (E : Symbol → Bool) → ((t : Symbol) → E t ≡ false → test t ≡ false)
    → Avoids test (form.stands_for value) E
avoids_nothing test value E less b front back m ends = ap (λ z. begins test (z ++ back)) m.0 ∙ within_begins test E less back ends

begins_none : (symbols : List Symbol) → begins no_symbol symbols ≡ false
begins_none [] = refl
begins_none (s ∷ symbols) = refl

-- what begins a form begins all that begins with it, where it is never empty
pub avoids_front : {A B : Type 0} (test : Symbol → Bool) (L : Form A) (K : A → Form B) (E : Symbol → Bool) → Avoids test L no_symbol
    → Avoids test (form.◌>>=◌ L K) E
avoids_front test L K E l b front back m ends =
    ap (begins test) (ap (λ z. z ++ back) m.3 ∙ append_assoc m.0 m.1 back) ∙ l m.2 m.0 (m.1 ++ back) m.4 (begins_none (m.1 ++ back))

-- an optional part, and what can be behind it
pub avoids_optional : {A B : Type 0} (test : Symbol → Bool) (s : Symbol) (L : Unit {0} → Form A) (value : A) (K : A → Form B) (E : Symbol → Bool) → test s ≡ false
    → Avoids test (K value) E → Avoids test (form.◌>>=◌ (form.◌or◌ (form.◌>>=◌ (form.one_symbol s) L) (form.stands_for value)) K) E
avoids_optional {B = B} test s L value K E other k b front back m ends = by m.4
  where
    by : (form.◌or◌ (form.◌>>=◌ (form.one_symbol s) L) (form.stands_for value)) m.0 m.2 → begins test (front ++ back) ≡ false
    by (inl x) = ap (begins test) (ap (λ z. z ++ back) m.3 ∙ append_assoc m.0 m.1 back) ∙ avoids_symbol test s L no_symbol other m.2 m.0 (m.1 ++ back) x (begins_none (m.1 ++ back))
    by (inr x) =
        ap (begins test) (ap (λ z. z ++ back) (m.3 ∙ ap (λ z. z ++ m.1) x.0))
        ∙ k b m.1 back (subst (λ z. K z m.1 b) x.1 m.5) ends

pub avoids_none : {B : Type 0} (L : Form B) (E : Symbol → Bool) → Avoids no_symbol L E
avoids_none L E b front back m ends = begins_none (front ++ back)

-- What is of a form.

pub symbol_there : (s : Symbol) → IsInhabited (form.one_symbol s)
symbol_there s = (s ∷ [], tt, refl)

pub name_there : IsInhabited form.name
name_there = (symbol.Name [] ∷ [], [], refl)

pub literal_there : IsInhabited form.literal
literal_there = (symbol.Literal (value.Int (pos 0)) ∷ [], value.Int (pos 0), refl)

pub nothing_there : {A : Type 0} (a : A) → IsInhabited (form.stands_for a)
nothing_there a = ([], a, (refl, refl))

pub bind_there : {A B : Type 0} {L : Form A} {K : A → Form B} → IsInhabited L → ((a : A) → IsInhabited (K a)) → IsInhabited (form.◌>>=◌ L K)
bind_there l k = (l.0 ++ (k l.1).0, (k l.1).1, (l.0, (k l.1).0, l.1, refl, l.2, (k l.1).2))

pub or_there : {A : Type 0} {L M : Form A} → IsInhabited M → IsInhabited (form.◌or◌ L M)
or_there m = (m.0, m.1, inr m.2)

-- Shapes that come often.

-- a part that nothing goes on, and behind it another
pub tight_reads : {A B : Type 0} {L1 M1 : Form A} {L2 M2 : A → Form B} {E : Symbol → Bool} (symbols : List Symbol) (out : ReaderOutcome A) (second : A → Reader B)
    → Reads L1 M1 no_symbol symbols out → ((a : A) (rest : List Symbol) → out ≡ (Some a, rest) → Reads (L2 a) (M2 a) E rest (second a rest))
    → ((a : A) → IsInhabited (L2 a))
    → Reads (form.◌>>=◌ L1 L2) (form.◌>>=◌ M1 M2) E symbols (bind out second)
tight_reads {M2 = M2} {E = E} symbols out second r s there = bind_reads symbols out second r s (λ b. avoids_none (M2 b) E) there

-- what was read stands for another value
pub as_reads : {A B : Type 0} {L M : Form A} {E : Symbol → Bool} (symbols : List Symbol) (out : ReaderOutcome A) (f : A → B) → Reads L M E symbols out
    → Reads (form.◌>>=◌ L (λ a. form.stands_for (f a))) (form.◌>>=◌ M (λ a. form.stands_for (f a))) E symbols (bind out (λ a. reader.gives (f a)))
as_reads {E = E} symbols out f r =
    bind_reads symbols out (λ a. reader.gives (f a)) r (λ a rest e. gives_reads (f a) rest) (λ a. avoids_nothing E (f a) E (λ t h. h)) (λ a. nothing_there (f a))

abbrev expect_as : Bool → Symbol → List Symbol → ReaderOutcome (Unit {0})
expect_as taken t symbols = if taken then (Some tt, symbols) else (None, t ∷ symbols)

expect_length_by : (taken : Bool) (t : Symbol) (symbols rest : List Symbol) (u : Unit {0}) → expect_as taken t symbols ≡ (Some u, rest) → suc (length rest) ≡ suc (length symbols)
expect_length_by true t symbols rest u e = ap (λ z. suc (length z.1)) (sym e)
expect_length_by false t symbols rest u e = none_some (ap (λ z. z.0) e)

expect_length : (test : Symbol → Bool) (symbols rest : List Symbol) (u : Unit {0}) → reader.expect test symbols ≡ (Some u, rest) → suc (length rest) ≡ length symbols
expect_length test [] rest u e = none_some (ap (λ z. z.0) e)
expect_length test (t ∷ symbols) rest u e = expect_length_by (test t) t symbols rest u e

-- a symbol, and behind it a form
pub after_reads : {A : Type 0} {L M : Form A} {E test : Symbol → Bool} {s : Symbol} (symbols : List Symbol) (second : Reader A) → Finds test s
    → ((rest : List Symbol) → suc (length rest) ≡ length symbols → Reads L M E rest (second rest)) → IsInhabited L
    → Reads (after s L) (after s M) E symbols (bind (reader.expect test symbols) (λ _. second))
after_reads {E = E} {test = test} {s = s} symbols second finds r there =
    tight_reads symbols (reader.expect test symbols) (λ _. second) (expect_reads symbols finds) (λ a rest e. r rest (expect_length test symbols rest a e)) (λ _. there)

-- the first form where its symbol stands, which begins all of it, and else the second
when_by : {A : Type 0} {L1 M1 L2 M2 : Form A} {E test : Symbol → Bool} (symbols : List Symbol) (first second : Reader A) (taken : Bool) → begins test symbols ≡ taken
    → (taken ≡ true → Reads L1 M1 E symbols (first symbols)) → (taken ≡ false → Reads L2 M2 E symbols (second symbols))
    → ((value : A) (front back : List Symbol) → M1 front value → begins test (front ++ back) ≡ true) → Avoids test M2 E
    → Reads (form.◌or◌ L1 L2) (form.◌or◌ M1 M2) E symbols (if taken then first symbols else second symbols)
when_by {A = A} {M1 = M1} {M2 = M2} {E = E} {test = test} symbols first second true e h1 h2 leads avoid =
    let r = h1 refl in
    let only : (other front back : List Symbol) (b : A) → first_of other ≡ first_of (first symbols).1 → r.used ++ other ≡ front ++ back
    → M1 front b ⊎ M2 front b → begins E back ≡ false → ((first symbols).0 ≡ Some b) × (back ≡ other) =
    λ other front back b same eq m ends. elim m [
      | inl x ↦ r.only other front back b same eq x ends
      | inr x ↦ true_false (sym e ∙ sym (begins-by_first test (r.used ++ other) symbols (first_of-append r.used other (first symbols).1 same ∙ ap first_of (sym r.whole)))
          ∙ ap (begins test) eq ∙ avoid b front back x ends)
    ] in
    record {
      used = r.used;
      whole = r.whole;
      read = if_some_map (first symbols).0 (λ a l. inl l) r.read;
      only = only;
      begun = if_none_map (first symbols).0 (λ more. (more.0, more.1, inl more.2)) r.begun;
    }
when_by {A = A} {M1 = M1} {M2 = M2} {E = E} {test = test} symbols first second false e h1 h2 leads avoid =
    let r = h2 refl in
    let only : (other front back : List Symbol) (b : A) → first_of other ≡ first_of (second symbols).1 → r.used ++ other ≡ front ++ back
    → M1 front b ⊎ M2 front b → begins E back ≡ false → ((second symbols).0 ≡ Some b) × (back ≡ other) =
    λ other front back b same eq m ends. elim m [
      | inr x ↦ r.only other front back b same eq x ends
      | inl x ↦ true_false (sym (leads b front back x) ∙ ap (begins test) (sym eq)
          ∙ begins-by_first test (r.used ++ other) symbols (first_of-append r.used other (second symbols).1 same ∙ ap first_of (sym r.whole)) ∙ e)
    ] in
    record {
      used = r.used;
      whole = r.whole;
      read = if_some_map (second symbols).0 (λ a l. inr l) r.read;
      only = only;
      begun = if_none_map (second symbols).0 (λ more. (more.0, more.1, inr more.2)) r.begun;
    }

pub when_reads : {A : Type 0} {L1 M1 L2 M2 : Form A} {E test : Symbol → Bool} (symbols : List Symbol) (first second : Reader A)
    → Reads L1 M1 E symbols (first symbols) → Reads L2 M2 E symbols (second symbols)
    → ((value : A) (front back : List Symbol) → M1 front value → begins test (front ++ back) ≡ true) → Avoids test M2 E
    → Reads (form.◌or◌ L1 L2) (form.◌or◌ M1 M2) E symbols (reader.when test first second symbols)
when_reads {test = test} symbols first second r1 r2 leads avoid = when_by symbols first second (begins test symbols) refl (λ _. r1) (λ _. r2) leads avoid
