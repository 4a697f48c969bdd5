-- What a reader gives, step by step as a function takes them.
use Rattle.std.proofs.Common.{◌≡◌, ◌∙◌, true, false, Bool, List, [], ◌∷◌, Some, None, Result, Ok, Err, refl, ap, sym, subst}
use Rattle.std.specs.Prelude.{if◌then◌else◌, IfOk}
use Rattle.star_lexer.specs.declared.symbol.Symbol.{Symbol}
use Rattle.star_parser.specs.declared.parser.Stop.{Stop}
use Rattle.star_parser.specs.declared.parser.Stop.TheVariants.{Memory, Unfit}
use Rattle.star_parser.specs.Reader.{ReaderOutcome, Reader, Gave, begins, behind, bind, gives, on}
use Rattle.star_parser.proofs.ReadsLemmas.{true_false}

pub on_true : {A : Type 0} (test : Symbol → Bool) (first second : Reader A) (symbols : List Symbol) → begins test symbols ≡ true
    → on test first second symbols ≡ first (behind test symbols)
on_true test first second [] e = true_false (sym e)
on_true test first second (t ∷ symbols) e = ap (λ b. if b then first (behind test (t ∷ symbols)) else second (t ∷ symbols)) e

on_false : {A : Type 0} (test : Symbol → Bool) (first second : Reader A) (symbols : List Symbol) → begins test symbols ≡ false
    → on test first second symbols ≡ second (behind test symbols)
on_false test first second [] e = refl
on_false test first second (t ∷ symbols) e =
    ap (λ b. if b then first (behind test (t ∷ symbols)) else second (t ∷ symbols)) e
    ∙ ap (λ b. second (if b then symbols else (t ∷ symbols))) (sym e)

-- the symbol stood there
pub on_then : {A : Type 0} (test : Symbol → Bool) (first second : Reader A) (symbols left : List Symbol) → true ≡ begins test symbols → left ≡ behind test symbols
    → on test first second symbols ≡ first left
on_then test first second symbols left e next = on_true test first second symbols (sym e) ∙ ap first (sym next)

-- another symbol stood there, or none
pub on_else : {A : Type 0} (test : Symbol → Bool) (first second : Reader A) (symbols left : List Symbol) → false ≡ begins test symbols → left ≡ behind test symbols
    → on test first second symbols ≡ second left
on_else test first second symbols left e next = on_false test first second symbols (sym e) ∙ ap second (sym next)

-- the first value was read
pub bind_ok : {A B : Type 0} {out : ReaderOutcome A} (second : A → Reader B) (value : A) (rest : List Symbol) → out ≡ (Some value, rest) → bind out second ≡ second value rest
bind_ok second value rest e = ap (λ z. bind z second) e

pub bind_bind : {A B C : Type 0} (out : ReaderOutcome A) (second : A → Reader B) (third : B → Reader C)
    → bind (bind out second) third ≡ bind out (λ a rest. bind (second a rest) third)
bind_bind (Some a, rest) second third = refl
bind_bind (None, rest) second third = refl

hands_on : {X A : Type 0} (view : X → A) (result : Result X Stop) (x : X) (rest : List Symbol) (out : ReaderOutcome (Unit {0})) → Gave (λ _. tt) result rest out → IfOk result (λ y. y ≡ x)
    → Gave view result rest (bind out (λ _. gives (view x)))
hands_on view (Ok y) x rest out read same = ap (λ z. bind z (λ _. gives (view x))) read ∙ ap (λ z. (Some (view z), rest)) (sym same)
hands_on view (Err Memory) x rest out read same = tt
hands_on view (Err Unfit) x rest out read same = ap (λ z. bind z (λ _. gives (view x))) read

-- a value was read, and handed on by what was read behind it
pub handed_on : {X A : Type 0} (view : X → A) (result : Result X Stop) (x : X) (middle rest : List Symbol) (out : ReaderOutcome A) (last : Reader (Unit {0})) → out ≡ (Some (view x), middle)
    → Gave (λ _. tt) result rest (last middle) → IfOk result (λ y. y ≡ x) → Gave view result rest (bind out (λ v later. bind (last later) (λ _. gives v)))
handed_on view result x middle rest out last first read same =
    subst (λ z. Gave view result rest z) (sym (bind_ok (λ v later. bind (last later) (λ _. gives v)) (view x) middle first)) (hands_on view result x rest (last middle) read same)
