-- What a reader gave to a core: nothing, one statement, and one part behind another.
use Rattle.script_run.proofs.Words.{◌++◌, ◌∙◌, ◌∷◌, ◌≡◌, ◌≢◌, [], ap, append-nil, append_assoc, Bool, HasNoStatement, List, MayCome, Reading, refl, Statement, statements_of, StaysFed, subst, sym, TakesFirst, WantsMemory, ℕ}
use Rattle.script_reader.specs.Reading.{AnswersNext}
use Rattle.script_reader.specs.declared.reader.NextStatement.{NextStatement}
use Rattle.script_reader.specs.declared.reader.NextStatement.TheVariants.{Got, NotYet, End}
use Rattle.script_run.specs.Front.{LeavesToRead, ReadsBetween}

-- what may come behind the bytes that wait may come behind those that wait then
pub comes-on : (waits waits' : Reading) → StaysFed waits waits' → (more : List ℕ) (last : Bool) → MayCome waits more last → MayCome waits' more last
comes-on waits waits' stays more last comes e = comes (sym stays.1 ∙ e)

-- nothing was read
pub reads-itself : (waits : Reading) → ReadsBetween waits [] waits
reads-itself waits more last comes = refl

-- the first statement that waits was given
pub reads-first : (waits waits' : Reading) (statement : Statement) → TakesFirst waits waits' statement → ReadsBetween waits (statement ∷ []) waits'
reads-first waits waits' statement first = first

-- one part behind another
pub reads-then : (waits waits' waits'' : Reading) (statements others : List Statement) → ReadsBetween waits statements waits' → StaysFed waits waits'
    → ReadsBetween waits' others waits'' → ReadsBetween waits (statements ++ others) waits''
reads-then waits waits' waits'' statements others first stays second bytes last comes =
    first bytes last comes
    ∙ ap (λ list. statements ++ list) (second bytes last (comes-on waits waits' stays bytes last comes))
    ∙ sym (append_assoc statements others (statements_of last (waits''.waiting ++ bytes)))

-- all that came was read where no statement is left
pub reads-all : (waits waits' : Reading) (statements : List Statement) (last : Bool) → ReadsBetween waits statements waits' → MayCome waits [] last
    → statements_of last waits.waiting ≡ statements ++ statements_of last waits'.waiting
reads-all waits waits' statements last reads comes =
    ap (statements_of last) (sym (append-nil waits.waiting)) ∙ reads [] last comes
    ∙ ap (λ bytes. statements ++ statements_of last bytes) (append-nil waits'.waiting)

-- memory was wanted at the end of the input, where a statement is left
pub leaves-wanting : (waits waits' : Reading) → WantsMemory waits waits' → LeavesToRead waits
leaves-wanting waits waits' wants ended = wants.0 ended

-- no statement is left that is whole, and what waits means the same
pub reads-done : (waits waits' : Reading) (next : NextStatement) → ((statement : Statement) → next ≢ Got statement) → AnswersNext waits waits' next → StaysFed waits waits'
    → ReadsBetween waits [] waits' × HasNoStatement waits'
reads-done waits waits' (Got statement) never answers stays = absurd (never statement refl)
reads-done waits waits' NotYet never answers stays = (
  λ more last comes. sym (answers.3 more last comes),
  subst (λ ended. statements_of ended waits'.waiting ≡ []) (sym (stays.1 ∙ answers.0)) answers.2,
)
reads-done waits waits' End never answers stays = (
  λ more last comes. let end = comes answers.0 in rw (end.0, end.1, append-nil waits.waiting, append-nil waits'.waiting) (answers.1 ∙ sym answers.2),
  subst (λ ended. statements_of ended waits'.waiting ≡ []) (sym (stays.1 ∙ answers.0)) answers.2,
)
