-- The entries of a log that grows by a change, told from the tables after it.
use Rattle.event_core.proofs.Words.{◌++◌, ◌+◌, ◌∙◌, ◌∷◌, ◌≡◌, [], Accepts, AcceptsAll, after_change, All, All-push, ap, arith, Change, ChangeKind, changes_of, Dimension, empty_store, EndsAscending, entries_as, Entry, Fact, fold-append, kind_of_change, length, length-map, List, Logged, map, map_push, refl, Store, store_of, sym, tables_by, ℕ}
use Rattle.star_store.specs.declared.applied.ChangeKind.TheVariants.{DeclaresDimension, DeclaresFact, Loads, Ends}
use Rattle.core_state.specs.Logged.{changes_told}
use Rattle.star_store.proofs.HistoryLemmas.{accepts-more}
use Rattle.event_core.specs.Seen.{entries_with}

-- the changes of a history follow from its tables and their kinds
abbrev pub ChangesFollow : Type 0
ChangesFollow = (history : List Change) → AcceptsAll empty_store history → All EndsAscending history
    → changes_told (store_of history) 0 1 (map kind_of_change history) ≡ history

-- the changes that are told have the kinds that they are told of
kinds-told : (store : Store) (dimension commit : ℕ) (kinds : List ChangeKind) → map kind_of_change (changes_told store dimension commit kinds) ≡ kinds
kinds-told store dimension commit [] = refl
kinds-told store dimension commit (DeclaresDimension ∷ kinds) = ap (λ rest. DeclaresDimension ∷ rest) (kinds-told store (dimension + 1) commit kinds)
kinds-told store dimension commit (DeclaresFact ∷ kinds) = ap (λ rest. DeclaresFact ∷ rest) (kinds-told store dimension commit kinds)
kinds-told store dimension commit (Loads Fact ∷ kinds) = ap (λ rest. Loads Fact ∷ rest) (kinds-told store dimension (commit + 1) kinds)
kinds-told store dimension commit (Loads (Dimension number) ∷ kinds) =
    ap (λ rest. Loads (Dimension number) ∷ rest) (kinds-told store dimension (commit + 1) kinds)
kinds-told store dimension commit (Ends ∷ kinds) = ap (λ rest. Ends ∷ rest) (kinds-told store dimension (commit + 1) kinds)

-- so they are as many as there are in the log
count-told : (store : Store) (log : List Logged) → length (changes_told store 0 1 (map (λ (l : Logged). l.kind) log)) ≡ length log
count-told store log =
    let kinds : List ChangeKind = map (λ (l : Logged). l.kind) log in
    sym (length-map (changes_told store 0 1 kinds) kind_of_change) ∙ ap (λ (list : List ChangeKind). length list) (kinds-told store 0 1 kinds)
    ∙ length-map log (λ (l : Logged). l.kind)

-- the changes of entries are those that they were given
changes-given : (log : List Logged) (changes : List Change) → length changes ≡ length log → changes_of (entries_with log changes) ≡ changes
changes-given [] [] many = refl
changes-given [] (change ∷ changes) many = absurd (omega arith)
changes-given (logged ∷ log) [] many = absurd (omega arith)
changes-given (logged ∷ log) (change ∷ changes) many = ap (λ rest. change ∷ rest) (changes-given log changes (omega arith))

-- a change more is an entry more
entries-more : (log : List Logged) (changes : List Change) (logged : Logged) (change : Change) → length changes ≡ length log
    → entries_with (log ++ logged ∷ []) (changes ++ change ∷ [])
    ≡ entries_with log changes ++ record { seat = logged.seat; statement = logged.statement; change = change } ∷ []
entries-more [] [] logged change many = refl
entries-more [] (first ∷ changes) logged change many = absurd (omega arith)
entries-more (first ∷ log) [] logged change many = absurd (omega arith)
entries-more (first ∷ log) (told ∷ changes) logged change many =
    ap (λ rest. (let e : Entry = record { seat = first.seat; statement = first.statement; change = told } in e) ∷ rest)
    (entries-more log changes logged change (omega arith))

-- the entries after a change that the tables take, whose kind is logged
pub entries-logged : ChangesFollow → (old new : Store) (log : List Logged) (seat statement : ℕ) (change : Change)
    → AcceptsAll empty_store (changes_of (entries_as old log)) → All EndsAscending (changes_of (entries_as old log))
    → Accepts (tables_by (entries_as old log)) change → EndsAscending change → new ≡ after_change (tables_by (entries_as old log)) change
    → entries_as new (log ++ record { seat = seat; statement = statement; kind = kind_of_change change } ∷ [])
    ≡ entries_as old log ++ record { seat = seat; statement = statement; change = change } ∷ []
entries-logged follow old new log seat statement change all ends takes ascending after =
    ap (entries_with (log ++ logged ∷ [])) (told_now ∙ ap (λ changes. changes ++ change ∷ []) same)
    ∙ entries-more log told logged change (count-told old log)
  where
    logged : Logged
    logged = record { seat = seat; statement = statement; kind = kind_of_change change }

    kinds : List ChangeKind
    kinds = map (λ (l : Logged). l.kind) log

    told : List Change
    told = changes_told old 0 1 kinds

    history : List Change
    history = changes_of (entries_as old log)

    same : history ≡ told
    same = changes-given log told (count-told old log)

    kinds_now : map kind_of_change (history ++ change ∷ []) ≡ map (λ (l : Logged). l.kind) (log ++ logged ∷ [])
    kinds_now =
        map_push kind_of_change history change
        ∙ ap (λ list. list ++ kind_of_change change ∷ []) (ap (map kind_of_change) same ∙ kinds-told old 0 1 kinds)
        ∙ sym (map_push (λ (l : Logged). l.kind) log logged)

    tables_now : store_of (history ++ change ∷ []) ≡ new
    tables_now = fold-append after_change empty_store history (change ∷ []) ∙ sym after

    told_now : changes_told new 0 1 (map (λ (l : Logged). l.kind) (log ++ logged ∷ [])) ≡ history ++ change ∷ []
    told_now =
        sym (ap (λ store. changes_told store 0 1 (map kind_of_change (history ++ change ∷ []))) tables_now
        ∙ ap (changes_told new 0 1) kinds_now)
        ∙ follow (history ++ change ∷ []) (accepts-more empty_store history change all takes) (All-push EndsAscending history change ends ascending)
