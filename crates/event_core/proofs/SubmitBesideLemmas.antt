-- What is beside the state stays as it is where a statement is submitted: the tables and the filters change only where nothing is out.
use Rattle.event_core.proofs.Words.{◌∙◌, ◌≡◌, after_change, All, ap, Bool, Change, Changed, ChangeKind, CoreParts, false, Follows, IsCore, KeyedStore, Lives, None, Ok, Option, option_map_or, outcome_of, plain, refl, Reply, Some, Statement, Store, subst, sym, true, with_filters_for}
use Rattle.std.specs.Prelude.{◌↔◌, ◌≢◌, [], IsTrue}
use Rattle.star_store.specs.declared.applied.ApplyFault.{ApplyFault}
use Rattle.star_store.specs.declared.applied.ChangeKind.TheVariants.{DeclaresFact}
use Rattle.query_meaning.specs.History.{DimensionDeclared, FactDeclared, Loaded, Ended}
use Rattle.star_store.specs.Kinds.{kind_of_change}
use Rattle.core_parts.specs.Lent.{lent_to}
use Rattle.event_core.specs.CoreParts.{AreBacked, beside_of, fixed_by}
use Rattle.event_core.proofs.EventsSubmitLemmas.{IsChange, some-change, undeclared-before, UndeclaredLaw}
use Rattle.event_core.proofs.OutLemmas.{all-home, beside-idle}

-- where something is out the tables and the set of the filters are as they were
abbrev pub StayLent : (are_lent : Bool) → (parts : CoreParts) → KeyedStore → Lives → Type 0
StayLent are_lent parts tables lives = IsTrue are_lent → (tables ≡ parts.tables) × (lives.filters ≡ parts.lives.filters)

-- so what is beside the state is the same
pub beside-stays : (parts : CoreParts) (tables : KeyedStore) (lives : Lives) (are_lent : Bool)
    → (are_lent ≡ false) ↔ All (λ lending. lending ≡ None) parts.out → StayLent are_lent parts tables lives
    → beside_of (record parts { tables = tables; lives = lives }) ≡ beside_of parts
beside-stays parts tables lives false tells stay = beside-idle parts parts tables lives refl (tells.0 refl)
beside-stays parts tables lives true tells stay =
    let same = stay refl in
    ap (λ fixed. record (beside_of parts) { fixed = fixed })
    (ap (λ (tables : KeyedStore). fixed_by parts.out tables lives.filters) same.0
    ∙ ap (fixed_by parts.out parts.tables) same.1)

-- a statement is told to wait only where something is out
pub out-somewhere : (parts now : CoreParts) (are_lent : Bool) → parts ≡ now → (are_lent ≡ false) ↔ All (λ lending. lending ≡ None) parts.out
    → IsTrue are_lent → ¬ (All (λ lending. lending ≡ None) (beside_of now).out)
out-somewhere parts now are_lent is tells lent none =
    let home : are_lent ≡ false =
    tells.1 (subst (λ (p : CoreParts). All (λ lending. lending ≡ None) p.out) (sym is) none) in cc (lent, home)

-- where no batch is lent nothing is out, so no statement is told to wait
pub never-waits : (parts now : CoreParts) → parts ≡ now → AreBacked (beside_of parts) → lent_to now.flights ≡ []
    → ¬ (All (λ lending. lending ≡ None) (beside_of now).out) → ⊥
never-waits parts now is backed none out =
    out (subst (λ (p : CoreParts). All (λ lending. lending ≡ None) p.out) is
    (all-home parts backed (ap (λ (p : CoreParts). lent_to p.flights) is ∙ none)))

-- a change that declares the fact table leaves it declared
declares-fact : (store : Store) (change : Change) → kind_of_change change ≡ DeclaresFact → store.schema.fact ≡ None
    → (after_change store change).schema.fact ≢ None
declares-fact store (FactDeclared table) kind none same = absurd (let some : Some table ≡ None = same in cc)
declares-fact store (DimensionDeclared table) kind none same = cc kind
declares-fact store (Loaded table rows) kind none same = cc kind
declares-fact store (Ended positions) kind none same = cc kind

-- so a statement that leaves the tables as they are does not declare it
pub declares-none : UndeclaredLaw → (parts : CoreParts) (statement : Statement) (kind : ChangeKind) (reply : Reply) (tables : KeyedStore)
    → IsCore parts → Follows {E = ApplyFault} parts.tables tables (Ok (Changed kind reply)) (outcome_of (plain parts.tables) statement)
    → tables ≡ parts.tables → kind ≢ DeclaresFact
declares-none law parts statement kind reply tables core follows same declares =
    declares-fact (plain parts.tables) change.one (sym change.same ∙ declares) none
    (ap (λ (store : Store). store.schema.fact) (sym makes ∙ ap plain same) ∙ none)
  where
    change : IsChange (outcome_of (plain parts.tables) statement).change kind
    change = some-change (outcome_of (plain parts.tables) statement).change kind follows.1

    none : parts.tables.schema.fact ≡ None
    none = undeclared-before law parts statement kind reply tables core follows declares

    makes : plain tables ≡ after_change (plain parts.tables) change.one
    makes = follows.2 ∙ ap (λ (one : Option Change). option_map_or (after_change (plain parts.tables)) one (plain parts.tables)) change.is

-- and then the set of the filters stays
filters-stay : (kind : ChangeKind) (parts : CoreParts) (lives : Lives) → kind ≢ DeclaresFact → (with_filters_for kind parts).lives ≡ lives
    → lives.filters ≡ parts.lives.filters
filters-stay DeclaresFact parts lives never made = absurd (never refl)
filters-stay other parts lives never made = ap (λ (lives : Lives). lives.filters) (sym made)

-- where the tables are lent, a statement that changes them leaves them and the filters as they are
pub changed-stays : UndeclaredLaw → (parts : CoreParts) (statement : Statement) (kind : ChangeKind) (reply : Reply) (tables : KeyedStore)
    (lives : Lives) (are_lent : Bool) → IsCore parts
    → Follows {E = ApplyFault} parts.tables tables (Ok (Changed kind reply)) (outcome_of (plain parts.tables) statement)
    → (IsTrue are_lent → tables ≡ parts.tables) → (with_filters_for kind (record parts { tables = tables })).lives ≡ lives
    → StayLent are_lent parts tables lives
changed-stays law parts statement kind reply tables lives are_lent core follows stay made lent = (
  stay lent,
  filters-stay kind (record parts { tables = tables }) lives (declares-none law parts statement kind reply tables core follows (stay lent)) made,
)
