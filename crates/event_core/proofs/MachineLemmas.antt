-- What a core answers, by its parts.
use Rattle.event_core.proofs.Words.{◌<◌, ◌∙◌, ◌≡◌, [], ap, arith, Contains, CoreParts, empty_seat, eq-eqb, eqb, false, FilterVersion, find-there, get_or, get_or-map, Has, is_open, IsCore, IsSome, known_in, length, length-map, life_of, List, Lives, map, Option, option_map, option_map_or, Pending, Roomy, seat_as, seat_at, state_of, Submitted, subst, sym, version_at, ℕ}
use Rattle.std.proofs.Common.{find}

-- a dimension that is among those of versions has one
version-there : (versions : List FilterVersion) (dimension : ℕ) → Contains (map (λ version. version.filter.dimension) versions) dimension
    → IsSome (version_at versions dimension)
version-there versions dimension there =
    find-there (λ (version : FilterVersion). eqb version.filter.dimension dimension) versions there.0 other within
    (eq-eqb (get_or versions there.0 other).filter.dimension dimension
    (sym (get_or-map (λ (version : FilterVersion). version.filter.dimension) versions there.0 other dimension within) ∙ there.2))
  where
    other : FilterVersion
    other = record { number = 0; filter = record { dimension = 0; complement = 0; stored = [] } }

    within : there.0 < length versions
    within = subst (λ (count : ℕ). there.0 < count) (length-map versions (λ (version : FilterVersion). version.filter.dimension)) there.1

-- a dimension that is a filter has a version
pub has-version : (parts : CoreParts) (dimension : ℕ) → IsCore parts → Has parts.lives.filters dimension
    → IsSome (version_at parts.filters.versions dimension)
has-version parts dimension core is_filter =
    version-there parts.filters.versions dimension
    (subst (λ dimensions. Contains dimensions dimension) (sym core.sound.filters.dimensions)
    ((core.sound.filters.set dimension).0 is_filter))

-- the first query of a seat that may still be answered
abbrev first_open : Lives → List Pending → Option ℕ
first_open lives pending = option_map (λ (one : Pending). one.statement)
    (find (λ (one : Pending). option_map_or is_open (life_of lives one.statement) false) pending)

-- what is found in a seat of the parts is found in that of the state
pub found-pending : (parts : CoreParts) (lives : Lives) (seats : List (Roomy Submitted)) (seat : ℕ) (entry : Roomy Submitted) (found : Option ℕ)
    → lives ≡ parts.lives → map (λ one. one.items) seats ≡ parts.seats → entry ≡ get_or seats seat entry
    → seat < length (state_of parts).seats → found ≡ first_open lives (seat_as (known_in parts.asked) entry.items).pending
    → found ≡ first_open parts.lives (seat_at (state_of parts) seat).pending
found-pending parts lives seats seat entry found living same is low test =
    test ∙ ap (λ now. first_open now (seat_as (known_in parts.asked) entry.items).pending) living
    ∙ ap (λ items. first_open parts.lives (seat_as (known_in parts.asked) items).pending) own
    ∙ ap (λ one. first_open parts.lives one.pending)
    (sym (get_or-map (seat_as (known_in parts.asked)) parts.seats seat entry.items empty_seat within))
  where
    within : seat < length parts.seats
    within = subst (λ (count : ℕ). seat < count) (length-map parts.seats (seat_as (known_in parts.asked))) low

    inside : seat < length seats
    inside = let long = length-map seats (λ (one : Roomy Submitted). one.items) in let as_many = ap length same in omega (arith, within)

    own : entry.items ≡ get_or parts.seats seat entry.items
    own = ap (λ (one : Roomy Submitted). one.items) is
        ∙ sym (get_or-map (λ (one : Roomy Submitted). one.items) seats seat entry entry.items inside)
        ∙ ap (λ list. get_or list seat entry.items) same
