-- Versions of which one is written in place.
use Rattle.std.proofs.Common.{◌≡◌, ◌≢◌, ℕ, zero, suc, ◌+◌, ◌<◌, ◌≤◌, List, [], ◌∷◌, length, take, drop, slice_get, slice_index_or, slice_set, option_map, refl, ap, ◌∙◌, arith}
use Rattle.std.proofs.lemmas.List.{length-set}
use Rattle.std.specs.List.{refill}
use Rattle.star_values.proofs.PlaceLemmas.{refill-all}
use Rattle.fact_versions.specs.Ends.{ended_by, with_end}
use Rattle.fact_versions.specs.declared.version.Version.{Version}
use Rattle.star_values.specs.Roomy.{Roomy}

-- the versions after one was read, by index, and written back with this end
abbrev written : List Version → (position commit : ℕ) → Version → List Version
written versions position commit read =
    slice_set versions position (record (slice_index_or versions position read) { end = commit })

-- what is written is the end
written-with_end : (versions : List Version) (position commit : ℕ) (read : Version) → position < length versions
    → written versions position commit read ≡ with_end versions position commit
written-with_end [] position commit read within = absurd (omega arith)
written-with_end (version ∷ versions) zero commit read within = refl
written-with_end (version ∷ versions) (suc position) commit read within =
    ap (λ rest. version ∷ rest) (written-with_end versions position commit read (omega arith))

-- a list with room that lent its members ends with that end, and its room stays
pub lent-with_end : (inside now : Roomy Version) (members : List Version) (position commit : ℕ) (read : Version)
    → inside ≡ now → members ≡ inside.items → position < length inside.items
    → ◌≡◌ {A = Roomy Version}
    (record { items = refill (length inside.items) inside.items (written members position commit read); room = inside.room })
    (record { items = with_end now.items position commit; room = now.room })
lent-with_end inside now members position commit read view same within =
    let all : length (written inside.items position commit read) ≡ length inside.items = length-set _ _ _ in
    let items : refill (length inside.items) inside.items (written members position commit read) ≡ with_end inside.items position commit =
    ap (λ lent. refill (length inside.items) inside.items (written lent position commit read)) same
    ∙ refill-all inside.items (written inside.items position commit read) all
    ∙ written-with_end inside.items position commit read within in
    ap {B = Roomy Version} (λ list. record { items = list; room = inside.room }) items
    ∙ ap {B = Roomy Version} (λ roomy. record { items = with_end roomy.items position commit; room = roomy.room }) view

-- there are as many versions
pub length-with_end : (versions : List Version) (position commit : ℕ) → length (with_end versions position commit) ≡ length versions
length-with_end [] position commit = refl
length-with_end (version ∷ versions) zero commit = refl
length-with_end (version ∷ versions) (suc position) commit = ap suc (length-with_end versions position commit)

-- the version at the position has this end
pub there-with_end : (versions : List Version) (position commit : ℕ)
    → slice_get (with_end versions position commit) position
    ≡ option_map (ended_by commit) (slice_get versions position)
there-with_end [] position commit = refl
there-with_end (version ∷ versions) zero commit = refl
there-with_end (version ∷ versions) (suc position) commit = there-with_end versions position commit

-- every other version is as it was
pub other-with_end : (versions : List Version) (position commit other : ℕ) → other ≢ position
    → slice_get (with_end versions position commit) other ≡ slice_get versions other
other-with_end [] position commit other differ = refl
other-with_end (version ∷ versions) zero commit zero differ = absurd (differ refl)
other-with_end (version ∷ versions) zero commit (suc other) differ = refl
other-with_end (version ∷ versions) (suc position) commit zero differ = refl
other-with_end (version ∷ versions) (suc position) commit (suc other) differ =
    other-with_end versions position commit other (λ same. differ (ap suc same))

-- a front of versions of which one is ended
pub take-with_end : (count : ℕ) (versions : List Version) (position commit : ℕ)
    → take count (with_end versions position commit) ≡ with_end (take count versions) position commit
take-with_end zero versions position commit = refl
take-with_end (suc count) [] position commit = refl
take-with_end (suc count) (version ∷ versions) zero commit = refl
take-with_end (suc count) (version ∷ versions) (suc position) commit =
    ap (λ rest. version ∷ rest) (take-with_end count versions position commit)

-- what is left behind a front that the one that is ended is not in
pub drop-with_end : (count : ℕ) (versions : List Version) (position commit : ℕ)
    → drop count (with_end versions (count + position) commit) ≡ with_end (drop count versions) position commit
drop-with_end zero versions position commit = let same : 0 + position ≡ position = omega arith in ap (λ p. with_end versions p commit) same
drop-with_end (suc count) [] position commit = refl
drop-with_end (suc count) (version ∷ versions) position commit =
    let next : suc count + position ≡ suc (count + position) = omega arith in
    ap (λ p. drop (suc count) (with_end (version ∷ versions) p commit)) next ∙ drop-with_end count versions position commit

-- and behind one that it is in
pub drop-with_end_before : (count : ℕ) (versions : List Version) (position commit : ℕ) → position < count
    → drop count (with_end versions position commit) ≡ drop count versions
drop-with_end_before zero versions position commit before = absurd (omega arith)
drop-with_end_before (suc count) [] position commit before = refl
drop-with_end_before (suc count) (version ∷ versions) zero commit before = refl
drop-with_end_before (suc count) (version ∷ versions) (suc position) commit before =
    drop-with_end_before count versions position commit (omega arith)

-- past the last version none is ended
pub past-with_end : (versions : List Version) (position commit : ℕ) → length versions ≤ position → with_end versions position commit ≡ versions
past-with_end [] position commit past = refl
past-with_end (version ∷ versions) zero commit past = absurd (omega arith)
past-with_end (version ∷ versions) (suc position) commit past =
    ap (λ rest. version ∷ rest) (past-with_end versions position commit (omega arith))
