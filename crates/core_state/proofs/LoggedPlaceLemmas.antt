-- The positions that a commit ended are told by the versions that it ended.
use Rattle.core_state.proofs.Words.{◌++◌, ◌+◌, ◌<◌, ◌==◌, ◌∙◌, ◌∷◌, ◌≡◌, ◌≢◌, ◌≤◌, [], All, All-head, All-tail, all_pairs_tail, AllPairs, ap, arith, Bool, false, filter, IfSome, length, length-append, List, option_map_or, PlainVersion, positions_ended_by, range_with_len, refl, slice_get, still_live, subst, suc, sym, true, versions_by, with_end, with_ends, zero, ℕ}
use Rattle.std.specs.Prelude.{◌||◌}
use Rattle.std.proofs.lemmas.List.Elements.{filter_agree}
use Rattle.star_values.specs.declared.value.Value as cell
use Rattle.core_state.proofs.LoggedNumberLemmas.{ascends-by, has, kept-of-longer, kept-of-range, next-number, other-number, same-number}

-- whether a commit ended the version at a position
abbrev pub is_ended_at : (commit : ℕ) → List PlainVersion → ℕ → Bool
is_ended_at commit versions position = option_map_or (λ version. version.end == commit) (slice_get versions position) false

end-at : (commit : ℕ) (versions : List PlainVersion) (position other : ℕ) → position < length versions
    → is_ended_at commit (with_end commit versions position) other ≡ (position == other) || is_ended_at commit versions other
end-at commit [] position other low = absurd (omega arith)
end-at commit (version ∷ versions) zero zero low = same-number commit
end-at commit (version ∷ versions) zero (suc other) low =
    ap (λ t. t || is_ended_at commit versions other) (sym (other-number zero (suc other) (λ same. absurd (omega arith))))
end-at commit (version ∷ versions) (suc position) zero low =
    ap (λ t. t || (version.end == commit)) (sym (other-number (suc position) zero (λ same. absurd (omega arith))))
end-at commit (version ∷ versions) (suc position) (suc other) low =
    end-at commit versions position other (omega arith) ∙ ap (λ t. t || is_ended_at commit versions other) (sym (next-number position other))

pub length-ended : (commit : ℕ) (versions : List PlainVersion) (position : ℕ) → length (with_end commit versions position) ≡ length versions
length-ended commit [] position = refl
length-ended commit (version ∷ versions) zero = refl
length-ended commit (version ∷ versions) (suc position) = ap suc (length-ended commit versions position)

pub length-all-ended : (commit : ℕ) (versions : List PlainVersion) (positions : List ℕ)
    → length (with_ends commit versions positions) ≡ length versions
length-all-ended commit versions [] = refl
length-all-ended commit versions (position ∷ positions) =
    length-all-ended commit (with_end commit versions position) positions ∙ length-ended commit versions position

either-way : (a b c : Bool) → (a || (b || c)) ≡ ((b || a) || c)
either-way true true c = refl
either-way true false c = refl
either-way false true c = refl
either-way false false c = refl

ends-at : (commit : ℕ) (versions : List PlainVersion) (positions : List ℕ) (other : ℕ) → All (λ position. position < length versions) positions
    → is_ended_at commit (with_ends commit versions positions) other ≡ has positions other || is_ended_at commit versions other
ends-at commit versions [] other low = refl
ends-at commit versions (position ∷ positions) other low =
    ends-at commit (with_end commit versions position) positions other
    (subst (λ n. All (λ p. p < n) positions) (sym (length-ended commit versions position)) (All-tail (λ p. p < length versions) position positions low))
    ∙ ap (λ t. has positions other || t) (end-at commit versions position other (All-head (λ p. p < length versions) position positions low))
    ∙ either-way (has positions other) (position == other) (is_ended_at commit versions other)

none-ended : (commit : ℕ) (versions : List PlainVersion) (position : ℕ) → All (λ version. version.end ≢ commit) versions
    → is_ended_at commit versions position ≡ false
none-ended commit [] position others = refl
none-ended commit (version ∷ versions) zero others =
    other-number version.end commit (All-head (λ v. v.end ≢ commit) version versions others)
none-ended commit (version ∷ versions) (suc position) others =
    none-ended commit versions position (All-tail (λ v. v.end ≢ commit) version versions others)

or-false : (a : Bool) → (a || false) ≡ a
or-false true = refl
or-false false = refl

-- the positions of a delete are told by its commit
pub positions-new : (commit : ℕ) (versions : List PlainVersion) (positions : List ℕ) → All (λ version. version.end ≢ commit) versions
    → All (λ position. position < length versions) positions → AllPairs (λ position later. position < later) positions
    → positions_ended_by commit (with_ends commit versions positions) ≡ positions
positions-new commit versions positions others low ascending =
    let ended = with_ends commit versions positions in
    let count : length ended ≡ length versions = length-all-ended commit versions positions in
    let limit : length versions ≡ 0 + length ended = omega arith in
    kept-of-range (is_ended_at commit ended) (length ended) 0 positions
    (ascends-by 0 (0 + length ended) positions ascending (λ k d within. omega arith) (subst (λ n. All (λ p. p < n) positions) limit low))
    (λ x above. ends-at commit versions positions x low
    ∙ ap (λ t. has positions x || t) (none-ended commit versions x others) ∙ or-false (has positions x))

-- Changes that come later.

end-elsewhere : (commit later : ℕ) (versions : List PlainVersion) (position other : ℕ) → 0 < commit → commit < later
    → IfSome (slice_get versions position) (λ version. version.end ≡ 0)
    → is_ended_at commit (with_end later versions position) other ≡ is_ended_at commit versions other
end-elsewhere commit later [] position other first low live = refl
end-elsewhere commit later (version ∷ versions) zero zero first low live =
    other-number later commit (λ same. absurd (omega arith)) ∙ sym (other-number version.end commit (λ same. absurd (omega arith)))
end-elsewhere commit later (version ∷ versions) zero (suc other) first low live = refl
end-elsewhere commit later (version ∷ versions) (suc position) zero first low live = refl
end-elsewhere commit later (version ∷ versions) (suc position) (suc other) first low live =
    end-elsewhere commit later versions position other first low live

ends-elsewhere : (commit later : ℕ) (versions : List PlainVersion) (positions : List ℕ) (other : ℕ) → 0 < commit → commit < later
    → All (λ position. IfSome (slice_get versions position) (λ version. version.end ≡ 0)) positions → AllPairs ◌≢◌ positions
    → is_ended_at commit (with_ends later versions positions) other ≡ is_ended_at commit versions other
ends-elsewhere commit later versions [] other first low live apart = refl
ends-elsewhere commit later versions (position ∷ positions) other first low live apart =
    ends-elsewhere commit later (with_end later versions position) positions other first low
    (still_live later versions position positions apart live) (all_pairs_tail ◌≢◌ position positions apart)
    ∙ end-elsewhere commit later versions position other first low
    (All-head (λ p. IfSome (slice_get versions p) (λ version. version.end ≡ 0)) position positions live)

-- a later delete leaves the positions that a commit ended
pub positions-other-ends : (commit later : ℕ) (versions : List PlainVersion) (positions : List ℕ) → 0 < commit → commit < later
    → All (λ position. IfSome (slice_get versions position) (λ version. version.end ≡ 0)) positions → AllPairs ◌≢◌ positions
    → positions_ended_by commit (with_ends later versions positions) ≡ positions_ended_by commit versions
positions-other-ends commit later versions positions first low live apart =
    let ended = with_ends later versions positions in
    ap (λ n. filter (is_ended_at commit ended) (range_with_len 0 n)) (length-all-ended later versions positions)
    ∙ filter_agree (is_ended_at commit ended) (is_ended_at commit versions)
    (λ x. ends-elsewhere commit later versions positions x first low live apart) (range_with_len 0 (length versions))

live-loaded : (commit later : ℕ) (rows : List (List cell.Value)) (position : ℕ) → 0 < commit
    → is_ended_at commit (versions_by later rows) position ≡ false
live-loaded commit later [] position first = refl
live-loaded commit later (row ∷ rows) zero first = other-number 0 commit (λ same. absurd (omega arith))
live-loaded commit later (row ∷ rows) (suc position) first = live-loaded commit later rows position first

loaded-elsewhere : (commit later : ℕ) (versions : List PlainVersion) (rows : List (List cell.Value)) (position : ℕ) → 0 < commit
    → is_ended_at commit (versions ++ versions_by later rows) position ≡ is_ended_at commit versions position
loaded-elsewhere commit later [] rows position first = live-loaded commit later rows position first
loaded-elsewhere commit later (version ∷ versions) rows zero first = refl
loaded-elsewhere commit later (version ∷ versions) rows (suc position) first = loaded-elsewhere commit later versions rows position first

none-past : (commit : ℕ) (versions : List PlainVersion) (position : ℕ) → length versions ≤ position
    → is_ended_at commit versions position ≡ false
none-past commit [] position past = refl
none-past commit (version ∷ versions) zero past = absurd (omega arith)
none-past commit (version ∷ versions) (suc position) past = none-past commit versions position (omega arith)

-- versions that are loaded later leave the positions that a commit ended
pub positions-other-rows : (commit later : ℕ) (versions : List PlainVersion) (rows : List (List cell.Value)) → 0 < commit
    → positions_ended_by commit (versions ++ versions_by later rows) ≡ positions_ended_by commit versions
positions-other-rows commit later versions rows first =
    let all : List PlainVersion = versions ++ versions_by later rows in
    filter_agree (is_ended_at commit all) (is_ended_at commit versions) (λ x. loaded-elsewhere commit later versions rows x first)
    (range_with_len 0 (length all))
    ∙ kept-of-longer (is_ended_at commit versions) (length versions) (length all) 0
    (omega (arith, length-append versions (versions_by later rows)))
    (λ x past. none-past commit versions x (omega arith))
