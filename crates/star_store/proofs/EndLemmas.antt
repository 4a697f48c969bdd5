-- The versions that a delete ends, one after the other.
use Rattle.std.proofs.Common.{◌≡◌, ℕ, zero, suc, ◌+◌, ◌-◌, ◌<◌, ◌≤◌, Bool, true, false, cond, List, [], ◌∷◌, length, map, Option, Some, slice_get, option_map, refl, ap, sym, subst, ◌∙◌, arith}
use Rattle.std.specs.List.{All, filter, fold, range_with_len}
use Rattle.std.specs.Option.{option_map_or}
use Rattle.std.proofs.lemmas.List.{length-map}
use Rattle.fact_versions.specs.declared.version.Version.{Version}
use Rattle.fact_versions.specs.Ends.{with_end}
use Rattle.star_plan.specs.Test.{Test}
use Rattle.query_meaning.specs.Keyed.{plain_version}
use Rattle.star_store.specs.Deletes.{is_ended_by, positions_of}

-- whether a delete ends the version at a position
abbrev pub ends_at : Option Test → List Version → ℕ → Bool
ends_at condition versions position =
    option_map_or (is_ended_by condition) (slice_get (map plain_version versions) position) false

-- the positions from one on, below a count, of the versions that a delete ends
abbrev pub positions_from : Option Test → List Version → (place count : ℕ) → List ℕ
positions_from condition versions place count = filter (ends_at condition versions) (range_with_len place (count - place))

-- the versions at these positions ended
abbrev pub ended_at : (commit : ℕ) → List Version → List ℕ → List Version
ended_at commit versions positions = fold (λ versions position. with_end versions position commit) versions positions

-- the versions before a place are done: those from there on are as they were, and what is still to be ended makes of the
-- versions and of the count what all positions make of them
pub record IsEndedTo (condition : Option Test) (commit : ℕ) (old now : List Version) (place count ended : ℕ) : Type 0 where
  pub all : count ≡ length old
  pub kept : length now ≡ length old
  pub behind : (k : ℕ) → place ≤ k → slice_get now k ≡ slice_get old k
  pub few : ended ≤ place
  pub left : ended_at commit now (positions_from condition old place count) ≡ ended_at commit old (positions_of condition (map plain_version old))
  pub counted : ended + length (positions_from condition old place count) ≡ length (positions_of condition (map plain_version old))

all_positions : (condition : Option Test) (versions : List Version) (count : ℕ) → count ≡ length versions
    → positions_from condition versions 0 count ≡ positions_of condition (map plain_version versions)
all_positions condition versions count e =
    let same : count - 0 ≡ length (map plain_version versions) = let n = length-map versions plain_version in omega arith in
    ap (λ n. filter (ends_at condition versions) (range_with_len 0 n)) same

pub IsEndedTo-start : (condition : Option Test) (commit : ℕ) (versions : List Version) (count : ℕ) → count ≡ length versions
    → IsEndedTo condition commit versions versions 0 count 0
IsEndedTo-start condition commit versions count e = record {
  all = e;
  kept = refl;
  behind = λ k low. refl;
  few = omega arith;
  left = ap (ended_at commit versions) (all_positions condition versions count e);
  counted = let same = ap length (all_positions condition versions count e) in omega arith;
}

get_map : (versions : List Version) (place : ℕ) → slice_get (map plain_version versions) place ≡ option_map plain_version (slice_get versions place)
get_map [] place = refl
get_map (version ∷ versions) zero = refl
get_map (version ∷ versions) (suc place) = get_map versions place

tested : (condition : Option Test) (versions : List Version) (place : ℕ) (version : Version) → slice_get versions place ≡ Some version
    → ends_at condition versions place ≡ is_ended_by condition (plain_version version)
tested condition versions place version e =
    ap (λ found. option_map_or (is_ended_by condition) found false) (get_map versions place ∙ ap (option_map plain_version) e)

next : (condition : Option Test) (versions : List Version) (place count : ℕ) → place < count
    → positions_from condition versions place count
    ≡ cond (ends_at condition versions place) (place ∷ positions_from condition versions (place + 1) count)
    (positions_from condition versions (place + 1) count)
next condition versions place count low =
    let more : count - place ≡ suc (count - (place + 1)) = omega arith in
    ap (λ n. filter (ends_at condition versions) (range_with_len place n)) more

passed : (condition : Option Test) (versions : List Version) (place count : ℕ) → place < count → ends_at condition versions place ≡ false
    → positions_from condition versions place count ≡ positions_from condition versions (place + 1) count
passed condition versions place count low e =
    next condition versions place count low
    ∙ ap (λ t. cond t (place ∷ positions_from condition versions (place + 1) count) (positions_from condition versions (place + 1) count)) e

taken : (condition : Option Test) (versions : List Version) (place count : ℕ) → place < count → ends_at condition versions place ≡ true
    → positions_from condition versions place count ≡ place ∷ positions_from condition versions (place + 1) count
taken condition versions place count low e =
    next condition versions place count low
    ∙ ap (λ t. cond t (place ∷ positions_from condition versions (place + 1) count) (positions_from condition versions (place + 1) count)) e

-- a version that stays as it is
pub IsEndedTo-passed : (condition : Option Test) (commit : ℕ) (old now : List Version) (place count ended : ℕ) (version : Version)
    → IsEndedTo condition commit old now place count ended → place < count → slice_get now place ≡ Some version
    → is_ended_by condition (plain_version version) ≡ false → IsEndedTo condition commit old now (place + 1) count ended
IsEndedTo-passed condition commit old now place count ended version is low at e =
    let rest = passed condition old place count low (tested condition old place version (sym (is.behind place (omega arith)) ∙ at) ∙ e) in record {
      all = is.all;
      kept = is.kept;
      behind = λ k more. is.behind k (omega arith);
      few = let few = is.few in omega arith;
      left = ap (ended_at commit now) (sym rest) ∙ is.left;
      counted = ap (λ positions. ended + length positions) (sym rest) ∙ is.counted;
    }

length_ended : (versions : List Version) (place commit : ℕ) → length (with_end versions place commit) ≡ length versions
length_ended [] place commit = refl
length_ended (version ∷ versions) zero commit = refl
length_ended (version ∷ versions) (suc place) commit = ap suc (length_ended versions place commit)

behind_ended : (versions : List Version) (place commit k : ℕ) → place < k → slice_get (with_end versions place commit) k ≡ slice_get versions k
behind_ended [] place commit k low = refl
behind_ended (version ∷ versions) zero commit zero low = absurd (omega arith)
behind_ended (version ∷ versions) zero commit (suc k) low = refl
behind_ended (version ∷ versions) (suc place) commit zero low = absurd (omega arith)
behind_ended (version ∷ versions) (suc place) commit (suc k) low = behind_ended versions place commit k (omega arith)

-- a version that is ended
pub IsEndedTo-ended : (condition : Option Test) (commit : ℕ) (old now : List Version) (place count ended : ℕ) (version : Version)
    → IsEndedTo condition commit old now place count ended → place < count → slice_get now place ≡ Some version
    → is_ended_by condition (plain_version version) ≡ true
    → IsEndedTo condition commit old (with_end now place commit) (place + 1) count (ended + 1)
IsEndedTo-ended condition commit old now place count ended version is low at e =
    let rest = taken condition old place count low (tested condition old place version (sym (is.behind place (omega arith)) ∙ at) ∙ e) in record {
      all = is.all;
      kept = length_ended now place commit ∙ is.kept;
      behind = λ k more. behind_ended now place commit k (omega arith) ∙ is.behind k (omega arith);
      few = let few = is.few in omega arith;
      left = ap (ended_at commit now) (sym rest) ∙ is.left;
      counted =
          let more = ap length rest in
          let all = is.counted in omega arith;
    }

none_left : (condition : Option Test) (versions : List Version) (place count : ℕ) → count ≤ place → positions_from condition versions place count ≡ []
none_left condition versions place count over =
    let none : count - place ≡ 0 = omega arith in ap (λ n. filter (ends_at condition versions) (range_with_len place n)) none

-- no version is left
pub IsEndedTo-all : (condition : Option Test) (commit : ℕ) (old now : List Version) (place count ended : ℕ)
    → IsEndedTo condition commit old now place count ended → count ≤ place
    → (now ≡ ended_at commit old (positions_of condition (map plain_version old)))
    × (ended ≡ length (positions_of condition (map plain_version old)))
IsEndedTo-all condition commit old now place count ended is over =
    let none = none_left condition old place count over in
    (ap (ended_at commit now) (sym none) ∙ is.left, (let left = ap length none in let all = is.counted in omega arith))

-- the condition fits the row of each version that is still to come
pub fits_behind : (condition : Option Test) (commit : ℕ) (old now : List Version) (place count ended : ℕ) (version : Version) (P : Version → Type 0)
    → IsEndedTo condition commit old now place count ended → slice_get now place ≡ Some version → place < count → All P old → P version
fits_behind condition commit old now place count ended version P is at low all =
    by_get P old place version (sym (is.behind place (omega arith)) ∙ at) all
  where
    some_by : (x y : Version) → Some x ≡ Some y → x ≡ y
    some_by x y e = cc

    by_get : (P : Version → Type 0) (versions : List Version) (place : ℕ) (version : Version) → slice_get versions place ≡ Some version
        → All P versions → P version
    by_get P [] place version e all = cc
    by_get P (first ∷ versions) zero version e all = subst P (some_by first version e) (all 0 first (omega arith))
    by_get P (first ∷ versions) (suc place) version e all = by_get P versions place version e (λ k d low. all (suc k) d (omega arith))
