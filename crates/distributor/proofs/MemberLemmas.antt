-- Which versions are for a slot.
use Rattle.std.proofs.Common.{◌≡◌, ℕ, zero, suc, List, [], ◌∷◌, ◌++◌, ◌==◌, Bool, true, false, cond, length, get_or, refl, ap, sym, ◌∙◌, arith, inl, inr, ◌↔◌, subst}
use Rattle.std.specs.Prelude.{Some, slice_get, Contains}
use Rattle.std.specs.Int.{bit_at}
use Rattle.std.proofs.lemmas.Bool.{eqb-true}
use Rattle.std.proofs.lemmas.List.Elements.{Contains-append_left, Contains-append_right, Contains-append_cases}
use Rattle.bit_words.specs.Sets.{Has}
use Rattle.fact_versions.specs.declared.version.Version.{Version}
use Rattle.distributor.specs.Folded.{versions_for}
use Rattle.distributor.proofs.VersionLemmas.{first_of, versions_for-append, versions_for-one}

-- a version stands in a row that has the bit of a slot
abbrev pub StandsFor : (slot : ℕ) → List ℕ → List Version → Version → Type 0
StandsFor slot bits versions version = (row : ℕ) × (slice_get versions row ≡ Some version) × Has (get_or bits row 0) slot

-- a version that is the one, if that is there
only_one : (t : Bool) (first version : Version) → Contains (cond t (first ∷ []) []) version → (t ≡ true) × (first ≡ version)
only_one true first version (zero, inside, same) = (refl, same)
only_one true first version (suc k, inside, same) = absurd (omega arith)
only_one false first version (k, inside, same) = absurd (omega arith)

-- a test for 1
one_from_test : (bit : ℕ) → (bit == 1) ≡ true → bit ≡ 1
one_from_test bit test = eqb-true bit 1 test

stands_for : (slot : ℕ) (bits : List ℕ) (versions : List Version) (version : Version) → length bits ≡ length versions
    → Contains (versions_for slot bits versions) version → StandsFor slot bits versions version
stands_for slot [] [] version same (k, inside, is) = absurd (omega arith)
stands_for slot [] (first ∷ versions) version same has = absurd (omega arith)
stands_for slot (word ∷ bits) [] version same has = absurd (omega arith)
stands_for slot (word ∷ bits) (first ∷ versions) version same has =
    let P : List Version → Type 0 = λ l. Contains l version in
    elim (Contains-append_cases (cond (bit_at word slot == 1) (first ∷ []) []) (versions_for slot bits versions) version (subst P (first_of slot word bits first versions) has)) [
      | inl here ↦ let it = only_one (bit_at word slot == 1) first version here in (zero, ap Some it.1, one_from_test (bit_at word slot) it.0)
      | inr there ↦ let it = stands_for slot bits versions version (omega arith) there in (suc it.0, it.1, it.2)
    ]

is_for : (slot : ℕ) (bits : List ℕ) (versions : List Version) (version : Version) → length bits ≡ length versions
    → (row : ℕ) → slice_get versions row ≡ Some version → Has (get_or bits row 0) slot → Contains (versions_for slot bits versions) version
is_for slot bits [] version same row found has = absurd (cc)
is_for slot [] (first ∷ versions) version same row found has = absurd (omega arith)
is_for slot (word ∷ bits) (first ∷ versions) version same zero found has =
    let P : List Version → Type 0 = λ l. Contains l version in
    let is : first ≡ version = cc in
    let one : first ∷ [] ≡ cond (bit_at word slot == 1) (first ∷ []) [] = ap (λ b. cond (b == 1) (first ∷ []) []) (sym has) in
    subst P (sym (first_of slot word bits first versions))
    (Contains-append_left (cond (bit_at word slot == 1) (first ∷ []) []) (versions_for slot bits versions) version
    (subst P one (zero, omega arith, is)))
is_for slot (word ∷ bits) (first ∷ versions) version same (suc row) found has =
    let P : List Version → Type 0 = λ l. Contains l version in
    subst P (sym (first_of slot word bits first versions))
    (Contains-append_right (cond (bit_at word slot == 1) (first ∷ []) []) (versions_for slot bits versions) version
    (is_for slot bits versions version (omega arith) row found has))

-- a version is for a slot where it stands in a row that has its bit
pub for_slot : (slot : ℕ) (bits : List ℕ) (versions : List Version) (version : Version) → length bits ≡ length versions
    → Contains (versions_for slot bits versions) version ↔ StandsFor slot bits versions version
for_slot slot bits versions version same =
    (stands_for slot bits versions version same, λ it. is_for slot bits versions version same it.0 it.1 it.2)

-- one row more comes last, if it has the bit
pub for_slot-push : (slot word : ℕ) (bits : List ℕ) (versions : List Version) (version : Version) → length bits ≡ length versions
    → versions_for slot (bits ++ word ∷ []) (versions ++ version ∷ []) ≡ versions_for slot bits versions ++ cond (bit_at word slot == 1) (version ∷ []) []
for_slot-push slot word bits versions version same =
    versions_for-append slot bits (word ∷ []) versions (version ∷ []) same
    ∙ ap (λ l. versions_for slot bits versions ++ l) (versions_for-one slot word version)
