-- The set of the slots of a roster, by its entries.
use Rattle.event_core.proofs.Words.{◌||◌, ◌∙◌, ◌∷◌, ◌≡◌, [], ap, bit_at, Bool, eq-eqb, eqb, false, Has-with, inl, inr, List, list_any, OnRoster, refl, slots_of, sym, true, with_number, ℕ}
use Rattle.std.proofs.Common.{fold, eqb-true}
use Rattle.std.specs.Prelude.{Decides}
use Rattle.std.proofs.lemmas.Bool.Decides.{Decides-eqb, same_from_decides}
use Rattle.std.proofs.lemmas.Nat.Bits.{bit_at-zero}

-- a set with a slot more
bit-with : (set one slot : ℕ) → eqb (bit_at (with_number set one) slot) 1 ≡ (eqb (bit_at set slot) 1 || eqb one slot)
bit-with set one slot = by_test (eqb (bit_at set slot) 1) refl
  where
    other : eqb (bit_at set slot) 1 ≡ false → Decides (eqb one slot) (bit_at (with_number set one) slot ≡ 1)
    other none = (
      (λ same. (Has-with set one slot).1 (inr (sym (eqb-true one slot same)))),
      (λ has. elim ((Has-with set one slot).0 has) [
        | inl before ↦ absurd (let both : false ≡ true = sym none ∙ eq-eqb (bit_at set slot) 1 before in cc)
        | inr same ↦ eq-eqb one slot (sym same)
      ]),
    )

    by_test : (t : Bool) → eqb (bit_at set slot) 1 ≡ t → eqb (bit_at (with_number set one) slot) 1 ≡ (t || eqb one slot)
    by_test true is = eq-eqb (bit_at (with_number set one) slot) 1 ((Has-with set one slot).1 (inl (eqb-true (bit_at set slot) 1 is)))
    by_test false is = same_from_decides _ _ (Decides-eqb (bit_at (with_number set one) slot) 1) (other is)

-- one of the first two, or one of the rest
either-again : (first next rest : Bool) → ((first || next) || rest) ≡ (first || (next || rest))
either-again true next rest = refl
either-again false next rest = refl

-- a slot is in a set to which those of a roster were put
bit-from : (set slot : ℕ) (roster : List OnRoster)
    → eqb (bit_at (fold (λ slots (entry : OnRoster). with_number slots entry.slot) set roster) slot) 1
    ≡ (eqb (bit_at set slot) 1 || list_any (λ entry. eqb entry.slot slot) roster)
bit-from set slot [] = sym (none-more (eqb (bit_at set slot) 1))
  where
    none-more : (t : Bool) → (t || false) ≡ t
    none-more true = refl
    none-more false = refl
bit-from set slot (entry ∷ roster) =
    bit-from (with_number set entry.slot) slot roster
    ∙ ap (λ t. t || list_any (λ entry. eqb entry.slot slot) roster) (bit-with set entry.slot slot)
    ∙ either-again (eqb (bit_at set slot) 1) (eqb entry.slot slot) (list_any (λ entry. eqb entry.slot slot) roster)

-- whether a slot is in the set of those of a roster
pub bit-roster : (slot : ℕ) (roster : List OnRoster)
    → eqb (bit_at (slots_of roster) slot) 1 ≡ list_any (λ entry. eqb entry.slot slot) roster
bit-roster slot roster =
    bit-from 0 slot roster ∙ ap (λ bit. eqb bit 1 || list_any (λ entry. eqb entry.slot slot) roster) (bit_at-zero slot)
