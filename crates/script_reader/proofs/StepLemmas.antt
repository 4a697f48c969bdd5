-- The statements that a reader gives are the first of what it was fed, however that was cut.
use Rattle.std.proofs.Common.{◌≡◌, ℕ, zero, suc, ◌+◌, ◌-◌, Bool, true, false, List, [], ◌∷◌, ◌++◌, length, take, refl, sym, ap, subst, ◌∙◌, arith, append_assoc}
use Rattle.std.specs.Prelude.{min}
use Rattle.std.proofs.lemmas.List.{take_all}
use Rattle.script_reader.specs.declared.reader.TheConstants.{SCRIPT_LIMIT}
use Rattle.script_reader.specs.Script.{statements_of}
use Rattle.script_reader.specs.Reading.{Reading, no_reading, after_piece}
use Rattle.script_reader.specs.Steps.{ReaderStep, Fed, Taken, Passed, Steps, pieces_joined, taken_in, StatementsComeInOrder}

-- no bytes have no first ones
take_none : (n : ℕ) → take {A = ℕ} n [] ≡ []
take_none n = take_all n [] (omega arith)

-- the first bytes of two lists
take-append : (n : ℕ) (xs ys : List ℕ) → take n (xs ++ ys) ≡ take n xs ++ take (n - length xs) ys
take-append zero xs ys = let none : 0 - length xs ≡ 0 = omega arith in rw none refl
take-append (suc n) [] ys = let all : suc n - 0 ≡ suc n = omega arith in rw all refl
take-append (suc n) (x ∷ xs) ys =
    let one : suc n - suc (length xs) ≡ n - length xs = omega arith in rw one (ap (λ bytes. x ∷ bytes) (take-append n xs ys))

-- how many bytes there is room for behind a piece
room_behind : (limit fed len : ℕ) → limit - min (fed + len) (limit + 1) ≡ limit - fed - len
room_behind limit fed len = omega arith

-- a piece, and then the bytes of the later ones
fed_then : (limit fed : ℕ) (waiting piece joined more : List ℕ)
    → waiting ++ (take (limit - fed) (piece ++ joined) ++ more)
    ≡ (waiting ++ take (limit - fed) piece) ++ (take (limit - min (fed + length piece) (limit + 1)) joined ++ more)
fed_then limit fed waiting piece joined more =
    rw (
      room_behind limit fed (length piece),
      take-append (limit - fed) piece joined,
      append_assoc (take (limit - fed) piece) (take (limit - fed - length piece) joined) more,
      append_assoc waiting (take (limit - fed) piece) (take (limit - fed - length piece) joined ++ more),
    ) refl

-- from any reader that has not ended
from_reading : (steps : List ReaderStep) (old new : Reading) → old.ended ≡ false → Steps old steps new → (more : List ℕ) (last : Bool)
    → statements_of last (old.waiting ++ (take (SCRIPT_LIMIT - old.fed) (pieces_joined steps) ++ more))
    ≡ taken_in steps ++ statements_of last (new.waiting ++ more)
from_reading [] old new going same more last =
    rw (take_none (SCRIPT_LIMIT - old.fed), ap (λ reading. reading.waiting) same) refl
from_reading (Fed piece ∷ steps) old new going (between, step, rest) more last =
    ap (statements_of last) (fed_then SCRIPT_LIMIT old.fed old.waiting piece (pieces_joined steps) more)
    ∙ from_reading steps (after_piece old piece) new going (subst (λ reading. Steps reading steps new) step.1 rest) more last
from_reading (Taken statement ∷ steps) old new going (between, step, rest) more last =
    let same_fed : old.fed ≡ between.fed = sym step.2.0 in
    let still : between.ended ≡ false = step.2.1 ∙ going in
    step.1 (take (SCRIPT_LIMIT - old.fed) (pieces_joined steps) ++ more) last (λ e. let is_end : old.ended ≡ true = e in cc)
    ∙ ap (λ fed. statement ∷ statements_of last (between.waiting ++ (take (SCRIPT_LIMIT - fed) (pieces_joined steps) ++ more))) same_fed
    ∙ ap (λ statements. statement ∷ statements) (from_reading steps between new still rest more last)
from_reading (Passed ∷ steps) old new going (between, step, rest) more last =
    let same_fed : old.fed ≡ between.fed = sym step.2.0 in
    let still : between.ended ≡ false = step.2.1 ∙ going in
    sym (step.1 (take (SCRIPT_LIMIT - old.fed) (pieces_joined steps) ++ more) last (λ e. let is_end : old.ended ≡ true = e in cc))
    ∙ ap (λ fed. statements_of last (between.waiting ++ (take (SCRIPT_LIMIT - fed) (pieces_joined steps) ++ more))) same_fed
    ∙ from_reading steps between new still rest more last

-- so from one that was fed nothing
pub come_in_order : StatementsComeInOrder
come_in_order steps new run more last = from_reading steps no_reading new refl run more last
