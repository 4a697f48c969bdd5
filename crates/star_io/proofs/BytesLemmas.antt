-- What pieces that were written one after another come to.
use Rattle.std.proofs.Common.{◌≡◌, ℕ, ◌-◌, ◌<◌, List, [], ◌++◌, Option, length, take, drop, refl, sym, ap, ◌∙◌, subst, arith, append_assoc, take-append-drop, length-append}
use Rattle.std.proofs.lemmas.List.{take_rest}
use Rattle.std.proofs.Math.Seq.{take-append_seam}
use Rattle.std.specs.Io.KnownBytes.{Appends, Keeps}
use Rattle.std.proofs.KnownBytes.{Appends-nil, Appends-trans, Appends-kept}
use Rattle.star_io.specs.Transfer.{AppendsFront}

-- all of the text but the rest was appended
pub record Written (a b : Option (List ℕ)) (text rest : List ℕ) : Type 0 where
  pub done : List ℕ
  pub split : text ≡ done ++ rest
  pub appended : Appends a b done

-- nothing is written yet
pub Written-none : (a : Option (List ℕ)) (text : List ℕ) → Written a a text text
Written-none a text = record { done = []; split = refl; appended = Appends-nil a }

-- the front of the rest is written too
pub Written-piece : {a b : Option (List ℕ)} {text rest : List ℕ} (c : Option (List ℕ)) (n : ℕ) → Written a b text rest → Appends b c (take n rest)
    → Written a c text (take (length rest - n) (drop n rest))
Written-piece {a} {b} {text} {rest} c n w more =
    record {
      done = w.done ++ take n rest;
      split =
          w.split ∙ ap (λ l. w.done ++ l) (sym (take-append-drop n rest)) ∙ sym (append_assoc w.done (take n rest) (drop n rest))
          ∙ ap (λ l. (w.done ++ take n rest) ++ l) (sym (take_rest rest n));
      appended = Appends-trans a b c w.done (take n rest) w.appended more;
    }

-- something is left to write, and the sink took nothing more
pub Written-front : {a b : Option (List ℕ)} {text rest : List ℕ} (c : Option (List ℕ)) → Written a b text rest → 0 < length rest → Keeps b c
    → AppendsFront a c text
Written-front {a} {b} {text} {rest} c w left kept =
    let front : take (length w.done) text ≡ w.done = ap (take (length w.done)) w.split ∙ take-append_seam w.done rest in
    (length w.done, omega (arith, ap length w.split, length-append w.done rest), subst (Appends a c) (sym front) (Appends-kept a b c w.done w.appended kept))
