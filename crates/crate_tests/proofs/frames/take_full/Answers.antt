use Rattle.std.proofs.Common.{◌++◌, ◌<◌, ◌∙◌, ◌∷◌, ◌≡◌, [], ap, arith, length, List, refl, subst, sym, ℕ}
use Rattle.std.proofs.lemmas.List.{get_or_push, length_push}
use Rattle.frame_pool.specs.Stock.{IsStock, Stock}
use Rattle.crate_tests.proofs.frames.take_full.Goals as goal

-- what was taken is as long as the frames of the pool, where there is room for it
fits : (old new : Stock) (frame : List ℕ) → IsStock old → old ≡ record new { inside = new.inside ++ frame ∷ [] }
    → (length new.inside < new.made) × (length frame ≡ new.words)
fits old new frame stock is = by_stock (subst IsStock is stock)
  where
    by_stock : IsStock (record new { inside = new.inside ++ frame ∷ [] }) → (length new.inside < new.made) × (length frame ≡ new.words)
    by_stock stock =
        let long = length_push new.inside frame in (
          omega (arith, stock.0),
          sym (ap length (get_or_push new.inside frame [] (length new.inside) refl))
              ∙ stock.1 (length new.inside) [] (omega arith),
        )

pub returns-in-Some-clause-room : goal.returns-in-Some-clause-room
returns-in-Some-clause-room c =
    (fits c.args.pool.now c.take.new.self c.in-Some.frame c.take.ensures.stock c.in-Some.ensures.taken).0

pub returns-in-Some-clause-long : goal.returns-in-Some-clause-long
returns-in-Some-clause-long c =
    c.fill.ensures ∙ (fits c.args.pool.now c.take.new.self c.in-Some.frame c.take.ensures.stock c.in-Some.ensures.taken).1

pub returns-in-Some-clause-words : goal.returns-in-Some-clause-words
returns-in-Some-clause-words c = sym (ap (λ (stock : Stock). stock.words) c.in-Some.ensures.taken)
